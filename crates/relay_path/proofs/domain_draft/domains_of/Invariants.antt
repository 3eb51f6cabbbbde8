use Rattle.std.proofs.Common.{List, take}
use Rattle.relay_path.specs.Domains.{DomainKnows}
use Rattle.relay_path.specs.PathView.{AreDomainDrafts, StandForDomains}
use Rattle.relay_path.proofs.domain_draft.domains_of.Given as goal

abbrev pub invariant-loop-draft : goal.invariant-loop-draft
invariant-loop-draft l = record {
  stand : (ds : List DomainKnows) → AreDomainDrafts l.drafts ds → StandForDomains l.domains.items (take l.draft-index ds);
}
