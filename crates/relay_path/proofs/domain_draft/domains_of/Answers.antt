use Rattle.std.proofs.Common.{◌+◌, List, take, get_or, sym, subst, arith}
use Rattle.std.proofs.lemmas.List.{take_all}
use Rattle.std.proofs.lemmas.Slice.Zip.{AllZip-long}
use Rattle.relay_path.specs.declared.domain.Domain.{Domain}
use Rattle.relay_path.specs.declared.domain_draft.DomainDraft.{DomainDraft}
use Rattle.relay_path.specs.Domains.{DomainKnows}
use Rattle.relay_path.specs.PathFile.{new_domain}
use Rattle.relay_path.specs.PathView.{IsDomainDraft, StandForDomains, StandsForDomain}
use Rattle.relay_path.proofs.Drafts.{one_more, zipped_at}
use Rattle.relay_path.proofs.domain_draft.domains_of.Goals as goal

pub loop-draft-preserved : goal.loop-draft-preserved
loop-draft-preserved c = record {
  stand = λ ds all.
      let drafts = c.args.drafts.now in
      let i = c.loop-draft.draft-index in
      let x = c.draft-item.result in
      let y = get_or ds i (new_domain 0) in
      let stands = subst (λ (k : DomainDraft). IsDomainDraft k y) (sym c.draft-item.is) (zipped_at IsDomainDraft drafts ds i x (new_domain 0) all c.loop-draft-test.true) in
      subst (λ (l : List Domain). StandForDomains l (take (i + 1) ds)) (sym c.in_ok-push.ensures.items)
      (one_more IsDomainDraft StandsForDomain drafts c.loop-draft.domains.items ds i x (new_domain 0) c.in_ok-domain_of.field-0 all c.loop-draft-test.true (c.in_ok-domain_of.ensures y stands) (c.loop-draft.invariant.stand ds all));
}

pub returns : goal.returns
returns c = λ ds all.
    subst (λ (l : List DomainKnows). StandForDomains c.loop-draft.domains.items l) (take_all c.loop-draft.draft-index ds (omega (arith, c.loop-draft-test.false, AllZip-long IsDomainDraft c.args.drafts.now ds all)))
    (c.loop-draft.invariant.stand ds all)
