use Rattle.std.proofs.Common.{◌∙◌}
use Rattle.relay_path.proofs.Taken.{has_is}
use Rattle.relay_path.proofs.domain_draft.has_domain.Goals as goal

pub returns : goal.returns
returns c = λ ds all. c.is_some.ensures ∙ has_is c.args.drafts.now ds c.args.number c.place_of.result all c.place_of.ensures
