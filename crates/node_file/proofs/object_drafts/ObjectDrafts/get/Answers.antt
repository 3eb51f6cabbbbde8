use Rattle.std.proofs.Common.{List, sym, ap, ◌∙◌}
use Rattle.std.specs.Option.{option_map}
use Rattle.object_core.specs.Objects.{ObjectPlan, object_of}
use Rattle.node_file.specs.Plans.{drafted}
use Rattle.prin_text.proofs.Gathered.{shown}
use Rattle.node_file.proofs.GatheredObjects.{object_of-get}
use Rattle.node_file.proofs.object_drafts.ObjectDrafts.get.Goals as goal

pub returns : goal.returns
returns c =
    shown (λ o. drafted (c.args.number, o)) c.get.result ∙ ap (option_map (λ o. drafted (c.args.number, o))) c.get.ensures.value
    ∙ sym (object_of-get c.self.inside.objects.entries c.args.number) ∙ ap (λ (l : List ObjectPlan). object_of l c.args.number) c.self.view_is
