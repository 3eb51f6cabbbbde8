-- The opening of a draft, by what the draft stands for.
use Rattle.std.proofs.Common.{◌≡◌, List, map, refl, sym, ap, subst, ◌∙◌}
use Rattle.std.specs.Option.{unwrap_or}
use Rattle.std.specs.declared.alloc.Global.{Global}
use Rattle.std.specs.declared.vec.Vec.{Vec}
use Rattle.object_core.specs.Objects.{ObjectPlan}
use Rattle.prin_term.specs.declared.term.Anchor.{Anchor}
use Rattle.node_file.specs.declared.node_text.settings.Settings.{Settings}
use Rattle.node_file.specs.Plans.{HoldsPlans}
use Rattle.prin_text.proofs.Added.{holds_what}
use Rattle.node_file.proofs.node_text.draft.opening_with.Goals as goal

pub returns : goal.returns
returns c = λ d s. record {
  node = refl;
  relay_key = refl;
  shards = c.unwrap_or.ensures ∙ ap (λ (t : Settings). unwrap_or t.shards 1) s.settings;
  keep = c.unwrap_or-2.ensures ∙ ap (λ (t : Settings). unwrap_or t.keep 3600) s.settings;
  limit = c.unwrap_or-3.ensures ∙ ap (λ (t : Settings). unwrap_or t.limit 16384) s.settings;
  names = s.names;
  roles = s.roles;
  channels = holds_what c.in_ok-table.field-0 c.args.draft.channels d.channels c.in_ok-table.ensures.holds s.channels;
  anchors = ap (λ (v : Vec Anchor Global). v.items) c.in_ok-new.ensures.ok ∙ s.anchors;
  commons = s.commons;
  objects = subst (λ (l : List ObjectPlan). HoldsPlans l d.objects) (sym c.in_ok-plans.ensures) s.objects;
}
