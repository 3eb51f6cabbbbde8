-- What the program's lines of a node file so far stand for.
use Rattle.std.specs.Prelude.{◌≡◌, List, Result, map}
use Rattle.object_core.specs.Objects.{ObjectPlan}
use Rattle.prin_text.specs.Labels.{Labels}
use Rattle.prin_text.specs.declared.lines.fault.FileCause.{FileCause}
use Rattle.prin_text.specs.declared.lines.line_fault.LineFault.{LineFault}
use Rattle.node_file.specs.declared.limits.TheConstants.{MAX_CHANNELS}
use Rattle.node_file.specs.declared.node_text.draft.Draft as code
use Rattle.prin_text.specs.Held.{HoldsKeys, HoldsRows}
use Rattle.prin_text.specs.LineView.{TakesLine}
use Rattle.node_file.specs.NodeFile.{Draft}
use Rattle.node_file.specs.OpeningView.{common}
use Rattle.node_file.specs.Plans.{HoldsPlans}

-- the program's draft stands for what the lines say: keys, texts and objects are looked up, so
-- their order is not kept
pub record IsDraftOf (draft : code.Draft) (d : Draft) : Type 0 where
  pub settings : draft.settings ≡ d.settings
  pub names : HoldsRows draft.names.names d.labels.names
  pub roles : HoldsRows draft.names.roles d.labels.roles
  pub channels : HoldsKeys draft.channels d.channels
  pub channels_room : draft.channels.room ≡ MAX_CHANNELS
  pub anchors : draft.anchors.items ≡ d.anchors
  pub commons : map common draft.commons.items ≡ d.commons
  pub objects : HoldsPlans draft.objects d.objects

-- an entry of an access list was taken, whatever texts and objects the lines above say: these names
-- hold the texts, and the old objects held the objects
abbrev pub TakesGrant : Labels → (old new : List ObjectPlan) → Result Unit LineFault →
    (Labels → List ObjectPlan → Result (List ObjectPlan) FileCause) → Type 0
TakesGrant names old new result want =
    (labels : Labels) (above : List ObjectPlan) → HoldsRows names.names labels.names →
    HoldsRows names.roles labels.roles → HoldsPlans old above →
    TakesLine HoldsPlans result new (want labels above)
