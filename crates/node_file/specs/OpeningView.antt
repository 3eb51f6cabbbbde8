-- What the program's opening means.
use Rattle.std.specs.Prelude.{◌≡◌, ◌⊎◌, ℕ, map, Result, Ok, Err}
use Rattle.std.specs.Arc.{arc_value}
use Rattle.std.specs.declared.sync.Arc.{Arc}
use Rattle.byte_fields.specs.declared.fault.FormatFault.{FormatFault}
use Rattle.byte_fields.specs.declared.fault.FormatFault.TheVariants.{NoMemory}
use Rattle.stmt_codec.specs.declared.cert.Cert.{Cert}
use Rattle.stmt_codec.specs.Certificates.{Certificate, certificate}
use Rattle.prin_text.specs.declared.lines.fault.FileFault.{FileFault}
use Rattle.node_file.specs.declared.opening.Opening as code
use Rattle.node_file.specs.Opening.{Opening}
use Rattle.prin_text.specs.Held.{HoldsKeys, HoldsRows}
use Rattle.prin_text.specs.LineView.{IsReadFor}
use Rattle.node_file.specs.Plans.{HoldsPlans}

-- the certificate that the program shares, wherever it lies
abbrev pub common : {Z : Type 0} → Arc Cert Z → Certificate
common c = certificate (arc_value c).body

-- the program's opening stands for the opening o: texts, channels and objects are looked
-- up, so their order is not kept
pub record Represents (code : code.Opening) (o : Opening) : Type 0 where
  pub node : code.node ≡ o.node
  pub relay_key : code.relay_key ≡ o.relay_key
  pub shards : code.shards ≡ o.shards
  pub keep : code.keep ≡ o.keep
  pub limit : code.limit ≡ o.limit
  pub names : HoldsRows code.names.names o.names.names
  pub roles : HoldsRows code.names.roles o.names.roles
  pub channels : HoldsKeys code.channels o.channels
  pub anchors : (arc_value code.anchors).items ≡ o.anchors
  pub commons : map common code.commons.items ≡ o.commons
  pub objects : HoldsPlans code.objects o.objects

-- one thing for another, each with the offset after it
abbrev pub WithEnd : {X Y : Type 0} → (X → Y → Type 0) → X × ℕ → Y × ℕ → Type 0
WithEnd Stands x y = Stands x.0 y.0 × (x.1 ≡ y.1)

-- what was returned stands for what reading gives, unless memory ran out
abbrev pub Agrees : {X Y : Type 0} → (X → Y → Type 0) → Result X FormatFault
    → Result Y FormatFault → Type 0
Agrees {X} {Y} Stands (Ok x) read = (y : Y) × (read ≡ Ok y) × Stands x y
Agrees Stands (Err e) read = (e ≡ NoMemory) ⊎ (read ≡ Err e)

-- the same of a file's opening and its faults
abbrev pub IsReadAs : Result code.Opening FileFault → Result Opening FileFault → Type 0
IsReadAs result read = IsReadFor Represents result read
