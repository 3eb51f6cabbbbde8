-- What the program's operations mean, without where their parts lie in memory.
use Rattle.std.specs.Prelude.{map}
use Rattle.std.specs.Arc.{arc_value}
use Rattle.prin_term.specs.View.{grant}
use Rattle.object_core.specs.declared.operation.Op as code
use Rattle.object_core.specs.declared.operation.Op.TheVariants as variant
use Rattle.object_core.specs.Operation.{Op, Read, Write, SetList, Hold, Discard, Forget, Sweep, Withdraw}

-- the operation that the program's one stands for
abbrev pub operation : code.Op → Op
operation variant.Read = Read
operation (variant.Write content) = Write content.items
operation (variant.SetList list) = SetList (map grant (arc_value list).items)
operation variant.Hold = Hold
operation (variant.Discard digest) = Discard digest
operation (variant.Forget channel) = Forget channel
operation variant.Sweep = Sweep
operation (variant.Withdraw issuer) = Withdraw issuer
