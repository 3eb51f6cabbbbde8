use Rattle.std.proofs.Common.{arith}
use Rattle.node_file.proofs.Whole.{placed_in}
use Rattle.node_file.proofs.opening.reading.binary_of.Goals as goal

-- the place is one in the file, which is short
pub overflow_cast-result : goal.overflow_cast-result
overflow_cast-result c =
    let within = placed_in c.args.bytes.now c.in-Err-Malformed.field-0 c.in-Err-Malformed.offset c.in-Err-Malformed.field-0-is (λ i. omega (arith, c.type_inv.bytes i)) c.in-Err-Malformed.ensures in
    omega (arith, within, c.requires)
