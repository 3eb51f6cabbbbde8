use Rattle.std.proofs.Common.{arith}
use Rattle.std.proofs.lemmas.Bool.Decides.{nat_tests}
use Rattle.keyed_seal.proofs.Comparing.{agrees_more, agrees_all}
use Rattle.keyed_seal.proofs.tag.is_same.Goals as goal

-- one more pair of bytes was looked at
pub bytes-preserved : goal.bytes-preserved
bytes-preserved c = agrees_more _ _ _ _ c.bytes.invariant

-- all were, so nothing differed exactly where the bytes are the same
pub returns : goal.returns
returns c =
    let all = agrees_all c.args.made.now c.args.tag.now c.bytes.differing c.bytes.i (omega arith) (omega arith) c.bytes.invariant in
    grind (arith, nat_tests, all.0, all.1)
