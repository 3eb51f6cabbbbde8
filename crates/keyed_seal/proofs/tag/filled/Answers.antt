use Rattle.std.proofs.Common.{List, ℕ, ◌++◌, length, ap}
use Rattle.std.proofs.lemmas.List.{drop-replicate}
use Rattle.keyed_seal.proofs.tag.filled.Goals as goal

-- behind the bytes stand the zeros that were not written over
pub returns : goal.returns
returns c = rw c.copy_from_slice.ensures.after (ap (λ (rest : List ℕ). c.args.bytes.now ++ rest) (drop-replicate (length c.args.bytes.now) 64 0))
