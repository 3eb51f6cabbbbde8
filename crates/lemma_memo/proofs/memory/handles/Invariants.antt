use Rattle.std.proofs.Common.{◌≡◌, take}
use Rattle.stmt_codec.specs.View.{certificates}
use Rattle.lemma_memo.proofs.memory.handles.Given as goal

abbrev pub invariant-loop-at : goal.invariant-loop-at
invariant-loop-at l = certificates l.out.items ≡ certificates (take l.at l.certs)
