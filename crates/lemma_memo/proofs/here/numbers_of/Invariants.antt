use Rattle.std.proofs.Common.{take}
use Rattle.std.specs.List.{AllZip}
use Rattle.lemma_memo.specs.Kept.{IsMarked}
use Rattle.lemma_memo.proofs.here.numbers_of.Given as goal

abbrev pub invariant-loop-at : goal.invariant-loop-at
invariant-loop-at l = AllZip (IsMarked l.here.items) (take l.at l.places) l.numbers.items
