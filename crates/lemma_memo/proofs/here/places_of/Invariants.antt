use Rattle.std.proofs.Common.{◌≡◌, length, take}
use Rattle.std.specs.List.{AllZip}
use Rattle.lemma_memo.specs.Kept.{IsMarked}
use Rattle.lemma_memo.proofs.here.places_of.Given as goal

abbrev pub invariant-loop-at : goal.invariant-loop-at
invariant-loop-at l = AllZip (IsMarked l.here.items) l.places.items (take l.at l.wanted) × (length l.places.items ≡ l.at)
