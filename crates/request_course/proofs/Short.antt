-- A legal journal is not longer than its limit.
use Rattle.std.proofs.Common.{◌≡◌, ◌≤◌, List, [], ◌∷◌, ◌++◌, length, refl, ap, arith, length-append}
use Rattle.agent_core.specs.State.{Plan}
use Rattle.agent_core.specs.Journals.{Entry, IsLegalJournal}

last_of : (e : Entry) (es : List Entry) → (before : List Entry) × (last : Entry) × (e ∷ es ≡ before ++ last ∷ [])
last_of e [] = ([], e, refl)
last_of e (f ∷ fs) = let (before, last, is) = last_of f fs in (e ∷ before, last, ap (λ (l : List Entry). e ∷ l) is)

pub short : (plan : Plan) (journal : List Entry) → IsLegalJournal plan journal → length journal ≤ plan.limit
short plan [] legal = omega arith
short plan (e ∷ es) legal =
    let (before, last, is) = last_of e es in
    omega (arith, (legal before last [] is).room, ap (λ (l : List Entry). length l) is, length-append before (last ∷ []))
