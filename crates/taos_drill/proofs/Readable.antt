-- Which objects a drill's requests are about, and who may read them.
use Rattle.std.proofs.Common.{◌≡◌, ℕ, zero, suc, ◌+◌, ◌<◌, ◌≤◌, true, false, eqb, List, [], ◌∷◌, ◌++◌, map, Some, refl, sym, ap, ◌∙◌, inl, inr, append-nil, arith}
use Rattle.std.specs.List.{range_with_len}
use Rattle.std.proofs.lemmas.Bool.{cases_eq}
use Rattle.std.proofs.lemmas.Bool.Decides.{nat_tests}
use Rattle.object_core.specs.Objects.{ObjectPlan, object_of}
use Rattle.prin_term.specs.Principal.{Key, Name}
use Rattle.prin_term.specs.View.{Grant}
use Rattle.taos_calculus.specs.declared.line.Step.{Step}
use Rattle.taos_calculus.specs.Monitor.{MaySpeak}
use Rattle.taos_calculus.specs.Question.{claim_of}
use Rattle.taos_calculus.specs.Rules.{Says, SpeaksFor, anchored, hand_off, lift, line, said}
use Rattle.taos_drill.specs.Opened.{drill_objects, empty_object, issuer_anchor, reader}
use Rattle.taos_drill.specs.Sent.{drill_certificate, object_for}
use Rattle.taos_drill.specs.Words.{is_even}

-- the anchor gives name 1 the issuer's word, by which it hands itself on to the channel
pub channel_speaks : (channel : ℕ) → MaySpeak (issuer_anchor ∷ []) (claim_of (drill_certificate channel) ∷ []) (Key channel) (Name 1)
channel_speaks channel = record {
  lines =
      line (SpeaksFor (Key 1000) (Name 1)) (Step.Anchor 0) ∷ line (Says (Key 1000) (Key channel) (Name 1)) (Step.Said 0)
      ∷ line (Says (Name 1) (Key channel) (Name 1)) (Step.Lift 1 0) ∷ line (SpeaksFor (Key channel) (Name 1)) (Step.HandOff 2) ∷ [];
  proves = record { follow = (anchored refl, (said refl, (lift refl refl, (hand_off refl, tt)))); last = refl };
}

-- an object of a row is found by its number
in_row : (list : List Grant) (a n c : ℕ) (rest : List ObjectPlan) → a ≤ c → c < a + n → object_of (map (empty_object list) (range_with_len a n) ++ rest) c ≡ Some (empty_object list c)
in_row list a zero c rest from below = absurd (omega (arith, from, below))
in_row list a (suc n) c rest from below = elim (cases_eq a c) [
  | inl same ↦ let here : eqb a c ≡ true = grind (arith, nat_tests, same) in rw here (ap (λ k. Some (empty_object list k)) same)
  | inr other ↦ let there : eqb a c ≡ false = grind (arith, nat_tests, other) in rw there (in_row list (a + 1) n c rest (omega (arith, from, other)) (omega (arith, below)))
]

-- a greater number is not found in it
past_row : (list : List Grant) (a n c : ℕ) (rest : List ObjectPlan) → a + n ≤ c → object_of (map (empty_object list) (range_with_len a n) ++ rest) c ≡ object_of rest c
past_row list a zero c rest past = refl
past_row list a (suc n) c rest past =
    let there : eqb a c ≡ false = grind (arith, nat_tests, past) in
    rw there (past_row list (a + 1) n c rest (omega (arith, past)))

module _ (lanes channel word : ℕ) (few : lanes ≤ 16) (first : 0 < channel) (last : channel ≤ lanes) where
  pub even_object : is_even word ≡ true → object_of (drill_objects lanes) (object_for channel word) ≡ Some (empty_object (reader ∷ []) (object_for channel word))
  even_object even = rw even (in_row (reader ∷ []) 1 lanes channel (map (empty_object []) (range_with_len 101 lanes)) (omega (arith, first)) (omega (arith, last)))

  pub odd_object : is_even word ≡ false → object_of (drill_objects lanes) (object_for channel word) ≡ Some (empty_object [] (object_for channel word))
  odd_object odd =
      let closed = map (empty_object []) (range_with_len 101 lanes) in
      rw odd
      (past_row (reader ∷ []) 1 lanes (100 + channel) closed (omega (arith, few, first))
      ∙ ap (λ (l : List ObjectPlan). object_of l (100 + channel)) (sym (append-nil closed))
      ∙ in_row [] 101 lanes (100 + channel) [] (omega (arith, first)) (omega (arith, last)))
