-- An input of whole frames is answered to its end.
use Rattle.std.proofs.Common.{◌≡◌, ℕ, ◌-◌, ◌^◌, ◌<◌, ◌≤◌, List, [], ◌++◌, length, All, None, Some, refl, sym, ap, subst, ◌∙◌, append_assoc, append-nil, arith, inl, inr, length-append}
use Rattle.std.specs.Prelude.{Option}
use Rattle.std.specs.Int.{w32, to_be_bytes}
use Rattle.std.specs.Io.KnownBytes.{Consumes, IsAtEnd}
use Rattle.frame_link.specs.Faults.{Rose}
use Rattle.frame_link.specs.Frames.{framed, in_word, IsTooLong, Splits}
use Rattle.frame_link.specs.declared.outcome.Outcome.{Outcome}
use Rattle.frame_link.specs.declared.outcome.Outcome.TheVariants.{End, Truncated, TooLong, ReadFault, WriteFault, ClockFault, Spent, NoMemory}
use Rattle.frame_link.specs.Served.{Line, FaultCounts, IsServed, HasCauses, IsComplete, CountsCause, StandStill, IsFault}
use Rattle.frame_link.proofs.Splits.{split_once, frames_all}

-- what is left after the bytes that were taken
pub left_after : (xs read : List ℕ) (after : Option (List ℕ)) → Consumes (Some xs) after read → (ys : List ℕ) × (after ≡ Some ys) × (xs ≡ read ++ ys)
left_after xs read None took = absurd took
left_after xs read (Some ys) took = (ys, refl, took)

-- all was taken
pub all_taken : (xs read : List ℕ) (after : Option (List ℕ)) → Consumes (Some xs) after read → IsAtEnd after → xs ≡ read
all_taken xs read None took at_end = absurd took
all_taken xs read (Some ys) took at_end = took ∙ ap (λ (l : List ℕ). read ++ l) at_end ∙ append-nil read

still : (before now : ℕ) → now ≡ before → before < 2 ^ 64 - 1 → Rose before now → ⊥
still before now same below rose = omega (arith, same, below, rose)

whole_split : (payloads : List (List ℕ)) → All (λ p. length p ≤ 65536) payloads → Splits 65536 (framed payloads) payloads []
whole_split payloads within = record { whole = sym (append-nil (framed payloads)); each = within; no_more = inl (in_word (omega arith)) }

small : 65536 < 2 ^ 32
small = omega arith

-- a length above the limit stays one, whatever follows
too_long_on : (rest more : List ℕ) → IsTooLong 65536 rest → IsTooLong 65536 (rest ++ more)
too_long_on rest more long = record { length_word = long.length_word; behind = long.behind ++ more; above = long.above; fits = long.fits; text = ap (λ (l : List ℕ). l ++ more) long.text ∙ append_assoc (to_be_bytes w32 long.length_word) long.behind more }

-- a length word above the limit is no part of a frame
is_long : (n : ℕ) (rest : List ℕ) → rest ≡ to_be_bytes w32 n → 65536 < n → n < 2 ^ 32 → IsTooLong 65536 rest
is_long n rest is above fits = record { length_word = n; behind = []; above = above; fits = fits; text = is ∙ sym (append-nil (to_be_bytes w32 n)) }

module _ {S : Type 0} (answers : S → List ℕ → List ℕ → S → Type 0) (gives_up : S → List ℕ → S → Type 0) (clock : S → ℕ) (limit : ℕ) (l0 l1 : Line S) where
  pub is_complete : (outcome : Outcome) → IsServed answers gives_up limit l0 l1 outcome → HasCauses clock l0 l1 outcome → IsComplete clock limit l0 l1 outcome
  is_complete (End n) c h payloads told within few stood =
      let took = subst (λ x. Consumes x l1.input.told c.taken) told c.took in
      let all : framed payloads ≡ c.taken = all_taken (framed payloads) c.taken l1.input.told took c.ended.2 in
      let same = split_once 65536 c.taken payloads c.payloads [] c.rest small (subst (λ (l : List ℕ). Splits 65536 l payloads []) all (whole_split payloads within)) c.splits in
      inl (ap End (c.ended.1 ∙ ap length (sym same.0)))
  is_complete (Truncated have) c h payloads told within few stood =
      let took = subst (λ x. Consumes x l1.input.told c.taken) told c.took in
      let all : framed payloads ≡ c.taken = all_taken (framed payloads) c.taken l1.input.told took c.ended.3 in
      let same = split_once 65536 c.taken payloads c.payloads [] c.rest small (subst (λ (l : List ℕ). Splits 65536 l payloads []) all (whole_split payloads within)) c.splits in
      absurd (omega (arith, c.ended.1, c.ended.2, ap length same.1))
  is_complete (TooLong n) c h payloads told within few stood =
      let more = left_after (framed payloads) c.taken l1.input.told (subst (λ x. Consumes x l1.input.told c.taken) told c.took) in
      let whole : framed payloads ≡ framed c.payloads ++ (c.rest ++ more.0) = more.2 ∙ ap (λ (l : List ℕ). l ++ more.0) c.splits.whole ∙ append_assoc (framed c.payloads) c.rest more.0 in
      let split : Splits 65536 (framed payloads) c.payloads (c.rest ++ more.0) = record { whole = whole; each = c.splits.each; no_more = inr (too_long_on c.rest more.0 (is_long n c.rest c.ended.0 c.ended.1 c.ended.2)) } in
      let same = split_once 65536 (framed payloads) payloads c.payloads [] (c.rest ++ more.0) small (whole_split payloads within) split in
      absurd (omega (arith, ap length same.1, length-append c.rest more.0, ap length c.ended.0))
  is_complete (Spent n) c h payloads told within few stood =
      let more = left_after (framed payloads) c.taken l1.input.told (subst (λ x. Consumes x l1.input.told c.taken) told c.took) in
      let whole : framed payloads ≡ framed c.payloads ++ (c.rest ++ more.0) = more.2 ∙ ap (λ (l : List ℕ). l ++ more.0) c.splits.whole ∙ append_assoc (framed c.payloads) c.rest more.0 in
      let none : c.rest ++ more.0 ≡ [] = frames_all 65536 payloads c.payloads (c.rest ++ more.0) small within c.splits.each (omega (arith, few, c.ended.1, c.ended.2)) whole in
      absurd (omega (arith, ap length none, length-append c.rest more.0, c.ended.0))
  is_complete ReadFault c h payloads told within few stood = absurd (still l0.input.faults l1.input.faults (ap (λ (f : FaultCounts). f.input) stood.same) stood.input h.1)
  is_complete WriteFault c h payloads told within few stood = absurd (still l0.output.faults l1.output.faults (ap (λ (f : FaultCounts). f.output) stood.same) stood.output h.1)
  is_complete ClockFault c h payloads told within few stood = absurd (still (clock l0.service) (clock l1.service) (ap (λ (f : FaultCounts). f.clock) stood.same) stood.clock h.1)
  is_complete NoMemory c h payloads told within few stood = inr refl

-- counts that stood still caused no fault
pub no_fault : (before after : FaultCounts) (outcome : Outcome) → CountsCause before after outcome → StandStill before after → IsFault outcome → ⊥
no_fault before after ReadFault h stood is = still before.input after.input (ap (λ (f : FaultCounts). f.input) stood.same) stood.input h.1
no_fault before after WriteFault h stood is = still before.output after.output (ap (λ (f : FaultCounts). f.output) stood.same) stood.output h.1
no_fault before after ClockFault h stood is = still before.clock after.clock (ap (λ (f : FaultCounts). f.clock) stood.same) stood.clock h.1
no_fault before after (End n) h stood is = is
no_fault before after (Truncated have) h stood is = is
no_fault before after (TooLong n) h stood is = is
no_fault before after (Spent n) h stood is = is
no_fault before after NoMemory h stood is = is
