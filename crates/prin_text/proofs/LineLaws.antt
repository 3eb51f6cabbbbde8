-- Where a line ends.
use Rattle.std.proofs.Common.{◌≡◌, ◌≢◌, ℕ, zero, suc, ◌+◌, ◌-◌, ◌<◌, ◌≤◌, Bool, true, false, cond, eqb, ltb, not, ◌&&◌, List, [], ◌∷◌, ◌++◌, length, get_or, take, drop, refl, sym, ap, ◌∙◌, arith}
use Rattle.std.specs.Prelude.{slice_range}
use Rattle.std.proofs.lemmas.Bool.{eqb-true, le-ltb, lt-ltb}
use Rattle.std.proofs.lemmas.Bool.Decides.{nat_tests}
use Rattle.std.proofs.lemmas.List.{at_drop_more, at_drop_all}
use Rattle.std.proofs.lemmas.List.Edits.{between_more, length-between}
use Rattle.prin_text.specs.Lines.{lines_after, lines_from, unreturned}

taken : {A : Type 0} (b : Bool) (x y : A) → not b ≡ true → cond b x y ≡ y
taken true x y e = absurd cc
taken false x y e = refl

ended : (b : Bool) → not b ≡ false → b ≡ true
ended true e = refl
ended false e = absurd cc

-- a byte that is no line feed goes on with the line
pub line-byte : (line : List ℕ) (b : ℕ) (rest : List ℕ) → not (eqb b 10) ≡ true → lines_after line (b ∷ rest) ≡ lines_after (line ++ b ∷ []) rest
line-byte line b rest other = taken (eqb b 10) _ _ other

-- the bytes from one place to another are of one line
pub record IsInLine (bytes : List ℕ) (at end : ℕ) : Type 0 where
  pub from : at ≤ end
  pub within : end ≤ length bytes
  pub same : lines_after [] (drop at bytes) ≡ lines_after (slice_range bytes at end) (drop end bytes)

pub begins_line : (bytes : List ℕ) (at : ℕ) → at ≤ length bytes → IsInLine bytes at at
begins_line bytes at within =
    let none : 0 ≡ at - at = omega arith in
    record { from = omega arith; within = within; same = ap (λ n. lines_after (take n (drop at bytes)) (drop at bytes)) none }

pub more_in_line : (bytes : List ℕ) (at end : ℕ) → IsInLine bytes at end → end < length bytes → not (eqb (get_or bytes end 0) 10) ≡ true → IsInLine bytes at (end + 1)
more_in_line bytes at end is lt other = record {
  from = omega (arith, is.from);
  within = omega arith;
  same = is.same ∙ at_drop_more (λ l. lines_after (slice_range bytes at end) l) bytes end 0 lt
      ∙ line-byte (slice_range bytes at end) (get_or bytes end 0) (drop (end + 1) bytes) other
      ∙ ap (λ w. lines_after w (drop (end + 1) bytes)) (sym (between_more bytes at end 0 is.from lt));
}

pub feed_is : (b : ℕ) → not (eqb b 10) ≡ false → b ≡ 10
feed_is b e = eqb-true b 10 (ended (eqb b 10) e)

-- a line that ends before a line feed
pub line_ends : (bytes : List ℕ) (at end : ℕ) → end < length bytes → get_or bytes end 0 ≡ 10 → lines_after [] (drop at bytes) ≡ lines_after (slice_range bytes at end) (drop end bytes)
    → lines_from bytes at ≡ unreturned (slice_range bytes at end) ∷ lines_from bytes (end + 1)
unfolding lines_from
line_ends bytes at end lt is same =
    same ∙ at_drop_more (λ l. lines_after (slice_range bytes at end) l) bytes end 0 lt
    ∙ ap (λ b. lines_after (slice_range bytes at end) (b ∷ drop (end + 1) bytes)) is

-- the last line, without an end
pub last_line : (bytes : List ℕ) (at end : ℕ) → at < end → end ≤ length bytes → length bytes ≤ end → lines_after [] (drop at bytes) ≡ lines_after (slice_range bytes at end) (drop end bytes)
    → lines_from bytes at ≡ slice_range bytes at end ∷ lines_from bytes end
unfolding lines_from
last_line bytes at end some within le same =
    let line = slice_range bytes at end in
    let size : length line ≡ end - at = length-between bytes at end within in
    let whole : ltb 0 (length line) ≡ true = lt-ltb 0 (length line) (omega (arith, size)) in
    same ∙ at_drop_all (λ l. lines_after line l) bytes end le
    ∙ ap (λ b. cond b (line ∷ []) []) whole
    ∙ ap (λ r. line ∷ r) (sym (at_drop_all (λ l. lines_after [] l) bytes end le))

-- ---- a carriage return at the end

-- no byte before another is the last
not_last : (t : Bool) (n : ℕ) → (t && ltb (suc n) 1) ≡ false
not_last true n = le-ltb (suc n) 1 (omega arith)
not_last false n = refl

inner : (b c : ℕ) (l : List ℕ) → unreturned (b ∷ c ∷ l) ≡ b ∷ unreturned (c ∷ l)
inner b c l = ap (λ t. cond t [] (b ∷ unreturned (c ∷ l))) (not_last (eqb b 13) (length l))

pub unreturned-last : (l : List ℕ) (n : ℕ) → length l ≡ suc n → get_or l n 0 ≡ 13 → unreturned l ≡ take n l
unreturned-last [] n len last = absurd (omega (arith, len))
unreturned-last (b ∷ []) zero len last = rw last refl
unreturned-last (b ∷ []) (suc n) len last = absurd (omega (arith, len))
unreturned-last (b ∷ c ∷ l) zero len last = absurd (omega (arith, len))
unreturned-last (b ∷ c ∷ l) (suc n) len last = inner b c l ∙ ap (λ r. b ∷ r) (unreturned-last (c ∷ l) n (omega (arith, len)) last)

one_other : (b : ℕ) → b ≢ 13 → unreturned (b ∷ []) ≡ b ∷ []
one_other b other = grind (arith, nat_tests, other)

pub unreturned-other : (l : List ℕ) (n : ℕ) → length l ≡ suc n → get_or l n 0 ≢ 13 → unreturned l ≡ l
unreturned-other [] n len other = refl
unreturned-other (b ∷ []) zero len other = one_other b other
unreturned-other (b ∷ []) (suc n) len other = absurd (omega (arith, len))
unreturned-other (b ∷ c ∷ l) zero len other = absurd (omega (arith, len))
unreturned-other (b ∷ c ∷ l) (suc n) len other = inner b c l ∙ ap (λ r. b ∷ r) (unreturned-other (c ∷ l) n (omega (arith, len)) other)

pub unreturned-none : (l : List ℕ) → length l ≡ 0 → unreturned l ≡ l
unreturned-none [] len = refl
unreturned-none (b ∷ l) len = absurd (omega (arith, len))
