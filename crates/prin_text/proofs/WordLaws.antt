-- Where a word begins and ends, and what digits write.
use Rattle.std.proofs.Common.{◌≡◌, ℕ, ◌+◌, ◌-◌, ◌*◌, ◌<◌, ◌≤◌, Bool, true, false, cond, leb, not, List, [], ◌∷◌, ◌++◌, length, get_or, take, drop, Result, Ok, Err, refl, sym, ap, ◌∙◌, append_assoc, append-nil, arith}
use Rattle.std.proofs.lemmas.Bool.Decides.{nat_tests}
use Rattle.std.proofs.lemmas.List.{at_drop_more, at_drop_all, take_more}
use Rattle.prin_text.proofs.Decimals.{value_after-ge}
use Rattle.prin_text.specs.Tokens.{is_blank}
use Rattle.prin_text.specs.Words.{value_after}
use Rattle.prin_text.specs.declared.lines.fault.FileCause.{FileCause}
use Rattle.prin_text.specs.declared.lines.fault.FileCause.TheVariants.{Number}
use Rattle.prin_text.specs.Lines.{behind_word, front_word, unblanked}

pub blank_off : (line : List ℕ) (at : ℕ) → at < length line → is_blank (get_or line at 0) ≡ true → unblanked (drop (at + 1) line) ≡ unblanked (drop at line)
blank_off line at lt blank =
    sym (at_drop_more unblanked line at 0 lt ∙ ap (λ b. cond b (unblanked (drop (at + 1) line)) (get_or line at 0 ∷ drop (at + 1) line)) blank)

pub begins_here : (line : List ℕ) (at : ℕ) → at < length line → is_blank (get_or line at 0) ≡ false → drop at line ≡ unblanked (drop at line)
begins_here line at lt other =
    at_drop_more (λ l. l) line at 0 lt
    ∙ sym (at_drop_more unblanked line at 0 lt ∙ ap (λ b. cond b (unblanked (drop (at + 1) line)) (get_or line at 0 ∷ drop (at + 1) line)) other)

pub nothing_here : (line : List ℕ) (at : ℕ) → length line ≤ at → drop at line ≡ unblanked (drop at line)
nothing_here line at le = at_drop_all (λ l. l) line at le ∙ sym (at_drop_all unblanked line at le)

off : (b : Bool) → not b ≡ true → b ≡ false
off true e = absurd cc
off false e = refl

on : (b : Bool) → not b ≡ false → b ≡ true
on true e = refl
on false e = absurd cc

-- the first bytes are of the first word
pub record IsInFront (line : List ℕ) (end : ℕ) : Type 0 where
  pub within : end ≤ length line
  pub front : front_word line ≡ take end line ++ front_word (drop end line)
  pub behind : behind_word line ≡ behind_word (drop end line)

pub begins_front : (line : List ℕ) → IsInFront line 0
begins_front line = record { within = omega arith; front = refl; behind = refl }

pub more_in_front : (line : List ℕ) (end : ℕ) → IsInFront line end → end < length line → not (is_blank (get_or line end 0)) ≡ true → IsInFront line (end + 1)
more_in_front line end is lt inner =
    let b = get_or line end 0 in
    let rest = drop (end + 1) line in
    let other = off (is_blank b) inner in
    let front : front_word (drop end line) ≡ b ∷ front_word rest = at_drop_more front_word line end 0 lt ∙ ap (λ t. cond t [] (b ∷ front_word rest)) other in
    let behind : behind_word (drop end line) ≡ behind_word rest = at_drop_more behind_word line end 0 lt ∙ ap (λ t. cond t (b ∷ rest) (behind_word rest)) other in
    record {
      within = omega arith;
      front = is.front ∙ ap (λ l. take end line ++ l) front ∙ sym (append_assoc (take end line) (b ∷ []) (front_word rest)) ∙ ap (λ l. l ++ front_word rest) (sym (take_more line end 0 lt));
      behind = is.behind ∙ behind;
    }

pub front_ends : (line : List ℕ) (end : ℕ) → IsInFront line end → end < length line → not (is_blank (get_or line end 0)) ≡ false → take end line ≡ front_word line
front_ends line end is lt blank =
    let b = get_or line end 0 in
    let rest = drop (end + 1) line in
    let none : front_word (drop end line) ≡ [] = at_drop_more front_word line end 0 lt ∙ ap (λ t. cond t [] (b ∷ front_word rest)) (on (is_blank b) blank) in
    sym (is.front ∙ ap (λ l. take end line ++ l) none ∙ append-nil (take end line))

pub behind_begins : (line : List ℕ) (end : ℕ) → IsInFront line end → end < length line → not (is_blank (get_or line end 0)) ≡ false → drop end line ≡ behind_word line
behind_begins line end is lt blank =
    let b = get_or line end 0 in
    let rest = drop (end + 1) line in
    let all : behind_word (drop end line) ≡ b ∷ rest = at_drop_more behind_word line end 0 lt ∙ ap (λ t. cond t (b ∷ rest) (behind_word rest)) (on (is_blank b) blank) in
    at_drop_more (λ l. l) line end 0 lt ∙ sym (is.behind ∙ all)

pub front_whole : (line : List ℕ) (end : ℕ) → IsInFront line end → length line ≤ end → take end line ≡ front_word line
front_whole line end is le =
    sym (is.front ∙ ap (λ l. take end line ++ l) (at_drop_all front_word line end le) ∙ append-nil (take end line))

pub behind_none : (line : List ℕ) (end : ℕ) → IsInFront line end → length line ≤ end → drop end line ≡ behind_word line
behind_none line end is le = at_drop_all (λ l. l) line end le ∙ sym (is.behind ∙ at_drop_all behind_word line end le)

-- ---- numbers

-- digits that write more than the most so far are refused
pub over : (digits : List ℕ) (number k most : ℕ) → k < length digits → most < number * 10 + (get_or digits k 0 - 48) → value_after number (drop k digits) ≡ value_after 0 digits
    → (let r : Result ℕ FileCause = Err Number in r) ≡ cond (leb (value_after 0 digits) most) (Ok (value_after 0 digits)) (Err Number)
over digits number k most lt large same =
    let next = 10 * number + (get_or digits k 0 - 48) in
    let more : value_after number (drop k digits) ≡ value_after next (drop (k + 1) digits) = at_drop_more (value_after number) digits k 0 lt in
    let far : most < value_after 0 digits = omega (arith, value_after-ge next (drop (k + 1) digits), more, same) in
    grind (arith, nat_tests, far)
