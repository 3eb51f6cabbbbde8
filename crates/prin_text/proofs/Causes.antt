-- For which causes a file of lines is refused.
use Rattle.std.proofs.Common.{◌≡◌, ℕ, ◌+◌, Bool, true, false, cond, List, [], ◌∷◌, length, Option, Some, None, Result, Ok, Err, sym, subst, inl, inr}
use Rattle.std.specs.Prelude.{is_some, nat_le}
use Rattle.hex.specs.Hex.{decode_of, decode_sized}
use Rattle.hex.specs.declared.error.FromHexError.{FromHexError}
use Rattle.byte_fields.specs.Steps.{◌>>=◌, with_fault}
use Rattle.byte_fields.proofs.Results.{bind_err, err_is, chosen, chosen_err, with_fault_err}
use Rattle.keyed_seal.specs.Keys.{Entries, key_of}
use Rattle.prin_text.specs.declared.lines.fault.FileCause.{FileCause}
use Rattle.prin_text.specs.declared.lines.fault.FileCause.TheVariants.{FirstLine, Words, Number, Hex, Twice, Limit}
use Rattle.prin_text.specs.declared.lines.fault.FileFault.{FileFault}
use Rattle.prin_text.specs.declared.lines.fault.FileFault.TheVariants.{Line}
use Rattle.prin_text.specs.Fields.{bytes_of_digits, decoded, if_plain, key_of_digits, number_up_to, numbered, numbered_digits, one_number, one_word, some_or, three_words, two_numbers_and_key, two_words}
use Rattle.prin_text.specs.FileLines.{begun, file_makes, first_or, IsFaultOf, key_cause, LineStep, lines_make, unless}
use Rattle.prin_text.specs.Lines.{is_plain, is_skipped}

-- where it is refused, then for a cause of which this holds
abbrev pub Causes : {A : Type 0} → (FileCause → Type 0) → Result A FileCause → Type 0
Causes Has r = (cause : FileCause) → r ≡ Err cause → Has cause

-- where a cause speaks against it, this holds of the cause
abbrev pub IsAgainst : (FileCause → Type 0) → Option FileCause → Type 0
IsAgainst Has None = Unit {0}
IsAgainst Has (Some cause) = Has cause

module _ (Has : FileCause → Type 0) where
  -- ---- steps

  pub then : {A B : Type 0} (r : Result A FileCause) (f : A → Result B FileCause) → Causes Has r → ((x : A) → Causes Has (f x)) → Causes Has (r >>= f)
  then r f first second cause e = elim (bind_err r f cause e) [
    | inl early ↦ first cause early
    | inr x ↦ second x.0 cause x.2
  ]

  pub fine : {A : Type 0} (x : A) → Causes Has (Ok x)
  fine x cause e = absurd cc

  tested : {A : Type 0} (b : Bool) (x : A) (d : FileCause) → Has d → Causes Has (cond b (Ok x) (Err d))
  tested b x d is cause e = subst Has (sym (chosen_err b d cause x e).1) is

  pub or_cause : {A : Type 0} (d : FileCause) (o : Option A) → Has d → Causes Has (some_or d o)
  or_cause {A} d None is cause e = subst Has (err_is A d cause e) is
  or_cause d (Some x) is cause e = absurd cc

  pub chosen_causes : {A : Type 0} (d : FileCause) (b : Bool) (r : Result A FileCause) → Has d → Causes Has r → Causes Has (cond b r (Err d))
  chosen_causes {A} d b r has is cause e = elim (chosen b r (Err d) (Err cause) e) [
    | inl held ↦ is cause held.1
    | inr other ↦ subst Has (err_is A d cause other.1) has
  ]

  pub plain_causes : {A : Type 0} (line : List ℕ) (r : Result A FileCause) → Has Words → Causes Has r → Causes Has (if_plain line r)
  plain_causes line r words is = chosen_causes Words (is_plain line) r words is

  -- ---- what speaks against a line

  pub against : (b : Bool) (cause : FileCause) (rest : Option FileCause) → Has cause → IsAgainst Has rest → IsAgainst Has (cond b (Some cause) rest)
  against true cause rest is others = is
  against false cause rest is others = others

  pub unless_causes : {A : Type 0} (o : Option FileCause) (x : A) → IsAgainst Has o → Causes Has (unless o x)
  unless_causes None x is cause e = absurd cc
  unless_causes {A} (Some d) x is cause e = subst Has (err_is A d cause e) is

  pub key_against : (most : ℕ) (keys : Entries) (n : ℕ) → Has Twice → Has Limit → IsAgainst Has (key_cause most keys n)
  unfolding key_cause
  key_against most keys n twice limit = against (is_some (key_of keys n)) Twice (cond (nat_le most (length keys)) (Some Limit) None) twice (against (nat_le most (length keys)) Limit None limit tt)

  -- ---- fields

  module _ (words : Has Words) (number : Has Number) where
    word_causes : (rest : List ℕ) → Causes Has (one_word rest)
    unfolding one_word
    word_causes rest = tested _ _ Words words

    pair_causes : (rest : List ℕ) → Causes Has (two_words rest)
    unfolding two_words
    pair_causes rest = tested _ _ Words words

    triple_causes : (rest : List ℕ) → Causes Has (three_words rest)
    unfolding three_words
    triple_causes rest = tested _ _ Words words

    number_causes : (most : ℕ) (word : List ℕ) → Causes Has (number_up_to most word)
    unfolding number_up_to
    number_causes most word = tested _ _ Number number

    pub one_causes : (most : ℕ) (rest : List ℕ) → Causes Has (one_number most rest)
    unfolding one_number
    one_causes most rest = then (one_word rest) (number_up_to most) (word_causes rest) (λ word. number_causes most word)

    numbered_causes : (rest : List ℕ) → Causes Has (numbered rest)
    unfolding numbered
    numbered_causes rest = then (two_words rest) _ (pair_causes rest) (λ w. then (number_up_to 4294967295 w.0) _ (number_causes 4294967295 w.0) (λ n. fine (n, w.1)))

    module _ (hex : Has Hex) where
      decoded_causes : (r : Result (List ℕ) FromHexError) → Causes Has (decoded r)
      decoded_causes (Ok bytes) cause e = absurd cc
      decoded_causes (Err d) cause e = subst Has (err_is (List ℕ) Hex cause e) hex

      key_causes : (word : List ℕ) → Causes Has (key_of_digits word)
      unfolding key_of_digits
      key_causes word = decoded_causes (decode_sized word 32)

      bytes_causes : (word : List ℕ) → Causes Has (bytes_of_digits word)
      unfolding bytes_of_digits
      bytes_causes word = decoded_causes (decode_of word)

      pub two_causes : (rest : List ℕ) → Causes Has (two_numbers_and_key rest)
      unfolding two_numbers_and_key
      two_causes rest = then (three_words rest) _ (triple_causes rest) (λ w.
          then (number_up_to 4294967295 w.0) _ (number_causes 4294967295 w.0) (λ m.
          then (number_up_to 4294967295 w.1) _ (number_causes 4294967295 w.1) (λ n.
          then (key_of_digits w.2) _ (key_causes w.2) (λ key. fine (m, n, key)))))

      pub digits_causes : (rest : List ℕ) → Causes Has (numbered_digits rest)
      unfolding numbered_digits
      digits_causes rest = then (numbered rest) _ (numbered_causes rest) (λ x. then (bytes_of_digits x.1) _ (bytes_causes x.1) (λ bytes. fine (x.0, bytes)))

  -- ---- the file

  module _ {A : Type 0} (is_first : List ℕ → Bool) (empty : A) (step : LineStep A) (first : Has FirstLine) (steps : (above : A) (line : List ℕ) → Causes Has (step above line)) where
    abbrev any_step : LineStep (Option A)
    any_step = first_or is_first empty step

    any_causes : (so_far : Option A) (line : List ℕ) → Causes Has (any_step so_far line)
    any_causes None line = tested _ _ FirstLine first
    any_causes (Some above) line = then (step above line) _ (steps above line) (λ more. fine (Some more))

    line_fault : (number : ℕ) (r : Result (Option A) FileCause) (f : FileFault) → Causes Has r → with_fault (λ cause. Line number cause) r ≡ Err f → IsFaultOf Has f
    line_fault number r f is e = let h = with_fault_err (λ cause. Line number cause) r f e in subst (IsFaultOf Has) (sym h.2) (is h.0 h.1)

    lines_fault : (lines : List (List ℕ)) (number : ℕ) (so_far : Option A) (f : FileFault) → lines_make any_step number so_far lines ≡ Err f → IsFaultOf Has f
    lines_fault [] number so_far f e = absurd cc
    lines_fault (line ∷ rest) number so_far f e =
        elim (chosen (is_skipped line) (lines_make any_step (number + 1) so_far rest) (with_fault (λ cause. Line number cause) (any_step so_far line) >>= λ more. lines_make any_step (number + 1) more rest) (Err f) e) [
          | inl skipped ↦ lines_fault rest (number + 1) so_far f skipped.1
          | inr read ↦ elim (bind_err (with_fault (λ cause. Line number cause) (any_step so_far line)) (λ more. lines_make any_step (number + 1) more rest) f read.1) [
            | inl this ↦ line_fault number (any_step so_far line) f (any_causes so_far line) this
            | inr more ↦ lines_fault rest (number + 1) more.0 f more.2
          ]
        ]

    begun_fault : (count : ℕ) (made : Option A) (f : FileFault) → begun count made ≡ Err f → IsFaultOf Has f
    begun_fault count None f e = subst (IsFaultOf Has) (err_is A (Line (count + 1) FirstLine) f e) first
    begun_fault count (Some made) f e = absurd cc

    -- what the lines are refused for is such a cause
    pub makes_fault : (lines : List (List ℕ)) (f : FileFault) → file_makes is_first empty step lines ≡ Err f → IsFaultOf Has f
    makes_fault lines f e = elim (bind_err (lines_make any_step 1 None lines) (begun (length lines)) f e) [
      | inl early ↦ lines_fault lines 1 None f early
      | inr made ↦ begun_fault (length lines) made.0 f made.2
    ]
