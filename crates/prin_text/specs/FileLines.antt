-- Files of lines: what each line adds to what stands above it, or why it is refused.
use Rattle.std.specs.Prelude.{ℕ, ◌+◌, Bool, ◌&&◌, ◌||◌, ◌==◌, not, nat_le, nat_lt, bytes_eq, codes}
use Rattle.std.specs.Prelude.{if◌then◌else◌, is_some}
use Rattle.std.specs.Prelude.{List, [], ◌∷◌, ◌++◌, length, Option, Some, None, Result, Ok, Err}
use Rattle.keyed_seal.specs.Keys.{Entries, key_of}
use Rattle.byte_fields.specs.Steps.{◌>>=◌, with_fault}
use Rattle.prin_text.specs.Labels.{Rows, is_label, number_of, text_of}
use Rattle.prin_text.specs.declared.lines.fault.FileCause.{FileCause}
use Rattle.prin_text.specs.declared.lines.fault.FileCause.TheVariants.{FirstLine, Text, Twice, Limit}
use Rattle.prin_text.specs.declared.lines.fault.FileFault.{FileFault}
use Rattle.prin_text.specs.declared.lines.fault.FileFault.TheVariants.{Line, Byte, NoMemory}
use Rattle.prin_text.specs.Fields.{keyed, numbered}
use Rattle.prin_text.specs.Lines.{is_skipped, unblanked, word_off}

-- the first of the causes whose test holds
abbrev pub first_of : List (Bool × FileCause) → Option FileCause
first_of [] = None
first_of ((holds, cause) ∷ rest) = if holds then Some cause else first_of rest

-- what is made, unless there is a cause against it
abbrev pub unless : {A : Type 0} → Option FileCause → A → Result A FileCause
unless None x = Ok x
unless (Some cause) x = Err cause

-- the words of the line are this one and the version `1`
unfoldable pub is_first_line : List ℕ → List ℕ → Bool
is_first_line mark line =
    let a = word_off line in
    let b = word_off a.1 in
    bytes_eq a.0 mark && bytes_eq b.0 (codes "1") && nat_lt (length (unblanked b.1)) 1

-- what a line adds to what stands above it
abbrev pub LineStep : Type 0 → Type 0
LineStep A = A → List ℕ → Result A FileCause

-- all lines, one after another, the first of which has this number: what they make of what stands
-- above, or the number and the cause of the first that is refused
abbrev pub lines_make : {A : Type 0} → LineStep A → ℕ → A → List (List ℕ) → Result A FileFault
lines_make step number above [] = Ok above
lines_make step number above (line ∷ rest) =
    if is_skipped line then lines_make step (number + 1) above rest
    else (with_fault (λ cause. Line number cause) (step above line) >>= λ more.
    lines_make step (number + 1) more rest)

-- the first line says what file it is; each behind it adds to what stands above, which is nothing
-- before the first
abbrev pub first_or : {A : Type 0} → (List ℕ → Bool) → A → LineStep A → LineStep (Option A)
first_or is_first empty step None line =
    if is_first line then Ok (Some empty) else Err FirstLine
first_or is_first empty step (Some above) line =
    step above line >>= λ more. Ok (Some more)

-- what a file makes that has so many lines, if one of them was the first
abbrev pub begun : {A : Type 0} → ℕ → Option A → Result A FileFault
begun count None = Err (Line (count + 1) FirstLine)
begun count (Some made) = Ok made

-- what the lines of a file make
abbrev pub file_makes : {A : Type 0} → (List ℕ → Bool) → A → LineStep A → List (List ℕ) →
    Result A FileFault
file_makes is_first empty step lines =
    lines_make (first_or is_first empty step) 1 None lines >>= begun (length lines)

-- where a file is refused at a line, this holds of the cause; it is refused at no byte
abbrev pub IsFaultOf : (FileCause → Type 0) → FileFault → Type 0
IsFaultOf Has (Line line cause) = Has cause
IsFaultOf Has (Byte offset) = ⊥
IsFaultOf Has NoMemory = Unit {0}

-- ---- numbers with texts and with keys

-- why a number is not given the text, where at most so many have one
unfoldable pub text_cause : ℕ → Rows → ℕ → List ℕ → Option FileCause
text_cause most rows number text =
    first_of ((not (is_label text), Text)
    ∷ (is_some (text_of rows number) || is_some (number_of rows text), Twice)
    ∷ (length rows == most, Limit) ∷ [])

-- why a number is not given a key, where at most so many have one
unfoldable pub key_cause : ℕ → Entries → ℕ → Option FileCause
key_cause most keys number =
    first_of ((is_some (key_of keys number), Twice) ∷ (nat_le most (length keys), Limit) ∷ [])

-- the texts with that of a line, where at most so many have one
abbrev pub texts_with : ℕ → Rows → List ℕ → Result Rows FileCause
texts_with most rows rest = numbered rest >>= λ x.
    unless (text_cause most rows x.0 x.1) (rows ++ (x.0, x.1) ∷ [])

-- the keys with that of a line, where at most so many have one
abbrev pub keys_with : ℕ → Entries → List ℕ → Result Entries FileCause
keys_with most keys rest = keyed rest >>= λ x.
    unless (key_cause most keys x.0) (keys ++ (x.0, x.1) ∷ [])
