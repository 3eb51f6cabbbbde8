-- Texts of names and of roles, and tables of them by number.
use Rattle.std.specs.Prelude.{◌≡◌, ◌≢◌, ℕ, ◌+◌, ◌^◌, ◌<◌, ◌≤◌, Bool, false, ◌&&◌, ◌||◌, not}
use Rattle.std.specs.Prelude.{nat_le, ◌==◌, if◌then◌else◌, codes, bytes_eq, IsTrue}
use Rattle.std.specs.Prelude.{All, List, [], ◌∷◌, length}
use Rattle.std.specs.Prelude.{Option, Some, None, is_some}
use Rattle.std.specs.List.{list_all}
use Rattle.byte_fields.specs.Rows as by_number
use Rattle.prin_text.specs.declared.limits.TheConstants.{MAX_TEXT, MAX_NAMES, MAX_ROLES}
use Rattle.prin_text.specs.declared.fault.NamesFault.{NamesFault}
use Rattle.prin_text.specs.declared.fault.NamesFault.TheVariants.{BadText, Twice, Full}

-- a lower case letter
abbrev pub is_letter : ℕ → Bool
is_letter b = nat_le 97 b && nat_le b 122

-- a decimal digit
abbrev pub is_digit : ℕ → Bool
is_digit b = nat_le 48 b && nat_le b 57

-- a letter, a digit, or one of `-`, `_` and `.`
abbrev pub is_label_byte : ℕ → Bool
is_label_byte b = is_letter b || is_digit b || b == 45 || b == 95 || b == 46

-- the text begins with a letter
abbrev pub begins_with_letter : List ℕ → Bool
begins_with_letter [] = false
begins_with_letter (b ∷ rest) = is_letter b

-- the words that have a meaning of their own
abbrev pub is_reserved : List ℕ → Bool
is_reserved t =
    bytes_eq t (codes "and") || bytes_eq t (codes "as") || bytes_eq t (codes "for")
    || bytes_eq t (codes "key") || bytes_eq t (codes "name") || bytes_eq t (codes "role")

-- names and roles may have this text
unfoldable pub is_label : List ℕ → Bool
is_label t =
    begins_with_letter t && nat_le (length t) MAX_TEXT && list_all is_label_byte t
    && not (is_reserved t)

-- numbers, each with its text
abbrev pub Rows : Type 0
Rows = List (ℕ × List ℕ)

-- the texts of names and of roles
pub record Labels : Type 0 where
  pub names : Rows
  pub roles : Rows

-- the text of the first row that has the number
abbrev pub text_of : Rows → ℕ → Option (List ℕ)
text_of rows number = by_number.value_of (λ r. r.0) (λ r. r.1) rows number

-- the number of the first row that has the text
abbrev pub number_of : Rows → List ℕ → Option ℕ
number_of [] text = None
number_of ((n, t) ∷ rest) text = if bytes_eq t text then Some n else number_of rest text

-- the number of the row at place i
abbrev pub number_at : Rows → ℕ → ℕ
number_at rows i = by_number.number_at (λ r. r.0) (0, []) rows i

-- the numbers rise, so no number comes twice
abbrev pub IsAscending : Rows → Type 0
IsAscending rows = by_number.IsAscending (λ r. r.0) (0, []) rows

-- no text comes twice
abbrev pub TextsDiffer : Rows → Type 0
TextsDiffer [] = Unit {0}
TextsDiffer ((n, text) ∷ rest) = (number_of rest text ≡ None) × TextsDiffer rest

-- a number of 32 bits, and a text
abbrev pub IsRow : ℕ × List ℕ → Type 0
IsRow row = (row.0 < 2 ^ 32) × IsTrue (is_label row.1)

-- a table of at most so many texts
pub record IsTable (room : ℕ) (rows : Rows) : Type 0 where
  pub ascending : IsAscending rows
  pub differ : TextsDiffer rows
  pub within : length rows ≤ room
  pub whole : All IsRow rows

-- what is true of all tables of names and roles
pub record AreLabels (labels : Labels) : Type 0 where
  pub names : IsTable MAX_NAMES labels.names
  pub roles : IsTable MAX_ROLES labels.roles

-- why a text is not added to a table that holds at most so many, the first reason that there is
unfoldable pub refusal : ℕ → Rows → ℕ → List ℕ → Option NamesFault
refusal room rows number text =
    if not (is_label text) then Some BadText
    else (if is_some (text_of rows number) || is_some (number_of rows text) then Some Twice
    else (if length rows == room then Some (Full room) else None))

-- the new table has this text for this number, and is otherwise the old one
pub record AddsRow (old new : Rows) (number : ℕ) (text : List ℕ) : Type 0 where
  pub this_text : text_of new number ≡ Some text
  pub other_texts : (n : ℕ) → n ≢ number → text_of new n ≡ text_of old n
  pub this_number : number_of new text ≡ Some number
  pub other_numbers : (t : List ℕ) → t ≢ text → number_of new t ≡ number_of old t
  pub count : length new ≡ length old + 1

-- the row at place i has the number
abbrev pub IsAt : Rows → ℕ → ℕ → Type 0
IsAt rows number i = by_number.IsAt (λ r. r.0) (0, []) rows number i

-- the number would go at place i: smaller numbers before it, and greater ones from it on
abbrev pub IsGapFor : Rows → ℕ → ℕ → Type 0
IsGapFor rows number i = by_number.IsGapFor (λ r. r.0) (0, []) rows number i
