-- The one text of a principal, of rights and of a list.
use Rattle.std.specs.Prelude.{ℕ, ◌/◌, ◌%◌, Bool, true, false, ◌==◌, codes}
use Rattle.std.specs.Prelude.{List, [], ◌∷◌, ◌++◌, Option, Some, None}
use Rattle.std.specs.Fmt.{decimal}
use Rattle.std.specs.List.{flat_map}
use Rattle.prin_term.specs.Principal.{Principal, Key, Name, And, Quoting, InRole, For}
use Rattle.prin_term.specs.View.{Grant}
use Rattle.prin_text.specs.Labels.{Labels, text_of}

-- the text, or the sort and the number where there is none
abbrev pub named : Option (List ℕ) → List ℕ → ℕ → List ℕ
named None sort number = sort ++ decimal number
named (Some text) sort number = text

-- what stands before a compound: a parenthesis where it stands within another
abbrev pub opening : Bool → List ℕ
opening true = 40 ∷ []
opening false = []

-- what stands after it
abbrev pub closing : Bool → List ℕ
closing true = 41 ∷ []
closing false = []

-- the text of a principal, which stands by itself or within a compound
abbrev pub text_within : Labels → Bool → Principal → List ℕ
text_within labels inside (Key k) = codes "key:" ++ decimal k
text_within labels inside (Name n) = named (text_of labels.names n) (codes "name:") n
text_within labels inside (And a b) =
    opening inside ++ text_within labels true a ++ codes " and " ++ text_within labels true b
    ++ closing inside
text_within labels inside (Quoting a b) =
    opening inside ++ text_within labels true a ++ codes "|" ++ text_within labels true b
    ++ closing inside
text_within labels inside (InRole a r) =
    opening inside ++ text_within labels true a ++ codes " as "
    ++ named (text_of labels.roles r) (codes "role:") r ++ closing inside
text_within labels inside (For a b) =
    opening inside ++ text_within labels true a ++ codes " for " ++ text_within labels true b
    ++ closing inside

-- the text of a principal
abbrev pub principal_text : Labels → Principal → List ℕ
principal_text labels p = text_within labels false p

-- the letter of a right, where it is given
abbrev pub letter_if : Bool → List ℕ → List ℕ
letter_if true letter = letter
letter_if false letter = []

-- the letters of rights, of `r` 1, `w` 2, `c` 4 and `m` 8
abbrev pub rights_text : ℕ → List ℕ
rights_text n =
    letter_if (n % 2 == 1) (codes "r") ++ letter_if (n / 2 % 2 == 1) (codes "w")
    ++ letter_if (n / 4 % 2 == 1) (codes "c") ++ letter_if (n / 8 % 2 == 1) (codes "m")

-- the text of an entry
abbrev pub entry_text : Labels → Grant → List ℕ
entry_text labels e = rights_text e.rights ++ 32 ∷ principal_text labels e.who

-- the text of an entry that follows another
abbrev pub later_text : Labels → Grant → List ℕ
later_text labels e = codes "; " ++ entry_text labels e

-- the text of a list
abbrev pub list_text : Labels → List Grant → List ℕ
list_text labels [] = []
list_text labels (e ∷ rest) = entry_text labels e ++ flat_map (later_text labels) rest
