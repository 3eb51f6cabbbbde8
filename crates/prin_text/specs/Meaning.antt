-- Which texts are principals, and what they mean, without reading them from left to right.
use Rattle.std.specs.Prelude.{◌≡◌, ◌⊎◌, ℕ, ◌<◌, ◌≤◌, ◌^◌, false, IsTrue, codes}
use Rattle.std.specs.Prelude.{List, [], ◌∷◌, ◌++◌, Some}
use Rattle.std.specs.Fmt.{decimal}
use Rattle.std.specs.List.{list_all}
use Rattle.prin_term.specs.declared.limits.TheConstants.{CERT_NODES, MAX_DEPTH}
use Rattle.prin_term.specs.Principal.{Principal, Key, Name, And, Quoting, InRole, For}
use Rattle.prin_term.specs.Principal.{node_count, depth}
use Rattle.prin_term.specs.Kind.{Kind, pair}
use Rattle.prin_term.specs.Kind as kinds
use Rattle.prin_text.specs.Labels.{Labels, is_label, number_of}
use Rattle.prin_text.specs.Tokens.{is_blank, is_mark, is_word_byte}

-- How a principal is written: an atom or a role with its word, and what stands in parentheses.
pub data Written : Type 0 where
  -- a key or a name, by a word
  Atom : Principal → List ℕ → Written
  -- something in parentheses
  Group : Written → Written
  -- a compound of two
  Pair : Kind → Written → Written → Written
  -- something in the role of this number, by a word
  RoleOf : Written → ℕ → List ℕ → Written

-- the principal that is written
abbrev pub meaning : Written → Principal
meaning (Atom p word) = p
meaning (Group w) = meaning w
meaning (Pair kind a b) = pair kind (meaning a) (meaning b)
meaning (RoleOf a r word) = InRole (meaning a) r

-- the token between the two of a compound
abbrev pub operator : Kind → List ℕ
operator kinds.And = codes "and"
operator kinds.Quoting = codes "|"
operator kinds.For = codes "for"

-- its tokens
abbrev pub tokens_of : Written → List (List ℕ)
tokens_of (Atom p word) = word ∷ []
tokens_of (Group w) = codes "(" ∷ (tokens_of w ++ codes ")" ∷ [])
tokens_of (Pair kind a b) = tokens_of a ++ operator kind ∷ tokens_of b
tokens_of (RoleOf a r word) = tokens_of a ++ codes "as" ∷ word ∷ []

-- it is an atom or stands in parentheses, so that it may stand in a compound
abbrev pub IsOperand : Written → Type 0
IsOperand (Atom p word) = Unit {0}
IsOperand (Group w) = Unit {0}
IsOperand (Pair kind a b) = ⊥
IsOperand (RoleOf a r word) = ⊥

-- the word is the sort with the number, or the text of the number
abbrev pub IsNamed : List (ℕ × List ℕ) → List ℕ → ℕ → List ℕ → Type 0
IsNamed rows sort n word =
    ((n < 2 ^ 32) × (word ≡ sort ++ decimal n))
    ⊎ (IsTrue (is_label word) × (number_of rows word ≡ Some n))

-- the word stands for the key or the name
abbrev pub IsAtom : Labels → Principal → List ℕ → Type 0
IsAtom labels (Key k) word = (k < 2 ^ 32) × (word ≡ codes "key:" ++ decimal k)
IsAtom labels (Name n) word = IsNamed labels.names (codes "name:") n word
IsAtom labels (And a b) word = ⊥
IsAtom labels (Quoting a b) word = ⊥
IsAtom labels (InRole a r) word = ⊥
IsAtom labels (For a b) word = ⊥

-- its words stand for what they should, and compounds within others stand in parentheses
abbrev pub IsProper : Labels → Written → Type 0
IsProper labels (Atom p word) = IsAtom labels p word
IsProper labels (Group w) = IsProper labels w
IsProper labels (Pair kind a b) =
    (IsOperand a × IsOperand b) × (IsProper labels a × IsProper labels b)
IsProper labels (RoleOf a r word) =
    IsOperand a × IsProper labels a × IsNamed labels.roles (codes "role:") r word

-- the bytes do not begin with a byte of a word
abbrev pub BeginsNoWord : List ℕ → Type 0
BeginsNoWord [] = Unit {0}
BeginsNoWord (b ∷ rest) = is_word_byte b ≡ false

-- the token is one, and ends before these bytes: it is a mark, or a word that does not go on
abbrev pub IsTokenBefore : List ℕ → List ℕ → Type 0
IsTokenBefore [] rest = ⊥
IsTokenBefore (b ∷ word) rest =
    (IsTrue (is_mark b) × (word ≡ []))
    ⊎ (IsTrue (list_all is_word_byte (b ∷ word)) × BeginsNoWord rest)

-- the bytes are these tokens, with blanks at both ends and between any two, and with a blank
-- between two words
abbrev pub IsSpaced : List (List ℕ) → List ℕ → Type 0
IsSpaced [] bytes = IsTrue (list_all is_blank bytes)
IsSpaced (token ∷ later) bytes =
    (gap : List ℕ) × (rest : List ℕ) × IsTrue (list_all is_blank gap)
    × (bytes ≡ gap ++ (token ++ rest)) × IsTokenBefore token rest × IsSpaced later rest

-- The bytes are a text of the principal.
pub record IsText (labels : Labels) (p : Principal) (bytes : List ℕ) : Type 0 where
  pub written : Written
  pub proper : IsProper labels written
  pub means : meaning written ≡ p
  pub spaced : IsSpaced (tokens_of written) bytes

-- The bytes are a text of the principal, which is within the limits.
pub record IsTextWithin (labels : Labels) (p : Principal) (bytes : List ℕ) : Type 0 where
  pub text : IsText labels p bytes
  pub nodes_fit : node_count p ≤ CERT_NODES
  pub depth_fits : depth p ≤ MAX_DEPTH
