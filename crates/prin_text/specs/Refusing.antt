-- Which texts are refused, where and why, without reading them from left to right.
use Rattle.std.specs.Prelude.{◌≡◌, ◌⊎◌, ℕ, ◌<◌, ◌≤◌, Bool, false, if◌then◌else◌, IsTrue, codes}
use Rattle.std.specs.Prelude.{List, [], ◌∷◌, ◌++◌, length, drop, map}
use Rattle.prin_term.specs.declared.limits.TheConstants.{CERT_NODES, MAX_DEPTH}
use Rattle.prin_term.specs.Principal.{Principal, node_count, depth}
use Rattle.prin_text.specs.Labels.{Labels, is_label}
use Rattle.prin_text.specs.Meaning.{Written, Atom, Group, Pair, RoleOf, tokens_of}
use Rattle.prin_text.specs.Meaning.{IsOperand, IsProper, IsText}
use Rattle.prin_text.specs.Tokens.{Placed, first_place, tokens_from}
use Rattle.prin_text.specs.Words.{are_digits, has_sign}
use Rattle.prin_text.specs.declared.fault.TextCause.{TextCause}
use Rattle.prin_text.specs.declared.fault.TextCause.TheVariants.{Syntax, Number, UnknownName}
use Rattle.prin_text.specs.declared.fault.TextCause.TheVariants.{TooDeep, TooLarge, Rights, TooMany}

-- digits, with or without a sign in front
abbrev pub is_number : List ℕ → Bool
is_number ds = if has_sign ds then are_digits (drop 1 ds) else are_digits ds

-- the sort with a number, of whatever size
abbrev pub IsNumbered : List ℕ → List ℕ → Type 0
IsNumbered sort word = (ds : List ℕ) × (word ≡ sort ++ ds) × IsTrue (is_number ds)

-- the word may stand where an operand is due, whatever it stands for
abbrev pub IsOperandWord : List ℕ → Type 0
IsOperandWord word =
    IsTrue (is_label word) ⊎ (IsNumbered (codes "key:") word ⊎ IsNumbered (codes "name:") word)

-- the word may stand where a role is due, whatever it stands for
abbrev pub IsRoleWord : List ℕ → Type 0
IsRoleWord word = IsTrue (is_label word) ⊎ IsNumbered (codes "role:") word

-- it is written properly but for what its words stand for
abbrev pub IsShaped : Written → Type 0
IsShaped (Atom p word) = IsOperandWord word
IsShaped (Group w) = IsShaped w
IsShaped (Pair kind a b) = (IsOperand a × IsOperand b) × (IsShaped a × IsShaped b)
IsShaped (RoleOf a r word) = IsOperand a × IsShaped a × IsRoleWord word

-- a principal can begin with these tokens
abbrev pub CanBegin : Labels → List (List ℕ) → Type 0
CanBegin labels front =
    (w : Written) × (more : List (List ℕ)) × IsProper labels w × (tokens_of w ≡ front ++ more)

-- one can begin with them but for what the words stand for
abbrev pub CanStand : List (List ℕ) → Type 0
CanStand front =
    (w : Written) × (more : List (List ℕ)) × IsShaped w × (tokens_of w ≡ front ++ more)

-- these tokens are a principal's
abbrev pub IsComplete : Labels → List (List ℕ) → Type 0
IsComplete labels front = (w : Written) × IsProper labels w × (tokens_of w ≡ front)

-- The token is wrong after those in front: it can't stand there, or it can but stands for nothing,
-- as a number or as a text.
abbrev pub IsWrongToken : Labels → List (List ℕ) → List ℕ → TextCause → Type 0
IsWrongToken labels front token Syntax = CanStand (front ++ token ∷ []) → ⊥
IsWrongToken labels front token Number =
    CanStand (front ++ token ∷ []) × (CanBegin labels (front ++ token ∷ []) → ⊥)
    × (is_label token ≡ false)
IsWrongToken labels front token UnknownName =
    CanStand (front ++ token ∷ []) × (CanBegin labels (front ++ token ∷ []) → ⊥)
    × IsTrue (is_label token)
IsWrongToken labels front token TooDeep = ⊥
IsWrongToken labels front token TooLarge = ⊥
IsWrongToken labels front token Rights = ⊥
IsWrongToken labels front token TooMany = ⊥

-- one is lacking after those in front
abbrev pub IsLacking : Labels → List (List ℕ) → TextCause → Type 0
IsLacking labels front Syntax = IsComplete labels front → ⊥
IsLacking labels front Number = ⊥
IsLacking labels front UnknownName = ⊥
IsLacking labels front TooDeep = ⊥
IsLacking labels front TooLarge = ⊥
IsLacking labels front Rights = ⊥
IsLacking labels front TooMany = ⊥

-- the first of these tokens is wrong after those in front, or lacking
abbrev pub IsWrong : Labels → List (List ℕ) → List Placed → TextCause → Type 0
IsWrong labels front [] cause = IsLacking labels front cause
IsWrong labels front ((at, token) ∷ rest) cause = IsWrongToken labels front token cause

-- The text has a first wrong token: a principal can begin with those in front of it, and it is
-- wrong after them, or lacking.
pub record HasWrong (labels : Labels) (bytes : List ℕ) (offset : ℕ)
    (cause : TextCause) : Type 0 where
  pub front : List Placed
  pub rest : List Placed
  pub tokens : tokens_from bytes 0 ≡ front ++ rest
  pub begins : CanBegin labels (map (λ t. t.1) front)
  pub wrong : IsWrong labels (map (λ t. t.1) front) rest cause
  pub place : offset ≡ first_place rest (length bytes)

-- the text is a principal that is too deep, or else too large
abbrev pub IsOver : Labels → List ℕ → TextCause → Type 0
IsOver labels bytes TooDeep = (p : Principal) × IsText labels p bytes × (MAX_DEPTH < depth p)
IsOver labels bytes TooLarge = (p : Principal) × IsText labels p bytes
    × (depth p ≤ MAX_DEPTH) × (CERT_NODES < node_count p)
IsOver labels bytes Syntax = ⊥
IsOver labels bytes Number = ⊥
IsOver labels bytes UnknownName = ⊥
IsOver labels bytes Rights = ⊥
IsOver labels bytes TooMany = ⊥

-- The text is refused with this cause at this offset.
abbrev pub IsRefused : Labels → List ℕ → ℕ → TextCause → Type 0
IsRefused labels bytes offset cause =
    HasWrong labels bytes offset cause
    ⊎ (IsOver labels bytes cause × (offset ≡ first_place (tokens_from bytes 0) (length bytes)))
