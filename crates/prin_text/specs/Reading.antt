-- Reading a principal token by token, with the first fault that is met.
use Rattle.std.specs.Prelude.{ℕ, if◌then◌else◌, nat_le, codes, bytes_eq}
use Rattle.std.specs.Prelude.{List, [], ◌∷◌, length, Result, Ok, Err}
use Rattle.prin_term.specs.declared.limits.TheConstants.{CERT_NODES}
use Rattle.prin_term.specs.Principal.{Principal, node_count}
use Rattle.prin_term.specs.Kind.{Kind, And, Quoting, For}
use Rattle.byte_fields.specs.Steps.{◌>>=◌, with_fault}
use Rattle.prin_text.specs.Labels.{Labels}
use Rattle.prin_text.specs.Pieces.{Piece, Built, Deep, joined, in_role}
use Rattle.prin_text.specs.Tokens.{Placed, first_place, tokens_from}
use Rattle.prin_text.specs.Words.{operand_of, role_of}
use Rattle.prin_text.specs.declared.fault.TextCause.TheVariants.{Syntax, TooDeep, TooLarge}
use Rattle.prin_text.specs.declared.fault.TextFault.{TextFault}
use Rattle.prin_text.specs.declared.fault.TextFault.TheVariants.{Bad}

-- where an operand is due: at the start of a principal, or after its first operand and an operator
pub data Pending : Type 0 where
  -- the first operand
  First : Pending
  -- the second operand, after the first
  Second : Piece → Kind → Pending

-- what of a principal was read
pub data Stage : Type 0 where
  -- an operand is due
  Operand : Pending → Stage
  -- one operand stands there
  One : Piece → Stage
  -- a role is due
  Role : Piece → Stage
  -- a compound stands there
  Whole : Piece → Stage

-- what was read of the principals that are open, the innermost first, and of the present one
abbrev pub State : Type 0
State = List Pending × Stage

-- the state after an operand that was due
abbrev pub filled : Pending → Piece → Stage
filled First p = One p
filled (Second a kind) p = Whole (joined kind a p)

-- the state after a parenthesis that ends a principal
abbrev pub ended : ℕ → List Pending → Piece → Result State TextFault
ended at [] p = Err (Bad at Syntax)
ended at (due ∷ stack) p = Ok (stack, filled due p)

-- the token, where an operand is due
unfoldable pub at_operand : Labels → ℕ → List ℕ → List Pending → Pending → Result State TextFault
at_operand labels at token stack due =
    if bytes_eq token (codes "(") then Ok (due ∷ stack, Operand First)
    else (with_fault (Bad at) (operand_of labels.names token) >>= λ p.
    Ok (stack, filled due (Built p 1)))

-- the token, where one operand stands
unfoldable pub at_one : ℕ → List ℕ → List Pending → Piece → Result State TextFault
at_one at token stack p =
    if bytes_eq token (codes ")") then ended at stack p
    else (if bytes_eq token (codes "and") then Ok (stack, Operand (Second p And))
    else (if bytes_eq token (codes "|") then Ok (stack, Operand (Second p Quoting))
    else (if bytes_eq token (codes "for") then Ok (stack, Operand (Second p For))
    else (if bytes_eq token (codes "as") then Ok (stack, Role p)
    else Err (Bad at Syntax)))))

-- the token, where a role is due
unfoldable pub at_role : Labels → ℕ → List ℕ → List Pending → Piece → Result State TextFault
at_role labels at token stack p =
    with_fault (Bad at) (role_of labels.roles token) >>= λ r. Ok (stack, Whole (in_role p r))

-- the token, where a compound stands
unfoldable pub at_whole : ℕ → List ℕ → List Pending → Piece → Result State TextFault
at_whole at token stack p =
    if bytes_eq token (codes ")") then ended at stack p else Err (Bad at Syntax)

-- the state after a token, or the fault of the token
abbrev pub step : Labels → ℕ → List ℕ → List Pending → Stage → Result State TextFault
step labels at token stack (Operand due) = at_operand labels at token stack due
step labels at token stack (One p) = at_one at token stack p
step labels at token stack (Role p) = at_role labels at token stack p
step labels at token stack (Whole p) = at_whole at token stack p

-- the principal, where it may end here
abbrev pub finished : ℕ → List Pending → Stage → Result Piece TextFault
finished at [] (One p) = Ok p
finished at [] (Whole p) = Ok p
finished at stack place = Err (Bad at Syntax)

-- a principal up to a `;` or to the end, and the tokens from there on
unfoldable pub piece_at : Labels → ℕ → List Placed → List Pending → Stage →
    Result (Piece × List Placed) TextFault
piece_at labels end [] stack place = finished end stack place >>= λ p. Ok (p, [])
piece_at labels end ((at, token) ∷ rest) stack place =
    if bytes_eq token (codes ";")
    then (finished at stack place >>= λ p. Ok (p, (at, token) ∷ rest))
    else (step labels at token stack place >>= λ s. piece_at labels end rest s.0 s.1)

-- nothing may follow
abbrev pub alone : Piece × List Placed → Result Piece TextFault
alone (p, []) = Ok p
alone (p, (at, token) ∷ rest) = Err (Bad at Syntax)

-- the principal, where it has at most so many nodes and is not too deep
abbrev pub measured : ℕ → ℕ → Piece → Result Principal TextFault
measured nodes at Deep = Err (Bad at TooDeep)
measured nodes at (Built p levels) =
    if nat_le (node_count p) nodes then Ok p else Err (Bad at TooLarge)

-- the principal that all of the tokens are
abbrev pub piece_in : Labels → ℕ → List Placed → Result Piece TextFault
piece_in labels end tokens = piece_at labels end tokens [] (Operand First) >>= alone

-- the principal that a text is, or why it is none
unfoldable pub principal_in : Labels → List ℕ → Result Principal TextFault
principal_in labels bytes =
    piece_in labels (length bytes) (tokens_from bytes 0) >>=
    measured CERT_NODES (first_place (tokens_from bytes 0) (length bytes))
