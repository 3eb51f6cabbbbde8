-- Reading a term from left to right, with the first fault that is met.
use Rattle.std.specs.Prelude.{ℕ, zero, suc, ◌-◌, List, [], ◌∷◌, length, drop, Result, Ok, Err, ◌==◌}
use Rattle.std.specs.Prelude.{if◌then◌else◌}
use Rattle.std.specs.Int.{w32}
use Rattle.prin_term.specs.declared.fault.TermFault.{TermFault}
use Rattle.prin_term.specs.declared.fault.TermFault.TheVariants.{Tag, Short, TooDeep, TooLarge}
use Rattle.prin_term.specs.declared.limits.TheConstants.{MAX_DEPTH}
use Rattle.prin_term.specs.Principal.{Principal, Key, Name, InRole, is_tag}
use Rattle.prin_term.specs.Kind.{Kind, And, Quoting, For, pair}
use Rattle.byte_fields.specs.Steps.{◌>>=◌, front_number}

-- an operand: the term, the nodes that are left, and the bytes after it
abbrev pub Operand : Type 0
Operand = Principal × ℕ × List ℕ

-- two operands, one after another, as a compound of this kind
unfoldable pub front_pair : (ℕ → List ℕ → Result Operand TermFault)
    → Kind → ℕ → List ℕ → Result Operand TermFault
front_pair operand kind nodes bytes = do
  left ← operand nodes bytes
  right ← operand left.1 left.2
  Ok (pair kind left.0 right.0, right.1, right.2)

-- what follows a tag, as an operand
unfoldable pub front_tagged : (ℕ → List ℕ → Result Operand TermFault)
    → ℕ → ℕ → ℕ → List ℕ → Result Operand TermFault
front_tagged operand end nodes tag bytes =
    if tag == 1 then (front_number (Short end) w32 bytes >>= λ n. Ok (Key n.0, nodes, n.1))
    else (if tag == 2 then (front_number (Short end) w32 bytes >>= λ n. Ok (Name n.0, nodes, n.1))
    else (if tag == 3 then front_pair operand And nodes bytes
    else (if tag == 4 then front_pair operand Quoting nodes bytes
    else (if tag == 5 then (operand nodes bytes
    >>= λ a. front_number (Short end) w32 a.2 >>= λ r. Ok (InRole a.0 r.0, a.1, r.1))
    else front_pair operand For nodes bytes))))

-- a term where a tag is due, with so many levels and nodes left; the input ends at end
unfoldable pub front_with : (ℕ → List ℕ → Result Operand TermFault)
    → ℕ → ℕ → ℕ → List ℕ → Result Operand TermFault
front_with operand end depth nodes [] = Err (Short end)
front_with operand end depth nodes (tag ∷ rest) =
    if is_tag tag then
    (if depth == 0 then Err (TooDeep (end - length (tag ∷ rest)))
    else (if nodes == 0 then Err (TooLarge (end - length (tag ∷ rest)))
    else front_tagged operand end (nodes - 1) tag rest))
    else Err (Tag (end - length (tag ∷ rest)))

-- a term where a tag is due, with so many levels and nodes left
unfoldable pub front_term : ℕ → ℕ → ℕ → List ℕ → Result Operand TermFault
front_term end zero = front_with (λ nodes bytes. Err (Short end)) end 0
front_term end (suc depth) = front_with (front_term end depth) end (suc depth)

-- a term of at most so many nodes that begins at an offset, and the offset after it. The clauses of
-- `read_term` pin it to `IsTermAt` and `IsRefused`, which do not read
unfoldable pub term_at : ℕ → List ℕ → ℕ → Result (Principal × ℕ) TermFault
term_at nodes bytes at = do
  x ← front_term (length bytes) MAX_DEPTH nodes (drop at bytes)
  Ok (x.0, length bytes - length x.2)
