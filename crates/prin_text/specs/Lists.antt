-- Reading a list entry by entry, with the first fault that is met.
use Rattle.std.specs.Prelude.{◌<◌, ℕ, zero, suc, ◌+◌, ◌==◌, if◌then◌else◌}
use Rattle.std.specs.Prelude.{List, [], ◌∷◌, ◌++◌, length, Option, Some, None, Result, Ok, Err}
use Rattle.prin_term.specs.declared.limits.TheConstants.{ENTRY_NODES}
use Rattle.prin_term.specs.Refusal.{FitsLimits}
use Rattle.byte_fields.specs.Steps.{◌>>=◌}
use Rattle.prin_term.specs.View.{Grant}
use Rattle.prin_text.specs.Labels.{Labels}
use Rattle.prin_text.specs.Reading.{Operand, First, piece_at, measured}
use Rattle.prin_text.specs.Tokens.{Placed, first_place, tokens_from}
use Rattle.prin_text.specs.Words.{rights_of}
use Rattle.prin_text.specs.declared.limits.TheConstants.{MAX_ENTRIES}
use Rattle.prin_text.specs.declared.fault.TextCause.TheVariants.{Syntax, Rights, TooMany}
use Rattle.prin_text.specs.declared.fault.TextFault.{TextFault}
use Rattle.prin_text.specs.declared.fault.TextFault.TheVariants.{Bad}

-- the rights that the word at an offset is
abbrev pub rights_at : ℕ → Option ℕ → Result ℕ TextFault
rights_at at None = Err (Bad at Rights)
rights_at at (Some n) = Ok n

-- the principal of an entry, after rights that end at an offset and a blank
unfoldable pub who_at : Labels → ℕ → ℕ → ℕ → List Placed → Result (Grant × List Placed) TextFault
who_at labels end rights behind tokens =
    if first_place tokens end == behind then Err (Bad behind Syntax)
    else (piece_at labels end tokens [] (Operand First) >>= λ x.
    measured ENTRY_NODES (first_place tokens end) x.0 >>= λ p.
    Ok (record { rights = rights; who = p }, x.1))

-- an entry, and the tokens from the `;` behind it on
unfoldable pub entry_at : Labels → ℕ → List Placed → Result (Grant × List Placed) TextFault
entry_at labels end [] = Err (Bad end Rights)
entry_at labels end ((at, token) ∷ rest) =
    rights_at at (rights_of token) >>= λ n. who_at labels end n (at + length token) rest

-- the list ends, or goes on after a `;`
abbrev pub further : (List Grant → List Placed → Result (List Grant) TextFault) → List Grant →
    List Placed → Result (List Grant) TextFault
further more entries [] = Ok entries
further more entries (semicolon ∷ rest) = more entries rest

-- so many entries at most, after those that were read
unfoldable pub entries_at : Labels → ℕ → ℕ → List Grant → List Placed →
    Result (List Grant) TextFault
entries_at labels end zero before tokens = Err (Bad (first_place tokens end) TooMany)
entries_at labels end (suc n) before tokens =
    entry_at labels end tokens >>= λ x. further (entries_at labels end n) (before ++ x.0 ∷ []) x.1

-- a list, unless there is no token
abbrev pub list_of : Labels → ℕ → List Placed → Result (List Grant) TextFault
list_of labels end [] = Ok []
list_of labels end (token ∷ rest) = entries_at labels end MAX_ENTRIES [] (token ∷ rest)

-- the list that a text is, or why it is none
unfoldable pub list_in : Labels → List ℕ → Result (List Grant) TextFault
list_in labels bytes = list_of labels (length bytes) (tokens_from bytes 0)

-- an entry within the limits, which gives a right
pub record IsEntry (e : Grant) : Type 0 where
  pub some : 0 < e.rights
  pub rights : e.rights < 16
  pub who : FitsLimits ENTRY_NODES e.who

-- entries within the limits
abbrev pub AreEntries : List Grant → Type 0
AreEntries [] = Unit {0}
AreEntries (e ∷ rest) = IsEntry e × AreEntries rest
