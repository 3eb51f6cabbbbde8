-- What the lines of every journal have: the front that says which entry it is, and one line for each
-- entry.
use Rattle.std.specs.Prelude.{ℕ, codes, List, ◌++◌}
use Rattle.std.specs.Fmt.{decimal}
use Rattle.std.specs.List.{enumerate_from, flat_map}

-- a word and a number, with a blank between
unfoldable pub numbered : List ℕ → ℕ → List ℕ
numbered word n = word ++ codes " " ++ decimal n

-- whose journal it is, and the place of the entry
abbrev pub front : List ℕ → ℕ → ℕ → List ℕ
front owner number place = numbered owner number ++ numbered (codes " entry") place

-- a line: its front, what happened, and what came of it
abbrev pub line : (front happened came : List ℕ) → List ℕ
line front happened came = front ++ codes " " ++ happened ++ codes " -> " ++ came ++ codes "\n"

-- one line for each entry of a journal, in order; places go from 0
abbrev pub text_of : {E : Type 0} → (ℕ → E → List ℕ) → List E → List ℕ
text_of line_at journal = flat_map (λ x. line_at x.0 x.1) (enumerate_from 0 journal)
