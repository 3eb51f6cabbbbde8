-- The principals that a table of terms stands for.
use Rattle.std.specs.Prelude.{List, map, take}
use Rattle.prin_term.specs.Principal.{Principal}
use Rattle.prin_term.specs.View.{principal}
use Rattle.stmt_codec.specs.declared.distinct.Seen.{Seen}

-- the principals of the first so many terms
abbrev pub principals : Seen → List Principal
principals s = map (λ t. principal t.now) (take s.count s.terms)
