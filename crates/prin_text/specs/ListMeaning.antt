-- Which texts are lists, and what they mean, by their tokens.
use Rattle.std.specs.Prelude.{◌≡◌, ◌≢◌, ℕ, ◌+◌, ◌<◌, ◌≤◌, codes}
use Rattle.std.specs.Prelude.{List, [], ◌∷◌, ◌++◌, length, map}
use Rattle.prin_term.specs.declared.limits.TheConstants.{ENTRY_NODES, MAX_DEPTH}
use Rattle.prin_term.specs.Principal.{node_count, depth}
use Rattle.prin_term.specs.View.{Grant}
use Rattle.prin_text.specs.declared.limits.TheConstants.{MAX_ENTRIES}
use Rattle.prin_text.specs.Labels.{Labels}
use Rattle.prin_text.specs.Meaning.{Written, meaning, tokens_of, IsProper}
use Rattle.prin_text.specs.Printing.{rights_text}
use Rattle.prin_text.specs.Tokens.{Placed, first_place, tokens_from}

-- The tokens are an entry within the limits: its rights, and a way to write its principal, whose
-- first token does not stand where the rights end.
pub record IsEntryOf (labels : Labels) (e : Grant) (tokens : List Placed) : Type 0 where
  pub at : ℕ
  pub body : List Placed
  pub written : Written
  pub whole : tokens ≡ (at, rights_text e.rights) ∷ body
  pub some : 0 < e.rights
  pub rights : e.rights < 16
  pub apart : first_place body 0 ≢ at + length (rights_text e.rights)
  pub proper : IsProper labels written
  pub means : meaning written ≡ e.who
  pub spelled : map (λ t. t.1) body ≡ tokens_of written
  pub nodes_fit : node_count e.who ≤ ENTRY_NODES
  pub depth_fits : depth e.who ≤ MAX_DEPTH

-- the tokens are these entries, one or more, with a `;` between any two
abbrev pub AreEntriesOf : Labels → Grant → List Grant → List Placed → Type 0
AreEntriesOf labels e [] tokens = IsEntryOf labels e tokens
AreEntriesOf labels e (f ∷ rest) tokens =
    (first : List Placed) × (at : ℕ) × (later : List Placed)
    × (tokens ≡ first ++ (at, codes ";") ∷ later)
    × IsEntryOf labels e first × AreEntriesOf labels f rest later

-- the text is a list of these entries: no token, or at most so many entries
abbrev pub IsListText : Labels → List Grant → List ℕ → Type 0
IsListText labels [] bytes = tokens_from bytes 0 ≡ []
IsListText labels (e ∷ rest) bytes =
    (length (e ∷ rest) ≤ MAX_ENTRIES) × AreEntriesOf labels e rest (tokens_from bytes 0)
