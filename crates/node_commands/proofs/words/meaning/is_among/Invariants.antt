use Rattle.std.specs.Prelude.{◌≡◌, ℕ, ◌<◌, List, map, slice_index_or}
use Rattle.node_commands.specs.Table.{IsOption}
use Rattle.node_commands.proofs.words.meaning.is_among.Given as goal

-- none of the options so far
abbrev pub invariant-loop-name : goal.invariant-loop-name
invariant-loop-name l =
    (k : ℕ) (name : List ℕ) → k < l.name-index → slice_index_or (map (λ s. s.now) l.fn.names) k name ≡ name → IsOption l.fn.word name → ⊥
