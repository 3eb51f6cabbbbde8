use Rattle.std.specs.Prelude.{ℕ, ◌<◌, String, slice_index_or, string_bytes}
use Rattle.std.specs.declared.alloc.Global.{Global}
use Rattle.node_commands.specs.Table.{IsOfTable}
use Rattle.node_commands.proofs.words.meaning.are_of_table.Given as goal

-- the words so far are of the table
abbrev pub invariant-loop-word : goal.invariant-loop-word
invariant-loop-word l = (k : ℕ) (d : String Global) → k < l.word-index → IsOfTable (string_bytes (slice_index_or l.fn.words k d))
