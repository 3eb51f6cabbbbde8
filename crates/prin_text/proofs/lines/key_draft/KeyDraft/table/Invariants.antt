use Rattle.std.proofs.Common.{◌≡◌, ◌++◌}
use Rattle.keyed_seal.specs.Keys.{Entries}
use Rattle.prin_text.specs.Held.{HoldsKeys}
use Rattle.prin_text.proofs.lines.key_draft.KeyDraft.table.Given as goal

-- the table holds the keys before this one
abbrev pub invariant-loop-number : goal.invariant-loop-number
invariant-loop-number l = record {
  before : Entries;
  split : before ++ l.number-iterator ≡ l.self.entries;
  held : HoldsKeys l.table before;
  room : l.table.room ≡ l.self.room;
}
