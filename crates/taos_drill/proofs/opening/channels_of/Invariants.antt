use Rattle.std.proofs.Common.{◌≡◌, ◌<◌, ℕ, length, None}
use Rattle.keyed_seal.specs.Keys.{key_of}
use Rattle.prin_text.specs.Held.{HoldsKeys}
use Rattle.taos_drill.specs.Opened.{drill_channels}
use Rattle.taos_drill.specs.Words.{keys_of}
use Rattle.taos_drill.proofs.opening.channels_of.Given as goal

abbrev pub invariant-lanes : goal.invariant-lanes
invariant-lanes l = record {
  room : l.table.room ≡ l.lanes;
  count : length l.table.entries ≡ l.lane;
  free : (n : ℕ) → l.lane < n → key_of l.table.entries n ≡ None;
  held : (seed : ℕ) → l.keys ≡ keys_of seed l.lanes → HoldsKeys l.table (drill_channels seed l.lane);
}
