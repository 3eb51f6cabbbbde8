use Rattle.std.proofs.Common.{◌≡◌, ◌≤◌, ◌-◌, [], map, length}
use Rattle.prin_term.specs.View.{grant}
use Rattle.prin_text.specs.declared.limits.TheConstants.{MAX_ENTRIES}
use Rattle.prin_text.specs.Lists.{entries_at}
use Rattle.prin_text.specs.Tokens.{tokens_from}
use Rattle.prin_text.proofs.list.read_list.Given as goal

abbrev pub invariant-loop-count : goal.invariant-loop-count
invariant-loop-count l = record {
  within : l.at ≤ length l.bytes;
  same : entries_at l.names (length l.bytes) (MAX_ENTRIES - l.count) (map grant l.entries.items) (tokens_from l.bytes l.at) ≡ entries_at l.names (length l.bytes) MAX_ENTRIES [] (tokens_from l.bytes 0);
}
