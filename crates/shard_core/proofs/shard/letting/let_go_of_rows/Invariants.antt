use Rattle.std.proofs.Common.{◌≡◌, ◌+◌, ◌*◌, ◌<◌, ◌≤◌, ℕ, take, Some}
use Rattle.std.specs.List.{slice_get}
use Rattle.shard_core.specs.Kept.{now_at}
use Rattle.shard_core.specs.declared.shard.store.Row.{Row}
use Rattle.shard_core.specs.Letting.{LetsGo, certs_in, certs_left}
use Rattle.shard_core.proofs.shard.letting.let_go_of_rows.Given as goal

abbrev pub invariant-loop-place : goal.invariant-loop-place
invariant-loop-place l = record {
  before : (i : ℕ) (row row' : Row) → i < l.place → slice_get l.initial.rows i ≡ Some row → slice_get l.rows i ≡ Some row' →
      LetsGo (now_at l.book l.clock l.swept) l.removal l.stamp row row';
  behind : (i : ℕ) → l.place ≤ i → slice_get l.rows i ≡ slice_get l.initial.rows i;
  count : l.count + certs_left (now_at l.book l.clock l.swept) l.removal (take l.place l.initial.rows)
      ≡ certs_in (now_at l.book l.clock l.swept) (take l.place l.initial.rows);
  few : l.count ≤ 32 * l.place;
}
