-- What it is for the code to let certificates go.
use Rattle.std.specs.Prelude.{◌≡◌, ℕ, List, length, filter, sum_by}
use Rattle.shard_core.specs.declared.held.removal.Removal.{Removal}
use Rattle.shard_core.specs.declared.shard.store.Row.{Row}
use Rattle.shard_core.specs.Names.{certs_named, AreNames}
use Rattle.shard_core.specs.Kept.{ShardNow, row_certs, stays}

-- a row lets certificates go, and was swept at the stamp
pub record LetsGo (now : ShardNow) (removal : Removal) (stamp : ℕ) (row row' : Row) : Type 0 where
  pub last : row'.last ≡ row.last
  pub swept_at : row'.swept ≡ stamp
  pub own : certs_named now.book row'.own.items ≡ filter (stays removal) (row_certs now row)
  pub names : AreNames now.book row'.own.items

-- how many certificates the rows have
abbrev pub certs_in : ShardNow → List Row → ℕ
certs_in now rows = sum_by (λ row. length (row_certs now row)) rows

-- how many certificates of the rows stay
abbrev pub certs_left : ShardNow → Removal → List Row → ℕ
certs_left now removal rows =
    sum_by (λ row. length (filter (stays removal) (row_certs now row))) rows
