-- What lanes counted together.
use Rattle.std.specs.Prelude.{◌≡◌, List, length, sum_by, count_by}
use Rattle.std.specs.List.{position_or_len}
use Rattle.taos_lanes.specs.declared.tally.Tally.{Tally}
use Rattle.taos_lanes.specs.declared.total.Total.{Total}

-- the total has what the tallies of these have
pub record IsSumOf {A : Type 0} (tally : A → Tally) (items : List A) (total : Total) : Type 0 where
  pub lanes : total.lanes ≡ length items
  pub served : total.served ≡ sum_by (λ (x : A). (tally x).served) items
  pub broken : total.broken ≡ sum_by (λ (x : A). (tally x).broken) items
  pub lacked : total.lacked ≡ sum_by (λ (x : A). (tally x).lacked) items
  pub doors_failed : total.doors_failed ≡ count_by (λ (x : A). (tally x).door_failed) items
  -- the first lane whose door failed, or how many lanes there are where none did
  pub first_failed : total.first_failed ≡ position_or_len (λ (x : A). (tally x).door_failed) items
