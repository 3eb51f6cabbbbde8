-- What lanes counted, lane after lane.
use Rattle.std.proofs.Common.{◌≡◌, ℕ, ◌+◌, ◌*◌, ◌^◌, ◌<◌, ◌≤◌, List, [], ◌∷◌, ◌++◌, length, map, take, get_or, Option, Some, refl, sym, ap, ap₂, ◌∙◌, subst, arith, cond}
use Rattle.std.specs.Prelude.{◌==◌, All, filter_map, not, sum_by}
use Rattle.std.specs.List.{AllZip, cons_option, position_or_len}
use Rattle.std.proofs.lemmas.List.{length-append, length-map, take_more}
use Rattle.std.proofs.lemmas.List.Elements.{filter_map-append}
use Rattle.std.proofs.lemmas.List.Folds.{position_or_len_push}
use Rattle.std.proofs.lemmas.List.Sums.{sum_by-cons, sum_by_push}
use Rattle.agent_shards.proofs.Rows.{zip_long}
use Rattle.taos_lanes.specs.declared.lane.Stock.{Stock}
use Rattle.taos_lanes.specs.declared.tally.Tally.{Tally}
use Rattle.taos_lanes.specs.declared.total.Total.{Total}
use Rattle.taos_lanes.specs.Workers.{LaneShown}
use Rattle.taos_lanes.specs.Joining.{IsEmptied, WorkIs, stocks_in, IsTotalOf}
use Rattle.taos_lanes.specs.Totals.{IsSumOf}
use Rattle.taos_lanes.proofs.Rows.{Upto, here_is, upto_long}

pub given_first : {A B : Type 0} (f : A → Option B) (x : A) (xs : List A) (y : B) → f x ≡ Some y → filter_map f (x ∷ xs) ≡ y ∷ filter_map f xs
given_first f x xs y is = ap (λ o. cons_option o (filter_map f xs)) is

-- each sum of so many lanes is less than so many times 2 to the 64th
pub record IsSmall (count : ℕ) (total : Total) : Type 0 where
  pub lanes : total.lanes ≤ count
  pub served : total.served ≤ count * 2 ^ 64
  pub broken : total.broken ≤ count * 2 ^ 64
  pub lacked : total.lacked ≤ count * 2 ^ 64
  pub doors_failed : total.doors_failed ≤ count * 2 ^ 64

-- one lane more
pub sum_more : {A : Type 0} (tally : A → Tally) (xs : List A) (x : A) (total more : Total) → IsSumOf tally xs total → more.lanes ≡ total.lanes + 1 →
    more.served ≡ total.served + (tally x).served → more.broken ≡ total.broken + (tally x).broken → more.lacked ≡ total.lacked + (tally x).lacked →
    more.doors_failed ≡ total.doors_failed + cond (tally x).door_failed 1 0 →
    more.first_failed ≡ cond (total.first_failed == total.lanes) (total.lanes + cond (tally x).door_failed 0 1) total.first_failed → IsSumOf tally (xs ++ x ∷ []) more
sum_more {A} tally xs x total more t lanes served broken lacked failed first = record {
  lanes = omega (arith, lanes, t.lanes, length-append xs (x ∷ []));
  served = served ∙ (ap (λ (n : ℕ). n + (tally x).served) t.served ∙ sym (sum_by_push (λ (y : A). (tally y).served) xs x));
  broken = broken ∙ (ap (λ (n : ℕ). n + (tally x).broken) t.broken ∙ sym (sum_by_push (λ (y : A). (tally y).broken) xs x));
  lacked = lacked ∙ (ap (λ (n : ℕ). n + (tally x).lacked) t.lacked ∙ sym (sum_by_push (λ (y : A). (tally y).lacked) xs x));
  doors_failed = failed ∙ (ap (λ (n : ℕ). n + cond (tally x).door_failed 1 0) t.doors_failed ∙ sym (sum_by_push (λ (y : A). cond (tally y).door_failed 1 0) xs x));
  first_failed = first ∙ (ap₂ (λ (f l : ℕ). cond (f == l) (l + cond (tally x).door_failed 0 1) f) t.first_failed t.lanes ∙ sym (position_or_len_push (λ (y : A). (tally y).door_failed) xs x));
}

pub total_more : (stocks : List Stock) (stock : Stock) (total more : Total) → IsTotalOf stocks total → more.lanes ≡ total.lanes + 1 →
    more.served ≡ total.served + stock.tally.served → more.broken ≡ total.broken + stock.tally.broken → more.lacked ≡ total.lacked + stock.tally.lacked →
    more.doors_failed ≡ total.doors_failed + cond stock.tally.door_failed 1 0 →
    more.first_failed ≡ cond (total.first_failed == total.lanes) (total.lanes + cond stock.tally.door_failed 0 1) total.first_failed → IsTotalOf (stocks ++ stock ∷ []) more
total_more = sum_more (λ (s : Stock). s.tally)

-- what is counted of these is counted of those, each of which counts the same in its turn
module _ {A B : Type 0} (tally : A → Tally) (count : B → Tally) where
  sums : (of : Tally → ℕ) (xs : List A) (ys : List B) → AllZip (λ (x : A) (y : B). count y ≡ tally x) xs ys → sum_by (λ (y : B). of (count y)) ys ≡ sum_by (λ (x : A). of (tally x)) xs
  sums of [] [] z = refl
  sums of (x ∷ xs) (y ∷ ys) z =
      sum_by-cons (λ (b : B). of (count b)) y ys ∙ (ap₂ (λ (m n : ℕ). m + n) (ap of z.0) (sums of xs ys z.1) ∙ sym (sum_by-cons (λ (a : A). of (tally a)) x xs))
  sums of [] (y ∷ ys) z = absurd z
  sums of (x ∷ xs) [] z = absurd z

  firsts : (xs : List A) (ys : List B) → AllZip (λ (x : A) (y : B). count y ≡ tally x) xs ys → position_or_len (λ (y : B). (count y).door_failed) ys ≡ position_or_len (λ (x : A). (tally x).door_failed) xs
  firsts [] [] z = refl
  firsts (x ∷ xs) (y ∷ ys) z = ap₂ (λ (t : Tally) (n : ℕ). cond (not t.door_failed) (1 + n) 0) z.0 (firsts xs ys z.1)
  firsts [] (y ∷ ys) z = absurd z
  firsts (x ∷ xs) [] z = absurd z

  pub sum_same : (xs : List A) (ys : List B) (total : Total) → AllZip (λ (x : A) (y : B). count y ≡ tally x) xs ys → IsSumOf count ys total → IsSumOf tally xs total
  sum_same xs ys total z t = record {
    lanes = t.lanes ∙ zip_long _ xs ys z;
    served = t.served ∙ sums (λ (x : Tally). x.served) xs ys z;
    broken = t.broken ∙ sums (λ (x : Tally). x.broken) xs ys z;
    lacked = t.lacked ∙ sums (λ (x : Tally). x.lacked) xs ys z;
    doors_failed = t.doors_failed ∙ sums (λ (x : Tally). cond x.door_failed 1 0) xs ys z;
    first_failed = t.first_failed ∙ firsts xs ys z;
  }

-- the stocks of one lane more
stocks_at : {X : Type 0} (lanes : List (LaneShown X)) (i : ℕ) (d : LaneShown X) (stock : Stock) → i < length lanes → (get_or lanes i d).work ≡ Some stock →
    stocks_in (take (i + 1) lanes) ≡ stocks_in (take i lanes) ++ stock ∷ []
stocks_at {X} lanes i d stock lt has =
    ap (stocks_in {X = X}) (take_more lanes i d lt)
    ∙ (filter_map-append (λ (l : LaneShown X). l.work) (take i lanes) (get_or lanes i d ∷ [])
    ∙ ap (λ (l : List Stock). stocks_in (take i lanes) ++ l) (given_first (λ (l : LaneShown X). l.work) (get_or lanes i d) [] stock has))

-- the next lane still has the work that it had at first
pub has_work : {A X : Type 0} (is : Stock → Type 0) (f : A → LaneShown X) (i : ℕ) (xs ys : List A) (d : A) → Upto IsEmptied i (map f xs) (map f ys) → i < length ys → All (WorkIs is) (map f xs) →
    WorkIs is (f (get_or ys i d))
has_work is f i xs ys d u lt all =
    let same = here_is IsEmptied f i xs ys d u lt in
    let within : i < length (map f xs) = omega (arith, lt, upto_long IsEmptied i (map f xs) (map f ys) u, length-map ys f) in
    subst (WorkIs is) (sym same) (all i (f d) within)

-- the stocks with that of the next lane, which has its work as at first
pub stocks_gone : {A X : Type 0} (f : A → LaneShown X) (i : ℕ) (xs ys : List A) (d : A) (stock : Stock) → Upto IsEmptied i (map f xs) (map f ys) → i < length ys → (f (get_or ys i d)).work ≡ Some stock →
    stocks_in (take (i + 1) (map f xs)) ≡ stocks_in (take i (map f xs)) ++ stock ∷ []
stocks_gone f i xs ys d stock u lt has =
    let same = here_is IsEmptied f i xs ys d u lt in
    let within : i < length (map f xs) = omega (arith, lt, upto_long IsEmptied i (map f xs) (map f ys) u, length-map ys f) in
    stocks_at (map f xs) i (f d) stock within (ap (λ (x : LaneShown _). x.work) (sym same) ∙ has)

-- one lane more adds less than 2 to the 64th
pub small_more : (i : ℕ) (total more : Total) (served broken lacked doors : ℕ) → IsSmall i total → more.lanes ≡ total.lanes + 1 → more.served ≡ total.served + served → more.broken ≡ total.broken + broken → more.lacked ≡ total.lacked + lacked →
    more.doors_failed ≡ total.doors_failed + doors → (served < 2 ^ 64) × (broken < 2 ^ 64) × (lacked < 2 ^ 64) × (doors ≤ 1) → IsSmall (i + 1) more
small_more i total more served broken lacked doors s lanes a b c d few = record {
  lanes = omega (arith, s.lanes, lanes);
  served = omega (arith, s.served, a, few.0);
  broken = omega (arith, s.broken, b, few.1);
  lacked = omega (arith, s.lacked, c, few.2);
  doors_failed = omega (arith, s.doors_failed, d, few.3);
}
