-- What is kept, and how each event changes what it stands for.
use Rattle.std.proofs.Common.{◌≡◌, ℕ, suc, ◌+◌, ◌-◌, ◌<◌, List, [], ◌∷◌, length, get_or, filter, sum_by, Some, All, refl, sym, ap, ◌∙◌, subst, arith}
use Rattle.std.specs.List.{slice_get}
use Rattle.std.proofs.lemmas.List.Sums.{sum_by-cons}
use Rattle.std.proofs.lemmas.Option.{slice_get-get_or, slice_get_within}
use Rattle.shard_core.specs.declared.held.removal.Removal.{Removal}
use Rattle.shard_core.specs.declared.shard.store.Row.{Row}
use Rattle.shard_core.specs.declared.shard.store.Store.{Store}
use Rattle.agent_core.specs.State.{Plan, State, keeping, held_count}
use Rattle.agent_core.specs.Journals.{Entry}
use Rattle.shard_core.specs.Kept.{stays, row_certs, name_stays, IsRow, IsStore, now_at}
use Rattle.shard_core.specs.Letting.{LetsGo, certs_in, certs_left}
use Rattle.shard_core.specs.Names.{book, named, AreNames}
use Rattle.shard_core.proofs.Rows.{left_named, left_names, left_count, row_fresh}

sums_alike : {X Y : Type 0} (f : X → ℕ) (g : Y → ℕ) (xs : List X) (ys : List Y) → length xs ≡ length ys → ((i : ℕ) (x : X) (y : Y) → slice_get xs i ≡ Some x → slice_get ys i ≡ Some y → f x ≡ g y) → sum_by f xs ≡ sum_by g ys
sums_alike f g [] [] e same = refl
sums_alike f g [] (y ∷ ys) e same = absurd (omega (arith, e))
sums_alike f g (x ∷ xs) [] e same = absurd (omega (arith, e))
sums_alike f g (x ∷ xs) (y ∷ ys) e same =
    omega (arith, sum_by-cons f x xs, sum_by-cons g y ys, same 0 x y refl refl, sums_alike f g xs ys (omega (arith, e)) (λ i a b p q. same (suc i) a b p q))

module _ (plan : Plan) (journal : List Entry) (s : State) (store : Store) (is : IsStore (book plan journal) s store) where
  -- the row of a channel
  pub row_at : (i : ℕ) (d : Row) → i < length store.rows.items → IsRow (now_at (book plan journal) store.clock store.swept) (get_or store.rows.items i d) (s.last (get_or plan.channels i 0)) (s.own (get_or plan.channels i 0))
  row_at i d lt =
      is.rows_are i (get_or store.rows.items i d) (get_or plan.channels i 0) (slice_get-get_or store.rows.items i d lt) (slice_get-get_or plan.channels i 0 (omega (arith, lt, is.row_count)))

  pub rows_named : All (λ (row : Row). AreNames (book plan journal) row.own.items) store.rows.items
  rows_named k d lt = (row_at k d lt).names

  -- ---- certificates that are let go

  module _ (r : Removal) (moment stamp : ℕ) (after : Store)
      (commons_left : after.commons.items ≡ filter (name_stays (book plan journal) r) store.commons.items)
      (long : length after.rows.items ≡ length store.rows.items)
      (rows_let : (i : ℕ) (row row' : Row) → slice_get store.rows.items i ≡ Some row → slice_get after.rows.items i ≡ Some row' → LetsGo (now_at (book plan journal) store.clock store.swept) r stamp row row') where
    let_row : (i : ℕ) (row' : Row) (c : ℕ) → slice_get after.rows.items i ≡ Some row' → slice_get plan.channels i ≡ Some c → IsRow (now_at (book plan journal) moment stamp) row' (s.last c) (filter (stays r) (s.own c))
    let_row i row' c at channel =
        let lt : i < length store.rows.items = omega (arith, slice_get_within after.rows.items i row' at, long) in
        let row = get_or store.rows.items i row' in
        let was : IsRow (now_at (book plan journal) store.clock store.swept) row (s.last c) (s.own c) = is.rows_are i row c (slice_get-get_or store.rows.items i row' lt) channel in
        let lets : LetsGo (now_at (book plan journal) store.clock store.swept) r stamp row row' = rows_let i row row' (slice_get-get_or store.rows.items i row' lt) at in
        record {
          last_is = lets.last ∙ was.last_is;
          own_is = row_fresh plan journal moment stamp row' lets.swept_at ∙ lets.own ∙ ap (filter (stays r)) was.own_is;
          names = lets.names;
          swept_before = omega (arith, lets.swept_at);
        }

    pub let_store : after.clock ≡ moment → after.swept ≡ stamp → after.withdrawn ≡ store.withdrawn → IsStore (book plan journal) (keeping (stays r) moment s) after
    let_store clock swept barred = record {
      clock_is = clock;
      commons_are = left_named (named (book plan journal)) r store.commons.items after.commons.items commons_left ∙ ap (filter (stays r)) is.commons_are;
      commons_names = left_names (named (book plan journal)) r store.commons.items after.commons.items commons_left is.commons_names;
      withdrawn_are = ap (λ v. v.items) barred ∙ is.withdrawn_are;
      row_count = long ∙ is.row_count;
      rows_are = λ i row' c at channel. subst (λ n. IsRow (now_at (book plan journal) after.clock n) row' (s.last c) (filter (stays r) (s.own c))) (sym swept)
          (subst (λ n. IsRow (now_at (book plan journal) n stamp) row' (s.last c) (filter (stays r) (s.own c))) (sym clock) (let_row i row' c at channel));
    }

    all_held : certs_in (now_at (book plan journal) store.clock store.swept) store.rows.items ≡ sum_by (λ c. length (s.own c)) plan.channels
    all_held =
        sums_alike (λ (row : Row). length (row_certs (now_at (book plan journal) store.clock store.swept) row)) (λ c. length (s.own c)) store.rows.items plan.channels is.row_count
        (λ i row c at channel. ap (λ certs. length certs) (is.rows_are i row c at channel).own_is)

    all_left : certs_left (now_at (book plan journal) store.clock store.swept) r store.rows.items ≡ sum_by (λ c. length (filter (stays r) (s.own c))) plan.channels
    all_left =
        sums_alike (λ (row : Row). length (filter (stays r) (row_certs (now_at (book plan journal) store.clock store.swept) row))) (λ c. length (filter (stays r) (s.own c))) store.rows.items plan.channels is.row_count
        (λ i row c at channel. ap (λ certs. length (filter (stays r) certs)) (is.rows_are i row c at channel).own_is)

    -- what was counted row by row is what the shard holds less
    pub let_count : (own : ℕ) → own + certs_left (now_at (book plan journal) store.clock store.swept) r store.rows.items ≡ certs_in (now_at (book plan journal) store.clock store.swept) store.rows.items →
        (length store.commons.items - length after.commons.items) + own ≡ held_count plan s - held_count plan (keeping (stays r) moment s)
    let_count own e =
        let commons = left_count (named (book plan journal)) r store.commons.items after.commons.items commons_left is.commons_names in
        omega (arith, e, all_held, all_left, commons, ap (λ certs. length certs) is.commons_are, ap (λ certs. length (filter (stays r) certs)) is.commons_are)
