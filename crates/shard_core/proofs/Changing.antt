-- One row is changed, or all are swept without being looked at.
use Rattle.std.proofs.Common.{◌≡◌, ◌⊎◌, ℕ, ◌-◌, ◌<◌, ◌≤◌, Bool, true, false, cond, List, [], ◌∷◌, length, get_or, set, filter, Some, Contains, inl, inr, refl, sym, ap, ◌∙◌, subst, arith}
use Rattle.std.specs.List.{slice_get}
use Rattle.std.specs.List.Sorted.{IsStrictlyIncreasing}
use Rattle.std.proofs.lemmas.Bool.{cases_lt}
use Rattle.std.proofs.lemmas.Bool.Decides.{nat_tests}
use Rattle.std.proofs.lemmas.List.{length-set}
use Rattle.std.proofs.lemmas.Option.{slice_get_read, slice_get_within}
use Rattle.stmt_codec.specs.Certificates.{Certificate}
use Rattle.shard_core.specs.declared.held.removal.Removal.TheVariants.{Ended}
use Rattle.shard_core.specs.declared.shard.store.Row.{Row}
use Rattle.shard_core.specs.declared.shard.store.Store.{Store}
use Rattle.agent_core.specs.State.{Plan, State, keeping, forgetting, at_channel, held_count}
use Rattle.agent_core.specs.Journals.{Entry}
use Rattle.shard_core.specs.Kept.{stays, row_certs, name_stays, certs_staying, IsRow, IsStore, now_at}
use Rattle.shard_core.specs.Names.{book, named, certs_named, AreNames}
use Rattle.shard_core.proofs.Channels.{other_channel, contains_at, here_changed, there_kept, count_emptied, count_kept}
use Rattle.shard_core.proofs.Places.{set_same, set_other}
use Rattle.shard_core.proofs.Rows.{left_named, left_names, row_fresh, row_stale}

same_or_not : (i j : ℕ) → (i ≡ j) ⊎ (i ≡ j → ⊥)
same_or_not i j = elim (cases_lt i j) [ inl lt ↦ inr (λ (e : i ≡ j). absurd (omega (arith, lt, e))) | inr le ↦ elim (cases_lt j i) [ inl lt ↦ inr (λ (e : i ≡ j). absurd (omega (arith, lt, e))) | inr ge ↦ inl (omega arith) ] ]

-- ---- the row of a channel

pub row_found : (plan : Plan) (journal : List Entry) (s : State) (store : Store) → IsStore (book plan journal) s store → (place channel : ℕ) (row : Row) → slice_get plan.channels place ≡ Some channel → row ≡ get_or store.rows.items place row →
    slice_get store.rows.items place ≡ Some row
row_found plan journal s store is place channel row here at =
    slice_get_read store.rows.items (length store.rows.items) place row refl (omega (arith, slice_get_within plan.channels place channel here, is.row_count)) at

-- its names are those of certificates
pub row_names : (plan : Plan) (journal : List Entry) (s : State) (store : Store) → IsStore (book plan journal) s store → (place channel : ℕ) (row : Row) → slice_get plan.channels place ≡ Some channel → row ≡ get_or store.rows.items place row →
    AreNames (book plan journal) row.own.items
row_names plan journal s store is place channel row here at = (is.rows_are place row channel (row_found plan journal s store is place channel row here at) here).names

-- ---- a row is changed, with what the state has at its channel

module _ (plan : Plan) (journal : List Entry) (s s' : State) (store after : Store) (is : IsStore (book plan journal) s store) (up : IsStrictlyIncreasing plan.channels)
    (place channel : ℕ) (row' : Row) (here : slice_get plan.channels place ≡ Some channel)
    (rows : after.rows.items ≡ set store.rows.items place row') (clock : after.clock ≡ store.clock) (swept : after.swept ≡ store.swept)
    (changed : IsRow (now_at (book plan journal) store.clock store.swept) row' (s'.last channel) (s'.own channel))
    (last_kept : (c : ℕ) → (c ≡ channel → ⊥) → s.last c ≡ s'.last c) (own_kept : (c : ℕ) → (c ≡ channel → ⊥) → s.own c ≡ s'.own c) where
  place_within : place < length store.rows.items
  place_within = omega (arith, slice_get_within plan.channels place channel here, is.row_count)

  row_is : (i : ℕ) (row : Row) (c : ℕ) → slice_get after.rows.items i ≡ Some row → slice_get plan.channels i ≡ Some c → IsRow (now_at (book plan journal) store.clock store.swept) row (s'.last c) (s'.own c)
  row_is i row c at there =
      elim (same_or_not i place) [
        | inl e ↦
            let set_there : slice_get (set store.rows.items place row') place ≡ Some row = subst (λ zs. slice_get zs place ≡ Some row) rows (subst (λ k. slice_get after.rows.items k ≡ Some row) e at) in
            let one : Some row' ≡ Some row = sym (set_same store.rows.items place row' place_within) ∙ set_there in
            let two : Some channel ≡ Some c = sym here ∙ subst (λ k. slice_get plan.channels k ≡ Some c) e there in
            let same_row : row' ≡ row = cc in
            let same_channel : channel ≡ c = cc in
            subst (λ d. IsRow (now_at (book plan journal) store.clock store.swept) row (s'.last d) (s'.own d)) same_channel
            (subst (λ r. IsRow (now_at (book plan journal) store.clock store.swept) r (s'.last channel) (s'.own channel)) same_row changed)
        | inr ne ↦
            let before : slice_get store.rows.items i ≡ Some row = sym (set_other store.rows.items place row' i ne) ∙ subst (λ zs. slice_get zs i ≡ Some row) rows at in
            let other = other_channel plan.channels up place i channel c here there ne in
            subst (λ l. IsRow (now_at (book plan journal) store.clock store.swept) row l (s'.own c)) (last_kept c other)
            (subst (λ o. IsRow (now_at (book plan journal) store.clock store.swept) row (s.last c) o) (own_kept c other) (is.rows_are i row c before there))
      ]

  pub row_changed : s'.clock ≡ s.clock → certs_named (book plan journal) after.commons.items ≡ s'.commons → AreNames (book plan journal) after.commons.items →
      after.withdrawn.items ≡ s'.withdrawn → IsStore (book plan journal) s' after
  row_changed clock_is commons names barred = record {
    clock_is = clock ∙ is.clock_is ∙ sym clock_is;
    commons_are = commons;
    commons_names = names;
    withdrawn_are = barred;
    row_count = ap (λ (zs : List Row). length zs) rows ∙ length-set store.rows.items place row' ∙ is.row_count;
    rows_are = λ i row c at there. subst (λ n. IsRow (now_at (book plan journal) after.clock n) row (s'.last c) (s'.own c)) (sym swept)
        (subst (λ n. IsRow (now_at (book plan journal) n store.swept) row (s'.last c) (s'.own c)) (sym clock) (row_is i row c at there));
  }

-- ---- a channel is forgotten

module _ (plan : Plan) (journal : List Entry) (s : State) (store after : Store) (is : IsStore (book plan journal) s store) (up : IsStrictlyIncreasing plan.channels) (channel : ℕ) where
  pub forgotten : (place : ℕ) (row row' : Row) → slice_get plan.channels place ≡ Some channel → slice_get store.rows.items place ≡ Some row → row'.last ≡ row.last → row'.swept ≡ store.swept → row'.own.items ≡ [] →
      after.rows.items ≡ set store.rows.items place row' → after.clock ≡ store.clock → after.swept ≡ store.swept → after.commons ≡ store.commons → after.withdrawn ≡ store.withdrawn → IsStore (book plan journal) (forgetting channel s) after
  forgotten place row row' here at last swept none rows clock swept_same commons barred =
      let was = is.rows_are place row channel at here in
      let names : AreNames (book plan journal) row'.own.items = subst (AreNames (book plan journal)) (sym none) (λ k d lt. absurd (omega (arith, lt))) in
      let changed : IsRow (now_at (book plan journal) store.clock store.swept) row' (s.last channel) (at_channel channel [] s.own channel) = record {
        last_is = last ∙ was.last_is;
        own_is = row_fresh plan journal store.clock store.swept row' swept ∙ ap (certs_named (book plan journal)) none ∙ sym (here_changed channel [] s.own);
        names = names;
        swept_before = omega (arith, swept);
      } in
      row_changed plan journal s (forgetting channel s) store after is up place channel row' here rows clock swept_same changed (λ c ne. refl) (λ c ne. sym (there_kept channel [] s.own c ne))
      refl (subst (λ v. certs_named (book plan journal) v.items ≡ s.commons) (sym commons) is.commons_are) (subst (λ v. AreNames (book plan journal) v.items) (sym commons) is.commons_names)
      (ap (λ v. v.items) barred ∙ is.withdrawn_are)

  pub count_forgotten : (place : ℕ) (row : Row) (count : ℕ) → slice_get plan.channels place ≡ Some channel → slice_get store.rows.items place ≡ Some row → count ≡ length (row_certs (now_at (book plan journal) store.clock store.swept) row) →
      count ≡ held_count plan s - held_count plan (forgetting channel s)
  count_forgotten place row count here at e =
      let was = is.rows_are place row channel at here in
      omega (arith, e, ap (λ certs. length certs) was.own_is, count_emptied s.own channel plan.channels up place here)

module _ (plan : Plan) (journal : List Entry) (s : State) (store : Store) (is : IsStore (book plan journal) s store) (channel : ℕ) (absent : Contains plan.channels channel → ⊥) where
  pub nothing_forgotten : IsStore (book plan journal) (forgetting channel s) store
  nothing_forgotten = record {
    clock_is = is.clock_is;
    commons_are = is.commons_are;
    commons_names = is.commons_names;
    withdrawn_are = is.withdrawn_are;
    row_count = is.row_count;
    rows_are = λ i row c at there. subst (λ o. IsRow (now_at (book plan journal) store.clock store.swept) row (s.last c) o)
        (sym (there_kept channel [] s.own c (λ (e : c ≡ channel). absent (subst (Contains plan.channels) e (contains_at plan.channels i c there))))) (is.rows_are i row c at there);
  }

  pub none_counted : 0 ≡ held_count plan s - held_count plan (forgetting channel s)
  none_counted = omega (arith, count_kept s.own channel plan.channels absent)

-- ---- a sweep that looks at no row

stays_longer : (keep k m : ℕ) (c : Certificate) → k ≤ m → stays (Ended keep k) c ≡ false → stays (Ended keep m) c ≡ false
stays_longer keep k m c le gone = grind (arith, nat_tests)

filter_one : (p q : Certificate → Bool) → ((c : Certificate) → q c ≡ false → p c ≡ false) → (c : Certificate) (cs : List Certificate) → filter p (filter q cs) ≡ filter p cs →
    (b : Bool) → q c ≡ b → filter p (cond b (c ∷ filter q cs) (filter q cs)) ≡ cond (p c) (c ∷ filter p cs) (filter p cs)
filter_one p q less c cs rest true e = ap (λ zs. cond (p c) (c ∷ zs) zs) rest
filter_one p q less c cs rest false e = rest ∙ ap (λ b. cond b (c ∷ filter p cs) (filter p cs)) (sym (less c e))

filter_again : (p q : Certificate → Bool) → ((c : Certificate) → q c ≡ false → p c ≡ false) → (cs : List Certificate) → filter p (filter q cs) ≡ filter p cs
filter_again p q less [] = refl
filter_again p q less (c ∷ cs) = filter_one p q less c cs (filter_again p q less cs) (q c) refl

-- what is gone by now is gone later
pub swept_later : (plan : Plan) (journal : List Entry) (clock swept m : ℕ) (row : Row) → clock ≤ m →
    filter (stays (Ended plan.keep m)) (row_certs (now_at (book plan journal) clock swept) row) ≡ filter (stays (Ended plan.keep m)) (certs_named (book plan journal) row.own.items)
swept_later plan journal clock swept m row le =
    elim (same_or_not row.swept swept) [
      | inl e ↦ ap (filter (stays (Ended plan.keep m))) (row_fresh plan journal clock swept row e)
      | inr ne ↦ ap (filter (stays (Ended plan.keep m))) (row_stale plan journal clock swept row ne) ∙
          filter_again (stays (Ended plan.keep m)) (stays (Ended plan.keep clock)) (λ c. stays_longer plan.keep clock m c le) (certs_named (book plan journal) row.own.items)
    ]

-- what stays of a row and in common at a later moment is what the state has then
module _ (plan : Plan) (journal : List Entry) (s : State) (store : Store) (is : IsStore (book plan journal) s store) (moment : ℕ) where
  pub row_staying : store.clock ≤ moment → (place channel : ℕ) (row : Row) → slice_get plan.channels place ≡ Some channel → row ≡ get_or store.rows.items place row →
      certs_staying (book plan journal) (Ended plan.keep moment) row.own.items ≡ (keeping (stays (Ended plan.keep moment)) moment s).own channel
  row_staying later place channel row here at =
      sym (swept_later plan journal store.clock store.swept moment row later) ∙
      ap (filter (stays (Ended plan.keep moment))) (is.rows_are place row channel (row_found plan journal s store is place channel row here at) here).own_is

  pub commons_staying : certs_staying (book plan journal) (Ended plan.keep moment) store.commons.items ≡ (keeping (stays (Ended plan.keep moment)) moment s).commons
  commons_staying = ap (filter (stays (Ended plan.keep moment))) is.commons_are

module _ (plan : Plan) (journal : List Entry) (s : State) (store after : Store) (is : IsStore (book plan journal) s store) (moment stamp : ℕ) (later : store.clock ≤ moment) (new : store.swept < stamp)
    (commons_left : after.commons.items ≡ filter (name_stays (book plan journal) (Ended plan.keep moment)) store.commons.items)
    (rows : after.rows.items ≡ store.rows.items) (clock : after.clock ≡ moment) (swept : after.swept ≡ stamp) (barred : after.withdrawn ≡ store.withdrawn) where
  stale_row : (i : ℕ) (row : Row) (c : ℕ) → slice_get store.rows.items i ≡ Some row → slice_get plan.channels i ≡ Some c → IsRow (now_at (book plan journal) moment stamp) row (s.last c) (filter (stays (Ended plan.keep moment)) (s.own c))
  stale_row i row c at there =
      let was = is.rows_are i row c at there in
      record {
        last_is = was.last_is;
        own_is = row_stale plan journal moment stamp row (λ (e : row.swept ≡ stamp). absurd (omega (arith, e, was.swept_before, new))) ∙
            sym (swept_later plan journal store.clock store.swept moment row later) ∙ ap (filter (stays (Ended plan.keep moment))) was.own_is;
        names = was.names;
        swept_before = omega (arith, was.swept_before, new);
      }

  pub store_swept : IsStore (book plan journal) (keeping (stays (Ended plan.keep moment)) moment s) after
  store_swept = record {
    clock_is = clock;
    commons_are = left_named (named (book plan journal)) (Ended plan.keep moment) store.commons.items after.commons.items commons_left ∙ ap (filter (stays (Ended plan.keep moment))) is.commons_are;
    commons_names = left_names (named (book plan journal)) (Ended plan.keep moment) store.commons.items after.commons.items commons_left is.commons_names;
    withdrawn_are = ap (λ v. v.items) barred ∙ is.withdrawn_are;
    row_count = ap (λ (zs : List Row). length zs) rows ∙ is.row_count;
    rows_are = λ i row c at there. subst (λ n. IsRow (now_at (book plan journal) after.clock n) row (s.last c) (filter (stays (Ended plan.keep moment)) (s.own c))) (sym swept)
        (subst (λ n. IsRow (now_at (book plan journal) n stamp) row (s.last c) (filter (stays (Ended plan.keep moment)) (s.own c))) (sym clock)
        (stale_row i row c (subst (λ zs. slice_get zs i ≡ Some row) rows at) there));
  }
