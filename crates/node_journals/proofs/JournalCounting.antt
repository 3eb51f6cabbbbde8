-- What a drill's journals count.
use Rattle.std.proofs.Common.{◌≡◌, ◌≢◌, ℕ, suc, ◌+◌, ◌%◌, ◌<◌, ◌≤◌, Bool, true, false, cond, eqb, ltb, not, List, [], ◌∷◌, length, Some, slice_get, refl, sym, ap, subst, ◌∙◌, inl, inr, arith}
use Rattle.std.specs.Prelude.{AllPairs, count_by, sum_by}
use Rattle.std.specs.List.{range_with_len}
use Rattle.std.proofs.lemmas.Bool.{cases_Bool}
use Rattle.std.proofs.lemmas.Bool.Decides.{nat_tests}
use Rattle.std.proofs.lemmas.List.Sums.{sum_by-cons}
use Rattle.std.proofs.lemmas.Option.{none-some, same_Some}
use Rattle.object_core.specs.Objects.{ObjectEntry, is_grant}
use Rattle.object_core.specs.Shelving.{ObjectFixed, fixed_at, numbers_of}
use Rattle.object_core.specs.declared.ruling.Ruling.{Ruling}
use Rattle.object_core.specs.declared.ruling.Ruling.TheVariants as rulings
use Rattle.node_commands.specs.Words.{DrillWords}
use Rattle.taos_drill.specs.Words.{is_even, word_of}
use Rattle.request_course.specs.Cells.{Node, Journals}
use Rattle.turn_cell.specs.Journal.{times}
use Rattle.node_journals.specs.Counts.{CountsJournals, has_grant}
use Rattle.node_journals.specs.Requests.{FitsDrill, IsLoadNode, its_channel, its_fixed, its_object, its_shard}
use Rattle.node_journals.specs.Works.{Work, LoadWorks, In}
use Rattle.node_journals.proofs.Members.{once_ranged, one_here, one_not, sum_none, sum_one, sum_same, sum_turned, times-cons}
use Rattle.node_journals.proofs.Turning.{there}
use Rattle.node_journals.proofs.Ordering.{pairs_first, pairs_tail, some_lane, work_lane}
use Rattle.node_journals.proofs.Knowing.{object_length, object_owner, shard_length, some_below, sum_every}
use Rattle.node_journals.proofs.Ruling.{all_entries, all_works, denial_of, even_list, grant_of, odd_list}

times_none : (r : ℕ) (ns : List ℕ) → ((x : ℕ) → In x ns → r ≢ x) → times r ns ≡ 0
times_none r [] h = refl
times_none r (n ∷ ns) h = omega (arith, times-cons r n ns, one_not n r (λ e. h n (inl refl) (sym e)), times_none r ns (λ x is. h x (inr is)))

times_once : (r : ℕ) (ns : List ℕ) → AllPairs (λ (m : ℕ) (k : ℕ). m ≢ k) ns → In r ns → times r ns ≡ 1
times_once r [] apart is = absurd is
times_once r (n ∷ ns) apart (inl same) =
    omega (arith, times-cons r n ns, one_here n r same, times_none r ns (λ x is e. pairs_first (λ (m : ℕ) (k : ℕ). m ≢ k) n ns apart x is (same ∙ e)))
times_once r (n ∷ ns) apart (inr later) =
    omega (arith, times-cons r n ns, one_not n r (pairs_first (λ (m : ℕ) (k : ℕ). m ≢ k) n ns apart r later), times_once r ns (pairs_tail (λ (m : ℕ) (k : ℕ). m ≢ k) n ns apart) later)

find_in : (fs : List ObjectFixed) (o : ℕ) (x : ObjectFixed) → fixed_at fs o ≡ Some x → In o (numbers_of fs)
find_in [] o x h = absurd (none-some x h)
find_in (f ∷ fs) o x h = by (eqb f.plan.number o) refl h (find_in fs o x)
  where
    by : (b : Bool) → eqb f.plan.number o ≡ b → cond b (Some f) (fixed_at fs o) ≡ Some x → (fixed_at fs o ≡ Some x → In o (numbers_of fs)) → In o (numbers_of (f ∷ fs))
    by true is at later = inl (grind (arith, nat_tests, is))
    by false is at later = inr (later at)

-- ---- counts

count_all : (test : ObjectEntry → Bool) (b : Bool) (es : List ObjectEntry) → ((p : ℕ) (e : ObjectEntry) → slice_get es p ≡ Some e → test e ≡ b) → count_by test es ≡ cond b (length es) 0
count_all test true [] h = refl
count_all test false [] h = refl
count_all test true (e ∷ es) h = omega (arith, sum_by-cons (λ (x : ObjectEntry). cond (test x) 1 0) e es, ap {B = ℕ} (λ t. cond t 1 0) (h 0 e refl), count_all test true es (λ p x at. h (suc p) x at))
count_all test false (e ∷ es) h = omega (arith, sum_by-cons (λ (x : ObjectEntry). cond (test x) 1 0) e es, ap {B = ℕ} (λ t. cond t 1 0) (h 0 e refl), count_all test false es (λ p x at. h (suc p) x at))

module _ (d : DrillWords) (fits : FitsDrill d) (n : Node) (node : IsLoadNode d n) (J : Journals) (works : LoadWorks d n J) where
  abbrev ws : List Work
  ws = all_works d fits n node J works

  abbrev even : ℕ → Bool
  even i = is_even (word_of d.seed i)

  below : (w : Work) → In w ws → w.request < d.requests
  below w is = let r = some_lane d n J (range_with_len 0 d.lanes) works.lanes works.each w is in (work_lane d n J r.0 r.1 r.4 w r.3).0

  -- ---- entries

  shards_count : sum_by (λ s. length (J.shards s)) (range_with_len 0 4) ≡ d.requests + count_by (has_grant d) (range_with_len 0 d.lanes)
  shards_count =
      sum_same (λ s. length (J.shards s)) (λ s. sum_by (λ (w : Work). cond (eqb s (its_shard d w.request)) (length w.asks) 0) ws) (range_with_len 0 4) (λ s is. shard_length d fits n node J works s)
      ∙ (sum_turned (λ s (w : Work). cond (eqb s (its_shard d w.request)) (length w.asks) 0) (range_with_len 0 4) ws
      ∙ (sum_same (λ (w : Work). sum_by (λ s. cond (eqb s (its_shard d w.request)) (length w.asks) 0) (range_with_len 0 4)) (λ (w : Work). length w.asks) ws
      (λ w is. sum_one (length w.asks) (its_shard d w.request) (range_with_len 0 4) (once_ranged (its_shard d w.request) 0 4 (omega arith) (omega arith)))
      ∙ all_entries d fits n node J works))

  -- ---- rulings

  -- a test that a grant and a denial pass so
  module _ (test : Ruling → Bool) (g h : Bool) (grants : (e : ℕ) → test (rulings.Granted e) ≡ g) (denies : test rulings.Denied ≡ h) where
    abbrev passes : ObjectEntry → Bool
    passes e = test e.ruling

    ruled_one : (w : Work) → In w ws → (length w.ruling ≡ 1) × ((p : ℕ) (e : ObjectEntry) → In p w.ruling → slice_get (J.objects (its_object d w.request)) p ≡ Some e → passes e ≡ cond (even w.request) g h)
    ruled_one w is = elim (cases_Bool (even w.request)) [
      | inl evenly ↦
          let r = grant_of d fits n node J works w is (even_list d fits n node J works w.request evenly) in (
            ap (λ (l : List ℕ). length l) r.ruling_is,
            λ p e own at.
                let same : r.at ≡ p = only r.at p (subst (In p) r.ruling_is own) in
                let entry_is = same_Some e _ (sym at ∙ (ap (λ k. slice_get (J.objects (its_object d w.request)) k) (sym same) ∙ r.stands)) in
                ap passes entry_is ∙ (grants r.chosen ∙ sym (ap (λ b. cond b g h) evenly)),
          )
      | inr oddly ↦
          let r = denial_of d fits n node J works w is (odd_list d fits n node J works w.request oddly) in (
            ap (λ (l : List ℕ). length l) r.ruling_is,
            λ p e own at.
                let same : r.at ≡ p = only r.at p (subst (In p) r.ruling_is own) in
                let entry_is = same_Some e _ (sym at ∙ (ap (λ k. slice_get (J.objects (its_object d w.request)) k) (sym same) ∙ r.stands)) in
                ap passes entry_is ∙ (denies ∙ sym (ap (λ b. cond b g h) oddly)),
          )
    ]
      where
        only : (a p : ℕ) → In p (a ∷ []) → a ≡ p
        only a p (inl same) = same
        only a p (inr none) = absurd none

    -- the number of its object tells whether a word is even
    by_object : (w : Work) → In w ws → (o : ℕ) → o ≡ its_object d w.request → ltb o 101 ≡ even w.request
    by_object w is o at = by (even w.request) refl
      where
        few : w.request % d.lanes + 1 ≤ 16
        few = let some = fits.some_lanes in let most = fits.few_lanes in omega (arith, some, most)

        by : (b : Bool) → even w.request ≡ b → ltb o 101 ≡ b
        by true evenly = let e : o ≡ w.request % d.lanes + 1 = at ∙ ap (λ b. cond b (its_channel d w.request) (100 + its_channel d w.request)) evenly in let f = few in grind (arith, nat_tests, e, f)
        by false oddly = let e : o ≡ 100 + (w.request % d.lanes + 1) = at ∙ ap (λ b. cond b (its_channel d w.request) (100 + its_channel d w.request)) oddly in let f = few in grind (arith, nat_tests, e, f)

    abbrev at_object : ℕ → Bool
    at_object o = cond (ltb o 101) g h

    object_passes : (o p : ℕ) (e : ObjectEntry) → slice_get (J.objects o) p ≡ Some e → passes e ≡ at_object o
    object_passes o p e at =
        let owner = object_owner d fits n node J works o p (some_below (J.objects o) p e at) in
        let r = (ruled_one owner.0 owner.1).1 p e owner.3 (ap (λ k. slice_get (J.objects k) p) (sym owner.2) ∙ at) in
        r ∙ sym (ap (λ b. cond b g h) (by_object owner.0 owner.1 o owner.2))

    nested : (a b : Bool) (k : ℕ) → cond a (cond b k 0) 0 ≡ cond b (cond a k 0) 0
    nested true b k = refl
    nested false true k = refl
    nested false false k = refl

    inner : (b : Bool) (f : Work → ℕ) (xs : List Work) → cond b (sum_by f xs) 0 ≡ sum_by (λ (w : Work). cond b (f w) 0) xs
    inner true f xs = refl
    inner false f xs = sym (sum_none xs)

    one_term : (o : ℕ) (w : Work) → In w ws → cond (at_object o) (cond (eqb o (its_object d w.request)) (length w.ruling) 0) 0 ≡ cond (eqb o (its_object d w.request)) (cond (cond (even w.request) g h) 1 0) 0
    one_term o w is = by (eqb o (its_object d w.request)) refl
      where
        none : (b : Bool) → ◌≡◌ {A = ℕ} (cond b 0 0) 0
        none true = refl
        none false = refl

        by : (t : Bool) → eqb o (its_object d w.request) ≡ t → cond (at_object o) (cond t (length w.ruling) 0) 0 ≡ cond t (cond (cond (even w.request) g h) 1 0) 0
        by true same =
            let e : o ≡ its_object d w.request = grind (arith, nat_tests, same) in
            ap (λ k. cond (at_object o) k 0) (ruled_one w is).0 ∙ ap {B = ℕ} (λ b. cond (cond b g h) 1 0) (by_object w is o e)
        by false other = none (at_object o)

    object_count : (o : ℕ) → count_by passes (J.objects o) ≡ sum_by (λ (w : Work). cond (eqb o (its_object d w.request)) (cond (cond (even w.request) g h) 1 0) 0) ws
    object_count o =
        count_all passes (at_object o) (J.objects o) (object_passes o)
        ∙ (ap (λ k. cond (at_object o) k 0) (object_length d fits n node J works o)
        ∙ (inner (at_object o) (λ (w : Work). cond (eqb o (its_object d w.request)) (length w.ruling) 0) ws
        ∙ sum_same (λ (w : Work). cond (at_object o) (cond (eqb o (its_object d w.request)) (length w.ruling) 0) 0) (λ (w : Work). cond (eqb o (its_object d w.request)) (cond (cond (even w.request) g h) 1 0) 0) ws (λ w is. one_term o w is)))

    pub objects_count : sum_by (λ o. count_by passes (J.objects o)) (numbers_of n.objects) ≡ sum_by (λ i. cond (cond (even i) g h) 1 0) (range_with_len 0 d.requests)
    objects_count =
        sum_same (λ o. count_by passes (J.objects o)) (λ o. sum_by (λ (w : Work). cond (eqb o (its_object d w.request)) (cond (cond (even w.request) g h) 1 0) 0) ws) (numbers_of n.objects) (λ o is. object_count o)
        ∙ (sum_turned (λ o (w : Work). cond (eqb o (its_object d w.request)) (cond (cond (even w.request) g h) 1 0) 0) (numbers_of n.objects) ws
        ∙ (sum_same (λ (w : Work). sum_by (λ o. cond (eqb o (its_object d w.request)) (cond (cond (even w.request) g h) 1 0) 0) (numbers_of n.objects)) (λ (w : Work). cond (cond (even w.request) g h) 1 0) ws
        (λ w is. sum_one (cond (cond (even w.request) g h) 1 0) (its_object d w.request) (numbers_of n.objects)
        (times_once (its_object d w.request) (numbers_of n.objects) node.own_numbers (find_in n.objects (its_object d w.request) (its_fixed d w.request) (there d fits n node w.request (below w is)))))
        ∙ sum_every d fits n node J works (λ i. cond (cond (even i) g h) 1 0)))

-- ---- the whole

plainly : (b : Bool) → ◌≡◌ {A = ℕ} (cond (cond b true false) 1 0) (cond b 1 0)
plainly true = refl
plainly false = refl

turned_round : (b : Bool) → ◌≡◌ {A = ℕ} (cond (cond b false true) 1 0) (cond (not b) 1 0)
turned_round true = refl
turned_round false = refl

-- the counts, of a node whose works are known
pub counted : (d : DrillWords) (fits : FitsDrill d) (n : Node) (node : IsLoadNode d n) (J : Journals) → LoadWorks d n J → CountsJournals d n J
counted d fits n node J works = record {
  grants = objects_count d fits n node J works is_grant true false (λ e. refl) refl
      ∙ sum_same (λ i. cond (cond (is_even (word_of d.seed i)) true false) 1 0) (λ i. cond (is_even (word_of d.seed i)) 1 0) (range_with_len 0 d.requests) (λ i is. plainly (is_even (word_of d.seed i)));
  denials = objects_count d fits n node J works (λ (r : Ruling). not (is_grant r)) false true (λ e. refl) refl
      ∙ sum_same (λ i. cond (cond (is_even (word_of d.seed i)) false true) 1 0) (λ i. cond (not (is_even (word_of d.seed i))) 1 0) (range_with_len 0 d.requests) (λ i is. turned_round (is_even (word_of d.seed i)));
  entries = shards_count d fits n node J works;
}
