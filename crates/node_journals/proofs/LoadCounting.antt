-- What the shards and objects of a drill count, by their journals.
use Rattle.std.proofs.Common.{◌≡◌, ◌≢◌, ◌⊎◌, ℕ, suc, ◌+◌, Bool, true, false, cond, eqb, not, List, [], ◌∷◌, ◌++◌, length, map, slice_get, refl, sym, ap, subst, ◌∙◌, inl, inr, arith}
use Rattle.std.specs.Prelude.{AllPairs, count_by, sum_by}
use Rattle.std.specs.List.{position_or_len, range_with_len}
use Rattle.std.proofs.lemmas.Bool.Decides.{nat_tests}
use Rattle.std.proofs.lemmas.List.{length-map}
use Rattle.std.proofs.lemmas.List.FromFn.{length-map-range_with_len}
use Rattle.std.proofs.lemmas.List.Sums.{sum_by-cons}
use Rattle.shard_core.specs.Alone.{plans_in, seen_in}
use Rattle.agent_core.specs.Journals.{Entry, ShardSeen}
use Rattle.agent_core.specs.State.{Plan}
use Rattle.object_core.specs.Objects.{ObjectEntry, ObjectSeen, is_grant}
use Rattle.object_core.specs.OneOwner.{journal_of}
use Rattle.object_core.specs.Shelving.{ObjectFixed, fixed_of, numbers_of}
use Rattle.node_commands.specs.Words.{DrillWords}
use Rattle.taos_lanes.specs.Serving.{journal_on, journals_of}
use Rattle.request_course.specs.Cells.{Node, Journals}
use Rattle.node_journals.specs.Counts.{CountsJournals, CountsLoad}
use Rattle.node_journals.specs.Requests.{IsLoadNode, channels_of, load_plan}
use Rattle.node_journals.specs.Works.{In}
use Rattle.node_journals.proofs.Ordering.{pairs_first, pairs_tail}

-- ---- shards in a row

seen_all : (f : List Entry → ℕ) (shards : List ShardSeen) (front : List ShardSeen) (a : ℕ) → length front ≡ a → sum_by (λ (s : ShardSeen). f s.journal) shards ≡ sum_by (λ k. f (seen_in (front ++ shards) k)) (range_with_len a (length shards))
seen_all f [] front a is = refl
seen_all f (s ∷ shards) front a is =
    let here : seen_in (front ++ s ∷ shards) a ≡ s.journal = ap (λ k. seen_in (front ++ s ∷ shards) k) (sym is) ∙ behind front in
    let more : length (front ++ s ∷ []) ≡ a + 1 = longer front a is in
    let joined : (front ++ s ∷ []) ++ shards ≡ front ++ s ∷ shards = grouped front in
    let rest = seen_all f shards (front ++ s ∷ []) (a + 1) more ∙ ap (λ (l : List ShardSeen). sum_by (λ k. f (seen_in l k)) (range_with_len (a + 1) (length shards))) joined in
    omega (arith, sum_by-cons (λ (x : ShardSeen). f x.journal) s shards, sum_by-cons (λ k. f (seen_in (front ++ s ∷ shards) k)) a (range_with_len (a + 1) (length shards)), ap f here, rest)
  where
    behind : (xs : List ShardSeen) → seen_in (xs ++ s ∷ shards) (length xs) ≡ s.journal
    behind [] = refl
    behind (x ∷ xs) = behind xs

    longer : (xs : List ShardSeen) (k : ℕ) → length xs ≡ k → length (xs ++ s ∷ []) ≡ k + 1
    longer xs k same = Rattle.std.proofs.lemmas.List.length_push xs s ∙ ap (λ m. m + 1) same

    grouped : (xs : List ShardSeen) → (xs ++ s ∷ []) ++ shards ≡ xs ++ s ∷ shards
    grouped [] = refl
    grouped (x ∷ xs) = ap (λ (l : List ShardSeen). x ∷ l) (grouped xs)

-- ---- objects by number

-- the first object of the number, where those before have others
first_of : (front : List ObjectSeen) (o : ObjectSeen) (rest : List ObjectSeen) → ((x : ℕ) → In x (numbers_of (map fixed_of front)) → x ≢ o.plan.number) → journal_on (front ++ o ∷ rest) o.plan.number ≡ o.journal
first_of [] o rest other =
    let e : eqb o.plan.number o.plan.number ≡ true = grind (arith, nat_tests) in
    ap (λ b. journal_of (slice_get (o ∷ rest) (cond (not b) (1 + position_or_len (λ n. eqb n o.plan.number) (numbers_of (map fixed_of rest))) 0))) e
first_of (x ∷ front) o rest other =
    let ne = other x.plan.number (inl refl) in
    let e : eqb x.plan.number o.plan.number ≡ false = grind (arith, nat_tests, ne) in
    ap (λ b. journal_of (slice_get (x ∷ (front ++ o ∷ rest)) (cond (not b) (1 + position_or_len (λ n. eqb n o.plan.number) (numbers_of (map fixed_of (front ++ o ∷ rest)))) 0))) e
    ∙ (ap (λ k. journal_of (slice_get (x ∷ (front ++ o ∷ rest)) k)) (add-one (position_or_len (λ n. eqb n o.plan.number) (numbers_of (map fixed_of (front ++ o ∷ rest)))))
    ∙ first_of front o rest (λ y is. other y (inr is)))
  where
    add-one : (k : ℕ) → 1 + k ≡ suc k
    add-one k = omega arith

numbers_push : (xs : List ObjectSeen) (o : ObjectSeen) (x : ℕ) → In x (numbers_of (map fixed_of (xs ++ o ∷ []))) → In x (numbers_of (map fixed_of xs)) ⊎ (x ≡ o.plan.number)
numbers_push [] o x (inl same) = inr (sym same)
numbers_push [] o x (inr none) = absurd none
numbers_push (y ∷ xs) o x (inl same) = inl (inl same)
numbers_push (y ∷ xs) o x (inr later) = elim (numbers_push xs o x later) [ inl a ↦ inl (inr a) | inr b ↦ inr b ]

-- a sum over objects, by their numbers
on_numbers : (f : List ObjectEntry → ℕ) (objects front : List ObjectSeen) → AllPairs (λ (m : ℕ) (k : ℕ). m ≢ k) (numbers_of (map fixed_of objects)) →
    ((x y : ℕ) → In x (numbers_of (map fixed_of front)) → In y (numbers_of (map fixed_of objects)) → x ≢ y) →
    sum_by (λ (o : ObjectSeen). f o.journal) objects ≡ sum_by (λ number. f (journal_on (front ++ objects) number)) (numbers_of (map fixed_of objects))
on_numbers f [] front apart other = refl
on_numbers f (o ∷ objects) front apart other =
    let here = first_of front o objects (λ x is. other x o.plan.number is (inl refl)) in
    let joined : (front ++ o ∷ []) ++ objects ≡ front ++ o ∷ objects = grouped front in
    let rest = on_numbers f objects (front ++ o ∷ []) (pairs_tail (λ (m : ℕ) (k : ℕ). m ≢ k) o.plan.number (numbers_of (map fixed_of objects)) apart)
    (λ x y is also. elim (numbers_push front o x is) [
      | inl before ↦ other x y before (inr also)
      | inr same ↦ λ e. pairs_first (λ (m : ℕ) (k : ℕ). m ≢ k) o.plan.number (numbers_of (map fixed_of objects)) apart y also (sym same ∙ e)
    ])
    ∙ ap (λ (l : List ObjectSeen). sum_by (λ number. f (journal_on l number)) (numbers_of (map fixed_of objects))) joined in
    omega (arith, sum_by-cons (λ (x : ObjectSeen). f x.journal) o objects, sum_by-cons (λ number. f (journal_on (front ++ o ∷ objects) number)) o.plan.number (numbers_of (map fixed_of objects)), ap f here, rest)
  where
    grouped : (xs : List ObjectSeen) → (xs ++ o ∷ []) ++ objects ≡ xs ++ o ∷ objects
    grouped [] = refl
    grouped (x ∷ xs) = ap (λ (l : List ObjectSeen). x ∷ l) (grouped xs)

-- ---- the whole

module _ (d : DrillWords) (n : Node) (node : IsLoadNode d n) (shards : List ShardSeen) (objects : List ObjectSeen) (plans : plans_in shards ≡ n.plans) (fixed : map fixed_of objects ≡ n.objects) where
  abbrev J : Journals
  J = journals_of shards objects

  four : length shards ≡ 4
  four = sym (length-map shards (λ (s : ShardSeen). s.plan)) ∙ (ap (λ (l : List Plan). length l) (plans ∙ node.plans) ∙ length-map-range_with_len (load_plan d (channels_of n)) 0 4)

  own : AllPairs (λ (m : ℕ) (k : ℕ). m ≢ k) (numbers_of (map fixed_of objects))
  own = subst (λ (l : List ObjectFixed). AllPairs (λ (m : ℕ) (k : ℕ). m ≢ k) (numbers_of l)) (sym fixed) node.own_numbers

  on_objects : (test : ObjectEntry → Bool) → sum_by (λ (o : ObjectSeen). count_by test o.journal) objects ≡ sum_by (λ o. count_by test (J.objects o)) (numbers_of n.objects)
  on_objects test = on_numbers (λ (es : List ObjectEntry). count_by test es) objects [] own (λ x y is also. absurd is) ∙ ap (λ (l : List ObjectFixed). sum_by (λ o. count_by test (J.objects o)) (numbers_of l)) fixed

  -- the counts, by those of the journals
  pub counted : CountsJournals d n J → CountsLoad d shards objects
  counted counts = record {
    grants = on_objects (λ (e : ObjectEntry). is_grant e.ruling) ∙ counts.grants;
    denials = on_objects (λ (e : ObjectEntry). not (is_grant e.ruling)) ∙ counts.denials;
    entries = seen_all (λ (j : List Entry). length j) shards [] 0 refl
        ∙ (ap (λ k. sum_by (λ s. length (seen_in shards s)) (range_with_len 0 k)) four ∙ counts.entries);
  }
