-- Which requests are granted, and how many entries each has at its shard.
use Rattle.std.proofs.Common.{◌≡◌, ℕ, zero, suc, ◌+◌, ◌%◌, ◌<◌, ◌≤◌, Bool, true, false, cond, eqb, List, [], ◌∷◌, length, map, Some, slice_get, refl, sym, ap, ap₂, subst, ◌∙◌, inl, inr, arith}
use Rattle.std.specs.Prelude.{◌||◌, count_by, filter, sum_by}
use Rattle.std.specs.List.{AllZip, list_any, range_with_len}
use Rattle.std.proofs.lemmas.Bool.{cases_Bool, cases_eq}
use Rattle.std.proofs.lemmas.Bool.Decides.{nat_tests}
use Rattle.std.proofs.lemmas.List.{length-map}
use Rattle.std.proofs.lemmas.List.Sums.{sum_by-cons}
use Rattle.std.proofs.lemmas.Option.{none-some, same_Some}
use Rattle.object_core.specs.Operation.{Read}
use Rattle.object_core.specs.declared.ruling.Ruling.TheVariants as rulings
use Rattle.prin_term.specs.View.{Grant}
use Rattle.agent_core.specs.declared.told.Told.{Told}
use Rattle.agent_core.specs.State.{Plan, Asks, Keeps}
use Rattle.agent_core.specs.Journals.{Entry, entry}
use Rattle.agent_core.specs.Asked.{by_kept, was_kept, was_dropped, had_no_room}
use Rattle.proof_cache.specs.Cached.{Cached}
use Rattle.node_journals.specs.Load.{AsksAt, IsLoadJournal, KeepsInTime, load_ask}
use Rattle.node_journals.proofs.Hitting.{asks_judged, first_misses, later_hit, reader_not_denied}
use Rattle.node_commands.specs.Words.{DrillWords}
use Rattle.taos_drill.specs.Opened.{reader}
use Rattle.taos_drill.specs.Sent.{number_of, requests_of}
use Rattle.taos_drill.specs.Words.{is_even, word_of}
use Rattle.taos_drill.proofs.Numbering.{once}
use Rattle.request_course.specs.AtObject.{ruled_as}
use Rattle.request_course.specs.Cells.{Node, Journals}
use Rattle.node_journals.specs.Counts.{has_grant}
use Rattle.node_journals.specs.Requests.{FitsDrill, IsLoadNode, channels_of, its_channel, its_limit, its_list, its_object, its_shard, load_plan}
use Rattle.node_journals.specs.Works.{Work, IsUnheard, Came, object_full, shard_full, unheard, denied, granted, LaneOf, LoadWorks, In}
use Rattle.node_journals.proofs.Members.{flat_in, in_map, map_in, sum_flat}
use Rattle.node_journals.proofs.Turning.{stood_at}
use Rattle.node_journals.proofs.Ordering.{Before, Compared, Rises, compared, filter_rises, range_rises, same_shard, some_lane, work_lane}
use Rattle.node_journals.proofs.Knowing.{AsksFor, came_ask, came_so, earlier_asks, every, load_journal, object_room, same_head, shard_room, who_asks}

-- a request was granted: its Ask was a miss whose proof has an entry, or a hit
pub record HasGrant (d : DrillWords) (J : Journals) (i : ℕ) (own ruling : List ℕ) : Type 0 where
  pub at : ℕ
  pub ruling_is : ruling ≡ at ∷ []
  pub place : ℕ
  pub chosen : ℕ
  pub stands : slice_get (J.objects (its_object d i)) at ≡ Some (ruled_as (its_shard d i) place Read (rulings.Granted chosen))
  pub told : Told
  pub asked : AsksAt (J.shards (its_shard d i)) place (its_channel d i) (number_of d.lanes i) (reader ∷ []) told
  pub rest : List ℕ
  pub own_is : own ≡ place ∷ rest
  pub missed : told ≡ Told.Miss → (keep e : ℕ) × (c : Cached) × (t : Told) × (rest ≡ keep ∷ []) × (slice_get (J.shards (its_shard d i)) keep ≡ Some (entry (Keeps place e c) t))
  pub hit : (e : ℕ) → told ≡ Told.Hit e → rest ≡ []

-- or denied
pub record HasDenial (d : DrillWords) (J : Journals) (i : ℕ) (own ruling : List ℕ) : Type 0 where
  pub at : ℕ
  pub ruling_is : ruling ≡ at ∷ []
  pub place : ℕ
  pub stands : slice_get (J.objects (its_object d i)) at ≡ Some (ruled_as (its_shard d i) place Read rulings.Denied)
  pub own_is : own ≡ place ∷ []

hit_missed : (e : ℕ) → Told.Hit e ≡ Told.Miss → ⊥
hit_missed e h = absurd cc

missed_hit : (e : ℕ) → Told.Miss ≡ Told.Hit e → ⊥
missed_hit e h = absurd cc

-- nothing stands in an empty list
nothing_at : {X : Type 0} (e : ℕ) (x : X) → slice_get [] e ≡ Some x → ⊥
nothing_at zero x h = none-some x h
nothing_at (suc e) x h = none-some x h

module _ (d : DrillWords) (J : Journals) (plan : Plan) (limit_is : plan.limit ≡ its_limit d) (i : ℕ) (room : length (J.shards (its_shard d i)) < its_limit d)
    (free : length (J.objects (its_object d i)) < its_limit d) (load : IsLoadJournal plan (J.shards (its_shard d i))) where
  abbrev journal : List Entry
  journal = J.shards (its_shard d i)

  heard : (place : ℕ) (list : List Grant) (told : Told) → AsksAt journal place (its_channel d i) (number_of d.lanes i) list told → IsUnheard told → ⊥
  heard place list told asked un = elim (asks_judged plan journal load place (its_channel d i) (number_of d.lanes i) list told asked) [
    | inl miss ↦ subst IsUnheard miss un
    | inr hit ↦ subst IsUnheard hit.1 un
  ]

  pub rule_reader : (own ruling : List ℕ) → Came d J plan i (reader ∷ []) own ruling → HasGrant d J i own ruling
  rule_reader own ruling (object_full h) = absurd (omega (arith, h, free))
  rule_reader own ruling (shard_full h) = absurd (omega (arith, h, room, limit_is))
  rule_reader own ruling (unheard {place} {told} asked un) = absurd (heard place (reader ∷ []) told asked un)
  rule_reader own ruling (denied {place} {at} {denial} h stands) = absurd (reader_not_denied plan journal load place (its_channel d i) (number_of d.lanes i) denial h)
  rule_reader own ruling (granted {place} {at} {entry = e} {c} (by_kept h) stands) = record {
    at = at;
    ruling_is = refl;
    place = place;
    chosen = e;
    stands = stands;
    told = Told.Hit e;
    asked = stood_at journal h.before (entry (Asks (load_ask (its_channel d i) (number_of d.lanes i) (reader ∷ []))) (Told.Hit e)) place h.stands;
    rest = [];
    own_is = refl;
    missed = λ is. absurd (hit_missed e is);
    hit = λ k is. refl;
  }
  rule_reader own ruling (granted {place} {at} {entry = e} {c} (was_kept {keep} h told) stands) = record {
    at = at;
    ruling_is = refl;
    place = place;
    chosen = e;
    stands = stands;
    told = Told.Miss;
    asked = stood_at journal h.before (entry (Asks (load_ask (its_channel d i) (number_of d.lanes i) (reader ∷ []))) Told.Miss) place h.stands;
    rest = keep ∷ [];
    own_is = refl;
    missed = λ is. (keep, e, c, Told.Kept, refl, stood_at journal told.0 (entry (Keeps place e c) Told.Kept) keep told.1);
    hit = λ k is. absurd (missed_hit k is);
  }
  rule_reader own ruling (granted {place} {at} {entry = e} {c} (was_dropped {keep} {cause} h told) stands) = record {
    at = at;
    ruling_is = refl;
    place = place;
    chosen = e;
    stands = stands;
    told = Told.Miss;
    asked = stood_at journal h.before (entry (Asks (load_ask (its_channel d i) (number_of d.lanes i) (reader ∷ []))) Told.Miss) place h.stands;
    rest = keep ∷ [];
    own_is = refl;
    missed = λ is. (keep, e, c, Told.Dropped cause, refl, stood_at journal told.0 (entry (Keeps place e c) (Told.Dropped cause)) keep told.1);
    hit = λ k is. absurd (missed_hit k is);
  }
  rule_reader own ruling (granted (had_no_room h full) stands) = absurd (omega (arith, full, room, limit_is))

  pub rule_none : (own ruling : List ℕ) → Came d J plan i [] own ruling → HasDenial d J i own ruling
  rule_none own ruling (object_full h) = absurd (omega (arith, h, free))
  rule_none own ruling (shard_full h) = absurd (omega (arith, h, room, limit_is))
  rule_none own ruling (unheard {place} {told} asked un) = absurd (heard place [] told asked un)
  rule_none own ruling (denied {place} {at} h stands) = record { at = at; ruling_is = refl; place = place; stands = stands; own_is = refl }
  rule_none own ruling (granted {place} {at} {entry = e} (by_kept h) stands) = absurd (nothing_at e h.proof.grant h.proof.stands)
  rule_none own ruling (granted {place} {at} {entry = e} (was_kept h told) stands) = absurd (nothing_at e h.granted.proof.grant h.granted.proof.stands)
  rule_none own ruling (granted {place} {at} {entry = e} (was_dropped h told) stands) = absurd (nothing_at e h.granted.proof.grant h.granted.proof.stands)
  rule_none own ruling (granted {place} {at} {entry = e} (had_no_room h full) stands) = absurd (nothing_at e h.granted.proof.grant h.granted.proof.stands)

module _ (d : DrillWords) (fits : FitsDrill d) (n : Node) (node : IsLoadNode d n) (J : Journals) (works : LoadWorks d n J) where
  abbrev pub all_works : List Work
  all_works = every d fits n node J works

  abbrev pub even_of : ℕ → Bool
  even_of i = is_even (word_of d.seed i)

  shard_small : (i : ℕ) → its_shard d i < 4
  shard_small i = omega arith

  loaded : (i : ℕ) → IsLoadJournal (load_plan d (channels_of n) (its_shard d i)) (J.shards (its_shard d i))
  loaded i = load_journal d fits n node J works (its_shard d i) (shard_small i)

  pub grant_of : (w : Work) → In w all_works → its_list d w.request ≡ reader ∷ [] → HasGrant d J w.request w.asks w.ruling
  grant_of w is list =
      rule_reader d J (load_plan d (channels_of n) (its_shard d w.request)) refl w.request (shard_room d fits n node J works (its_shard d w.request)) (object_room d fits n node J works (its_object d w.request)) (loaded w.request) w.asks w.ruling
      (subst (λ (l : List Grant). Came d J (load_plan d (channels_of n) (its_shard d w.request)) w.request l w.asks w.ruling) list (came_so d fits n node J works w is))

  pub denial_of : (w : Work) → In w all_works → its_list d w.request ≡ [] → HasDenial d J w.request w.asks w.ruling
  denial_of w is list =
      rule_none d J (load_plan d (channels_of n) (its_shard d w.request)) refl w.request (shard_room d fits n node J works (its_shard d w.request)) (object_room d fits n node J works (its_object d w.request)) (loaded w.request) w.asks w.ruling
      (subst (λ (l : List Grant). Came d J (load_plan d (channels_of n) (its_shard d w.request)) w.request l w.asks w.ruling) list (came_so d fits n node J works w is))

  pub even_list : (i : ℕ) → even_of i ≡ true → its_list d i ≡ reader ∷ []
  even_list i even = ap (λ b. cond b (reader ∷ []) []) even

  pub odd_list : (i : ℕ) → even_of i ≡ false → its_list d i ≡ []
  odd_list i odd = ap (λ b. cond b (reader ∷ []) []) odd

  some_list : (i : ℕ) → its_list d i ≡ reader ∷ [] → even_of i ≡ true
  some_list i list = elim (cases_Bool (even_of i)) [
    | inl even ↦ even
    | inr odd ↦ absurd (nothing (sym (odd_list i odd) ∙ list))
  ]
    where
      nothing : [] ≡ reader ∷ [] → ⊥
      nothing h = absurd cc

  -- ---- proofs are kept in time

  told_there : (journal : List Entry) (p q channel c m k : ℕ) (list xs : List Grant) (a b : Told) → p ≡ q → AsksAt journal p channel m list a → AsksAt journal q c k xs b → a ≡ b
  told_there journal p q channel c m k list xs a b same x y =
      ap (λ (e : Entry). e.told) (same_Some _ _ (sym (subst (λ z. slice_get journal z ≡ Some (entry (Asks (load_ask channel m list)) a)) same x) ∙ y))

  in_time : (s : ℕ) → KeepsInTime (J.shards s)
  in_time s p q channel m k ys u lt asked also =
      let a = who_asks d fits n node J works s p channel m (reader ∷ []) Told.Miss asked in
      let b = who_asks d fits n node J works s q channel k ys u also in
      let before = earlier_asks d fits n node J works s p q channel m k (reader ∷ []) ys lt a b in
      let g = grant_of a.work a.among a.ask.list_is in
      let here = same_head d fits n node J works a.work.asks g.place p g.rest a.ask.rest g.own_is a.ask.is in
      let missed = told_there (J.shards (its_shard d a.work.request)) g.place p (its_channel d a.work.request) channel (number_of d.lanes a.work.request) m (reader ∷ []) (reader ∷ []) g.told Told.Miss here g.asked
      (subst (λ z. AsksAt (J.shards z) p channel m (reader ∷ []) Told.Miss) a.shard_is asked) in
      let kept = g.missed missed in
      let among : In kept.0 a.work.asks = subst (In kept.0) (sym (g.own_is ∙ ap (λ (l : List ℕ). g.place ∷ l) kept.4)) (inr (inl refl)) in (
        kept.0,
        kept.1,
        kept.2,
        kept.3,
        before.places kept.0 q among b.own,
        subst (λ z. slice_get (J.shards z) kept.0 ≡ Some (entry (Keeps p kept.1 kept.2) kept.3)) (sym a.shard_is)
            (subst (λ z. slice_get (J.shards (its_shard d a.work.request)) kept.0 ≡ Some (entry (Keeps z kept.1 kept.2) kept.3)) here kept.5),
      )

  -- ---- how many entries at its shard

  pub odd_length : (w : Work) → In w all_works → even_of w.request ≡ false → length w.asks ≡ 1
  odd_length w is odd = let h = denial_of w is (odd_list w.request odd) in ap (λ (l : List ℕ). length l) h.own_is

  one_lane : (i j : ℕ) → its_channel d i ≡ its_channel d j → i % d.lanes ≡ j % d.lanes
  one_lane i j same = omega (arith, same)

  pub first_length : (w : Work) → In w all_works → even_of w.request ≡ true → ((v : Work) → In v all_works → Before d v w → v.request % d.lanes ≡ w.request % d.lanes → even_of v.request ≡ true → ⊥) → length w.asks ≡ 2
  first_length w is even none =
      let g = grant_of w is (even_list w.request even) in
      let own : In g.place w.asks = subst (In g.place) (sym g.own_is) (inl refl) in
      let s = its_shard d w.request in
      let mine : AsksFor d fits n node J works s g.place (its_channel d w.request) (number_of d.lanes w.request) (reader ∷ []) = record {
        work = w;
        among = is;
        shard_is = refl;
        own = own;
        ask = came_ask d J (load_plan d (channels_of n) s) w.request (its_list d w.request) w.asks w.ruling (came_so d fits n node J works w is) g.place (its_channel d w.request) (number_of d.lanes w.request) (reader ∷ []) g.told own g.asked;
      } in
      let missed = first_misses (load_plan d (channels_of n) s) (J.shards s) (loaded w.request) g.place (its_channel d w.request) (number_of d.lanes w.request) g.told g.asked
      (λ p m t lt asked.
      let a = who_asks d fits n node J works s p (its_channel d w.request) m (reader ∷ []) t asked in
      none a.work a.among (earlier_asks d fits n node J works s p g.place (its_channel d w.request) m (number_of d.lanes w.request) (reader ∷ []) (reader ∷ []) lt a mine) (one_lane a.work.request w.request a.ask.channel_is) (some_list a.work.request a.ask.list_is)) in
      let kept = g.missed missed in
      ap (λ (l : List ℕ). length l) (g.own_is ∙ ap (λ (l : List ℕ). g.place ∷ l) kept.4)

  pub later_length : (v w : Work) → In v all_works → In w all_works → Before d v w → v.request % d.lanes ≡ w.request % d.lanes → even_of v.request ≡ true → even_of w.request ≡ true → length w.asks ≡ 1
  later_length v w is also before same even too =
      let g = grant_of v is (even_list v.request even) in
      let h = grant_of w also (even_list w.request too) in
      let s = its_shard d w.request in
      let lt = before.places g.place h.place (subst (In g.place) (sym g.own_is) (inl refl)) (subst (In h.place) (sym h.own_is) (inl refl)) in
      let channel : its_channel d v.request ≡ its_channel d w.request = ap (λ k. k + 1) same in
      let asked : AsksAt (J.shards s) g.place (its_channel d w.request) (number_of d.lanes v.request) (reader ∷ []) g.told =
      subst (λ k. AsksAt (J.shards s) g.place k (number_of d.lanes v.request) (reader ∷ []) g.told) channel
      (subst (λ k. AsksAt (J.shards k) g.place (its_channel d v.request) (number_of d.lanes v.request) (reader ∷ []) g.told) (same_shard d v.request w.request same) g.asked) in
      let hit = later_hit (load_plan d (channels_of n) s) (J.shards s) (loaded w.request) (in_time s) g.place h.place (its_channel d w.request) (number_of d.lanes v.request) (number_of d.lanes w.request) g.told h.told lt asked h.asked in
      ap (λ (l : List ℕ). length l) (h.own_is ∙ ap (λ (l : List ℕ). h.place ∷ l) (h.hit hit.0 hit.1))

  -- ---- of a lane

  abbrev pub entries_for : List Work → ℕ
  entries_for ws = sum_by (λ (w : Work). length w.asks) ws

  compare : (v w : Work) → In v all_works → In w all_works → v.request % d.lanes ≡ w.request % d.lanes → Compared d v w
  compare v w is also same = compared d n J 0 d.lanes works.lanes works.each v w is also same

  comes_before : (v w : Work) → In v all_works → In w all_works → v.request % d.lanes ≡ w.request % d.lanes → v.request < w.request → Before d v w
  comes_before v w is also same lt = elim (compare v w is also same) [
    | inl one ↦ absurd (let e = ap (λ (x : Work). x.request) one in omega (arith, lt, e))
    | inr (inl before) ↦ before
    | inr (inr after) ↦ absurd (let e = after.earlier in omega (arith, lt, e))
  ]

  module _ (lane : ℕ) where
    -- works of the lane, in order
    pub record AreOf (ws : List Work) : Type 0 where
      pub among : (w : Work) → In w ws → In w all_works
      pub rises : Rises (map (λ (w : Work). w.request) ws)
      pub its : (w : Work) → In w ws → w.request % d.lanes ≡ lane

    fewer : (w : Work) (ws : List Work) → AreOf (w ∷ ws) → AreOf ws
    fewer w ws of = record { among = λ v is. of.among v (inr is); rises = of.rises.1; its = λ v is. of.its v (inr is) }

    all_later : (v : Work) → In v all_works → even_of v.request ≡ true → v.request % d.lanes ≡ lane → (ws : List Work) → AreOf ws → ((w : Work) → In w ws → Before d v w) → entries_for ws ≡ length ws
    all_later v is even own [] of before = refl
    all_later v is even own (w ∷ ws) of before =
        let here : length w.asks ≡ 1 = elim (cases_Bool (even_of w.request)) [
          | inl too ↦ later_length v w is (of.among w (inl refl)) (before w (inl refl)) (own ∙ sym (of.its w (inl refl))) even too
          | inr odd ↦ odd_length w (of.among w (inl refl)) odd
        ] in
        omega (arith, sum_by-cons (λ (x : Work). length x.asks) w ws, here, all_later v is even own ws (fewer w ws of) (λ u at. before u (inr at)))

    any_head : (b : Bool) (i : ℕ) (is : List ℕ) → even_of i ≡ b → list_any even_of (i ∷ is) ≡ cond b true (list_any even_of is)
    any_head true i is e = ap (λ t. t || list_any even_of is) e
    any_head false i is e = ap (λ t. t || list_any even_of is) e

    from_start : (ws : List Work) → AreOf ws → ((v : Work) → In v all_works → even_of v.request ≡ true → v.request % d.lanes ≡ lane → (w : Work) → In w ws → Before d v w → In v ws) →
        entries_for ws ≡ length ws + cond (list_any even_of (map (λ (w : Work). w.request) ws)) 1 0
    from_start [] of none = refl
    from_start (w ∷ ws) of none = elim (cases_Bool (even_of w.request)) [
      | inl even ↦
          let first : length w.asks ≡ 2 = first_length w (of.among w (inl refl)) even (λ v is before same too. lane_of v before (none v is too (same ∙ of.its w (inl refl)) w (inl refl) before)) in
          let rest = all_later w (of.among w (inl refl)) even (of.its w (inl refl)) ws (fewer w ws of)
          (λ u at. comes_before w u (of.among w (inl refl)) (of.among u (inr at)) (of.its w (inl refl) ∙ sym (of.its u (inr at))) (of.rises.0 u.request (in_map (λ (x : Work). x.request) ws u at))) in
          let any = ap {B = ℕ} (λ b. cond b 1 0) (any_head true w.request (map (λ (x : Work). x.request) ws) even) in
          omega (arith, sum_by-cons (λ (x : Work). length x.asks) w ws, first, rest, any)
      | inr odd ↦
          let one = odd_length w (of.among w (inl refl)) odd in
          let rest = from_start ws (fewer w ws of) (λ v is even own u at before. not_head v odd even (none v is even own u (inr at) before)) in
          let any = ap {B = ℕ} (λ b. cond b 1 0) (any_head false w.request (map (λ (x : Work). x.request) ws) odd) in
          omega (arith, sum_by-cons (λ (x : Work). length x.asks) w ws, one, rest, any)
    ]
      where
        lane_of : (v : Work) → Before d v w → In v (w ∷ ws) → ⊥
        lane_of v before (inl same) = let e = ap (λ (x : Work). x.request) same in let b = before.earlier in omega (arith, e, b)
        lane_of v before (inr at) = let r = of.rises.0 v.request (in_map (λ (x : Work). x.request) ws v at) in let b = before.earlier in omega (arith, r, b)

        not_head : (v : Work) → even_of w.request ≡ false → even_of v.request ≡ true → In v (w ∷ ws) → In v ws
        not_head v odd even (inl same) = absurd (differ (sym odd ∙ (ap (λ (x : Work). even_of x.request) same ∙ even)))
          where
            differ : false ≡ true → ⊥
            differ h = absurd cc
        not_head v odd even (inr at) = at

  -- the works of a whole lane
  filter_in : (test : ℕ → Bool) (xs : List ℕ) (x : ℕ) → In x xs → test x ≡ true → In x (filter test xs)
  filter_in test [] x h is = absurd h
  filter_in test (y ∷ ys) x (inl same) is = subst (λ b. In x (cond b (y ∷ filter test ys) (filter test ys))) (sym (ap test same ∙ is)) (inl same)
  filter_in test (y ∷ ys) x (inr later) is = by (test y) (filter_in test ys x later is)
    where
      by : (b : Bool) → In x (filter test ys) → In x (cond b (y ∷ filter test ys) (filter test ys))
      by true rest = inr rest
      by false rest = rest

  range_in : (r a k : ℕ) → a ≤ r → r < a + k → In r (range_with_len a k)
  range_in r a zero from below = absurd (omega (arith, from, below))
  range_in r a (suc k) from below = elim (cases_eq a r) [
    | inl same ↦ inl same
    | inr other ↦ inr (range_in r (a + 1) k (omega (arith, from, other)) (omega (arith, below)))
  ]

  module _ (lane : ℕ) (ws : List Work) (of : LaneOf d n J lane ws) (among : (w : Work) → In w ws → In w all_works) where
    whole : AreOf lane ws
    whole = record {
      among = among;
      rises = subst Rises (sym of.requests_are) (filter_rises (λ i. eqb (i % d.lanes) lane) (range_with_len 0 d.requests) (range_rises 0 d.requests));
      its = λ w is. (work_lane d n J lane ws of w is).1;
    }

    -- each request of the lane has its work there
    has_all : (v : Work) → In v all_works → v.request < d.requests → v.request % d.lanes ≡ lane → In v ws
    has_all v is below own =
        let test : eqb (v.request % d.lanes) lane ≡ true = grind (arith, nat_tests, own) in
        let at = filter_in (λ i. eqb (i % d.lanes) lane) (range_with_len 0 d.requests) v.request (range_in v.request 0 d.requests (omega arith) (omega (arith, below))) test in
        let u = map_in (λ (w : Work). w.request) ws v.request (subst (In v.request) (sym of.requests_are) at) in
        elim (compare v u.0 is (among u.0 u.1) (ap (λ k. k % d.lanes) (sym u.2))) [
          | inl one ↦ subst (λ (x : Work). In x ws) (sym one) u.1
          | inr (inl before) ↦ absurd (let e = before.earlier in let r = u.2 in omega (arith, e, r))
          | inr (inr after) ↦ absurd (let e = after.earlier in let r = u.2 in omega (arith, e, r))
        ]

    pub lane_entries : entries_for ws ≡ length (requests_of d.requests d.lanes lane) + cond (has_grant d lane) 1 0
    lane_entries =
        from_start lane ws whole (λ v is even own w at before. has_all v is (let r = some_lane d n J (range_with_len 0 d.lanes) works.lanes works.each v is in (work_lane d n J r.0 r.1 r.4 v r.3).0) own)
        ∙ ap₂ (λ (x y : ℕ). x + y)
        (sym (length-map ws (λ (w : Work). w.request)) ∙ ap (λ (l : List ℕ). length l) of.requests_are)
        (ap {B = ℕ} (λ (l : List ℕ). cond (list_any even_of l) 1 0) of.requests_are)

  -- ---- of all lanes

  zip_entries : (ks : List ℕ) (lanes : List (List Work)) → AllZip (LaneOf d n J) ks lanes → ((ws : List Work) (w : Work) → In ws lanes → In w ws → In w all_works) →
      sum_by entries_for lanes ≡ sum_by (λ lane. length (requests_of d.requests d.lanes lane)) ks + count_by (has_grant d) ks
  zip_entries [] [] each among = refl
  zip_entries [] (ws ∷ lanes) each among = absurd each
  zip_entries (k ∷ ks) [] each among = absurd each
  zip_entries (k ∷ ks) (ws ∷ lanes) each among =
      let here = lane_entries k ws each.0 (λ w is. among ws w (inl refl) is) in
      omega (
        arith,
        sum_by-cons entries_for ws lanes,
        sum_by-cons (λ lane. length (requests_of d.requests d.lanes lane)) k ks,
        sum_by-cons (λ lane. cond (has_grant d lane) 1 0) k ks,
        here,
        zip_entries ks lanes each.1 (λ us w is at. among us w (inr is) at),
      )

  pub all_entries : entries_for all_works ≡ d.requests + count_by (has_grant d) (range_with_len 0 d.lanes)
  all_entries =
      let flat = sum_flat (λ (w : Work). length w.asks) (λ (ws : List Work). ws) works.lanes in
      let each = zip_entries (range_with_len 0 d.lanes) works.lanes works.each (λ ws w is at. flat_in (λ (us : List Work). us) works.lanes ws w is at) in
      let once = once d.requests d.lanes (let some = fits.some_lanes in omega (arith, some)) in
      omega (arith, flat, each, once)
