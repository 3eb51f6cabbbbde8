-- Whose each entry is, and that the journals of the shards are those of a load.
use Rattle.std.proofs.Common.{◌≡◌, ℕ, zero, suc, ◌+◌, ◌*◌, ◌%◌, ◌<◌, ◌≤◌, Bool, true, false, cond, eqb, List, [], ◌∷◌, ◌++◌, length, map, Some, None, slice_get, refl, sym, ap, subst, ◌∙◌, inl, inr, arith}
use Rattle.std.specs.Prelude.{filter_map, sum_by}
use Rattle.std.specs.List.{AllZip, cons_option, flat_map, range_with_len}
use Rattle.std.proofs.lemmas.Bool.Decides.{nat_tests}
use Rattle.std.proofs.lemmas.List.Elements.{filter_map-append}
use Rattle.std.proofs.lemmas.List.Sums.{sum_by-cons, length-filter, count_by-le-length}
use Rattle.std.proofs.lemmas.List.{length-map}
use Rattle.std.proofs.lemmas.List.FromFn.{length-range_with_len}
use Rattle.std.proofs.lemmas.Option.{none-some, same_Some}
use Rattle.object_core.specs.Objects.{ObjectEntry, latest, listed, listed_by}
use Rattle.object_core.specs.Operation.{Op, Read}
use Rattle.object_core.specs.declared.ruling.Ruling.{Ruling}
use Rattle.object_core.specs.declared.ruling.Ruling.TheVariants as rulings
use Rattle.prin_term.specs.View.{Grant}
use Rattle.agent_core.specs.declared.told.Told.{Told}
use Rattle.agent_core.specs.State.{Plan, Ask, Asks, Keeps}
use Rattle.agent_core.specs.Journals.{Entry, entry}
use Rattle.agent_core.specs.Asked.{IsGrantedAt, by_kept, was_kept, was_dropped, had_no_room}
use Rattle.proof_cache.specs.Cached.{Cached}
use Rattle.node_journals.specs.Load.{AsksAt, IsLoadEntry, IsLoadJournal, IsLoadList, asks, keeps, load_ask}
use Rattle.node_commands.specs.Words.{DrillWords}
use Rattle.taos_drill.specs.Opened.{reader}
use Rattle.taos_drill.specs.Sent.{number_of, requests_of}
use Rattle.taos_drill.specs.Words.{is_even, word_of}
use Rattle.request_course.specs.AtObject.{ruled_as}
use Rattle.request_course.specs.Cells.{Node, Journals, Cell, OfShard, OfObject, in_object, in_shard, number_in, numbers_in, entries_in}
use Rattle.turn_cell.specs.Journal.{once_within}
use Rattle.turn_cell.proofs.Counts.{length_within}
use Rattle.node_journals.specs.Requests.{FitsDrill, IsLoadNode, channels_of, its_channel, its_limit, its_list, its_object, its_shard, load_plan}
use Rattle.node_journals.specs.Works.{WasListed, Work, work_places, Came, object_full, shard_full, unheard, denied, granted, CameBy, LaneOf, LoadWorks, In}
use Rattle.node_journals.proofs.Members.{all_requests, in_flat, in_times, length_flat, sum_flat, sum_mapped, sum_most, sum_ones, sum_same}
use Rattle.node_journals.proofs.Turning.{planned_at, stood_at}
use Rattle.node_journals.proofs.Ordering.{Before, compared, later_number, some_lane}

-- ---- numbers of places

own_numbers : (s t : ℕ) (b : Bool) → eqb s t ≡ b → (ps : List ℕ) → numbers_in (OfShard s) (map (in_shard t) ps) ≡ cond b ps []
own_numbers s t true is [] = refl
own_numbers s t false is [] = refl
own_numbers s t true is (p ∷ ps) = ap (λ b. cons_option (cond b (Some p) None) (numbers_in (OfShard s) (map (in_shard t) ps))) is ∙ ap (λ (l : List ℕ). p ∷ l) (own_numbers s t true is ps)
own_numbers s t false is (p ∷ ps) = ap (λ b. cons_option (cond b (Some p) None) (numbers_in (OfShard s) (map (in_shard t) ps))) is ∙ own_numbers s t false is ps

object_numbers : (s t : ℕ) (b : Bool) → eqb s t ≡ b → (ps : List ℕ) → numbers_in (OfObject s) (map (in_object t) ps) ≡ cond b ps []
object_numbers s t true is [] = refl
object_numbers s t false is [] = refl
object_numbers s t true is (p ∷ ps) = ap (λ b. cons_option (cond b (Some p) None) (numbers_in (OfObject s) (map (in_object t) ps))) is ∙ ap (λ (l : List ℕ). p ∷ l) (object_numbers s t true is ps)
object_numbers s t false is (p ∷ ps) = ap (λ b. cons_option (cond b (Some p) None) (numbers_in (OfObject s) (map (in_object t) ps))) is ∙ object_numbers s t false is ps

no_objects : (s t : ℕ) (ps : List ℕ) → numbers_in (OfShard s) (map (in_object t) ps) ≡ []
no_objects s t [] = refl
no_objects s t (p ∷ ps) = no_objects s t ps

no_shards : (o t : ℕ) (ps : List ℕ) → numbers_in (OfObject o) (map (in_shard t) ps) ≡ []
no_shards o t [] = refl
no_shards o t (p ∷ ps) = no_shards o t ps

nothing_more : (xs : List ℕ) → xs ++ [] ≡ xs
nothing_more [] = refl
nothing_more (x ∷ xs) = ap (λ (l : List ℕ). x ∷ l) (nothing_more xs)

pub shard_numbers : (d : DrillWords) (s : ℕ) (w : Work) → numbers_in (OfShard s) (work_places d w) ≡ cond (eqb s (its_shard d w.request)) w.asks []
shard_numbers d s w =
    filter_map-append (number_in (OfShard s)) (map (in_shard (its_shard d w.request)) w.asks) (map (in_object (its_object d w.request)) w.ruling)
    ∙ (ap (λ (l : List ℕ). numbers_in (OfShard s) (map (in_shard (its_shard d w.request)) w.asks) ++ l) (no_objects s (its_object d w.request) w.ruling)
    ∙ (nothing_more (numbers_in (OfShard s) (map (in_shard (its_shard d w.request)) w.asks))
    ∙ own_numbers s (its_shard d w.request) (eqb s (its_shard d w.request)) refl w.asks))

pub ruling_numbers : (d : DrillWords) (o : ℕ) (w : Work) → numbers_in (OfObject o) (work_places d w) ≡ cond (eqb o (its_object d w.request)) w.ruling []
ruling_numbers d o w =
    filter_map-append (number_in (OfObject o)) (map (in_shard (its_shard d w.request)) w.asks) (map (in_object (its_object d w.request)) w.ruling)
    ∙ (ap (λ (l : List ℕ). l ++ numbers_in (OfObject o) (map (in_object (its_object d w.request)) w.ruling)) (no_shards o (its_shard d w.request) w.asks)
    ∙ object_numbers o (its_object d w.request) (eqb o (its_object d w.request)) refl w.ruling)

numbers_flat : (d : DrillWords) (cell : Cell) (ws : List Work) → numbers_in cell (flat_map (work_places d) ws) ≡ flat_map (λ (w : Work). numbers_in cell (work_places d w)) ws
numbers_flat d cell [] = refl
numbers_flat d cell (w ∷ ws) = filter_map-append (number_in cell) (work_places d w) (flat_map (work_places d) ws) ∙ ap (λ (l : List ℕ). numbers_in cell (work_places d w) ++ l) (numbers_flat d cell ws)

chosen : (a b p : ℕ) (xs : List ℕ) → In p (cond (eqb a b) xs []) → (a ≡ b) × In p xs
chosen a b p xs h = by (eqb a b) refl h
  where
    by : (t : Bool) → eqb a b ≡ t → In p (cond t xs []) → (a ≡ b) × In p xs
    by true is at = (grind (arith, nat_tests, is), at)
    by false is at = absurd at

once_is : (last p : ℕ) → p < last → once_within 0 last p ≡ 1
once_is last p lt = grind (arith, nat_tests)

-- ---- entries

pub some_below : {E : Type 0} (xs : List E) (p : ℕ) (e : E) → slice_get xs p ≡ Some e → p < length xs
some_below [] p e h = absurd (none-some e h)
some_below (x ∷ xs) zero e h = omega arith
some_below (x ∷ xs) (suc p) e h = omega (arith, some_below xs p e h)

front_get : {E : Type 0} (front rest : List E) (p : ℕ) (e : E) → slice_get front p ≡ Some e → slice_get (front ++ rest) p ≡ Some e
front_get [] rest p e h = absurd (none-some e h)
front_get (x ∷ front) rest zero e h = h
front_get (x ∷ front) rest (suc p) e h = front_get front rest p e h

read_listed : (ruling : Ruling) (op : Op) → op ≡ Read → listed ruling op ≡ None
read_listed ruling op is = ap (listed ruling) is ∙ by ruling
  where
    by : (r : Ruling) → listed r Read ≡ None
    by (rulings.Granted e) = refl
    by rulings.Denied = refl

none_listed : (es : List ObjectEntry) → ((p : ℕ) (e : ObjectEntry) → slice_get es p ≡ Some e → e.op ≡ Read) → filter_map listed_by es ≡ []
none_listed [] h = refl
none_listed (e ∷ es) h = ap (λ o. cons_option o (filter_map listed_by es)) (read_listed e.ruling e.op (h 0 e refl)) ∙ none_listed es (λ p x at. h (suc p) x at)

-- what stands at a request's object
pub came_ruling : (d : DrillWords) (J : Journals) (plan : Plan) (i : ℕ) (list : List Grant) (own ruling : List ℕ) → Came d J plan i list own ruling → (p : ℕ) → In p ruling →
    (place : ℕ) × (r : Ruling) × (slice_get (J.objects (its_object d i)) p ≡ Some (ruled_as (its_shard d i) place Read r))
came_ruling d J plan i list own ruling (object_full h) p is = absurd is
came_ruling d J plan i list own ruling (shard_full h) p is = absurd is
came_ruling d J plan i list own ruling (unheard at h) p is = absurd is
came_ruling d J plan i list own ruling (denied {place} {at} h stands) p (inl same) = (place, rulings.Denied, subst (λ k. slice_get (J.objects (its_object d i)) k ≡ Some (ruled_as (its_shard d i) place Read rulings.Denied)) same stands)
came_ruling d J plan i list own ruling (denied h stands) p (inr none) = absurd none
came_ruling d J plan i list own ruling (granted {place} {at} {entry = e} h stands) p (inl same) = (place, rulings.Granted e, subst (λ k. slice_get (J.objects (its_object d i)) k ≡ Some (ruled_as (its_shard d i) place Read (rulings.Granted e))) same stands)
came_ruling d J plan i list own ruling (granted h stands) p (inr none) = absurd none

-- an Ask and a Keep differ
not_kept : (a b : Told) (ask : Ask) (at e : ℕ) (c : Cached) → entry (Asks ask) a ≡ entry (Keeps at e c) b → ⊥
not_kept a b ask at e c same = differ (ap (λ (x : Entry). x.event) same)
  where
    differ : Asks ask ≡ Keeps at e c → ⊥
    differ h = absurd cc

-- the place is that of the request's Ask
pub record IsAskOf (d : DrillWords) (i : ℕ) (list : List Grant) (own : List ℕ) (p channel m : ℕ) (xs : List Grant) : Type 0 where
  pub rest : List ℕ
  pub is : own ≡ p ∷ rest
  pub channel_is : its_channel d i ≡ channel
  pub number_is : number_of d.lanes i ≡ m
  pub list_is : list ≡ xs

module _ (d : DrillWords) (J : Journals) (plan : Plan) (i : ℕ) (list : List Grant) where
  abbrev journal : List Entry
  journal = J.shards (its_shard d i)

  abbrev ask : Ask
  ask = load_ask (its_channel d i) (number_of d.lanes i) list

  entry_of_ask : (is : IsLoadList list) (place p : ℕ) (told : Told) → place ≡ p → slice_get journal place ≡ Some (entry (Asks ask) told) → IsLoadEntry plan journal p
  entry_of_ask is place p told same at = subst (IsLoadEntry plan journal) same (asks is at)

  entry_of_keep : (is : IsLoadList list) (place e keep p : ℕ) (c : Cached) (told : Told) → keep ≡ p → IsGrantedAt plan journal ask place e c → slice_get journal keep ≡ Some (entry (Keeps place e c) told) → IsLoadEntry plan journal p
  entry_of_keep is place e keep p c told same made at = subst (IsLoadEntry plan journal) same (keeps is made at)

  -- an own place of a request has its Ask, or a proof that was made for it
  pub came_entry : (own ruling : List ℕ) → IsLoadList list → Came d J plan i list own ruling → (p : ℕ) → In p own → IsLoadEntry plan journal p
  came_entry own ruling is (object_full h) p at = absurd at
  came_entry own ruling is (shard_full h) p at = absurd at
  came_entry own ruling is (unheard {place} {told} there h) p (inl same) = entry_of_ask is place p told same there
  came_entry own ruling is (unheard there h) p (inr none) = absurd none
  came_entry own ruling is (denied {place} h stands) p (inl same) = entry_of_ask is place p Told.Miss same (stood_at journal h.before (entry (Asks ask) Told.Miss) place h.stands)
  came_entry own ruling is (denied h stands) p (inr none) = absurd none
  came_entry own ruling is (granted {place} {at} {entry = e} (by_kept h) stands) p (inl same) = entry_of_ask is place p (Told.Hit e) same (stood_at journal h.before (entry (Asks ask) (Told.Hit e)) place h.stands)
  came_entry own ruling is (granted (by_kept h) stands) p (inr none) = absurd none
  came_entry own ruling is (granted {place} (was_kept h told) stands) p (inl same) = entry_of_ask is place p Told.Miss same (stood_at journal h.before (entry (Asks ask) Told.Miss) place h.stands)
  came_entry own ruling is (granted {place} {at} {entry = e} {c} (was_kept {keep} h told) stands) p (inr (inl same)) = entry_of_keep is place e keep p c Told.Kept same h (stood_at journal told.0 (entry (Keeps place e c) Told.Kept) keep told.1)
  came_entry own ruling is (granted (was_kept h told) stands) p (inr (inr none)) = absurd none
  came_entry own ruling is (granted {place} (was_dropped h told) stands) p (inl same) = entry_of_ask is place p Told.Miss same (stood_at journal h.before (entry (Asks ask) Told.Miss) place h.stands)
  came_entry own ruling is (granted {place} {at} {entry = e} {c} (was_dropped {keep} {cause} h told) stands) p (inr (inl same)) = entry_of_keep is place e keep p c (Told.Dropped cause) same h (stood_at journal told.0 (entry (Keeps place e c) (Told.Dropped cause)) keep told.1)
  came_entry own ruling is (granted (was_dropped h told) stands) p (inr (inr none)) = absurd none
  came_entry own ruling is (granted {place} (had_no_room h full) stands) p (inl same) = entry_of_ask is place p Told.Miss same (stood_at journal h.before (entry (Asks ask) Told.Miss) place h.stands)
  came_entry own ruling is (granted (had_no_room h full) stands) p (inr none) = absurd none

  -- of its own places the first alone has an Ask, which is its own
  its_own : (place p channel m : ℕ) (xs : List Grant) (t u : Told) (rest : List ℕ) → place ≡ p → slice_get journal place ≡ Some (entry (Asks ask) u) → AsksAt journal p channel m xs t → IsAskOf d i list (place ∷ rest) p channel m xs
  its_own place p channel m xs t u rest same at asked =
      let one : entry (Asks ask) u ≡ entry (Asks (load_ask channel m xs)) t = same_Some _ _ (sym (subst (λ k. slice_get journal k ≡ Some (entry (Asks ask) u)) same at) ∙ asked) in
      let a : ask ≡ load_ask channel m xs = same_ask (ap (λ (x : Entry). x.event) one) in
      record {
        rest = rest;
        is = ap (λ k. k ∷ rest) same;
        channel_is = ap (λ (x : Ask). x.channel) a;
        number_is = ap (λ (x : Ask). x.seq) a;
        list_is = ap (λ (x : Ask). x.list) a;
      }
    where
      same_ask : Asks ask ≡ Asks (load_ask channel m xs) → ask ≡ load_ask channel m xs
      same_ask h = cc

  not_keep : (place e keep p channel m : ℕ) (c : Cached) (xs : List Grant) (t u : Told) → keep ≡ p → slice_get journal keep ≡ Some (entry (Keeps place e c) u) → AsksAt journal p channel m xs t → ⊥
  not_keep place e keep p channel m c xs t u same at asked =
      not_kept t u (load_ask channel m xs) place e c (same_Some _ _ (sym asked ∙ subst (λ k. slice_get journal k ≡ Some (entry (Keeps place e c) u)) same at))

  pub came_ask : (own ruling : List ℕ) → Came d J plan i list own ruling → (p channel m : ℕ) (xs : List Grant) (t : Told) → In p own → AsksAt journal p channel m xs t → IsAskOf d i list own p channel m xs
  came_ask own ruling (object_full h) p channel m xs t at asked = absurd at
  came_ask own ruling (shard_full h) p channel m xs t at asked = absurd at
  came_ask own ruling (unheard {place} {told} there h) p channel m xs t (inl same) asked = its_own place p channel m xs t told [] same there asked
  came_ask own ruling (unheard there h) p channel m xs t (inr none) asked = absurd none
  came_ask own ruling (denied {place} h stands) p channel m xs t (inl same) asked = its_own place p channel m xs t Told.Miss [] same (stood_at journal h.before (entry (Asks ask) Told.Miss) place h.stands) asked
  came_ask own ruling (denied h stands) p channel m xs t (inr none) asked = absurd none
  came_ask own ruling (granted {place} {at} {entry = e} (by_kept h) stands) p channel m xs t (inl same) asked = its_own place p channel m xs t (Told.Hit e) [] same (stood_at journal h.before (entry (Asks ask) (Told.Hit e)) place h.stands) asked
  came_ask own ruling (granted (by_kept h) stands) p channel m xs t (inr none) asked = absurd none
  came_ask own ruling (granted {place} (was_kept {keep} h told) stands) p channel m xs t (inl same) asked = its_own place p channel m xs t Told.Miss (keep ∷ []) same (stood_at journal h.before (entry (Asks ask) Told.Miss) place h.stands) asked
  came_ask own ruling (granted {place} {at} {entry = e} {c} (was_kept {keep} h told) stands) p channel m xs t (inr (inl same)) asked = absurd (not_keep place e keep p channel m c xs t Told.Kept same (stood_at journal told.0 (entry (Keeps place e c) Told.Kept) keep told.1) asked)
  came_ask own ruling (granted (was_kept h told) stands) p channel m xs t (inr (inr none)) asked = absurd none
  came_ask own ruling (granted {place} (was_dropped {keep} h told) stands) p channel m xs t (inl same) asked = its_own place p channel m xs t Told.Miss (keep ∷ []) same (stood_at journal h.before (entry (Asks ask) Told.Miss) place h.stands) asked
  came_ask own ruling (granted {place} {at} {entry = e} {c} (was_dropped {keep} {cause} h told) stands) p channel m xs t (inr (inl same)) asked = absurd (not_keep place e keep p channel m c xs t (Told.Dropped cause) same (stood_at journal told.0 (entry (Keeps place e c) (Told.Dropped cause)) keep told.1) asked)
  came_ask own ruling (granted (was_dropped h told) stands) p channel m xs t (inr (inr none)) asked = absurd none
  came_ask own ruling (granted {place} (had_no_room h full) stands) p channel m xs t (inl same) asked = its_own place p channel m xs t Told.Miss [] same (stood_at journal h.before (entry (Asks ask) Told.Miss) place h.stands) asked
  came_ask own ruling (granted (had_no_room h full) stands) p channel m xs t (inr none) asked = absurd none

  pub few_asks : (own ruling : List ℕ) → Came d J plan i list own ruling → (length own ≤ 2) × (length ruling ≤ 1)
  few_asks own ruling (object_full h) = (omega arith, omega arith)
  few_asks own ruling (shard_full h) = (omega arith, omega arith)
  few_asks own ruling (unheard there h) = (omega arith, omega arith)
  few_asks own ruling (denied h stands) = (omega arith, omega arith)
  few_asks own ruling (granted (by_kept h) stands) = (omega arith, omega arith)
  few_asks own ruling (granted (was_kept h told) stands) = (omega arith, omega arith)
  few_asks own ruling (granted (was_dropped h told) stands) = (omega arith, omega arith)
  few_asks own ruling (granted (had_no_room h full) stands) = (omega arith, omega arith)

-- ---- all works

module _ (d : DrillWords) (fits : FitsDrill d) (n : Node) (node : IsLoadNode d n) (J : Journals) (works : LoadWorks d n J) where
  abbrev pub every : List Work
  every = flat_map (λ (ws : List Work). ws) works.lanes

  pub whole_came : (w : Work) → In w every → CameBy d n J w
  whole_came w is = let r = some_lane d n J (range_with_len 0 d.lanes) works.lanes works.each w is in r.4.came w r.3

  -- whose an entry is
  owner : (cell : Cell) (p : ℕ) → p < entries_in J cell → (w : Work) × In w every × In p (numbers_in cell (work_places d w))
  owner cell p lt =
      let once = works.owned cell p ∙ once_is (entries_in J cell) p lt in
      let at = in_times p (numbers_in cell (flat_map (work_places d) every)) (omega (arith, once)) in
      in_flat (λ (w : Work). numbers_in cell (work_places d w)) every p (subst (In p) (numbers_flat d cell every) at)

  pub shard_owner : (s p : ℕ) → p < length (J.shards s) → (w : Work) × In w every × (s ≡ its_shard d w.request) × In p w.asks
  shard_owner s p lt =
      let o = owner (OfShard s) p lt in
      let c = chosen s (its_shard d o.0.request) p o.0.asks (subst (In p) (shard_numbers d s o.0) o.2) in
      (o.0, o.1, c.0, c.1)

  pub object_owner : (o p : ℕ) → p < length (J.objects o) → (w : Work) × In w every × (o ≡ its_object d w.request) × In p w.ruling
  object_owner o p lt =
      let h = owner (OfObject o) p lt in
      let c = chosen o (its_object d h.0.request) p h.0.ruling (subst (In p) (ruling_numbers d o h.0) h.2) in
      (h.0, h.1, c.0, c.1)

  -- each entry of an object is a Read
  pub all_read : (o p : ℕ) (e : ObjectEntry) → slice_get (J.objects o) p ≡ Some e → e.op ≡ Read
  all_read o p e at =
      let h = object_owner o p (some_below (J.objects o) p e at) in
      let came = whole_came h.0 h.1 in
      let r = came_ruling d J (load_plan d (channels_of n) (its_shard d h.0.request)) h.0.request came.0 h.0.asks h.0.ruling came.2 p h.3 in
      let same = same_Some e (ruled_as (its_shard d h.0.request) r.0 Read r.1) (sym at ∙ ap (λ k. slice_get (J.objects k) p) h.2 ∙ r.2) in
      ap (λ (x : ObjectEntry). x.op) same

  list_stays : (i : ℕ) (list : List Grant) → WasListed d J i list → list ≡ its_list d i
  list_stays i list was =
      let none = none_listed was.before (λ p e at. all_read (its_object d i) p e (ap (λ (l : List ObjectEntry). slice_get l p) was.begins.is ∙ front_get was.before was.begins.rest p e at)) in
      was.is ∙ ap (λ (l : List (List Grant)). latest (its_list d i) l) none

  abbrev pub plan_at : ℕ → Plan
  plan_at s = load_plan d (channels_of n) s

  -- what came of each, by the list that its object has
  pub came_so : (w : Work) → In w every → Came d J (plan_at (its_shard d w.request)) w.request (its_list d w.request) w.asks w.ruling
  came_so w is =
      let came = whole_came w is in
      subst (λ (l : List Grant). Came d J (plan_at (its_shard d w.request)) w.request l w.asks w.ruling) (list_stays w.request came.0 came.1) came.2

  pub is_list : (i : ℕ) → IsLoadList (its_list d i)
  is_list i = by (is_even (word_of d.seed i))
    where
      by : (b : Bool) → IsLoadList (cond b (reader ∷ []) [])
      by true = inl refl
      by false = inr refl

  -- ---- how many

  zip_sum : (f : ℕ → ℕ) (ks : List ℕ) (lanes : List (List Work)) → AllZip (LaneOf d n J) ks lanes →
      sum_by (λ (ws : List Work). sum_by (λ (w : Work). f w.request) ws) lanes ≡ sum_by (λ lane. sum_by f (requests_of d.requests d.lanes lane)) ks
  zip_sum f [] [] each = refl
  zip_sum f [] (ws ∷ lanes) each = absurd each
  zip_sum f (k ∷ ks) [] each = absurd each
  zip_sum f (k ∷ ks) (ws ∷ lanes) each =
      let here = sym (sum_mapped f (λ (w : Work). w.request) ws) ∙ ap (sum_by f) each.0.requests_are in
      omega (arith, sum_by-cons (λ (us : List Work). sum_by (λ (w : Work). f w.request) us) ws lanes, sum_by-cons (λ lane. sum_by f (requests_of d.requests d.lanes lane)) k ks, here, zip_sum f ks lanes each.1)

  pub sum_every : (f : ℕ → ℕ) → sum_by (λ (w : Work). f w.request) every ≡ sum_by f (range_with_len 0 d.requests)
  sum_every f =
      sum_flat (λ (w : Work). f w.request) (λ (ws : List Work). ws) works.lanes
      ∙ (zip_sum f (range_with_len 0 d.lanes) works.lanes works.each
      ∙ all_requests f d.lanes (let some = fits.some_lanes in omega (arith, some)) d.requests)

  pub count_every : length every ≡ d.requests
  count_every =
      let a = sum_every (λ i. 1) in
      let b = sum_ones every in
      let c = sum_ones (range_with_len 0 d.requests) in
      let e = length-range_with_len 0 d.requests in
      omega (arith, a, b, c, e)

  entries_counted : (cell : Cell) → entries_in J cell ≡ sum_by (λ (w : Work). length (numbers_in cell (work_places d w))) every
  entries_counted cell =
      let l = length_within 0 (entries_in J cell) (numbers_in cell (flat_map (work_places d) every)) (works.owned cell) in
      let f = ap (λ (xs : List ℕ). length xs) (numbers_flat d cell every) ∙ length_flat (λ (w : Work). numbers_in cell (work_places d w)) every in
      omega (arith, l, f)

  length_cond : (b : Bool) (xs : List ℕ) → length (cond b xs []) ≡ cond b (length xs) 0
  length_cond true xs = refl
  length_cond false xs = refl

  pub shard_length : (s : ℕ) → length (J.shards s) ≡ sum_by (λ (w : Work). cond (eqb s (its_shard d w.request)) (length w.asks) 0) every
  shard_length s =
      entries_counted (OfShard s)
      ∙ sum_same (λ (w : Work). length (numbers_in (OfShard s) (work_places d w))) (λ (w : Work). cond (eqb s (its_shard d w.request)) (length w.asks) 0) every
      (λ w is. ap (λ (l : List ℕ). length l) (shard_numbers d s w) ∙ length_cond (eqb s (its_shard d w.request)) w.asks)

  pub object_length : (o : ℕ) → length (J.objects o) ≡ sum_by (λ (w : Work). cond (eqb o (its_object d w.request)) (length w.ruling) 0) every
  object_length o =
      entries_counted (OfObject o)
      ∙ sum_same (λ (w : Work). length (numbers_in (OfObject o) (work_places d w))) (λ (w : Work). cond (eqb o (its_object d w.request)) (length w.ruling) 0) every
      (λ w is. ap (λ (l : List ℕ). length l) (ruling_numbers d o w) ∙ length_cond (eqb o (its_object d w.request)) w.ruling)

  at_most : (b : Bool) (x y : ℕ) → x ≤ y → cond b x 0 ≤ y
  at_most true x y le = le
  at_most false x y le = omega arith

  twos : (ws : List Work) → sum_by (λ (w : Work). 2) ws ≡ 2 * length ws
  twos [] = refl
  twos (w ∷ ws) = omega (arith, sum_by-cons (λ (x : Work). 2) w ws, twos ws)

  -- the journals have room
  pub shard_room : (s : ℕ) → length (J.shards s) < its_limit d
  shard_room s =
      let most = sum_most (λ (w : Work). cond (eqb s (its_shard d w.request)) (length w.asks) 0) (λ (w : Work). 2) every
      (λ w is. at_most (eqb s (its_shard d w.request)) (length w.asks) 2 (few_asks d J (plan_at (its_shard d w.request)) w.request (its_list d w.request) w.asks w.ruling (came_so w is)).0) in
      omega (arith, shard_length s, most, twos every, count_every)

  pub object_room : (o : ℕ) → length (J.objects o) < its_limit d
  object_room o =
      let most = sum_most (λ (w : Work). cond (eqb o (its_object d w.request)) (length w.ruling) 0) (λ (w : Work). 1) every
      (λ w is. at_most (eqb o (its_object d w.request)) (length w.ruling) 1 (few_asks d J (plan_at (its_shard d w.request)) w.request (its_list d w.request) w.asks w.ruling (came_so w is)).1) in
      omega (arith, object_length o, most, sum_ones every, count_every)

  -- ---- the journal of a shard

  -- the request whose Ask it is
  pub record AsksFor (s p channel m : ℕ) (xs : List Grant) : Type 0 where
    pub work : Work
    pub among : In work every
    pub shard_is : s ≡ its_shard d work.request
    pub own : In p work.asks
    pub ask : IsAskOf d work.request (its_list d work.request) work.asks p channel m xs

  pub who_asks : (s p channel m : ℕ) (xs : List Grant) (t : Told) → AsksAt (J.shards s) p channel m xs t → AsksFor s p channel m xs
  who_asks s p channel m xs t asked =
      let o = shard_owner s p (some_below (J.shards s) p (entry (Asks (load_ask channel m xs)) t) asked) in
      record {
        work = o.0;
        among = o.1;
        shard_is = o.2;
        own = o.3;
        ask = came_ask d J (plan_at (its_shard d o.0.request)) o.0.request (its_list d o.0.request) o.0.asks o.0.ruling (came_so o.0 o.1) p channel m xs t o.3
            (subst (λ k. AsksAt (J.shards k) p channel m xs t) o.2 asked);
      }

  pub same_head : (xs : List ℕ) (p q : ℕ) (ps qs : List ℕ) → xs ≡ p ∷ ps → xs ≡ q ∷ qs → p ≡ q
  same_head xs p q ps qs a b = heads (sym a ∙ b)
    where
      heads : p ∷ ps ≡ q ∷ qs → p ≡ q
      heads h = cc

  same_rest : (i j channel : ℕ) → its_channel d i ≡ channel → its_channel d j ≡ channel → i % d.lanes ≡ j % d.lanes
  same_rest i j channel a b = omega (arith, a, b)

  -- of two Asks of a channel the earlier one is of a request that came before
  pub earlier_asks : (s p q channel m k : ℕ) (xs ys : List Grant) → p < q → (a : AsksFor s p channel m xs) → (b : AsksFor s q channel k ys) → Before d a.work b.work
  earlier_asks s p q channel m k xs ys lt a b =
      elim (compared d n J 0 d.lanes works.lanes works.each a.work b.work a.among b.among (same_rest a.work.request b.work.request channel a.ask.channel_is b.ask.channel_is)) [
        | inl same ↦ absurd (let e = same_head a.work.asks p q a.ask.rest b.ask.rest a.ask.is (ap (λ (w : Work). w.asks) same ∙ b.ask.is) in omega (arith, lt, e))
        | inr (inl before) ↦ before
        | inr (inr after) ↦ absurd (let e = after.places q p b.own a.own in omega (arith, lt, e))
      ]

  pub load_journal : (s : ℕ) → s < 4 → IsLoadJournal (plan_at s) (J.shards s)
  load_journal s below = record {
    planned = record {
      anchors = refl;
      commons = refl;
      few = let few = count_by-le-length (λ c. eqb (c % 4) s) (channels_of n) in let lanes = fits.few_lanes in
          omega (arith, length-filter (λ c. eqb (c % 4) s) (channels_of n), few, length-map n.channels (λ (c : ℕ × List ℕ). c.0), node.few_channels, lanes);
    };
    legal = works.legal.shards s (plan_at s) here;
    entries = λ place lt.
        let o = shard_owner s place lt in
        subst (λ k. IsLoadEntry (plan_at k) (J.shards k) place) (sym o.2)
        (came_entry d J (plan_at (its_shard d o.0.request)) o.0.request (its_list d o.0.request) o.0.asks o.0.ruling (is_list o.0.request) (came_so o.0 o.1) place o.3);
    rising = λ p q channel m k xs ys t u lt asked also.
        let a = who_asks s p channel m xs t asked in
        let b = who_asks s q channel k ys u also in
        let before = earlier_asks s p q channel m k xs ys lt a b in
        let later = later_number d.lanes a.work.request b.work.request (same_rest a.work.request b.work.request channel a.ask.channel_is b.ask.channel_is) before.earlier in
        let x = a.ask.number_is in
        let y = b.ask.number_is in
        omega (arith, later, x, y);
    first = λ p channel m xs t asked. let a = who_asks s p channel m xs t asked in let x = a.ask.number_is in omega (arith, x);
  }
    where
      here : slice_get n.plans s ≡ Some (plan_at s)
      here = let e : 0 + s ≡ s = omega arith in ap (λ (l : List Plan). slice_get l s) node.plans ∙ planned_at (load_plan d (channels_of n)) 0 4 s below ∙ ap (λ k. Some (load_plan d (channels_of n) k)) e
