-- What is told of the Asks of a drill's load.
use Rattle.std.proofs.Common.{◌≡◌, ◌⊎◌, ℕ, ◌<◌, Bool, true, false, List, [], ◌∷◌, length, take, position, Option, Some, None, slice_get, refl, sym, ◌∙◌, ap, subst, inl, inr, cond, arith}
use Rattle.std.specs.List.{list_any}
use Rattle.std.proofs.lemmas.Bool.{cases_Bool, false≢true, false_from_ne_true}
use Rattle.std.proofs.lemmas.List.Folds.{Any-from_list_any, list_any_at}
use Rattle.std.proofs.lemmas.Option.{same_Some, slice_get_within, slice_get-get_or, get_or_from_slice_get}
use Rattle.prin_term.specs.Principal.{Key, Name}
use Rattle.prin_term.specs.View.{Grant}
use Rattle.proof_cache.specs.Cached.{Cached}
use Rattle.proof_cache.specs.Cache.{is_for}
use Rattle.proof_cache.proofs.Marks.{is_kept_for}
use Rattle.agent_core.specs.declared.told.Told.{Told}
use Rattle.agent_core.specs.State.{Plan, Ask, Event, Asks, Keeps}
use Rattle.agent_core.specs.Caches.{unlapsed, first_hit, hit_or_miss}
use Rattle.agent_core.specs.Journals.{Entry, entry, Stands, cache_after, told_of, MayFollow}
use Rattle.agent_core.proofs.Journaling.{slice_front}
use Rattle.taos_drill.specs.Opened.{reader}
use Rattle.node_journals.specs.Load.{load_ask, AsksAt, IsLoadEntry, asks, keeps, IsLoadJournal, KeepsInTime}
use Rattle.node_journals.specs.JournalLaws.{AsksAreJudged, ReaderIsGranted, FirstMisses, LaterHit}
use Rattle.node_journals.proofs.Fronts.{stands_after, in_front}
use Rattle.node_journals.proofs.States.{load_judged, same_ask, not_ask}
use Rattle.node_journals.proofs.Made.{granted_made, granted_at, not_denied}
use Rattle.node_journals.proofs.Lists.{is_for_these}
use Rattle.node_journals.proofs.Caching.{keeps_for, IsLoadCache, none_lapse, load_cache, asked_before}

-- what is told of an Ask that name 1 may read by, where a proof is kept for it or not
abbrev hit_if : Bool → Told
hit_if served = hit_or_miss (cond served (Some 0) None)

-- where the one entry of a list stands, if it passes
one_position : (b : Bool) (g : Grant) → position (λ (x : Grant). b) (g ∷ []) ≡ cond b (Some 0) None
one_position true g = refl
one_position false g = refl

hit_or_miss_cases : (o : Option ℕ) → (hit_or_miss o ≡ Told.Miss) ⊎ ((e : ℕ) × (hit_or_miss o ≡ Told.Hit e))
hit_or_miss_cases None = inl refl
hit_or_miss_cases (Some e) = inr (e, refl)

-- two proofs that are to be kept that are one are for one Ask, and one proof
abbrev at_in : Event → Option ℕ
at_in (Keeps at e c) = Some at
at_in _ = None

same_at : (p q e f : ℕ) (c d : Cached) (t u : Told) → entry (Keeps p e c) t ≡ entry (Keeps q f d) u → p ≡ q
same_at p q e f c d t u h = same_Some p q (ap (λ (x : Entry). at_in x.event) h)

not_keeps : (a : Ask) (at e : ℕ) (c : Cached) (t u : Told) → entry (Asks a) t ≡ entry (Keeps at e c) u → ⊥
not_keeps a at e c t u h = not_ask a at e c t u (sym h)

same_key : (k l : ℕ) → Key k ≡ Key l → k ≡ l
same_key k l e = cc

module _ (plan : Plan) (journal : List Entry) (load : IsLoadJournal plan journal) where
  -- an Ask is told by what is kept
  told_by : (p k n : ℕ) (list : List Grant) (told : Told) → AsksAt journal p k n list told →
      told ≡ hit_or_miss (first_hit (unlapsed 1000 (cache_after plan (take p journal))) (load_ask k n list))
  told_by p k n list told at =
      let s : Stands journal p (take p journal) (entry (Asks (load_ask k n list)) told) = stands_after journal p (entry (Asks (load_ask k n list)) told) at in
      let may : MayFollow plan (take p journal) (entry (Asks (load_ask k n list)) told) = load.legal (take p journal) (entry (Asks (load_ask k n list)) told) s.rest s.is in
      may.tells ∙ ap (told_of (cache_after plan (take p journal)) (Asks (load_ask k n list))) (load_judged plan journal load (take p journal) s.rest k n list told s.is)

  pub told_judged : (p k n : ℕ) (list : List Grant) (told : Told) → AsksAt journal p k n list told → (told ≡ Told.Miss) ⊎ ((e : ℕ) × (told ≡ Told.Hit e))
  told_judged p k n list told at =
      let is = told_by p k n list told at in
      elim (hit_or_miss_cases (first_hit (unlapsed 1000 (cache_after plan (take p journal))) (load_ask k n list))) [
        | inl miss ↦ inl (is ∙ miss)
        | inr hit ↦ inr (hit.0, is ∙ hit.1)
      ]

  -- an Ask for the list that name 1 may read is a hit exactly where a proof for its channel was to be kept
  pub told_reader : (p k n : ℕ) (told : Told) → AsksAt journal p k n (reader ∷ []) told → told ≡ hit_if (list_any (keeps_for k) (take p journal))
  told_reader p k n told at =
      let s : Stands journal p (take p journal) (entry (Asks (load_ask k n (reader ∷ []))) told) = stands_after journal p (entry (Asks (load_ask k n (reader ∷ []))) told) at in
      let kept : IsLoadCache plan.channels (take p journal) (cache_after plan (take p journal)) =
      load_cache plan journal load (take p journal) (entry (Asks (load_ask k n (reader ∷ []))) told ∷ s.rest) s.is in
      told_by p k n (reader ∷ []) told at
      ∙ (ap (λ (cs : List Cached). hit_or_miss (first_hit cs (load_ask k n (reader ∷ [])))) (none_lapse plan.channels (cache_after plan (take p journal)) kept.made)
      ∙ (ap hit_or_miss (one_position (list_any (is_for (Key k) (Name 1)) (cache_after plan (take p journal))) reader)
      ∙ ap hit_if (kept.kept k)))

  -- ---- proofs that are to be kept

  -- the Ask for which a proof for the channel is to be kept
  made_for : (k place : ℕ) (x : Entry) → slice_get journal place ≡ Some x → keeps_for k x ≡ true → IsLoadEntry plan journal place →
      (at n : ℕ) × (at < place) × AsksAt journal at k n (reader ∷ []) Told.Miss
  made_for k place x is passes (asks {channel} {seq} {list} {told} l at) =
      let same : entry (Asks (load_ask channel seq list)) told ≡ x = same_Some (entry (Asks (load_ask channel seq list)) told) x (sym at ∙ is) in
      absurd (false≢true (ap (keeps_for k) same ∙ passes))
  made_for k place x is passes (keeps {channel} {seq} {at = p} {e} {list} {c} {told} l g at) =
      let same : entry (Keeps p e c) told ≡ x = same_Some (entry (Keeps p e c) told) x (sym at ∙ is) in
      let (reads, made) = granted_made plan journal load channel seq p e list c l g in
      let (subject, who) = is_kept_for (Key k) (Name 1) c (ap (keeps_for k) same ∙ passes) in
      let mine : channel ≡ k = same_key channel k (sym made.subject ∙ subject) in
      let s : Stands journal place (take place journal) (entry (Keeps p e c) told) = stands_after journal place (entry (Keeps p e c) told) at in
      let before : AsksAt (take place journal) p channel seq list Told.Miss = asked_before plan journal load (take place journal) s.rest channel seq p e list c told s.is g in
      let within : p < length (take place journal) = slice_get_within (take place journal) p (entry (Asks (load_ask channel seq list)) Told.Miss) before in
      let placed : length (take place journal) ≡ place = s.placed in (
        p,
        seq,
        omega arith,
        subst (λ (xs : List Grant). AsksAt journal p k seq xs Told.Miss) reads
            (subst (λ (x : ℕ). AsksAt journal p x seq list Told.Miss) mine (granted_at plan journal load channel seq p e list c g)),
      )

  -- an element before a place passes a test: it stands in the journal
  found_in : (k q : ℕ) (y : Entry) → slice_get journal q ≡ Some y → list_any (keeps_for k) (take q journal) ≡ true →
      (i : ℕ) × (x : Entry) × (i < q) × (slice_get journal i ≡ Some x) × (keeps_for k x ≡ true)
  found_in k q y at any =
      let s : Stands journal q (take q journal) y = stands_after journal q y at in
      let (i, x, lt, is, passes) = Any-from_list_any (keeps_for k) (take q journal) any in
      let here : slice_get (take q journal) i ≡ Some x = slice_get-get_or (take q journal) i x lt ∙ ap Some is in
      let placed : length (take q journal) ≡ q = s.placed in
      (i, x, omega arith, ap (λ (l : List Entry). slice_get l i) s.is ∙ slice_front (take q journal) (y ∷ s.rest) i x here, passes)

  -- and the other way
  any_in : (k q i : ℕ) (y x : Entry) → slice_get journal q ≡ Some y → slice_get journal i ≡ Some x → i < q → keeps_for k x ≡ true → list_any (keeps_for k) (take q journal) ≡ true
  any_in k q i y x at there lt passes =
      let s : Stands journal q (take q journal) y = stands_after journal q y at in
      let placed : length (take q journal) ≡ q = s.placed in
      let short : i < length (take q journal) = omega arith in
      let here : slice_get (take q journal) i ≡ Some x =
      in_front (take q journal) (y ∷ s.rest) i x (ap (λ (l : List Entry). slice_get l i) (sym s.is) ∙ there) short in
      list_any_at (keeps_for k) (take q journal) i x short (ap (keeps_for k) (get_or_from_slice_get (take q journal) i x x here) ∙ passes)

  entry_at : (i : ℕ) (x : Entry) → slice_get journal i ≡ Some x → IsLoadEntry plan journal i
  entry_at i x at = load.entries i (slice_get_within journal i x at)

  pub first_is_miss : (q k n : ℕ) (u : Told) → AsksAt journal q k n (reader ∷ []) u →
      ((p m : ℕ) (t : Told) → p < q → AsksAt journal p k m (reader ∷ []) t → ⊥) → u ≡ Told.Miss
  first_is_miss q k n u at none =
      let kept : list_any (keeps_for k) (take q journal) ≡ false =
      false_from_ne_true (list_any (keeps_for k) (take q journal)) (λ any.
      let (i, x, lt, there, passes) = found_in k q (entry (Asks (load_ask k n (reader ∷ []))) u) at any in
      let (p, m, below, asked) = made_for k i x there passes (entry_at i x there) in
      none p m Told.Miss (omega arith) asked) in
      told_reader q k n u at ∙ ap hit_if kept

  -- a proof that is to be kept for an Ask of a channel is one for the channel
  keeps_mine : (k m p e i : ℕ) (c : Cached) (told : Told) → AsksAt journal p k m (reader ∷ []) Told.Miss → slice_get journal i ≡ Some (entry (Keeps p e c) told) →
      IsLoadEntry plan journal i → keeps_for k (entry (Keeps p e c) told) ≡ true
  keeps_mine k m p e i c told asked there (asks {channel} {seq} {list} {told = t} l at) =
      absurd (not_ask (load_ask channel seq list) p e c t told
      (same_Some (entry (Keeps p e c) told) (entry (Asks (load_ask channel seq list)) t) (sym there ∙ at)))
  keeps_mine k m p e i c told asked there (keeps {channel} {seq} {at = q} {e = f} {list} {c = d} {told = t} l g at) =
      let same : entry (Keeps p e c) told ≡ entry (Keeps q f d) t = same_Some (entry (Keeps p e c) told) (entry (Keeps q f d) t) (sym there ∙ at) in
      let place : p ≡ q = same_at p q e f c d told t same in
      let (reads, made) = granted_made plan journal load channel seq q f list d l g in
      let its : AsksAt journal q channel seq list Told.Miss = granted_at plan journal load channel seq q f list d g in
      let mine : AsksAt journal q k m (reader ∷ []) Told.Miss = subst (λ (x : ℕ). AsksAt journal x k m (reader ∷ []) Told.Miss) place asked in
      let one : load_ask channel seq list ≡ load_ask k m (reader ∷ []) =
      same_ask (load_ask channel seq list) (load_ask k m (reader ∷ [])) Told.Miss Told.Miss
      (same_Some (entry (Asks (load_ask channel seq list)) Told.Miss) (entry (Asks (load_ask k m (reader ∷ []))) Told.Miss) (sym its ∙ mine)) in
      let number : channel ≡ k = ap (λ (a : Ask). a.channel) one in
      ap (keeps_for k) same ∙ is_for_these (Key k) (Name 1) d (made.subject ∙ ap Key number) made.who

  pub later_is_hit : KeepsInTime journal → (p q k m n : ℕ) (t u : Told) → p < q → AsksAt journal p k m (reader ∷ []) t → AsksAt journal q k n (reader ∷ []) u →
      (e : ℕ) × (u ≡ Told.Hit e)
  later_is_hit in_time p q k m n t u lt first second =
      let x : Entry = entry (Asks (load_ask k m (reader ∷ []))) t in
      let y : Entry = entry (Asks (load_ask k n (reader ∷ []))) u in
      let kept : list_any (keeps_for k) (take q journal) ≡ true =
      elim (cases_Bool (list_any (keeps_for k) (take p journal))) [
        | inl any ↦
            let (i, z, below, there, passes) = found_in k p (entry (Asks (load_ask k m (reader ∷ []))) t) first any in
            any_in k q i (entry (Asks (load_ask k n (reader ∷ []))) u) z second there (omega arith) passes
        | inr none ↦
            let missed : t ≡ Told.Miss = told_reader p k m t first ∙ ap hit_if none in
            let at : AsksAt journal p k m (reader ∷ []) Told.Miss = subst (AsksAt journal p k m (reader ∷ [])) missed first in
            let (i, e, c, told, below, there) = in_time p q k m n (reader ∷ []) u lt at second in
            any_in k q i (entry (Asks (load_ask k n (reader ∷ []))) u) (entry (Keeps p e c) told) second there below
            (keeps_mine k m p e i c told at there (entry_at i (entry (Keeps p e c) told) there))
      ] in
      (0, told_reader q k n u second ∙ ap hit_if kept)

-- ---- the laws

pub asks_judged : AsksAreJudged
asks_judged plan journal load place channel seq list told at = told_judged plan journal load place channel seq list told at

pub reader_not_denied : ReaderIsGranted
reader_not_denied plan journal load place channel seq denial d = not_denied plan journal load place channel seq denial d

pub first_misses : FirstMisses
first_misses plan journal load q channel n u at none = first_is_miss plan journal load q channel n u at none

pub later_hit : LaterHit
later_hit plan journal load in_time p q channel m n t u lt first second = later_is_hit plan journal load in_time p q channel m n t u lt first second
