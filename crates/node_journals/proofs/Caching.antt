-- The proofs that are kept under the load of a drill: one for each channel for which one was to be kept.
use Rattle.std.proofs.Common.{◌≡◌, ℕ, suc, ◌<◌, ◌≤◌, Bool, true, false, not, ◌||◌, nat_le, List, [], ◌∷◌, ◌++◌, length, Option, Some, None, slice_get, All, Contains, refl, sym, ◌∙◌, ap, ap₂, subst, inl, inr, arith}
use Rattle.std.specs.List.{list_any}
use Rattle.std.proofs.lemmas.Bool.{cases_Bool, cond-false, lt-leb, or_left, or_right, not_from_true, not_from_false}
use Rattle.std.proofs.lemmas.List.{take_all}
use Rattle.std.proofs.lemmas.List.Elements.{All-nil, All-cons, All-filter, All-weaker}
use Rattle.std.proofs.lemmas.List.Folds.{list_any-append}
use Rattle.std.proofs.lemmas.Option.{same_Some, slice_get_within}
use Rattle.prin_term.specs.Principal.{Principal, Key, Name}
use Rattle.prin_term.specs.View.{Grant}
use Rattle.stmt_codec.specs.Certificates.{Certificate}
use Rattle.stmt_codec.specs.Equality.{same_certificate}
use Rattle.stmt_codec.proofs.Equal.{same_certificate-itself}
use Rattle.proof_cache.specs.Cached.{Cached}
use Rattle.proof_cache.specs.Cache.{IsCache, is_for, has_lapsed, keeping, without}
use Rattle.agent_core.specs.declared.told.Told.{Told}
use Rattle.agent_core.specs.declared.told.DropCause.{DropCause}
use Rattle.agent_core.specs.Held.{among}
use Rattle.agent_core.specs.State.{Plan, State, Ask, Event, Asks, Keeps, held_for, first_missing, settled_by}
use Rattle.agent_core.specs.Caches.{unlapsed, used_by, cache_next}
use Rattle.agent_core.specs.Journals.{Entry, entry, state_after, cache_after, MayFollow}
use Rattle.agent_core.specs.Asked.{IsGrantedAt}
use Rattle.agent_core.proofs.Journaling.{cache_after-push, slice_front}
use Rattle.agent_core.proofs.KeptFew.{cache_small}
use Rattle.taos_drill.specs.Sent.{drill_certificate}
use Rattle.node_journals.specs.Load.{load_ask, IsLoadList, AsksAt, IsLoadEntry, asks, keeps, IsLoadJournal}
use Rattle.node_journals.proofs.Fronts.{each_front, at_front}
use Rattle.node_journals.proofs.States.{IsLoadState, load_state, load_clock}
use Rattle.node_journals.proofs.Made.{IsMade, granted_made, granted_at}
use Rattle.node_journals.proofs.Lists.{or_false, all_pass, none_found, any_used_by, all_used_by, IsOfLoad, any_without, fewer_others}

-- whether the event is that a proof for the channel is to be kept
abbrev pub event_keeps : ℕ → Event → Bool
event_keeps k (Keeps at e c) = is_for (Key k) (Name 1) c
event_keeps k _ = false

abbrev pub keeps_for : ℕ → Entry → Bool
keeps_for k x = event_keeps k x.event

-- what is kept after a front of such a journal
pub record IsLoadCache (channels : List ℕ) (j : List Entry) (cache : List Cached) : Type 0 where
  pub made : All (IsOfLoad channels) cache
  -- a proof for a channel is kept where one was to be kept
  pub kept : (k : ℕ) → list_any (is_for (Key k) (Name 1)) cache ≡ list_any (keeps_for k) j

any_push : (k : ℕ) (j : List Entry) (x : Entry) → list_any (keeps_for k) (j ++ x ∷ []) ≡ (list_any (keeps_for k) j || keeps_for k x)
any_push k j x = list_any-append (keeps_for k) j (x ∷ []) ∙ ap (λ b. list_any (keeps_for k) j || b) (or_false (keeps_for k x))

-- ---- an Ask

-- nothing lapses
pub none_lapse : (channels : List ℕ) (cache : List Cached) → All (IsOfLoad channels) cache → unlapsed 1000 cache ≡ cache
none_lapse channels cache all =
    all_pass (λ c. not (has_lapsed 1000 c)) cache
    (All-weaker (IsOfLoad channels) (λ c. not (has_lapsed 1000 c) ≡ true)
    (λ c l. not_from_false (nat_le c.lease 1000) (lt-leb c.lease 1000 l.made.lease)) cache all)

after_ask_kept : (channels : List ℕ) (j : List Entry) (cache : List Cached) (a : Ask) (told : Told) → IsLoadCache channels j cache →
    IsLoadCache channels (j ++ entry (Asks a) told ∷ []) (cache_next 1000 (Asks a) told cache)
after_ask_kept channels j cache a told is =
    let whole : unlapsed 1000 cache ≡ cache = none_lapse channels cache is.made in
    subst (λ (cs : List Cached). IsLoadCache channels (j ++ entry (Asks a) told ∷ []) (used_by a told cs)) (sym whole)
    (record {
      made = all_used_by (IsOfLoad channels) a told cache is.made;
      kept = λ k. any_used_by (is_for (Key k) (Name 1)) a told cache
          ∙ (is.kept k ∙ sym (any_push k j (entry (Asks a) told) ∙ or_false (list_any (keeps_for k) j)));
    })

-- ---- a proof that is to be kept

module _ (channels : List ℕ) (few : length channels ≤ 64) (j : List Entry) (cache : List Cached) (at e : ℕ) (c : Cached) (small : IsCache cache)
    (is : IsLoadCache channels j cache) (l : IsOfLoad channels c) where
  abbrev others : List Cached
  others = without (is_for c.subject c.who) cache

  -- none goes but one for the same channel
  all_stay : keeping c cache ≡ c ∷ others
  all_stay =
      let fewer : suc (length others) ≤ length channels = fewer_others channels c cache l is.made small in
      let fit : length others ≤ 63 = omega arith in
      ap (λ (cs : List Cached). c ∷ cs) (take_all 63 others fit)

  abbrev kept_of : ℕ → Bool
  kept_of k = is_for (Key k) (Name 1) c

  kept_now : (k : ℕ) → list_any (is_for (Key k) (Name 1)) (c ∷ others) ≡ list_any (keeps_for k) (j ++ entry (Keeps at e c) Told.Kept ∷ [])
  kept_now k =
      let push : list_any (keeps_for k) (j ++ entry (Keeps at e c) Told.Kept ∷ []) ≡ (list_any (keeps_for k) j || kept_of k) = any_push k j (entry (Keeps at e c) Told.Kept) in
      elim (cases_Bool (kept_of k)) [
        | inl passes ↦ or_left (kept_of k) (list_any (is_for (Key k) (Name 1)) others) passes ∙ sym (push ∙ or_right (list_any (keeps_for k) j) (kept_of k) passes)
        | inr fails ↦
            ap (λ b. b || list_any (is_for (Key k) (Name 1)) others) fails
            ∙ (any_without (Key k) (Name 1) c cache fails
            ∙ (is.kept k ∙ sym (push ∙ (ap (λ b. list_any (keeps_for k) j || b) fails ∙ or_false (list_any (keeps_for k) j)))))
      ]

  pub after_keep_kept : IsLoadCache channels (j ++ entry (Keeps at e c) Told.Kept ∷ []) (keeping c cache)
  after_keep_kept =
      subst (IsLoadCache channels (j ++ entry (Keeps at e c) Told.Kept ∷ [])) (sym all_stay)
      (record {
        made = All-cons (IsOfLoad channels) c others l (All-filter (λ x. not (is_for c.subject c.who x)) (IsOfLoad channels) cache is.made);
        kept = kept_now;
      })

-- what is held for the subject of a proof of a channel that asked has all that the proof cites
module _ (s : State) (k : ℕ) (c : Cached) (made : IsMade k c) (own : s.own k ≡ drill_certificate k ∷ []) (commons : s.commons ≡ []) (clock : s.clock ≤ 1000) where
  held : held_for s c.subject ≡ drill_certificate k ∷ []
  held =
      ap (λ (p : Principal). held_for s p) made.subject
      ∙ ap₂ (λ (o w : List Certificate). o ++ w) own commons

  none_missing : first_missing s c ≡ None
  none_missing =
      none_found (λ x. not (among (held_for s c.subject) x)) c.cites
      (All-weaker (λ x. x ≡ drill_certificate k) (λ x. not (among (held_for s c.subject) x) ≡ false)
      (λ x same. not_from_true (among (held_for s c.subject) x)
      (ap₂ (λ (cs : List Certificate) (y : Certificate). among cs y) held same
      ∙ or_left (same_certificate (drill_certificate k) (drill_certificate k)) false (same_certificate-itself (drill_certificate k))))
      c.cites made.cites)

  pub is_kept : settled_by (first_missing s c) s.clock c.lease ≡ Told.Kept
  is_kept =
      let long : 1000 < c.lease = made.lease in
      ap (λ (o : Option Certificate). settled_by o s.clock c.lease) none_missing
      ∙ cond-false (nat_le c.lease s.clock) (Told.Dropped (DropCause.Lapsed s.clock c.lease)) Told.Kept (lt-leb c.lease s.clock (omega arith))

-- ---- the whole journal

module _ (plan : Plan) (journal : List Entry) (load : IsLoadJournal plan journal) where
  -- the Ask for which a proof is to be kept stands before it
  pub asked_before : (front rest : List Entry) (k n at e : ℕ) (list : List Grant) (c : Cached) (told : Told) → journal ≡ front ++ entry (Keeps at e c) told ∷ rest →
      IsGrantedAt plan journal (load_ask k n list) at e c → AsksAt front at k n list Told.Miss
  asked_before front rest k n at e list c told is g =
      let may : MayFollow plan front (entry (Keeps at e c) told) = load.legal front (entry (Keeps at e c) told) rest is in
      let here : AsksAt journal at k n list Told.Miss = granted_at plan journal load k n at e list c g in
      let there : slice_get front at ≡ Some (entry (Asks may.meant.asked) may.meant.told) = may.meant.stands in
      let whole : slice_get journal at ≡ Some (entry (Asks may.meant.asked) may.meant.told) =
      ap (λ (x : List Entry). slice_get x at) is ∙ slice_front front (entry (Keeps at e c) told ∷ rest) at (entry (Asks may.meant.asked) may.meant.told) there in
      there ∙ (sym whole ∙ here)

  pub kept_told : (front rest : List Entry) (k n at e : ℕ) (list : List Grant) (c : Cached) (told : Told) → journal ≡ front ++ entry (Keeps at e c) told ∷ rest →
      IsLoadList list → IsGrantedAt plan journal (load_ask k n list) at e c → told ≡ Told.Kept
  kept_told front rest k n at e list c told is l g =
      let may : MayFollow plan front (entry (Keeps at e c) told) = load.legal front (entry (Keeps at e c) told) rest is in
      let state : IsLoadState front (state_after plan front) = load_state plan journal load front (entry (Keeps at e c) told ∷ rest) is in
      let (reads, made) = granted_made plan journal load k n at e list c l g in
      let own = state.asked at k n list Told.Miss (asked_before front rest k n at e list c told is g) in
      may.tells ∙ is_kept (state_after plan front) k c made own state.commons state.clock

  -- its channel is one of the shard's
  channel_there : (front rest : List Entry) (k n at : ℕ) (list : List Grant) (told : Told) → journal ≡ front ++ entry (Asks (load_ask k n list)) told ∷ rest → Contains plan.channels k
  channel_there front rest k n at list told is = (load.legal front (entry (Asks (load_ask k n list)) told) rest is).meant.1

  of_load : (k n at e : ℕ) (list : List Grant) (c : Cached) → IsLoadList list → IsGrantedAt plan journal (load_ask k n list) at e c → IsOfLoad plan.channels c
  of_load k n at e list c l g =
      let (reads, made) = granted_made plan journal load k n at e list c l g in
      record { channel = k; made = made; there = channel_there g.before g.stands.rest k n at list Told.Miss g.stands.is }

  abbrev Kept : List Entry → Type 0
  Kept front = IsLoadCache plan.channels front (cache_after plan front)

  cache_asks : (front rest : List Entry) (k n : ℕ) (list : List Grant) (told : Told) → journal ≡ front ++ entry (Asks (load_ask k n list)) told ∷ rest →
      Kept front → Kept (front ++ entry (Asks (load_ask k n list)) told ∷ [])
  cache_asks front rest k n list told is kept =
      let x : Entry = entry (Asks (load_ask k n list)) told in
      subst (IsLoadCache plan.channels (front ++ entry (Asks (load_ask k n list)) told ∷ []))
      (sym (cache_after-push plan front (entry (Asks (load_ask k n list)) told)
      ∙ ap (λ (m : ℕ). cache_next m (Asks (load_ask k n list)) told (cache_after plan front)) (load_clock plan journal load front rest k n list told is)))
      (after_ask_kept plan.channels front (cache_after plan front) (load_ask k n list) told kept)

  cache_keeps : (front rest : List Entry) (k n at e : ℕ) (list : List Grant) (c : Cached) (told : Told) → journal ≡ front ++ entry (Keeps at e c) told ∷ rest →
      IsLoadList list → IsGrantedAt plan journal (load_ask k n list) at e c → Kept front → Kept (front ++ entry (Keeps at e c) told ∷ [])
  cache_keeps front rest k n at e list c told is l g kept =
      let now : told ≡ Told.Kept = kept_told front rest k n at e list c told is l g in
      subst (λ (t : Told). Kept (front ++ entry (Keeps at e c) t ∷ [])) (sym now)
      (subst (IsLoadCache plan.channels (front ++ entry (Keeps at e c) Told.Kept ∷ [])) (sym (cache_after-push plan front (entry (Keeps at e c) Told.Kept)))
      (after_keep_kept plan.channels load.planned.few front (cache_after plan front) at e c (cache_small plan front) kept (of_load k n at e list c l g)))

  cache_one : (front : List Entry) (x : Entry) (rest : List Entry) → journal ≡ front ++ x ∷ rest → IsLoadEntry plan journal (length front) → Kept front → Kept (front ++ x ∷ [])
  cache_one front x rest is (asks {channel = k} {seq = n} {list} {told} l at) kept =
      let same : entry (Asks (load_ask k n list)) told ≡ x = same_Some (entry (Asks (load_ask k n list)) told) x (sym at ∙ at_front journal front x rest is) in
      subst (λ (y : Entry). Kept (front ++ y ∷ [])) same
      (cache_asks front rest k n list told (is ∙ ap (λ y. front ++ y ∷ rest) (sym same)) kept)
  cache_one front x rest is (keeps {channel = k} {seq = n} {at = p} {e} {list} {c} {told} l g at) kept =
      let same : entry (Keeps p e c) told ≡ x = same_Some (entry (Keeps p e c) told) x (sym at ∙ at_front journal front x rest is) in
      subst (λ (y : Entry). Kept (front ++ y ∷ [])) same
      (cache_keeps front rest k n p e list c told (is ∙ ap (λ y. front ++ y ∷ rest) (sym same)) l g kept)

  pub load_cache : (front rest : List Entry) → journal ≡ front ++ rest → Kept front
  load_cache =
      each_front journal Kept
      (λ front x rest is kept. cache_one front x rest is
      (load.entries (length front) (slice_get_within journal (length front) x (at_front journal front x rest is))) kept)
      (record { made = All-nil (IsOfLoad plan.channels); kept = λ k. refl })
