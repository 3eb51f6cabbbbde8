-- What holds of each proof that a legal journal keeps holds of all that are kept after it.
use Rattle.std.proofs.Common.{◌≡◌, ℕ, zero, suc, ◌-◌, ◌<◌, Bool, not, List, [], ◌∷◌, ◌++◌, length, take, get_or, filter, Option, None, Some, slice_get, refl, ap, subst, ◌∙◌, append_assoc}
use Rattle.std.specs.Prelude.{All, AllPairs, ◌≢◌}
use Rattle.std.proofs.lemmas.Option.{none-some, same_Some, slice_get-get_or}
use Rattle.std.proofs.lemmas.List.Elements.{All-append, All-cons, All-filter, All-head, All-nil, All-tail, All-take}
use Rattle.prin_term.specs.Principal.{Principal}
use Rattle.proof_cache.specs.Cached.{Cached}
use Rattle.proof_cache.specs.Cache.{cites_issuer, cites_it, has_lapsed, is_for, is_of_channel}
use Rattle.agent_core.specs.declared.told.Told.{Told}
use Rattle.agent_core.specs.State.{Plan, State, Ask, Event, Asks, Keeps, Holds, Discards, Forgets, Expires, Withdraws, opened, next}
use Rattle.agent_core.specs.Caches.{unlapsed, used, used_by, who_at, kept_by, left_by, cache_next}
use Rattle.agent_core.specs.Journals.{Entry, cache_from, cache_after, IsMeant, IsLegalJournal}

module _ (P : Cached → Type 0) where
  each_left : (test : Cached → Bool) (cache : List Cached) → All P cache → All P (filter (λ c. not (test c)) cache)
  each_left test cache all = All-filter (λ c. not (test c)) P cache all

  each_in_front : (subject : Principal) (who : Option Principal) (cache : List Cached) → All P cache → All P (used subject who cache)
  each_in_front subject None cache all = all
  each_in_front subject (Some who) cache all =
      All-append P (filter (is_for subject who) cache) (filter (λ c. not (is_for subject who c)) cache) (All-filter (is_for subject who) P cache all) (each_left (is_for subject who) cache all)

  each_used : (a : Ask) (told : Told) (cache : List Cached) → All P cache → All P (used_by a told cache)
  each_used a (Told.Hit entry) cache all = each_in_front a.subject (who_at a.list entry) cache all
  each_used a _ cache all = all

  each_kept : (c : Cached) (told : Told) (cache : List Cached) → P c → All P cache → All P (kept_by c told cache)
  each_kept c Told.Kept cache p all =
      let others = filter (λ x. not (is_for c.subject c.who x)) cache in
      All-cons P c (take (64 - 1) others) p (All-take P (64 - 1) others (each_left (is_for c.subject c.who) cache all))
  each_kept c _ cache p all = all

  each_left_by : (issuer : ℕ) (told : Told) (cache : List Cached) → All P cache → All P (left_by issuer told cache)
  each_left_by issuer (Told.Removed count) cache all = each_left (cites_issuer issuer) cache all
  each_left_by issuer _ cache all = all

  -- it holds of the proof that the event is to keep, if it is to keep one
  abbrev Brings : Event → Type 0
  Brings event = (ask k : ℕ) (c : Cached) → event ≡ Keeps ask k c → P c

  each_next : (moment : ℕ) (event : Event) (told : Told) (cache : List Cached) → All P cache → Brings event → All P (cache_next moment event told cache)
  each_next moment (Asks a) told cache all brings = each_used a told (unlapsed moment cache) (each_left (has_lapsed moment) cache all)
  each_next moment (Keeps ask k c) told cache all brings = each_kept c told cache (brings ask k c refl) all
  each_next moment (Holds certs) told cache all brings = all
  each_next moment (Discards digest) told cache all brings = each_left (cites_it digest) cache all
  each_next moment (Forgets channel) told cache all brings = each_left (is_of_channel channel) cache all
  each_next moment (Expires reading) told cache all brings = each_left (has_lapsed moment) cache all
  each_next moment (Withdraws issuer) told cache all brings = each_left_by issuer told cache all

  each_from : (plan : Plan) (s : State) (cache : List Cached) (journal : List Entry) → All P cache → All (λ (e : Entry). Brings e.event) journal → All P (cache_from plan s cache journal)
  each_from plan s cache [] all brings = all
  each_from plan s cache (e ∷ es) all brings =
      let s' = (next plan s e.event).0 in
      each_from plan s' (cache_next s'.clock e.event e.told cache) es (each_next s'.clock e.event e.told cache all (All-head (λ (x : Entry). Brings x.event) e es brings)) (All-tail (λ (x : Entry). Brings x.event) e es brings)

-- a list at one of its places
parted : {X : Type 0} (xs : List X) (k : ℕ) (x : X) → slice_get xs k ≡ Some x → (front : List X) × (more : List X) × (xs ≡ front ++ x ∷ more)
parted [] k x at = absurd (none-some x at)
parted (y ∷ ys) zero x at = ([], ys, ap (λ z. z ∷ ys) (same_Some y x at))
parted (y ∷ ys) (suc k) x at = let (front, more, is) = parted ys k x at in (y ∷ front, more, ap (λ l. y ∷ l) is)

-- no proof that is kept cites a certificate twice
pub kept_apart : (plan : Plan) (journal before rest : List Entry) (e : Entry) → IsLegalJournal plan journal → journal ≡ before ++ e ∷ rest → All (λ (c : Cached). AllPairs (λ x y. x ≢ y) c.cites) (cache_after plan before)
kept_apart plan journal before rest e legal is =
    each_from (λ (c : Cached). AllPairs (λ x y. x ≢ y) c.cites) plan (opened plan) [] before (All-nil (λ (c : Cached). AllPairs (λ x y. x ≢ y) c.cites)) brings
  where
    brings : (i : ℕ) (d : Entry) → i < length before → (ask k : ℕ) (c : Cached) → (get_or before i d).event ≡ Keeps ask k c → AllPairs (λ x y. x ≢ y) c.cites
    brings i d lt ask k c same =
        let x = get_or before i d in
        let (front, more, there) = parted before i x (slice_get-get_or before i d lt) in
        let whole = is ∙ ap (λ (l : List Entry). l ++ e ∷ rest) there ∙ append_assoc front (x ∷ more) (e ∷ rest) in
        (subst (IsMeant plan front) same (legal front x (more ++ e ∷ rest) whole).meant).apart
