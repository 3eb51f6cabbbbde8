-- What is kept, as the memory that a contract sees.
use Rattle.std.proofs.Common.{◌≡◌, ◌⊎◌, inl, inr, ℕ, ◌<◌, Bool, true, false, List, map, All, Option, Some, None, Contains, refl, sym, ap, subst, ◌∙◌, arith}
use Rattle.std.specs.Prelude.{◌↔◌, IsTrue, bytes_eq, Result, Ok, Err, IfOk, OnOk, OnErr}
use Rattle.std.specs.Option.{is_some}
use Rattle.std.specs.List.{AllZip}
use Rattle.std.specs.Cmp.Lexicographic.{same_text}
use Rattle.std.specs.Map.{lookup}
use Rattle.std.proofs.lemmas.List.{length-map}
use Rattle.std.proofs.lemmas.List.Elements.{All-contains}
use Rattle.lru.specs.LruCache.{LruCache, IsValid, lru_cache, promoted, put_entries}
use Rattle.lru.proofs.CallerLemmas.{Contains-lookup, Contains-promoted, Contains-put_entries}
use Rattle.prin_term.specs.declared.term.Anchor.{Anchor}
use Rattle.prin_term.specs.Principal.{Principal}
use Rattle.prin_term.specs.View.{principal}
use Rattle.stmt_codec.specs.Certificates.{Certificate}
use Rattle.taos_calculus.specs.declared.decide.Taken.{Taken}
use Rattle.taos_calculus.specs.Tables.{lines_of}
use Rattle.lemma_memo.specs.declared.kept.Kept.{Kept}
use Rattle.lemma_memo.specs.Memory.{Lemma, Memo, key_of, lemma_key, after_use, StandsAt, Serves, NoneServes, Tells, IsLemmaOf, IsSound, IsMemo}
use Rattle.lemma_memo.specs.Question.{TellsSound, Recalls, Keeps, recalls_one, recalls_not, keeps_none, keeps_one}
use Rattle.lemma_memo.specs.Kept.{Entry, lemma_of, memo_of, commons_at, HasFirst, IsMarked, AreFirst, AreKept, HoldsKept, AreKeyed, IsFor, IsHit, IsKeptOf, room_of}
use Rattle.lemma_memo.proofs.Lists.{contains_map, contains_from_map}
use Rattle.lemma_memo.proofs.Places.{all_common, numbers_first, stand_all, marked_all}
use Rattle.lemma_memo.proofs.Keys.{promoted_front, put_front, keys_apart}

pub keyed : (anchors : List Anchor) (commons : List Certificate) (entries : List Entry) → AreKept anchors commons entries → AreKeyed entries
keyed anchors commons entries are e has = (are e has).key

module _ (anchors : List Anchor) (commons : List Certificate) (here : List (Option ℕ)) (first : AreFirst commons here) (c : LruCache (List ℕ) Kept) (are : AreKept anchors commons c.entries) where
  abbrev seen : Memo
  seen = memo_of anchors commons true here (Some c)

  -- the one that a look-up finds is kept by this very key
  found_key : (key : List ℕ) (k : Kept) → lookup (bytes_eq key) c.entries ≡ Some k → Contains c.entries (key, k)
  found_key key k found =
      let (j, has, test) = Contains-lookup (bytes_eq key) c.entries k found in
      subst (λ (i : List ℕ). Contains c.entries (i, k)) (sym (same_text key j (sym test))) has

  serves : (left right : Principal) (k : Kept) (key places : List ℕ) → lookup (bytes_eq key) c.entries ≡ Some k → IsFor left right k → AllZip (IsMarked here) places k.cites.items → Serves seen left right (lemma_of commons k)
  serves left right k key places found for_these z = record {
    kept = contains_map (λ (e : Entry). lemma_of commons e.1) c.entries (key, k) (found_key key k found);
    left_is = for_these.0;
    right_is = for_these.1;
    same = refl;
    cites = (places, stand_all commons here first places k.cites.items z);
  }

  sound_by : (key : List ℕ) (k : Kept) → lookup (bytes_eq key) c.entries ≡ Some k → IsSound anchors (lemma_of commons k)
  sound_by key k found = (are (key, k) (found_key key k found)).sound

  pub one_serves : (left right : Principal) (key places : List ℕ) → IsHit c.entries here key left right places → (l : Lemma) × IsSound anchors l × Serves seen left right l
  one_serves left right key places (k, found, for_these, z) = (lemma_of commons k, sound_by key k found, serves left right k key places found for_these z)

  pub none_serves : (left right : Principal) → ((e : Entry) (places : List ℕ) → Contains c.entries e → IsFor left right e.1 → AllZip (IsMarked here) places e.1.cites.items → ⊥) → NoneServes seen left right
  none_serves left right nobody l s =
      let (e, has, is) = contains_from_map (λ (f : Entry). lemma_of commons f.1) c.entries l s.kept in
      let places = s.cites.0 in
      let z = subst (λ (cs : List Certificate). AllZip (StandsAt seen) places cs) (ap (λ (m : Lemma). m.cites) (sym is)) s.cites.1 in
      nobody e places has (ap (λ (m : Lemma). m.left) is ∙ s.left_is, ap (λ (m : Lemma). m.right) is ∙ s.right_is)
      (marked_all commons here first places e.1.cites.items (are e has).numbers z)

  -- ---- the one that serves is used

  module _ (valid : IsValid bytes_eq c) where
    used : (key : List ℕ) (k : Kept) → lookup (bytes_eq key) c.entries ≡ Some k →
        memo_of anchors commons true here (Some (lru_cache (promoted (bytes_eq key) c.entries) c.cap)) ≡ after_use (lemma_of commons k) seen
    used key k found =
        let is : key ≡ lemma_key (lemma_of commons k) = (are (key, k) (found_key key k found)).key in
        let front = promoted_front (lemma_of commons) c valid (λ e has. (are e has).key) k (subst (λ (j : List ℕ). lookup (bytes_eq j) c.entries ≡ Some k) is found) in
        ap (λ (ls : List Lemma). record { anchors = anchors; commons = commons; room = c.cap; same = true; here = commons_at commons here; lemmas = ls })
        (ap (λ (j : List ℕ). map (λ (e : Entry). lemma_of commons e.1) (promoted (bytes_eq j) c.entries)) is ∙ front)

    recalled : (left right : Principal) (key places : List ℕ) (k : Kept) (t : Taken) → lookup (bytes_eq key) c.entries ≡ Some k → IsFor left right k → AllZip (IsMarked here) places k.cites.items → t.proof ≡ k.proof → t.cites.items ≡ places →
        {E : Type 0} → Recalls {E = E} seen left right (memo_of anchors commons true here (Some (lru_cache (promoted (bytes_eq key) c.entries) c.cap))) (Some (Ok t))
    recalled left right key places k t found for_these z proof cites {E} =
        let tells : Tells seen t (lemma_of commons k) = record {
          lines = ap lines_of proof;
          cites = subst (λ (ps : List ℕ). AllZip (StandsAt seen) ps (lemma_of commons k).cites) (sym cites) (stand_all commons here first places k.cites.items z);
        } in
        subst (λ (m : Memo). Recalls {E = E} seen left right m (Some (Ok t))) (sym (used key k found)) (recalls_one (sound_by key k found) (serves left right k key places found for_these z) tells)

    -- the same of what a look-up and a call did
    pub recalls : (left right : Principal) (key places : List ℕ) (after : LruCache (List ℕ) Kept) {E : Type 0} (r : Result Taken E) → IsHit c.entries here key left right places →
        IfOk r (λ t. (k : Kept) → lookup (bytes_eq key) c.entries ≡ Some k → (t.proof ≡ k.proof) × (t.cites.items ≡ places)) → OnOk r (after ≡ lru_cache (promoted (bytes_eq key) c.entries) c.cap) → OnErr r (after ≡ c) →
        Recalls {E = E} seen left right (memo_of anchors commons true here (Some after)) (Some r)
    recalls left right key places after {E} (Ok t) (k, found, for_these, z) is went stays =
        let (proof, cites) = is k found in
        subst (λ (x : LruCache (List ℕ) Kept). Recalls {E = E} seen left right (memo_of anchors commons true here (Some x)) (Some (Ok t))) (sym went) (recalled left right key places k t found for_these z proof cites {E = E})
    recalls left right key places after {E} (Err e) hit is went stays =
        subst (λ (x : LruCache (List ℕ) Kept). Recalls {E = E} seen left right (memo_of anchors commons true here (Some x)) (Some (Err e))) (sym stays) recalls_not

  still_kept : (key : List ℕ) → AreKept anchors commons (promoted (bytes_eq key) c.entries)
  still_kept key e has = are e (Contains-promoted (bytes_eq key) c.entries e has)

  -- what was kept stays so when one is used
  pub holds_used : {A E : Type 0} (r : Result A E) (key : List ℕ) (after : LruCache (List ℕ) Kept) → 0 < c.cap → OnOk r (after ≡ lru_cache (promoted (bytes_eq key) c.entries) c.cap) → OnErr r (after ≡ c) → HoldsKept anchors commons (Some after)
  holds_used (Ok a) key after room went stays = subst (λ (x : LruCache (List ℕ) Kept). HoldsKept anchors commons (Some x)) (sym went) (room, still_kept key)
  holds_used (Err x) key after room went stays = subst (λ (x : LruCache (List ℕ) Kept). HoldsKept anchors commons (Some x)) (sym stays) (room, are)

  -- ---- one more is kept

  module _ (left right : Principal) (t : Taken) (k : Kept) (it : IsKeptOf here left right t k) where
    lemma_kept : IsLemmaOf seen left right t (lemma_of commons k)
    lemma_kept = record {
      left_is = it.for_these.0;
      right_is = it.for_these.1;
      same = refl;
      tells = record {
        lines = ap lines_of (sym it.proof);
        cites = stand_all commons here first t.cites.items k.cites.items it.cites;
      };
    }

    its_key : key_of left right ≡ lemma_key (lemma_of commons k)
    its_key = sym (ap (λ (p : Principal). key_of p (principal k.right)) it.for_these.0 ∙ ap (λ (p : Principal). key_of left p) it.for_these.1)

    keeps : IsValid bytes_eq c →
        memo_of anchors commons true here (Some (lru_cache (put_entries bytes_eq c (key_of left right) k) c.cap)) ≡ after_use (lemma_of commons k) seen
    keeps valid =
        ap (λ (ls : List Lemma). record { anchors = anchors; commons = commons; room = c.cap; same = true; here = commons_at commons here; lemmas = ls })
        (ap (λ (j : List ℕ). map (λ (e : Entry). lemma_of commons e.1) (put_entries bytes_eq c j k)) its_key ∙ put_front (lemma_of commons) c valid (λ e has. (are e has).key) k)

    more_kept : TellsSound seen left right t → AreKept anchors commons (put_entries bytes_eq c (key_of left right) k)
    more_kept sound e has = elim (Contains-put_entries bytes_eq c (key_of left right) k e has) [
      | inl was ↦ are e was
      | inr p ↦ record {
        key = key_is p.1 ∙ (its_key ∙ ap (λ (x : Kept). lemma_key (lemma_of commons x)) (sym p.0));
        numbers = subst (λ (x : Kept). All (HasFirst commons) x.cites.items) (sym p.0) (numbers_first commons here first t.cites.items k.cites.items it.cites);
        sound = subst (λ (x : Kept). IsSound anchors (lemma_of commons x)) (sym p.0) (sound (lemma_of commons k) lemma_kept);
      }
    ]
      where
        key_is : (e.0 ≡ key_of left right) ⊎ ((w : Kept) × Contains c.entries (e.0, w) × (bytes_eq (key_of left right) e.0 ≡ true)) → e.0 ≡ key_of left right
        key_is (inl first_is) = first_is
        key_is (inr x) = sym (same_text (key_of left right) e.0 (sym x.2))

  -- what keeping a proof does, and that all stays kept
  module _ (left right : Principal) (t : Taken) (after : LruCache (List ℕ) Kept) (valid : IsValid bytes_eq c)
      (did : (after ≡ c) ⊎ ((k : Kept) × IsKeptOf here left right t k × (after ≡ lru_cache (put_entries bytes_eq c (key_of left right) k) c.cap))) where
    pub keeps_by : Keeps seen left right t (memo_of anchors commons true here (Some after))
    keeps_by = elim did [
      | inl stays ↦ subst (λ (x : LruCache (List ℕ) Kept). Keeps seen left right t (memo_of anchors commons true here (Some x))) (sym stays) keeps_none
      | inr (k, it, went) ↦
          subst (λ (x : LruCache (List ℕ) Kept). Keeps seen left right t (memo_of anchors commons true here (Some x))) (sym went)
          (subst (λ (m : Memo). Keeps seen left right t m) (sym (keeps left right t k it valid)) (keeps_one (lemma_kept left right t k it)))
    ]

    pub holds_kept : 0 < c.cap → TellsSound seen left right t → HoldsKept anchors commons (Some after)
    holds_kept room sound = elim did [
      | inl stays ↦ subst (λ (x : LruCache (List ℕ) Kept). HoldsKept anchors commons (Some x)) (sym stays) (room, are)
      | inr (k, it, went) ↦ subst (λ (x : LruCache (List ℕ) Kept). HoldsKept anchors commons (Some x)) (sym went) (room, more_kept left right t k it sound)
    ]

-- ---- where there is no lemma

-- without room no lemma serves
pub no_room : (anchors : List Anchor) (commons : List Certificate) (same : Bool) (here : List (Option ℕ)) (o : Option (LruCache (List ℕ) Kept)) (left right : Principal) → ((c : LruCache (List ℕ) Kept) → o ≡ Some c → ⊥) → NoneServes (memo_of anchors commons same here o) left right
no_room anchors commons same here None left right none l s = omega (arith, s.kept.1)
no_room anchors commons same here (Some c) left right none l s = none c refl

-- under other anchors none does
pub other_anchors : (m : Memo) (left right : Principal) → m.same ≡ false → NoneServes m left right
other_anchors m left right other l s = let q : false ≡ true = sym other ∙ s.same in cc

-- whether lemmas may be kept
pub same_by : (anchors asked : List Anchor) (commons : List Certificate) (o : Option (LruCache (List ℕ) Kept)) (known same : Bool) → HoldsKept anchors commons o →
    ((is_some o ≡ true) × (IsTrue known ↔ (anchors ≡ asked)) × (same ≡ known)) ⊎ ((is_some o ≡ false) × (same ≡ false)) → IsTrue same ↔ ((0 < room_of o) × (asked ≡ anchors))
same_by anchors asked commons None known same holds (inl (is, iff, eq)) = absurd cc
same_by anchors asked commons None known same holds (inr (is, eq)) = (λ t. absurd (let q : false ≡ true = sym eq ∙ t in cc), λ p. absurd (omega (arith, p.0)))
same_by anchors asked commons (Some c) known same holds (inl (is, iff, eq)) = (λ t. (holds.0, sym (iff.0 (sym eq ∙ t))), λ p. eq ∙ iff.1 (sym p.1))
same_by anchors asked commons (Some c) known same holds (inr (is, eq)) = absurd cc

-- ---- all that is kept

pub is_memo : (anchors : List Anchor) (commons : List Certificate) (same : Bool) (here : List (Option ℕ)) (c : LruCache (List ℕ) Kept) → IsValid bytes_eq c → AreKept anchors commons c.entries → IsMemo (memo_of anchors commons same here (Some c))
is_memo anchors commons same here c valid are = record {
  few = omega (arith, valid.1, length-map c.entries (λ (e : Entry). lemma_of commons e.1));
  apart = keys_apart (lemma_of commons) c valid (λ e has. (are e has).key);
  sound = λ l has.
      let (e, in', is) = contains_from_map (λ (f : Entry). lemma_of commons f.1) c.entries l has in
      subst (IsSound anchors) is (are e in').sound;
  cites = λ l cert has cites.
      let (e, in', is) = contains_from_map (λ (f : Entry). lemma_of commons f.1) c.entries l has in
      All-contains (Contains commons) l.cites cert (subst (λ (m : Lemma). All (Contains commons) m.cites) is (all_common commons e.1.cites.items)) cites;
}

pub no_memo : (anchors : List Anchor) (commons : List Certificate) (same : Bool) (here : List (Option ℕ)) → IsMemo (memo_of anchors commons same here None)
no_memo anchors commons same here = record {
  few = omega arith;
  apart = λ i j d lt within. absurd (omega arith);
  sound = λ l has. absurd (omega (arith, has.1));
  cites = λ l cert has cites. absurd (omega (arith, has.1));
}
