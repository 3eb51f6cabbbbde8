-- Lemmas in memory: certificates by the numbers of the commons.
use Rattle.std.specs.Prelude.{◌≡◌, ◌≢◌, ℕ, ◌<◌, Bool, true, false, List, [], map, All}
use Rattle.std.specs.Prelude.{slice_get, Contains, Option, Some, None, bytes_eq}
use Rattle.std.specs.List.{AllZip, filter_map}
use Rattle.std.specs.Option.{option_and_then}
use Rattle.std.specs.Map.{lookup}
use Rattle.lru.specs.LruCache.{LruCache, lru_cache, put_entries}
use Rattle.prin_term.specs.declared.term.Anchor.{Anchor}
use Rattle.prin_term.specs.Principal.{Principal}
use Rattle.prin_term.specs.View.{principal}
use Rattle.stmt_codec.specs.Certificates.{Certificate}
use Rattle.taos_calculus.specs.declared.decide.Taken.{Taken}
use Rattle.taos_calculus.specs.Tables.{lines_of}
use Rattle.lemma_memo.specs.declared.kept.Kept.{Kept}
use Rattle.lemma_memo.specs.Memory.{Lemma, Memo, key_of, IsSound}

-- the number is that of the first common that is this certificate
pub record IsFirst (commons : List Certificate) (c : Certificate) (number : ℕ) : Type 0 where
  pub stands : slice_get commons number ≡ Some c
  pub first : (k : ℕ) → k < number → slice_get commons k ≢ Some c

-- the number of the certificate, or none where it is no common
abbrev pub IsNumberOf : List Certificate → Certificate → Option ℕ → Type 0
IsNumberOf commons c (Some number) = IsFirst commons c number
IsNumberOf commons c None = (k : ℕ) → slice_get commons k ≢ Some c

-- the common of the number stands at the place
abbrev pub IsMarked : List (Option ℕ) → ℕ → ℕ → Type 0
IsMarked here place number = slice_get here place ≡ Some (Some number)

-- each number is that of some common, the first that is equal
abbrev pub HasFirst : List Certificate → ℕ → Type 0
HasFirst commons number = (c : Certificate) × IsFirst commons c number

-- at each place, as far as there are marks, the number of the certificate where that is chosen and
-- a common
pub record AreMarks (commons certs : List Certificate) (chosen : List Bool)
    (here : List (Option ℕ)) : Type 0 where
  pub chosen_here : (place : ℕ) (c : Certificate) (o : Option ℕ) → slice_get certs place ≡ Some c →
      slice_get chosen place ≡ Some true → slice_get here place ≡ Some o → IsNumberOf commons c o
  pub others : (place n : ℕ) → slice_get chosen place ≡ Some false →
      slice_get here place ≢ Some (Some n)

-- the certificates that stand there
abbrev pub commons_at : List Certificate → List (Option ℕ) → List (Option Certificate)
commons_at commons here = map (option_and_then (slice_get commons)) here

-- the lemma that is kept
abbrev pub lemma_of : List Certificate → Kept → Lemma
lemma_of commons k = record {
  left = principal k.left;
  right = principal k.right;
  lines = lines_of k.proof;
  cites = filter_map (slice_get commons) k.cites.items;
}

-- what is kept: a key, and a lemma
abbrev pub Entry : Type 0
Entry = List ℕ × Kept

-- the lemmas, where there is room for any lemma
abbrev pub lemmas_of : List Certificate → Option (LruCache (List ℕ) Kept) → List Lemma
lemmas_of commons None = []
lemmas_of commons (Some lemmas) = map (λ (e : Entry). lemma_of commons e.1) lemmas.entries

-- how many there may be
abbrev pub room_of : Option (LruCache (List ℕ) Kept) → ℕ
room_of None = 0
room_of (Some lemmas) = lemmas.cap

-- what a contract sees of these
abbrev pub memo_of : List Anchor → List Certificate → Bool → List (Option ℕ) →
    Option (LruCache (List ℕ) Kept) → Memo
memo_of anchors commons same here lemmas = record {
  anchors = anchors;
  commons = commons;
  room = room_of lemmas;
  same = same;
  here = commons_at commons here;
  lemmas = lemmas_of commons lemmas;
}

-- kept by its key, with the numbers of commons, and sound
pub record IsKept (anchors : List Anchor) (commons : List Certificate) (e : Entry) : Type 0 where
  pub key : e.0 ≡ key_of (principal e.1.left) (principal e.1.right)
  pub numbers : All (HasFirst commons) e.1.cites.items
  pub sound : IsSound anchors (lemma_of commons e.1)

-- each is
abbrev pub AreKept : List Anchor → List Certificate → List Entry → Type 0
AreKept anchors commons entries = (e : Entry) → Contains entries e → IsKept anchors commons e

-- the same, where there is room for any lemma
abbrev pub HoldsKept : List Anchor → List Certificate →
    Option (LruCache (List ℕ) Kept) → Type 0
HoldsKept anchors commons None = Unit {0}
HoldsKept anchors commons (Some lemmas) =
    (0 < lemmas.cap) × AreKept anchors commons lemmas.entries

-- each mark is the number of a common
abbrev pub AreFirst : List Certificate → List (Option ℕ) → Type 0
AreFirst commons here = (place number : ℕ) → IsMarked here place number → HasFirst commons number

-- each is kept by the key of its terms
abbrev pub AreKeyed : List Entry → Type 0
AreKeyed entries = (e : Entry) → Contains entries e →
    e.0 ≡ key_of (principal e.1.left) (principal e.1.right)

-- it is of these terms
abbrev pub IsFor : Principal → Principal → Kept → Type 0
IsFor left right k = (principal k.left ≡ left) × (principal k.right ≡ right)

-- the one that is kept by the key is of these terms, and what it cites stands at these places
abbrev pub IsHit : List Entry → List (Option ℕ) → List ℕ → Principal → Principal →
    List ℕ → Type 0
IsHit entries here key left right places = (k : Kept)
    × (lookup (bytes_eq key) entries ≡ Some k) × IsFor left right k
    × AllZip (IsMarked here) places k.cites.items

-- the proof of these terms, with the numbers of what it cites
pub record IsKeptOf (here : List (Option ℕ)) (left right : Principal) (t : Taken)
    (k : Kept) : Type 0 where
  pub for_these : IsFor left right k
  pub proof : k.proof ≡ t.proof
  pub cites : AllZip (IsMarked here) t.cites.items k.cites.items

-- such a one came in front of the lemmas, by the key of these terms
abbrev pub PutsLemma : (old new : LruCache (List ℕ) Kept) → List (Option ℕ) →
    (left right : Principal) → Taken → Type 0
PutsLemma old new here left right t =
    (k : Kept) × IsKeptOf here left right t k
    × (new ≡ lru_cache (put_entries bytes_eq old (key_of left right) k) old.cap)
