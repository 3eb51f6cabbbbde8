-- What is remembered from question to question: conclusions that rest on anchors and commons alone.
use Rattle.std.specs.Prelude.{◌≡◌, ◌≢◌, ◌↔◌, ℕ, ◌<◌, ◌≤◌, Bool, true, false, not, IsTrue, bytes_eq}
use Rattle.std.specs.Prelude.{List, [], ◌∷◌, ◌++◌, length, map, take, filter, slice_get, Contains}
use Rattle.std.specs.Prelude.{AllPairs, Option, Some, Result, Ok, Err}
use Rattle.std.specs.List.{AllZip}
use Rattle.sha2.specs.Sha256.{sha256}
use Rattle.prin_term.specs.declared.term.Anchor.{Anchor}
use Rattle.prin_term.specs.Principal.{Principal, spelling}
use Rattle.stmt_codec.specs.Certificates.{Certificate}
use Rattle.taos_calculus.specs.declared.decide.Taken.{Taken}
use Rattle.taos_calculus.specs.Question.{claim_of}
use Rattle.taos_calculus.specs.Rules.{Line, SpeaksFor, Proves}
use Rattle.taos_calculus.specs.Tables.{lines_of}
use Rattle.taos_calculus.specs.Tidy.{IsTidy}

-- that left speaks for right, by these lines, which cite these certificates in this order
pub record Lemma : Type 0 where
  pub left : Principal
  pub right : Principal
  pub lines : List Line
  pub cites : List Certificate

-- the key of a conclusion
abbrev pub key_of : Principal → Principal → List ℕ
key_of left right = sha256 (spelling left ++ spelling right)

-- the key of a lemma
abbrev pub lemma_key : Lemma → List ℕ
lemma_key l = key_of l.left l.right

-- what a contract sees of a memory
pub record Memo : Type 0 where
  -- the anchors and the certificates on which alone a lemma rests
  pub anchors : List Anchor
  pub commons : List Certificate
  -- how many lemmas are kept at most
  pub room : ℕ
  -- whether the question is about these anchors, and there is room for a lemma
  pub same : Bool
  -- if so, at each place of its certificates the one that is chosen, where that is a common
  pub here : List (Option Certificate)
  -- the most recently used first
  pub lemmas : List Lemma

-- a memory of nothing
abbrev pub empty_memo : ℕ → List Anchor → List Certificate → Memo
empty_memo room anchors commons = record {
  anchors = anchors;
  commons = commons;
  room = room;
  same = false;
  here = [];
  lemmas = [];
}

-- ---- the list of lemmas

-- a lemma in front, and behind it those of other keys, as many as there is room for
abbrev pub in_front : ℕ → Lemma → List Lemma → List Lemma
in_front room l lemmas =
    take room (l ∷ filter (λ m. not (bytes_eq (lemma_key l) (lemma_key m))) lemmas)

-- the memory after this lemma was used or came
abbrev pub after_use : Lemma → Memo → Memo
after_use l m = record {
  anchors = m.anchors;
  commons = m.commons;
  room = m.room;
  same = m.same;
  here = m.here;
  lemmas = in_front m.room l m.lemmas;
}

-- it is a proof without waste of its conclusion from these anchors and what it cites
pub record IsSound (anchors : List Anchor) (l : Lemma) : Type 0 where
  pub proves : Proves anchors (map claim_of l.cites) l.lines (SpeaksFor l.left l.right)
  -- where the cites stood when it came
  pub places : List ℕ
  pub long : length places ≡ length l.cites
  pub tidy : IsTidy l.lines places

-- at most so many lemmas, no two of one key, each a proof from the anchors and some commons
pub record IsMemo (m : Memo) : Type 0 where
  pub few : length m.lemmas ≤ m.room
  pub apart : AllPairs (λ k j. k ≢ j) (map lemma_key m.lemmas)
  pub sound : (l : Lemma) → Contains m.lemmas l → IsSound m.anchors l
  pub cites : (l : Lemma) (c : Certificate) → Contains m.lemmas l → Contains l.cites c →
      Contains m.commons c

-- ---- one question

-- the common stands at the place and is chosen
abbrev pub StandsAt : Memo → ℕ → Certificate → Type 0
StandsAt m place c = slice_get m.here place ≡ Some (Some c)

-- the certificate is that of the place and is chosen
pub record IsChosen (certs : List Certificate) (chosen : List Bool) (place : ℕ)
    (c : Certificate) : Type 0 where
  pub stands : slice_get certs place ≡ Some c
  pub marked : slice_get chosen place ≡ Some true

-- a question came: which commons are chosen is known from now on, and nothing else changes
pub record Begins (old new : Memo) (anchors : List Anchor) (certs : List Certificate)
    (chosen : List Bool) : Type 0 where
  pub same : IsTrue new.same ↔ ((0 < old.room) × (anchors ≡ old.anchors))
  pub here : IsTrue new.same → (place : ℕ) (c : Certificate) →
      StandsAt new place c ↔ (IsChosen certs chosen place c × Contains old.commons c)
  pub others : new ≡ record {
    anchors = old.anchors;
    commons = old.commons;
    room = old.room;
    same = new.same;
    here = new.here;
    lemmas = old.lemmas;
  }

-- the proof has the lemma's lines, and cites its certificates where they stand now
pub record Tells (m : Memo) (t : Taken) (l : Lemma) : Type 0 where
  pub lines : lines_of t.proof ≡ l.lines
  pub cites : AllZip (StandsAt m) t.cites.items l.cites

-- the lemma serves left => right: it is of these very terms, the anchors are the same, and
-- each certificate that it cites is chosen again
pub record Serves (m : Memo) (left right : Principal) (l : Lemma) : Type 0 where
  pub kept : Contains m.lemmas l
  pub left_is : l.left ≡ left
  pub right_is : l.right ≡ right
  pub same : IsTrue m.same
  pub cites : (places : List ℕ) × AllZip (StandsAt m) places l.cites

-- no lemma serves
abbrev pub NoneServes : Memo → Principal → Principal → Type 0
NoneServes m left right = (l : Lemma) → Serves m left right l → ⊥

-- the proof of left => right rests on the anchors and on commons alone, and is this lemma
pub record IsLemmaOf (m : Memo) (left right : Principal) (t : Taken) (l : Lemma) : Type 0 where
  pub left_is : l.left ≡ left
  pub right_is : l.right ≡ right
  pub same : IsTrue m.same
  pub tells : Tells m t l

-- what taking a proof does to the memory, by the answer
pub data Remembers {E : Type 0} (old : Memo) (left right : Principal) :
    Memo → Result Taken E → Type 0 where
  -- a lemma that serves is told, and is now the one used last
  told : {l : Lemma} {t : Taken} → Serves old left right l → Tells old t l →
      Remembers old left right (after_use l old) (Ok t)
  -- a proof that rests on anchors and commons alone is kept
  kept : {l : Lemma} {t : Taken} → NoneServes old left right → IsLemmaOf old left right t l →
      Remembers old left right (after_use l old) (Ok t)
  -- any other proof is not, and for want of memory none
  passed : {t : Taken} → NoneServes old left right → Remembers old left right old (Ok t)
  -- without a proof nothing changes
  failed : {e : E} → Remembers old left right old (Err e)
