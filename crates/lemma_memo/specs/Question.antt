-- What a memory knows of the question that its decider was asked.
use Rattle.std.specs.Prelude.{◌≡◌, ℕ, IsTrue, Contains, Option, None, Some, Result, Ok, Err}
use Rattle.prin_term.specs.Principal.{Principal}
use Rattle.stmt_codec.specs.Certificates.{Certificate}
use Rattle.taos_calculus.specs.declared.decide.Taken.{Taken}
use Rattle.taos_calculus.specs.Question.{Question, claim_of}
use Rattle.taos_calculus.specs.Rules.{Claim}
use Rattle.lemma_memo.specs.Memory.{Lemma, Memo, StandsAt, Serves, NoneServes, Tells}
use Rattle.lemma_memo.specs.Memory.{IsLemmaOf, IsSound, after_use}

-- what a contract sees of a decider with a memory
pub record Remembering (D : Type 0) : Type 0 where
  pub inner : D
  pub memo : Memo

-- where the anchors are the same, the commons that stand at places of the question are chosen there
pub record FitsQuestion (q : Question) (m : Memo) : Type 0 where
  pub anchors : IsTrue m.same → q.anchors ≡ m.anchors
  pub chosen : IsTrue m.same → (place : ℕ) (c : Certificate) → StandsAt m place c →
      Contains q.chosen (place, claim_of c)
  -- no place has two certificates
  pub once : IsTrue m.same → (place : ℕ) (c d : Claim) → Contains q.chosen (place, c) →
      Contains q.chosen (place, d) → c ≡ d

-- whatever lemma the proof is, it is a sound one
abbrev pub TellsSound : Memo → Principal → Principal → Taken → Type 0
TellsSound m left right t = (l : Lemma) → IsLemmaOf m left right t l → IsSound m.anchors l

-- what a look for a lemma's proof does, by the answer
pub data Recalls {E : Type 0} (old : Memo) (left right : Principal) :
    Memo → Option (Result Taken E) → Type 0 where
  recalls_none : NoneServes old left right → Recalls old left right old None
  recalls_one : {l : Lemma} {t : Taken} → IsSound old.anchors l → Serves old left right l →
      Tells old t l → Recalls old left right (after_use l old) (Some (Ok t))
  recalls_not : {e : E} → Recalls old left right old (Some (Err e))

-- what keeping a proof does
pub data Keeps (old : Memo) (left right : Principal) (t : Taken) : Memo → Type 0 where
  keeps_none : Keeps old left right t old
  keeps_one : {l : Lemma} → IsLemmaOf old left right t l → Keeps old left right t (after_use l old)
