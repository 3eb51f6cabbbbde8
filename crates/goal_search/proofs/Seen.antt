-- What an asked search knows of the terms of its question.
use Rattle.std.proofs.Common.{◌≡◌, ◌↔◌, inl, inr, ℕ, ◌<◌, List, Some, length, map, refl, ◌∙◌, ap, subst, All, slice_get, arith}
use Rattle.std.proofs.lemmas.List.Elements.{All-weaker, All-map, All-contains}
use Rattle.std.proofs.lemmas.Option.{slice_get_within, slice_get-get_or, get_or_from_slice_get}
use Rattle.prin_term.specs.Principal.{Principal, Key, subterms}
use Rattle.taos_calculus.specs.Question.{Question, claims_of, IsProofOf, IsTermOf, MayAnswer}
use Rattle.taos_calculus.specs.Monitor.{MaySpeak}
use Rattle.taos_calculus.specs.Rules.{Claim, Line, SpeaksFor}
use Rattle.taos_calculus.proofs.Staying.{derives_more}
use Rattle.term_pool.specs.Claims.{chosen_by}
use Rattle.taos_calculus.specs.Tables.{named, principals_of}
use Rattle.taos_calculus.proofs.Naming.{length-principals_of}
use Rattle.taos_calculus.proofs.Numbers.{Numbered}
use Rattle.term_pool.proofs.Fitting.{parts_have}
use Rattle.goal_search.specs.declared.asked.Asked.{Asked}
use Rattle.goal_search.specs.Asked.{IsAsked, seen}
use Rattle.goal_search.specs.Searching.{core, about, claims_in}
use Rattle.goal_search.specs.Replaying.{IsQuestionOf}
use Rattle.goal_search.proofs.Choosing.{cites_seen, places_apart, said_seen, seen_said}

-- what is derivable by the question's certificates is so by the search's
pub answers_known : (a : Asked) → IsAsked a → (left right : Principal) →
    MaySpeak a.search.anchors.items (claims_in (about (core a.search))) left right ↔ MayAnswer (seen a) left right
answers_known a asked left right = (
  derives_more a.search.anchors.items (claims_in (about (core a.search))) (claims_of (seen a)) said (SpeaksFor left right),
  derives_more a.search.anchors.items (claims_of (seen a)) (claims_in (about (core a.search))) known (SpeaksFor left right),
)
  where
    said : (i : ℕ) (x : Claim) → slice_get (claims_in (about (core a.search))) i ≡ Some x → (k : ℕ) × (slice_get (claims_of (seen a)) k ≡ Some x)
    said = said_seen a.search.cited.items a.held.items a.taken.items a.marks.items (length a.search.nodes.items) asked.holding asked.chosen (named a.search.nodes.items)

    known : (i : ℕ) (x : Claim) → slice_get (claims_of (seen a)) i ≡ Some x → (k : ℕ) × (slice_get (claims_in (about (core a.search))) k ≡ Some x)
    known = seen_said a.search.cited.items a.held.items a.taken.items a.marks.items (length a.search.nodes.items) asked.holding asked.chosen (named a.search.nodes.items)

-- the question by the search's certificates in their order
abbrev pub searched : Asked → Question
searched a = record {
  anchors = a.search.anchors.items;
  chosen = map (chosen_by (named a.search.nodes.items)) a.search.cited.items;
  subject = (seen a).subject;
  list = (seen a).list;
}

pub searched_question : (a : Asked) → IsAsked a → IsQuestionOf (core a.search) (searched a)
searched_question a asked = record {
  anchors_are = refl;
  chosen_is = refl;
  apart = places_apart a.search.cited.items a.held.items a.taken.items a.marks.items (length a.search.nodes.items) asked.holding asked.chosen (named a.search.nodes.items) asked.once;
}

-- a proof from these certificates is one from those of the question
pub proof_seen : (a : Asked) → IsAsked a → (left right : Principal) (lines : List Line) (cites : List ℕ) → IsProofOf (searched a) left right lines cites → IsProofOf (seen a) left right lines cites
proof_seen a asked left right lines cites proof = record {
  said = proof.said;
  cited = cites_seen a.search.cited.items a.held.items a.taken.items a.marks.items (length a.search.nodes.items) asked.holding asked.chosen (named a.search.nodes.items) proof.cited;
  proves = proof.proves;
  tidy = proof.tidy;
}

module _ (a : Asked) (asked : IsAsked a) where
  abbrev HasTerm : Principal → Type 0
  HasTerm q = Numbered a.search.nodes.items asked.ready.table a.search.anchors.items (claims_in (about (core a.search))) q

  parts_in : (q : Principal) → HasTerm q → All HasTerm (subterms q)
  parts_in q u = parts_have a.search.nodes.items asked.ready.table a.search.anchors.items (claims_in (about (core a.search))) q u

  entries_have : All HasTerm (seen a).list
  entries_have =
      All-map HasTerm (named a.search.nodes.items) a.list.items
      (All-weaker (λ i. i < length a.search.nodes.items) (λ i. HasTerm (named a.search.nodes.items i)) (λ i b. (i, b, refl)) a.list.items asked.list_in)

  has_term : (p : Principal) → IsTermOf (seen a) p → HasTerm p
  has_term p (inl c) = All-contains HasTerm (subterms (seen a).subject) p (parts_in (seen a).subject (a.subject, asked.subject_in, refl)) c
  has_term p (inr (k, x, b, e, c)) =
      All-contains HasTerm (subterms x) p (parts_in x (subst HasTerm e (entries_have k x b))) c

  -- a term of the question is in the pool
  pub pooled_term : (p : Principal) → IsTermOf (seen a) p → ((i : ℕ) → slice_get a.pool.terms i ≡ Some p → ⊥) → ⊥
  pooled_term p t none =
      let (i, b, e) = has_term p t in
      none i
      (subst (λ (xs : List Principal). slice_get xs i ≡ Some p) asked.pooled
      (slice_get-get_or (principals_of a.search.nodes.items) i (Key 0) (omega (arith, b, length-principals_of a.search.nodes.items)) ∙ ap (λ (q : Principal). Some q) e))

  -- a number of the pool is one of the table, with the same principal
  pub pooled_number : (i : ℕ) (p : Principal) → slice_get a.pool.terms i ≡ Some p → (i < length a.search.nodes.items) × (named a.search.nodes.items i ≡ p)
  pooled_number i p e =
      let f : slice_get (principals_of a.search.nodes.items) i ≡ Some p = rw asked.pooled e in (
        omega (arith, slice_get_within (principals_of a.search.nodes.items) i p f, length-principals_of a.search.nodes.items),
        get_or_from_slice_get (principals_of a.search.nodes.items) i p (Key 0) f,
      )
