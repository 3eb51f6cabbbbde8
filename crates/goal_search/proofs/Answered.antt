-- What an asked search answers, and how it stays the one that was asked.
use Rattle.std.proofs.Common.{◌≡◌, ◌⊎◌, ◌↔◌, inl, inr, ℕ, ◌<◌, ◌≤◌, Bool, true, false, not, List, Some, [], ◌∷◌, ◌++◌, length, map, replicate, set, slice_get, refl, sym, ◌∙◌, ap, All, Contains, arith}
use Rattle.std.specs.Prelude.{IsTrue, vec_capacity}
use Rattle.std.proofs.lemmas.List.Elements.{All-contains}
use Rattle.std.proofs.lemmas.Option.{none-some, slice_get-get_or, slice_get_within}
use Rattle.std.proofs.lemmas.List.{get_or-replicate, length-replicate}
use Rattle.taos_calculus.specs.Question.{MayAnswer, claim_of, picked, question_of}
use Rattle.taos_calculus.specs.Tables.{named, principals_of}
use Rattle.term_pool.specs.Claims.{claim_by}
use Rattle.prin_term.specs.declared.term.Anchor.{Anchor}
use Rattle.prin_term.specs.Principal.{Principal}
use Rattle.prin_term.specs.View.{Grant}
use Rattle.stmt_codec.specs.Certificates.{Certificate}
use Rattle.term_pool.specs.declared.cited.Cited.{Cited}
use Rattle.goal_search.specs.declared.asked.Asked.{Asked}
use Rattle.goal_search.specs.declared.search.Search.{Search}
use Rattle.goal_search.specs.Asked.{AreAmong, AreOnce, AsksAsBefore, AsksTheSame, IsAbout, IsAsked, IsGathered, IsHolding, IsMarked, seen}
use Rattle.goal_search.proofs.Choosing.{chosen_more, few_chosen, holding_more, marked_claims_are, none_marked, once_more}
use Rattle.goal_search.specs.Reasons.{About}
use Rattle.goal_search.specs.Searching.{about, core, Has, IsBegun, IsGrown, IsNumber, IsReady, IsRow, IsSettled, from_itself, from_speakers}
use Rattle.goal_search.proofs.Refusals.{never}
use Rattle.goal_search.proofs.Seen.{answers_known}
use Rattle.goal_search.proofs.Settled.{known_answers, settled_decides}

-- the question with another search
abbrev pub with_search : (a : Asked) → Search → Bool → a.pool.room ≡ 1296 → 8 ≤ vec_capacity a.list → 64 ≤ vec_capacity a.held → 64 ≤ vec_capacity a.taken → 64 ≤ vec_capacity a.marks → Asked
with_search a s b p l h t m = record {
  pool = a.pool;
  search = s;
  held = a.held;
  taken = a.taken;
  marks = a.marks;
  subject = a.subject;
  list = a.list;
  settled = b;
  pool_room = p;
  list_room = l;
  held_room = h;
  taken_room = t;
  marks_room = m;
}

module _ (a : Asked) (asked : IsAsked a) (left right : ℕ) (left_in : IsNumber (core a.search) left) (right_in : IsNumber (core a.search) right) where
  -- a wanted row of a number begins with it
  begins_itself : Contains a.search.wanted.items left → Has (core a.search) left left
  begins_itself c = go (All-contains (λ x. IsRow (core a.search) x × IsBegun (about (core a.search)) (Has (core a.search)) x) a.search.wanted.items left asked.ready.wanted c).1
    where
      go : IsBegun (about (core a.search)) (Has (core a.search)) left → Has (core a.search) left left
      go (from_itself h k) = k
      go (from_speakers k e p all) = absurd (omega (arith, p, left_in))

  pub answers_yes : Has (core a.search) left right → MayAnswer (seen a) (named a.search.nodes.items left) (named a.search.nodes.items right)
  answers_yes h = (answers_known a asked _ _).0 (known_answers (core a.search) asked.ready left right left_in h)

  -- where nothing is left to do, or the answer is there
  pub answers_all : Contains a.search.wanted.items left → Has (core a.search) left right ⊎ IsSettled (core a.search) →
      MayAnswer (seen a) (named a.search.nodes.items left) (named a.search.nodes.items right) → Has (core a.search) left right
  answers_all c (inl h) m = h
  answers_all c (inr settled) m =
      (settled_decides (core a.search) asked.ready settled left right left_in right_in c (begins_itself c)).0 ((answers_known a asked _ _).1 m)

-- the search goes on about the same table
module _ (a : Asked) (s : Search) (b : Bool) (p : a.pool.room ≡ 1296) (l : 8 ≤ vec_capacity a.list) (h : 64 ≤ vec_capacity a.held) (t : 64 ≤ vec_capacity a.taken) (m : 64 ≤ vec_capacity a.marks)
    (same : about (core s) ≡ about (core a.search)) where
  same_nodes : s.nodes.items ≡ a.search.nodes.items
  same_nodes = ap (λ (x : About). x.nodes) same

  same_cited : s.cited.items ≡ a.search.cited.items
  same_cited = ap (λ (x : About). x.cited) same

  same_seen : seen (with_search a s b p l h t m) ≡ seen a
  same_seen = λ k. record {
    anchors = (same k).anchors;
    chosen = picked 0 (map (claim_by (named (same k).nodes)) a.held.items) a.marks.items;
    subject = named (same k).nodes a.subject;
    list = map (named (same k).nodes) a.list.items;
  }

  pub asks_the_same : AsksTheSame a (with_search a s b p l h t m)
  asks_the_same = record { seen_is = same_seen; nodes_are = same_nodes }

  pub still_asked : IsReady (core s) → principals_of a.search.nodes.items ≡ a.pool.terms → a.subject < length a.search.nodes.items →
      All (λ i. i < length a.search.nodes.items) a.list.items → IsHolding (length a.search.nodes.items) a.held.items a.taken.items a.marks.items →
      ((c : Cited) → Contains a.search.cited.items c ↔ IsMarked a.held.items a.marks.items c) → AreOnce a.search.cited.items →
      (IsTrue b → IsSettled (core s)) → IsAsked (with_search a s b p l h t m)
  still_asked ready pooled subject list holding chosen once settled = record {
    ready = ready;
    pooled = ap principals_of same_nodes ∙ pooled;
    subject_in = rw same_nodes subject;
    list_in = rw same_nodes list;
    holding = rw same_nodes holding;
    chosen = rw same_cited chosen;
    once = rw same_cited once;
    settled = settled;
  }

-- a question that is taken in is asked once no row is begun
pub begun_asked : (a : Asked) (s : Search) (p : a.pool.room ≡ 1296) (l : 8 ≤ vec_capacity a.list) (h : 64 ≤ vec_capacity a.held) (t : 64 ≤ vec_capacity a.taken) (m : 64 ≤ vec_capacity a.marks)
    (g : IsGathered a) (same : about (core s) ≡ about (core a.search)) → IsReady (core s) → s.wanted.items ≡ [] → IsAsked (with_search a s a.settled p l h t m)
begun_asked a s p l h t m g same ready none =
    still_asked a s a.settled p l h t m same ready g.pooled g.subject_in g.list_in g.holding chosen (λ i j c d e f q. absurd (none-some c (rw g.none_cited at e)))
    (λ b row c. let (i, n, e) = rw none at c in absurd (omega arith))
  where
    chosen : (c : Cited) → Contains a.search.cited.items c ↔ IsMarked a.held.items a.marks.items c
    chosen c = (
      λ k. let (i, n, e) = rw g.none_cited at k in absurd (omega arith),
      λ k. absurd (none_marked (length a.held.items) k.0 (rw g.none_marked at k.2)),
    )

-- and stays so when the search grows
pub grown_asked : (a : Asked) (s : Search) (b : Bool) (p : a.pool.room ≡ 1296) (l : 8 ≤ vec_capacity a.list) (h : 64 ≤ vec_capacity a.held) (t : 64 ≤ vec_capacity a.taken) (m : 64 ≤ vec_capacity a.marks)
    (asked : IsAsked a) (grown : IsGrown (core a.search) (core s)) → (IsTrue b → IsSettled (core s)) → IsAsked (with_search a s b p l h t m)
grown_asked a s b p l h t m asked grown settled =
    still_asked a s b p l h t m grown.about_is grown.ready asked.pooled asked.subject_in asked.list_in asked.holding asked.chosen asked.once settled

pub same_then : (a b c : Asked) → AsksTheSame a b → AsksTheSame b c → AsksTheSame a c
same_then a b c f g = record { seen_is = g.seen_is ∙ f.seen_is; nodes_are = g.nodes_are ∙ f.nodes_are }

pub same_itself : (a : Asked) → AsksTheSame a a
same_itself a = record { seen_is = λ k. seen a; nodes_are = λ k. a.search.nodes.items }

-- what is settled or found is settled where it is not found
pub settled_or : (b : Bool) (S : Type 0) → IsTrue b ⊎ S → IsTrue (not b) → S
settled_or true S (inl t) n = absurd (never n)
settled_or false S (inl t) n = absurd (never t)
settled_or true S (inr s) n = s
settled_or false S (inr s) n = s

pub done_by : (b : Bool) (H S : Type 0) → (IsTrue b → H) → IsTrue b ⊎ S → H ⊎ S
done_by b H S so (inl t) = inl (so t)
done_by b H S so (inr s) = inr s

-- ---- what is asked about

-- the question by what it is about and which certificates are chosen
pub seen_about : (a : Asked) (anchors : List Anchor) (certs : List Certificate) (chosen : List Bool) (subject : Principal) (list : List Grant) →
    IsAbout a anchors certs subject list → AreAmong chosen a.taken.items → a.marks.items ≡ chosen → seen a ≡ question_of anchors certs chosen subject list
seen_about a anchors certs chosen subject list is among marks =
    let claims : picked 0 (map (claim_by (named a.search.nodes.items)) a.held.items) a.marks.items ≡ picked 0 (map claim_of certs) chosen
    = ap (picked 0 (map (claim_by (named a.search.nodes.items)) a.held.items)) marks ∙
    marked_claims_are (named a.search.nodes.items) a.held.items (map claim_of certs) a.taken.items chosen is.claims_are among.1 in
    λ k. record { anchors = is.anchors_are k; chosen = claims k; subject = is.subject_is k; list = is.list_are k }

-- it stays so where only the choice is another
pub still_about : (a b : Asked) (anchors : List Anchor) (certs : List Certificate) (subject : Principal) (list : List Grant) →
    AsksAsBefore a b → IsAbout a anchors certs subject list → IsAbout b anchors certs subject list
still_about a b anchors certs subject list same is = record {
  anchors_are = same.anchors_are ∙ is.anchors_are;
  claims_are = rw (same.nodes_are, same.held_are, same.taken_are) is.claims_are;
  subject_is = rw (same.nodes_are, same.subject_is) is.subject_is;
  list_are = rw (same.nodes_are, same.list_are) is.list_are;
}

pub before_then : (a b c : Asked) → AsksAsBefore a b → AsksAsBefore b c → AsksAsBefore a c
before_then a b c f g = record {
  nodes_are = g.nodes_are ∙ f.nodes_are;
  anchors_are = g.anchors_are ∙ f.anchors_are;
  held_are = g.held_are ∙ f.held_are;
  taken_are = g.taken_are ∙ f.taken_are;
  subject_is = g.subject_is ∙ f.subject_is;
  list_are = g.list_are ∙ f.list_are;
}

pub before_none : (a : Asked) → AsksAsBefore a a
before_none a = record { nodes_are = refl; anchors_are = refl; held_are = refl; taken_are = refl; subject_is = refl; list_are = refl }

pub among_itself : (xs : List Bool) → AreAmong xs xs
among_itself xs = (refl, λ i e. e)

-- none is marked, whichever are chosen
pub among_none : (marks chosen : List Bool) (n : ℕ) → marks ≡ replicate n false → n ≡ length chosen → AreAmong marks chosen
among_none marks chosen n none count = (
  ap length none ∙ length-replicate {A = Bool} n false ∙ count,
  λ i e. absurd (none_marked n i (rw none at e)),
)

-- each is among all
pub among_all : (chosen all : List Bool) (n : ℕ) → all ≡ replicate n true → n ≡ length chosen → AreAmong chosen all
among_all chosen all n is count = (
  sym (ap length is ∙ length-replicate {A = Bool} n true ∙ count),
  λ i e.
      let b : i < n = omega (arith, count, slice_get_within chosen i true e) in
      ap (λ (xs : List Bool). slice_get xs i) is ∙ slice_get-get_or (replicate n true) i true (omega (arith, b, length-replicate {A = Bool} n true)) ∙
      ap (λ (x : Bool). Some x) (get_or-replicate {A = Bool} n i true true b),
)

-- ---- one certificate more is chosen
module _ (a : Asked) (place : ℕ) (it : Cited) (asked : IsAsked a) (stands : slice_get a.held.items place ≡ Some it)
    (new : slice_get a.marks.items place ≡ Some false) (known : slice_get a.taken.items place ≡ Some true) where
  abbrev n : ℕ
  n = length a.search.nodes.items

  abbrev p : ℕ → Principal
  p = named a.search.nodes.items

  pub choose_few : length a.search.cited.items < 64
  choose_few = few_chosen a.search.cited.items a.held.items a.taken.items a.marks.items n asked.holding asked.chosen p asked.once place it stands new known

  pub holding_chosen : IsHolding n a.held.items a.taken.items (set a.marks.items place true)
  holding_chosen = holding_more a.search.cited.items a.held.items a.taken.items a.marks.items n asked.holding asked.chosen p asked.once place it stands new known

  pub chosen_marked : (c : Cited) → Contains (a.search.cited.items ++ it ∷ []) c ↔ IsMarked a.held.items (set a.marks.items place true) c
  chosen_marked = chosen_more a.search.cited.items a.held.items a.taken.items a.marks.items n asked.holding asked.chosen p asked.once place it stands new known

  pub chosen_once : AreOnce (a.search.cited.items ++ it ∷ [])
  chosen_once = once_more a.search.cited.items a.held.items a.taken.items a.marks.items n asked.holding asked.chosen p asked.once place it stands new known
