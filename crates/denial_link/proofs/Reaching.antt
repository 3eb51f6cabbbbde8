-- Which principals a subject reaches, by its operands, and the first part that is not reached.
use Rattle.std.proofs.Common.{◌≡◌, ◌⊎◌, ◌↔◌, inl, inr, ℕ, ◌+◌, ◌<◌, ◌++◌, ◌∷◌, [], Bool, true, false, List, Contains, All, IsTrue, refl, sym, ◌∙◌, ap, subst, arith, Box, Global}
use Rattle.std.proofs.lemmas.Bool.{false≢true}
use Rattle.std.proofs.lemmas.List.Elements.{All-nil, All-cons, Contains-append_left, Contains-append_right, Contains-append_cases}
use Rattle.prin_term.specs.Principal.{Principal, Key, Name, And, Quoting, InRole, For, operands, subterms, node_count}
use Rattle.prin_term.specs.declared.term.Term.{Term}
use Rattle.prin_term.specs.declared.term.Term as code
use Rattle.prin_term.specs.View.{principal}
use Rattle.taos_calculus.specs.Question.{Question, IsTermOf, MayAnswer, claims_of}
use Rattle.denial_link.specs.Links.{IsReached, Lacks, here, below}
use Rattle.denial_link.proofs.Members.{has-cons, has-head, has-cases, has-nil}

-- ---- a principal's parts are itself and those of its operands

pub part_itself : (t : Principal) → Contains (subterms t) t
part_itself (Key k) = has-head (Key k) []
part_itself (Name n) = has-head (Name n) []
part_itself (And a b) = has-head (And a b) (subterms a ++ subterms b)
part_itself (Quoting a b) = has-head (Quoting a b) (subterms a ++ subterms b)
part_itself (InRole a r) = has-head (InRole a r) (subterms a)
part_itself (For a b) = has-head (For a b) (subterms a ++ subterms b)

-- of one of two operands
of_two : (t a b o s : Principal) → Contains (a ∷ b ∷ []) o → Contains (subterms o) s → Contains (t ∷ (subterms a ++ subterms b)) s
of_two t a b o s has h =
    has-cons t (subterms a ++ subterms b) s
    (elim (has-cases a (b ∷ []) o has) [
      | inl e ↦ Contains-append_left (subterms a) (subterms b) s (subst (λ (p : Principal). Contains (subterms p) s) (sym e) h)
      | inr more ↦ elim (has-cases b [] o more) [
        | inl e ↦ Contains-append_right (subterms a) (subterms b) s (subst (λ (p : Principal). Contains (subterms p) s) (sym e) h)
        | inr none ↦ absurd (has-nil o none)
      ]
    ])

pub part_of_operand : (t o s : Principal) → Contains (operands t) o → Contains (subterms o) s → Contains (subterms t) s
part_of_operand (Key k) o s has h = absurd (has-nil o has)
part_of_operand (Name n) o s has h = absurd (has-nil o has)
part_of_operand (And a b) o s has h = of_two (And a b) a b o s has h
part_of_operand (Quoting a b) o s has h = of_two (Quoting a b) a b o s has h
part_of_operand (InRole a r) o s has h =
    has-cons (InRole a r) (subterms a) s
    (elim (has-cases a [] o has) [ inl e ↦ subst (λ (p : Principal). Contains (subterms p) s) (sym e) h | inr none ↦ absurd (has-nil o none) ])
part_of_operand (For a b) o s has h = of_two (For a b) a b o s has h

abbrev IsBelow : Principal → Principal → Type 0
IsBelow t s = (o : Principal) × Contains (operands t) o × Contains (subterms o) s

in_two : (a b s : Principal) → Contains (subterms a ++ subterms b) s → (o : Principal) × Contains (a ∷ b ∷ []) o × Contains (subterms o) s
in_two a b s h =
    elim (Contains-append_cases (subterms a) (subterms b) s h) [
      | inl l ↦ (a, has-head a (b ∷ []), l)
      | inr r ↦ (b, has-cons a (b ∷ []) b (has-head b []), r)
    ]

part_cases : (t s : Principal) → Contains (subterms t) s → (t ≡ s) ⊎ IsBelow t s
part_cases (Key k) s h = elim (has-cases (Key k) [] s h) [ inl e ↦ inl e | inr none ↦ absurd (has-nil s none) ]
part_cases (Name n) s h = elim (has-cases (Name n) [] s h) [ inl e ↦ inl e | inr none ↦ absurd (has-nil s none) ]
part_cases (And a b) s h = elim (has-cases (And a b) (subterms a ++ subterms b) s h) [ inl e ↦ inl e | inr r ↦ inr (in_two a b s r) ]
part_cases (Quoting a b) s h = elim (has-cases (Quoting a b) (subterms a ++ subterms b) s h) [ inl e ↦ inl e | inr r ↦ inr (in_two a b s r) ]
part_cases (InRole a r) s h = elim (has-cases (InRole a r) (subterms a) s h) [ inl e ↦ inl e | inr q ↦ inr (a, has-head a [], q) ]
part_cases (For a b) s h = elim (has-cases (For a b) (subterms a ++ subterms b) s h) [ inl e ↦ inl e | inr r ↦ inr (in_two a b s r) ]

-- ---- the operands of the program's terms

pub operands_of_pair : (t : Term) (a b : Box Term Global) → (t ≡ code.And a b) ⊎ ((t ≡ code.Quote a b) ⊎ (t ≡ code.For a b)) → operands (principal t) ≡ principal a.value ∷ principal b.value ∷ []
operands_of_pair t a b (inl e) = ap (λ (x : Term). operands (principal x)) e
operands_of_pair t a b (inr (inl e)) = ap (λ (x : Term). operands (principal x)) e
operands_of_pair t a b (inr (inr e)) = ap (λ (x : Term). operands (principal x)) e

pub operands_of_leaf : (t : Term) → ((n : ℕ) × (t ≡ code.Key n)) ⊎ ((n : ℕ) × (t ≡ code.Name n)) → operands (principal t) ≡ []
operands_of_leaf t (inl (n, e)) = ap (λ (x : Term). operands (principal x)) e
operands_of_leaf t (inr (n, e)) = ap (λ (x : Term). operands (principal x)) e

pub operands_of_role : (t : Term) (a : Box Term Global) (r : ℕ) → t ≡ code.AsRole a r → operands (principal t) ≡ principal a.value ∷ []
operands_of_role t a r e = ap (λ (x : Term). operands (principal x)) e

fewer_in_two : (a b o : Principal) → Contains (a ∷ b ∷ []) o → node_count o < 1 + (node_count a + node_count b)
fewer_in_two a b o h =
    elim (has-cases a (b ∷ []) o h) [
      | inl e ↦ omega (arith, ap node_count e)
      | inr more ↦ elim (has-cases b [] o more) [ inl e ↦ omega (arith, ap node_count e) | inr none ↦ absurd (has-nil o none) ]
    ]

fewer_nodes : (t o : Principal) → Contains (operands t) o → node_count o < node_count t
fewer_nodes (Key k) o has = absurd (has-nil o has)
fewer_nodes (Name n) o has = absurd (has-nil o has)
fewer_nodes (And a b) o has = fewer_in_two a b o has
fewer_nodes (Quoting a b) o has = fewer_in_two a b o has
fewer_nodes (InRole a r) o has = elim (has-cases a [] o has) [ inl e ↦ omega (arith, ap node_count e) | inr none ↦ absurd (has-nil o none) ]
fewer_nodes (For a b) o has = fewer_in_two a b o has

-- an operand that stands among the operands of the whole
pub record IsOperand (whole o : Principal) : Type 0 where
  pub stands : Contains (operands whole) o

pub only_operand : (whole a : Principal) → operands whole ≡ a ∷ [] → IsOperand whole a
only_operand whole a o = record { stands = subst (λ l. Contains l a) (sym o) (has-head a []) }

pub first_operand : (whole a b : Principal) → operands whole ≡ a ∷ b ∷ [] → IsOperand whole a
first_operand whole a b o = record { stands = subst (λ l. Contains l a) (sym o) (has-head a (b ∷ [])) }

pub second_operand : (whole a b : Principal) → operands whole ≡ a ∷ b ∷ [] → IsOperand whole b
second_operand whole a b o = record { stands = subst (λ l. Contains l b) (sym o) (has-cons a (b ∷ []) b (has-head b [])) }

pub falls_to : (whole o s : Principal) (n : ℕ) → IsOperand whole o → s ≡ o → node_count whole ≡ n → node_count s < n
falls_to whole o s n is e m = omega (arith, ap node_count e, fewer_nodes whole o is.stands, m)

pub still_term : (q q' : Question) (p : Principal) → q' ≡ q → IsTermOf q p → IsTermOf q' p
still_term q q' p e h = subst (λ (x : Question). IsTermOf x p) (sym e) h

pub terms_below : (q q' : Question) (whole o s : Principal) → IsOperand whole o → s ≡ o → q' ≡ q → ((p : Principal) → Contains (subterms whole) p → IsTermOf q p) → (p : Principal) → Contains (subterms s) p → IsTermOf q' p
terms_below q q' whole o s is e f asking p h = still_term q q' p f (asking p (part_of_operand whole o p is.stands (subst (λ (x : Principal). Contains (subterms x) p) e h)))

pub operand_is_term : (q q' : Question) (whole o s : Principal) → IsOperand whole o → s ≡ o → q' ≡ q → ((p : Principal) → Contains (subterms whole) p → IsTermOf q p) → IsTermOf q' s
operand_is_term q q' whole o s is e f asked = terms_below q q' whole o s is e f asked s (part_itself s)

pub still_terms : (q q' : Question) (whole : Principal) → q' ≡ q → ((p : Principal) → Contains (subterms whole) p → IsTermOf q p) → (p : Principal) → Contains (subterms whole) p → IsTermOf q' p
still_terms q q' whole e asking p h = still_term q q' p e (asking p h)

-- ---- what a question's subject reaches

abbrev pub Reaches : Question → Principal → Principal → Type 0
Reaches q subject p = IsReached q.anchors (claims_of q) subject p

pub reaches_itself : (q : Question) (t p : Principal) → MayAnswer q t p → Reaches q t p
reaches_itself q t p d = (t, part_itself t, d)

reaches_operand : (q : Question) (t o p : Principal) → Contains (operands t) o → Reaches q o p → Reaches q t p
reaches_operand q t o p has (s, h, d) = (s, part_of_operand t o s has h, d)

reaches_cases : (q : Question) (t p : Principal) → Reaches q t p → MayAnswer q t p ⊎ ((o : Principal) × Contains (operands t) o × Reaches q o p)
reaches_cases q t p (s, h, d) =
    elim (part_cases t s h) [
      | inl e ↦ inl (subst (λ (x : Principal). MayAnswer q x p) (sym e) d)
      | inr b ↦ inr (b.0, b.1, (s, b.2, d))
    ]

pub reached_by_itself : (q : Question) (t p : Principal) (r : Bool) → IsTrue r ↔ MayAnswer q t p → r ≡ true → IsTrue true ↔ Reaches q t p
reached_by_itself q t p r is e = (λ _. reaches_itself q t p (is.0 e), λ _. refl)

pub reached_by_one : (q : Question) (t a p : Principal) (r by : Bool) → operands t ≡ a ∷ [] → IsTrue r ↔ MayAnswer q t p → r ≡ false → IsTrue by ↔ Reaches q a p → IsTrue by ↔ Reaches q t p
reached_by_one q t a p r by o is e h = (
  λ x. reaches_operand q t a p (subst (λ l. Contains l a) (sym o) (has-head a [])) (h.0 x),
  λ x. elim (reaches_cases q t p x) [
    | inl d ↦ absurd (false≢true (sym e ∙ is.1 d))
    | inr w ↦ elim (has-cases a [] w.0 (subst (λ l. Contains l w.0) o w.1)) [
      | inl f ↦ h.1 (subst (λ (b : Principal). Reaches q b p) (sym f) w.2)
      | inr none ↦ absurd (has-nil w.0 none)
    ]
  ],
)

pub reached_by_first : (q : Question) (t a b p : Principal) (by : Bool) → operands t ≡ a ∷ b ∷ [] → IsTrue by ↔ Reaches q a p → by ≡ true → IsTrue by ↔ Reaches q t p
reached_by_first q t a b p by o h e =
    (λ x. reaches_operand q t a p (subst (λ l. Contains l a) (sym o) (has-head a (b ∷ []))) (h.0 x), λ _. e)

pub reached_by_second : (q : Question) (t a b p : Principal) (r first by : Bool) → operands t ≡ a ∷ b ∷ [] → IsTrue r ↔ MayAnswer q t p → r ≡ false → IsTrue first ↔ Reaches q a p → first ≡ false → IsTrue by ↔ Reaches q b p → IsTrue by ↔ Reaches q t p
reached_by_second q t a b p r first by o is e h f k = (
  λ x. reaches_operand q t b p (subst (λ l. Contains l b) (sym o) (has-cons a (b ∷ []) b (has-head b []))) (k.0 x),
  λ x. elim (reaches_cases q t p x) [
    | inl d ↦ absurd (false≢true (sym e ∙ is.1 d))
    | inr w ↦ elim (has-cases a (b ∷ []) w.0 (subst (λ l. Contains l w.0) o w.1)) [
      | inl g ↦ absurd (false≢true (sym f ∙ h.1 (subst (λ (c : Principal). Reaches q c p) (sym g) w.2)))
      | inr more ↦ elim (has-cases b [] w.0 more) [
        | inl g ↦ k.1 (subst (λ (c : Principal). Reaches q c p) (sym g) w.2)
        | inr none ↦ absurd (has-nil w.0 none)
      ]
    ]
  ],
)

-- the same question and the same principals
pub reached_same : (q q' : Question) (s s' p p' : Principal) (r : Bool) → q' ≡ q → s' ≡ s → p' ≡ p → IsTrue r ↔ Reaches q' s' p' → IsTrue r ↔ Reaches q s p
reached_same q q' s s' p p' r e f g h =
    subst (λ (x : Question). IsTrue r ↔ Reaches x s p) e (subst (λ (x : Principal). IsTrue r ↔ Reaches q' x p) f (subst (λ (x : Principal). IsTrue r ↔ Reaches q' s' x) g h))

-- ---- the first part that lacks

module _ (R : Principal → Type 0) where
  pub lacks_leaf : (p : Principal) → operands p ≡ [] → Lacks R p 0
  lacks_leaf p o = here (subst (All R) (sym o) (All-nil R))

  pub lacks_none_of_one : (p a : Principal) (r : Bool) → operands p ≡ a ∷ [] → IsTrue r ↔ R a → r ≡ true → Lacks R p 0
  lacks_none_of_one p a r o is e = here (subst (All R) (sym o) (All-cons R a [] (is.0 e) (All-nil R)))

  pub lacks_none_of_two : (p a b : Principal) (r u : Bool) → operands p ≡ a ∷ b ∷ [] → IsTrue r ↔ R a → r ≡ true → IsTrue u ↔ R b → u ≡ true → Lacks R p 0
  lacks_none_of_two p a b r u o is e also f = here (subst (All R) (sym o) (All-cons R a (b ∷ []) (is.0 e) (All-cons R b [] (also.0 f) (All-nil R))))

  not_reached : (a : Principal) (r : Bool) → IsTrue r ↔ R a → r ≡ false → R a → ⊥
  not_reached a r is e h = false≢true (sym e ∙ is.1 h)

  pub lacks_first : (p a : Principal) (rest : List Principal) (r : Bool) (k n : ℕ) → operands p ≡ a ∷ rest → IsTrue r ↔ R a → r ≡ false → Lacks R a k → n ≡ 1 + k → Lacks R p n
  lacks_first p a rest r k n o is e l m = below [] rest o (All-nil R) (not_reached a r is e) l (omega (arith, m))

  pub lacks_second : (p a b : Principal) (r u : Bool) (k n : ℕ) → operands p ≡ a ∷ b ∷ [] → IsTrue r ↔ R a → r ≡ true → IsTrue u ↔ R b → u ≡ false → Lacks R b k → n ≡ 1 + node_count a + k → Lacks R p n
  lacks_second p a b r u k n o is e also f l m = below (a ∷ []) [] o (All-cons R a [] (is.0 e) (All-nil R)) (not_reached b u also f) l (omega (arith, m))

pub lacks_same : (q q' : Question) (s p p' : Principal) (k : ℕ) → q' ≡ q → p' ≡ p → Lacks (Reaches q' s) p' k → Lacks (Reaches q s) p k
lacks_same q q' s p p' k e f h = subst (λ (x : Question). Lacks (Reaches x s) p k) e (subst (λ (x : Principal). Lacks (Reaches q' s) x k) f h)
