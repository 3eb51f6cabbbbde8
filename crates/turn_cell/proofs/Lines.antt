-- Each step keeps the line.
use Rattle.std.proofs.Common.{◌≡◌, ◌≢◌, ℕ, ◌+◌, ◌-◌, ◌%◌, ◌<◌, List, [], ◌∷◌, ◌++◌, set, refl, sym, ap, ◌∙◌, subst, ⊎_elim, arith}
use Rattle.std.proofs.Math.Nat.{mod-add-mod}
use mathlib.Core.Logic.{dite}
use mathlib.Core.Option.{some, some-injective}
use native.Mathlib.Decide.{ℕ_discrete}
use lib.ListN.{get_elem?}
use Rattle.atomic_table.proofs.Lists.{at_set, at_snoc, at_longer, set_here, set_else, one_turn}
use Rattle.turn_cell.specs.declared.view.Stage.{Stage}
use Rattle.turn_cell.specs.declared.view.Stage.TheVariants.{Idle, Waiting, Turn, Joined}
use Rattle.turn_cell.specs.declared.view.View.{View}
use Rattle.turn_cell.specs.Line.{Holds, tickets, IsLined}
use Rattle.turn_cell.proofs.Sums.{index_below, sum_set, sum_push}

abbrev pub ring : ℕ
ring = 18446744073709551616

module _ {E : Type 0} where
  holds_one : (t : ℕ) (stage : Stage E) → Holds t stage → tickets stage ≡ 1
  holds_one t Idle h = absurd h
  holds_one t (Waiting u) h = refl
  holds_one t (Turn u entered) h = refl
  holds_one t (Joined xs ys) h = absurd h

  holds_same : (t u : ℕ) (stage : Stage E) → Holds t stage → Holds u stage → t ≡ u
  holds_same t u Idle h k = absurd h
  holds_same t u (Waiting x) h k = sym h ∙ k
  holds_same t u (Turn x entered) h k = sym h ∙ k
  holds_same t u (Joined xs ys) h k = absurd h

module _ {F E : Type 0} where
  abbrev T : View F E → ℕ
  T v = tickets v.stage

  -- some view holds the ticket
  abbrev Held : List (View F E) → ℕ → Type 0
  Held vs t = (seat : ℕ) × (d : View F E) × (get_elem? vs seat ≡ some d) × Holds t d.stage

  held_set : (t : ℕ) (vs : List (View F E)) (id : ℕ) (v w : View F E) → get_elem? vs id ≡ some v → (Holds t v.stage → Holds t w.stage) → Held vs t → Held (set vs id w) t
  held_set t vs id v w at back h = dite (ℕ_discrete h.0 id)
      (λ e. let same : h.1 ≡ v = some-injective h.1 v (sym h.2 ∙ (ap (get_elem? vs) e ∙ at)) in (id, w, set_here vs id w (index_below vs id v at), back (subst (λ (x : View F E). Holds t x.stage) same h.3)))
      (λ ne. (h.0, h.1, set_else vs id h.0 w ne ∙ h.2, h.3))

  -- a view whose ticket is that of the one before it
  pub line_same : (serving ticket : ℕ) (vs : List (View F E)) (id : ℕ) (v w : View F E) → IsLined serving ticket vs → get_elem? vs id ≡ some v → tickets w.stage ≡ tickets v.stage
      → ((t : ℕ) → Holds t w.stage → Holds t v.stage) → ((t : ℕ) → Holds t v.stage → Holds t w.stage) → IsLined serving ticket (set vs id w)
  line_same serving ticket vs id v w r at same keeps back = record {
    each_held = λ k lt. held_set ((serving + k) % ring) vs id v w at (back ((serving + k) % ring)) (r.each_held k lt);
    out = r.out;
    next = r.next;
    one_each = let s = sum_set T vs id v w at in let o = r.one_each in omega arith;
    in_line = λ seat t d e h. ⊎_elim (λ (p : (seat ≡ id) × (w ≡ d)). r.in_line id t v at (keeps t (subst (λ (x : View F E). Holds t x.stage) (sym p.1) h)))
        (λ (p : (seat ≢ id) × (get_elem? vs seat ≡ some d)). r.in_line seat t d p.1 h) (at_set vs id seat w d e);
    alone = λ seat other t d d' e e' h h'. ⊎_elim (λ (p : (seat ≡ id) × (w ≡ d)). ⊎_elim (λ (q : (other ≡ id) × (w ≡ d')). p.0 ∙ sym q.0)
        (λ (q : (other ≢ id) × (get_elem? vs other ≡ some d')). p.0 ∙ r.alone id other t v d' at q.1 (keeps t (subst (λ (x : View F E). Holds t x.stage) (sym p.1) h)) h') (at_set vs id other w d' e'))
        (λ (p : (seat ≢ id) × (get_elem? vs seat ≡ some d)). ⊎_elim (λ (q : (other ≡ id) × (w ≡ d')). r.alone seat id t d v p.1 at h (keeps t (subst (λ (x : View F E). Holds t x.stage) (sym q.1) h')) ∙ sym q.0)
        (λ (q : (other ≢ id) × (get_elem? vs other ≡ some d')). r.alone seat other t d d' p.1 q.1 h h') (at_set vs id other w d' e')) (at_set vs id seat w d e);
  }

  -- a new view that holds no ticket
  pub line_more : (serving ticket : ℕ) (vs : List (View F E)) (w : View F E) → IsLined serving ticket vs → tickets w.stage ≡ 0 → ((t : ℕ) → ¬ (Holds t w.stage)) → IsLined serving ticket (vs ++ w ∷ [])
  line_more serving ticket vs w r none never = record {
    each_held = λ k lt. let h = r.each_held k lt in (h.0, h.1, at_longer vs (w ∷ []) h.0 h.1 h.2, h.3);
    out = r.out;
    next = r.next;
    one_each = let o = r.one_each in let p = sum_push T vs w in omega arith;
    in_line = λ seat t d e h. ⊎_elim (λ (p : get_elem? vs seat ≡ some d). r.in_line seat t d p h) (λ (p : w ≡ d). absurd (never t (subst (λ (x : View F E). Holds t x.stage) (sym p) h))) (at_snoc vs w d seat e);
    alone = λ seat other t d d' e e' h h'. ⊎_elim (λ (p : get_elem? vs seat ≡ some d). ⊎_elim (λ (q : get_elem? vs other ≡ some d'). r.alone seat other t d d' p q h h')
        (λ (q : w ≡ d'). absurd (never t (subst (λ (x : View F E). Holds t x.stage) (sym q) h'))) (at_snoc vs w d' other e')) (λ (p : w ≡ d). absurd (never t (subst (λ (x : View F E). Holds t x.stage) (sym p) h))) (at_snoc vs w d seat e);
  }

  -- the ticket that comes next is of no view
  fresh : (serving ticket : ℕ) (vs : List (View F E)) (r : IsLined serving ticket vs) → r.out < ring → (seat : ℕ) (d : View F E) → get_elem? vs seat ≡ some d → ¬ (Holds ticket d.stage)
  fresh serving ticket vs r few seat d e h = let p = r.in_line seat ticket d e h in let lt = p.1 in
      let same : (serving + p.0) % ring ≡ (serving + r.out) % ring = sym p.2 ∙ r.next in
      let one : serving + p.0 ≡ serving + r.out = one_turn (serving + p.0) (serving + r.out) ring (omega arith) (omega arith) same in omega arith

  -- a view draws the ticket
  pub line_drawn : (serving ticket : ℕ) (vs : List (View F E)) (id : ℕ) (v : View F E) (w : View F E) → (r : IsLined serving ticket vs) → get_elem? vs id ≡ some v → tickets v.stage ≡ 0 → w.stage ≡ Waiting ticket → r.out < ring
      → IsLined serving ((ticket + 1) % ring) (set vs id w)
  line_drawn serving ticket vs id v w r at none is few = let is_one : tickets w.stage ≡ 1 = ap tickets is in
      let mine : (t : ℕ) → Holds t w.stage → ticket ≡ t = λ t h. subst (Holds t) is h in record {
        out = r.out + 1;
        each_held = λ k lt. dite (ℕ_discrete k r.out)
            (λ e. (id, w, set_here vs id w (index_below vs id v at), subst (Holds ((serving + k) % ring)) (sym is) (r.next ∙ ap (λ (z : ℕ). (serving + z) % ring) (sym e))))
            (λ ne. held_set ((serving + k) % ring) vs id v w at (λ h. let z = holds_one ((serving + k) % ring) v.stage h in absurd (omega arith)) (r.each_held k (omega arith)));
        next = ap (λ (z : ℕ). (z + 1) % ring) r.next ∙ (mod-add-mod (serving + r.out) ring 1 ∙ (let a : (serving + r.out) + 1 ≡ serving + (r.out + 1) = omega arith in ap (λ (z : ℕ). z % ring) a));
        one_each = let s = sum_set T vs id v w at in let o = r.one_each in omega arith;
        in_line = λ seat t d e h. ⊎_elim (λ (p : (seat ≡ id) × (w ≡ d)). (r.out, omega arith, sym (mine t (subst (λ (x : View F E). Holds t x.stage) (sym p.1) h)) ∙ r.next))
            (λ (p : (seat ≢ id) × (get_elem? vs seat ≡ some d)). let q = r.in_line seat t d p.1 h in let lt = q.1 in (q.0, omega arith, q.2)) (at_set vs id seat w d e);
        alone = λ seat other t d d' e e' h h'. ⊎_elim (λ (p : (seat ≡ id) × (w ≡ d)). ⊎_elim (λ (q : (other ≡ id) × (w ≡ d')). p.0 ∙ sym q.0)
            (λ (q : (other ≢ id) × (get_elem? vs other ≡ some d')). absurd (fresh serving ticket vs r few other d' q.1 (subst (λ (z : ℕ). Holds z d'.stage) (sym (mine t (subst (λ (x : View F E). Holds t x.stage) (sym p.1) h))) h'))) (at_set vs id other w d' e'))
            (λ (p : (seat ≢ id) × (get_elem? vs seat ≡ some d)). ⊎_elim (λ (q : (other ≡ id) × (w ≡ d')). absurd (fresh serving ticket vs r few seat d p.1 (subst (λ (z : ℕ). Holds z d.stage) (sym (mine t (subst (λ (x : View F E). Holds t x.stage) (sym q.1) h'))) h)))
            (λ (q : (other ≢ id) × (get_elem? vs other ≡ some d')). r.alone seat other t d d' p.1 q.1 h h') (at_set vs id other w d' e')) (at_set vs id seat w d e);
      }

  -- the view whose turn it is gives its ticket up
  pub line_called : (serving ticket : ℕ) (vs : List (View F E)) (id : ℕ) (v w : View F E) → (r : IsLined serving ticket vs) → get_elem? vs id ≡ some v → serving < ring → tickets v.stage ≡ 1 → Holds serving v.stage → tickets w.stage ≡ 0 → ((t : ℕ) → ¬ (Holds t w.stage)) → r.out < ring
      → IsLined ((serving + 1) % ring) ticket (set vs id w)
  line_called serving ticket vs id v w r at fits one holds none never few = record {
    out = r.out - 1;
    each_held = λ k lt. let later : ((serving + 1) % ring + k) % ring ≡ (serving + (k + 1)) % ring = mod-add-mod (serving + 1) ring k ∙ (let a : (serving + 1) + k ≡ serving + (k + 1) = omega arith in ap (λ (z : ℕ). z % ring) a) in
        subst (Held (set vs id w)) (sym later) (held_set ((serving + (k + 1)) % ring) vs id v w at
        (λ h. let same : (serving + (k + 1)) % ring ≡ serving = holds_same ((serving + (k + 1)) % ring) serving v.stage h holds in
        let turned : serving % ring ≡ (serving + (k + 1)) % ring = omega arith in
        let one_number : serving ≡ serving + (k + 1) = one_turn serving (serving + (k + 1)) ring (omega arith) (omega arith) turned in absurd (omega arith))
        (r.each_held (k + 1) (omega arith)));
    next = let some_out : 0 < r.out = (let q = r.in_line id serving v at holds in let lt = q.1 in omega arith) in
        r.next ∙ sym (mod-add-mod (serving + 1) ring (r.out - 1) ∙ (let a : (serving + 1) + (r.out - 1) ≡ serving + r.out = omega arith in ap (λ (z : ℕ). z % ring) a));
    one_each = let s = sum_set T vs id v w at in let o = r.one_each in omega arith;
    in_line = λ seat t d e h. ⊎_elim (λ (p : (seat ≡ id) × (w ≡ d)). absurd (never t (subst (λ (x : View F E). Holds t x.stage) (sym p.1) h)))
        (λ (p : (seat ≢ id) × (get_elem? vs seat ≡ some d)). let q = r.in_line seat t d p.1 h in let lt = q.1 in dite (ℕ_discrete q.0 0)
        (λ first. let here : t ≡ serving = q.2 ∙ (ap (λ (z : ℕ). (serving + z) % ring) first ∙ omega arith) in absurd (p.0 (r.alone seat id serving d v p.1 at (subst (λ (z : ℕ). Holds z d.stage) here h) holds)))
        (λ later. (q.0 - 1, omega arith, q.2 ∙ sym (mod-add-mod (serving + 1) ring (q.0 - 1) ∙ (let a : (serving + 1) + (q.0 - 1) ≡ serving + q.0 = omega arith in ap (λ (z : ℕ). z % ring) a)))))
        (at_set vs id seat w d e);
    alone = λ seat other t d d' e e' h h'. ⊎_elim (λ (p : (seat ≡ id) × (w ≡ d)). absurd (never t (subst (λ (x : View F E). Holds t x.stage) (sym p.1) h)))
        (λ (p : (seat ≢ id) × (get_elem? vs seat ≡ some d)). ⊎_elim (λ (q : (other ≡ id) × (w ≡ d')). absurd (never t (subst (λ (x : View F E). Holds t x.stage) (sym q.1) h')))
        (λ (q : (other ≢ id) × (get_elem? vs other ≡ some d')). r.alone seat other t d d' p.1 q.1 h h') (at_set vs id other w d' e')) (at_set vs id seat w d e);
  }
