-- When a look finds nothing, each wanted row is finished.
use Rattle.std.proofs.Common.{◌≡◌, ◌⊎◌, inl, inr, ℕ, ◌+◌, ◌<◌, List, Some, slice_get, length, sym, ◌∙◌, ap, arith, refl, Contains}
use Rattle.std.proofs.lemmas.Option.{same_Some, slice_get_within, slice_get-get_or}
use Rattle.taos_calculus.specs.declared.line.Node.{Node}
use Rattle.goal_search.specs.declared.search.Anchored.{Anchored}
use Rattle.goal_search.specs.Goals.{ForWhom}
use Rattle.goal_search.specs.Gaps.{RefusesIn, IsFormed, IsNamedIn, IsPassedOnIn, IsHandedIn, form_of}
use Rattle.goal_search.specs.Searching.{Core, Has, IsNumber, IsReady, IsFinishedIn}
use Rattle.goal_search.proofs.ByCited.{handed_cited}

-- two nodes at one number are one
one_node : (nodes : List Node) (i : ℕ) (a b : Node) → slice_get nodes i ≡ Some a → slice_get nodes i ≡ Some b → a ≡ b
one_node nodes i a b e f = same_Some a b (sym e ∙ f)

-- the form of the node that stands somewhere
pub form_at : (nodes : List Node) (i : ℕ) (m : Node) → slice_get nodes i ≡ Some m → (n : Node) → slice_get nodes i ≡ Some n → form_of m ≡ form_of n
form_at nodes i m e n f = ap form_of (one_node nodes i m n e f)

pub formless : (node : Node) → ((a b : ℕ) → node ≡ Node.Quote a b → ⊥) → ((a b : ℕ) → node ≡ Node.For a b → ⊥) → ((a r : ℕ) → node ≡ Node.AsRole a r → ⊥) → 0 ≡ form_of node
formless (Node.Key k) nq nf nr = refl
formless (Node.Name n) nq nf nr = refl
formless (Node.And a b) nq nf nr = refl
formless (Node.Quote a b) nq nf nr = absurd (nq a b refl)
formless (Node.For a b) nq nf nr = absurd (nf a b refl)
formless (Node.AsRole a r) nq nf nr = absurd (nr a r refl)

module _ (s : Core) (row : ℕ) where
  -- nothing is passed on to what has no form
  pub no_target : (i j : ℕ) (node : Node) → slice_get s.nodes j ≡ Some node →
      ((a b : ℕ) → node ≡ Node.Quote a b → ⊥) → ((a b : ℕ) → node ≡ Node.For a b → ⊥) → ((a r : ℕ) → node ≡ Node.AsRole a r → ⊥) → IsPassedOnIn s row i j
  no_target i j node e nq nf nr = record {
    quoting = λ a b c d f g h. absurd (nq c d (one_node s.nodes j node (Node.Quote c d) e g));
    for_both = λ a b c d f g h. absurd (nf c d (one_node s.nodes j node (Node.For c d) e g));
    role_under = λ a c r f g h. absurd (nr c r (one_node s.nodes j node (Node.AsRole c r) e g));
  }

  module _ (i j form : ℕ) (form_is : (m : Node) → slice_get s.nodes i ≡ Some m → form ≡ form_of m) where
    -- nor by what has none
    pub no_form : form ≡ 0 → IsPassedOnIn s row i j
    no_form z = record {
      quoting = λ a b c d f g h. absurd (let q : form ≡ 1 = form_is (Node.Quote a b) f in omega (arith, q, z));
      for_both = λ a b c d f g h. absurd (let q : form ≡ 2 = form_is (Node.For a b) f in omega (arith, q, z));
      role_under = λ a c r f g h. absurd (let q : form ≡ r + 3 = form_is (Node.AsRole a r) f in omega (arith, q, z));
    }

    -- nor to what has another
    pub other_form : (other : ℕ) → ((n : Node) → slice_get s.nodes j ≡ Some n → other ≡ form_of n) → (other ≡ form → ⊥) → IsPassedOnIn s row i j
    other_form other other_is ne = record {
      quoting = λ a b c d f g h. absurd (ne (other_is (Node.Quote c d) g ∙ sym (form_is (Node.Quote a b) f)));
      for_both = λ a b c d f g h. absurd (ne (other_is (Node.For c d) g ∙ sym (form_is (Node.For a b) f)));
      role_under = λ a c r f g h. absurd (ne (other_is (Node.AsRole c r) g ∙ sym (form_is (Node.AsRole a r) f)));
    }

  module _ (i j a b : ℕ) (e : slice_get s.nodes i ≡ Some (Node.Quote a b)) where
    pub quoting_refused : (c d : ℕ) → slice_get s.nodes j ≡ Some (Node.Quote c d) → RefusesIn s (ForWhom a) c ⊎ RefusesIn s (ForWhom b) d → IsPassedOnIn s row i j
    quoting_refused c d f r = record {
      quoting = λ a' b' c' d' e' f' h.
          let p : Node.Quote a b ≡ Node.Quote a' b' = one_node s.nodes i (Node.Quote a b) (Node.Quote a' b') e e' in
          let q : Node.Quote c d ≡ Node.Quote c' d' = one_node s.nodes j (Node.Quote c d) (Node.Quote c' d') f f' in
          let pa : a ≡ a' = cc in let pb : b ≡ b' = cc in let qc : c ≡ c' = cc in let qd : d ≡ d' = cc in
          inr (rw (← pa, ← pb, ← qc, ← qd) r);
      for_both = λ a' b' c' d' e' f' h. absurd (let p : Node.Quote a b ≡ Node.For a' b' = one_node s.nodes i (Node.Quote a b) (Node.For a' b') e e' in cc);
      role_under = λ a' c' r' e' f' h. absurd (let p : Node.Quote a b ≡ Node.AsRole a' r' = one_node s.nodes i (Node.Quote a b) (Node.AsRole a' r') e e' in cc);
    }

    pub quoting_other : (node : Node) → slice_get s.nodes j ≡ Some node → ((c d : ℕ) → node ≡ Node.Quote c d → ⊥) → IsPassedOnIn s row i j
    quoting_other node f other = record {
      quoting = λ a' b' c' d' e' f' h. absurd (other c' d' (one_node s.nodes j node (Node.Quote c' d') f f'));
      for_both = λ a' b' c' d' e' f' h. absurd (let p : Node.Quote a b ≡ Node.For a' b' = one_node s.nodes i (Node.Quote a b) (Node.For a' b') e e' in cc);
      role_under = λ a' c' r' e' f' h. absurd (let p : Node.Quote a b ≡ Node.AsRole a' r' = one_node s.nodes i (Node.Quote a b) (Node.AsRole a' r') e e' in cc);
    }

  module _ (i j a b : ℕ) (e : slice_get s.nodes i ≡ Some (Node.For a b)) where
    pub for_refused : (c d : ℕ) → slice_get s.nodes j ≡ Some (Node.For c d) → RefusesIn s (ForWhom a) c ⊎ RefusesIn s (ForWhom b) d → IsPassedOnIn s row i j
    for_refused c d f r = record {
      quoting = λ a' b' c' d' e' f' h. absurd (let p : Node.For a b ≡ Node.Quote a' b' = one_node s.nodes i (Node.For a b) (Node.Quote a' b') e e' in cc);
      for_both = λ a' b' c' d' e' f' h.
          let p : Node.For a b ≡ Node.For a' b' = one_node s.nodes i (Node.For a b) (Node.For a' b') e e' in
          let q : Node.For c d ≡ Node.For c' d' = one_node s.nodes j (Node.For c d) (Node.For c' d') f f' in
          let pa : a ≡ a' = cc in let pb : b ≡ b' = cc in let qc : c ≡ c' = cc in let qd : d ≡ d' = cc in
          inr (rw (← pa, ← pb, ← qc, ← qd) r);
      role_under = λ a' c' r' e' f' h. absurd (let p : Node.For a b ≡ Node.AsRole a' r' = one_node s.nodes i (Node.For a b) (Node.AsRole a' r') e e' in cc);
    }

    pub for_other : (node : Node) → slice_get s.nodes j ≡ Some node → ((c d : ℕ) → node ≡ Node.For c d → ⊥) → IsPassedOnIn s row i j
    for_other node f other = record {
      quoting = λ a' b' c' d' e' f' h. absurd (let p : Node.For a b ≡ Node.Quote a' b' = one_node s.nodes i (Node.For a b) (Node.Quote a' b') e e' in cc);
      for_both = λ a' b' c' d' e' f' h. absurd (other c' d' (one_node s.nodes j node (Node.For c' d') f f'));
      role_under = λ a' c' r' e' f' h. absurd (let p : Node.For a b ≡ Node.AsRole a' r' = one_node s.nodes i (Node.For a b) (Node.AsRole a' r') e e' in cc);
    }

  module _ (i j a r : ℕ) (e : slice_get s.nodes i ≡ Some (Node.AsRole a r)) where
    pub role_refused : (c : ℕ) → slice_get s.nodes j ≡ Some (Node.AsRole c r) → RefusesIn s (ForWhom a) c ⊎ RefusesIn s (ForWhom a) a → IsPassedOnIn s row i j
    role_refused c f n = record {
      quoting = λ a' b' c' d' e' f' h. absurd (let p : Node.AsRole a r ≡ Node.Quote a' b' = one_node s.nodes i (Node.AsRole a r) (Node.Quote a' b') e e' in cc);
      for_both = λ a' b' c' d' e' f' h. absurd (let p : Node.AsRole a r ≡ Node.For a' b' = one_node s.nodes i (Node.AsRole a r) (Node.For a' b') e e' in cc);
      role_under = λ a' c' r' e' f' h.
          let p : Node.AsRole a r ≡ Node.AsRole a' r' = one_node s.nodes i (Node.AsRole a r) (Node.AsRole a' r') e e' in
          let q : Node.AsRole c r ≡ Node.AsRole c' r' = one_node s.nodes j (Node.AsRole c r) (Node.AsRole c' r') f f' in
          let pa : a ≡ a' = cc in let qc : c ≡ c' = cc in
          inr (rw (← pa, ← qc) (only n));
    }
      where
        only : RefusesIn s (ForWhom a) c ⊎ RefusesIn s (ForWhom a) a → RefusesIn s (ForWhom a) c
        only (inl m) = m
        only (inr m) = absurd (m.lacks m.begins)

    pub role_other : (node : Node) → slice_get s.nodes j ≡ Some node → ((c : ℕ) → node ≡ Node.AsRole c r → ⊥) → IsPassedOnIn s row i j
    role_other node f other = record {
      quoting = λ a' b' c' d' e' f' h. absurd (let p : Node.AsRole a r ≡ Node.Quote a' b' = one_node s.nodes i (Node.AsRole a r) (Node.Quote a' b') e e' in cc);
      for_both = λ a' b' c' d' e' f' h. absurd (let p : Node.AsRole a r ≡ Node.For a' b' = one_node s.nodes i (Node.AsRole a r) (Node.For a' b') e e' in cc);
      role_under = λ a' c' r' e' f' h.
          let p : Node.AsRole a r ≡ Node.AsRole a' r' = one_node s.nodes i (Node.AsRole a r) (Node.AsRole a' r') e e' in
          let q : node ≡ Node.AsRole c' r' = one_node s.nodes j node (Node.AsRole c' r') f f' in
          let qr : r ≡ r' = cc in
          absurd (other c' (rw qr q));
    }

  -- a row about which nothing is left is finished
  module _ (ready : IsReady s)
      (formed : (number : ℕ) → IsNumber s number → IsFormed s row number)
      (links : (k : ℕ) (link : Anchored) → slice_get s.links k ≡ Some link → IsNamedIn s row link)
      (handed : (number : ℕ) → number < length s.cited → IsHandedIn s row number)
      (passed : (from to : ℕ) → IsNumber s from → IsNumber s to → IsPassedOnIn s row from to) where
    inside : (i : ℕ) (node : Node) → slice_get s.nodes i ≡ Some node → IsNumber s i
    inside i node e = slice_get_within s.nodes i node e

    pub finished_row : IsFinishedIn s row
    finished_row = record {
      left = λ a b c e h. (formed c (inside c (Node.And a b) e)).left a b e h;
      right = λ a b c e h. (formed c (inside c (Node.And a b) e)).right a b e h;
      both = λ a b c e h k. (formed c (inside c (Node.And a b) e)).both a b e h k;
      role = λ a r c e h. (formed c (inside c (Node.AsRole a r) e)).role a r e h;
      anchored = λ i c d anchor e f g h.
          let (k, b, is) = ready.anchored.all i c d anchor e f g in
          links k (record { key = c; name = d }) (slice_get-get_or s.links k (record { key = c; name = d }) b ∙ ap (λ (l : Anchored). Some l) is) h;
      quoting = λ a b c d i j e f h. (passed i j (inside i (Node.Quote a b) e) (inside j (Node.Quote c d) f)).quoting a b c d e f h;
      for_both = λ a b c d i j e f h. (passed i j (inside i (Node.For a b) e) (inside j (Node.For c d) f)).for_both a b c d e f h;
      role_under = λ a c r i j e f h. (passed i j (inside i (Node.AsRole a r) e) (inside j (Node.AsRole c r) f)).role_under a c r e f h;
      handed = handed_cited s.nodes ready.table s.cited ready.cited_in (Has s) (Contains s.wanted) row (λ i c e h. handed i (slice_get_within s.cited i c e) c e h);
    }
