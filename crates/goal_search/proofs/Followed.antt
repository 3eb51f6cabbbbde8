-- Where each wanted row that has the left side of a new certificate has its right side, what is settled stays so.
use Rattle.std.proofs.Common.{◌≡◌, ◌⊎◌, inl, inr, ℕ, ◌+◌, ◌<◌, List, [], ◌∷◌, ◌++◌, Bool, true, false, cond, Some, filter, map, nat_lt, slice_get, length, sym, ap, refl, subst, ◌∙◌, All, Contains}
use Rattle.std.proofs.lemmas.Bool.{lt-ltb}
use Rattle.std.proofs.lemmas.List.Elements.{All-contains, All-head, All-tail, All-weaker}
use Rattle.std.proofs.lemmas.Option.{slice_get-map}
use Rattle.std.specs.Prelude.{option_map, slice_index}
use Rattle.prin_term.specs.declared.term.Anchor.{Anchor}
use Rattle.taos_calculus.proofs.Naming.{named_apart}
use Rattle.taos_calculus.specs.declared.line.Node.{Node}
use Rattle.taos_calculus.specs.Rules.{Claim}
use Rattle.taos_calculus.specs.Tables.{named}
use Rattle.term_pool.proofs.Orders.{same_or_not}
use Rattle.term_pool.specs.Claims.{CitedIn, claim_by}
use Rattle.term_pool.specs.declared.cited.Cited.{Cited}
use Rattle.goal_search.specs.Goals.{Goal, ForWhom, WhoSays}
use Rattle.goal_search.specs.NumberedRows.{BeginsAt, IsNamed, RefusesAt, IsUnheardAt, IsHandedAt, IsFinishedAt}
use Rattle.goal_search.specs.Searching.{Core, about, claims_in, Has, HasFollowed, IsFinishedIn, IsNumber, IsReady, IsSettled}
use Rattle.goal_search.specs.declared.cells.Cells.{Cells}
use Rattle.goal_search.proofs.Lengthened.{row_less, row_more}
use Rattle.goal_search.proofs.Pushed.{made_of, pushed_at}

-- ---- one claim more, at a row that has its right side where it has the left one
module _ (s : Core) (ready : IsReady s) (it : Cited) (it_in : CitedIn (length s.nodes) it) (quiet : HasFollowed s it) (more : List Claim)
    (added : (i : ℕ) (x : Claim) → slice_get more i ≡ Some x → ((k : ℕ) × (slice_get (claims_in (about s)) k ≡ Some x)) ⊎ (claim_by (named s.nodes) it ≡ x)) where
  abbrev old : List Claim
  old = claims_in (about s)

  abbrev Wanted : ℕ → Type 0
  Wanted row = Contains s.wanted row

  has_right : (row : ℕ) → Wanted row → Has s row it.left → Has s row it.right
  has_right row w h = (All-contains (λ x. IsNumber s x × (Has s x it.left → Has s x it.right)) s.wanted row quiet w).1 h

  same_number : (i j : ℕ) → i < length s.nodes → j < length s.nodes → named s.nodes i ≡ named s.nodes j → i ≡ j
  same_number i j h k e = named_apart s.nodes ready.table i j h k e

  same_holder : (a i : ℕ) → RefusesAt s.nodes old Wanted (Has s) (ForWhom a) i → RefusesAt s.nodes more Wanted (Has s) (ForWhom a) i
  same_holder a i r = record { row = r.row; finished = r.finished; begins = r.begins; lacks = r.lacks }

  one_kept : {Q : Type 0} (a c : ℕ) → Q ⊎ RefusesAt s.nodes old Wanted (Has s) (ForWhom a) c → Q ⊎ RefusesAt s.nodes more Wanted (Has s) (ForWhom a) c
  one_kept a c (inl q) = inl q
  one_kept a c (inr r) = inr (same_holder a c r)

  two_kept : {Q : Type 0} (a b c d : ℕ) → Q ⊎ RefusesAt s.nodes old Wanted (Has s) (ForWhom a) c ⊎ RefusesAt s.nodes old Wanted (Has s) (ForWhom b) d →
      Q ⊎ RefusesAt s.nodes more Wanted (Has s) (ForWhom a) c ⊎ RefusesAt s.nodes more Wanted (Has s) (ForWhom b) d
  two_kept a b c d (inl q) = inl q
  two_kept a b c d (inr (inl r)) = inr (inl (same_holder a c r))
  two_kept a b c d (inr (inr r)) = inr (inr (same_holder b d r))

  -- another statement has the same speakers
  module _ (l r : ℕ) (l_in : l < length s.nodes) (r_in : r < length s.nodes) (other : it.left ≡ l → it.right ≡ r → ⊥) where
    same_speakers : (t : ℕ) → RefusesAt s.nodes old Wanted (Has s) (WhoSays l r) t → RefusesAt s.nodes more Wanted (Has s) (WhoSays l r) t
    same_speakers t u = record { row = u.row; finished = u.finished; begins = λ i x e p q. still x p q (added i x e); lacks = u.lacks }
      where
        still : (x : Claim) → x.left ≡ named s.nodes l → x.right ≡ named s.nodes r → ((k : ℕ) × (slice_get old k ≡ Some x)) ⊎ (claim_by (named s.nodes) it ≡ x) →
            (w : ℕ) × IsNamed s.nodes w x.speaker × Has s u.row w
        still x p q (inl k) = u.begins k.0 x k.1 p q
        still x p q (inr is) =
            absurd
            (other (same_number it.left l it_in.left l_in (ap (λ (c : Claim). c.left) is ∙ p)) (same_number it.right r it_in.right r_in (ap (λ (c : Claim). c.right) is ∙ q)))

    same_unheard : IsUnheardAt s.nodes old Wanted (Has s) l r → IsUnheardAt s.nodes more Wanted (Has s) l r
    same_unheard u = record { by_right = same_speakers r u.by_right; by_delegator = λ a b p q. same_speakers a (u.by_delegator a b p q) }

  handed_more : (row : ℕ) (x : Claim) (l : ℕ) → l < length s.nodes → Wanted row → Has s row l →
      IsHandedAt s.nodes old Wanted (Has s) row x l → IsHandedAt s.nodes more Wanted (Has s) row x l
  handed_more row x l n w h d = record { right = d.right; right_is = d.right_is; handed = go d.handed }
    where
      alike : it.left ≡ l → it.right ≡ d.right → Has s row d.right
      alike e f = subst (Has s row) f (has_right row w (subst (Has s row) (sym e) h))

      unlike : (it.left ≡ l → it.right ≡ d.right → ⊥) → IsUnheardAt s.nodes old Wanted (Has s) l d.right → Has s row d.right ⊎ IsUnheardAt s.nodes more Wanted (Has s) l d.right
      unlike other u = inr (same_unheard l d.right n d.right_is.0 other u)

      go : Has s row d.right ⊎ IsUnheardAt s.nodes old Wanted (Has s) l d.right → Has s row d.right ⊎ IsUnheardAt s.nodes more Wanted (Has s) l d.right
      go (inl k) = inl k
      go (inr u) =
          elim (same_or_not it.left l) [
            | inl e ↦ elim (same_or_not it.right d.right) [ inl f ↦ inl (alike e f) | inr ne ↦ unlike (λ p q. ne q) u ]
            | inr ne ↦ unlike (λ p q. ne p) u
          ]

  pub still_finished : (row : ℕ) → Wanted row → IsFinishedIn s row → IsFinishedAt s.nodes s.anchors more Wanted (Has s) row
  still_finished row w d = record {
    left = d.left;
    right = d.right;
    both = d.both;
    role = d.role;
    anchored = d.anchored;
    quoting = λ a b c e i j p q h. two_kept a b c e (d.quoting a b c e i j p q h);
    for_both = λ a b c e i j p q h. two_kept a b c e (d.for_both a b c e i j p q h);
    role_under = λ a c r i j p q h. one_kept a c (d.role_under a c r i j p q h);
    handed = λ i l x e n h. go l x n h (added i x e);
  }
    where
      go : (l : ℕ) (x : Claim) → IsNamed s.nodes l x.left → Has s row l → ((k : ℕ) × (slice_get old k ≡ Some x)) ⊎ (claim_by (named s.nodes) it ≡ x) →
          IsHandedAt s.nodes more Wanted (Has s) row x l
      go l x n h (inl k) = handed_more row x l n.0 w h (d.handed k.0 l x k.1 n h)
      go l x n h (inr is) =
          let e : it.left ≡ l = same_number it.left l it_in.left n.0 (ap (λ (c : Claim). c.left) is ∙ sym n.1) in
          record { right = it.right; right_is = (it_in.right, ap (λ (c : Claim). c.right) is); handed = inl (has_right row w (subst (Has s row) (sym e) h)) }

-- ---- rows that have the same numbers are finished alike
module _ {X : Type 0} (nodes : List Node) (anchors : List Anchor) (claims : List Claim) (Finished : X → Type 0) (Had Has' : X → ℕ → Type 0)
    (more : (x : X) (i : ℕ) → Had x i → Has' x i) (less : (x : X) (i : ℕ) → Has' x i → Had x i) where
  refuses_alike : (goal : Goal ℕ) (i : ℕ) → RefusesAt nodes claims Finished Had goal i → RefusesAt nodes claims Finished Has' goal i
  refuses_alike goal i r = record { row = r.row; finished = r.finished; begins = go goal r.begins; lacks = λ h. r.lacks (less r.row i h) }
    where
      go : (g : Goal ℕ) → BeginsAt nodes claims Had g r.row → BeginsAt nodes claims Has' g r.row
      go (ForWhom a) h = more r.row a h
      go (WhoSays l q) h = λ k x e p f. let (w, n, y) = h k x e p f in (w, n, more r.row w y)

  one_alike : (x : X) (j a c : ℕ) → Had x j ⊎ RefusesAt nodes claims Finished Had (ForWhom a) c → Has' x j ⊎ RefusesAt nodes claims Finished Has' (ForWhom a) c
  one_alike x j a c (inl h) = inl (more x j h)
  one_alike x j a c (inr r) = inr (refuses_alike (ForWhom a) c r)

  two_alike : (x : X) (j a b c d : ℕ) → Had x j ⊎ RefusesAt nodes claims Finished Had (ForWhom a) c ⊎ RefusesAt nodes claims Finished Had (ForWhom b) d →
      Has' x j ⊎ RefusesAt nodes claims Finished Has' (ForWhom a) c ⊎ RefusesAt nodes claims Finished Has' (ForWhom b) d
  two_alike x j a b c d (inl h) = inl (more x j h)
  two_alike x j a b c d (inr (inl r)) = inr (inl (refuses_alike (ForWhom a) c r))
  two_alike x j a b c d (inr (inr r)) = inr (inr (refuses_alike (ForWhom b) d r))

  unheard_alike : (l r : ℕ) → IsUnheardAt nodes claims Finished Had l r → IsUnheardAt nodes claims Finished Has' l r
  unheard_alike l r u = record { by_right = refuses_alike (WhoSays l r) r u.by_right; by_delegator = λ a b p q. refuses_alike (WhoSays l r) a (u.by_delegator a b p q) }

  handed_alike : (x : X) (claim : Claim) (l : ℕ) → IsHandedAt nodes claims Finished Had x claim l → IsHandedAt nodes claims Finished Has' x claim l
  handed_alike x claim l d = record { right = d.right; right_is = d.right_is; handed = go d.handed }
    where
      go : Had x d.right ⊎ IsUnheardAt nodes claims Finished Had l d.right → Has' x d.right ⊎ IsUnheardAt nodes claims Finished Has' l d.right
      go (inl h) = inl (more x d.right h)
      go (inr u) = inr (unheard_alike l d.right u)

  finished_alike : (x : X) → IsFinishedAt nodes anchors claims Finished Had x → IsFinishedAt nodes anchors claims Finished Has' x
  finished_alike x d = record {
    left = λ a b c e h. more x a (d.left a b c e (less x c h));
    right = λ a b c e h. more x b (d.right a b c e (less x c h));
    both = λ a b c e h k. more x c (d.both a b c e (less x a h) (less x b k));
    role = λ a r c e h. more x c (d.role a r c e (less x a h));
    anchored = λ i c e anchor p q r h. more x e (d.anchored i c e anchor p q r (less x c h));
    quoting = λ a b c e i j p q h. two_alike x j a b c e (d.quoting a b c e i j p q (less x i h));
    for_both = λ a b c e i j p q h. two_alike x j a b c e (d.for_both a b c e i j p q (less x i h));
    role_under = λ a c r i j p q h. one_alike x j a c (d.role_under a c r i j p q (less x i h));
    handed = λ i l claim e n h. handed_alike x claim l (d.handed i l claim e n (less x l h));
  }

-- ---- what passes a test in each place is all there is
pub all_pass : (test : ℕ → Bool) (xs : List ℕ) → All (λ x. test x ≡ true) xs → filter test xs ≡ xs
all_pass test [] all = refl
all_pass test (x ∷ xs) all = by (test x) (All-head (λ y. test y ≡ true) x xs all) (all_pass test xs (All-tail (λ y. test y ≡ true) x xs all))
  where
    by : (b : Bool) → b ≡ true → filter test xs ≡ xs → cond b (x ∷ filter test xs) (filter test xs) ≡ x ∷ xs
    by true e more = ap (λ (ys : List ℕ). x ∷ ys) more
    by false e more = absurd (cc)

-- ---- the search with one certificate more, and a row for it
module _ (s : Core) (ready : IsReady s) (it : Cited) (it_in : CitedIn (length s.nodes) it) (cells : Cells) (width : cells.width ≡ s.cells.width) (rows : cells.rows ≡ s.cells.rows + 1)
    (same : (place : ℕ) → slice_index cells.cells.items place ≡ slice_index s.cells.cells.items place) where
  abbrev t : List Cited → List ℕ → Core
  t cited wanted = record { nodes = s.nodes; anchors = s.anchors; links = s.links; cited = cited; cells = cells; wanted = wanted }

  module _ (quiet : HasFollowed s it) (settled : IsSettled s) where
    kept_wanted : filter (λ x. nat_lt x (length s.nodes)) s.wanted ≡ s.wanted
    kept_wanted =
        all_pass (λ x. nat_lt x (length s.nodes)) s.wanted
        (All-weaker (λ x. IsNumber s x × (Has s x it.left → Has s x it.right)) (λ x. nat_lt x (length s.nodes) ≡ true) (λ x h. lt-ltb x (length s.nodes) h.0) s.wanted quiet)

    added : (i : ℕ) (x : Claim) → slice_get (map (claim_by (named s.nodes)) (s.cited ++ it ∷ [])) i ≡ Some x →
        ((k : ℕ) × (slice_get (claims_in (about s)) k ≡ Some x)) ⊎ (claim_by (named s.nodes) it ≡ x)
    added i x e =
        let (c, at, is) = made_of (claim_by (named s.nodes)) (s.cited ++ it ∷ []) i x e in
        elim (pushed_at s.cited it i c at) [
          | inl p ↦ inl (i, slice_get-map (claim_by (named s.nodes)) s.cited i ∙ ap (option_map (claim_by (named s.nodes))) p ∙ ap Some is)
          | inr p ↦ inr (ap (claim_by (named s.nodes)) p.1 ∙ is)
        ]

    after : IsSettled (t (s.cited ++ it ∷ []) s.wanted)
    after row w =
        let old : IsFinishedAt s.nodes s.anchors (map (claim_by (named s.nodes)) (s.cited ++ it ∷ [])) (Contains s.wanted) (Has s) row
        = still_finished s ready it it_in quiet (map (claim_by (named s.nodes)) (s.cited ++ it ∷ [])) added row w (settled row w) in
        finished_alike s.nodes s.anchors (map (claim_by (named s.nodes)) (s.cited ++ it ∷ [])) (Contains s.wanted) (Has s) (Has (t (s.cited ++ it ∷ []) s.wanted)) more less row old
      where
        more : (r c : ℕ) → Has s r c → Has (t (s.cited ++ it ∷ []) s.wanted) r c
        more r c h = row_more s.cells cells width rows same r c h

        less : (r c : ℕ) → Has (t (s.cited ++ it ∷ []) s.wanted) r c → Has s r c
        less r c h = row_less s.cells cells ready.cells width rows same r c h

    pub settled_cited : (cited : List Cited) (wanted : List ℕ) → cited ≡ s.cited ++ it ∷ [] → wanted ≡ filter (λ x. nat_lt x (length s.nodes)) s.wanted → IsSettled (t cited wanted)
    settled_cited cited wanted longer left =
        subst (λ (xs : List Cited). IsSettled (t xs wanted)) (sym longer)
        (subst (λ (ws : List ℕ). IsSettled (t (s.cited ++ it ∷ []) ws)) (sym (left ∙ kept_wanted)) after)
