-- The certificates that a search has are those of its question that are chosen.
use Rattle.std.proofs.Common.{◌≡◌, ◌≢◌, ◌↔◌, inl, inr, ℕ, suc, ◌+◌, ◌<◌, Bool, true, false, List, [], ◌∷◌, ◌++◌, Some, slice_get, get_or, length, map, replicate, set, refl, sym, ap, ap₂, subst, ◌∙◌, Contains, arith}
use Rattle.std.specs.Prelude.{option_map}
use Rattle.std.proofs.Math.Dec.{eqb}
use Rattle.std.proofs.lemmas.Bool.{eqb-true, false_from_ne_true}
use Rattle.std.proofs.lemmas.List.{get_or-replicate, length-append, length-map, length-replicate, length-set}
use Rattle.std.proofs.lemmas.List.Elements.{Contains-append_left, Contains-push, Contains-push_cases}
use Rattle.std.proofs.lemmas.Map.Keys.{IsDistinct-from_apart}
use Rattle.std.proofs.lemmas.Map.Steps.{length-le_from_distinct_below}
use Rattle.std.proofs.lemmas.Map.Views.{Contains-from_any}
use Rattle.std.proofs.lemmas.Option.{same_Some, slice_get-get_or, slice_get-map, slice_get_within}
use Rattle.term_pool.proofs.Orders.{same_or_not}
use Rattle.taos_calculus.proofs.Asking.{IsPicked, has-picked, picked-at}
use Rattle.taos_calculus.proofs.Atoms.{Contains-at, at-Contains}
use Rattle.taos_calculus.specs.Question.{AreCited, no_cite, a_cite, picked}
use Rattle.taos_calculus.specs.Rules.{Claim}
use Rattle.term_pool.specs.Claims.{ArePlacesApart, chosen_by, claim_by}
use Rattle.term_pool.specs.declared.cited.Cited.{Cited}
use Rattle.prin_term.specs.Principal.{Principal}
use Rattle.goal_search.specs.Asked.{AreOnce, IsHolding, IsMarked, MakeClaims}
use Rattle.goal_search.proofs.Pushed.{made_of, pushed_at, set_here, set_there}

-- the certificates that a search has, and those that are held, of which some are marked
module _ (cited held : List Cited) (taken marks : List Bool) (n : ℕ) (holding : IsHolding n held taken marks)
    (chosen : (c : Cited) → Contains cited c ↔ IsMarked held marks c) (p : ℕ → Principal) where
  abbrev all : List Claim
  all = map (claim_by p) held

  abbrev marked_claims : List (ℕ × Claim)
  marked_claims = picked 0 all marks

  -- what is marked is picked, at its place
  held_picked : (c : Cited) → IsMarked held marks c → (k : ℕ) × (slice_get marked_claims k ≡ Some (chosen_by p c))
  held_picked c (i, e, m) =
      let stands : slice_get all i ≡ Some (claim_by p c) = slice_get-map (claim_by p) held i ∙ ap (option_map (claim_by p)) e in
      let (k, s) = has-picked 0 all marks i (claim_by p c) stands m in
      let at : 0 + i ≡ c.place = omega (arith, holding.placed i c e) in
      (k, s ∙ (λ j. Some (at j, claim_by p c)))

  -- what the question's certificates say, the search's say
  pub seen_said : (i : ℕ) (x : Claim) → slice_get (map (λ (c : ℕ × Claim). c.1) marked_claims) i ≡ Some x → (k : ℕ) × (slice_get (map (claim_by p) cited) k ≡ Some x)
  seen_said i x e =
      let (pair, at, is) = made_of (λ (c : ℕ × Claim). c.1) marked_claims i x e in
      let here : IsPicked 0 all marks pair.0 pair.1 = picked-at 0 all marks i pair.0 pair.1 at in
      let (c, stands, says) = made_of (claim_by p) held here.number pair.1 here.stands in
      let (k, there) = at-Contains cited c ((chosen c).1 (here.number, stands, here.marked)) in
      (k, slice_get-map (claim_by p) cited k ∙ ap (option_map (claim_by p)) there ∙ ap Some (says ∙ is))

  -- and the other way round
  pub said_seen : (i : ℕ) (x : Claim) → slice_get (map (claim_by p) cited) i ≡ Some x → (k : ℕ) × (slice_get (map (λ (c : ℕ × Claim). c.1) marked_claims) k ≡ Some x)
  said_seen i x e =
      let (c, at, is) = made_of (claim_by p) cited i x e in
      let (k, s) = held_picked c ((chosen c).0 (Contains-at cited i c at)) in
      (k, slice_get-map (λ (d : ℕ × Claim). d.1) marked_claims k ∙ ap (option_map (λ (d : ℕ × Claim). d.1)) s ∙ ap Some is)

  chosen_seen : (x : ℕ × Claim) → Contains (map (chosen_by p) cited) x → Contains marked_claims x
  chosen_seen x h =
      let (i, e) = at-Contains (map (chosen_by p) cited) x h in
      let (c, at, is) = made_of (chosen_by p) cited i x e in
      let (k, s) = held_picked c ((chosen c).0 (Contains-at cited i c at)) in
      Contains-at marked_claims k x (s ∙ ap Some is)

  -- what cites the search's certificates cites the question's
  pub cites_seen : {places : List ℕ} {said : List Claim} → AreCited (map (chosen_by p) cited) places said → AreCited marked_claims places said
  cites_seen no_cite = no_cite
  cites_seen (a_cite {place = place} {claim = claim} h rest) = a_cite (chosen_seen (place, claim) h) (cites_seen rest)

  pub places_apart : AreOnce cited → ArePlacesApart (map (chosen_by p) cited)
  places_apart once i j place x y e f =
      let (c, at, is) = made_of (chosen_by p) cited i (place, x) e in
      let (d, there, says) = made_of (chosen_by p) cited j (place, y) f in
      once i j c d at there (ap (λ (z : ℕ × Claim). z.0) is ∙ sym (ap (λ (z : ℕ × Claim). z.0) says))

  -- ---- one more is chosen
  module _ (once : AreOnce cited) (place : ℕ) (it : Cited) (stands : slice_get held place ≡ Some it) (new : slice_get marks place ≡ Some false) (known : slice_get taken place ≡ Some true) where
    inside : place < length marks
    inside = slice_get_within marks place false new

    was_marked : (i : ℕ) → slice_get marks i ≡ Some true → i ≢ place
    was_marked i m e = let q : false ≡ true = same_Some false true (sym new ∙ ap (slice_get marks) (sym e) ∙ m) in absurd (cc)

    pub chosen_more : (c : Cited) → Contains (cited ++ it ∷ []) c ↔ IsMarked held (set marks place true) c
    chosen_more c = (to, from)
      where
        to : Contains (cited ++ it ∷ []) c → IsMarked held (set marks place true) c
        to h =
            elim (Contains-push_cases cited it c h) [
              | inl old ↦ let (i, e, m) = (chosen c).0 old in (i, e, set_there marks place i true (was_marked i m) ∙ m)
              | inr e ↦ (place, stands ∙ ap Some e, set_here marks place true inside)
            ]

        from : IsMarked held (set marks place true) c → Contains (cited ++ it ∷ []) c
        from (i, e, m) =
            elim (same_or_not i place) [
              | inl at ↦ subst (Contains (cited ++ it ∷ [])) (same_Some it c (sym stands ∙ ap (slice_get held) (sym at) ∙ e)) (Contains-push cited it)
              | inr ne ↦ Contains-append_left cited (it ∷ []) c ((chosen c).1 (i, e, sym (set_there marks place i true ne) ∙ m))
            ]

    -- the new one has another place than each old one
    new_apart : (i : ℕ) (c : Cited) → slice_get cited i ≡ Some c → c.place ≡ it.place → ⊥
    new_apart i c e q =
        let (k, at, m) = (chosen c).0 (Contains-at cited i c e) in
        was_marked k m (omega (arith, holding.placed k c at, holding.placed place it stands, q))

    pub once_more : AreOnce (cited ++ it ∷ [])
    once_more i j c d e f q =
        elim (pushed_at cited it i c e) [
          | inl x ↦ elim (pushed_at cited it j d f) [ inl y ↦ once i j c d x y q | inr y ↦ absurd (new_apart i c x (q ∙ ap (λ (z : Cited). z.place) (sym y.1))) ]
          | inr x ↦ elim (pushed_at cited it j d f) [ inl y ↦ absurd (new_apart j d y (sym q ∙ ap (λ (z : Cited). z.place) (sym x.1))) | inr y ↦ x.0 ∙ sym y.0 ]
        ]

    pub holding_more : IsHolding n held taken (set marks place true)
    holding_more = record { held_in = holding.held_in; few = holding.few; placed = holding.placed; count = holding.count; among = (length-set marks place true ∙ holding.among.0, among) }
      where
        among : (i : ℕ) → slice_get (set marks place true) i ≡ Some true → slice_get taken i ≡ Some true
        among i e =
            elim (same_or_not i place) [
              | inl at ↦ ap (slice_get taken) at ∙ known
              | inr ne ↦ holding.among.1 i (sym (set_there marks place i true ne) ∙ e)
            ]

    abbrev places : List ℕ
    places = map (λ (c : Cited). c.place) (cited ++ it ∷ [])

    place_of : (q : ℕ) → Contains places q → q < length held
    place_of q h =
        let (k, e) = at-Contains places q h in
        let (c, at, is) = made_of (λ (d : Cited). d.place) (cited ++ it ∷ []) k q e in
        let (i, stands', m) = (chosen_more c).0 (Contains-at (cited ++ it ∷ []) k c at) in
        omega (arith, is, holding.placed i c stands', slice_get_within held i c stands')

    unlike : (i j d : ℕ) → i < j → j < length places → eqb (get_or places i d) (get_or places j d) ≡ false
    unlike i j d lt in_j = false_from_ne_true (eqb (get_or places i d) (get_or places j d)) same
      where
        same : eqb (get_or places i d) (get_or places j d) ≡ true → ⊥
        same t =
            let (c, at, is) = made_of (λ (x : Cited). x.place) (cited ++ it ∷ []) i (get_or places i d) (slice_get-get_or places i d (omega (arith, lt, in_j))) in
            let (e, there, says) = made_of (λ (x : Cited). x.place) (cited ++ it ∷ []) j (get_or places j d) (slice_get-get_or places j d in_j) in
            let equal : i ≡ j = once_more i j c e at there (is ∙ eqb-true (get_or places i d) (get_or places j d) t ∙ sym says) in
            absurd (omega (arith, equal, lt))

    -- so there are fewer than are held
    pub few_chosen : length cited < 64
    few_chosen =
        omega (
          arith,
          length-le_from_distinct_below places (length held) (IsDistinct-from_apart eqb places unlike) (λ q e. place_of q (Contains-from_any (λ x y. eqb-true x y) q places e)),
          length-map (cited ++ it ∷ []) (λ (c : Cited). c.place),
          length-append cited (it ∷ []),
          holding.few,
        )

-- ---- where nothing is chosen, the search has no certificate

pub none_marked : (n i : ℕ) → slice_get (replicate n false) i ≡ Some true → ⊥
none_marked n i e =
    let b : i < n = omega (arith, slice_get_within (replicate n false) i true e, length-replicate {A = Bool} n false) in
    let q : Some false ≡ Some true = sym (slice_get-get_or (replicate n false) i false (omega (arith, b, length-replicate {A = Bool} n false)) ∙ ap Some (get_or-replicate {A = Bool} n i false false b)) ∙ e in
    absurd (let r : false ≡ true = same_Some false true q in cc)

-- ---- marks that agree

pub same_marks : (xs ys : List Bool) → length xs ≡ length ys → ((i : ℕ) → slice_get xs i ≡ Some true → slice_get ys i ≡ Some true) → ((i : ℕ) → slice_get ys i ≡ Some true → slice_get xs i ≡ Some true) → xs ≡ ys
same_marks [] [] e to from = refl
same_marks [] (y ∷ ys) e to from = absurd (omega (arith, e))
same_marks (x ∷ xs) [] e to from = absurd (omega (arith, e))
same_marks (x ∷ xs) (y ∷ ys) e to from = ap₂ (λ (b : Bool) (bs : List Bool). b ∷ bs) (by x y (to 0) (from 0)) (same_marks xs ys (omega (arith, e)) (λ i. to (suc i)) (λ i. from (suc i)))
  where
    by : (a b : Bool) → (Some a ≡ Some true → Some b ≡ Some true) → (Some b ≡ Some true → Some a ≡ Some true) → a ≡ b
    by true true f g = refl
    by false false f g = refl
    by true false f g = sym (same_Some false true (f refl))
    by false true f g = same_Some false true (g refl)

-- ---- what is picked of two lists that agree where marks are

pub picked_same : {X : Type 0} (at : ℕ) (xs ys : List X) (marks : List Bool) → length xs ≡ length ys →
    ((i : ℕ) (x : X) → slice_get marks i ≡ Some true → slice_get xs i ≡ Some x → slice_get ys i ≡ Some x) → picked at xs marks ≡ picked at ys marks
picked_same at [] [] marks e same = refl
picked_same at [] (y ∷ ys) marks e same = absurd (omega (arith, e))
picked_same at (x ∷ xs) [] marks e same = absurd (omega (arith, e))
picked_same at (x ∷ xs) (y ∷ ys) [] e same = refl
picked_same {X} at (x ∷ xs) (y ∷ ys) (true ∷ marks) e same =
    ap₂ (λ (z : X) (l : List (ℕ × X)). (at, z) ∷ l) (sym (same_Some y x (same 0 x refl refl))) (picked_same (at + 1) xs ys marks (omega (arith, e)) (λ i. same (suc i)))
picked_same at (x ∷ xs) (y ∷ ys) (false ∷ marks) e same = picked_same (at + 1) xs ys marks (omega (arith, e)) (λ i. same (suc i))

-- the marked ones make the claims of their places
pub marked_claims_are : (p : ℕ → Principal) (held : List Cited) (claims : List Claim) (taken marks : List Bool) → MakeClaims p held claims taken →
    ((i : ℕ) → slice_get marks i ≡ Some true → slice_get taken i ≡ Some true) → picked 0 (map (claim_by p) held) marks ≡ picked 0 claims marks
marked_claims_are p held claims taken marks makes among =
    picked_same 0 (map (claim_by p) held) claims marks (length-map held (claim_by p) ∙ makes.count) same
  where
    same : (i : ℕ) (x : Claim) → slice_get marks i ≡ Some true → slice_get (map (claim_by p) held) i ≡ Some x → slice_get claims i ≡ Some x
    same i x m e =
        let (c, at, is) = made_of (claim_by p) held i x e in
        makes.claims_are i c at (among i m) ∙ ap (λ (y : Claim). Some y) is
