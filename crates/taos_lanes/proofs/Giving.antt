-- One connection more of a lane's door.
use Rattle.std.proofs.Common.{◌≡◌, ℕ, List, [], ◌∷◌, ◌++◌, length, Option, None, Some, sym, ap, subst, inl, ◌∙◌, arith, append_assoc, length-append}
use Rattle.frame_link.specs.declared.outcome.Outcome.{Outcome}
use Rattle.frame_link.specs.Served.{Line}
use Rattle.frame_link.specs.Doors.{OpensKnown, Counts, TakesBackKnown}
use Rattle.frame_link.specs.Plan.{HasCounted}
use Rattle.frame_link.proofs.Counted.{counted_one, counted_both}
use Rattle.taos_lanes.specs.Telling.{Telling}
use Rattle.taos_lanes.specs.Visits.{VisitBy}
use Rattle.taos_lanes.specs.Doors.{GaveKnown, TookKnown, AreFew, IsTold, IsVisitOf, AreVisits, ThroughGoesOn}

gives_one : {X : Type 0} (before middle after : Option (List X)) (given : List X) (x : X) → GaveKnown before middle given → OpensKnown middle after (Some x) → GaveKnown before after (given ++ x ∷ [])
gives_one None middle after given x g o = tt
gives_one (Some xs) None after given x g o = absurd g
gives_one (Some xs) (Some ys) None given x g o = absurd o
gives_one (Some xs) (Some ys) (Some zs) given x g o = g ∙ (ap (λ (l : List _). given ++ l) o ∙ sym (append_assoc given (x ∷ []) zs))

-- a door that is orderly and gives one and takes one back stays so, and tells that one behind the others
takes_one : {X : Type 0} (left left_after back before after : Option (List X)) (kept : List X) (given given_after : ℕ) (g x : X) → IsTold left → IsTold before → AreFew before given →
    TookKnown back before kept → OpensKnown left left_after (Some g) → Counts left given given_after (Some g) → TakesBackKnown before after given_after x →
    TookKnown back after (kept ++ x ∷ []) × IsTold left_after × IsTold after × AreFew after given_after
takes_one None left_after back before after kept given given_after g x told held few took opens counts takes = absurd told
takes_one (Some ls) None back before after kept given given_after g x told held few took opens counts takes = absurd opens
takes_one (Some ls) (Some ms) back None after kept given given_after g x told held few took opens counts takes = absurd held
takes_one (Some ls) (Some ms) back (Some ys) None kept given given_after g x told held few took opens counts takes = absurd takes
takes_one (Some ls) (Some ms) None (Some ys) (Some zs) kept given given_after g x told held few took opens counts takes =
    let more : zs ≡ ys ++ x ∷ [] = takes.0 (omega (arith, few, counts)) in
    (tt, tt, tt, omega (arith, ap length more, length-append ys (x ∷ []), few, counts))
takes_one (Some ls) (Some ms) (Some ws) (Some ys) (Some zs) kept given given_after g x told held few took opens counts takes =
    let more : zs ≡ ys ++ x ∷ [] = takes.0 (omega (arith, few, counts)) in (
      more ∙ (ap (λ (l : List _). l ++ x ∷ []) took ∙ append_assoc ws kept (x ∷ [])),
      tt,
      tt,
      omega (arith, ap length more, length-append ys (x ∷ []), few, counts),
    )

module _ {In Out S : Type 0} (telling : Telling In Out) {Serves : Line S → Line S → Outcome → Type 0} {limit : ℕ} where
  visits_more : (given kept : List (In × Out)) (visits : List (VisitBy Serves limit)) (g k : In × Out) (v : VisitBy Serves limit) →
      AreVisits telling given kept visits → IsVisitOf telling g k v → AreVisits telling (given ++ g ∷ []) (kept ++ k ∷ []) (visits ++ v ∷ [])
  visits_more [] [] [] g k v a is = (is, tt)
  visits_more (x ∷ given) (y ∷ kept) (w ∷ visits) g k v a is = (a.0, visits_more given kept visits g k v a.1 is)
  visits_more _ _ _ g k v a is = absurd a

-- one that is given is counted
counts_one : {X : Type 0} (left : Option (List X)) (before after : ℕ) (x : X) → Counts left before after (Some x) → HasCounted 1 before after
counts_one None before after x counts = counted_one before after counts
counts_one (Some xs) before after x counts = inl counts

pub through_goes_on : {In Out S : Type 0} (telling : Telling In Out) (Serves : Line S → Line S → Outcome → Type 0) (limit : ℕ) → ThroughGoesOn telling Serves limit
through_goes_on telling Serves limit before middle after visits g k v t opens counts takes is = record {
  given = t.given ++ g ∷ [];
  kept = t.kept ++ k ∷ [];
  gave = gives_one before.left middle.left after.left t.given g t.gave opens;
  count = subst (λ (i : ℕ). HasCounted i before.given after.given) (sym (length-append visits (v ∷ [])))
      (counted_both (length visits) 1 before.given middle.given after.given t.count (counts_one middle.left middle.given after.given g counts));
  took = λ orderly.
      let was = t.took orderly in
      let now = takes_one middle.left after.left before.back middle.back after.back t.kept middle.given after.given g k was.1.left was.1.back was.1.few was.0 opens counts takes in
      (now.0, record { left = now.1; back = now.2; few = now.3 });
  are = visits_more telling t.given t.kept visits g k v t.are is;
}
