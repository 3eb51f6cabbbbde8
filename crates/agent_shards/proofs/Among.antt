-- What a step and an ask among others come to.
use Rattle.std.proofs.Common.{◌≡◌, ℕ, ◌+◌, ◌≤◌, Bool, List, [], ◌∷◌, ◌++◌, length, Some, refl, sym, ap, ◌∙◌, subst, arith, length-append}
use Rattle.std.specs.Prelude.{All}
use Rattle.std.specs.List.{slice_get}
use Rattle.std.proofs.lemmas.List.Elements.{All-head}
use Rattle.proof_cache.specs.Cached.{Cached}
use Rattle.agent_core.specs.declared.asked.Settled.{Settled}
use Rattle.agent_core.specs.declared.told.Told.{Told}
use Rattle.agent_core.specs.Asked.{IsGrant, by_kept, was_kept, was_dropped, had_no_room}
use Rattle.agent_core.specs.Journals.{Entry, entry, Granted}
use Rattle.agent_core.specs.State.{Plan, Ask}
use Rattle.agent_core.specs.Steps.{JournalSeen}
use Rattle.agent_core.proofs.Onward.{begins_on, granted_verdict, hit_verdict, denied_verdict}
use Rattle.agent_shards.specs.Laws.{IsVerdictThere, StepsAddOne, GrantsAreVerdicts, DenialsAreVerdicts}

last_there : {X : Type 0} (xs : List X) (x : X) → slice_get (xs ++ x ∷ []) (length xs) ≡ Some x
last_there [] x = refl
last_there (y ∷ xs) x = last_there xs x

pub steps_add_one : StepsAddOne
steps_add_one plan earlier later event place answer s =
    let more : length s.before ≡ length earlier.journal + length s.goes_on.rest = ap (λ (l : List Entry). length l) s.goes_on.is ∙ length-append earlier.journal s.goes_on.rest in
    let at : length s.before ≡ place = s.steps.placed in
    let grown : length later.journal ≡ length s.before + 1 = ap (λ (l : List Entry). length l) s.steps.adds ∙ length-append s.before (entry event s.steps.told ∷ []) in
    record {
      begins = begins_on s.goes_on (record { rest = entry event s.steps.told ∷ []; is = s.steps.adds });
      after = omega arith;
      last = omega arith;
      e = entry event s.steps.told;
      there = ap (λ (l : List Entry). slice_get l place) s.steps.adds ∙ (ap (slice_get (s.before ++ entry event s.steps.told ∷ [])) (sym at) ∙ last_there s.before (entry event s.steps.told));
      of_event = refl;
      own = s.owned;
    }

-- the first of the own places comes after what was seen
first_new : (earlier : JournalSeen) (place : ℕ) (rest places : List ℕ) → places ≡ place ∷ rest → All (λ p. length earlier.journal ≤ p) places → length earlier.journal ≤ place
first_new earlier place rest places is all = All-head (λ p. length earlier.journal ≤ p) place rest (subst (All (λ p. length earlier.journal ≤ p)) is all)

module _ (plan : Plan) (earlier later : JournalSeen) (a : Ask) (place : ℕ) where
  granted_there : (e : ℕ) (c : Cached) (kept : Bool) (settled : Settled) (places : List ℕ) → All (λ p. length earlier.journal ≤ p) places → IsGrant plan later.journal a place e c kept settled places →
      IsVerdictThere plan earlier later a place Granted
  granted_there e c kept settled places new (by_kept h) = record {
    before = h.before;
    told = Told.Hit e;
    stands = h.stands;
    after = first_new earlier place [] places refl new;
    verdict = hit_verdict plan later.journal a place e c h;
  }
  granted_there e c kept settled places new (was_kept {keep = keep} g t) = record {
    before = g.before;
    told = Told.Miss;
    stands = g.stands;
    after = first_new earlier place (keep ∷ []) places refl new;
    verdict = granted_verdict plan later.journal a place e c g;
  }
  granted_there e c kept settled places new (was_dropped {keep = keep} g t) = record {
    before = g.before;
    told = Told.Miss;
    stands = g.stands;
    after = first_new earlier place (keep ∷ []) places refl new;
    verdict = granted_verdict plan later.journal a place e c g;
  }
  granted_there e c kept settled places new (had_no_room g full) = record {
    before = g.before;
    told = Told.Miss;
    stands = g.stands;
    after = first_new earlier place [] places refl new;
    verdict = granted_verdict plan later.journal a place e c g;
  }

pub grants_are_verdicts : GrantsAreVerdicts
grants_are_verdicts plan earlier later a place e c kept settled t = granted_there plan earlier later a place e c kept settled t.places t.new t.ends

pub denials_are_verdicts : DenialsAreVerdicts
denials_are_verdicts plan earlier later a place denial t =
    let d = t.ends.0 in (
      d.denied.link,
      record {
        before = d.before;
        told = Told.Miss;
        stands = d.stands;
        after = first_new earlier place [] t.places t.ends.1 t.new;
        verdict = denied_verdict plan later.journal a place denial d;
      },
    )
