-- What a fetch in memory is seen as, and what a call of it answers.
use Rattle.std.specs.Prelude.{◌≡◌, ℕ, List, map, true, false, Some, Vec}
use Rattle.std.specs.declared.alloc.Global.{Global}
use Rattle.frame_link.specs.Plan.{Plan, fails_now, passed, failed}
use Rattle.taos_wire.specs.View.{text_of}
use Rattle.cred_pull.specs.Fetching.{Texts, FetchSeen, fetch_of, Pull, Gave, Lacked, Failed, GivesFirst}

-- the answers that are left, in order, and the calls that fail
pub record AnswersLeft : Type 0 where
  pub left : List Texts
  pub plan : Plan

-- the program's answers, by the bytes of their certificates
abbrev pub texts_in : List (Vec (Vec ℕ Global) Global) → List Texts
texts_in answers = map (λ certs. map text_of certs.items) answers

-- what such a fetch shows
abbrev pub shown_left : AnswersLeft → FetchSeen
shown_left a = fetch_of (Some a.left) a.plan.faults

-- what a call answers, and what it leaves: memory is never refused
abbrev pub Answers : AnswersLeft → AnswersLeft → Pull → Type 0
Answers old new (Gave certs) =
    (fails_now old.plan ≡ false)
    × GivesFirst (Some old.left) (Some new.left) certs
    × (new.plan ≡ passed old.plan)
Answers old new Lacked = ⊥
Answers old new Failed = (fails_now old.plan ≡ true) × (new ≡ record old { plan = failed old.plan })
