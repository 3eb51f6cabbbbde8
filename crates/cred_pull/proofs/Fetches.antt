-- One call of a fetch, as the program tells it.
use Rattle.std.proofs.Common.{◌≡◌, ℕ, false, List, [], ◌∷◌, length, drop, map, All, Option, None, Some, Result, Ok, Err, refl, sym, ap, subst, ◌∙◌, arith}
use Rattle.std.specs.Prelude.{Vec, ◌==◌}
use Rattle.std.specs.List.{list_any}
use Rattle.std.specs.declared.alloc.Global.{Global}
use Rattle.std.proofs.lemmas.List.Elements.{All-nil, All-head, All-tail}
use Rattle.frame_link.specs.Faults.{HasCause}
use Rattle.frame_link.specs.Plan.{Plan, counted}
use Rattle.taos_wire.specs.Request.{IsCertText}
use Rattle.taos_wire.specs.View.{text_of}
use Rattle.cred_pull.specs.declared.fetch.Fetched.{Fetched}
use Rattle.cred_pull.specs.declared.fetch.Fetched.TheVariants as answers
use Rattle.cred_pull.specs.AnswersLeft.{AnswersLeft, Answers, texts_in}
use Rattle.cred_pull.specs.Fetching.{Texts, FetchSeen, Pull, Gave, Lacked, Failed, AreWithin, pull_of, GivesFirst, GivesAnswer, IsWithin, CountsPull, IsFetched}

counts : {E : Type 0} (before after : FetchSeen) (r : Result Fetched E) → HasCause before.faults after.faults r → CountsPull before.faults after.faults (pull_of r)
counts before after (Ok (answers.Given certs)) cause = cause.steady
counts before after (Ok answers.NoMemory) cause = cause.steady
counts before after (Err e) cause = (cause.later, cause.failed)

pub fetched : {E : Type 0} (before after : FetchSeen) (r : Result Fetched E) → GivesAnswer before after (pull_of r) → IsWithin (pull_of r) → HasCause before.faults after.faults r → IsFetched before after (pull_of r)
fetched before after r gives within cause = record { gives = gives; within = within; counts = counts before after r cause }

-- a fetch that does not tell its answers
pub untold : {E : Type 0} (before after : FetchSeen) (r : Result Fetched E) → before.left ≡ None → after.left ≡ None → GivesAnswer before after (pull_of r)
untold before after r none_before none_after = by (pull_of r)
  where
    by : (p : Pull) → GivesAnswer before after p
    by (Gave certs) = subst (λ (o : Option (List Texts)). GivesFirst o after.left certs) (sym none_before) tt
    by Lacked = none_after ∙ sym none_before
    by Failed = none_after ∙ sym none_before

-- ---- answers in memory

-- the first answer, and those behind it
pub first_within : (answers rest : List (Vec (Vec ℕ Global) Global)) (first : Vec (Vec ℕ Global) Global) → answers ≡ first ∷ rest → All AreWithin (texts_in answers) → AreWithin (map text_of first.items) × All AreWithin (texts_in rest)
first_within answers rest first is all =
    let whole : All AreWithin (map text_of first.items ∷ texts_in rest) = subst (λ (l : List (Vec (Vec ℕ Global) Global)). All AreWithin (texts_in l)) is all in
    (All-head AreWithin (map text_of first.items) (texts_in rest) whole, All-tail AreWithin (map text_of first.items) (texts_in rest) whole)

pub gives_first : (answers rest : List (Vec (Vec ℕ Global) Global)) (first : Vec (Vec ℕ Global) Global) → answers ≡ first ∷ rest → GivesFirst (Some (texts_in answers)) (Some (texts_in rest)) (map text_of first.items)
gives_first answers rest first is = subst (λ (l : List (Vec (Vec ℕ Global) Global)). GivesFirst (Some (texts_in l)) (Some (texts_in rest)) (map text_of first.items)) (sym is) (refl, refl)

pub rest_within : (answers rest : List (Vec (Vec ℕ Global) Global)) → rest ≡ drop 1 answers → All AreWithin (texts_in answers) → All AreWithin (texts_in rest)
rest_within [] rest is all = subst (λ (l : List (Vec (Vec ℕ Global) Global)). All AreWithin (texts_in l)) (sym is) all
rest_within (first ∷ others) rest is all =
    subst (λ (l : List (Vec (Vec ℕ Global) Global)). All AreWithin (texts_in l)) (sym is) (All-tail AreWithin (map text_of first.items) (texts_in others) all)

-- what the first was taken off and is as it was is nothing
pub none_left : (left rest : List (Vec (Vec ℕ Global) Global)) → left ≡ rest → rest ≡ drop 1 left → left ≡ []
none_left [] rest same off = refl
none_left (first ∷ others) rest same off = absurd (omega (arith, ap length same, ap length off))

module _ (old : AnswersLeft) (left rest : List (Vec (Vec ℕ Global) Global)) (calls next faults : ℕ) (fails : List ℕ)
    (is : record { left = texts_in left; plan = record { calls = calls; fails = fails; faults = faults } } ≡ old)
    (runs : list_any (λ (n : ℕ). n == calls) fails ≡ false) (on : next ≡ counted calls) where
  abbrev after : AnswersLeft
  after = record { left = texts_in rest; plan = record { calls = next; fails = fails; faults = faults } }

  abbrev next_plan : ℕ → Plan
  next_plan n = record { calls = n; fails = fails; faults = faults }

  -- a call that did not fail gives the first answer
  pub answers_first : (first : Vec (Vec ℕ Global) Global) → left ≡ first ∷ rest → Answers old after (Gave (map text_of first.items))
  answers_first first e = subst (λ (o : AnswersLeft). Answers o after (Gave (map text_of first.items))) is (runs, gives_first left rest first e, ap next_plan on)

  -- or nothing, where none is left
  pub answers_none : (given : List (Vec ℕ Global)) → given ≡ [] → left ≡ [] → rest ≡ [] → Answers old after (Gave (map text_of given))
  answers_none given none empty nothing = subst (λ (o : AnswersLeft). Answers o after (Gave (map text_of given))) is (
    runs,
    subst (λ (l : List (Vec (Vec ℕ Global) Global)). GivesFirst (Some (texts_in l)) (Some (texts_in rest)) (map text_of given)) (sym empty) (ap (map text_of) none, ap texts_in nothing),
    ap next_plan on,
  )

-- where none is left nothing is given
pub nothing_within : AreWithin []
nothing_within = record { few = omega arith; each = All-nil IsCertText }
