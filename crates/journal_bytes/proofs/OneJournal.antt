-- Legal journals that are spelled alike are one: what is not spelled of a proof follows from the entries before it.
use Rattle.std.proofs.Common.{◌≡◌, ℕ, List, [], ◌∷◌, ◌++◌, map, Option, Some, refl, sym, ap, subst, ◌∙◌, append_assoc}
use Rattle.std.specs.Prelude.{slice_get}
use Rattle.proof_cache.specs.Cached.{Cached, lease_of}
use Rattle.prin_term.specs.Principal.{Principal}
use Rattle.agent_core.specs.Caches.{who_at}
use Rattle.agent_core.specs.State.{Plan, Event, Asks, Keeps, Holds, Discards, Forgets, Expires, Withdraws}
use Rattle.agent_core.specs.Journals.{Entry, entry, IsKeepable, IsLegalJournal, IsMeant}
use Rattle.agent_core.specs.declared.told.Told.{Told}
use Rattle.journal_bytes.specs.Events.{ask_there, event_from, kept_for}
use Rattle.journal_bytes.specs.Spelled.{SpelledEntry, event_spelled, spelled}

-- the same proof, for this subject and until this moment
abbrev remade : Cached → Principal → ℕ → Cached
remade c subject lease = record { subject = subject; who = c.who; proof = c.proof; cites = c.cites; lease = lease }

as_kept : (c : Cached) (subject : Principal) (lease : ℕ) → c.subject ≡ subject → c.lease ≡ lease → Some (remade c subject lease) ≡ Some c
as_kept c subject lease same ends = rw (sym same, sym ends) refl

-- a kept proof is the one that its Ask and its cites make
keep_is : (plan : Plan) (before : List Entry) (ask e : ℕ) (c : Cached) → IsKeepable plan before ask e c → kept_for (ask_there (slice_get before ask)) e c.proof c.cites ≡ Some c
keep_is plan before ask e c is =
    let there : slice_get before ask ≡ Some (entry (Asks is.asked) is.told) = is.stands in
    let who : who_at is.asked.list e ≡ Some c.who = is.who_is in
    rw (there, who) (as_kept c is.asked.subject (lease_of c.cites) is.subject_is is.lease_is)

pub event_is : (plan : Plan) (before : List Entry) (event : Event) → IsMeant plan before event → event_from before (event_spelled event) ≡ Some event
event_is plan before (Asks a) meant = refl
event_is plan before (Keeps ask e c) meant = rw (keep_is plan before ask e c meant) refl
event_is plan before (Holds certs) meant = refl
event_is plan before (Discards digest) meant = refl
event_is plan before (Forgets channel) meant = refl
event_is plan before (Expires reading) meant = refl
event_is plan before (Withdraws issuer) meant = refl

head_is : {A : Type 0} (x y : A) (xs ys : List A) → x ∷ xs ≡ y ∷ ys → x ≡ y
head_is x y xs ys e = cc

tail_is : {A : Type 0} (x y : A) (xs ys : List A) → x ∷ xs ≡ y ∷ ys → xs ≡ ys
tail_is x y xs ys e = cc

some_is : {A : Type 0} (x y : A) → Some x ≡ Some y → x ≡ y
some_is x y e = cc

entry_is : (event other : Event) (told tells : Told) → event ≡ other → told ≡ tells → entry event told ≡ entry other tells
entry_is event other told tells same tells_same = rw (same, tells_same) refl

module _ (plan : Plan) where
  -- entries that are spelled alike, after the same ones
  one_entry : (before : List Entry) (x y : Entry) → IsMeant plan before x.event → IsMeant plan before y.event → spelled x ≡ spelled y → x ≡ y
  one_entry before x y is_x is_y same =
      let events : Some x.event ≡ Some y.event = sym (event_is plan before x.event is_x) ∙ ap (λ (s : SpelledEntry). event_from before s.event) same ∙ event_is plan before y.event is_y in
      entry_is x.event y.event x.told y.told (some_is x.event y.event events) (ap (λ (s : SpelledEntry). s.told) same)

  one_behind : (before xs ys : List Entry) → IsLegalJournal plan (before ++ xs) → IsLegalJournal plan (before ++ ys) → map spelled xs ≡ map spelled ys → xs ≡ ys
  one_behind before [] [] legal other same = refl
  one_behind before [] (y ∷ ys) legal other same = absurd cc
  one_behind before (x ∷ xs) [] legal other same = absurd cc
  one_behind before (x ∷ xs) (y ∷ ys) legal other same =
      let first : x ≡ y = one_entry before x y (legal before x xs refl).meant (other before y ys refl).meant (head_is (spelled x) (spelled y) (map spelled xs) (map spelled ys) same) in
      let others : map spelled xs ≡ map spelled ys = tail_is (spelled x) (spelled y) (map spelled xs) (map spelled ys) same in
      let front : IsLegalJournal plan ((before ++ x ∷ []) ++ xs) = subst (IsLegalJournal plan) (sym (append_assoc before (x ∷ []) xs)) legal in
      let there : IsLegalJournal plan (before ++ x ∷ ys) = subst (λ (e : Entry). IsLegalJournal plan (before ++ e ∷ ys)) (sym first) other in
      let back : IsLegalJournal plan ((before ++ x ∷ []) ++ ys) = subst (IsLegalJournal plan) (sym (append_assoc before (x ∷ []) ys)) there in
      ap (λ (l : List Entry). x ∷ l) (one_behind (before ++ x ∷ []) xs ys front back others) ∙ ap (λ (e : Entry). e ∷ ys) first

  pub one_journal : (xs ys : List Entry) → IsLegalJournal plan xs → IsLegalJournal plan ys → map spelled xs ≡ map spelled ys → xs ≡ ys
  one_journal xs ys legal other same = one_behind [] xs ys legal other same
