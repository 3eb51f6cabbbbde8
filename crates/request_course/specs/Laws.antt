-- What the definitions of a course imply: each law is the contract of a function that does nothing.
use Rattle.std.specs.Prelude.{◌≡◌, ◌≢◌, ℕ, ◌+◌, ◌-◌, ◌^◌, ◌<◌, ◌≤◌, Bool, List, [], ◌∷◌, ◌++◌, Some, slice_get, All, AllPairs, Contains}
use Rattle.frame_link.specs.declared.outcome.Outcome.{Outcome}
use Rattle.frame_link.specs.declared.outcome.Outcome.TheVariants.{End}
use Rattle.taos_wire.specs.Reply.{Sent, CertRefused, spelling, status_of}
use Rattle.request_course.specs.Cells.{Node, Journals, Cell, Place, entries_in, AreLegal, Extends, IsAfter, Seen, GoesOn}
use Rattle.request_course.specs.Credentials.{LinkAnswer, Resealed, Refused, Lacked, Failed, LinkCall, FailedAs}
use Rattle.request_course.specs.Course.{Arrival, Used, uses, fetching, Course}
use Rattle.request_course.specs.Run.{Turn, IsCourse, FoundFull, Answered}

-- a course in journals is one in all legal journals that go on from these
abbrev pub CourseStays : Node → Type 0
CourseStays n =
    (J K : Journals) → Extends J K → AreLegal n K →
    (payload : List ℕ) (used : Used) (sent : Sent) →
    Course n J payload used sent → Course n K payload used sent

-- what went on, and then went on, went on
abbrev pub GoesOnTwice : Type 0
GoesOnTwice =
    (alone : Cell → Bool) (a b c : Seen) (first later : List Place) →
    GoesOn alone a b first → GoesOn alone b c later → GoesOn alone a c (first ++ later)

-- what is answered in journals is so, with the same own places, in all legal journals that go on
-- from these
abbrev pub AnsweredStays : Node → Type 0
AnsweredStays n =
    (J K : Journals) → Extends J K → AreLegal n K →
    (used : Used) (frames replies : List (List ℕ)) (outcome : Outcome) →
    Answered n J used frames replies outcome → Answered n K used frames replies outcome

-- what was used first, and then
abbrev pub both : Used → Used → Used
both first later =
    fetching (first.pulls ++ later.pulls) (first.readings ++ later.readings)
    (first.calls ++ later.calls) (first.places ++ later.places)

-- what is answered in journals is so with one frame more, whose course stands, by new places, in
-- journals that went on
abbrev pub AnswersMore : Node → Type 0
AnswersMore n =
    (J K : Journals) → Extends J K → AreLegal n K →
    (used : Used) (frames replies : List (List ℕ)) (count : ℕ) →
    Answered n J used frames replies (End count) →
    (t : Turn) → IsCourse n K t → AllPairs IsAfter (used.places ++ t.used.places) →
    All (λ (p : Place). entries_in J p.cell ≤ p.number) t.used.places →
    Answered n K (both used t.used) (frames ++ t.frame ∷ []) (replies ++ spelling t.sent ∷ [])
    (End (count + 1))

-- two courses of one payload, with the same answers of the link and the same own places, have one
-- status, unless memory was refused
abbrev pub CoursesAgree : Node → Type 0
CoursesAgree n =
    (J : Journals) (payload readings others : List ℕ) (calls : List LinkCall)
    (places : List Place) (first second : Sent) →
    Course n J payload (uses readings calls places) first →
    Course n J payload (uses others calls places) second →
    status_of first.reply ≢ 11 → status_of second.reply ≢ 11 →
    status_of first.reply ≡ status_of second.reply

-- what came to its object is refused for nothing before that: by the same answers of the link also
-- for no certificate and no object
abbrev pub ArrivalExcludes : Node → Type 0
ArrivalExcludes n =
    (J : Journals) (payload : List ℕ) (used : Used) (sent : Sent) →
    (t : Arrival n payload) → Course n J payload used sent →
    (status_of sent.reply ≢ 2) × (status_of sent.reply ≢ 3) × (status_of sent.reply ≢ 4)
    × (used.calls ≡ t.calls → (status_of sent.reply ≢ 6) × (status_of sent.reply ≢ 8)
    × (status_of sent.reply ≢ 9))

-- a refusal of a certificate has a code of 1 to 6
abbrev pub CodesAreKnown : Node → Type 0
CodesAreKnown n =
    (J : Journals) (payload : List ℕ) (used : Used) (sent : Sent) →
    Course n J payload used sent → (index code : ℕ) → sent.reply ≡ CertRefused index code →
    (1 ≤ code) × (code ≤ 6)

-- one for a call that failed
abbrev pub failed_in : LinkAnswer → ℕ
failed_in (Resealed new) = 0
failed_in (Refused code) = 0
failed_in Lacked = 0
failed_in Failed = 1

-- how many of the calls failed
abbrev pub failures : List LinkCall → ℕ
failures [] = 0
failures (c ∷ calls) = failed_in c.answer + failures calls

-- each call that failed has a fault of its own, below the largest count
abbrev pub FaultsAreCounted : Type 0
FaultsAreCounted =
    (before now : ℕ) (calls : List LinkCall) → FailedAs before now calls → now < 2 ^ 64 - 1 →
    before + failures calls ≤ now

-- of any two frames of a connection the earlier does not find the journal of a cell full, for itself
-- or for its proof, where the later has an entry there
abbrev pub NoEntryAfterFull : Node → Type 0
NoEntryAfterFull n =
    (J : Journals) (used : Used) (frames replies : List (List ℕ)) (outcome : Outcome) →
    (a : Answered n J used frames replies outcome) →
    (i j : ℕ) (earlier later : Turn) → i < j → slice_get a.turns i ≡ Some earlier →
    slice_get a.turns j ≡ Some later → (cell : Cell) (p : Place) →
    FoundFull J cell earlier → Contains later.used.places p → p.cell ≡ cell → ⊥
