-- What requests change of objects, and that what is not granted changes nothing.
use Rattle.std.specs.Prelude.{◌≡◌, ◌≢◌, ◌⊎◌, ℕ, ◌==◌, if◌then◌else◌, Bool, true, List, [], filter_map, Option, Some, None}
use Rattle.prin_term.specs.View.{Grant}
use Rattle.object_core.specs.Objects.{ObjectEntry, ObjectPlan, latest, content_after, list_after}
use Rattle.taos_wire.specs.Reply.{Reply, Sent, status_of}
use Rattle.request_course.specs.AtObject.{object_full}
use Rattle.request_course.specs.Cells.{Node, Journals, Cell, OfObject, Place, numbers_in, Seen, GoesOn}
use Rattle.request_course.specs.Course.{Used, Course}
use Rattle.request_course.specs.Projected.{Effect, Written, Listed, Stepped, effects_of}

-- ---- what effects make of objects

-- the content that an effect writes to the object
abbrev pub content_for : ℕ → Effect → Option (List ℕ)
content_for o (Written t content) = if o == t then Some content else None
content_for o (Listed t list) = None
content_for o (Stepped s event told) = None

-- the access list that it gives the object
abbrev pub list_for : ℕ → Effect → Option (List Grant)
list_for o (Written t content) = None
list_for o (Listed t list) = if o == t then Some list else None
list_for o (Stepped s event told) = None

-- Where nobody else takes an object, its content is the last that the effects of the new own places
-- write to it, else the one before; and so is its access list.
abbrev pub ObjectsAreMade : Type 0
ObjectsAreMade =
    (alone : Cell → Bool) (old new : Seen) (places : List Place) → GoesOn alone old new places →
    (o : ℕ) → alone (OfObject o) ≡ true → (plan : ObjectPlan) →
    (content_after plan (new.journals.objects o) ≡ latest
    (content_after plan (old.journals.objects o))
    (filter_map (content_for o) (effects_of new.journals places)))
    × (list_after plan (new.journals.objects o) ≡ latest
    (list_after plan (old.journals.objects o))
    (filter_map (list_for o) (effects_of new.journals places)))

-- ---- what is not granted

-- the request of these own places and this reply was denied, or refused before it had an entry at an
-- object
abbrev pub IsUngranted : List Place → Reply → Type 0
IsUngranted places reply =
    (status_of reply ≡ 1) ⊎ ((o : ℕ) → numbers_in (OfObject o) places ≡ [])

-- each byte of the content, and the access list, are the same after both journals
abbrev pub IsSameObject : ObjectPlan → List ObjectEntry → List ObjectEntry → Type 0
IsSameObject plan before after =
    (content_after plan after ≡ content_after plan before)
    × (list_after plan after ≡ list_after plan before)

-- Such a request has no effect, at an object or in a shard. Where nobody else takes an object, it is
-- the same before and after.
abbrev pub NothingChanges : Node → Type 0
NothingChanges n =
    (alone : Cell → Bool) (old new : Seen) (payload : List ℕ) (used : Used) (sent : Sent) →
    Course n new.journals payload used sent → GoesOn alone old new used.places →
    IsUngranted used.places sent.reply →
    (effects_of new.journals used.places ≡ []) ×
    ((o : ℕ) → alone (OfObject o) ≡ true → (plan : ObjectPlan) →
    IsSameObject plan (old.journals.objects o) (new.journals.objects o))

-- By its reply each request is one that has any other status than 0, 10, 12, 13 and 14, or that is
-- told that the journal of an object is full.
abbrev pub RepliesTellUngranted : Node → Type 0
RepliesTellUngranted n =
    (J : Journals) (payload : List ℕ) (used : Used) (sent : Sent) → Course n J payload used sent →
    (status_of sent.reply ≢ 0 → status_of sent.reply ≢ 10 → status_of sent.reply ≢ 12 →
    status_of sent.reply ≢ 13 → status_of sent.reply ≢ 14 → IsUngranted used.places sent.reply) ×
    ((o limit : ℕ) → sent.reply ≡ object_full o limit → IsUngranted used.places sent.reply)
