-- The effects of entries, and that they are what is due to the granted ones.
use Rattle.std.specs.Prelude.{◌≡◌, ℕ, if◌then◌else◌, List, [], ◌∷◌, ◌++◌, length, Option, Some, None, slice_get}
use Rattle.std.specs.List.{flat_map}
use Rattle.frame_link.specs.declared.outcome.Outcome.{Outcome}
use Rattle.prin_term.specs.View.{Grant}
use Rattle.object_core.specs.Objects.{ObjectEntry, written_by, listed_by, is_grant}
use Rattle.taos_wire.specs.Reply.{Reply}
use Rattle.agent_core.specs.declared.told.Told.{Told}
use Rattle.agent_core.specs.State.{Plan, Ask, Event, Asks, Keeps, Holds, Discards, Forgets, Expires, Withdraws}
use Rattle.agent_core.specs.Journals.{Entry, entry, Stands}
use Rattle.request_course.specs.Cells.{Node, Journals, Cell, OfShard, OfObject, Place}
use Rattle.request_course.specs.Course.{Used}
use Rattle.request_course.specs.Effects.{IsDone, lacks_room}
use Rattle.request_course.specs.Operations.{effect_of, targets_of}
use Rattle.request_course.specs.Run.{Answered}

-- ---- effects

-- what an entry does beside being there
pub data Effect : Type 0 where
  -- the content of the object of this number is replaced
  Written : (object : ℕ) → (content : List ℕ) → Effect
  -- its access list is replaced
  Listed : (object : ℕ) → (list : List Grant) → Effect
  -- the shard of this number is stepped by a Hold, a Discard, a Forget, a Sweep or a Withdraw, and told
  -- this
  Stepped : (shard : ℕ) → Event → Told → Effect

-- what is made of a value, where there is one
abbrev pub if_some : {X Y : Type 0} → (X → List Y) → Option X → List Y
if_some f None = []
if_some f (Some x) = f x

-- of an entry of the object
abbrev pub changes_of : ℕ → ObjectEntry → List Effect
changes_of o e =
    if_some (λ content. Written o content ∷ []) (written_by e)
    ++ if_some (λ list. Listed o list ∷ []) (listed_by e)

-- of an event of the shard: who asks, or keeps a proof, does nothing else
abbrev pub steps_of : ℕ → Event → Told → List Effect
steps_of s (Asks a) told = []
steps_of s (Keeps ask e c) told = []
steps_of s (Holds certs) told = Stepped s (Holds certs) told ∷ []
steps_of s (Discards digest) told = Stepped s (Discards digest) told ∷ []
steps_of s (Forgets channel) told = Stepped s (Forgets channel) told ∷ []
steps_of s (Expires reading) told = Stepped s (Expires reading) told ∷ []
steps_of s (Withdraws issuer) told = Stepped s (Withdraws issuer) told ∷ []

-- of the entry that has this number in its cell
abbrev pub effects_in : Journals → Cell → ℕ → List Effect
effects_in J (OfShard s) k =
    if_some (λ (e : Entry). steps_of s e.event e.told) (slice_get (J.shards s) k)
effects_in J (OfObject o) k = if_some (changes_of o) (slice_get (J.objects o) k)

-- of the entries at these places, in their order
abbrev pub effects_of : Journals → List Place → List Effect
effects_of J places = flat_map (λ (p : Place). effects_in J p.cell p.number) places

-- ---- grants

-- a granted entry, and the number of the object that has it
pub record GrantedEntry : Type 0 where
  pub object : ℕ
  pub entry : ObjectEntry

-- the entry of the object, if it was granted
abbrev pub if_granted : ℕ → ObjectEntry → List GrantedEntry
if_granted o e =
    if is_grant e.ruling then record { object = o; entry = e } ∷ [] else []

-- the granted entry that has this number in its cell, if there is one
abbrev pub grants_in : Journals → Cell → ℕ → List GrantedEntry
grants_in J (OfShard s) k = []
grants_in J (OfObject o) k = if_some (if_granted o) (slice_get (J.objects o) k)

-- the granted entries at these places, in their order
abbrev pub grants_of : Journals → List Place → List GrantedEntry
grants_of J places = flat_map (λ (p : Place). grants_in J p.cell p.number) places

-- ---- what is due to a grant

-- Steps by an event in these shards, in their order: each is done, up to the first shard that has no
-- room for what the event brings and says so, or whose journal stands at its limit.
pub data AreTaken (plans : List Plan) (journals : ℕ → List Entry) (event : Option Event) :
    List ℕ → List Effect → Type 0 where
  through : AreTaken plans journals event [] []
  done : {s : ℕ} {shards : List ℕ} {e : Event} {told : Told} {later : List Effect} →
      event ≡ Some e → IsDone told → AreTaken plans journals event shards later →
      AreTaken plans journals event (s ∷ shards) (Stepped s e told ∷ later)
  no_room : {s : ℕ} {shards : List ℕ} {e : Event} {told : Told} {reply : Reply} →
      event ≡ Some e → lacks_room s told ≡ Some reply →
      AreTaken plans journals event (s ∷ shards) (Stepped s e told ∷ [])
  no_place : {s : ℕ} {shards : List ℕ} (plan : Plan) →
      slice_get plans s ≡ Some plan → length (journals s) ≡ plan.limit →
      AreTaken plans journals event (s ∷ shards) []

-- What is due to a granted entry: what its operation brings its object, and then the steps of the
-- operation in its shards, by the certificates and the reading of the Ask that the entry names.
pub record AreDueTo (plans : List Plan) (J : Journals) (g : GrantedEntry) (effects : List Effect) :
    Type 0 where
  pub ask : Ask
  -- what was told of the Ask
  pub told : Told
  -- the entries before it
  pub before : List Entry
  pub asked : Stands (J.shards g.entry.shard) g.entry.place before (entry (Asks ask) told)
  pub steps : List Effect
  pub are_taken : AreTaken plans J.shards (effect_of g.entry.op ask.presented ask.reading)
      (targets_of plans g.entry.op) steps
  pub effects_are : effects ≡ changes_of g.object g.entry ++ steps

-- the effects are those that are due to these grants, of one after the other, and no others
pub data AreProjected (plans : List Plan) (J : Journals) :
    List GrantedEntry → List Effect → Type 0 where
  none : AreProjected plans J [] []
  more : {g : GrantedEntry} {grants : List GrantedEntry} {effects later : List Effect} →
      AreDueTo plans J g effects → AreProjected plans J grants later →
      AreProjected plans J (g ∷ grants) (effects ++ later)

-- the effects of a connection's own places are those that are due to the grants among them
abbrev pub EffectsAreProjected : Node → Type 0
EffectsAreProjected n =
    (J : Journals) (used : Used) (frames replies : List (List ℕ)) (outcome : Outcome) →
    Answered n J used frames replies outcome →
    AreProjected n.plans J (grants_of J used.places) (effects_of J used.places)
