-- What came of the requests of a drill in the journals of its node.
use Rattle.std.specs.Prelude.{◌≡◌, ◌⊎◌, ℕ, List, [], ◌∷◌, ◌++◌, length, map, AllPairs, Bool, Some, slice_get}
use Rattle.std.specs.List.{AllZip, flat_map, range_with_len}
use Rattle.object_core.specs.Objects.{ObjectEntry, list_after}
use Rattle.object_core.specs.Operation.{Read}
use Rattle.object_core.specs.declared.ruling.Ruling.TheVariants as rulings
use Rattle.prin_term.specs.View.{Grant}
use Rattle.proof_cache.specs.Cached.{Cached}
use Rattle.agent_core.specs.declared.asked.Denial.{Denial}
use Rattle.agent_core.specs.declared.asked.Settled.{Settled}
use Rattle.agent_core.specs.declared.told.Told.{Told}
use Rattle.agent_core.specs.Asked.{IsDeniedAt, IsGrant}
use Rattle.agent_core.specs.Journals.{Begins}
use Rattle.agent_core.specs.State.{Plan}
use Rattle.node_journals.specs.Load.{AsksAt, load_ask}
use Rattle.node_commands.specs.Words.{DrillWords}
use Rattle.taos_drill.specs.Sent.{number_of, requests_of}
use Rattle.request_course.specs.AtObject.{ruled_as}
use Rattle.request_course.specs.Cells.{Node, Journals, Cell, Place, IsAfter, AreLegal, entries_in, in_object, in_shard, numbers_in}
use Rattle.turn_cell.specs.Journal.{HasEach}
use Rattle.node_journals.specs.Requests.{channels_of, its_channel, its_fixed, its_limit, its_object, its_shard, load_plan}

-- the own places of a request: those of its Ask at its shard, and that of its ruling at its object
pub record Work : Type 0 where
  pub request : ℕ
  pub asks : List ℕ
  pub ruling : List ℕ

-- these places
abbrev pub work_of : ℕ → List ℕ → List ℕ → Work
work_of request asks ruling = record { request = request; asks = asks; ruling = ruling }

-- an Ask was not judged: its number was not new, or its channel was full
abbrev pub IsUnheard : Told → Type 0
IsUnheard (Told.Replayed last) = Unit {0}
IsUnheard (Told.Full held) = Unit {0}
IsUnheard _ = ⊥

module _ (d : DrillWords) where
  -- the places of a request in its cells
  abbrev pub work_places : Work → List Place
  work_places w =
      map (in_shard (its_shard d w.request)) w.asks
      ++ map (in_object (its_object d w.request)) w.ruling

  -- What came of request i, where its object has this list: its own places at its shard, which has
  -- this plan, and at its object. A journal was full, or its Ask was not judged; or it was denied
  -- or granted, and its entry stands at its object.
  pub data Came (J : Journals) (plan : Plan) (i : ℕ) (list : List Grant) :
      List ℕ → List ℕ → Type 0 where
    object_full : length (J.objects (its_object d i)) ≡ its_limit d →
        Came J plan i list [] []
    shard_full : length (J.shards (its_shard d i)) ≡ plan.limit →
        Came J plan i list [] []
    unheard : {place : ℕ} {told : Told} →
        AsksAt (J.shards (its_shard d i)) place (its_channel d i) (number_of d.lanes i) list told →
        IsUnheard told → Came J plan i list (place ∷ []) []
    denied : {place at : ℕ} {denial : Denial} →
        IsDeniedAt plan (J.shards (its_shard d i))
        (load_ask (its_channel d i) (number_of d.lanes i) list) place denial →
        slice_get (J.objects (its_object d i)) at
        ≡ Some (ruled_as (its_shard d i) place Read rulings.Denied) →
        Came J plan i list (place ∷ []) (at ∷ [])
    granted : {place at entry : ℕ} {c : Cached} {kept : Bool} {settled : Settled} {asks : List ℕ} →
        IsGrant plan (J.shards (its_shard d i))
        (load_ask (its_channel d i) (number_of d.lanes i) list) place entry c kept settled asks →
        slice_get (J.objects (its_object d i)) at
        ≡ Some (ruled_as (its_shard d i) place Read (rulings.Granted entry)) →
        Came J plan i list asks (at ∷ [])

-- what holds of the list by which request i was ruled on: it is that of its object after some
-- beginning of the object's journal
pub record WasListed (d : DrillWords) (J : Journals) (i : ℕ) (list : List Grant) : Type 0 where
  pub before : List ObjectEntry
  pub begins : Begins before (J.objects (its_object d i))
  pub is : list ≡ list_after (its_fixed d i).plan before

-- what came of request i at the node, by some such list, with these own places
pub record Turned (d : DrillWords) (n : Node) (J : Journals) (i : ℕ) (places : List Place) :
    Type 0 where
  pub asks : List ℕ
  pub ruling : List ℕ
  pub placed : places ≡ work_places d (work_of i asks ruling)
  pub list : List Grant
  pub listed : WasListed d J i list
  pub came : Came d J (load_plan d (channels_of n) (its_shard d i)) i list asks ruling

-- ---- all requests

-- x is one of these
abbrev pub In : {X : Type 0} → X → List X → Type 0
In x [] = ⊥
In x (y ∷ ys) = (y ≡ x) ⊎ In x ys

-- what came of a request, by some list of its object
abbrev pub CameBy : DrillWords → Node → Journals → Work → Type 0
CameBy d n J w =
    (list : List Grant) × WasListed d J w.request list
    × Came d J (load_plan d (channels_of n) (its_shard d w.request))
    w.request list w.asks w.ruling

-- what came of the requests of a lane
pub record LaneOf (d : DrillWords) (n : Node) (J : Journals) (lane : ℕ) (works : List Work) :
    Type 0 where
  pub requests_are : map (λ (w : Work). w.request) works ≡ requests_of d.requests d.lanes lane
  pub came : (w : Work) → In w works → CameBy d n J w
  pub ascending : AllPairs IsAfter (flat_map (work_places d) works)

-- what came of all requests of the load, of which each place of each cell is own of one, once
pub record LoadWorks (d : DrillWords) (n : Node) (J : Journals) : Type 0 where
  pub lanes : List (List Work)
  pub each : AllZip (LaneOf d n J) (range_with_len 0 d.lanes) lanes
  pub owned : (cell : Cell) → HasEach 0 (entries_in J cell)
      (numbers_in cell (flat_map (work_places d) (flat_map (λ (ws : List Work). ws) lanes)))
  pub legal : AreLegal n J
