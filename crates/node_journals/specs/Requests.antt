-- A node that serves a drill, and what each request of the drill asks of it.
use Rattle.std.specs.Prelude.{◌≡◌, ℕ, ◌+◌, ◌*◌, ◌%◌, ◌≤◌, if◌then◌else◌, List, [], ◌∷◌, length, map}
use Rattle.std.specs.Option.{option_map}
use Rattle.keyed_seal.specs.Keys.{key_of}
use Rattle.object_core.specs.Objects.{ObjectPlan, object_of}
use Rattle.object_core.specs.Shelving.{HaveOwnNumbers, ObjectFixed, fixed_at}
use Rattle.prin_term.specs.View.{Grant}
use Rattle.agent_core.specs.Opened.{plan_for, plans_for}
use Rattle.agent_core.specs.State.{Plan, Ask}
use Rattle.node_journals.specs.Load.{load_ask}
use Rattle.node_commands.specs.Words.{DrillWords}
use Rattle.taos_drill.specs.declared.numbers.TheConstants.{MAX_LANES, MAX_REQUESTS}
use Rattle.taos_drill.specs.Opened.{drill_channels, drill_objects, empty_object, issuer_anchor, reader}
use Rattle.taos_drill.specs.Sent.{channel_of, number_of, object_for}
use Rattle.taos_drill.specs.Words.{is_even, key_at, word_of}
use Rattle.request_course.specs.Cells.{Node}

-- the load is within the limits of drills
pub record FitsDrill (d : DrillWords) : Type 0 where
  pub few_requests : d.requests ≤ MAX_REQUESTS
  pub some_lanes : 1 ≤ d.lanes
  pub few_lanes : d.lanes ≤ MAX_LANES

-- the numbers of a node's channels
abbrev pub channels_of : Node → List ℕ
channels_of n = map (λ (c : ℕ × List ℕ). c.0) n.channels

module _ (d : DrillWords) where
  -- how many entries each journal has at most
  abbrev pub its_limit : ℕ
  its_limit = 2 * d.requests + 16

  -- ---- request i

  -- its channel, and the number of its shard
  abbrev pub its_channel : ℕ → ℕ
  its_channel i = channel_of d.lanes i

  abbrev pub its_shard : ℕ → ℕ
  its_shard i = its_channel i % 4

  -- the number of its object, and the list of that
  abbrev pub its_object : ℕ → ℕ
  its_object i = object_for (its_channel i) (word_of d.seed i)

  abbrev pub its_list : ℕ → List Grant
  its_list i = if is_even (word_of d.seed i) then reader ∷ [] else []

  -- what never changes of its object
  abbrev pub its_fixed : ℕ → ObjectFixed
  its_fixed i = record { plan = empty_object (its_list i) (its_object i); limit = its_limit }

  -- the Ask that it makes
  abbrev pub its_ask : ℕ → Ask
  its_ask i = load_ask (its_channel i) (number_of d.lanes i) (its_list i)

  -- ---- the node

  -- the plan of the shard of this number, where the node has these channels
  abbrev pub load_plan : List ℕ → ℕ → Plan
  load_plan channels = plan_for channels 4 (issuer_anchor ∷ []) [] 3600 its_limit

  -- the node has what the load is opened with
  pub record IsLoadNode (n : Node) : Type 0 where
    pub relay_key : n.relay_key ≡ key_at d.seed 0
    pub channels : (c : ℕ) → key_of n.channels c ≡ key_of (drill_channels d.seed d.lanes) c
    pub few_channels : length n.channels ≡ d.lanes
    pub objects : (o : ℕ) → fixed_at n.objects o
        ≡ option_map (λ (p : ObjectPlan). record { plan = p; limit = its_limit })
        (object_of (drill_objects d.lanes) o)
    pub own_numbers : HaveOwnNumbers n.objects
    pub plans : n.plans
        ≡ plans_for (channels_of n) 4 (issuer_anchor ∷ []) [] 3600 its_limit
