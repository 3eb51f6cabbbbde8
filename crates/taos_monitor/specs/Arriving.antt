-- What is promised of the way to the object.
use Rattle.std.specs.Prelude.{◌≡◌, ℕ, ◌≤◌, List, length, map, Some}
use Rattle.object_core.specs.Operation.{right_of}
use Rattle.object_core.specs.Shelving.{ObjectFixed, fixed_at}
use Rattle.prin_term.specs.View.{principal}
use Rattle.taos_wire.specs.Request.{Request, subject_of, IsAsked}
use Rattle.taos_wire.specs.Reply.{sealed, unsealed}
use Rattle.taos_wire.specs.View.{cited as shared}
use Rattle.agent_core.specs.State.{Plan}
use Rattle.taos_monitor.specs.declared.arrival.Arrived.{Arrived}
use Rattle.taos_monitor.specs.declared.node_keys.NodeKeys.{NodeKeys}
use Rattle.taos_monitor.specs.declared.refusal.Refusal.{Refusal}
use Rattle.request_course.specs.Cells.{Journals, Node}
use Rattle.request_course.specs.Credentials.{LinkCall, LinkUse, IsLinked}
use Rattle.request_course.specs.Course.{brought, HasArrived, CourseAfter, nothing, only_calls}
use Rattle.taos_monitor.specs.Refusals.{refusal}

-- the node of these keys, plans and objects
abbrev pub node_of : NodeKeys → List Plan → List ObjectFixed → Node
node_of keys plans objects = record {
  number = keys.node;
  relay_key = keys.relay_key;
  channels = keys.channels.entries;
  plans = plans;
  objects = objects;
}

-- what came stands for what is asked, and is within the limits
pub record StandsFor (r : Request) (a : Arrived) : Type 0 where
  pub subject : principal a.subject ≡ subject_of r
  pub right : a.right ≡ right_of r.op
  pub few_certs : length a.certs.items ≤ 16

-- the payload is the request, under the seal of its channel's key
pub record IsAskedBy (keys : NodeKeys) (payload : List ℕ) (r : Request) : Type 0 where
  pub key : List ℕ
  pub asked : IsAsked keys.channels.entries payload r key

-- the payload is no request under the seal of its channel's key
abbrev pub IsUnasked : NodeKeys → List ℕ → Type 0
IsUnasked keys payload = (r : Request) (key : List ℕ) → IsAsked keys.channels.entries payload r key → ⊥

-- a course ends at the payload, without a seal, as the refusal says
abbrev pub IsNotAsked : NodeKeys → List ℕ → Refusal → Type 0
IsNotAsked keys payload f =
    (plans : List Plan) (objects : List ObjectFixed) (past J : Journals) →
    CourseAfter (node_of keys plans objects) past J payload nothing (unsealed (refusal f))

module _ (keys : NodeKeys) (objects : List ObjectFixed) (u : LinkUse) (r : Request) where
  -- the request came to its object, whichever payload under its channel's seal it was, and however
  -- the shards are opened
  pub record Arrives (a : Arrived) : Type 0 where
    pub calls : List LinkCall
    pub linked : IsLinked u.node u.before u.after calls
    pub object : ObjectFixed
    pub there : fixed_at objects r.object ≡ Some object
    pub arrived : (plans : List Plan) (payload key : List ℕ) →
        IsAsked keys.channels.entries payload r key →
        HasArrived (node_of keys plans objects) payload r key
        (brought calls (map shared a.certs.items) object)
    pub stands : StandsFor r a

  -- a course of the request ends before its object, as the refusal says
  pub record NotArrives (f : Refusal) : Type 0 where
    pub calls : List LinkCall
    pub linked : IsLinked u.node u.before u.after calls
    pub course : (plans : List Plan) (past J : Journals) (payload key : List ℕ) →
        IsAsked keys.channels.entries payload r key →
        CourseAfter (node_of keys plans objects) past J payload (only_calls calls)
        (sealed key r (refusal f))
