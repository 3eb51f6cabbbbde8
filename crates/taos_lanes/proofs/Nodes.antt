-- What an opening opens.
use Rattle.std.proofs.Common.{◌≡◌, ℕ, zero, suc, List, [], ◌∷◌, length, map, slice_get, refl, sym, ap, ap₂, subst, ◌∙◌}
use Rattle.std.specs.Prelude.{All, Contains, Option}
use Rattle.std.proofs.lemmas.List.Elements.{All-cons, All-nil}
use Rattle.std.specs.List.Sorted.{IsStrictlyIncreasing}
use Rattle.std.proofs.Math.Path.{fun_ext}
use Rattle.keyed_seal.specs.Keys.{Entries, Keys, IsKeyTable, key_of}
use Rattle.denial_link.proofs.Members.{Contains-to_map}
use Rattle.taos_calculus.proofs.Atoms.{Contains-at}
use Rattle.node_file.specs.declared.opening.Opening as code
use Rattle.object_core.specs.Objects.{ObjectEntry, ObjectPlan, ObjectSeen}
use Rattle.object_core.specs.OneOwner.{LoneShelfSeen, journal_of, place_on, seen_on, own_on}
use Rattle.object_core.specs.Shelving.{HaveOwnNumbers, fixed_at, fixed_of, numbers_of as object_numbers}
use Rattle.std.specs.Option.{option_map}
use Rattle.node_file.specs.Opening.{Opening}
use Rattle.node_file.specs.OpeningView.{Represents}
use Rattle.node_file.specs.Meaning.{opening}
use Rattle.node_file.proofs.Listed.{same_node}
use Rattle.shard_core.specs.Alone.{LoneSeen, plans_in, seen_in, own_in}
use Rattle.agent_core.specs.Journals.{Entry, ShardSeen}
use Rattle.shard_core.specs.Opened.{new_shard}
use Rattle.agent_core.specs.Plans.{AreShards}
use Rattle.agent_core.specs.State.{Plan}
use Rattle.agent_core.proofs.AllShards.{each_channel_at_home}
use Rattle.taos_monitor.specs.declared.node_keys.NodeKeys.{NodeKeys}
use Rattle.taos_monitor.specs.Arriving.{node_of}
use Rattle.request_course.specs.Cells.{Viewed, viewed, seen_of}
use Rattle.taos_monitor.specs.Planned.{ArePlanned}
use Rattle.taos_monitor.proofs.Keyed.{key_listed}
use Rattle.taos_lanes.specs.declared.parts.NodeParts.{NodeParts}
use Rattle.taos_lanes.specs.Parts.{ArePartsNew}
use Rattle.shard_core.specs.Cells.{its_plans, numbers_of, fixed_with, new_object}
use Rattle.shard_core.proofs.Opens.{fixed_new, numbers_ascend, same_plans}
use Rattle.taos_lanes.specs.Opened.{IsNodeOf, nothing_seen}

-- ---- shards

pub plans_new : (plans : List Plan) → plans_in (map new_shard plans) ≡ plans
plans_new [] = refl
plans_new (plan ∷ plans) = ap (λ (l : List Plan). plan ∷ l) (plans_new plans)

journal_new : (plans : List Plan) (number : ℕ) → seen_in (map new_shard plans) number ≡ []
journal_new [] number = refl
journal_new (plan ∷ plans) zero = refl
journal_new (plan ∷ plans) (suc number) = journal_new plans number

new_journal : (limit : ℕ) (plans : List ObjectPlan) (place : ℕ) → journal_of (slice_get (map (new_object limit) plans) place) ≡ []
new_journal limit [] place = refl
new_journal limit (p ∷ plans) zero = refl
new_journal limit (p ∷ plans) (suc place) = new_journal limit plans place

pub none_seen : (shards : LoneSeen) (plans : List Plan) → shards.shards ≡ map new_shard plans → ((number : ℕ) → own_in shards number ≡ []) →
    (shelf : LoneShelfSeen) (limit : ℕ) (objects : List ObjectPlan) → shelf.objects ≡ map (new_object limit) objects → ((number : ℕ) → own_on shelf number ≡ []) →
    seen_of (viewed (λ number. seen_in shards.shards number) (λ number. own_in shards number)) (viewed (λ number. seen_on shelf number) (λ number. own_on shelf number)) ≡ nothing_seen
none_seen shards plans are own shelf limit objects these owned =
    ap₂ (λ (a : Viewed Entry) (b : Viewed ObjectEntry). seen_of a b)
    (ap₂ (λ (seen : ℕ → List Entry) (own : ℕ → List ℕ). viewed seen own)
    (fun_ext (λ number. ap (λ (l : List ShardSeen). seen_in l number) are ∙ journal_new plans number)) (fun_ext own))
    (ap₂ (λ (seen : ℕ → List ObjectEntry) (own : ℕ → List ℕ). viewed seen own)
    (fun_ext (λ number. ap (λ (l : List ObjectSeen). journal_of (slice_get l (place_on shelf number))) these ∙ new_journal limit objects (place_on shelf number))) (fun_ext owned))

pub all_planned : (o : Opening) (channels : Entries) (shards : List ShardSeen) → shards ≡ map new_shard (its_plans o channels) → ArePlanned channels (plans_in shards)
all_planned o channels shards are =
    subst (ArePlanned channels) (sym (ap plans_in are ∙ plans_new (its_plans o channels)))
    (λ channel plan has at.
    let l = key_listed channels channel has in
    let there : Contains (numbers_of channels) channel = subst (Contains (numbers_of channels)) l.number (Contains-to_map (λ (c : ℕ × List ℕ). c.0) channels l.entry (Contains-at channels l.place l.entry l.stands)) in
    each_channel_at_home (numbers_of channels) o.shards o.anchors o.commons o.keep o.limit channel plan there at)

-- ---- the node

pub is_node_of : (node : code.Opening) (o : Opening) (keys : NodeKeys) (shards : List ShardSeen) (shelf : List ObjectSeen) → Represents node o → IsKeyTable node.channels →
    keys.node ≡ node.node → keys.relay_key ≡ node.relay_key → keys.channels ≡ node.channels → shelf ≡ map (new_object node.limit) node.objects →
    shards ≡ map new_shard (its_plans (opening node) node.channels.entries) → IsStrictlyIncreasing (object_numbers (map fixed_of shelf)) → IsNodeOf o (node_of keys (plans_in shards) (map fixed_of shelf))
is_node_of node o keys shards shelf r sound number relay_key channels objects are by_number =
    let entries : keys.channels.entries ≡ node.channels.entries = ap (λ (k : Keys). k.entries) channels in
    record {
      number = number ∙ r.node;
      relay_key = relay_key ∙ r.relay_key;
      channels = λ n. ap (λ (k : Entries). key_of k n) entries ∙ r.channels.each n;
      count = ap (λ (k : Entries). length k) entries ∙ r.channels.count;
      ascending = subst (λ (k : Entries). IsStrictlyIncreasing (numbers_of k)) (sym entries) (numbers_ascend node.channels sound);
      objects = λ n. ap (λ (l : List ObjectSeen). fixed_at (map fixed_of l) n) objects ∙ fixed_new node.limit node.objects n ∙ ap₂ (λ (l : ℕ) (p : Option ObjectPlan). option_map (fixed_with l) p) r.limit ((same_node node o r).objects n);
      by_number = by_number;
      plans = ap plans_in are ∙ plans_new (its_plans (opening node) node.channels.entries) ∙ same_plans (opening node) o node.channels.entries r.shards r.anchors r.commons r.keep r.limit ∙ ap (its_plans o) (sym entries);
    }

-- new shards and objects have no entries
shards_without : (plans : List Plan) → All (λ (s : ShardSeen). s.journal ≡ []) (map new_shard plans)
shards_without [] = All-nil _
shards_without (p ∷ plans) = All-cons (λ (s : ShardSeen). s.journal ≡ []) (new_shard p) (map new_shard plans) refl (shards_without plans)

objects_without : (limit : ℕ) (plans : List ObjectPlan) → All (λ (o : ObjectSeen). o.journal ≡ []) (map (new_object limit) plans)
objects_without limit [] = All-nil _
objects_without limit (p ∷ plans) = All-cons (λ (o : ObjectSeen). o.journal ≡ []) (new_object limit p) (map (new_object limit) plans) refl (objects_without limit plans)

-- parts of an opening are new
pub all_new : (parts : NodeParts) (node : code.Opening) (limit : ℕ) (objects : List ObjectPlan) → parts.keys.channels ≡ node.channels → parts.shards.items ≡ map new_shard (its_plans (opening node) node.channels.entries) →
    parts.objects.items ≡ map (new_object limit) objects → AreShards (plans_in parts.shards.items) parts.anchors.value.items → HaveOwnNumbers (map fixed_of parts.objects.items) → ArePartsNew parts
all_new parts node limit objects same are these whole apart = record {
  shards = whole;
  shards_new = subst (λ (l : List ShardSeen). All (λ (s : ShardSeen). s.journal ≡ []) l) (sym are) (shards_without (its_plans (opening node) node.channels.entries));
  objects = apart;
  objects_new = subst (λ (l : List ObjectSeen). All (λ (o : ObjectSeen). o.journal ≡ []) l) (sym these) (objects_without limit objects);
  planned = subst (λ (k : Keys). ArePlanned k.entries (plans_in parts.shards.items)) (sym same) (all_planned (opening node) node.channels.entries parts.shards.items are);
}
