-- What a node is opened with, and the bytes of its binary form.
use Rattle.std.specs.Prelude.{◌≡◌, ◌≢◌, ℕ, ◌+◌, ◌*◌, ◌^◌, ◌<◌, ◌≤◌, List, [], ◌∷◌, ◌++◌, length}
use Rattle.std.specs.Prelude.{All, AllPairs}
use Rattle.std.specs.List.{flat_map}
use Rattle.std.specs.Int.{w16, w32, w64, to_be_bytes}
pub use Rattle.keyed_seal.specs.Keys.{key_of}
use Rattle.object_core.specs.Objects.{ObjectPlan}
use Rattle.object_core.specs.Operation.{IsContent, IsAccessList}
use Rattle.prin_term.specs.declared.term.Anchor.{Anchor}
use Rattle.object_core.specs.Spelling.{content_bytes, list_bytes}
use Rattle.byte_fields.specs.Steps.{IsByte, counted}
use Rattle.prin_text.specs.Labels.{Labels, AreLabels}
use Rattle.sealed_cert.specs.declared.kind.TheConstants.{RELAYED}
use Rattle.sealed_cert.specs.Seals.{sealed}
use Rattle.stmt_codec.specs.Certificates.{Certificate, HasBodySpelling, IsWithinLimits}
use Rattle.node_file.specs.declared.limits.TheConstants.{MAX_SHARDS, MAX_KEEP, MAX_LIMIT}
use Rattle.node_file.specs.declared.limits.TheConstants.{MAX_CHANNELS, MAX_ANCHORS, MAX_COMMONS}
use Rattle.node_file.specs.declared.limits.TheConstants.{MAX_OBJECTS, MAX_ROOM}

-- what a node is opened with
pub record Opening : Type 0 where
  -- its number
  pub node : ℕ
  -- the key that it shares with its relay
  pub relay_key : List ℕ
  -- how many shards it has
  pub shards : ℕ
  -- how many seconds a certificate that ended is kept
  pub keep : ℕ
  -- how many entries each journal has at most
  pub limit : ℕ
  -- the texts of names and of roles
  pub names : Labels
  -- each channel's number with its key, found by `key_of`
  pub channels : List (ℕ × List ℕ)
  pub anchors : List Anchor
  -- the certificates that each shard holds in common at first
  pub commons : List Certificate
  pub objects : List ObjectPlan

-- no name and no role has a text
abbrev pub no_texts : Labels
no_texts = record { names = []; roles = [] }

-- ---- bytes

-- a channel's number, then its key
abbrev pub channel_bytes : ℕ × List ℕ → List ℕ
channel_bytes c = to_be_bytes w32 c.0 ++ c.1

-- an anchor's key, then its name
abbrev pub anchor_bytes : Anchor → List ℕ
anchor_bytes a = to_be_bytes w32 a.key ++ to_be_bytes w32 a.name

-- a certificate under the relay's seal for this node, after its length
abbrev pub common_bytes : List ℕ → Certificate → List ℕ
common_bytes relay_key c = counted w16 (sealed RELAYED relay_key c)

-- the number, the content after its length, and the entries after their count
abbrev pub object_bytes : ObjectPlan → List ℕ
object_bytes p =
    to_be_bytes w32 p.number ++ content_bytes p.content ++ list_bytes p.list

-- its one spelling: the mark, the node's own fields, and four lists, each after its count
abbrev pub opening_bytes : Opening → List ℕ
opening_bytes o =
    0 ∷ 1 ∷ to_be_bytes w32 o.node ++ o.relay_key
    ++ to_be_bytes w32 o.shards ++ to_be_bytes w64 o.keep ++ to_be_bytes w64 o.limit
    ++ to_be_bytes w16 (length o.channels) ++ flat_map channel_bytes o.channels
    ++ length o.anchors ∷ flat_map anchor_bytes o.anchors
    ++ length o.commons ∷ flat_map (common_bytes o.relay_key) o.commons
    ++ to_be_bytes w16 (length o.objects) ++ flat_map object_bytes o.objects

-- ---- limits

-- 32 bytes
abbrev pub IsKey : List ℕ → Type 0
IsKey key = (length key ≡ 32) × All IsByte key

-- its number fits 32 bits, and its key is one
abbrev pub IsChannel : ℕ × List ℕ → Type 0
IsChannel c = (c.0 < 2 ^ 32) × IsKey c.1

-- the key and the name fit 32 bits
abbrev pub IsAnchor : Anchor → Type 0
IsAnchor a = (a.key < 2 ^ 32) × (a.name < 2 ^ 32)

-- its numbers fit their fields, and its terms are within the limits
abbrev pub IsCommon : Certificate → Type 0
IsCommon c = HasBodySpelling c × IsWithinLimits c

-- the object's number fits 32 bits, and its content and its access list are within the limits
pub record FitsObject (p : ObjectPlan) : Type 0 where
  pub number : p.number < 2 ^ 32
  pub content : IsContent p.content
  pub list : IsAccessList p.list

-- the journals of all shards and objects have room for this many entries
abbrev pub journal_room : Opening → ℕ
journal_room o = (o.shards + length o.objects) * o.limit

-- its numbers are within the limits, and nothing stands twice in a list
pub record FitsOpening (o : Opening) : Type 0 where
  pub node : o.node < 2 ^ 32
  pub relay_key : IsKey o.relay_key
  pub shards : (1 ≤ o.shards) × (o.shards ≤ MAX_SHARDS)
  pub keep : (1 ≤ o.keep) × (o.keep ≤ MAX_KEEP)
  pub limit : (1 ≤ o.limit) × (o.limit ≤ MAX_LIMIT)
  pub names : AreLabels o.names
  pub few_channels : length o.channels ≤ MAX_CHANNELS
  pub channels : All IsChannel o.channels
  pub each_channel_once : AllPairs (λ c d. c.0 ≢ d.0) o.channels
  pub few_anchors : length o.anchors ≤ MAX_ANCHORS
  pub anchors : All IsAnchor o.anchors
  pub each_anchor_once : AllPairs (λ a b. a ≢ b) o.anchors
  pub few_commons : length o.commons ≤ MAX_COMMONS
  pub commons : All IsCommon o.commons
  pub each_common_once : AllPairs (λ c d. c ≢ d) o.commons
  pub few_objects : length o.objects ≤ MAX_OBJECTS
  pub objects : All FitsObject o.objects
  pub each_object_once : AllPairs (λ p q. p.number ≢ q.number) o.objects
  pub room : journal_room o ≤ MAX_ROOM

-- the bytes are the one binary spelling of the opening, which is within the limits and has no texts
abbrev pub Spells : Opening → List ℕ → Type 0
Spells o bytes = FitsOpening o × (bytes ≡ opening_bytes o) × (o.names ≡ no_texts)

-- ---- what is looked up
