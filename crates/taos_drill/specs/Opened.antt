-- What the node of a drill is opened with.
use Rattle.std.specs.Prelude.{◌≡◌, ℕ, ◌+◌, ◌*◌, List, [], ◌∷◌, ◌++◌, map, Some}
use Rattle.std.specs.List.{range_with_len}
use Rattle.object_core.specs.Objects.{ObjectPlan, object_of}
use Rattle.node_file.specs.Opening.{Opening, no_texts}
use Rattle.prin_term.specs.Principal.{Name}
use Rattle.prin_term.specs.View.{Grant}
use Rattle.prin_term.specs.declared.term.Anchor.{Anchor}
use Rattle.taos_drill.specs.Words.{key_at}

-- the one anchor: key 1000 is that of name 1
abbrev pub issuer_anchor : Anchor
issuer_anchor = record { key = 1000; name = 1 }

-- an entry that lets name 1 read
abbrev pub reader : Grant
reader = record { rights = 1; who = Name 1 }

-- an empty object with this access list
abbrev pub empty_object : List Grant → ℕ → ObjectPlan
empty_object list number = record { number = number; content = []; list = list }

-- of each lane an object that name 1 may read, numbered from 1, and then of each lane one that
-- nobody may read, numbered from 101
abbrev pub drill_objects : ℕ → List ObjectPlan
drill_objects lanes =
    map (empty_object (reader ∷ [])) (range_with_len 1 lanes)
    ++ map (empty_object []) (range_with_len 101 lanes)

-- of the objects of so many lanes that of the number is empty, with this access list
abbrev pub HasObject : ℕ → List Grant → ℕ → Type 0
HasObject lanes list number =
    object_of (drill_objects lanes) number ≡ Some (empty_object list number)

-- the channel of each lane with its key, numbered from 1
abbrev pub drill_channels : ℕ → ℕ → List (ℕ × List ℕ)
drill_channels seed lanes = map (λ channel. (channel, key_at seed channel)) (range_with_len 1 lanes)

-- the opening: its journals have room for each request and for each proof that is kept
abbrev pub drill_opening : ℕ → ℕ → ℕ → Opening
drill_opening seed requests lanes = record {
  node = 1;
  relay_key = key_at seed 0;
  shards = 4;
  keep = 3600;
  limit = 2 * requests + 16;
  names = no_texts;
  channels = drill_channels seed lanes;
  anchors = issuer_anchor ∷ [];
  commons = [];
  objects = drill_objects lanes;
}
