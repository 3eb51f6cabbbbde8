-- What a relay does to the payloads of a connection that it serves.
use Rattle.std.specs.Prelude.{◌≡◌, ℕ, List}
use Rattle.frame_link.specs.Served.{Turn}
use Rattle.relay_core.specs.declared.resealing.RelayTable.{RelayTable}
use Rattle.relay_core.specs.Messages.{Replies}

-- the reply is what a relay that has the table's keys writes, and the table stays as it is
abbrev pub Answers : RelayTable → List ℕ → List ℕ → RelayTable → Type 0
Answers table payload reply after =
    (after ≡ table) × Replies table.issuers.entries table.nodes.entries payload reply

-- of a turn: its reply is what such a relay writes to its payload
abbrev pub IsReply : RelayTable → Turn → Type 0
IsReply table t = Replies table.issuers.entries table.nodes.entries t.payload t.reply

-- no payload is given up
abbrev pub GivesUp : RelayTable → List ℕ → RelayTable → Type 0
GivesUp table payload after = ⊥
