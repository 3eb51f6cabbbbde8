-- What the links to a relay that stands in memory show: of the one that fails at some calls also its
-- plan.
use Rattle.std.specs.Prelude.{ℕ, ◌-◌, ◌^◌, Some}
use Rattle.frame_link.specs.Plan.{Plan}
use Rattle.frame_link.specs.Relay.{Link, link}
use Rattle.relay_core.specs.declared.mem.MemRelay.{MemRelay}
use Rattle.relay_core.specs.declared.resealing.RelayTable.{RelayTable}
use Rattle.relay_core.specs.Resealing.{resealed}

-- the calls that came to the relay, and those that fail
abbrev pub plan : MemRelay → Plan
plan r = record { calls = r.calls; fails = r.fails.items; faults = r.faults }

-- a link that tells what a relay of this table says, called and failed so often
abbrev pub table_link : RelayTable → (calls faults : ℕ) → Link
table_link table calls faults =
    link (Some (resealed table.issuers.entries table.nodes.entries)) calls faults

-- one that counts no call: its count stands at the largest u64
abbrev pub local_link : RelayTable → Link
local_link table = table_link table (2 ^ 64 - 1) 0

-- one that counts its calls
abbrev pub mem_link : MemRelay → Link
mem_link r = table_link r.relay.table r.calls r.faults
