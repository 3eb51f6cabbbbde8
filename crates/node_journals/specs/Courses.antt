-- What the laws of a drill's requests at its node say.
use Rattle.std.specs.Prelude.{◌≡◌, ◌≢◌, ℕ, ◌<◌, All}
use Rattle.node_commands.specs.Words.{DrillWords}
use Rattle.taos_drill.specs.declared.numbers.TheConstants.{READING}
use Rattle.taos_drill.specs.Sent.{payload_of}
use Rattle.request_course.specs.Cells.{Node, Journals}
use Rattle.request_course.specs.Course.{Course, Used}
use Rattle.taos_wire.specs.Reply.{NoMemory, Sent}
use Rattle.node_journals.specs.Counts.{CountsJournals}
use Rattle.node_journals.specs.Load.{IsLoadJournal}
use Rattle.node_journals.specs.Requests.{FitsDrill, IsLoadNode, channels_of, load_plan}
use Rattle.node_journals.specs.Works.{LoadWorks, Turned}

-- a course of a request of the load, where each reading is the drill's and memory was not refused,
-- is one of these
abbrev pub CoursesAreTurned : DrillWords → Node → Type 0
CoursesAreTurned d n =
    FitsDrill d → IsLoadNode d n →
    (J : Journals) (i : ℕ) → i < d.requests → (used : Used) (sent : Sent) →
    Course n J (payload_of d.seed d.lanes i) used sent →
    All (λ reading. reading ≡ READING) used.readings → sent.reply ≢ NoMemory →
    Turned d n J i used.places

-- where each place of a node's journals is own of one request of the load, the journal of each shard
-- is that of a load
abbrev pub ShardsAreLoads : DrillWords → Node → Type 0
ShardsAreLoads d n =
    FitsDrill d → IsLoadNode d n → (J : Journals) → LoadWorks d n J →
    (s : ℕ) → s < 4 → IsLoadJournal (load_plan d (channels_of n) s) (J.shards s)

-- and the journals count the load so
abbrev pub WorksAreCounted : DrillWords → Node → Type 0
WorksAreCounted d n =
    FitsDrill d → IsLoadNode d n → (J : Journals) → LoadWorks d n J → CountsJournals d n J
