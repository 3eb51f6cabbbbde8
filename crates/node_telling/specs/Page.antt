-- The page for Prometheus of what a node has counted: each family once, in this order.
use Rattle.std.specs.Prelude.{ℕ, ◌+◌, codes, decimal, sum, take, List, [], ◌∷◌, ◌++◌}
use Rattle.node_telling.specs.declared.texts.journal.Gauge.{Gauge}
use Rattle.node_telling.specs.declared.texts.status.Status.{Status}
use Rattle.node_telling.specs.declared.texts.timing.TheConstants.{BOUNDS}
use Rattle.node_telling.specs.Samples.{each_line, heading, label, plain, rows, sample, single}

-- ---- tables

abbrev pub statuses : List (List ℕ)
statuses =
    codes "0" ∷ codes "1" ∷ codes "2" ∷ codes "3" ∷ codes "4" ∷ codes "5" ∷ codes "6" ∷ codes "7"
    ∷ codes "8" ∷ codes "9" ∷ codes "10" ∷ codes "11" ∷ codes "12" ∷ codes "13"
    ∷ codes "14" ∷ codes "15" ∷ []

-- of a relay's answers; 0 brings a certificate, and 6 to 10 are none
abbrev pub answers : List (List ℕ)
answers =
    codes "0" ∷ codes "1" ∷ codes "2" ∷ codes "3" ∷ codes "4" ∷ codes "5" ∷ codes "11" ∷ []

abbrev pub causes : List (List ℕ)
causes =
    codes "silent" ∷ codes "slow" ∷ codes "cut" ∷ codes "long" ∷ codes "untaken" ∷ codes "lost"
    ∷ codes "given-up" ∷ codes "turned-away" ∷ []

-- ---- families

-- that it runs, since when, and for whom
abbrev pub service_text : (version : List ℕ) → Status → List ℕ
service_text version s =
    heading (codes "taosd_build_info") (codes "The program's version.") (codes "gauge")
    ++ sample (codes "taosd_build_info") (label (codes "version") version) 1
    ++ single (codes "taosd_uptime_seconds") (codes "Seconds since it began to serve.")
    (codes "gauge") s.uptime
    ++ single (codes "taosd_connections_total") (codes "Connections that were taken.")
    (codes "counter") s.connections
    ++ single (codes "taosd_connections_open") (codes "Connections that are open.")
    (codes "gauge") s.open

-- what became of connections and of frames
abbrev pub outcomes_text : Status → List ℕ
outcomes_text s =
    heading (codes "taosd_broken_total")
    (codes "Connections that ended otherwise than well, by the cause.") (codes "counter")
    ++ rows (codes "taosd_broken_total") (codes "cause") causes s.broken
    ++ heading (codes "taosd_replies_total") (codes "Replies of the node, by their status.")
    (codes "counter")
    ++ rows (codes "taosd_replies_total") (codes "status") statuses s.replies
    ++ heading (codes "taosd_answers_total") (codes "Answers of the relay, by their code.")
    (codes "counter")
    ++ rows (codes "taosd_answers_total") (codes "code") answers s.answers

-- how many took a bound's time at most
abbrev pub bucket : (counts : List ℕ) → (place bound : ℕ) → List ℕ
bucket counts place bound =
    sample (codes "taosd_reply_microseconds_bucket") (label (codes "le") (decimal bound))
    (sum (take (place + 1) counts))

-- how long replies took; the last bucket has all
abbrev pub times_text : Status → List ℕ
times_text s =
    heading (codes "taosd_reply_microseconds")
    (codes "Microseconds from a frame's last byte to its reply's.") (codes "histogram")
    ++ each_line (bucket s.times) BOUNDS
    ++ sample (codes "taosd_reply_microseconds_bucket") (label (codes "le") (codes "+Inf"))
    (sum s.times)
    ++ plain (codes "taosd_reply_microseconds_sum") s.micros
    ++ plain (codes "taosd_reply_microseconds_count") (sum s.times)

-- of the relay and the clock
abbrev pub outside_text : Status → List ℕ
outside_text s =
    single (codes "taosd_relay_calls_total") (codes "Calls of the link to the relay.")
    (codes "counter") s.relay_calls
    ++ single (codes "taosd_relay_faults_total") (codes "Calls of the link that failed.")
    (codes "counter") s.relay_faults
    ++ single (codes "taosd_clock_faults_total")
    (codes "Readings of the clock that failed or were not believed.") (codes "counter")
    s.clock_faults

-- of what lacked
abbrev pub lacks_text : Status → List ℕ
lacks_text s =
    single (codes "taosd_scarce_total")
    (codes "Waits of a door since descriptors or memory lacked.") (codes "counter") s.scarce
    ++ single (codes "taosd_full_total") (codes "Times that each client's seat was taken.")
    (codes "counter") s.full
    ++ single (codes "taosd_notices_left_out_total")
    (codes "Notices for which there was no line.") (codes "counter") s.left_out

-- what else went wrong
abbrev pub faults_text : Status → List ℕ
faults_text s = outside_text s ++ lacks_text s

-- how many entries a journal had
abbrev pub gauge_line : (name key : List ℕ) → ℕ → Gauge → List ℕ
gauge_line name key place g = sample name (label key (decimal g.number)) g.entries

-- how full journals were when they were last heard of
abbrev pub journals_text : Status → List ℕ
journals_text s =
    heading (codes "taosd_shard_entries")
    (codes "Entries of a shard's journal, when last heard of.") (codes "gauge")
    ++ each_line (gauge_line (codes "taosd_shard_entries") (codes "shard")) s.shards.items
    ++ heading (codes "taosd_object_entries")
    (codes "Entries of an object's journal, when last heard of.") (codes "gauge")
    ++ each_line (gauge_line (codes "taosd_object_entries") (codes "object")) s.objects.items

-- the page
abbrev pub page : (version : List ℕ) → Status → List ℕ
page version s =
    service_text version s ++ outcomes_text s ++ times_text s ++ faults_text s ++ journals_text s
