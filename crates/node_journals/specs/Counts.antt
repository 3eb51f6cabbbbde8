-- What a drill counts.
use Rattle.std.specs.Prelude.{◌≡◌, ℕ, ◌+◌, Bool, not, List, length, count_by, sum_by}
use Rattle.std.specs.List.{list_any, range_with_len}
use Rattle.agent_core.specs.Journals.{ShardSeen}
use Rattle.object_core.specs.Objects.{ObjectEntry, ObjectSeen, is_grant}
use Rattle.object_core.specs.Shelving.{numbers_of}
use Rattle.node_commands.specs.Words.{DrillWords}
use Rattle.taos_drill.specs.Sent.{requests_of}
use Rattle.taos_drill.specs.Words.{is_even, word_of}
use Rattle.request_course.specs.Cells.{Node, Journals}

-- how many requests have an even word
abbrev pub evens : DrillWords → ℕ
evens d = count_by (λ i. is_even (word_of d.seed i)) (range_with_len 0 d.requests)

-- how many requests have an odd word
abbrev pub odds : DrillWords → ℕ
odds d = count_by (λ i. not (is_even (word_of d.seed i))) (range_with_len 0 d.requests)

-- whether a lane has a request with an even word, which is granted
abbrev pub has_grant : DrillWords → ℕ → Bool
has_grant d lane =
    list_any (λ i. is_even (word_of d.seed i)) (requests_of d.requests d.lanes lane)

-- An even word is a grant and an odd one a denial. The shards have an entry for each request, and
-- one more for each lane that has a grant: its proof was kept once.
pub record CountsLoad (d : DrillWords) (shards : List ShardSeen) (objects : List ObjectSeen) :
    Type 0 where
  pub grants : sum_by (λ (o : ObjectSeen).
      count_by (λ (e : ObjectEntry). is_grant e.ruling) o.journal) objects ≡ evens d
  pub denials : sum_by (λ (o : ObjectSeen).
      count_by (λ (e : ObjectEntry). not (is_grant e.ruling)) o.journal) objects ≡ odds d
  pub entries : sum_by (λ (s : ShardSeen). length s.journal) shards
      ≡ d.requests + count_by (has_grant d) (range_with_len 0 d.lanes)

-- the same, of the journals of a node, by the numbers of its cells
pub record CountsJournals (d : DrillWords) (n : Node) (J : Journals) : Type 0 where
  pub grants : sum_by (λ o.
      count_by (λ (e : ObjectEntry). is_grant e.ruling) (J.objects o)) (numbers_of n.objects)
      ≡ evens d
  pub denials : sum_by (λ o.
      count_by (λ (e : ObjectEntry). not (is_grant e.ruling)) (J.objects o)) (numbers_of n.objects)
      ≡ odds d
  pub entries : sum_by (λ s. length (J.shards s)) (range_with_len 0 4)
      ≡ d.requests + count_by (has_grant d) (range_with_len 0 d.lanes)
