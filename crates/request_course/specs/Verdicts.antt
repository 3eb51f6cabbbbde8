-- What a reply says of the verdict on its Ask, in which no kept proof occurs.
use Rattle.std.specs.Prelude.{◌≡◌, ℕ, Bool, List}
use Rattle.stmt_codec.specs.Certificates.{Certificate}
use Rattle.taos_calculus.specs.Rules.{Line}
use Rattle.denial_link.specs.declared.link.Link.{Link}
use Rattle.taos_wire.specs.Reply as replies
use Rattle.taos_wire.specs.Reply.{LinkSent, Sent}
use Rattle.agent_core.specs.declared.told.Told.{Told}
use Rattle.agent_core.specs.State.{Plan, Ask, Asks}
use Rattle.agent_core.specs.Journals.{Entry, entry, Stands, Verdict, IsVerdict, Granted, Denied}
use Rattle.request_course.specs.Cells.{Node, Journals, HasPlan}
use Rattle.request_course.specs.Course.{Used, Course}

-- an Ask stands at the place of the shard's journal, and this is the verdict on it after the entries
-- before
pub record HasVerdict (n : Node) (J : Journals) (shard place : ℕ) (verdict : Verdict) :
    Type 0 where
  pub plan : Plan
  pub planned : HasPlan n shard plan
  pub before : List Entry
  pub ask : Ask
  pub told : Told
  pub stands : Stands (J.shards shard) place before (entry (Asks ask) told)
  pub is : IsVerdict plan before ask verdict

-- a grant has the verdict of a grant at its place, whether its proof was kept or not, and a denial
-- that of a denial
abbrev pub RepliesAreVerdicts : Node → Type 0
RepliesAreVerdicts n =
    (J : Journals) (payload : List ℕ) (used : Used) (sent : Sent) → Course n J payload used sent →
    (shard place : ℕ) →
    ((kept : Bool) (entry : ℕ) (proof : List Line) (cites : List Certificate) (content : List ℕ) →
    sent.reply ≡ replies.Granted kept entry shard place proof cites content →
    HasVerdict n J shard place Granted) ×
    ((link : LinkSent) → sent.reply ≡ replies.Denied shard place link →
    (why : Link) × HasVerdict n J shard place (Denied why))
