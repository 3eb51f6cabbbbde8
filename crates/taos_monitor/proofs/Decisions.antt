-- What was ruled on a request at its object, by how its ask ended and what the reply tells.
use Rattle.std.proofs.Common.{◌≡◌, ℕ, ◌<◌, ◌≤◌, List, [], length, map, Option, None, refl, sym, ap, ap₂, subst, ◌∙◌}
use Rattle.prin_term.specs.Principal.{Principal}
use Rattle.prin_term.specs.View.{Grant}
use Rattle.object_core.specs.Objects.{ObjectSeen}
use Rattle.object_core.specs.Shelving.{fixed_of}
use Rattle.taos_calculus.proofs.Induction.{All-at}
use Rattle.std.specs.Prelude.{All}
use Rattle.taos_wire.specs.Reply as replies
use Rattle.taos_wire.specs.Reply.{Reply}
use Rattle.taos_wire.specs.View.{request, cited as shared}
use Rattle.agent_core.specs.declared.asked.Asked.{Asked}
use Rattle.agent_core.specs.State.{Plan, Ask}
use Rattle.agent_core.specs.Plans.{IsPlan}
use Rattle.agent_core.specs.Journals.{Entry}
use Rattle.agent_core.specs.Asked.{AskEnds, FoundRoom, LacksMemory, Unanswered}
use Rattle.agent_core.specs.Shards.{ShardsSeen}
use Rattle.agent_core.proofs.Asks.{standing}
use Rattle.taos_monitor.specs.declared.deciding.Came.{Came}
use Rattle.taos_monitor.specs.declared.deciding.Ruled.{Ruled}
use Rattle.taos_monitor.specs.Arriving.{StandsFor}
use Rattle.request_course.specs.Asking.{TellsFull, unanswered}
use Rattle.request_course.specs.AtObject.{asks_for, object_full}
use Rattle.request_course.specs.Cells.{AreLegalShards, shards_in}
use Rattle.taos_monitor.specs.Ruling.{AskedAt, DecidedTo, IsRuled, at_limit, unruled, shard_of, IsToldBy, MayTell, ask_came, list_of, seeking_of, telling}
use Rattle.request_course.proofs.Going.{shards_stood}
use Rattle.taos_monitor.proofs.Parts.{may_tell}
use Rattle.taos_monitor.proofs.Telling.{never_lacking, ruled_by}

not_lacking_full : (number limit : ℕ) → object_full number limit ≡ replies.NoMemory → ⊥
not_lacking_full number limit e = cc

-- what holds of how it ended may be told otherwise
pub ended_as : (old new : ShardsSeen) (h : ℕ) (Ends Others : Plan → List Entry → List ℕ → Type 0) →
    (x : AskedAt old new h Ends) → Others x.plan (new.seen h) x.own → AskedAt old new h Others
ended_as old new h Ends Others x ends = record { plan = x.plan; planned = x.planned; own = x.own; goes_on = x.goes_on; others = x.others; legal = x.legal; ends = ends }

module _ (c : Came) (o : ObjectSeen) where
  -- what is asked of the object
  abbrev pub its_ask : Ask
  its_ask = asks_for (seeking_of c (fixed_of o)) o.journal

  pub same_ask : (list : List Grant) → StandsFor (request c.asked.now) c.arrived → list ≡ list_of o → ask_came c list ≡ asks_for (seeking_of c (fixed_of o)) o.journal
  same_ask list stands same =
      ap₂ (λ (who : Principal) (right : ℕ). record { channel = (request c.asked.now).channel; seq = (request c.asked.now).seq; reading = c.reading; subject = who; list = list; right = right; presented = map shared c.arrived.certs.items }) stands.subject stands.right
      ∙ ap (λ (l : List Grant). record { channel = (request c.asked.now).channel; seq = (request c.asked.now).seq; reading = c.reading; subject = its_ask.subject; list = l; right = its_ask.right; presented = map shared c.arrived.certs.items }) same

  module _ (old new : ShardsSeen) where
    abbrev pub Decided : Option Ruled → Reply → Type 0
    Decided ruled reply = DecidedTo old new (c, o, ruled) reply

    -- the object is full
    pub decided_full : (n : ℕ) → AreLegalShards old.plans old.seen → c.shard < length old.plans → length o.journal ≡ o.limit → n ≡ o.limit → DecidedTo old old (c, o, None) (object_full (request c.asked.now).object n)
    decided_full n legal there full is =
        let (plan, planned) = standing old.plans c.shard there in
        record {
          plan = plan;
          planned = planned;
          own = [];
          goes_on = shards_stood old.alone (shards_in old);
          others = λ k not. refl;
          legal = legal;
          ends = (
            subst (λ (k : ℕ). IsRuled (shard_of plan (old.seen c.shard)) (seeking_of c (fixed_of o)) o.journal None [] (object_full (request c.asked.now).object k)) (sym is) (at_limit full),
            λ lacks none. absurd (not_lacking_full (request c.asked.now).object n lacks),
          );
        }

    module _ (list : List Grant) (stands : StandsFor (request c.asked.now) c.arrived) (same : list ≡ list_of o) (h : ℕ) (shard : c.shard ≡ h) where
      at_shard : (Others : Plan → List Entry → List ℕ → Type 0) → AskedAt old new h Others → AskedAt old new c.shard Others
      at_shard Others x = subst (λ (s : ℕ). AskedAt old new s Others) (sym shard) x

      -- what is ruled, by what came of the ask
      abbrev Rules : Option Ruled → Reply → Plan → List Entry → List ℕ → Type 0
      Rules ruled reply plan journal own =
          IsRuled (shard_of plan journal) (seeking_of c (fixed_of o)) o.journal ruled own reply × TellsFull plan (old.seen c.shard) journal own reply

      pub decided_ended : length o.journal < o.limit → (ended : Asked) → (x : AskedAt old new h (λ plan journal own. AskEnds plan journal (ask_came c list) ended own)) → (ruled : Option Ruled) (reply : Reply) →
          IsToldBy (telling (request c.asked.now) o c.shard ended.place ended.kept) ended.verdict ruled reply → Decided ruled reply
      decided_ended room ended x ruled reply told =
          at_shard (Rules ruled reply)
          (ended_as old new h (λ plan journal own. AskEnds plan journal (ask_came c list) ended own) (Rules ruled reply) x (
            ruled_by x.plan (new.seen h) (seeking_of c (fixed_of o)) o.journal room ended.place ended.verdict ended.kept ended.settled x.own ruled reply
                (subst (λ (a : Ask). AskEnds x.plan (new.seen h) a ended x.own) (same_ask list stands same) x.ends) told,
            λ lacks none. absurd (never_lacking x.plan (new.seen h) (ask_came c list) ended.place ended.verdict ended.kept ended.settled x.own x.ends (telling (request c.asked.now) o c.shard ended.place ended.kept) ruled reply told lacks none),
          ))

      pub decided_lacked : length o.journal < o.limit → AskedAt old new h (λ plan journal own. LacksMemory plan (old.seen h) journal (ask_came c list) own) → Decided None replies.NoMemory
      decided_lacked room x =
          at_shard (Rules None replies.NoMemory)
          (ended_as old new h (λ plan journal own. LacksMemory plan (old.seen h) journal (ask_came c list) own) (Rules None replies.NoMemory) x (
            unruled room (unanswered (subst (λ (a : Ask). Unanswered x.plan (new.seen h) a x.own) (same_ask list stands same) x.ends.unanswered)),
            λ lacks none. subst (λ (s : ℕ). FoundRoom x.plan (old.seen s) (new.seen h)) (sym shard) (x.ends.room none),
          ))

      pub may_be_told : (ended : Asked) → (x : AskedAt old new h (λ plan journal own. AskEnds plan journal (ask_came c list) ended own)) → All IsPlan old.plans → length list ≤ 8 → MayTell (list_of o) ended.verdict
      may_be_told ended x sound few =
          subst (λ (l : List Grant). MayTell l ended.verdict) same
          (may_tell x.plan (new.seen h) (ask_came c list) ended.place ended.verdict ended.kept ended.settled x.own (All-at IsPlan old.plans h x.plan sound x.planned) (x.legal h x.plan x.planned) few x.ends)
