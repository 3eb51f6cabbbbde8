-- what came of the ask is what the reply tells
use Rattle.std.proofs.Common.{◌≡◌, length, map, refl, sym, ap, ◌∙◌, inl, inr, arith}
use Rattle.std.proofs.lemmas.Bool.{cases_lt, false≢true}
use Rattle.std.proofs.lemmas.List.{length-map}
use Rattle.object_core.specs.ObjectView.{object_entry}
use Rattle.request_course.specs.AtObject.{object_full}
use Rattle.std.specs.Arc.{arc_value}
use Rattle.prin_term.specs.View.{grant}
use Rattle.agent_core.specs.Shards.{home_of}
use Rattle.taos_wire.specs.Reply as replies
use Rattle.taos_monitor.proofs.Decisions.{decided_full, decided_ended, decided_lacked, may_be_told}
use Rattle.taos_monitor.proofs.deciding.decide.Goals as goal

pub returns-then-not-has_room-clause-decided : goal.returns-then-not-has_room-clause-decided
returns-then-not-has_room-clause-decided g c =
    let o = c.args.object.now in
    let before = g.S.Shards.shown c.args.shards.now in
    let full : length o.journal ≡ o.limit = elim (cases_lt (length o.journal) o.limit) [
      | inl lt ↦ absurd (false≢true (c.if-not-has_room.ensures.1 lt))
      | inr past ↦ omega (arith, past, c.journal.ensures.within)
    ] in
    let count = length c.journal.result.now in
    record {
      reply = object_full c.args.came.asked.now.object count;
      holds = decided_full c.args.came o before before count c.requires.legal (omega (arith, c.requires.shard, c.requires.there)) full
          (sym (length-map c.journal.result.now object_entry) ∙ ap (λ l. length l) c.journal.ensures.value ∙ full);
      spelled = c.draft.ensures.reply;
      short = c.draft.ensures.short;
    }

pub draft_ended-requires : goal.draft_ended-requires
draft_ended-requires g c =
    let before = g.S.Shards.shown c.args.shards.now in
    let after = g.S.Shards.shown c.ask_at_home.new.shards in
    record {
      named = may_be_told c.args.came c.args.object.now before after (map grant (arc_value c.list.result.now).items) c.requires.stands c.list.ensures.value (home_of before c.args.came.asked.now.channel) c.requires.shard
          c.in-Ok.ended c.in-Ok.ensures.ended c.requires.sound c.list.ensures.fits.0;
    }

pub returns-in-Ok-clause-decided : goal.returns-in-Ok-clause-decided
returns-in-Ok-clause-decided g c =
    let before = g.S.Shards.shown c.args.shards.now in
    let after = g.S.Shards.shown c.ask_at_home.new.shards in
    let left = c.draft_ended.ensures in
    record {
      reply = left.reply;
      holds = decided_ended c.args.came c.args.object.now before after (map grant (arc_value c.list.result.now).items) c.requires.stands c.list.ensures.value (home_of before c.args.came.asked.now.channel) c.requires.shard
          (c.if-not-has_room.ensures.0 refl) c.in-Ok.ended c.in-Ok.ensures.ended c.draft_ended.result left.reply left.holds;
      spelled = left.spelled;
      short = left.short;
    }

pub returns-in-Err-clause-decided : goal.returns-in-Err-clause-decided
returns-in-Err-clause-decided g c =
    let before = g.S.Shards.shown c.args.shards.now in
    let after = g.S.Shards.shown c.ask_at_home.new.shards in
    record {
      reply = replies.NoMemory;
      holds = decided_lacked c.args.came c.args.object.now before after (map grant (arc_value c.list.result.now).items) c.requires.stands c.list.ensures.value (home_of before c.args.came.asked.now.channel) c.requires.shard
          (c.if-not-has_room.ensures.0 refl) c.in-Err.ensures.lacked;
      spelled = c.draft-in-Err.ensures.reply;
      short = c.draft-in-Err.ensures.short;
    }
