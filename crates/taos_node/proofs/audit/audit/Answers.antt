-- the connection is that of the first lane, and the text that of what it left
use Rattle.std.proofs.Common.{List, length, map, refl, sym, ap, subst, subst₂, arith}
use Rattle.std.specs.Prelude.{All}
use Rattle.object_core.specs.Shelving.{HaveOwnNumbers, numbers_of}
use Rattle.std.proofs.lemmas.List.{length-map}
use Rattle.std.proofs.KnownBytes.{Keeps-refl}
use Rattle.agent_core.specs.Journals.{ShardSeen}
use Rattle.agent_core.specs.State.{Plan}
use Rattle.request_course.specs.Cells.{Node, Seen}
use Rattle.node_journals.specs.Audit.{IsAuditOf}
use Rattle.node_journals.specs.AuditOf.{all_in}
use Rattle.taos_node.specs.Calls.{first_of}
use Rattle.taos_lanes.specs.Opened.{HasFittingList, node_by, seen_by}
use Rattle.node_journals.specs.LeftLaws.{AreAsksWithin, AreReplayedLegal, AreWritable, HasServed, alone}
use Rattle.node_journals.proofs.Audited.{all_asks, all_cite_few, all_ops_fit, few_commons, few_objects, is_audit, made_legal, numbers_apart, numbers_rise}
use Rattle.taos_node.proofs.AuditEnds.{ended_causes, ended_complete, ended_same, ended_writes, stopped_causes, stopped_complete}
use Rattle.taos_node.proofs.audit.audit.Goals as goal

pub returns-in_default-clause-audits : goal.returns-in_default-clause-audits
returns-in_default-clause-audits g c = λ o file0 file1 opened.
    let did = c.serve_first-outcome.ensures.connection file0 file1 o opened in
    let node = c.serve_first-outcome.new.node in
    let text = all_in c.args.asked.form node.shards.shards node.shelf.objects in
    record {
      node = did.0.node;
      is_node = did.0.is_node;
      seen = did.0.seen;
      outcome = c.serve_first-outcome.result;
      connection = did.0.connection;
      text = text;
      is_text = subst (λ (s : Seen). IsAuditOf c.args.asked.form o s.journals text) (sym did.1) (is_audit c.args.asked.form o c.args.opened.0 node opened c.serve_first-outcome.ensures.same);
      writes = (refl, λ end. c.in_default.not-End end.0 end.1, Keeps-refl (g.O.Sink.shown c.args.output.now).told);
      legal = λ none. absurd none;
    }

pub returns-in_default-clause-causes : goal.returns-in_default-clause-causes
returns-in_default-clause-causes g c =
    stopped_causes (g.I.Source.shown c.args.input.now).faults (first_of (map g.L.Worker.shown c.args.lanes.now)).clock.faults (g.I.Source.shown c.serve_first-outcome.new.input).faults
    (first_of (map g.L.Worker.shown c.serve_first-outcome.new.lanes)).clock.faults (g.O.Sink.shown c.args.output.now).faults c.serve_first-outcome.result c.serve_first-outcome.ensures.causes

pub returns-in_default-clause-complete : goal.returns-in_default-clause-complete
returns-in_default-clause-complete g c =
    stopped_complete c.args.asked.frames (g.I.Source.shown c.args.input.now).faults (first_of (map g.L.Worker.shown c.args.lanes.now)).clock.faults (g.I.Source.shown c.serve_first-outcome.new.input).faults
    (first_of (map g.L.Worker.shown c.serve_first-outcome.new.lanes)).clock.faults (g.O.Sink.shown c.args.output.now).faults (g.I.Source.shown c.args.input.now).told c.serve_first-outcome.result (λ end. c.in_default.not-End end.0 end.1) c.serve_first-outcome.ensures.complete

pub write_text-requires-clause-few : goal.write_text-requires-clause-few
write_text-requires-clause-few g c =
    let old = c.args.opened.0.shards.shards in
    let new = c.serve_first-outcome.new.node.shards.shards in
    omega (arith, ap (λ (l : List Plan). length l) c.serve_first-outcome.ensures.same.plans, length-map new (λ (s : ShardSeen). s.plan), length-map old (λ (s : ShardSeen). s.plan), c.requires.few)

pub write_text-requires-clause-counted : goal.write_text-requires-clause-counted
write_text-requires-clause-counted g c =
    let (o, opened) = c.requires.opened in
    few_objects o c.args.opened.0 c.serve_first-outcome.new.node opened c.serve_first-outcome.ensures.same c.requires.small

pub write_text-requires-clause-cites : goal.write_text-requires-clause-cites
write_text-requires-clause-cites g c =
    let (o, opened) = c.requires.opened in
    let new = c.serve_first-outcome.new.node in
    let same = c.serve_first-outcome.ensures.same in
    let file = g.I.Source.shown c.args.input.now in
    let did = c.serve_first-outcome.ensures.connection file file o opened in
    let w = c.what_a_node_left_is_writable.ensures.writable did.0.node (few_commons o c.args.opened.0 new opened same c.requires.small did.0.node did.0.is_node) did.0.seen.journals (alone did.0.connection.connection refl refl) in
    all_cite_few o c.args.opened.0 new opened same c.requires.small (subst (λ (s : Seen). AreWritable s.journals) did.1 w)

pub write_text-requires-clause-ops : goal.write_text-requires-clause-ops
write_text-requires-clause-ops g c =
    let (o, opened) = c.requires.opened in
    let new = c.serve_first-outcome.new.node in
    let same = c.serve_first-outcome.ensures.same in
    let file = g.I.Source.shown c.args.input.now in
    let did = c.serve_first-outcome.ensures.connection file file o opened in
    let w = c.what_a_node_left_is_writable.ensures.writable did.0.node (few_commons o c.args.opened.0 new opened same c.requires.small did.0.node did.0.is_node) did.0.seen.journals (alone did.0.connection.connection refl refl) in
    all_ops_fit o c.args.opened.0 new opened same c.requires.small (subst (λ (s : Seen). AreWritable s.journals) did.1 w)

pub returns-clause-audits : goal.returns-clause-audits
returns-clause-audits g c = λ o file0 file1 opened.
    let did = c.serve_first-outcome.ensures.connection file0 file1 o opened in
    let node = c.serve_first-outcome.new.node in
    let text = all_in c.args.asked.form node.shards.shards node.shelf.objects in
    record {
      node = did.0.node;
      is_node = did.0.is_node;
      seen = did.0.seen;
      outcome = c.serve_first-outcome.result;
      connection = did.0.connection;
      text = text;
      is_text = subst (λ (s : Seen). IsAuditOf c.args.asked.form o s.journals text) (sym did.1) (is_audit c.args.asked.form o c.args.opened.0 node opened c.serve_first-outcome.ensures.same);
      writes = ended_writes text (g.O.Sink.shown c.args.output.now).told (g.O.Sink.shown c.write_text.new.output).told c.serve_first-outcome.result (_, c.in-End.is) c.write_text.result c.write_text.ensures.writes;
      legal = λ made.
          let old = c.args.opened.0 in
          let same = c.serve_first-outcome.ensures.same in
          let small = c.requires.small in
          let J = did.0.seen.journals in
          let served : HasServed did.0.node J = alone did.0.connection.connection refl refl in
          let lists : All HasFittingList did.0.node.objects = subst (λ (n : Node). All HasFittingList n.objects) (sym did.2) small.lists in
          let few = few_commons o old node opened same small did.0.node did.0.is_node in
          let asks : AreAsksWithin (seen_by node).journals = subst (λ (s : Seen). AreAsksWithin s.journals) did.1 (c.what_a_node_left_is_writable.ensures.asks did.0.node few lists J served) in
          let own : HaveOwnNumbers did.0.node.objects = numbers_apart (numbers_of did.0.node.objects) did.0.is_node.by_number in
          let replayed : AreReplayedLegal (node_by old) (seen_by node).journals = subst₂ (λ (n : Node) (s : Seen). AreReplayedLegal n s.journals) did.2 did.1 (c.what_a_node_left_is_replayed.ensures did.0.node own J served) in
          made_legal o old node opened same c.args.asked.form replayed (c.write_text.ensures.spelled (all_asks node asks) (numbers_rise o old node opened same) made);
    }

pub returns-clause-causes : goal.returns-clause-causes
returns-clause-causes g c =
    let i = (g.I.Source.shown c.args.input.now).faults in
    let i1 = (g.I.Source.shown c.serve_first-outcome.new.input).faults in
    let k = (first_of (map g.L.Worker.shown c.args.lanes.now)).clock.faults in
    let k1 = (first_of (map g.L.Worker.shown c.serve_first-outcome.new.lanes)).clock.faults in
    let node = c.serve_first-outcome.new.node in
    ended_causes i k i1 k1 (g.O.Sink.shown c.args.output.now).faults (g.O.Sink.shown c.write_text.new.output).faults (ended_same i k i1 k1 _ c.serve_first-outcome.result c.in-End.is c.serve_first-outcome.ensures.causes)
    (all_in c.args.asked.form node.shards.shards node.shelf.objects) (g.O.Sink.shown c.args.output.now).told (g.O.Sink.shown c.write_text.new.output).told c.write_text.result c.write_text.ensures.writes c.write_text.ensures.cause

pub returns-clause-complete : goal.returns-clause-complete
returns-clause-complete g c =
    let i = (g.I.Source.shown c.args.input.now).faults in
    let i1 = (g.I.Source.shown c.serve_first-outcome.new.input).faults in
    let k = (first_of (map g.L.Worker.shown c.args.lanes.now)).clock.faults in
    let k1 = (first_of (map g.L.Worker.shown c.serve_first-outcome.new.lanes)).clock.faults in
    let node = c.serve_first-outcome.new.node in
    ended_complete i k i1 k1 (g.O.Sink.shown c.args.output.now).faults (g.O.Sink.shown c.write_text.new.output).faults (ended_same i k i1 k1 _ c.serve_first-outcome.result c.in-End.is c.serve_first-outcome.ensures.causes)
    (all_in c.args.asked.form node.shards.shards node.shelf.objects) (g.O.Sink.shown c.args.output.now).told (g.O.Sink.shown c.write_text.new.output).told c.args.asked.frames (g.I.Source.shown c.args.input.now).told c.write_text.result c.write_text.ensures.writes c.write_text.ensures.cause
