-- what the file opens, and what came of the connection
use Rattle.std.proofs.Common.{ℕ, map}
use Rattle.taos_node.specs.Calls.{touched, first_of}
use Rattle.taos_node.specs.Command.{FileFailsFor, audit_task}
use Rattle.frame_link.specs.Streams.{Stream}
use Rattle.node_file.specs.Opening.{Opening}
use Rattle.node_commands.specs.Files.{FileFails, node_means}
use Rattle.taos_lanes.specs.Opened.{IsOpenedBy}
use Rattle.node_journals.specs.declared.audit.Form.{Form}
use Rattle.node_journals.specs.declared.audit.Form.TheVariants as form
use Rattle.node_commands.specs.declared.fault.FileFault.{FileFault}
use Rattle.taos_node.proofs.Commands.{no_lane}
use Rattle.taos_node.proofs.Endings.{audited}
use Rattle.taos_node.proofs.Statuses.{refuses}
use Rattle.taos_node.proofs.audit.audit_by_file.Goals as goal

-- either form wants the file of a node
fails : (kind : Form) (frames : ℕ) (file0 file1 : Stream) (f : FileFault) → FileFails node_means file0 file1 f → FileFailsFor (audit_task kind frames) file0 file1 f
fails form.Text frames file0 file1 f is = is
fails form.Bytes frames file0 file1 f is = is

pub audit-requires-clause-opened : goal.audit-requires-clause-opened
audit-requires-clause-opened g c = λ lifetimes bounds.
    let gives = c.in-Ok.ensures.gives in
    let opens : (o : Opening) × IsOpenedBy o c.in-Ok.opened.0 = (gives.0, gives.2) in
    opens

pub returns-in-Ok-clause-audits : goal.returns-in-Ok-clause-audits
returns-in-Ok-clause-audits g c = λ words is.
    let before = touched (g.F.Source.shown c.args.file.now) (g.I.Source.shown c.args.input.now)
    (g.O.Sink.shown c.args.output.now) (first_of (map g.L.Worker.shown c.args.lanes.now)) in
    let after = touched (g.F.Source.shown c.node_file_of.new.file) (g.I.Source.shown c.audit.new.input)
    (g.O.Sink.shown c.audit.new.output) (first_of (map g.L.Worker.shown c.audit.new.lanes)) in
    let gives = c.in-Ok.ensures.gives in (
      (c.args.asked.form, c.args.asked.frames, is, (gives.0, gives.1, c.audit.ensures.audits gives.0 before.file after.file gives.2)),
      audited words c.args.asked.form c.args.asked.frames before after c.audit.result gives.0 is gives.1 c.in-Ok.ensures.cause c.audit.ensures.complete c.audit.ensures.causes,
    )

pub returns-in-Err-clause-audits : goal.returns-in-Err-clause-audits
returns-in-Err-clause-audits g c =
    let file0 = g.F.Source.shown c.args.file.now in
    let file1 = g.F.Source.shown c.node_file_of.new.file in
    refuses (audit_task c.args.asked.form c.args.asked.frames) file0 file1 (g.I.Source.shown c.args.input.now) (g.O.Sink.shown c.args.output.now) c.in-Err.fault
    (fails c.args.asked.form c.args.asked.frames file0 file1 c.in-Err.fault c.in-Err.ensures.gives) c.in-Err.ensures.cause (first_of (map g.L.Worker.shown c.args.lanes.now))

pub returns-in-Err-clause-left : goal.returns-in-Err-clause-left
returns-in-Err-clause-left g c = no_lane (map g.L.Worker.shown c.args.lanes.now)
