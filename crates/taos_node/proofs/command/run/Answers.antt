-- What the words and the file mean, and what came of the connection.
use Rattle.std.proofs.Common.{inl, inr, map}
use Rattle.std.proofs.KnownBytes.{Keeps-refl}
use Rattle.taos_lanes.specs.Telling.{told_by}
use Rattle.taos_node.specs.declared.ending.Ending.TheVariants.{Usage, Served}
use Rattle.node_commands.specs.Words.{Audit, Check, Drill, Mint, Path, Relay, Run, Wallet, drill_words, mint_words, path_words, run_words, serve_words, AuditBytes, Replay}
use Rattle.taos_node.specs.Calls.{touched, first_of}
use Rattle.taos_node.proofs.Commands.{no_lane}
use Rattle.taos_node.proofs.Statuses.{meant, none_meant, refuses, rests, served, unread, unused}
use Rattle.taos_node.proofs.LaneStatuses.{alone, ends_alone, none_serves, unread_does}
use Rattle.taos_node.proofs.command.run.Goals as goal

pub returns-in_default-clause-runs : goal.returns-in_default-clause-runs
returns-in_default-clause-runs g c =
    let file = g.F.Source.shown c.args.file.now in
    let input = g.I.Source.shown c.args.input.now in
    let output = g.O.Sink.shown c.args.output.now in
    let l = map g.L.Worker.shown c.args.lanes.now in
    let before = touched file input output (first_of l) in
    unread_does (told_by g.L.In.Source.shown g.L.Out.Sink.shown) c.args.words.now before before l (Keeps-refl file.told, rests file file input output (first_of l)) (unread c.args.words.now before)

pub returns-in_default-found-clause-runs : goal.returns-in_default-found-clause-runs
returns-in_default-found-clause-runs g c =
    let file = g.F.Source.shown c.args.file.now in
    let input = g.I.Source.shown c.args.input.now in
    let output = g.O.Sink.shown c.args.output.now in
    let l = map g.L.Worker.shown c.args.lanes.now in
    let before = touched file input output (first_of l) in
    let none = none_meant c.args.words.now c.in-Ok.found c.in-Ok.ensures c.in_default-found.is in
    alone (told_by g.L.In.Source.shown g.L.Out.Sink.shown) c.args.words.now before before l l Usage (none, Keeps-refl file.told, rests file file input output (first_of l)) (unused c.args.words.now before none) (no_lane l) (none_serves c.args.words.now none)

pub returns-in-Check-clause-runs : goal.returns-in-Check-clause-runs
returns-in-Check-clause-runs g c =
    let is = meant c.args.words.now c.in-Ok.ensures c.in-Some.is c.in-Check.is in
    let l = map g.L.Worker.shown c.args.lanes.now in
    ends_alone (told_by g.L.In.Source.shown g.L.Out.Sink.shown) c.args.words.now Check l l c.check_file.result is (λ no. no) (c.check_file.ensures.checks (first_of l)) (no_lane l)

pub returns-in-Mint-clause-runs : goal.returns-in-Mint-clause-runs
returns-in-Mint-clause-runs g c =
    let is = meant c.args.words.now c.in-Ok.ensures c.in-Some.is c.in-Mint.is in
    let l = map g.L.Worker.shown c.args.lanes.now in
    ends_alone (told_by g.L.In.Source.shown g.L.Out.Sink.shown) c.args.words.now (Mint (mint_words c.in-Mint.asked)) l l c.mint_by_file.result is (λ no. no) (c.mint_by_file.ensures.mints (g.I.Source.shown c.args.input.now) (first_of l)) (no_lane l)

pub returns-in-Path-clause-runs : goal.returns-in-Path-clause-runs
returns-in-Path-clause-runs g c =
    let is = meant c.args.words.now c.in-Ok.ensures c.in-Some.is c.in-Path.is in
    let l = map g.L.Worker.shown c.args.lanes.now in
    ends_alone (told_by g.L.In.Source.shown g.L.Out.Sink.shown) c.args.words.now (Path (path_words c.in-Path.asked)) l l c.path_by_file.result is (λ no. no) (c.path_by_file.ensures.passes (first_of l)) (no_lane l)

pub returns-in-Relay-clause-runs : goal.returns-in-Relay-clause-runs
returns-in-Relay-clause-runs g c =
    let is = meant c.args.words.now c.in-Ok.ensures c.in-Some.is c.in-Relay.is in
    let l = map g.L.Worker.shown c.args.lanes.now in
    ends_alone (told_by g.L.In.Source.shown g.L.Out.Sink.shown) c.args.words.now (Relay c.in-Relay.frames) l l c.relay_by_file.result is (λ no. no) (c.relay_by_file.ensures.relays (first_of l)) (no_lane l)

pub returns-in-Wallet-clause-runs : goal.returns-in-Wallet-clause-runs
returns-in-Wallet-clause-runs g c =
    let is = meant c.args.words.now c.in-Ok.ensures c.in-Some.is c.in-Wallet.is in
    let l = map g.L.Worker.shown c.args.lanes.now in
    ends_alone (told_by g.L.In.Source.shown g.L.Out.Sink.shown) c.args.words.now (Wallet c.in-Wallet.frames) l l c.wallet_by_file.result is (λ no. no) (c.wallet_by_file.ensures.gives (first_of l)) (no_lane l)

pub returns-in-Ok-node_file_of-clause-runs : goal.returns-in-Ok-node_file_of-clause-runs
returns-in-Ok-node_file_of-clause-runs g c =
    let l = map g.L.Worker.shown c.args.lanes.now in
    let l' = map g.L.Worker.shown c.serve_first.new.lanes in
    let before = touched (g.F.Source.shown c.args.file.now) (g.I.Source.shown c.args.input.now) (g.O.Sink.shown c.args.output.now) (first_of l) in
    let after = touched (g.F.Source.shown c.node_file_of.new.file) (g.I.Source.shown c.serve_first.new.input) (g.O.Sink.shown c.serve_first.new.output) (first_of l') in
    let gives = c.in-Ok-node_file_of.ensures.gives in
    let asked = run_words c.in-Run.frames c.in-Run.lemmas c.in-Run.pulls in
    ends_alone (told_by g.L.In.Source.shown g.L.Out.Sink.shown) c.args.words.now (Run asked) l l' (Served c.serve_first.result) (meant c.args.words.now c.in-Ok.ensures c.in-Some.is c.in-Run.is) (λ no. no)
    (λ words run. (
      (asked, run, (gives.0, gives.1, (c.serve_first.ensures.connection before.file after.file gives.0 gives.2).0)),
      served words asked before after c.serve_first.result c.in-Ok-node_file_of.ensures.cause gives.0 run gives.1 c.serve_first.ensures.complete c.serve_first.ensures.causes,
    )) c.serve_first.ensures.left

pub returns-in-Err-clause-runs : goal.returns-in-Err-clause-runs
returns-in-Err-clause-runs g c =
    let l = map g.L.Worker.shown c.args.lanes.now in
    let task = Run (run_words c.in-Run.frames c.in-Run.lemmas c.in-Run.pulls) in
    ends_alone (told_by g.L.In.Source.shown g.L.Out.Sink.shown) c.args.words.now task l l _ (meant c.args.words.now c.in-Ok.ensures c.in-Some.is c.in-Run.is) (λ no. no)
    (refuses task (g.F.Source.shown c.args.file.now) (g.F.Source.shown c.node_file_of.new.file) (g.I.Source.shown c.args.input.now) (g.O.Sink.shown c.args.output.now) c.in-Err.fault c.in-Err.ensures.gives c.in-Err.ensures.cause (first_of l)) (no_lane l)

pub returns-in-Serve-clause-runs : goal.returns-in-Serve-clause-runs
returns-in-Serve-clause-runs g c = c.serve_by_file.ensures.serves (g.I.Source.shown c.args.input.now) c.args.words.now (meant c.args.words.now c.in-Ok.ensures c.in-Some.is c.in-Serve.is)

pub returns-in-Serve-clause-untouched : goal.returns-in-Serve-clause-untouched
returns-in-Serve-clause-untouched g c = λ none.
    absurd (none (inl (serve_words c.in-Serve.limits c.in-Serve.lemmas c.in-Serve.pulls, meant c.args.words.now c.in-Ok.ensures c.in-Some.is c.in-Serve.is)))

pub returns-in-RelayServe-clause-runs : goal.returns-in-RelayServe-clause-runs
returns-in-RelayServe-clause-runs g c =
    c.serve_relay_by_file.ensures.serves (g.I.Source.shown c.args.input.now) c.args.words.now (meant c.args.words.now c.in-Ok.ensures c.in-Some.is c.in-RelayServe.is)

pub returns-in-RelayServe-clause-untouched : goal.returns-in-RelayServe-clause-untouched
returns-in-RelayServe-clause-untouched g c = λ none. absurd (none (inr (c.in-RelayServe.limits, meant c.args.words.now c.in-Ok.ensures c.in-Some.is c.in-RelayServe.is)))

pub returns-in-Drill-clause-runs : goal.returns-in-Drill-clause-runs
returns-in-Drill-clause-runs g c =
    let is = meant c.args.words.now c.in-Ok.ensures c.in-Some.is c.in-Drill.is in
    let l = map g.L.Worker.shown c.args.lanes.now in
    ends_alone (told_by g.L.In.Source.shown g.L.Out.Sink.shown) c.args.words.now (Drill (drill_words c.in-Drill.asked)) l l c.drill_asked.result is (λ no. no) (c.drill_asked.ensures.drills (g.F.Source.shown c.args.file.now) (g.I.Source.shown c.args.input.now) (first_of l)) (no_lane l)

pub returns-in-Audit-clause-runs : goal.returns-in-Audit-clause-runs
returns-in-Audit-clause-runs g c =
    let is = meant c.args.words.now c.in-Ok.ensures c.in-Some.is c.in-Audit.is in
    let l = map g.L.Worker.shown c.args.lanes.now in
    ends_alone (told_by g.L.In.Source.shown g.L.Out.Sink.shown) c.args.words.now (Audit c.in-Audit.frames) l (map g.L.Worker.shown c.audit_by_file.new.lanes) c.audit_by_file.result is (λ no. no) c.audit_by_file.ensures.audits c.audit_by_file.ensures.left

pub returns-in-AuditBytes-clause-runs : goal.returns-in-AuditBytes-clause-runs
returns-in-AuditBytes-clause-runs g c =
    let is = meant c.args.words.now c.in-Ok.ensures c.in-Some.is c.in-AuditBytes.is in
    let l = map g.L.Worker.shown c.args.lanes.now in
    ends_alone (told_by g.L.In.Source.shown g.L.Out.Sink.shown) c.args.words.now (AuditBytes c.in-AuditBytes.frames) l (map g.L.Worker.shown c.audit_by_file-in-AuditBytes.new.lanes) c.audit_by_file-in-AuditBytes.result is (λ no. no) c.audit_by_file-in-AuditBytes.ensures.audits c.audit_by_file-in-AuditBytes.ensures.left

pub returns-in-Replay-clause-runs : goal.returns-in-Replay-clause-runs
returns-in-Replay-clause-runs g c =
    let is = meant c.args.words.now c.in-Ok.ensures c.in-Some.is c.in-Replay.is in
    let l = map g.L.Worker.shown c.args.lanes.now in
    ends_alone (told_by g.L.In.Source.shown g.L.Out.Sink.shown) c.args.words.now Replay l l c.replay_by_file.result is (λ no. no) (c.replay_by_file.ensures.replays (first_of l)) (no_lane l)
