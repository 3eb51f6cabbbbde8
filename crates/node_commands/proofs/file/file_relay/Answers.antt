-- What was read of the file is what it means.
use Rattle.std.proofs.Common.{sym, subst}
use Rattle.node_commands.specs.Files.{IsRead, relay_means}
use Rattle.node_commands.proofs.Meant.{long_relay, opens_by}
use Rattle.node_commands.proofs.file.file_relay.Goals as goal

pub returns-in-Ok-clause-gives : goal.returns-in-Ok-clause-gives
returns-in-Ok-clause-gives g c =
    let file0 = g.F.Source.shown c.args.file.now in
    let file1 = g.F.Source.shown c.file_bytes.new.file in
    let exact = c.in-Ok.ensures.exact in
    let read = subst (IsRead file0 file1) (sym c.deref.ensures.value) c.in_ok-bytes.ensures.read in
    (exact.0, opens_by relay_means long_relay file0 file1 c.deref.result.now exact.0 read exact.1, exact.2)
