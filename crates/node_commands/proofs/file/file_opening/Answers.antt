-- What was read of the file means the opening.
use Rattle.std.proofs.Common.{sym, subst}
use Rattle.node_commands.specs.Files.{IsRead}
use Rattle.node_commands.proofs.Meant.{node_opens}
use Rattle.node_commands.proofs.file.file_opening.Goals as goal

pub returns-in-Ok-clause-gives : goal.returns-in-Ok-clause-gives
returns-in-Ok-clause-gives g c =
    let file0 = g.F.Source.shown c.args.file.now in
    let file1 = g.F.Source.shown c.file_bytes.new.file in
    let found = c.in-Ok.ensures.found in
    let exact = c.in-Ok.ensures.exact in
    let read = subst (IsRead file0 file1) (sym c.deref.ensures.value) c.in_ok-bytes.ensures.read in
    (found.0, node_opens file0 file1 c.deref.result.now found.0 exact.0 read found.1 exact.1, found.2)
