-- What was read of the file is what it means.
use Rattle.std.proofs.Common.{sym, subst}
use Rattle.relay_path.specs.PathView.{file_fault}
use Rattle.node_commands.specs.Files.{IsRead, path_means}
use Rattle.node_commands.proofs.Meant.{long_path, opens_by, refusal_fails}
use Rattle.node_commands.proofs.file.file_domains.Goals as goal

pub returns-in-Ok-clause-gives : goal.returns-in-Ok-clause-gives
returns-in-Ok-clause-gives g c =
    let file0 = g.F.Source.shown c.args.file.now in
    let file1 = g.F.Source.shown c.file_bytes.new.file in
    let exact = c.in-Ok.ensures.exact in
    let read = subst (IsRead file0 file1) (sym c.deref.ensures.value) c.in_ok-bytes.ensures.read in
    (exact.0, opens_by path_means long_path file0 file1 c.deref.result.now exact.0 read exact.1, exact.2)

pub returns-clause-gives : goal.returns-clause-gives
returns-clause-gives g c =
    let file0 = g.F.Source.shown c.args.file.now in
    let file1 = g.F.Source.shown c.file_bytes.new.file in
    let read = subst (IsRead file0 file1) (sym c.deref.ensures.value) c.in_ok-bytes.ensures.read in
    refusal_fails path_means file0 file1 c.deref.result.now (file_fault c.in-Err.refusal) c.path_fault_of.result read c.in-Err.ensures.exact c.path_fault_of.ensures
