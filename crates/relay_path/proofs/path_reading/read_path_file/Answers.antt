use Rattle.std.proofs.Common.{subst, sym, ap, inl, inr, ◌∙◌, refl}
use Rattle.relay_path.specs.PathView.{IsPathFault}
use Rattle.relay_path.proofs.Causes.{path_fault}
use Rattle.relay_path.proofs.Linked.{path_mutual, stand_agree}
use Rattle.relay_path.proofs.path_reading.read_path_file.Goals as goal

-- what is refused is refused for a cause of path files
pub path_fault-requires : goal.path_fault-requires
path_fault-requires c = elim c.in-Err.ensures [
  | inl want ↦ subst IsPathFault (sym want) tt
  | inr refused ↦ path_fault c.args.bytes.now c.in-Err.fault refused
]

-- what was read is linked on both sides
pub returns-in-Ok-clause-sound : goal.returns-in-Ok-clause-sound
returns-in-Ok-clause-sound c =
    let read = c.in-Ok.ensures in
    stand_agree c.in-Ok.domains.items read.0 read.2 (path_mutual c.args.bytes.now read.0 read.1)
