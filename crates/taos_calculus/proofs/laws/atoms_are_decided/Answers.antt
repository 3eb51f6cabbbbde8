use Rattle.taos_calculus.proofs.Atoms.{atom_is_decided}
use Rattle.taos_calculus.proofs.laws.atoms_are_decided.Goals as goal

pub returns : goal.returns
returns c = atom_is_decided
