use Rattle.std.proofs.Common.{arith}
use Rattle.object_core.specs.ObjectView.{object_entry}
use Rattle.journal_bytes.proofs.Found.{ruled_found, ruled_only}
use Rattle.journal_bytes.proofs.ruled.read_ruled.Goals as goal

pub returns-clause-found : goal.returns-clause-found
returns-clause-found c = ruled_found c.args.bytes.now c.args.at c.entry_of.result object_entry c.requires (λ i. omega (arith, c.type_inv.bytes i)) c.entry_of.ensures.value

pub returns-clause-only : goal.returns-clause-only
returns-clause-only c = ruled_only c.args.bytes.now c.args.at c.entry_of.result object_entry c.entry_of.ensures.value
