use Rattle.std.proofs.Common.{arith}
use Rattle.journal_bytes.specs.View.{entry_seen}
use Rattle.journal_bytes.proofs.Found.{entry_found}
use Rattle.journal_bytes.proofs.reading.read_entry_by.Goals as goal

pub returns-clause-found : goal.returns-clause-found
returns-clause-found c = entry_found c.args.bytes.now c.args.at c.entry_of.result entry_seen c.requires (λ i. omega (arith, c.type_inv.bytes i)) c.entry_of.ensures.value
