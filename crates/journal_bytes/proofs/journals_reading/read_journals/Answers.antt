use Rattle.std.proofs.Common.{arith}
use Rattle.byte_fields.proofs.FormatPlaces.{fault_within}
use Rattle.journal_bytes.specs.JournalsReading.{journals_in}
use Rattle.journal_bytes.specs.View.{journals_seen}
use Rattle.journal_bytes.proofs.JournalForms.{journals_refused}
use Rattle.journal_bytes.proofs.JournalLaws.{are_found, are_only}
use Rattle.journal_bytes.proofs.journals_reading.read_journals.Goals as goal

pub returns-clause-found : goal.returns-clause-found
returns-clause-found c = are_found journals_seen c.args.bytes.now c.all_of.result c.all_of.ensures (λ i. omega (arith, c.type_inv.bytes i))

pub returns-clause-only : goal.returns-clause-only
returns-clause-only c = are_only journals_seen c.args.bytes.now c.all_of.result c.all_of.ensures

pub returns-clause-place : goal.returns-clause-place
returns-clause-place c =
    fault_within journals_seen c.args.bytes.now c.all_of.result (journals_in c.args.bytes.now) c.all_of.ensures (λ f e. journals_refused c.args.bytes.now (λ i. omega (arith, c.type_inv.bytes i)) f e)
