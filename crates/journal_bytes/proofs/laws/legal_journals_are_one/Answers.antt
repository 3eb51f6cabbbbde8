use Rattle.journal_bytes.proofs.OneJournal.{event_is, one_journal}
use Rattle.journal_bytes.proofs.laws.legal_journals_are_one.Goals as goal

pub returns-clause-event : goal.returns-clause-event
returns-clause-event c = λ plan before event meant. event_is plan before event meant

pub returns-clause-one : goal.returns-clause-one
returns-clause-one c = λ plan xs ys legal other same. one_journal plan xs ys legal other same
