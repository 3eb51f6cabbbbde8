use Rattle.request_course.proofs.Filling.{no_entry_after_full}
use Rattle.request_course.proofs.laws.nothing_follows_a_full_journal.Goals as goal

pub returns : goal.returns
returns c = no_entry_after_full
