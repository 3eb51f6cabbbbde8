use Rattle.journal_bytes.specs.Spelled.{journals_of}
use Rattle.journal_bytes.proofs.Fitting.{journals_fit, spelling_added}
use Rattle.journal_bytes.proofs.journals_writing.write_journals.Goals as goal

pub returns-clause-spelled : goal.returns-clause-spelled
returns-clause-spelled c = λ within rise.
    let shards = c.args.shards.now in
    let objects = c.args.objects.now in
    let fit = journals_fit shards objects c.requires.counts.0 c.requires.counts.1 c.shards_fit.ensures c.objects_fit.ensures within in
    spelling_added c.append_journals.result c.args.out.now.items c.append_journals.new.out.items (journals_of shards objects)
    (record { shards = (fit.0, fit.1); objects = (fit.2, fit.3); ascending = rise }) c.append_journals.ensures.ok
