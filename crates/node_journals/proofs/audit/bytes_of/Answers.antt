-- what is written can be read
use Rattle.std.proofs.Common.{refl}
use Rattle.node_journals.proofs.audit.bytes_of.Goals as goal

pub returns-clause-spelled : goal.returns-clause-spelled
returns-clause-spelled c = λ within rise.
    let added = c.in_ok-write_journals.ensures.spelled within rise in
    record { limits = added.spells.limits; text = refl }
