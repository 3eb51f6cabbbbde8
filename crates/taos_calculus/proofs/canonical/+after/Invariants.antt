use Rattle.taos_calculus.proofs.canonical.+after.Given as goal

abbrev pub decreases-after : goal.decreases-after
decreases-after l = l.id
