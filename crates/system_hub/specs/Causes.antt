-- By which word it is told why a client was let go.
use Rattle.std.specs.Prelude.{ℕ, List, codes}
use Rattle.system_hub.specs.declared.breakage.Breakage.{Breakage}
use Rattle.system_hub.specs.declared.breakage.Breakage.TheVariants.{Silent, Slow, Cut, Long, Untaken, Lost, GivenUp, TurnedAway}

abbrev pub cause_word : Breakage → List ℕ
cause_word Silent = codes "silent"
cause_word Slow = codes "slow"
cause_word Cut = codes "cut"
cause_word Long = codes "long"
cause_word Untaken = codes "untaken"
cause_word Lost = codes "lost"
cause_word GivenUp = codes "given-up"
cause_word TurnedAway = codes "turned-away"
