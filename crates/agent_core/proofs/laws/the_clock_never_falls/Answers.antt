use Rattle.agent_core.proofs.Clocks.{clock_read, never_falls}
use Rattle.agent_core.proofs.laws.the_clock_never_falls.Goals as goal

pub returns-clause-rises : goal.returns-clause-rises
returns-clause-rises c = never_falls

pub returns-clause-read : goal.returns-clause-read
returns-clause-read c = clock_read
