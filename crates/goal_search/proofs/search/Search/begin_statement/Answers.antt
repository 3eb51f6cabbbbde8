use Rattle.std.proofs.Common.{arith}
use Rattle.goal_search.specs.Searching.{core}
use Rattle.goal_search.proofs.Beginning.{speakers_next, speakers_begun}
use Rattle.goal_search.proofs.Growing.{filled_then, filled_none}
use Rattle.goal_search.proofs.search.Search.begin_statement.Goals as goal

pub loop-other-init : goal.loop-other-init
loop-other-init c = record { filled = filled_none (core c.args.self.now) c.requires.ready; there = λ i b. absurd (omega arith) }

pub loop-other-preserved : goal.loop-other-preserved
loop-other-preserved c = record {
  filled = filled_then (core c.args.self.now) (core c.loop-other.self) (core c.begin_speaker.new.self) c.loop-other.invariant.filled c.begin_speaker.ensures.filled;
  there = speakers_next (core c.args.self.now) (core c.loop-other.self) (core c.begin_speaker.new.self) c.args.number c.loop-other.other
      c.loop-other.invariant.filled c.begin_speaker.ensures.filled c.loop-other.invariant.there c.begin_speaker.ensures.there;
}

pub returns-clause-begun : goal.returns-clause-begun
returns-clause-begun c =
    speakers_begun (core c.args.self.now) (core c.loop-other.self) c.args.number c.requires.number_in c.loop-other.invariant.filled
    (λ i b. c.loop-other.invariant.there i (omega (arith, b, c.loop-other-test.false)))
