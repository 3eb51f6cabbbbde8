use Rattle.std.proofs.Common.{length, arith}
use Rattle.goal_search.specs.Searching.{core}
use Rattle.goal_search.proofs.Replayed.{tells_next, tells_none}
use Rattle.goal_search.proofs.replay.tell_all.Goals as goal

pub loop-k-init : goal.loop-k-init
loop-k-init c = record { telling = c.requires.telling; told = tells_none (core c.args.search.now) c.requires.ready c.args.found.now }

pub tell_place-requires-clause-place_in : goal.tell_place-requires-clause-place_in
tell_place-requires-clause-place_in c = c.requires.order.within c.loop-k.k (omega arith)

pub loop-k-preserved : goal.loop-k-preserved
loop-k-preserved c = record {
  telling = c.tell_place.ensures.more.telling;
  told = tells_next (core c.args.search.now) c.requires.ready c.loop-k.found c.tell_place.new.found c.args.order.now (length c.args.order.now) c.loop-k.k c.requires.order (omega arith)
      c.tell_place.ensures.more c.tell_place.ensures.told c.loop-k.invariant.told;
}

pub returns-clause-told : goal.returns-clause-told
returns-clause-told c = λ row number fact h lt is. c.loop-k.invariant.told row number fact h (omega (arith, lt, c.loop-k-test.false)) is
