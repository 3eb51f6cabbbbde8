use Rattle.std.proofs.Common.{refl}
use Rattle.goal_search.specs.Searching.{core}
use Rattle.goal_search.proofs.Told.{more_then, heard_next, heard_told}
use Rattle.goal_search.proofs.search.Search.tell_heard.Goals as goal

pub loop-number-preserved : goal.loop-number-preserved
loop-number-preserved c = record {
  more = more_then (core c.args.self.now) c.args.found.now c.loop-number.found c.tell_one.new.found c.loop-number.invariant.more c.if-tell_one.ensures.more;
  told = heard_next (core c.args.self.now) c.args.found.now c.loop-number.found c.tell_one.new.found c.args.from c.args.to
      c.loop-number.invariant.more c.if-tell_one.ensures.more c.loop-number.number c.loop-number.invariant.told c.if-tell_one.ensures.told;
}

pub returns-then-tell_one-clause-more : goal.returns-then-tell_one-clause-more
returns-then-tell_one-clause-more c =
    more_then (core c.args.self.now) c.args.found.now c.loop-number.found c.tell_one.new.found c.loop-number.invariant.more c.if-tell_one.ensures.more

-- what is told already needs no other certificate
pub returns-then-tell_one-clause-told : goal.returns-then-tell_one-clause-told
returns-then-tell_one-clause-told c = λ i h.
    heard_told (core c.args.self.now) c.args.found.now c.tell_one.new.found c.args.from c.args.to (c.if-tell_one.ensures.done refl) i
