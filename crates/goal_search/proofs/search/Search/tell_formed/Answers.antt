-- What each of six calls tells stays told to the end, and rests on what was told at the beginning.
use Rattle.taos_calculus.specs.declared.line.Fact.{Fact}
use Rattle.goal_search.specs.Searching.{core}
use Rattle.goal_search.specs.Telling.{TellsMore}
use Rattle.goal_search.proofs.Told.{more_then, passed_kept}
use Rattle.goal_search.proofs.search.Search.tell_formed.Goals as goal

pub returns-clause-more : goal.returns-clause-more
returns-clause-more c =
    let s = core c.args.self.now in
    let f0 = c.args.found.now in
    let f1 = c.tell_part.new.found in
    let f2 = c.tell_in_role.new.found in
    let f3 = c.tell_anchored.new.found in
    let f4 = c.tell_quoted.new.found in
    let f5 = c.tell_acting.new.found in
    let f6 = c.tell_under.new.found in
    more_then s f0 f1 f6 c.tell_part.ensures.more (more_then s f1 f2 f6 c.tell_in_role.ensures.more (more_then s f2 f3 f6 c.tell_anchored.ensures.more
    (more_then s f3 f4 f6 c.tell_quoted.ensures.more (more_then s f4 f5 f6 c.tell_acting.ensures.more c.tell_under.ensures.more))))

pub returns-clause-told : goal.returns-clause-told
returns-clause-told c =
    let s = core c.args.self.now in
    let f0 = c.args.found.now in
    let f1 = c.tell_part.new.found in
    let f2 = c.tell_in_role.new.found in
    let f3 = c.tell_anchored.new.found in
    let f4 = c.tell_quoted.new.found in
    let f5 = c.tell_acting.new.found in
    let f6 = c.tell_under.new.found in
    let m46 : TellsMore s f4 f6 = more_then s f4 f5 f6 c.tell_acting.ensures.more c.tell_under.ensures.more in
    let m36 : TellsMore s f3 f6 = more_then s f3 f4 f6 c.tell_quoted.ensures.more m46 in
    let m26 : TellsMore s f2 f6 = more_then s f2 f3 f6 c.tell_anchored.ensures.more m36 in
    let m16 : TellsMore s f1 f6 = more_then s f1 f2 f6 c.tell_in_role.ensures.more m26 in
    let m02 : TellsMore s f0 f2 = more_then s f0 f1 f2 c.tell_part.ensures.more c.tell_in_role.ensures.more in
    let m03 : TellsMore s f0 f3 = more_then s f0 f2 f3 m02 c.tell_anchored.ensures.more in
    let m04 : TellsMore s f0 f4 = more_then s f0 f3 f4 m03 c.tell_quoted.ensures.more in
    let m05 : TellsMore s f0 f5 = more_then s f0 f4 f5 m04 c.tell_acting.ensures.more in
    let fact = Fact.Speaks c.args.from c.args.to in
    record {
      left = λ b e. m16.kept fact (c.tell_part.ensures.left b e);
      right = λ a e. m16.kept fact (c.tell_part.ensures.right a e);
      role = λ r e. m26.kept fact (c.tell_in_role.ensures.told r e);
      anchored = λ i anchor e k n. m36.kept fact (c.tell_anchored.ensures.told i anchor e k n);
      quoting = λ x y z w e k p q. m46.kept fact (c.tell_quoted.ensures.told x y z w e k (passed_kept s f0 f3 m03 x z p) (passed_kept s f0 f3 m03 y w q));
      for_both = λ x y z w e k p q. c.tell_under.ensures.more.kept fact (c.tell_acting.ensures.told x y z w e k (passed_kept s f0 f4 m04 x z p) (passed_kept s f0 f4 m04 y w q));
      role_under = λ x z r e k p. c.tell_under.ensures.told x z r e k (passed_kept s f0 f5 m05 x z p);
    }
