use Rattle.std.proofs.Common.{◌∷◌, ◌++◌, [], ap, arith}
use Rattle.std.specs.Prelude.{is_ok}
use Rattle.term_pool.proofs.Pushing.{longer}
use Rattle.goal_search.specs.Searching.{core}
use Rattle.goal_search.proofs.Wanting.{fewer_wanted, new_then, ready_wanted, row_then, wants_grown, wants_it, wants_less}
use Rattle.goal_search.proofs.search.Search.want.Goals as goal

-- fewer rows are wanted than there is room for
pub unwrap-requires : goal.unwrap-requires
unwrap-requires c =
    let ready = c.begin.ensures.filled.grown.ready in
    let few = fewer_wanted (core c.begin.new.self) c.args.row ready
    (row_then (core c.args.self.now) (core c.begin.new.self) (core c.begin.new.self) c.args.row [] c.requires.ready c.requires.row_in.0 c.requires.row_in.1 c.begin.ensures.filled)
    (new_then (core c.args.self.now) (core c.begin.new.self) (core c.begin.new.self) c.args.row [] c.requires.ready c.requires.row_in.0 c.requires.row_in.1 c.begin.ensures.filled) in
    c.push.ensures.succeeds (omega (arith, few, ready.few_nodes, ready.few_cited, c.begin.new.self.wanted.ok.0, c.begin.new.self.wanted_room))

pub close-requires-clause-ready : goal.close-requires-clause-ready
close-requires-clause-ready c =
    ready_wanted (core c.begin.new.self) c.args.row c.begin.ensures.filled.grown.ready
    (row_then (core c.args.self.now) (core c.begin.new.self) (core c.begin.new.self) c.args.row [] c.requires.ready c.requires.row_in.0 c.requires.row_in.1 c.begin.ensures.filled)
    (new_then (core c.args.self.now) (core c.begin.new.self) (core c.begin.new.self) c.args.row [] c.requires.ready c.requires.row_in.0 c.requires.row_in.1 c.begin.ensures.filled)
    c.begin.ensures.begun c.push.new.self.items (longer (is_ok c.push.result) (c.begin.new.self.wanted.items ++ c.args.row ∷ []) c.push.new.self.items c.begin.new.self.wanted.items c.push.ensures.items (ap is_ok c.unwrap.ensures))

pub returns-clause-grown : goal.returns-clause-grown
returns-clause-grown c =
    wants_grown (core c.args.self.now) (core c.begin.new.self) (core c.close.new.self) c.args.row c.push.new.self.items c.requires.ready c.requires.row_in.0 c.requires.row_in.1 c.begin.ensures.filled c.begin.ensures.begun
    (longer (is_ok c.push.result) (c.begin.new.self.wanted.items ++ c.args.row ∷ []) c.push.new.self.items c.begin.new.self.wanted.items c.push.ensures.items (ap is_ok c.unwrap.ensures)) c.close.ensures

pub returns-clause-wanted : goal.returns-clause-wanted
returns-clause-wanted c =
    wants_it (core c.args.self.now) (core c.begin.new.self) (core c.close.new.self) c.args.row c.push.new.self.items c.requires.ready c.requires.row_in.0 c.requires.row_in.1 c.begin.ensures.filled c.begin.ensures.begun
    (longer (is_ok c.push.result) (c.begin.new.self.wanted.items ++ c.args.row ∷ []) c.push.new.self.items c.begin.new.self.wanted.items c.push.ensures.items (ap is_ok c.unwrap.ensures)) c.close.ensures

pub returns-clause-less : goal.returns-clause-less
returns-clause-less c =
    wants_less (core c.args.self.now) (core c.begin.new.self) (core c.close.new.self) c.args.row c.push.new.self.items c.requires.ready c.requires.row_in.0 c.requires.row_in.1 c.begin.ensures.filled c.begin.ensures.begun
    (longer (is_ok c.push.result) (c.begin.new.self.wanted.items ++ c.args.row ∷ []) c.push.new.self.items c.begin.new.self.wanted.items c.push.ensures.items (ap is_ok c.unwrap.ensures)) c.close.ensures
