use Rattle.std.proofs.Common.{◌≡◌, ◌+◌, length, arith}
use Rattle.goal_search.specs.Searching.{Core}
use Rattle.goal_search.proofs.Restarted.{restarted}
use Rattle.goal_search.proofs.search.Search.restart.Goals as goal

pub returns-clause-ready : goal.returns-clause-ready
returns-clause-ready c =
    let s = c.args.self.now in
    let t : Core = record {
      nodes = s.nodes.items;
      anchors = s.anchors.items;
      links = s.links.items;
      cited = s.cited.items;
      cells = c.restart.new.self;
      wanted = s.wanted.items;
    } in
    let width : c.restart.new.self.width ≡ length s.nodes.items = omega (arith, c.restart.ensures.width, c.len-count.ensures) in
    let rows : c.restart.new.self.rows ≡ length s.nodes.items + length s.cited.items = omega (arith, c.restart.ensures.rows, c.len-count.ensures) in
    restarted t c.restart.ensures.cells width rows c.requires.table c.requires.few_nodes c.requires.few_cited c.requires.cited_in
    c.requires.few_anchors c.requires.few_links c.requires.anchored c.restart.ensures.empty c.requires.none
