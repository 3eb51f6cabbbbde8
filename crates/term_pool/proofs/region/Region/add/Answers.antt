use Rattle.std.proofs.Common.{◌≡◌, ◌+◌, ◌∷◌, ◌++◌, [], ◌∙◌, length, slice_index, arith, ap, sym}
use Rattle.std.specs.Prelude.{is_ok}
use Rattle.std.proofs.lemmas.List.{get_or_default, length-append}
use Rattle.term_pool.proofs.Filed.{filed_more}
use Rattle.term_pool.proofs.Interned.{taken_new}
use Rattle.term_pool.proofs.Pushing.{longer}
use Rattle.term_pool.proofs.region.Region.add.Goals as goal

pub returns-clause-region : goal.returns-clause-region
returns-clause-region c =
    let old = c.args.self.now in
    let nodes = longer (is_ok c.push-2.result) (old.nodes.items ++ c.args.node ∷ []) c.push-2.new.self.items old.nodes.items c.push-2.ensures.items (ap is_ok c.unwrap-2.ensures) in
    let count : c.len.result ≡ length old.heads.items = c.len.ensures ∙ old.heads.ok.0 in
    let at_is = rw count at c.bucket-at.ensures.bucket in
    let at_in = rw count at c.bucket-at.ensures.within in
    let head : c.index.result.now ≡ slice_index old.heads.items c.bucket-at.result
    = c.index.ensures ∙ sym (get_or_default old.heads.items c.bucket-at.result 0 c.index.result.now at_in) in
    let links = longer (is_ok c.push.result) (old.links.items ++ c.index.result.now ∷ []) c.push.new.self.items old.links.items c.push.ensures.items (ap is_ok c.unwrap.ensures) in
    let long = length-append old.nodes.items (c.args.node ∷ []) in
    let len : c.len-2.result ≡ length old.nodes.items + 1 = omega (arith, c.len-2.ensures, c.push-2.new.self.ok.0, ap length nodes, long) in
    record {
      filed = rw (nodes, links, head, len) (filed_more old.nodes.items old.links.items old.heads.items c.requires.region.filed c.args.node c.bucket-at.result at_is at_in);
      table = rw nodes (taken_new old.nodes.items c.requires.region.table c.args.node c.requires.operands c.requires.new).table;
      few = omega (arith, ap length nodes, long, c.requires.room);
      small = c.requires.region.small;
      node_room = omega (arith, c.requires.region.node_room, c.push-2.ensures.capacity);
      link_room = omega (arith, c.requires.region.link_room, c.push.ensures.capacity);
    }
