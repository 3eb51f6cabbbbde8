use Rattle.std.proofs.Common.{◌≤◌, length, ap, arith, ◌∙◌, le_refl}
use Rattle.prin_term.specs.Principal.{node_count}
use Rattle.prin_term.specs.View.{grant, principal}
use Rattle.taos_saturate.proofs.Gathered.{widens_then, widens_length, widens_named, widens_gathers}
use Rattle.term_pool.proofs.Picking.{few_mapped, map_who, picked-apart}
use Rattle.taos_saturate.proofs.held.Held.gather.Goals as goal

pub returns-clause-gathered : goal.returns-clause-gathered
returns-clause-gathered c =
    let w2 = c.take_certs.ensures.widens in
    let w3 = c.take_term-self.ensures.widens in
    let w4 = c.take_list.ensures.widens in
    let n1 = c.args.self.now.table.nodes.items in
    let n2 = c.take_certs.new.nodes.items in
    let n3 = c.take_term-self.new.nodes.items in
    let n4 = c.take_list.new.nodes.items in
    let s : node_count (principal c.args.subject.now) ≤ 16 = c.requires.askable.subject_fits in
    let certs' : length c.args.certs.now ≤ 64 = few_mapped _ c.args.certs.now 64 c.requires.askable.certs_fit in
    let list' : length c.args.list.now ≤ 8 = few_mapped grant c.args.list.now 8 c.requires.askable.list_fits in
    let w34 = widens_then n2 n3 n4 _ _ 144 w3 w4 (omega (arith, s, list')) in
    let w234 = widens_then n1 n2 n4 _ 144 1168 w2 w34 (omega (arith, certs')) in
    let none = ap length c.requires.nodes in
    record {
      table = w4.table;
      few = omega (arith, w234.few, none);
      few_anchors = omega (arith, ap length c.keep_anchors.ensures.kept, c.requires.askable.anchors_fit);
      cited_in = (widens_gathers n2 n4 144 w34 c.take_certs.new.cited.items _ c.take_certs.ensures.gathers).cited_in;
      few_cited = omega (arith, c.take_certs.ensures.cited_few, certs');
      stated = rw c.deref.ensures.value at c.state_all.ensures.stated;
      subject_in = omega (arith, c.take_term-self.ensures.within, widens_length n3 n4 _ w4);
      list_in = c.take_list.ensures.within;
    }

pub returns-clause-seen_is : goal.returns-clause-seen_is
returns-clause-seen_is c =
    let n2 = c.take_certs.new.nodes.items in
    let n3 = c.take_term-self.new.nodes.items in
    let n4 = c.take_list.new.nodes.items in
    let w34 = widens_then n2 n3 n4 _ _ _ c.take_term-self.ensures.widens c.take_list.ensures.widens (le_refl _) in
    let chosen = (widens_gathers n2 n4 _ w34 c.take_certs.new.cited.items _ c.take_certs.ensures.gathers).chosen_is in
    let subject = widens_named n3 n4 _ c.take_list.ensures.widens c.take_term-self.result c.take_term-self.ensures.within ∙ c.take_term-self.ensures.named_is in
    let list = c.take_list.ensures.named_are ∙ map_who c.args.list.now in
    λ k. record { anchors = c.keep_anchors.ensures.kept k; chosen = chosen k; subject = subject k; list = list k }

pub returns-clause-apart : goal.returns-clause-apart
returns-clause-apart c =
    let n2 = c.take_certs.new.nodes.items in
    let n3 = c.take_term-self.new.nodes.items in
    let n4 = c.take_list.new.nodes.items in
    let w34 = widens_then n2 n3 n4 _ _ _ c.take_term-self.ensures.widens c.take_list.ensures.widens (le_refl _) in
    let chosen = (widens_gathers n2 n4 _ w34 c.take_certs.new.cited.items _ c.take_certs.ensures.gathers).chosen_is in
    rw chosen (λ i j place x y e f. picked-apart 0 _ c.args.chosen.now i j place x y e f)
