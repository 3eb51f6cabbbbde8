use Rattle.std.proofs.Common.{◌≡◌, ◌≤◌, ℕ, List, Global, false, length, map, ap, arith, le_refl, sym, ◌∙◌}
use Rattle.std.specs.Prelude.{is_ok, replicate, vec_len}
use Rattle.std.proofs.lemmas.List.{length-map}
use Rattle.std.specs.declared.sync.Arc.{Arc}
use Rattle.stmt_codec.specs.declared.cert.Cert.{Cert}
use Rattle.stmt_codec.specs.Certificates.{certificate}
use Rattle.stmt_codec.specs.View.{certificates}
use Rattle.taos_calculus.specs.Question.{claim_of}
use Rattle.prin_term.specs.Principal.{node_count}
use Rattle.prin_term.specs.View.{grant, principal}
use Rattle.taos_calculus.specs.Tables.{IsNodeTable, principals_of}
use Rattle.term_pool.proofs.Picking.{few_mapped, map_who}
use Rattle.goal_search.specs.Taking.{Widens}
use Rattle.goal_search.proofs.Gathered.{widens_then, widens_length, widens_named, widens_holds}
use Rattle.goal_search.proofs.Taken.{count_same, holding_of, list_same, makes_claims, names_same, resized, taken_few}
use Rattle.goal_search.proofs.asked.Asked.gather.Goals as goal

count_of : (certs : List (Arc Cert Global)) → length (certificates certs) ≡ length certs
count_of certs = length-map certs (λ (a : Arc Cert Global). certificate a.value.body)

pub keep_nodes-requires-clause-room : goal.keep_nodes-requires-clause-room
keep_nodes-requires-clause-room c =
    let p3 = c.take_list.new.pool in
    let certs' : length c.args.certs.now ≤ 64 = few_mapped _ c.args.certs.now 64 c.requires.askable.certs_fit in
    let list' : length c.args.list.now ≤ 8 = few_mapped grant c.args.list.now 8 c.requires.askable.list_fits in
    let few : length p3.terms ≤ 1296 =
    taken_few c.args.self.now.pool c.take_certs.new.pool c.take_term-self.new.pool p3 (length c.args.certs.now) (node_count (principal c.args.subject.now)) (length c.args.list.now)
    c.requires.pool c.take_certs.ensures.widens c.take_term-self.ensures.widens c.take_list.ensures.widens certs' c.requires.askable.subject_fits list' in
    let count : length c.nodes.result.now ≡ length p3.terms = count_same p3 c.nodes.result.now c.nodes.ensures.terms in
    omega (arith, few, count, c.args.self.now.search.nodes_room)

pub returns-clause-gathered : goal.returns-clause-gathered
returns-clause-gathered c =
    let p1 = c.take_certs.new.pool in
    let p2 = c.take_term-self.new.pool in
    let p3 = c.take_list.new.pool in
    let nodes = c.keep_nodes.new.kept.items in
    let same : principals_of nodes ≡ p3.terms = ap principals_of c.keep_nodes.ensures.kept ∙ c.nodes.ensures.terms in
    let s : node_count (principal c.args.subject.now) ≤ 16 = c.requires.askable.subject_fits in
    let certs' : length c.args.certs.now ≤ 64 = few_mapped _ c.args.certs.now 64 c.requires.askable.certs_fit in
    let list' : length c.args.list.now ≤ 8 = few_mapped grant c.args.list.now 8 c.requires.askable.list_fits in
    let w13 : Widens p1 p3 144 = widens_then p1 p2 p3 _ _ 144 c.take_term-self.ensures.widens c.take_list.ensures.widens (omega (arith, s, list')) in
    let holds = widens_holds p1 p3 144 w13 c.take_certs.new.held.items _ _ c.take_certs.ensures.holds in
    let count = count_same p3 nodes same in
    let table : IsNodeTable nodes = rw c.keep_nodes.ensures.kept c.nodes.ensures.table in
    let items = resized (is_ok c.resize.result) c.resize.new.self.items c.args.self.now.marks.items (length c.args.taken.now) (vec_len c.args.self.now.marks) c.resize.ensures.items (ap is_ok c.unwrap.ensures) c.requires.marks (omega (arith, c.args.self.now.marks.ok.0)) in
    let kept : c.keep_marks.new.kept.items ≡ c.args.taken.now = c.keep_marks.ensures.kept in
    let count_taken : length c.args.taken.now ≡ length c.take_certs.new.held.items = omega (arith, c.take_certs.ensures.count, c.requires.askable.chosen_fit, count_of c.args.certs.now) in
    record {
      table = table;
      few_nodes = omega (
        arith,
        count,
        taken_few c.args.self.now.pool p1 p2 p3 _ _ _ c.requires.pool c.take_certs.ensures.widens c.take_term-self.ensures.widens c.take_list.ensures.widens certs' s list',
      );
      few_anchors = omega (arith, ap length c.keep_anchors.ensures.kept, c.requires.askable.anchors_fit);
      few_links = omega (arith, c.link_anchors.ensures.few, c.requires.askable.anchors_fit);
      anchored = rw c.keep_anchors.ensures.kept (c.link_anchors.ensures.linked nodes table same);
      none_cited = c.requires.cited;
      none_wanted = c.requires.wanted;
      pooled = same;
      subject_in = omega (arith, c.take_term-self.ensures.within, widens_length p2 p3 _ c.take_list.ensures.widens, count);
      list_in = rw count c.take_list.ensures.within;
      holding = rw kept (holding_of p3 nodes same c.take_certs.new.held.items _ c.args.taken.now c.resize.new.self.items holds (omega (arith, c.take_certs.ensures.count, certs')) count_taken items);
      none_marked = items ∙ ap (λ (n : ℕ). replicate n false) count_taken;
    }

pub returns-clause-about : goal.returns-clause-about
returns-clause-about c =
    let p1 = c.take_certs.new.pool in
    let p2 = c.take_term-self.new.pool in
    let p3 = c.take_list.new.pool in
    let nodes = c.keep_nodes.new.kept.items in
    let same : principals_of nodes ≡ p3.terms = ap principals_of c.keep_nodes.ensures.kept ∙ c.nodes.ensures.terms in
    let w13 = widens_then p1 p2 p3 _ _ _ c.take_term-self.ensures.widens c.take_list.ensures.widens (le_refl _) in
    let holds = widens_holds p1 p3 _ w13 c.take_certs.new.held.items _ _ c.take_certs.ensures.holds in
    let kept : c.keep_marks.new.kept.items ≡ c.args.taken.now = c.keep_marks.ensures.kept in
    let long : length c.take_certs.new.held.items ≡ length (map claim_of (certificates c.args.certs.now)) = c.take_certs.ensures.count ∙ sym (length-map (certificates c.args.certs.now) claim_of ∙ count_of c.args.certs.now) in
    let subject = names_same p3 nodes same c.take_term-self.result ∙
    (widens_named p2 p3 _ c.take_list.ensures.widens c.take_term-self.result c.take_term-self.ensures.within ∙ c.take_term-self.ensures.named_is) in
    let list = list_same p3 nodes same c.take_list.new.numbers.items ∙ (c.take_list.ensures.named_are ∙ map_who c.args.list.now) in
    record {
      anchors_are = c.keep_anchors.ensures.kept;
      claims_are = rw kept (makes_claims p3 nodes same c.take_certs.new.held.items _ c.args.taken.now holds long);
      subject_is = subject;
      list_are = list;
    }
