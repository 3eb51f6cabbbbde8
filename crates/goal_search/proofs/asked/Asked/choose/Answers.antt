use Rattle.std.proofs.Common.{◌≡◌, ◌↔◌, ◌<◌, Bool, List, Some, true, set, length, slice_get, Contains, sym, ap, subst, ◌∙◌, arith, rules}
use Rattle.std.specs.Prelude.{IsTrue}
use Rattle.std.specs.Vec.{with_item}
use Rattle.std.proofs.lemmas.Option.{slice_get-get_or, slice_get_within}
use Rattle.taos_calculus.specs.declared.line.Node.{Node}
use Rattle.taos_calculus.specs.Tables.{principals_of}
use Rattle.term_pool.specs.declared.cited.Cited.{Cited}
use Rattle.goal_search.specs.Asked.{IsHolding, IsMarked}
use Rattle.goal_search.specs.Searching.{core, IsSettled}
use Rattle.goal_search.proofs.Answered.{choose_few, chosen_marked, chosen_once, holding_chosen}
use Rattle.goal_search.proofs.asked.Asked.choose.Goals as goal
use Rattle.goal_search.proofs.asked.Asked.choose.Goals.{then-self, else-self}

pub add_cert-requires-clause-few : goal.add_cert-requires-clause-few
add_cert-requires-clause-few c =
    let held = c.args.self.now.held.items in
    let inside : c.args.place < length held = omega (arith, slice_get_within c.args.self.now.taken.items c.args.place _ c.requires.taken, c.requires.asked.holding.count) in
    let stands : slice_get held c.args.place ≡ Some c.index-it.result.now = slice_get-get_or held c.args.place c.index-it.result.now inside ∙ ap (λ (x : Cited). Some x) (sym c.index-it.ensures) in
    choose_few c.args.self.now c.args.place c.index-it.result.now c.requires.asked stands c.requires.new c.requires.taken

pub returns-clause-asked : goal.returns-clause-asked
returns-clause-asked c =
    let a = c.args.self.now in
    let asked = c.requires.asked in
    let it : Cited = c.index-it.result.now in
    let nodes = c.add_cert.ensures.nodes in
    let cited = c.add_cert.ensures.cited in
    let inside : c.args.place < length a.held.items = omega (arith, slice_get_within a.taken.items c.args.place _ c.requires.taken, asked.holding.count) in
    let stands : slice_get a.held.items c.args.place ≡ Some it = slice_get-get_or a.held.items c.args.place it inside ∙ ap (λ (x : Cited). Some x) (sym c.index-it.ensures) in
    let marks : (with_item a.marks c.args.place true).items ≡ set a.marks.items c.args.place true = search rules in
    let settled : IsTrue c.if-self.settled → IsSettled (core c.add_cert.new.self) = λ t.
    elim c.if-self.branch [
      | then-self w ↦ c.add_cert.ensures.settled (asked.settled w.if-self.true) (w.has_followed-settled.ensures (sym w.settled-is ∙ t))
      | else-self w ↦ absurd (cc)
    ]
    in
    let chosen : (x : Cited) → Contains c.add_cert.new.self.cited.items x ↔ IsMarked a.held.items (set a.marks.items c.args.place true) x
    = subst (λ (cs : List Cited). (x : Cited) → Contains cs x ↔ IsMarked a.held.items (set a.marks.items c.args.place true) x) (sym cited)
    (chosen_marked a c.args.place it asked stands c.requires.new c.requires.taken) in
    record {
      ready = c.add_cert.ensures.ready;
      pooled = ap principals_of nodes ∙ asked.pooled;
      subject_in = rw nodes asked.subject_in;
      list_in = rw nodes asked.list_in;
      holding = subst (λ (ms : List Bool). IsHolding (length c.add_cert.new.self.nodes.items) a.held.items a.taken.items ms) (sym marks)
          (subst (λ (ns : List Node). IsHolding (length ns) a.held.items a.taken.items (set a.marks.items c.args.place true)) (sym nodes)
          (holding_chosen a c.args.place it asked stands c.requires.new c.requires.taken));
      chosen = subst (λ (ms : List Bool). (x : Cited) → Contains c.add_cert.new.self.cited.items x ↔ IsMarked a.held.items ms x) (sym marks) chosen;
      once = rw cited (chosen_once a c.args.place it asked stands c.requires.new c.requires.taken);
      settled = settled;
    }
