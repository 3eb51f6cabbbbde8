use Rattle.std.proofs.Common.{◌+◌, ◌*◌, ◌<◌, ◌≤◌, ◌∷◌, ◌++◌, [], ℕ, List, length, get_or, take, map, ap, ap₂, subst, sym, ◌∙◌, arith, All}
use Rattle.std.specs.Prelude.{is_ok}
use Rattle.std.proofs.lemmas.List.{take_more, map-append, length-map, length-append, get_or-map}
use Rattle.std.proofs.lemmas.List.Elements.{All-push}
use Rattle.prin_term.specs.declared.term.Entry.{Entry}
use Rattle.prin_term.specs.Principal.{Principal, node_count}
use Rattle.prin_term.specs.View.{Grant, grant, principal}
use Rattle.term_pool.proofs.Pushing.{longer}
use Rattle.goal_search.specs.Taking.{principal_at}
use Rattle.goal_search.proofs.Gathered.{widens_then, widens_numbers, widens_map}
use Rattle.goal_search.proofs.gather.take_list.Goals as goal

small_at : (list : List Entry) (i : ℕ) (d : Entry) → All (λ (e : Grant). node_count e.who ≤ 16) (map grant list) → i < length list → node_count (principal (get_or list i d).who) ≤ 16
small_at list i d all h =
    subst (λ (g : Grant). node_count g.who ≤ 16) (get_or-map grant list i d (grant d) h) (all i (grant d) (omega (arith, h, length-map list grant)))

pub take_term-number-requires : goal.take_term-number-requires
take_term-number-requires c =
    let s = small_at c.args.list.now c.loop-i.i c.index-list-i.result c.requires.small (omega arith) in
    omega (arith, s, c.requires.room, c.loop-i.invariant.widens.few, c.loop-i.invariant.widens.room, c.loop-i-test.true)

pub unwrap-requires : goal.unwrap-requires
unwrap-requires c =
    c.push.ensures.succeeds (omega (arith, c.loop-i.invariant.count, c.loop-i.numbers.ok.0, c.requires.numbers_room, c.loop-i.invariant.capacity, c.loop-i-test.true))

pub loop-i-preserved : goal.loop-i-preserved
loop-i-preserved c =
    let inside : c.loop-i.i < length c.args.list.now = omega arith in
    let items = longer (is_ok c.push.result) (c.loop-i.numbers.items ++ c.take_term-number.result ∷ []) c.push.new.self.items c.loop-i.numbers.items c.push.ensures.items (ap is_ok c.unwrap.ensures) in
    let small = small_at c.args.list.now c.loop-i.i c.index-list-i.result c.requires.small inside in
    let same = widens_map c.loop-i.pool c.take_term-number.new.pool _ c.take_term-number.ensures.widens c.loop-i.numbers.items c.loop-i.invariant.within in
    record {
      widens = widens_then c.args.pool.now c.loop-i.pool c.take_term-number.new.pool (16 * c.loop-i.i) _ (16 * (c.loop-i.i + 1)) c.loop-i.invariant.widens c.take_term-number.ensures.widens (omega (arith, small));
      within = rw items (All-push (λ n. n < length c.take_term-number.new.pool.terms) c.loop-i.numbers.items c.take_term-number.result
          (widens_numbers c.loop-i.pool c.take_term-number.new.pool _ c.take_term-number.ensures.widens c.loop-i.numbers.items c.loop-i.invariant.within) c.take_term-number.ensures.within);
      named_are = ap (map (principal_at c.take_term-number.new.pool)) items ∙ map-append (principal_at c.take_term-number.new.pool) c.loop-i.numbers.items (c.take_term-number.result ∷ []) ∙
          ap₂ (λ (xs ys : List Principal). xs ++ ys) (same ∙ c.loop-i.invariant.named_are) (ap (λ (p : Principal). p ∷ []) c.take_term-number.ensures.named_is) ∙
          sym (ap (map (λ (e : Entry). principal e.who)) (take_more c.args.list.now c.loop-i.i c.index-list-i.result inside) ∙
          map-append (λ (e : Entry). principal e.who) (take c.loop-i.i c.args.list.now) (get_or c.args.list.now c.loop-i.i c.index-list-i.result ∷ []));
      count = omega (arith, ap length items, length-append c.loop-i.numbers.items (c.take_term-number.result ∷ []), c.loop-i.invariant.count);
      capacity = omega (arith, c.loop-i.invariant.capacity, c.push.ensures.capacity);
    }
