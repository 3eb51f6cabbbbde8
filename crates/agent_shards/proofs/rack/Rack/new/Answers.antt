-- the cells have the numbers of the objects
use Rattle.std.proofs.Common.{◌≡◌, List, length, map, sym, subst, ap, ◌∙◌, arith}
use Rattle.object_core.specs.Numbered.{AreRowsOf}
use Rattle.object_core.specs.Shelving.{HaveOwnNumbers, ObjectFixed, fixed_of, numbers_of}
use Rattle.agent_shards.specs.Objects.{fixed_in}
use Rattle.agent_shards.proofs.Shelves.{opened_fixed, opened_object_count, opened_object_passes}
use Rattle.agent_shards.proofs.rack.Rack.new.Goals as goal

pub invariant_of-result : goal.invariant_of-result
invariant_of-result c =
    let fixed : fixed_in c.in_ok-cells.cells.items ≡ map fixed_of c.args.objects.items = opened_fixed c.args.objects.items c.in_ok-cells.cells.items c.in_ok-cells.passes.items c.in_ok-cells.ensures in
    let given : map fixed_of c.deref.result.now ≡ map fixed_of c.args.objects.items = ap (map fixed_of) c.deref.ensures.value in (
      subst HaveOwnNumbers (sym fixed) c.requires,
      subst (λ (fs : List ObjectFixed). AreRowsOf (numbers_of fs) c.in_ok-rows.rows.items) (given ∙ sym fixed) c.in_ok-rows.ensures.rows,
      c.in_ok-rows.ensures.ascending,
      c.in_ok-room.ensures.items,
      (let n : length c.in_ok-cells.cells.items ≡ length c.args.objects.items = opened_object_count c.args.objects.items c.in_ok-cells.cells.items c.in_ok-cells.passes.items c.in_ok-cells.ensures in
          omega (arith, n, c.in_ok-cells.cells.ok.0, c.args.objects.ok.0, c.in_ok-room.ensures.capacity)),
    )

pub returns-clause-passes : goal.returns-clause-passes
returns-clause-passes c = opened_object_passes c.args.objects.items c.in_ok-cells.cells.items c.in_ok-cells.passes.items c.in_ok-cells.ensures
