use Rattle.std.proofs.Common.{◌≡◌, List, Some, sym, ap, subst, ◌∙◌}
use Rattle.std.proofs.lemmas.Option.{same_Some}
use Rattle.agent_shards.specs.Cells.{shares_of}
use Rattle.agent_shards.specs.Shards.{ArePasses, ShardCell}
use Rattle.agent_shards.specs.Objects.{AreObjectPasses, ObjectCell}
use Rattle.taos_lanes.specs.declared.lane.Stock.{Stock}
use Rattle.taos_lanes.proofs.Sat.{seat_is, shelf_is, serves_at}
use Rattle.taos_lanes.proofs.sitting.serve_lane.Goals as goal

pub returns : goal.returns
returns g c =
    let new : Stock = record { passes = c.rise.result; racked = c.rise-2.result; bench = c.serve_seats-tally.new.bench; tally = c.serve_seats-tally.result } in
    let had : (g.L.Worker.shown c.args.lane.now).work ≡ Some c.unwrap-passes.result = sym c.exchange.ensures.gives ∙ c.unwrap-passes.ensures in
    let same : c.requires.stocked.stock ≡ c.unwrap-passes.result = same_Some _ _ (sym c.requires.stocked.is ∙ had) in
    let shards_at = c.rise.ensures.agent ∙ sym c.requires.agent in
    let objects_at = c.rise-2.ensures.rack ∙ sym c.requires.rack in
    record {
      old = c.unwrap-passes.result;
      new = new;
      had = had;
      has = c.exchange-2.ensures.has;
      of = record {
        shards = subst (λ (l : List ShardCell). ArePasses l c.rise.result) shards_at c.rise.ensures.of;
        objects = subst (λ (l : List ObjectCell). AreObjectPasses l c.rise-2.result) objects_at c.rise-2.ensures.of;
      };
      shares = record {
        shards = c.rise.ensures.shares ∙ (sym c.requires.stocked.shards_shared ∙ ap (λ (s : Stock). shares_of s.passes) same);
        objects = c.rise-2.ensures.shares ∙ (sym c.requires.stocked.objects_shared ∙ ap (λ (s : Stock). shares_of s.racked) same);
      };
      serves = serves_at _ c.args.shared.now.keys.now c.args.shared.now.pulls _ _ _ _ _ _ _ _ _ _ _ c.unwrap-passes.result new c.exchange.ensures.rest c.exchange-2.ensures.rest
          (seat_is _ _ _ c.sit-shards.ensures.cells c.sit-shards.ensures.passes)
          (seat_is _ _ _ shards_at (sym c.rise.ensures.passes))
          (shelf_is _ _ _ c.sit-shelf.ensures.cells c.sit-shelf.ensures.passes c.sit-shelf.ensures.taken)
          (shelf_is _ _ _ objects_at (sym c.rise-2.ensures.passes) c.serve_seats-tally.ensures.taken)
          c.serve_seats-tally.ensures.served.serves;
    }
