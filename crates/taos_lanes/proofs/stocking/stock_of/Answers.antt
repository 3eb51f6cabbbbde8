use Rattle.taos_lanes.proofs.Joined.{gives_share}
use Rattle.taos_lanes.proofs.stocking.stock_of.Goals as goal

pub returns-clause-stock : goal.returns-clause-stock
returns-clause-stock c =
    let shards = gives_share _ _ _ _ _ c.in_ok-seat.ensures.split c.requires.kept.shards_fresh c.requires.kept.shards_left in
    let objects = gives_share _ _ _ _ _ c.in_ok-seat-2.ensures.split c.requires.kept.objects_fresh c.requires.kept.objects_left in
    record {
      one = record {
        of = record { shards = c.in_ok-seat.ensures.given; objects = c.in_ok-seat-2.ensures.given };
        shards = shards.one;
        objects = objects.one;
      };
      shards_fresh = shards.given_fresh;
      objects_fresh = objects.given_fresh;
    }

pub returns-clause-kept : goal.returns-clause-kept
returns-clause-kept c =
    let shards = gives_share _ _ _ _ _ c.in_ok-seat.ensures.split c.requires.kept.shards_fresh c.requires.kept.shards_left in
    let objects = gives_share _ _ _ _ _ c.in_ok-seat-2.ensures.split c.requires.kept.objects_fresh c.requires.kept.objects_left in
    record {
      of = record { shards = c.in_ok-seat.ensures.passes; objects = c.in_ok-seat-2.ensures.passes };
      shards_fresh = shards.kept_fresh;
      objects_fresh = objects.kept_fresh;
      shards_left = shards.left;
      objects_left = objects.left;
    }
