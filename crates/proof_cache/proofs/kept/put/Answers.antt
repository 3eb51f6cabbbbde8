-- there is room for one more
use Rattle.std.proofs.Common.{arith}
use Rattle.std.proofs.lemmas.List.{length-map}
use Rattle.proof_cache.specs.Cache.{kept}
use Rattle.proof_cache.proofs.Rows.{few_taken}
use Rattle.proof_cache.proofs.kept.put.Goals as goal

pub unwrap-requires : goal.unwrap-requires
unwrap-requires c =
    let few = few_taken 63 _ _ c.make_room.ensures.left in
    c.insert.ensures.succeeds (omega (
      arith,
      few,
      length-map c.make_room.new.rows.items kept,
      c.make_room.ensures.capacity,
      c.requires.room,
    ))
