use Rattle.std.proofs.Common.{◌+◌, ap, length, arith}
use Rattle.std.proofs.lemmas.List.FromFn.{get_or-map-range_with_len, length-map-range_with_len}
use Rattle.taos_drill.specs.Words.{key_at}
use Rattle.taos_drill.proofs.words.key_at.Goals as goal

pub returns : goal.returns
returns c = λ seed lanes is.
    let count = length-map-range_with_len (key_at seed) 0 (lanes + 1) in
    rw is (get_or-map-range_with_len (key_at seed) 0 (lanes + 1) c.args.number c.args.number _ (omega (arith, c.requires, ap length is, count)) (omega arith))
