-- What stands in place of a frame, as `next_frame` tells it.
use Rattle.std.proofs.Common.{◌≡◌, ◌+◌, List, ℕ, take, length, arith, length-take}
use Rattle.frame_link.specs.declared.frame.Next.TheVariants as next
use Rattle.frame_link.specs.Frames.{in_word}
use Rattle.frame_link.proofs.Parts.{is_word, too_long, cut_short, broken_off}
use Rattle.node_commands.proofs.check.frame_of.Goals as goal

pub returns-then-have-lt4-clause-taken : goal.returns-then-have-lt4-clause-taken
returns-then-have-lt4-clause-taken g c =
    let part : List ℕ = take c.in-Ok.have c.fill.new.room in
    let len : length part ≡ c.in-Ok.have = omega (arith, length-take c.in-Ok.have c.fill.new.room, c.if-have-lt4.true) in
    (next.Truncated c.in-Ok.have, tt, (part, in_word (omega (arith, len, c.if-have-lt4.true)), len, omega (arith, c.in-Ok.have-test), c.in-Ok.ensures.bytes, c.in-Ok.ensures.end (omega (arith, c.if-have-lt4.true))))

pub returns-then-length-limit-clause-taken : goal.returns-then-length-limit-clause-taken
returns-then-length-limit-clause-taken g c =
    let n = c.length_of-length.result in
    let word = is_word n c.in-Ok.have c.fill.new.room (g.I.Source.shown c.args.input.now) (g.I.Source.shown c.fill.new.source) c.if-have-lt4.false (omega arith) (omega arith) c.length_of-length.ensures c.in-Ok.ensures.bytes in
    (next.TooLong n, tt, too_long c.args.limit n (g.I.Source.shown c.args.input.now) (g.I.Source.shown c.fill.new.source) word c.if-length-limit.true)

pub returns-then-have-length-clause-taken : goal.returns-then-have-length-clause-taken
returns-then-have-length-clause-taken g c =
    let n = c.length_of-length.result in
    let word = is_word n c.in-Ok.have c.fill.new.room (g.I.Source.shown c.args.input.now) (g.I.Source.shown c.fill.new.source) c.if-have-lt4.false (omega arith) (omega arith) c.length_of-length.ensures c.in-Ok.ensures.bytes in
    let len : length c.fill-2.new.room ≡ n = omega arith in
    (next.Truncated (4 + c.in-Ok-fill.have), tt, cut_short c.args.limit n c.in-Ok-fill.have c.fill-2.new.room (g.I.Source.shown c.args.input.now) (g.I.Source.shown c.fill.new.source) (g.I.Source.shown c.fill-2.new.source) word c.if-length-limit.false len c.if-have-length.true c.in-Ok-fill.ensures.bytes (c.in-Ok-fill.ensures.end (omega (arith, len, c.if-have-length.true))))

pub returns-in-Err-fill-clause-halted : goal.returns-in-Err-fill-clause-halted
returns-in-Err-fill-clause-halted g c =
    let n = c.length_of-length.result in
    let word = is_word n c.in-Ok.have c.fill.new.room (g.I.Source.shown c.args.input.now) (g.I.Source.shown c.fill.new.source) c.if-have-lt4.false (omega arith) (omega arith) c.length_of-length.ensures c.in-Ok.ensures.bytes in
    let len : length c.fill-2.new.room ≡ n = omega arith in
    let part = c.in-Err-fill.ensures.part in
    broken_off c.args.limit n part.0 (g.I.Source.shown c.args.input.now) (g.I.Source.shown c.fill.new.source) (g.I.Source.shown c.fill-2.new.source) word c.if-length-limit.false (omega (arith, part.1, len)) part.2
