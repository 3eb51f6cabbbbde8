use Rattle.std.proofs.Common.{◌≤◌, ◌+◌, ◌++◌, length, ◌∙◌}
use Rattle.prin_term.specs.View.{principal}
use Rattle.stmt_codec.specs.Certificates.{certificate}
use Rattle.stmt_codec.specs.Distinct.{met}
use Rattle.taos_calculus.specs.Canonical.{post_order}
use Rattle.term_pool.proofs.Few.{cert_few}
use Rattle.goal_search.proofs.Gathered.{room_speaker, room_left, room_right, all_met, same_room, three_within, three_named, widens_met}
use Rattle.goal_search.proofs.gather.take_cert.Goals as goal

pub intern-speaker-requires : goal.intern-speaker-requires
intern-speaker-requires c =
    rw c.args.cert.now.speaks (room_speaker c.args.pool.now.terms (certificate c.args.cert.now.body) c.args.cert.now.limits c.args.pool.now.room c.requires.room)

pub intern-left-requires : goal.intern-left-requires
intern-left-requires c =
    rw (c.intern-speaker.ensures.terms, c.intern-speaker.ensures.room, c.args.cert.now.speaks)
    (room_left c.args.pool.now.terms (certificate c.args.cert.now.body) c.args.cert.now.limits c.args.pool.now.room c.requires.room)

pub intern-right-requires : goal.intern-right-requires
intern-right-requires c =
    rw (c.intern-left.ensures.terms, c.intern-left.ensures.room, c.intern-speaker.ensures.terms, c.intern-speaker.ensures.room, c.args.cert.now.speaks)
    (room_right c.args.pool.now.terms (certificate c.args.cert.now.body) c.args.cert.now.limits c.args.pool.now.room c.requires.room)

pub returns-clause-widens : goal.returns-clause-widens
returns-clause-widens c =
    let body = c.args.cert.now.body in
    let sp = principal c.args.cert.now.speaker in
    let l = principal body.statement.left in
    let r = principal body.statement.right in
    let few : length (met c.args.pool.now.terms (post_order sp ++ post_order l ++ post_order r)) ≤ length c.args.pool.now.terms + 16
    = rw c.args.cert.now.speaks (cert_few c.args.pool.now.terms (certificate body) c.args.cert.now.limits) in
    widens_met c.args.pool.now c.intern-right.new.self (post_order sp ++ post_order l ++ post_order r) 16
    (all_met c.args.pool.now c.intern-speaker.new.self c.intern-left.new.self c.intern-right.new.self sp l r c.intern-speaker.result c.intern-left.result c.intern-right.result
    c.intern-speaker.ensures c.intern-left.ensures c.intern-right.ensures)
    (same_room c.args.pool.now c.intern-speaker.new.self c.intern-left.new.self c.intern-right.new.self sp l r c.intern-speaker.result c.intern-left.result c.intern-right.result
    c.intern-speaker.ensures c.intern-left.ensures c.intern-right.ensures) few

pub returns-clause-within : goal.returns-clause-within
returns-clause-within c =
    let body = c.args.cert.now.body in
    let in3 = three_within c.args.pool.now c.intern-speaker.new.self c.intern-left.new.self c.intern-right.new.self
    (principal c.args.cert.now.speaker) (principal body.statement.left) (principal body.statement.right) c.intern-speaker.result c.intern-left.result c.intern-right.result
    c.intern-speaker.ensures c.intern-left.ensures c.intern-right.ensures in
    record { speaker = in3.0; left = in3.1; right = in3.2 }

pub returns-clause-claim : goal.returns-clause-claim
returns-clause-claim c =
    let body = c.args.cert.now.body in
    let n3 = three_named c.args.pool.now c.intern-speaker.new.self c.intern-left.new.self c.intern-right.new.self
    (principal c.args.cert.now.speaker) (principal body.statement.left) (principal body.statement.right) c.intern-speaker.result c.intern-left.result c.intern-right.result
    c.intern-speaker.ensures c.intern-left.ensures c.intern-right.ensures in
    let who = n3.0 ∙ c.args.cert.now.speaks in
    λ k. record { speaker = who k; left = n3.1 k; right = n3.2 k }
