use Rattle.std.proofs.Common.{◌≤◌, ◌+◌, ◌++◌, length, sym, subst, ◌∙◌}
use Rattle.prin_term.specs.Principal.{Principal}
use Rattle.prin_term.specs.View.{principal}
use Rattle.stmt_codec.specs.Certificates.{certificate}
use Rattle.taos_calculus.specs.Canonical.{post_order}
use Rattle.stmt_codec.specs.Distinct.{met}
use Rattle.taos_calculus.specs.Tables.{principals_of}
use Rattle.term_pool.specs.Interning.{Fits}
use Rattle.term_pool.proofs.Few.{cert_few}
use Rattle.term_pool.proofs.Interned.{fits_front, fits_next}
use Rattle.taos_saturate.proofs.Gathered.{cert_fits, second_fits, all_taken, three_within, three_named, widens_taken}
use Rattle.taos_saturate.proofs.gather.take_cert.Goals as goal

pub intern-speaker-requires-clause-fits : goal.intern-speaker-requires-clause-fits
intern-speaker-requires-clause-fits c =
    let body = c.args.cert.now.body in
    let sp = principal c.args.cert.now.speaker in
    let l = principal body.statement.left in
    let r = principal body.statement.right in
    let all : Fits c.args.nodes.now.items (post_order sp ++ post_order l ++ post_order r)
    = subst (λ (p : Principal). Fits c.args.nodes.now.items (post_order p ++ post_order l ++ post_order r)) (sym c.args.cert.now.speaks) (cert_fits c.args.nodes.now.items (certificate body) c.args.cert.now.limits c.requires.room) in
    fits_front c.args.nodes.now.items (post_order sp) (post_order l) (fits_front c.args.nodes.now.items (post_order sp ++ post_order l) (post_order r) all)

pub intern-left-requires-clause-fits : goal.intern-left-requires-clause-fits
intern-left-requires-clause-fits c =
    let body = c.args.cert.now.body in
    let sp = principal c.args.cert.now.speaker in
    let l = principal body.statement.left in
    let r = principal body.statement.right in
    let all : Fits c.args.nodes.now.items (post_order sp ++ post_order l ++ post_order r)
    = subst (λ (p : Principal). Fits c.args.nodes.now.items (post_order p ++ post_order l ++ post_order r)) (sym c.args.cert.now.speaks) (cert_fits c.args.nodes.now.items (certificate body) c.args.cert.now.limits c.requires.room) in
    fits_front c.intern-speaker.new.nodes.items (post_order l) (post_order r) (second_fits c.args.nodes.now.items c.intern-speaker.new.nodes.items sp l r c.intern-speaker.result c.intern-speaker.ensures.taken all)

pub intern-right-requires-clause-fits : goal.intern-right-requires-clause-fits
intern-right-requires-clause-fits c =
    let body = c.args.cert.now.body in
    let sp = principal c.args.cert.now.speaker in
    let l = principal body.statement.left in
    let r = principal body.statement.right in
    let all : Fits c.args.nodes.now.items (post_order sp ++ post_order l ++ post_order r)
    = subst (λ (p : Principal). Fits c.args.nodes.now.items (post_order p ++ post_order l ++ post_order r)) (sym c.args.cert.now.speaks) (cert_fits c.args.nodes.now.items (certificate body) c.args.cert.now.limits c.requires.room) in
    fits_next c.intern-speaker.new.nodes.items c.intern-left.new.nodes.items (post_order l) l c.intern-left.result c.intern-left.ensures.taken (post_order r)
    (second_fits c.args.nodes.now.items c.intern-speaker.new.nodes.items sp l r c.intern-speaker.result c.intern-speaker.ensures.taken all)

pub returns-clause-widens : goal.returns-clause-widens
returns-clause-widens c =
    let body = c.args.cert.now.body in
    let sp = principal c.args.cert.now.speaker in
    let l = principal body.statement.left in
    let r = principal body.statement.right in
    let few : _ ≤ length (principals_of c.args.nodes.now.items) + 16
    = subst (λ (p : Principal). length (met (principals_of c.args.nodes.now.items) (post_order p ++ post_order l ++ post_order r)) ≤ length (principals_of c.args.nodes.now.items) + 16) (sym c.args.cert.now.speaks)
    (cert_few (principals_of c.args.nodes.now.items) (certificate body) c.args.cert.now.limits) in
    widens_taken c.args.nodes.now.items c.intern-right.new.nodes.items (post_order sp ++ post_order l ++ post_order r) r c.intern-right.result 16
    (all_taken c.args.nodes.now.items c.intern-speaker.new.nodes.items c.intern-left.new.nodes.items c.intern-right.new.nodes.items sp l r c.intern-speaker.result c.intern-left.result c.intern-right.result
    c.intern-speaker.ensures.taken c.intern-left.ensures.taken c.intern-right.ensures.taken) few

pub returns-clause-within : goal.returns-clause-within
returns-clause-within c =
    let body = c.args.cert.now.body in
    let in3 = three_within c.args.nodes.now.items c.intern-speaker.new.nodes.items c.intern-left.new.nodes.items c.intern-right.new.nodes.items
    (principal c.args.cert.now.speaker) (principal body.statement.left) (principal body.statement.right) c.intern-speaker.result c.intern-left.result c.intern-right.result
    c.intern-speaker.ensures.taken c.intern-left.ensures.taken c.intern-right.ensures.taken in
    record { speaker = in3.0; left = in3.1; right = in3.2 }

pub returns-clause-claim : goal.returns-clause-claim
returns-clause-claim c =
    let body = c.args.cert.now.body in
    let n3 = three_named c.args.nodes.now.items c.intern-speaker.new.nodes.items c.intern-left.new.nodes.items c.intern-right.new.nodes.items
    (principal c.args.cert.now.speaker) (principal body.statement.left) (principal body.statement.right) c.intern-speaker.result c.intern-left.result c.intern-right.result
    c.intern-speaker.ensures.taken c.intern-left.ensures.taken c.intern-right.ensures.taken in
    let who = n3.0 ∙ c.args.cert.now.speaks in
    λ k. record { speaker = who k; left = n3.1 k; right = n3.2 k }
