use Rattle.std.specs.Arc.{arc_value}
use Rattle.relay_core.proofs.Keeping.{after_put}
use Rattle.relay_core.proofs.opened.keep.Goals as goal

pub returns-in-Ok-try_clone : goal.returns-in-Ok-try_clone
returns-in-Ok-try_clone c =
    after_put c.put.result c.args.certs.now c.put.new.self _ _ c.args.text.now (arc_value c.args.cert.now)
    c.put.ensures.entries c.put.ensures.err (c.in-Ok.ensures.items_if_clones_equal (λ x y e. e)) c.in-Ok-try_clone.ensures
