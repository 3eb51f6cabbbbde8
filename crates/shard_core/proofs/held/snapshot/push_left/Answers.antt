-- one more handle is one more certificate, where it stays
use Rattle.std.proofs.Common.{◌≡◌, ◌<◌, ◌++◌, List, length, not, sym, ap, ◌∙◌, arith}
use Rattle.stmt_codec.specs.declared.cert.Cert.{Cert}
use Rattle.stmt_codec.specs.Certificates.{Certificate, certificate}
use Rattle.stmt_codec.specs.View.{certificates}
use Rattle.shard_core.specs.Kept.{stays}
use Rattle.shard_core.specs.Names.{named}
use Rattle.agent_core.proofs.Snapshots.{gathered_passing, gathered_not}
use Rattle.shard_core.proofs.held.snapshot.push_left.Goals as goal
use Rattle.shard_core.proofs.held.snapshot.push_left.Goals.{then-not-lets_go+in_ok-try_clone+in_ok-push, else-not-lets_go}

pub loop-at-preserved : goal.loop-at-preserved
loop-at-preserved c =
    let here = rw c.as_slice.ensures.value at c.cert_named-cert.ensures in
    let lt : c.loop-at.at < length c.args.names.now.items = omega arith in
    let left : stays c.args.removal.now (certificate c.cert_named-cert.result.now.value.body) ≡ not c.lets_go.result =
    ap (λ (x : Cert). stays c.args.removal.now (certificate x.body)) (sym c.deref.ensures) ∙ ap not (sym c.lets_go.ensures) in
    elim c.if-not-lets_go.branch [
      | then-not-lets_go+in_ok-try_clone+in_ok-push w ↦
          gathered_passing (named c.args.book.now) c.args.names.now.items c.loop-at.at _ _ lt here (stays c.args.removal.now)
          c.args.out.now.items c.loop-at.out.items c.if-not-lets_go.out.items w.in_ok-try_clone.field-0
          (ap (λ (x : Cert). certificate x.body) w.in_ok-try_clone.ensures) (left ∙ ap not w.if-not-lets_go.true) c.loop-at.invariant (ap (λ v. v.items) w.out-is ∙ w.in_ok-push.ensures.items)
      | else-not-lets_go w ↦
          ap (λ v. certificates v.items) w.out-is ∙ c.loop-at.invariant ∙
          ap (λ (cs : List Certificate). certificates c.args.out.now.items ++ cs)
          (sym (gathered_not (named c.args.book.now) c.args.names.now.items c.loop-at.at _ _ lt here (stays c.args.removal.now) (left ∙ ap not w.if-not-lets_go.false)))
    ]
