-- lines prove one fact alone
use Rattle.std.proofs.Common.{◌≡◌, ◌<◌, length, sym, ap, ◌∙◌, subst}
use Rattle.std.specs.Prelude.{IsOk}
use Rattle.std.proofs.lemmas.Bool.{false≢true}
use Rattle.prin_term.specs.View.{principal}
use Rattle.stmt_codec.specs.View.{certificates}
use Rattle.taos_calculus.specs.Rules.{Proves, SpeaksFor}
use Rattle.taos_calculus.specs.Tables.{Parts, lines_of, named}
use Rattle.denial_link.specs.Revived.{claims}
use Rattle.shard_core.proofs.Keepable.{one_proved, proves_as, said_claims}
use Rattle.shard_core.proofs.shard.keepable.is_proof.Goals as goal

pub returns-then-node_is : goal.returns-then-node_is
returns-then-node_is c =
    let cl = claims (certificates c.args.proof.now.cites.items) in
    let parts : Parts = c.args.proof.now.proof.value in
    let left = c.in-Ok.conclusion.left in
    let right = c.in-Ok.conclusion.right in
    let p : Proves c.args.anchors.now cl (lines_of parts) (SpeaksFor (named parts.nodes left) (named parts.nodes right)) =
    rw (c.deref.ensures.value, said_claims c.args.proof.now.cites.items, c.deref-2.ensures) at c.in-Ok.ensures.checked.proves in
    let first : named parts.nodes left ≡ principal c.args.proof.now.subject = ap (λ (x : Parts). named x.nodes left) (sym c.deref-in-Ok.ensures) ∙ (c.node_is.ensures.0 c.if-node_is.true).1 in
    let below : right < length c.deref-then-node_is.result.now.nodes = subst (λ (x : Parts). right < length x.nodes) (c.deref-2.ensures ∙ sym c.deref-then-node_is.ensures) c.in-Ok.ensures.checked.below.1 in (
      λ t. proves_as c.args.anchors.now cl (lines_of parts) (named parts.nodes left) (named parts.nodes right) (principal c.args.proof.now.subject) (principal c.args.proof.now.who) first
          (ap (λ (x : Parts). named x.nodes right) (sym c.deref-then-node_is.ensures) ∙ (c.node_is-then-node_is.ensures.0 t).1) p,
      λ q. c.node_is-then-node_is.ensures.1 (
        below,
        ap (λ (x : Parts). named x.nodes right) c.deref-then-node_is.ensures ∙
            (one_proved c.args.anchors.now cl (lines_of parts) (named parts.nodes left) (named parts.nodes right) (principal c.args.proof.now.subject) (principal c.args.proof.now.who) p q).1,
      ),
    )

pub returns-in-Err : goal.returns-in-Err
returns-in-Err c = (
  λ f. absurd (false≢true f),
  λ p. absurd (false≢true (subst IsOk c.in-Err.is (c.check_proof.ensures.only (principal c.args.proof.now.subject) (principal c.args.proof.now.who)
      (rw (c.deref.ensures.value, c.deref-2.ensures, said_claims c.args.proof.now.cites.items) p)))),
)
