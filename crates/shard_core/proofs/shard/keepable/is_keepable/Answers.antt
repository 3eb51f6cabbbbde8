-- each part is looked at
use Rattle.std.proofs.Common.{map, sym, ◌∙◌}
use Rattle.std.proofs.lemmas.Bool.{false≢true}
use Rattle.proof_cache.specs.Cached.{cached}
use Rattle.agent_core.specs.Views.{entry_of, plan_of}
use Rattle.shard_core.proofs.Keepable.{keepable_made}
use Rattle.shard_core.proofs.shard.keepable.is_keepable.Goals as goal
use Rattle.shard_core.proofs.shard.keepable.is_keepable.Goals.{then-is_asked, else-is_asked, then-is_proof, else-is_proof}

pub returns-then-are_apart : goal.returns-then-are_apart
returns-then-are_apart c =
    let plan = plan_of c.args.plan.now in
    let begun = rw c.deref-then-are_apart.ensures.value at c.have_begun.ensures.begun plan in
    let only = rw c.deref-then-are_apart.ensures.value at c.have_begun.ensures.only plan in (
      λ t. elim c.if-is_proof.branch [
        | then-is_proof w ↦ elim c.if-is_asked.branch [
          | then-is_asked v ↦
              keepable_made plan (map entry_of c.args.entries.now) c.args.ask c.args.entry (cached c.args.proof.now) (c.is_asked.ensures.0 v.if-is_asked.true)
              (rw (v.deref-then-is_asked.ensures.value, v.deref.ensures) at v.is_proof.ensures.0 (sym v.value-is ∙ w.if-is_proof.true))
              c.args.proof.now.leased
              (rw w.deref-then-is_proof.ensures.value at w.are_apart.ensures.0 (sym w.value-is ∙ c.if-are_apart.true))
              (begun t)
          | else-is_asked v ↦ absurd (false≢true (sym v.if-is_asked.false ∙ sym v.value-is ∙ w.if-is_proof.true))
        ]
        | else-is_proof w ↦ absurd (false≢true (sym w.if-is_proof.false ∙ sym w.value-is ∙ c.if-are_apart.true))
      ],
      λ k. only k.begun,
    )
