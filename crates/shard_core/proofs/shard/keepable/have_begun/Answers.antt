-- one that had not begun is among them
use Rattle.std.proofs.Common.{map, refl, arith, Global}
use Rattle.std.specs.declared.sync.Arc.{Arc}
use Rattle.std.proofs.lemmas.List.{length-map}
use Rattle.stmt_codec.specs.declared.cert.Cert.{Cert}
use Rattle.stmt_codec.specs.Certificates.{certificate}
use Rattle.stmt_codec.specs.View.{certificates}
use Rattle.agent_core.specs.Journals.{moment_at}
use Rattle.agent_core.specs.Views.{entry_of}
use Rattle.shard_core.proofs.Keepable.{begun_more}
use Rattle.shard_core.proofs.shard.keepable.have_begun.Goals as goal

pub returns-then-not-has_begun-clause-only : goal.returns-then-not-has_begun-clause-only
returns-then-not-has_begun-clause-only c = λ plan all.
    (c.if-not-has_begun.ensures plan).1 (λ d. all c.loop-place.place d (omega (arith, length-map c.args.cites.now (λ (x : Arc Cert Global). certificate x.value.body))))

pub loop-place-preserved : goal.loop-place-preserved
loop-place-preserved c = λ plan.
    begun_more (certificates c.args.cites.now) (moment_at plan (map entry_of c.args.entries.now) c.args.ask) c.loop-place.place (c.loop-place.invariant plan) ((c.if-not-has_begun.ensures plan).0 refl)
