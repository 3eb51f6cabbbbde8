use Rattle.std.proofs.Common.{◌≡◌, ap, subst, Option}
use Rattle.std.specs.Prelude.{IfOk}
use Rattle.std.specs.Option.{option_map}
use Rattle.stmt_codec.specs.View.{certificates}
use Rattle.taos_calculus.specs.Tables.{lines_of}
use Rattle.proof_cache.specs.Cached.{cached}
use Rattle.agent_core.specs.State.{Ask}
use Rattle.journal_bytes.specs.Events.{kept_for}
use Rattle.audit_replay.proofs.event.proof_for.Goals as goal

pub returns-in-Some : goal.returns-in-Some
returns-in-Some c =
    subst (λ (o : Option Ask). IfOk c.proof_by.result (λ x. option_map cached x ≡ kept_for o c.args.entry (lines_of c.args.proof) (certificates c.args.cites.items))) c.in-Some.ensures c.proof_by.ensures

pub returns-in-None : goal.returns-in-None
returns-in-None c = ap (λ (o : Option Ask). kept_for o c.args.entry (lines_of c.args.proof) (certificates c.args.cites.items)) c.in-None.ensures
