use Rattle.std.proofs.Common.{◌++◌, not}
use Rattle.stmt_codec.specs.View.{certificates}
use Rattle.agent_core.specs.Held.{among}
use Rattle.shard_core.specs.Kept.{certs_staying}
use Rattle.shard_core.specs.Names.{certs_named}
use Rattle.shard_core.proofs.Firsts.{NonePasses}
use Rattle.shard_core.proofs.shard.keeping.missing.Given as goal

abbrev pub invariant-loop-place : goal.invariant-loop-place
invariant-loop-place l =
    NonePasses (λ x. not (among (certs_staying l.book l.due l.own.items ++ certs_named l.book l.shared.items) x))
    (certificates l.cites) l.place
