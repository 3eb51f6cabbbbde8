-- Proofs that are kept, as mathematics has them.
use Rattle.std.specs.Prelude.{ℕ, List}
use Rattle.prin_term.specs.Principal.{Principal}
use Rattle.prin_term.specs.View.{principal}
use Rattle.stmt_codec.specs.Certificates.{Certificate}
use Rattle.stmt_codec.specs.View.{certificates}
use Rattle.taos_calculus.specs.Rules.{Line}
use Rattle.taos_calculus.specs.Tables.{lines_of}
use Rattle.std.specs.Arc.{arc_value}
pub use Rattle.proof_cache.specs.Lease.{lease_of}
use Rattle.proof_cache.specs.declared.cached.Cached.{Cached as CachedValue}

-- a proof that its subject speaks for someone, with what it cites and the moment at which it ends
pub record Cached : Type 0 where
  pub subject : Principal
  -- for whom the subject speaks
  pub who : Principal
  -- the lines that prove it
  pub proof : List Line
  -- the certificates that the proof cites, in order
  pub cites : List Certificate
  -- the moment at which it ends, in the unit of the service's clock
  pub lease : ℕ

-- what a kept proof of the program means, wherever its parts lie
abbrev pub cached : CachedValue → Cached
cached c = record {
  subject = principal c.subject;
  who = principal c.who;
  proof = lines_of (arc_value c.proof);
  cites = certificates c.cites.items;
  lease = c.lease;
}
