-- equal certificates stay or go together
use Rattle.std.proofs.Common.{◌&&◌, List, not, sym, ap, ◌∙◌}
use Rattle.stmt_codec.specs.Certificates.{Certificate, certificate}
use Rattle.agent_core.specs.Held.{among}
use Rattle.shard_core.specs.Names.{certs_named}
use Rattle.shard_core.proofs.Among.{among_staying}
use Rattle.shard_core.proofs.held.newness.stays_among.Goals as goal

pub returns-then-not-lets_go : goal.returns-then-not-lets_go
returns-then-not-lets_go c =
    let certs : List Certificate = certs_named c.args.book.now c.args.names.now.items in
    c.is_among.ensures ∙ sym (among_staying c.args.removal.now certs (certificate c.args.cert.now.body) ∙
    ap (λ b. b && among certs (certificate c.args.cert.now.body)) (ap not (sym c.lets_go.ensures ∙ c.if-not-lets_go.true)))

pub returns-else-not-lets_go : goal.returns-else-not-lets_go
returns-else-not-lets_go c =
    let certs : List Certificate = certs_named c.args.book.now c.args.names.now.items in
    ap not c.if-not-lets_go.false ∙ sym (among_staying c.args.removal.now certs (certificate c.args.cert.now.body) ∙
    ap (λ b. b && among certs (certificate c.args.cert.now.body)) (ap not (sym c.lets_go.ensures ∙ c.if-not-lets_go.false)))
