use Rattle.std.proofs.Common.{◌≡◌, ◌++◌, List, [], ℕ, sym, ap, subst, ◌∙◌}
use Rattle.sealed_cert.specs.declared.kind.TheConstants.{RELAYED}
use Rattle.sealed_cert.specs.Seals.{sealed}
use Rattle.stmt_codec.specs.Certificates.{Certificate, certificate}
use Rattle.taos_wire.specs.Request.{IsCertText}
use Rattle.taos_drill.specs.Sent.{drill_certificate}
use Rattle.taos_drill.proofs.Asking.{certificate_text}
use Rattle.taos_drill.proofs.caller.Caller.of.Goals as goal

-- what was appended to nothing is a certificate's text
sealed_text : (key new started : List ℕ) (c : Certificate) (channel : ℕ) → new ≡ started ++ sealed RELAYED key c → started ≡ [] → c ≡ drill_certificate channel → IsCertText new
sealed_text key new started c channel is empty same =
    let whole : new ≡ sealed RELAYED key (drill_certificate channel) = is ∙ ap (λ (l : List ℕ). l ++ sealed RELAYED key c) empty ∙ ap (sealed RELAYED key) same in
    subst IsCertText (sym whole) (certificate_text key channel)

pub returns-clause-text : goal.returns-clause-text
returns-clause-text c =
    sealed_text c.args.relay_key.now c.seal_relayed.new.out.items c.new-cert.result.items (certificate c.body_of.result) c.args.channel c.in_ok-seal_relayed.ensures.appends.ok c.new-cert.ensures.items c.body_of.ensures
