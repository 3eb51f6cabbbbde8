use Rattle.std.specs.List.{All}
use Rattle.std.proofs.Common.{take}
use Rattle.stmt_codec.specs.Certificates.{IsLive}
use Rattle.stmt_codec.specs.View.{certificate_of}
use Rattle.agent_core.proofs.whole_ask.verdict.are_live.Given as goal

-- those that were looked at are live
abbrev pub invariant-loop-cert : goal.invariant-loop-cert
invariant-loop-cert l = All (λ x. IsLive l.moment (certificate_of x)) (take l.cert-index l.certs)
