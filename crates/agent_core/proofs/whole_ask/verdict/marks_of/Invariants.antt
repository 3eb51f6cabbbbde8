use Rattle.std.proofs.Common.{◌≡◌, take}
use Rattle.stmt_codec.specs.View.{certificates}
use Rattle.agent_core.specs.Judged.{live_marks}
use Rattle.agent_core.proofs.whole_ask.verdict.marks_of.Given as goal

abbrev pub invariant-loop-cert : goal.invariant-loop-cert
invariant-loop-cert l = l.marks.items ≡ live_marks (certificates (take l.cert-index l.certs)) l.moment
