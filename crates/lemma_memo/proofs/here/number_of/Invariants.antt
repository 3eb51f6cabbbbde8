use Rattle.std.proofs.Common.{◌≢◌, ℕ, ◌<◌, slice_get, Some}
use Rattle.stmt_codec.specs.Certificates.{certificate}
use Rattle.stmt_codec.specs.View.{certificates}
use Rattle.lemma_memo.proofs.here.number_of.Given as goal

-- none of those that were looked at is the certificate
abbrev pub invariant-loop-number : goal.invariant-loop-number
invariant-loop-number l = (k : ℕ) → k < l.number → slice_get (certificates l.commons) k ≢ Some (certificate l.cert.body)
