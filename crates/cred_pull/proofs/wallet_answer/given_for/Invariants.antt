use Rattle.std.proofs.Common.{◌≡◌, map, take}
use Rattle.cred_pull.specs.WalletServing.{given_for}
use Rattle.cred_pull.specs.WalletView.{row_of}
use Rattle.cred_pull.proofs.wallet_answer.given_for.Given as goal

-- those that the lines before the place give
abbrev pub invariant-loop-line : goal.invariant-loop-line
invariant-loop-line l = map (λ t. t.now) l.certs.items ≡ given_for (map row_of (take l.line-index l.lines)) l.channel
