use Rattle.std.proofs.Common.{subst, sym, inl, inr}
use Rattle.cred_pull.specs.WalletView.{IsWalletFault}
use Rattle.cred_pull.proofs.Causes.{wallet_fault}
use Rattle.cred_pull.proofs.wallet_reading.read_wallet.Goals as goal

-- what is refused is refused for a cause of wallet files
pub wallet_fault-requires : goal.wallet_fault-requires
wallet_fault-requires c = elim c.in-Err.ensures.exact [
  | inl want ↦ subst IsWalletFault (sym want) tt
  | inr refused ↦ wallet_fault c.args.bytes.now c.in-Err.fault refused
]
