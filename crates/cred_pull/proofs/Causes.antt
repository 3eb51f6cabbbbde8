-- The causes for which a wallet file is refused.
use Rattle.std.proofs.Common.{◌≡◌, ℕ, List, [], length, Result, Err, refl, subst, inl, inr, Some, None, cond}
use Rattle.std.specs.Prelude.{bytes_eq, codes, nat_lt, nat_le}
use Rattle.byte_fields.proofs.Results.{chosen, err_is}
use Rattle.prin_text.specs.declared.lines.fault.FileCause.{FileCause}
use Rattle.prin_text.specs.declared.lines.fault.FileCause.TheVariants.{UnknownWord, Limit}
use Rattle.prin_text.specs.declared.lines.fault.FileFault.{FileFault}
use Rattle.prin_text.specs.declared.lines.fault.FileFault.TheVariants.{Line}
use Rattle.prin_text.specs.Fields.{numbered_digits}
use Rattle.prin_text.specs.FileLines.{file_makes, is_first_line}
use Rattle.prin_text.specs.Lines.{lines_from, word_off}
use Rattle.prin_text.proofs.Causes.{IsAgainst, against, chosen_causes, digits_causes, makes_fault, plain_causes, then, unless_causes}
use Rattle.prin_text.proofs.Causes as lines
use Rattle.cred_pull.specs.WalletFile.{WalletRow, row_added, row_cause, wallet_in, wallet_step}
use Rattle.cred_pull.specs.WalletView.{file_cause, IsWalletFault, wallet_cause}

-- a wallet file has the cause
abbrev IsCause : FileCause → Type 0
IsCause cause = file_cause (wallet_cause cause) ≡ cause

abbrev Causes : {A : Type 0} → Result A FileCause → Type 0
Causes r = lines.Causes IsCause r

row_against : (above : List WalletRow) (cert : List ℕ) → IsAgainst IsCause (row_cause above cert)
unfolding row_cause
row_against above cert = against IsCause (nat_lt 1024 (length cert)) Limit (cond (nat_le 4096 (length above)) (Some Limit) None) refl (against IsCause (nat_le 4096 (length above)) Limit None refl tt)

row_causes : (above : List WalletRow) (rest : List ℕ) → Causes (row_added above rest)
row_causes above rest = then IsCause (numbered_digits rest) _ (digits_causes IsCause refl refl refl rest) (λ x. unless_causes IsCause (row_cause above x.1) _ (row_against above x.1))

step_causes : (above : List WalletRow) (line : List ℕ) → Causes (wallet_step above line)
unfolding wallet_step
step_causes above line = chosen_causes IsCause UnknownWord (bytes_eq (word_off line).0 (codes "cert")) _ refl (plain_causes IsCause line _ refl (row_causes above (word_off line).1))

pub wallet_fault : (bytes : List ℕ) (f : FileFault) → wallet_in bytes ≡ Err f → IsWalletFault f
unfolding wallet_in
wallet_fault bytes f e = elim (chosen (nat_lt 4194304 (length bytes)) (Err (Line 0 Limit)) (file_makes (is_first_line (codes "taos-wallet")) [] wallet_step (lines_from bytes 0)) (Err f) e) [
  | inl long ↦ subst IsWalletFault (err_is (List WalletRow) (Line 0 Limit) f long.1) refl
  | inr short ↦ makes_fault IsCause (is_first_line (codes "taos-wallet")) [] wallet_step refl step_causes (lines_from bytes 0) f short.1
]
