-- What the program's wallet means, and what its lines so far do.
use Rattle.std.specs.Prelude.{◌≡◌, Bool, List, [], map, Option}
use Rattle.prin_text.specs.declared.lines.fault.FileCause.{FileCause}
use Rattle.prin_text.specs.declared.lines.fault.FileCause.TheVariants as files
use Rattle.prin_text.specs.declared.lines.fault.FileFault.{FileFault}
use Rattle.prin_text.specs.declared.lines.fault.FileFault.TheVariants as faults
use Rattle.prin_text.specs.FileLines.{IsFaultOf}
use Rattle.prin_text.specs.LineView.{SoFar}
use Rattle.cred_pull.specs.declared.wallet.Wallet.{Wallet}
use Rattle.cred_pull.specs.declared.wallet.WalletLine.{WalletLine}
use Rattle.cred_pull.specs.declared.wallet_fault.WalletCause.{WalletCause}
use Rattle.cred_pull.specs.declared.wallet_fault.WalletCause.TheVariants as causes
use Rattle.cred_pull.specs.declared.wallet_fault.WalletFault.{WalletFault}
use Rattle.cred_pull.specs.declared.wallet_fault.WalletFault.TheVariants.{Line, NoMemory}
use Rattle.cred_pull.specs.WalletFile.{WalletRow, wallet_row}

-- the row that the program's line stands for
abbrev pub row_of : WalletLine → WalletRow
row_of line = wallet_row line.channel line.cert.items

-- the rows of the program's wallet, in its order
abbrev pub rows_of : Wallet → List WalletRow
rows_of wallet = map row_of wallet.lines.items

-- the program's lines stand for these rows
abbrev pub AreRows : List WalletLine → List WalletRow → Type 0
AreRows lines rows = map row_of lines ≡ rows

-- they stand for what the lines make, of which the first is there, or is not
abbrev pub StandSoFar : Bool → List WalletLine → Option (List WalletRow) → Type 0
StandSoFar begun lines so_far = SoFar AreRows [] begun lines so_far

-- ---- faults

-- the cause, among those of all files of lines
abbrev pub file_cause : WalletCause → FileCause
file_cause causes.FirstLine = files.FirstLine
file_cause causes.UnknownWord = files.UnknownWord
file_cause causes.Words = files.Words
file_cause causes.Number = files.Number
file_cause causes.Hex = files.Hex
file_cause causes.Limit = files.Limit

-- the fault, among those of all files of lines
abbrev pub file_fault : WalletFault → FileFault
file_fault (Line line cause) = faults.Line line (file_cause cause)
file_fault NoMemory = faults.NoMemory

-- the cause, among those of wallet files; a cause that such a file does not have is seen as `Words`
abbrev pub wallet_cause : FileCause → WalletCause
wallet_cause files.FirstLine = causes.FirstLine
wallet_cause files.UnknownWord = causes.UnknownWord
wallet_cause files.Words = causes.Words
wallet_cause files.Number = causes.Number
wallet_cause files.Hex = causes.Hex
wallet_cause files.Rights = causes.Words
wallet_cause files.UnknownDomain = causes.Words
wallet_cause files.NodeFirst = causes.Words
wallet_cause files.UnknownObject = causes.Words
wallet_cause files.UnknownName = causes.Words
wallet_cause files.Principal = causes.Words
wallet_cause files.Text = causes.Words
wallet_cause files.Certificate = causes.Words
wallet_cause files.Twice = causes.Words
wallet_cause files.Limit = causes.Limit
wallet_cause files.NoNode = causes.Words

-- the fault is one of a wallet file
abbrev pub IsWalletFault : FileFault → Type 0
IsWalletFault fault = IsFaultOf (λ cause. file_cause (wallet_cause cause) ≡ cause) fault
