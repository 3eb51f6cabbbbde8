-- What a wallet file means.
use Rattle.std.specs.Prelude.{ℕ, ◌≤◌, nat_le, nat_lt, bytes_eq, codes, if◌then◌else◌}
use Rattle.std.specs.Prelude.{List, [], ◌∷◌, ◌++◌, length, All, Option, Result, Err}
use Rattle.byte_fields.specs.Steps.{◌>>=◌}
use Rattle.prin_text.specs.declared.lines.fault.FileCause.{FileCause}
use Rattle.prin_text.specs.declared.lines.fault.FileCause.TheVariants.{UnknownWord, Limit}
use Rattle.prin_text.specs.declared.lines.fault.FileFault.{FileFault}
use Rattle.prin_text.specs.declared.lines.fault.FileFault.TheVariants.{Line}
use Rattle.prin_text.specs.declared.lines.limits.TheConstants.{MAX_FILE}
use Rattle.prin_text.specs.Fields.{if_plain, numbered_digits}
use Rattle.prin_text.specs.FileLines.{LineStep, file_makes, first_of, first_or, is_first_line, unless}
use Rattle.prin_text.specs.Lines.{lines_from, word_off}
use Rattle.cred_pull.specs.declared.limits.TheConstants.{MAX_WALLET_CERT, MAX_WALLET_LINES}

-- a certificate of a channel, by its bytes
pub record WalletRow : Type 0 where
  pub channel : ℕ
  pub cert : List ℕ

-- this certificate, of this channel
abbrev pub wallet_row : ℕ → List ℕ → WalletRow
wallet_row channel cert = record { channel = channel; cert = cert }

-- why there is no other row of this certificate
unfoldable pub row_cause : List WalletRow → List ℕ → Option FileCause
row_cause above cert =
    first_of ((nat_lt MAX_WALLET_CERT (length cert), Limit)
    ∷ (nat_le MAX_WALLET_LINES (length above), Limit) ∷ [])

-- one more row
abbrev pub row_added : List WalletRow → List ℕ → Result (List WalletRow) FileCause
row_added above rest = do
  x ← numbered_digits rest
  unless (row_cause above x.1) (above ++ wallet_row x.0 x.1 ∷ [])

-- what a line adds
unfoldable pub wallet_step : LineStep (List WalletRow)
wallet_step above line =
    let w = word_off line in
    if bytes_eq w.0 (codes "cert") then if_plain line (row_added above w.1) else Err UnknownWord

-- the same where the first line says what file it is, and adds nothing
abbrev pub any_wallet_step : LineStep (Option (List WalletRow))
any_wallet_step = first_or (is_first_line (codes "taos-wallet")) [] wallet_step

-- what a wallet file means, or why it is refused: one that is too long is refused at no line
unfoldable pub wallet_in : List ℕ → Result (List WalletRow) FileFault
wallet_in bytes =
    if nat_lt MAX_FILE (length bytes) then Err (Line 0 Limit)
    else file_makes (is_first_line (codes "taos-wallet")) [] wallet_step (lines_from bytes 0)

-- no certificate is longer than one of a file may be
abbrev pub AreShort : List WalletRow → Type 0
AreShort rows = All (λ r. length r.cert ≤ MAX_WALLET_CERT) rows
