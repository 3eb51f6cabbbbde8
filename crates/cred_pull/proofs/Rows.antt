-- One row more of a wallet, and the rows of a channel.
use Rattle.std.proofs.Common.{◌≡◌, ℕ, ◌<◌, ◌≤◌, Bool, true, false, cond, List, [], ◌∷◌, ◌++◌, append-nil, length, length-append, length-take, map, take, All, Ok, Err, refl, sym, ap, ◌∙◌, arith}
use Rattle.std.specs.Prelude.{◌==◌, filter, nat_le, nat_lt}
use Rattle.std.proofs.lemmas.Bool.{le-leb, lt-leb, le-ltb, lt-ltb}
use Rattle.std.proofs.lemmas.List.{map-append, take-append-le, take_all}
use Rattle.std.proofs.lemmas.List.Elements.{All-filter, All-map, All-take, filter-append}
use Rattle.prin_text.specs.declared.lines.fault.FileCause.TheVariants.{Limit}
use Rattle.prin_text.specs.FileLines.{unless}
use Rattle.cred_pull.specs.Fetching.{Texts}
use Rattle.cred_pull.specs.WalletFile.{AreShort, WalletRow, row_cause}
use Rattle.cred_pull.specs.WalletServing.{certs_of, given_for}

-- ---- one row more

pub too_long : (above more : List WalletRow) (cert : List ℕ) → 1024 < length cert → unless (row_cause above cert) more ≡ Err Limit
unfolding row_cause
too_long above more cert long =
    let test : nat_lt 1024 (length cert) ≡ true = lt-ltb 1024 (length cert) long in
    rw test refl

module _ (above more : List WalletRow) (cert : List ℕ) (short : length cert ≤ 1024) where
  pub too_many : 4096 ≤ length above → unless (row_cause above cert) more ≡ Err Limit
  unfolding row_cause
  too_many full =
      let one : nat_lt 1024 (length cert) ≡ false = le-ltb 1024 (length cert) short in
      let two : nat_le 4096 (length above) ≡ true = le-leb 4096 (length above) full in
      rw (one, two) refl

  pub few_enough : length above < 4096 → unless (row_cause above cert) more ≡ Ok more
  unfolding row_cause
  few_enough few =
      let one : nat_lt 1024 (length cert) ≡ false = le-ltb 1024 (length cert) short in
      let two : nat_le 4096 (length above) ≡ false = lt-leb 4096 (length above) few in
      rw (one, two) refl

-- ---- the rows of a channel

module _ (channel : ℕ) where
  one_of : (row : WalletRow) → (row.channel == channel) ≡ true → certs_of (row ∷ []) channel ≡ row.cert ∷ []
  one_of row is = ap (λ (b : Bool). map (λ (r : WalletRow). r.cert) (cond b (row ∷ []) [])) is

  none_of : (row : WalletRow) → (row.channel == channel) ≡ false → certs_of (row ∷ []) channel ≡ []
  none_of row is = ap (λ (b : Bool). map (λ (r : WalletRow). r.cert) (cond b (row ∷ []) [])) is

  certs_on : (rows : List WalletRow) (row : WalletRow) → certs_of (rows ++ row ∷ []) channel ≡ certs_of rows channel ++ certs_of (row ∷ []) channel
  certs_on rows row = ap (map (λ (r : WalletRow). r.cert)) (filter-append (λ (r : WalletRow). r.channel == channel) rows (row ∷ [])) ∙ map-append (λ (r : WalletRow). r.cert) (filter (λ (r : WalletRow). r.channel == channel) rows) (filter (λ (r : WalletRow). r.channel == channel) (row ∷ []))

  -- a row of another channel adds none
  pub passed_over : (rows : List WalletRow) (row : WalletRow) → (row.channel == channel) ≡ false → given_for (rows ++ row ∷ []) channel ≡ given_for rows channel
  passed_over rows row is = ap (take 16) (certs_on rows row ∙ ap (λ (l : Texts). certs_of rows channel ++ l) (none_of row is) ∙ append-nil (certs_of rows channel))

  -- where fewer than 16 are given, all are, and one more is given
  pub given_on : (rows : List WalletRow) (row : WalletRow) → (row.channel == channel) ≡ true → length (given_for rows channel) < 16 → given_for (rows ++ row ∷ []) channel ≡ given_for rows channel ++ row.cert ∷ []
  given_on rows row is few =
      let all : Texts = certs_of rows channel in
      let len : length all < 16 = omega (arith, few, length-take 16 all) in
      ap (take 16) (certs_on rows row ∙ ap (λ (l : Texts). all ++ l) (one_of row is))
      ∙ take_all 16 (all ++ row.cert ∷ []) (omega (arith, len, length-append all (row.cert ∷ [])))
      ∙ ap (λ (l : Texts). l ++ row.cert ∷ []) (sym (take_all 16 all (omega (arith, len))))

  -- where 16 are given, no more are
  pub given_full : (rows : List WalletRow) (row : WalletRow) → 16 ≤ length (given_for rows channel) → given_for (rows ++ row ∷ []) channel ≡ given_for rows channel
  given_full rows row full =
      let all : Texts = certs_of rows channel in
      ap (take 16) (certs_on rows row) ∙ take-append-le 16 all (certs_of (row ∷ []) channel) (omega (arith, full, length-take 16 all))

  -- what is given is as short as the rows
  pub given_short : (rows : List WalletRow) → AreShort rows → All (λ (t : List ℕ). length t ≤ 1024) (given_for rows channel)
  given_short rows short =
      All-take (λ (t : List ℕ). length t ≤ 1024) 16 (certs_of rows channel)
      (All-map (λ (t : List ℕ). length t ≤ 1024) (λ (r : WalletRow). r.cert) (filter (λ (r : WalletRow). r.channel == channel) rows)
      (All-filter (λ (r : WalletRow). r.channel == channel) (λ (r : WalletRow). length r.cert ≤ 1024) rows short))
