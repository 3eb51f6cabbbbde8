-- What a wallet does to the payloads of a connection that it serves.
use Rattle.std.specs.Prelude.{◌≡◌, ℕ, ◌<◌, ◌^◌, ◌==◌, List, [], map, filter, take}
use Rattle.taos_wire.specs.declared.request.TheConstants.{MAX_CERTS}
use Rattle.cred_pull.specs.Fetching.{Texts}
use Rattle.cred_pull.specs.FetchMessages.{fetching, giving, IsNoFetching}
use Rattle.cred_pull.specs.WalletFile.{WalletRow}

-- the certificates of a channel, in the wallet's order
abbrev pub certs_of : List WalletRow → ℕ → Texts
certs_of rows channel = map (λ r. r.cert) (filter (λ r. r.channel == channel) rows)

-- the first 16 of them
abbrev pub given_for : List WalletRow → ℕ → Texts
given_for rows channel = take MAX_CERTS (certs_of rows channel)

-- what a wallet of these rows writes to a payload: one that asks for a channel's certificates is
-- given the first of them, whatever the request's number, and any other is given none
pub data Replies (rows : List WalletRow) (payload reply : List ℕ) : Type 0 where
  is_fetching : (channel seq : ℕ) →
      channel < 2 ^ 32 → seq < 2 ^ 64 → payload ≡ fetching channel seq →
      reply ≡ giving (given_for rows channel) →
      Replies rows payload reply
  is_no_fetching :
      IsNoFetching payload → reply ≡ giving [] →
      Replies rows payload reply

-- the reply is what a wallet of these rows writes, which stay as they are
abbrev pub Answers : List WalletRow → List ℕ → List ℕ → List WalletRow → Type 0
Answers rows payload reply after = (after ≡ rows) × Replies rows payload reply

-- no payload is given up
abbrev pub GivesUp : List WalletRow → List ℕ → List WalletRow → Type 0
GivesUp rows payload after = ⊥
