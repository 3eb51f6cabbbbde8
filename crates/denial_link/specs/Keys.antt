-- What the order is found by, and which certificates are asked about.
use Rattle.std.specs.Prelude.{◌≡◌, ◌⊎◌, ◌↔◌, ℕ, ◌<◌, Bool, true, List}
use Rattle.std.specs.Prelude.{Some, slice_get, length, All, AllPairs, Contains, if◌then◌else◌}
use Rattle.std.specs.declared.cmp.Reverse.{Reverse}
use Rattle.stmt_codec.specs.Certificates.{Certificate, digest_of, is_dead, IsLive}

-- whether a certificate is early, its end, its beginning, its digest and its place
abbrev pub Key : Type 0
Key = ℕ × Reverse ℕ × ℕ × List ℕ × ℕ

-- one that has ended goes by its end, one that is early by its beginning
abbrev pub time_of : ℕ → Certificate → ℕ × ℕ × ℕ
time_of moment c = if is_dead moment c then (0, c.until, 0) else (1, 0, c.from)

-- the key is that of a certificate which is not live at the moment
pub record IsKeyOf (certs : List Certificate) (moment : ℕ) (key : Key) : Type 0 where
  pub cert : Certificate
  pub stands : slice_get certs key.4 ≡ Some cert
  pub out : IsLive moment cert → ⊥
  pub time : (key.0, key.1.0, key.2) ≡ time_of moment cert
  pub digest : key.3 ≡ digest_of cert

-- the keys of those below n that are not live, by their places
pub record KeysBelow (certs : List Certificate) (moment n : ℕ) (keys : List Key) : Type 0 where
  pub sound : All (IsKeyOf certs moment) keys
  pub below : All (λ k. k.4 < n) keys
  -- each certificate below n that is not live has its key there
  pub every : (i : ℕ) (c : Certificate) → i < n → slice_get certs i ≡ Some c →
      (IsLive moment c → ⊥) → (k : Key) × Contains keys k × (k.4 ≡ i)
  -- the places rise
  pub rising : AllPairs (λ j k. j.4 < k.4) keys

-- of the certificates below n, the live ones and those at the places are marked
pub record AreMarked (certs : List Certificate) (moment : ℕ)
    (places : List ℕ) (n : ℕ) (marks : List Bool) : Type 0 where
  pub count : length marks ≡ n
  -- a place is marked exactly where its certificate is live or the place is among these
  pub each : (i : ℕ) (c : Certificate) → i < n → slice_get certs i ≡ Some c →
      (slice_get marks i ≡ Some true) ↔ (IsLive moment c ⊎ Contains places i)
