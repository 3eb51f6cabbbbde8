-- Certificates as a shard compares them: by what they say.
use Rattle.std.specs.Prelude.{ℕ, Bool, not, ◌&&◌, ◌==◌, if◌then◌else◌, List, [], ◌∷◌, ◌++◌, filter, Option, Some, None}
use Rattle.std.specs.List.{list_any}
use Rattle.prin_term.specs.Principal.{Principal, Key, Quoting}
use Rattle.stmt_codec.specs.Certificates.{Certificate}
use Rattle.stmt_codec.specs.Equality.{same_certificate}

-- whether a certificate is one of these
abbrev pub among : List Certificate → Certificate → Bool
among certs c = list_any (same_certificate c) certs

-- those of the second list that are not held, each where it stands first
abbrev pub newly : List Certificate → List Certificate → List Certificate
newly held [] = []
newly held (c ∷ cs) = if among held c then newly held cs else c ∷ newly (held ++ c ∷ []) cs

-- whether the issuer is one of these
abbrev pub is_withdrawn : List ℕ → ℕ → Bool
is_withdrawn issuers issuer = list_any (λ i. issuer == i) issuers

-- those whose issuer is none of these, in order
abbrev pub admitted : List ℕ → List Certificate → List Certificate
admitted issuers certs = filter (λ c. not (is_withdrawn issuers c.issuer)) certs

-- whether a certificate is brought: its issuer is none of these, and it is none of those that are met
abbrev pub is_brought : List ℕ → (met : List Certificate) → Certificate → Bool
is_brought issuers met c = not (is_withdrawn issuers c.issuer) && not (among met c)

-- the channel that a subject speaks on, with its key alone or quoting another principal
abbrev pub channel_of : Principal → Option ℕ
channel_of (Key k) = Some k
channel_of (Quoting (Key k) quoted) = Some k
channel_of _ = None
