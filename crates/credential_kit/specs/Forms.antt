-- The certificates of logins, roles and delegations, a form for each call, and what the calls give.
use Rattle.std.specs.Prelude.{◌≡◌, ℕ, List, None, Some}
use Rattle.keyed_seal.specs.Keys.{Entries, key_of}
use Rattle.prin_term.specs.Principal.{Principal, Key, Name, And, Quoting, InRole, For}
use Rattle.stmt_codec.specs.Certificates.{Certificate, says}
use Rattle.sealed_cert.specs.declared.kind.TheConstants.{ISSUED}
use Rattle.sealed_cert.specs.Seals.{sealed, OpensIssued}
use Rattle.credential_kit.specs.declared.signer.Signer.{Signer}

-- a system on a machine: the machine's name, and the role of the system
pub record System : Type 0 where
  pub machine : ℕ
  pub role : ℕ

-- the system of this role on the machine of this name
abbrev pub system : (machine role : ℕ) → System
system machine role = record { machine = machine; role = role }

-- a named principal in a role
abbrev pub in_role : ℕ → ℕ → Principal
in_role name role = InRole (Name name) role

-- the machine says that the node's key kn speaks for the machine's name w, in its system's role os
abbrev pub boot_of : (issuer kn w os until serial : ℕ) → Certificate
boot_of issuer kn w os = says issuer None (Key kn) (in_role w os)

-- a key says that the key of a channel speaks for it
abbrev pub channel_of : (issuer c until serial : ℕ) → Certificate
channel_of issuer c = says issuer None (Key c) (Key issuer)

-- the system on a machine, together with the key ks of a session
abbrev pub seat : (w os ks : ℕ) → Principal
seat w os ks = And (in_role w os) (Key ks)

-- the user's key says that the seat, when it quotes the user u, speaks for the seat for u
abbrev pub login_of : ℕ → System → (ks u until serial : ℕ) → Certificate
login_of issuer s ks u =
    says issuer None (Quoting (seat s.machine s.role ks) (Name u))
    (For (seat s.machine s.role ks) (Name u))

-- the session's key says that the key of a channel speaks for it
abbrev pub session_of : (issuer c until serial : ℕ) → Certificate
session_of issuer c = says issuer None (Key c) (Key issuer)

-- the user's key says that the key k speaks for the user u in the role r
abbrev pub role_of : (issuer k u r until serial : ℕ) → Certificate
role_of issuer k u r = says issuer None (Key k) (in_role u r)

-- the system on a machine, for a user
abbrev pub logged_in : (w os u : ℕ) → Principal
logged_in w os u = For (in_role w os) (Name u)

-- the channel, quoting the user u, says that a second system, when it quotes the first for u,
-- speaks for the second for the first for u
abbrev pub delegate_of : (issuer u : ℕ) → System → System → (until serial : ℕ) → Certificate
delegate_of issuer u s second =
    says issuer (Some (Name u))
    (Quoting (in_role second.machine second.role) (logged_in s.machine s.role u))
    (For (in_role second.machine second.role) (logged_in s.machine s.role u))

-- the bytes are c under the signer's seal, and open to c
pub record IsIssued (signer : Signer) (c : Certificate) (bytes : List ℕ) : Type 0 where
  pub text : bytes ≡ sealed ISSUED signer.key c
  -- by every table that has the signer's key
  pub opens : (entries : Entries) → key_of entries signer.issuer ≡ Some signer.key
      → OpensIssued entries bytes c
