-- What the forms give together, whatever other anchors and certificates there are.
use Rattle.std.specs.Prelude.{ℕ, List, map, Contains}
use Rattle.prin_term.specs.declared.term.Anchor.{Anchor}
use Rattle.prin_term.specs.Principal.{Principal, Key, Name, Quoting, For}
use Rattle.stmt_codec.specs.Certificates.{Certificate, IsLive, live}
use Rattle.taos_calculus.specs.Rules.{Claim}
use Rattle.taos_calculus.specs.Monitor.{MaySpeak}
use Rattle.taos_calculus.specs.Question.{claim_of}
use Rattle.credential_kit.specs.Forms.{System, in_role, logged_in, boot_of, channel_of, login_of}
use Rattle.credential_kit.specs.Forms.{session_of, role_of, delegate_of}

-- what the calculus takes of certificates
abbrev pub claims_of : List Certificate → List Claim
claims_of certs = map claim_of certs

-- the key is anchored to the name
abbrev pub HasAnchor : List Anchor → ℕ → ℕ → Type 0
HasAnchor anchors key name = Contains anchors (record { key = key; name = name })

-- a certificate of this form is there, and is live at the moment; the form's end and serial are the
-- last that it takes
pub record HasLive
    (certs : List Certificate) (moment : ℕ) (form : ℕ → ℕ → Certificate) : Type 0 where
  pub until : ℕ
  pub serial : ℕ
  pub there : Contains certs (form until serial)
  pub lives : IsLive moment (form until serial)

-- `left => right` is derivable from the live certificates
abbrev pub Speaks : List Anchor → List Certificate → ℕ → Principal → Principal → Type 0
Speaks anchors certs moment left right = MaySpeak anchors (claims_of (live certs moment)) left right

-- a machine: its key, the key of its node, the system that runs on it, and a channel of the node
pub record Machine : Type 0 where
  pub key : ℕ
  pub node : ℕ
  pub system : System
  pub channel : ℕ

-- a login: the user's key, the user's name, and the key of the session
pub record Login : Type 0 where
  pub key : ℕ
  pub user : ℕ
  pub session : ℕ

-- the system of a machine as a principal
abbrev pub running : Machine → Principal
running m = in_role m.system.machine m.system.role

-- the system of a machine for the user that logged in there
abbrev pub acting : Machine → Login → Principal
acting m l = logged_in m.system.machine m.system.role l.user

-- the node's key was booted by the machine's key, and speaks through the channel
pub record IsBooted
    (anchors : List Anchor) (certs : List Certificate) (moment : ℕ) (m : Machine) : Type 0 where
  -- the machine's key is anchored to its name
  pub machine : HasAnchor anchors m.key m.system.machine
  -- the machine's key says that the node's key speaks for the machine in the system's role
  pub boot : HasLive certs moment (boot_of m.key m.node m.system.machine m.system.role)
  -- the node's key says that the channel speaks for it
  pub channel : HasLive certs moment (channel_of m.node m.channel)

-- the user's key was used to log in there, in a session whose key speaks through the channel too
pub record IsLoggedIn
    (anchors : List Anchor) (certs : List Certificate) (moment : ℕ)
    (m : Machine) (l : Login) : Type 0 where
  -- the user's key is anchored to the user's name
  pub anchor : HasAnchor anchors l.key l.user
  -- the user's key logged in at the machine's system, for the key of the session
  pub login : HasLive certs moment (login_of l.key m.system l.session l.user)
  -- the session's key says that the channel speaks for it
  pub session : HasLive certs moment (session_of l.session m.channel)

-- a login: the channel that quotes the user speaks for the machine's system for the user
abbrev pub LoginSpeaks : List Anchor → List Certificate → ℕ → Type 0
LoginSpeaks anchors certs moment =
    (m : Machine) (l : Login) → IsBooted anchors certs moment m
    → IsLoggedIn anchors certs moment m l
    → Speaks anchors certs moment (Quoting (Key m.channel) (Name l.user)) (acting m l)

-- a delegation: a second machine's channel that quotes the first system for the user speaks for the
-- second system for the first for the user
abbrev pub DelegateSpeaks : List Anchor → List Certificate → ℕ → Type 0
DelegateSpeaks anchors certs moment =
    (m second : Machine) (l : Login) → IsBooted anchors certs moment m
    → IsLoggedIn anchors certs moment m l → IsBooted anchors certs moment second
    → HasLive certs moment (delegate_of m.channel l.user m.system second.system)
    → Speaks anchors certs moment (Quoting (Key second.channel) (acting m l))
    (For (running second) (acting m l))

-- a role: the key speaks for the user in the role
abbrev pub RoleSpeaks : List Anchor → List Certificate → ℕ → Type 0
RoleSpeaks anchors certs moment =
    (user k u r : ℕ) → HasAnchor anchors user u → HasLive certs moment (role_of user k u r) →
    Speaks anchors certs moment (Key k) (in_role u r)
