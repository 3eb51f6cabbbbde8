-- What a pull does to a request, and what is promised of each of its steps.
use Rattle.std.specs.Prelude.{◌≡◌, ℕ, ◌+◌, ◌-◌, ◌<◌, ◌≤◌, List, [], ◌∷◌, ◌++◌, length, map, take}
use Rattle.sealed_cert.specs.declared.kind.TheConstants.{RELAYED}
use Rattle.sealed_cert.specs.Seals.{sealed}
use Rattle.stmt_codec.specs.Certificates.{Certificate}
use Rattle.frame_link.specs.Lent.{Lent}
use Rattle.frame_link.specs.Relay.{Link}
use Rattle.relay_core.specs.declared.message.TheConstants.{MAX_CERT}
use Rattle.relay_core.specs.Credentials as credentials
use Rattle.relay_core.specs.Credentials.{LinkCall, call, IsIssued, LinkUse, link_use, IsLinked, IsQuiet}
use Rattle.relay_core.specs.Presenting.{IsOneInterrupted}
use Rattle.taos_wire.specs.declared.request.TheConstants.{MAX_CERTS}
use Rattle.taos_wire.specs.Request.{Request}
use Rattle.cred_pull.specs.declared.pulling.LeftOff.{LeftOff}
use Rattle.cred_pull.specs.declared.pulling.LeftOff.TheVariants as reasons
use Rattle.cred_pull.specs.declared.pulling.PullStop.{PullStop}
use Rattle.cred_pull.specs.declared.pulling.PullStop.TheVariants as halts
use Rattle.cred_pull.specs.declared.pulling.Pulled.{Pulled}
use Rattle.cred_pull.specs.declared.pulling.Pulled.TheVariants.{Ready, PullFailed, RelayFailed, NoMemory}
use Rattle.cred_pull.specs.Fetching.{Texts, FetchSeen, Pull, Gave, Lacked, Failed, IsFetched}
use Rattle.cred_pull.specs.Pulled.{IsOpened, ArePulled, IsFailedAt, IsInterrupted}

-- the certificates under the relay's seal for the node
abbrev pub forms_of : List ℕ → List Certificate → Texts
forms_of key certs = map (sealed RELAYED key) certs

-- of the fetched certificates the first that, with the presented ones, are at most 16
abbrev pub within : (presented fetched : Texts) → Texts
within presented fetched = take (MAX_CERTS - length presented) fetched

-- the request with these behind the certificates that it presents
abbrev pub with_pulled : List ℕ → Request → List Certificate → Request
with_pulled key r certs = record r { certs = r.certs ++ forms_of key certs }

-- what came of a pull, by what the fetch answered and by the calls of the link: the request has what
-- opened behind what it presented, or is as it was
pub data Ends (key : List ℕ) (old new : Request) : Pull → List LinkCall → Pulled → Type 0 where
  ready : {fetched : Texts} {calls : List LinkCall} {certs : List Certificate} →
      ArePulled key (within old.certs fetched) calls certs → new ≡ with_pulled key old certs →
      Ends key old new (Gave fetched) calls Ready
  pull_failed :
      new ≡ old →
      Ends key old new Failed [] PullFailed
  relay_failed : {fetched : Texts} {calls : List LinkCall} {place : ℕ} →
      IsFailedAt key (within old.certs fetched) calls place → new ≡ old →
      Ends key old new (Gave fetched) calls (RelayFailed (length old.certs + place))
  unfetched :
      new ≡ old →
      Ends key old new Lacked [] NoMemory
  interrupted : {fetched : Texts} {calls : List LinkCall} →
      IsInterrupted key (within old.certs fetched) calls → new ≡ old →
      Ends key old new (Gave fetched) calls NoMemory

-- what a pull uses: the fetch before and after, and the link
pub record PullUse : Type 0 where
  pub before : FetchSeen
  pub after : FetchSeen
  pub link : LinkUse

-- what it uses, of these
abbrev pub pull_use : (before after : FetchSeen) → LinkUse → PullUse
pull_use before after link = record { before = before; after = after; link = link }

-- a pull: one call of the fetch, and then the calls of the link that opening what it gave takes
pub record Pulls (key : List ℕ) (u : PullUse) (old new : Request) (result : Pulled) : Type 0 where
  pub pull : Pull
  pub calls : List LinkCall
  pub fetched : IsFetched u.before u.after pull
  pub linked : IsLinked u.link.node u.link.before u.link.after calls
  pub ends : Ends key old new pull calls result

-- ---- the steps

-- who opens certificates: under which key, for which node it asks the link, what the link shows, and
-- what is borrowed for it
pub record Opener : Type 0 where
  pub key : List ℕ
  pub node : ℕ
  pub link : Link
  pub lent : Lent

-- who opens, of these
abbrev pub opener : List ℕ → ℕ → Link → Lent → Opener
opener key node link lent = record { key = key; node = node; link = link; lent = lent }

-- in what the link was asked between the two
abbrev pub used : (before after : Opener) → LinkUse
used before after = link_use before.node before.link after.link

-- the same opens, whatever became of the link
pub record Remains (before after : Opener) : Type 0 where
  pub key : after.key ≡ before.key
  pub node : after.node ≡ before.node
  pub lent : after.lent ≡ before.lent

-- one text was not pulled, by these calls
abbrev pub IsLeftOff : List ℕ → List LinkCall → LeftOff → Type 0
IsLeftOff text calls reasons.LinkFailed =
    (length text ≤ MAX_CERT) × IsIssued text × (calls ≡ call text credentials.Failed ∷ [])
IsLeftOff text calls reasons.NoMemory = IsOneInterrupted text calls

-- not all texts were pulled, by these calls
abbrev pub AreLeftOff : List ℕ → Texts → List LinkCall → PullStop → Type 0
AreLeftOff key texts calls (halts.LinkFailed place) = IsFailedAt key texts calls place
AreLeftOff key texts calls halts.NoMemory = IsInterrupted key texts calls

-- the reason at a place
abbrev pub stop_at : ℕ → LeftOff → PullStop
stop_at place reasons.LinkFailed = halts.LinkFailed place
stop_at place reasons.NoMemory = halts.NoMemory

-- the place is one of the texts
abbrev pub HasPlace : Texts → PullStop → Type 0
HasPlace texts (halts.LinkFailed place) = place < length texts
HasPlace texts halts.NoMemory = Unit {0}

-- one text was not pulled, with the link's answers and its counts
pub record OneIsLeftOff (u : LinkUse) (text : List ℕ) (why : LeftOff) : Type 0 where
  pub calls : List LinkCall
  pub stops : IsLeftOff text calls why
  pub linked : IsLinked u.node u.before u.after calls

module _ (key : List ℕ) (u : LinkUse) where
  -- one text comes to these forms, by calls of the link that did not fail
  pub record OneIsPulled (text : List ℕ) (forms : Texts) : Type 0 where
    pub calls : List LinkCall
    pub certs : List Certificate
    pub opened : IsOpened key text calls certs
    pub quiet : IsQuiet u.node u.before u.after calls
    pub forms_are : forms ≡ forms_of key certs

  -- all texts come to these forms, by calls of the link that did not fail
  pub record AllArePulled (texts forms : Texts) : Type 0 where
    pub calls : List LinkCall
    pub certs : List Certificate
    pub pulled : ArePulled key texts calls certs
    pub quiet : IsQuiet u.node u.before u.after calls
    pub forms_are : forms ≡ forms_of key certs

  -- not all were pulled, with the link's answers and its counts
  pub record AllAreLeftOff (texts : Texts) (why : PullStop) : Type 0 where
    pub calls : List LinkCall
    pub stops : AreLeftOff key texts calls why
    pub linked : IsLinked u.node u.before u.after calls

  -- what was fetched was taken into the request, as the answer says, by calls of the link
  pub record TakesIn (fetched : Texts) (old new : Request) (result : Pulled) : Type 0 where
    pub calls : List LinkCall
    pub ends : Ends key old new (Gave fetched) calls result
    pub linked : IsLinked u.node u.before u.after calls
