-- What is promised of opening one certificate that is presented.
use Rattle.std.specs.Prelude.{◌≡◌, ◌≢◌, ◌⊎◌, ℕ, ◌-◌, List, [], ◌∷◌, length, take, drop}
use Rattle.sealed_cert.specs.declared.fault.SealFault.{SealFault}
use Rattle.sealed_cert.specs.declared.fault.SealFault.TheVariants as faults
use Rattle.keyed_seal.specs.declared.tag.TheConstants.{TAG_LEN}
use Rattle.stmt_codec.specs.Certificates.{Certificate}
use Rattle.relay_core.specs.declared.code.TheConstants.{MALFORMED, BAD_SEAL}
use Rattle.relay_core.specs.declared.presenting.TheConstants.{BAD_RESEAL}
use Rattle.relay_core.specs.declared.presenting.Unpresented.{Unpresented}
use Rattle.relay_core.specs.declared.presenting.Unpresented.TheVariants as reasons
use Rattle.relay_core.specs.Credentials.{LinkAnswer, LinkCall, call, Failed, IsIssued, Comes, IsRefused, IsResealed, LinkUse, IsLinked, IsQuiet}

-- memory was refused before the link was asked, or after it answered
abbrev pub IsOneInterrupted : List ℕ → List LinkCall → Type 0
IsOneInterrupted text calls =
    (calls ≡ []) ⊎ (IsIssued text
    × ((answer : LinkAnswer) × (answer ≢ Failed) × (calls ≡ call text answer ∷ [])))

-- why the bytes come to no certificate, by these calls
abbrev pub IsOneStopped : List ℕ → List ℕ → List LinkCall → Unpresented → Type 0
IsOneStopped key text calls (reasons.Refused code) = IsRefused key text calls code
IsOneStopped key text calls reasons.LinkFailed = IsIssued text × (calls ≡ call text Failed ∷ [])
IsOneStopped key text calls reasons.NoMemory = IsOneInterrupted text calls

-- why bytes that the node opens come to no certificate
abbrev pub IsOneRefused : List ℕ → List ℕ → Unpresented → Type 0
IsOneRefused key text (reasons.Refused code) = IsRefused key text [] code
IsOneRefused key text reasons.LinkFailed = ⊥
IsOneRefused key text reasons.NoMemory = Unit {0}

-- why new bytes that the relay gave come to no certificate
abbrev pub IsNoReseal : List ℕ → List ℕ → List ℕ → Unpresented → Type 0
IsNoReseal key text new (reasons.Refused code) =
    (code ≡ BAD_RESEAL) × ((c : Certificate) → IsResealed key text new c → ⊥)
IsNoReseal key text new reasons.LinkFailed = ⊥
IsNoReseal key text new reasons.NoMemory = Unit {0}

-- the fault of opening, as the reason
abbrev pub refused_as : SealFault → Unpresented
refused_as faults.NoMemory = reasons.NoMemory
refused_as faults.BadSeal = reasons.Refused BAD_SEAL
refused_as (faults.Malformed o) = reasons.Refused MALFORMED
refused_as (faults.UnknownIssuer i) = reasons.Refused MALFORMED
refused_as (faults.WrongKind k) = reasons.Refused MALFORMED

-- the same length, and the same bytes but for the first and the tag
abbrev pub CarriesSame : List ℕ → List ℕ → Type 0
CarriesSame text new =
    (length text ≡ length new)
    × (drop 1 (take (length new - TAG_LEN) text) ≡ drop 1 (take (length new - TAG_LEN) new))

module _ (key : List ℕ) (u : LinkUse) where
  -- the bytes come to the certificate, by calls of the link that did not fail
  pub record OneComes (text : List ℕ) (c : Certificate) : Type 0 where
    pub calls : List LinkCall
    pub comes : Comes key text calls c
    pub quiet : IsQuiet u.node u.before u.after calls

  -- the bytes come to no certificate, with the link's answers and its counts
  pub record OneStops (text : List ℕ) (why : Unpresented) : Type 0 where
    pub calls : List LinkCall
    pub stops : IsOneStopped key text calls why
    pub linked : IsLinked u.node u.before u.after calls
