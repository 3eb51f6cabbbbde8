-- A certificate that is presented to a node, by its bytes, and what the relay link answered for one
-- under its issuer's own seal.
use Rattle.std.specs.Prelude.{◌≡◌, ◌≢◌, ℕ, ◌≤◌, List, [], ◌∷◌, length, All, Option, Some, None}
use Rattle.keyed_seal.specs.Tag.{tag_of}
use Rattle.sealed_cert.specs.declared.kind.TheConstants.{ISSUED, RELAYED}
use Rattle.sealed_cert.specs.Seals.{sealed_text, Spells, Opens}
use Rattle.stmt_codec.specs.Certificates.{Certificate}
use Rattle.frame_link.specs.Faults.{Rose}
use Rattle.frame_link.specs.Plan.{HasCounted}
use Rattle.frame_link.specs.Relay.{Link, Said, Gave, Refuses, IsRelayCode}
use Rattle.relay_core.specs.declared.code.TheConstants.{MALFORMED, BAD_SEAL}
use Rattle.relay_core.specs.declared.presenting.TheConstants.{BAD_RESEAL}

-- new bytes; a refusal with its code; that memory was refused; that the call failed
pub data LinkAnswer : Type 0 where
  -- new bytes, under the relay's seal for the node
  Resealed : List ℕ → LinkAnswer
  -- a refusal with its code
  Refused : ℕ → LinkAnswer
  -- memory was refused
  Lacked : LinkAnswer
  -- the call failed
  Failed : LinkAnswer

-- a call of the link: the bytes that it was given, and its answer
pub record LinkCall : Type 0 where
  pub sealed : List ℕ
  pub answer : LinkAnswer

-- the call that was given these bytes
abbrev pub call : List ℕ → LinkAnswer → LinkCall
call bytes answer = record { sealed = bytes; answer = answer }

-- the bytes begin as those of a certificate under its issuer's own seal
abbrev pub IsIssued : List ℕ → Type 0
IsIssued text = (rest : List ℕ) × (text ≡ ISSUED ∷ rest)

-- new bytes open under the relay's key to the body that was presented
pub record IsResealed (key text new : List ℕ) (c : Certificate) : Type 0 where
  pub opens : Opens key new c
  -- the tag under which the body was presented, whichever it is
  pub tag : List ℕ
  pub presented : Spells ISSUED text c tag

-- the bytes come to this certificate: opened by the node, or resealed for it with the same body
pub data Comes (key text : List ℕ) : List LinkCall → Certificate → Type 0 where
  by_node : {c : Certificate} →
      Opens key text c →
      Comes key text [] c
  by_relay : {c : Certificate} {new : List ℕ} →
      IsResealed key text new c →
      Comes key text (call text (Resealed new) ∷ []) c

-- the bytes come to no certificate, and the code says why
pub data IsRefused (key text : List ℕ) : List LinkCall → ℕ → Type 0 where
  malformed :
      (IsIssued text → ⊥) → ((c : Certificate) (tag : List ℕ) → Spells RELAYED text c tag → ⊥) →
      IsRefused key text [] MALFORMED
  bad_seal : (c : Certificate) (tag : List ℕ) →
      Spells RELAYED text c tag → tag ≢ tag_of key (sealed_text RELAYED c) →
      IsRefused key text [] BAD_SEAL
  refused : {code : ℕ} →
      IsIssued text → IsRelayCode code →
      IsRefused key text (call text (Refused code) ∷ []) code
  bad_reseal : {new : List ℕ} →
      IsIssued text → ((c : Certificate) → IsResealed key text new c → ⊥) →
      IsRefused key text (call text (Resealed new) ∷ []) BAD_RESEAL

-- ---- what a link tells

-- the call answers what is said, unless memory was refused or the call failed
abbrev pub AnswersAs : Said → LinkAnswer → Type 0
AnswersAs said (Resealed new) = said ≡ Gave new
AnswersAs said (Refused code) = said ≡ Refuses code
AnswersAs said Lacked = Unit {0}
AnswersAs said Failed = Unit {0}

-- the call answers what the link tells of its answers, where it tells them
abbrev pub IsToldAs : Option (ℕ → List ℕ → Said) → ℕ → LinkCall → Type 0
IsToldAs None node c = Unit {0}
IsToldAs (Some says) node c = AnswersAs (says node c.sealed) c.answer

-- its count rose in a call that failed, and in any other stayed as it was
abbrev pub CountsAs : ℕ → ℕ → LinkAnswer → Type 0
CountsAs before now (Resealed new) = now ≡ before
CountsAs before now (Refused code) = now ≡ before
CountsAs before now Lacked = now ≡ before
CountsAs before now Failed = (before ≤ now) × Rose before now

-- the same of calls, one after the other
abbrev pub FailedAs : ℕ → ℕ → List LinkCall → Type 0
FailedAs before now [] = now ≡ before
FailedAs before now (c ∷ calls) =
    (middle : ℕ) × CountsAs before middle c.answer × FailedAs middle now calls

-- the link was called once for each of these, and says the same as before
pub record WasCalled (before after : Link) (calls : List LinkCall) : Type 0 where
  pub made : HasCounted (length calls) before.calls after.calls
  pub says : after.says ≡ before.says

-- what a link was asked in: the node that asks, and the link before and after
pub record LinkUse : Type 0 where
  pub node : ℕ
  pub before : Link
  pub after : Link

-- what it was asked in, of these
abbrev pub link_use : ℕ → Link → Link → LinkUse
link_use node before after = record { node = node; before = before; after = after }

-- the link was called for these alone, they answer as it tells, and its count of failures went with
-- them
pub record IsLinked (node : ℕ) (before after : Link) (calls : List LinkCall) : Type 0 where
  pub called : WasCalled before after calls
  pub told : All (IsToldAs before.says node) calls
  pub failed : FailedAs before.faults after.faults calls

-- the link was called for these alone, they answer as it tells, and none failed
pub record IsQuiet (node : ℕ) (before after : Link) (calls : List LinkCall) : Type 0 where
  pub called : WasCalled before after calls
  pub told : All (IsToldAs before.says node) calls
  pub steady : after.faults ≡ before.faults
  pub none : All (λ (c : LinkCall). c.answer ≢ Failed) calls
