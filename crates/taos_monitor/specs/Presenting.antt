-- What is promised of opening all that a request presents.
use Rattle.std.specs.Prelude.{ℕ, List}
use Rattle.stmt_codec.specs.Certificates.{Certificate}
use Rattle.relay_core.specs.declared.presenting.Unpresented.{Unpresented}
use Rattle.relay_core.specs.declared.presenting.Unpresented.TheVariants as reasons
use Rattle.taos_monitor.specs.declared.refusal.Refusal.{Refusal}
use Rattle.taos_monitor.specs.declared.refusal.Refusal.TheVariants as refusals
use Rattle.request_course.specs.Credentials.{LinkCall, AreOpened, IsFirstRefused, IsFirstFailed, IsInterrupted, LinkUse, IsLinked, IsQuiet}

-- the reason at a place, as the refusal
abbrev pub refused_at : ℕ → Unpresented → Refusal
refused_at index (reasons.Refused code) = refusals.CertRefused index code
refused_at index reasons.LinkFailed = refusals.RelayFailed index
refused_at index reasons.NoMemory = refusals.NoMemory

-- why the first of all comes to no certificate, as the refusal says
abbrev pub AreStopped : List ℕ → List (List ℕ) → List LinkCall → Refusal → Type 0
AreStopped key texts calls (refusals.CertRefused index code) =
    IsFirstRefused key texts calls index code
AreStopped key texts calls (refusals.RelayFailed index) = IsFirstFailed key texts calls index
AreStopped key texts calls refusals.NoMemory = IsInterrupted key texts calls
AreStopped key texts calls _ = ⊥

module _ (key : List ℕ) (u : LinkUse) where
  -- all come to these certificates, by calls of the link that did not fail
  pub record AllCome (texts : List (List ℕ)) (certs : List Certificate) : Type 0 where
    pub calls : List LinkCall
    pub opened : AreOpened key texts calls certs
    pub quiet : IsQuiet u.node u.before u.after calls

  -- one comes to no certificate, with the link's answers and its counts
  pub record AllStop (texts : List (List ℕ)) (f : Refusal) : Type 0 where
    pub calls : List LinkCall
    pub stops : AreStopped key texts calls f
    pub linked : IsLinked u.node u.before u.after calls
