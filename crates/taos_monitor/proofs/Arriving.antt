-- What is known of a request, and what is answered where its certificates do not come.
use Rattle.std.proofs.Common.{◌≡◌, ◌≤◌, ℕ, List, Some, None, refl}
use Rattle.std.specs.Prelude.{Option, IsSome}
use Rattle.std.proofs.lemmas.Bool.{false≢true}
use Rattle.taos_wire.specs.Request.{Request, IsAsked}
use Rattle.taos_wire.specs.Reply.{sealed}
use Rattle.taos_monitor.specs.declared.refusal.Refusal.{Refusal}
use Rattle.taos_monitor.specs.declared.refusal.Refusal.TheVariants as refusals
use Rattle.taos_monitor.specs.Refusals.{refusal}
use Rattle.request_course.specs.Cells.{Node, Journals}
use Rattle.request_course.specs.Credentials.{LinkCall}
use Rattle.taos_monitor.specs.Presenting.{AreStopped}
use Rattle.request_course.specs.Course.{CourseAfter, only_calls, cert_refused, relay_failed, unopened}

-- an option that is none, and one that is some
pub none_of : {X : Type 0} (o : Option X) → (IsSome o → ⊥) → o ≡ None
none_of None none = refl
none_of (Some x) none = absurd (none refl)

pub some_of : {X : Type 0} (o : Option X) → IsSome o → (x : X) × (o ≡ Some x)
some_of None some = absurd (false≢true some)
some_of (Some x) some = (x, refl)

-- the first certificate that comes to none, or no memory for those that do
pub not_opened : (n : Node) (past J : Journals) (r : Request) (calls : List LinkCall) (f : Refusal) → AreStopped n.relay_key r.certs calls f →
    (payload key : List ℕ) → IsAsked n.channels payload r key → CourseAfter n past J payload (only_calls calls) (sealed key r (refusal f))
not_opened n past J r calls (refusals.CertRefused index code) stops payload key asked = cert_refused asked stops
not_opened n past J r calls (refusals.RelayFailed index) stops payload key asked = relay_failed asked stops
not_opened n past J r calls refusals.NoMemory stops payload key asked = unopened asked stops
not_opened n past J r calls _ stops payload key asked = absurd stops
