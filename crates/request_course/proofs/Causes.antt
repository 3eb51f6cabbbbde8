-- The code of a certificate that is refused, and the faults of the link.
use Rattle.std.proofs.Common.{◌≡◌, ℕ, ◌+◌, ◌-◌, ◌^◌, ◌<◌, ◌≤◌, List, [], ◌∷◌, refl, subst, arith}
use Rattle.std.specs.Prelude.{Option}
use Rattle.object_core.specs.Operation.{Op}
use Rattle.stmt_codec.specs.Certificates.{Certificate}
use Rattle.taos_wire.specs.Reply.{Reply, Granted, CertRefused}
use Rattle.agent_core.specs.State.{Plan, Ask}
use Rattle.agent_core.specs.Journals.{Entry}
use Rattle.request_course.specs.Asking.{IsUnruled, full}
use Rattle.request_course.specs.AtObject.{Seeking, Own, told_or, gives_for, IsGuarded, no_ruling, granted}
use Rattle.request_course.specs.Cells.{Node, Journals}
use Rattle.request_course.specs.Effects.{ShardStep, IsPerformed, through, no_room}
use Rattle.request_course.specs.Operations.{effect_of}
use Rattle.request_course.specs.Credentials.{LinkAnswer, Failed, LinkCall, IsRefused, refused, CountsAs}
use Rattle.request_course.specs.Course.{cert_refused, ruled}
use Rattle.request_course.specs.Laws.{CodesAreKnown, FaultsAreCounted, failed_in}
use Rattle.request_course.proofs.Roomless.{other_reply}

abbrev IsCode : ℕ → Type 0
IsCode code = (1 ≤ code) × (code ≤ 6)

one_code : (key text : List ℕ) (calls : List LinkCall) (code : ℕ) → IsRefused key text calls code → IsCode code
one_code key text calls code (refused issued fits) = (fits.0, omega (arith, fits.1))
one_code key text calls code _ = (omega arith, omega arith)

same_code : (i j c d : ℕ) → CertRefused i c ≡ CertRefused j d → c ≡ d
same_code i j c d e = cc

unruled_code : (plan : Plan) (journal : List Entry) (shard : ℕ) (a : Ask) (own : List ℕ) (reply : Reply) → IsUnruled plan journal shard a own reply → (index code : ℕ) → reply ≡ CertRefused index code → ⊥
unruled_code plan journal shard a own reply (full at) index code e = absurd cc
unruled_code plan journal shard a own reply _ index code e = absurd cc

performed_code : (plans : List Plan) (J : ℕ → List Entry) (op : Op) (certs : List Certificate) (reading : ℕ) (told : Reply) (steps : List ShardStep) (after : Option Reply) → IsPerformed plans J op (effect_of op certs reading) steps after → (index code : ℕ) →
    (told ≡ CertRefused index code → ⊥) → told_or after told ≡ CertRefused index code → ⊥
performed_code plans J op certs reading told steps after (through w lets) index code not e = not e
performed_code plans J op certs reading told steps after (no_room {shard} {told = said} {reply} lacks f) index code not e = absurd (other_reply shard said reply (CertRefused index code) 6 lacks refl (omega arith) e)
performed_code plans J op certs reading told steps after _ index code not e = absurd cc

guarded_code : (plans : List Plan) (plan : Plan) (J : Journals) (x : Seeking) (own : Own) (reply : Reply) → IsGuarded plans plan J x own reply → (index code : ℕ) → reply ≡ CertRefused index code → ⊥
guarded_code plans plan J x own reply (no_ruling {own = asks} before b u) index code e = unruled_code plan (J.shards x.shard) x.shard _ asks reply u index code e
guarded_code plans plan J x own reply (granted {place} {entry} {c} {kept} {steps} {refused = after} before s g p out) index code e =
    performed_code plans J.shards x.request.op x.certs x.reading (Granted kept entry x.shard place c.proof c.cites (gives_for x before)) steps after p index code (λ same. cc) e
guarded_code plans plan J x own reply _ index code e = absurd cc

pub codes_are_known : (n : Node) → CodesAreKnown n
codes_are_known n J payload used sent (cert_refused {r} {key} {calls = by} {index = i} {code = c} built first) index code e =
    subst IsCode (same_code i index c code e) (one_code n.relay_key first.text first.last c first.refused)
codes_are_known n J payload used sent (ruled {own} {reply} t reading plan planned is) index code e = absurd (guarded_code n.plans plan J _ own reply is index code e)
codes_are_known n J payload used sent _ index code e = absurd cc

-- ---- faults of the link

one_fault : (before middle now : ℕ) (answer : LinkAnswer) → CountsAs before middle answer → middle ≤ now → now < 2 ^ 64 - 1 → before + failed_in answer ≤ middle
one_fault before middle now Failed counts within below = omega (arith, counts.0, counts.1, within, below)
one_fault before middle now _ counts within below = omega (arith, counts)

pub faults_are_counted : FaultsAreCounted
faults_are_counted before now [] f below = omega (arith, f)
faults_are_counted before now (c ∷ calls) f below =
    let later = faults_are_counted f.0 now calls f.2 below in
    let first = one_fault before f.0 now c.answer f.1 (omega (arith, later)) below in
    omega (arith, later, first)
