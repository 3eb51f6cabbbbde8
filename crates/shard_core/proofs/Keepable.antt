-- What makes a proof one that may be kept.
use Rattle.std.proofs.Common.{◌≡◌, ◌≢◌, ◌↔◌, ℕ, ◌+◌, ◌<◌, ◌≤◌, List, [], ◌∷◌, length, get_or, map, All, AllPairs, None, Some, slice_get, Global, inl, inr, refl, sym, ap, ◌∙◌, subst, arith}
use Rattle.std.specs.declared.sync.Arc.{Arc}
use Rattle.std.proofs.lemmas.Option.{same_Some, none-some, slice_get_within}
use Rattle.std.proofs.lemmas.Bool.{cases_lt}
use Rattle.std.proofs.lemmas.List.{length-map}
use Rattle.prin_term.specs.declared.term.Anchor.{Anchor}
use Rattle.prin_term.specs.Principal.{Principal}
use Rattle.stmt_codec.specs.declared.cert.Cert.{Cert}
use Rattle.stmt_codec.specs.Certificates.{Certificate, certificate}
use Rattle.stmt_codec.specs.View.{certificates}
use Rattle.taos_calculus.specs.Checking.{said_by}
use Rattle.taos_calculus.specs.Question.{claim_of}
use Rattle.taos_calculus.specs.Rules.{Claim, SpeaksFor, Line, Proves}
use Rattle.denial_link.specs.Revived.{claims}
use Rattle.proof_cache.specs.Cached.{Cached, lease_of}
use Rattle.agent_core.specs.declared.event.ShardEntry.{ShardEntry}
use Rattle.agent_core.specs.Caches.{who_at}
use Rattle.agent_core.specs.Journals.{Entry, entry, moment_at, IsKeepable}
use Rattle.shard_core.specs.Kept.{DiffersBefore, HasBegun, IsAsked, IsForEntry}
use Rattle.agent_core.specs.State.{ask_in, Plan, Ask, Event, Asks}
use Rattle.agent_core.specs.Views.{entry_of}

-- what handles say is what their certificates claim
pub said_claims : (cites : List (Arc Cert Global)) → said_by cites ≡ claims (certificates cites)
said_claims [] = refl
said_claims (c ∷ cs) = ap (λ l. claim_of (certificate c.value.body) ∷ l) (said_claims cs)

-- lines prove one fact
pub one_proved : (anchors : List Anchor) (said : List Claim) (lines : List Line) (a b c d : Principal) → Proves anchors said lines (SpeaksFor a b) → Proves anchors said lines (SpeaksFor c d) → (a ≡ c) × (b ≡ d)
one_proved anchors said lines a b c d p q =
    let same : SpeaksFor a b ≡ SpeaksFor c d = same_Some (SpeaksFor a b) (SpeaksFor c d) (sym p.last ∙ q.last) in
    (cc, cc)

pub proves_as : (anchors : List Anchor) (said : List Claim) (lines : List Line) (a b c d : Principal) → a ≡ c → b ≡ d → Proves anchors said lines (SpeaksFor a b) → Proves anchors said lines (SpeaksFor c d)
proves_as anchors said lines a b c d left right p = subst (λ (x : Principal). Proves anchors said lines (SpeaksFor c x)) right (subst (λ (x : Principal). Proves anchors said lines (SpeaksFor x b)) left p)

pub keepable_made : (plan : Plan) (before : List Entry) (ask e : ℕ) (c : Cached) → IsAsked before ask e c → Proves plan.anchors (claims c.cites) c.proof (SpeaksFor c.subject c.who) →
    c.lease ≡ lease_of c.cites → AllPairs (λ x y. x ≢ y) c.cites → All (λ x. x.from ≤ moment_at plan before ask) c.cites → IsKeepable plan before ask e c
keepable_made plan before ask e c asked proves lease apart begun = record {
  asked = asked.asked;
  told = asked.told;
  stands = asked.stands;
  subject_is = asked.subject_is;
  who_is = asked.who_is;
  proves = proves;
  lease_is = lease;
  apart = apart;
  begun = begun;
}

pub keepable_asked : (plan : Plan) (before : List Entry) (ask e : ℕ) (c : Cached) → IsKeepable plan before ask e c → IsAsked before ask e c
keepable_asked plan before ask e c k = record { asked = k.asked; told = k.told; stands = k.stands; subject_is = k.subject_is; who_is = k.who_is }

-- ---- certificates that are apart

module _ (certs : List Certificate) where
  pub differs_more : (place count : ℕ) → DiffersBefore certs place count → ((d : Certificate) → get_or certs count d ≢ get_or certs place d) → DiffersBefore certs place (count + 1)
  differs_more place count before here i d lt =
      elim (cases_lt i count) [
        | inl l ↦ before i d l
        | inr l ↦
            let same : i ≡ count = omega (arith, l, lt) in
            λ e. here d (ap (λ n. get_or certs n d) (sym same) ∙ e)
      ]

  pub apart_from : (count : ℕ) → count ≡ length certs → ((k : ℕ) → k < count → DiffersBefore certs k k) → AllPairs (λ x y. x ≢ y) certs
  apart_from count all each i j d lt within = each j (omega (arith, all, within)) i d lt

  pub differs_from : AllPairs (λ x y. x ≢ y) certs → (place : ℕ) → place < length certs → DiffersBefore certs place place
  differs_from apart place within i d lt = apart i place d lt within

-- ---- certificates that have begun

pub begun_from : (certs : List Certificate) (moment count : ℕ) → count ≡ length certs → ((k : ℕ) → k < count → HasBegun certs moment k) → All (λ x. x.from ≤ moment) certs
begun_from certs moment count all each k d lt = each k (omega (arith, all, lt)) d

pub begun_more : (certs : List Certificate) (moment count : ℕ) → ((k : ℕ) → k < count → HasBegun certs moment k) → HasBegun certs moment count → (k : ℕ) → k < count + 1 → HasBegun certs moment k
begun_more certs moment count before here k lt d =
    elim (cases_lt k count) [
      | inl l ↦ before k l d
      | inr l ↦
          let same : k ≡ count = omega (arith, l, lt) in
          subst (λ (n : ℕ). (get_or certs n d).from ≤ moment) (sym same) (here d)
    ]

pub begun_at : (certs : List Certificate) (moment : ℕ) → All (λ x. x.from ≤ moment) certs → (place : ℕ) → place < length certs → HasBegun certs moment place
begun_at certs moment all place lt d = all place d lt

-- ---- the Ask that it is for

of_event : (event : Event) (a : Ask) → Some a ≡ ask_in event → event ≡ Asks a
of_event (Asks b) a h = ap Asks (sym (same_Some a b h))
of_event _ a h = absurd (none-some a (sym h))

asks_of : (x : Entry) (a : Ask) → Some a ≡ ask_in x.event → x ≡ entry (Asks a) x.told
asks_of x a h = ap (λ (event : Event). entry event x.told) (of_event x.event a h)

pub asked_at : (before : List Entry) (ask e : ℕ) (c : Cached) (x : Entry) (a : Ask) → slice_get before ask ≡ Some x → Some a ≡ ask_in x.event → IsForEntry a e c ↔ IsAsked before ask e c
asked_at before ask e c x a at is = (
  λ f. record { asked = a; told = x.told; stands = at ∙ ap Some (asks_of x a is); subject_is = f.0; who_is = f.1 },
  λ k.
      let same : x ≡ entry (Asks k.asked) k.told = same_Some x (entry (Asks k.asked) k.told) (sym at ∙ k.stands) in
      let one : a ≡ k.asked = same_Some a k.asked (is ∙ ap (λ (y : Entry). ask_in y.event) same) in
      (k.subject_is ∙ ap (λ (y : Ask). y.subject) (sym one), ap (λ (y : Ask). who_at y.list e) one ∙ k.who_is),
)

pub never_asked : (before : List Entry) (ask e : ℕ) (c : Cached) (x : Entry) → slice_get before ask ≡ Some x → None ≡ ask_in x.event → IsAsked before ask e c → ⊥
never_asked before ask e c x at none k =
    let same : x ≡ entry (Asks k.asked) k.told = same_Some x (entry (Asks k.asked) k.told) (sym at ∙ k.stands) in
    none-some k.asked (none ∙ ap (λ (y : Entry). ask_in y.event) same)

-- an entry stands there
pub asked_within : (entries : List ShardEntry) (ask e : ℕ) (c : Cached) → IsAsked (map entry_of entries) ask e c → ask < length entries
asked_within entries ask e c k = omega (arith, slice_get_within (map entry_of entries) ask (entry (Asks k.asked) k.told) k.stands, length-map entries entry_of)
