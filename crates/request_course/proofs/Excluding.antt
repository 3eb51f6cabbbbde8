-- What came to its object is refused for nothing before that.
use Rattle.std.proofs.Common.{◌≡◌, ◌≢◌, ◌⊎◌, ℕ, ◌<◌, ◌≤◌, List, Option, None, Some, refl, sym, subst, ◌∙◌, inl, inr, arith}
use Rattle.std.proofs.lemmas.Option.{same_Some}
use Rattle.keyed_seal.specs.Keys.{key_of}
use Rattle.taos_wire.specs.Request.{Request, Spells, IsSealed}
use Rattle.taos_wire.specs.Reply.{Reply, status_of}
use Rattle.taos_wire.proofs.RequestLaws.{spelled_once}
use Rattle.object_core.specs.Operation.{Op}
use Rattle.object_core.specs.Shelving.{fixed_at}
use Rattle.stmt_codec.specs.Certificates.{Certificate}
use Rattle.agent_core.specs.State.{Plan, Ask}
use Rattle.agent_core.specs.Journals.{Entry}
use Rattle.request_course.specs.Asking.{IsUnruled, full, replayed, channel_full}
use Rattle.request_course.specs.AtObject.{Seeking, Own, told_or, IsGuarded, object_is_full, no_ruling, denied, granted}
use Rattle.request_course.specs.Cells.{Node, Journals}
use Rattle.request_course.specs.Credentials.{LinkCall, AreOpened}
use Rattle.request_course.specs.Course.{Arrival, malformed, unknown_channel, bad_seal, cert_refused, relay_failed, unknown_object, ruled}
use Rattle.request_course.specs.Effects.{ShardStep, IsPerformed, through, not_held, no_room, no_place}
use Rattle.request_course.specs.Operations.{effect_of}
use Rattle.request_course.specs.Laws.{ArrivalExcludes}
use Rattle.request_course.proofs.Firsts.{opened_or_refused, opened_or_failed}
use Rattle.request_course.proofs.Roomless.{room_status}

-- a status of what came to its object
abbrev IsLate : ℕ → Type 0
IsLate s = (s < 2) ⊎ ((s ≡ 5) ⊎ ((s ≡ 7) ⊎ (10 ≤ s)))

ruling : (s : ℕ) → s < 2 → IsLate s
ruling s less = inl less

late : (s : ℕ) → 10 ≤ s → IsLate s
late s more = inr (inr (inr more))

unruled_late : (plan : Plan) (journal : List Entry) (shard : ℕ) (a : Ask) (own : List ℕ) (reply : Reply) → IsUnruled plan journal shard a own reply → IsLate (status_of reply)
unruled_late plan journal shard a own reply (replayed t) = inr (inl refl)
unruled_late plan journal shard a own reply (channel_full t) = inr (inr (inl refl))
unruled_late plan journal shard a own reply (full at) = late 10 (omega arith)
unruled_late plan journal shard a own reply _ = late 11 (omega arith)

performed_late : (plans : List Plan) (J : ℕ → List Entry) (op : Op) (certs : List Certificate) (reading : ℕ) (told : Reply) (steps : List ShardStep) (refused : Option Reply) →
    IsLate (status_of told) → IsPerformed plans J op (effect_of op certs reading) steps refused → IsLate (status_of (told_or refused told))
performed_late plans J op certs reading told steps refused is (through w lets) = is
performed_late plans J op certs reading told steps refused is (not_held digest so w none) = late 13 (omega arith)
performed_late plans J op certs reading told steps refused is (no_room {shard} {told = said} {reply} lacks f) = let status = room_status shard said reply lacks in late (status_of reply) (omega (arith, status))
performed_late plans J op certs reading told steps refused is (no_place f) = late 10 (omega arith)

guarded_late : (plans : List Plan) (plan : Plan) (J : Journals) (x : Seeking) (own : Own) (reply : Reply) → IsGuarded plans plan J x own reply → IsLate (status_of reply)
guarded_late plans plan J x own reply (object_is_full at) = late 10 (omega arith)
guarded_late plans plan J x own reply (no_ruling {own = asks} before b u) = unruled_late plan (J.shards x.shard) x.shard _ asks reply u
guarded_late plans plan J x own reply (denied before s d tells) = ruling 1 (omega arith)
guarded_late plans plan J x own reply (granted {steps} {refused} before s g p out) = performed_late plans J.shards x.request.op x.certs x.reading _ steps refused (ruling 0 (omega arith)) p

-- a refusal of what was presented, or of the object's number
abbrev IsPresented : ℕ → Type 0
IsPresented s = (s ≢ 2) × (s ≢ 3) × (s ≢ 4)

abbrev Excludes : ℕ → Type 0 → Type 0
Excludes s Same = (s ≢ 2) × (s ≢ 3) × (s ≢ 4) × (Same → (s ≢ 6) × (s ≢ 8) × (s ≢ 9))

excluded : (s : ℕ) (Same : Type 0) → IsPresented s → (Same → ⊥) → Excludes s Same
excluded s Same (a, b, c) never = (a, b, c, λ same. absurd (never same))

nothing_there : {X : Type 0} (x : X) → None ≡ Some x → ⊥
nothing_there x e = absurd cc

module _ (n : Node) (payload : List ℕ) (t : Arrival n payload) where
  abbrev asked : Request
  asked = t.request

  same_request : (r : Request) → Spells r payload → r ≡ asked
  same_request r spelled = spelled_once r asked payload spelled t.arrived.presented.asked.spelled

  keyed_so : (r : Request) → Spells r payload → key_of n.channels r.channel ≡ Some t.key
  keyed_so r spelled = subst (λ (x : Request). key_of n.channels x.channel ≡ Some t.key) (sym (same_request r spelled)) t.arrived.presented.asked.keyed

  opened_so : (r : Request) (calls : List LinkCall) → Spells r payload → calls ≡ t.calls → AreOpened n.relay_key r.certs calls t.certs
  opened_so r calls spelled same =
      subst (λ (l : List LinkCall). AreOpened n.relay_key r.certs l t.certs) (sym same)
      (subst (λ (x : Request). AreOpened n.relay_key x.certs t.calls t.certs) (sym (same_request r spelled)) t.arrived.presented.opened)

pub arrival_excludes : (n : Node) → ArrivalExcludes n
arrival_excludes n J payload used sent t (malformed none reads) = absurd (none t.request t.arrived.presented.asked.spelled)
arrival_excludes n J payload used sent t (unknown_channel r spelled none) = absurd (nothing_there t.key (sym none ∙ keyed_so n payload t r spelled))
arrival_excludes n J payload used sent t (bad_seal r key spelled keyed other) =
    absurd (other (subst (λ (k : List ℕ). IsSealed k payload) (same_Some t.key key (sym (keyed_so n payload t r spelled) ∙ keyed)) t.arrived.presented.asked.seal))
arrival_excludes n J payload used sent t (cert_refused {r} {key} {calls = by} {index} {code} asked first) =
    excluded 6 (used.calls ≡ t.calls) (λ e. cc, λ e. cc, λ e. cc)
    (λ same. opened_or_refused n.relay_key r.certs used.calls t.certs index code (opened_so n payload t r used.calls asked.spelled same) first)
arrival_excludes n J payload used sent t (relay_failed {r} {key} {calls = by} {index} asked first) =
    excluded 8 (used.calls ≡ t.calls) (λ e. cc, λ e. cc, λ e. cc)
    (λ same. opened_or_failed n.relay_key r.certs used.calls t.certs index (opened_so n payload t r used.calls asked.spelled same) first)
arrival_excludes n J payload used sent t (unknown_object {r} {key} {calls = by} {certs} opened none) =
    absurd (nothing_there t.object (sym none ∙ subst (λ (x : Request). fixed_at n.objects x.object ≡ Some t.object) (sym (same_request n payload t r opened.asked.spelled)) t.arrived.there))
arrival_excludes n J payload used sent t (ruled {own} {reply} came reading plan planned is) =
    let late = guarded_late n.plans plan J _ own reply is in
    (λ e. omega (arith, late, e), λ e. omega (arith, late, e), λ e. omega (arith, late, e), λ same. (λ e. omega (arith, late, e), λ e. omega (arith, late, e), λ e. omega (arith, late, e)))
arrival_excludes n J payload used sent t _ = (λ e. cc, λ e. cc, λ e. cc, λ same. (λ e. cc, λ e. cc, λ e. cc))
