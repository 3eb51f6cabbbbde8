-- A grant and a denial are verdicts.
use Rattle.std.proofs.Common.{◌≡◌, ℕ, Bool, List, Option, refl, subst₂, arith}
use Rattle.stmt_codec.specs.Certificates.{Certificate}
use Rattle.taos_calculus.specs.Rules.{Line}
use Rattle.denial_link.specs.declared.link.Link.{Link}
use Rattle.taos_wire.specs.Reply as replies
use Rattle.taos_wire.specs.Reply.{LinkSent, Reply, Sent}
use Rattle.proof_cache.specs.Cached.{Cached}
use Rattle.agent_core.specs.declared.asked.Settled.{Settled}
use Rattle.agent_core.specs.declared.told.Told.{Told}
use Rattle.agent_core.specs.State.{Plan, Ask}
use Rattle.agent_core.specs.Journals.{Entry, Granted, Denied}
use Rattle.agent_core.specs.Asked.{IsGrantedAt, IsGrant, by_kept, was_kept, was_dropped, had_no_room}
use Rattle.agent_core.proofs.Onward.{granted_verdict, hit_verdict, denied_verdict}
use Rattle.object_core.specs.Operation.{Op}
use Rattle.request_course.specs.Cells.{Node, Journals, HasPlan}
use Rattle.request_course.specs.Asking.{IsUnruled, full}
use Rattle.request_course.specs.AtObject.{Seeking, Own, told_or, asks_for, gives_for, IsGuarded, object_is_full, no_ruling, denied, granted}
use Rattle.request_course.specs.Course.{Used, Course, ruled}
use Rattle.request_course.specs.Effects.{ShardStep, IsPerformed, through, no_room}
use Rattle.request_course.specs.Operations.{effect_of}
use Rattle.request_course.specs.Verdicts.{HasVerdict, RepliesAreVerdicts}
use Rattle.request_course.proofs.Roomless.{other_reply}

same_granted : (k l : Bool) (d e h s p q : ℕ) (x y : List Line) (c b : List Certificate) (m n : List ℕ) → replies.Granted k d h p x c m ≡ replies.Granted l e s q y b n → (h ≡ s) × (p ≡ q)
same_granted k l d e h s p q x y c b m n same = (cc, cc)

same_denied : (h s p q : ℕ) (x y : LinkSent) → replies.Denied h p x ≡ replies.Denied s q y → (h ≡ s) × (p ≡ q)
same_denied h s p q x y same = (cc, cc)

module _ (n : Node) (J : Journals) (h : ℕ) (plan : Plan) (planned : HasPlan n h plan) (a : Ask) where
  made_verdict : (place e : ℕ) (c : Cached) → IsGrantedAt plan (J.shards h) a place e c → HasVerdict n J h place Granted
  made_verdict place e c g = record { plan = plan; planned = planned; before = g.before; ask = a; told = Told.Miss; stands = g.stands; is = granted_verdict plan (J.shards h) a place e c g }

  grant_verdict : (place e : ℕ) (c : Cached) (kept : Bool) (settled : Settled) (own : List ℕ) → IsGrant plan (J.shards h) a place e c kept settled own → HasVerdict n J h place Granted
  grant_verdict place e c kept settled own (by_kept g) = record { plan = plan; planned = planned; before = g.before; ask = a; told = Told.Hit e; stands = g.stands; is = hit_verdict plan (J.shards h) a place e c g }
  grant_verdict place e c kept settled own (was_kept g t) = made_verdict place e c g
  grant_verdict place e c kept settled own (was_dropped g t) = made_verdict place e c g
  grant_verdict place e c kept settled own (had_no_room g at) = made_verdict place e c g

  unruled_not_granted : (own : List ℕ) (reply : Reply) → IsUnruled plan (J.shards h) h a own reply → (kept : Bool) (entry shard place : ℕ) (proof : List Line) (cites : List Certificate) (content : List ℕ) →
      reply ≡ replies.Granted kept entry shard place proof cites content → ⊥
  unruled_not_granted own reply (full at) kept entry shard place proof cites content e = cc
  unruled_not_granted own reply _ kept entry shard place proof cites content e = cc

  unruled_not_denied : (own : List ℕ) (reply : Reply) → IsUnruled plan (J.shards h) h a own reply → (shard place : ℕ) (link : LinkSent) → reply ≡ replies.Denied shard place link → ⊥
  unruled_not_denied own reply (full at) shard place link e = cc
  unruled_not_denied own reply _ shard place link e = cc

-- what is told of a grant is the grant, or a refusal
module _ (plans : List Plan) (J : ℕ → List Entry) (op : Op) (certs : List Certificate) (reading : ℕ) (told : Reply) where
  performed_granted : (steps : List ShardStep) (refused : Option Reply) → IsPerformed plans J op (effect_of op certs reading) steps refused → (kept : Bool) (entry shard place : ℕ) (proof : List Line) (cites : List Certificate) (content : List ℕ) →
      told_or refused told ≡ replies.Granted kept entry shard place proof cites content → told ≡ replies.Granted kept entry shard place proof cites content
  performed_granted steps refused (through w lets) kept entry shard place proof cites content e = e
  performed_granted steps refused (no_room {shard = h} {told = said} {reply} lacks f) kept entry shard place proof cites content e =
      absurd (other_reply h said reply (replies.Granted kept entry shard place proof cites content) 0 lacks refl (omega arith) e)
  performed_granted steps refused _ kept entry shard place proof cites content e = absurd cc

  performed_not_denied : (steps : List ShardStep) (refused : Option Reply) → IsPerformed plans J op (effect_of op certs reading) steps refused → (shard place : ℕ) (link : LinkSent) → (told ≡ replies.Denied shard place link → ⊥) → told_or refused told ≡ replies.Denied shard place link → ⊥
  performed_not_denied steps refused (through w lets) shard place link not e = not e
  performed_not_denied steps refused (no_room {shard = h} {told = said} {reply} lacks f) shard place link not e = other_reply h said reply (replies.Denied shard place link) 1 lacks refl (omega arith) e
  performed_not_denied steps refused _ shard place link not e = cc

module _ (n : Node) (J : Journals) (plan : Plan) (x : Seeking) (planned : HasPlan n x.shard plan) (shard place : ℕ) where
  ruled_granted : (own : Own) (reply : Reply) → IsGuarded n.plans plan J x own reply → (kept : Bool) (entry : ℕ) (proof : List Line) (cites : List Certificate) (content : List ℕ) →
      reply ≡ replies.Granted kept entry shard place proof cites content → HasVerdict n J shard place Granted
  ruled_granted own reply (no_ruling {own = asks} before b u) kept entry proof cites content e = absurd (unruled_not_granted n J x.shard plan planned _ asks reply u kept entry shard place proof cites content e)
  ruled_granted own reply (granted {place = p} {entry = d} {c} {kept = k} {settled} {asks} {steps} {refused} before s g performed out) kept entry proof cites content e =
      let told = performed_granted n.plans J.shards x.request.op x.certs x.reading (replies.Granted k d x.shard p c.proof c.cites (gives_for x before)) steps refused performed kept entry shard place proof cites content e in
      let (there, at) = same_granted k kept d entry x.shard shard p place c.proof proof c.cites cites (gives_for x before) content told in
      subst₂ (λ (s q : ℕ). HasVerdict n J s q Granted) there at (grant_verdict n J x.shard plan planned _ p d c k settled asks g)
  ruled_granted own reply _ kept entry proof cites content e = absurd cc

  ruled_denied : (own : Own) (reply : Reply) → IsGuarded n.plans plan J x own reply → (link : LinkSent) → reply ≡ replies.Denied shard place link → (why : Link) × HasVerdict n J shard place (Denied why)
  ruled_denied own reply (object_is_full at) link e = absurd cc
  ruled_denied own reply (no_ruling {own = asks} before b u) link e = absurd (unruled_not_denied n J x.shard plan planned _ asks reply u shard place link e)
  ruled_denied own reply (denied {place = p} {denial} {told} before s d tells) link e =
      let (there, at) = same_denied x.shard shard p place told link e in
      subst₂ (λ (s q : ℕ). (why : Link) × HasVerdict n J s q (Denied why)) there at
      (d.denied.link, record { plan = plan; planned = planned; before = d.before; ask = asks_for x before; told = Told.Miss; stands = d.stands; is = denied_verdict plan (J.shards x.shard) (asks_for x before) p denial d })
  ruled_denied own reply (granted {place = p} {entry} {c} {kept} {steps} {refused} before s g performed out) link e =
      absurd (performed_not_denied n.plans J.shards x.request.op x.certs x.reading (replies.Granted kept entry x.shard p c.proof c.cites (gives_for x before)) steps refused performed shard place link (λ same. cc) e)

module _ (n : Node) (J : Journals) (payload : List ℕ) (shard place : ℕ) where
  grants : (used : Used) (sent : Sent) → Course n J payload used sent → (kept : Bool) (entry : ℕ) (proof : List Line) (cites : List Certificate) (content : List ℕ) → sent.reply ≡ replies.Granted kept entry shard place proof cites content → HasVerdict n J shard place Granted
  grants used sent (ruled {own} {reply} t reading plan planned r) kept entry proof cites content e = ruled_granted n J plan _ planned shard place own reply r kept entry proof cites content e
  grants used sent _ kept entry proof cites content e = absurd cc

  denies : (used : Used) (sent : Sent) → Course n J payload used sent → (link : LinkSent) → sent.reply ≡ replies.Denied shard place link → (why : Link) × HasVerdict n J shard place (Denied why)
  denies used sent (ruled {own} {reply} t reading plan planned r) link e = ruled_denied n J plan _ planned shard place own reply r link e
  denies used sent _ link e = absurd cc

pub replies_are_verdicts : (n : Node) → RepliesAreVerdicts n
replies_are_verdicts n J payload used sent course shard place = (grants n J payload shard place used sent course, denies n J payload shard place used sent course)
