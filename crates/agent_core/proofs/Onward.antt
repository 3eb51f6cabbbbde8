-- What stands in a journal stands in one that goes on, and is a verdict.
use Rattle.std.proofs.Common.{◌≡◌, ℕ, ◌≤◌, Bool, List, [], ◌∷◌, ◌++◌, length, length-append, sym, ap, ◌∙◌, append_assoc, append-nil, arith}
use Rattle.proof_cache.specs.Cached.{Cached}
use Rattle.agent_core.specs.declared.asked.Denial.{Denial}
use Rattle.agent_core.specs.declared.asked.Settled.{Settled}
use Rattle.agent_core.specs.declared.told.Told.{Told}
use Rattle.agent_core.specs.State.{Plan, Ask, Event}
use Rattle.agent_core.specs.Journals.{Entry, Stands, Begins, IsVerdict, Granted, Denied, granted, denied}
use Rattle.agent_core.specs.Asked.{IsGrantedAt, IsHitAt, IsDeniedAt, IsTold, IsToldOf, IsGrant, by_kept, was_kept, was_dropped, had_no_room}
use Rattle.agent_core.proofs.Hits.{kept_grants}

pub begins_itself : {E : Type 0} (journal : List E) → Begins journal journal
begins_itself journal = record { rest = []; is = sym (append-nil journal) }

pub begins_on : {E : Type 0} {front xs ys : List E} → Begins front xs → Begins xs ys → Begins front ys
begins_on {front = front} a b = record { rest = a.rest ++ b.rest; is = b.is ∙ (ap (λ l. l ++ b.rest) a.is ∙ append_assoc front a.rest b.rest) }

pub stands_on : {E : Type 0} {xs ys before : List E} {place : ℕ} {e : E} → Stands xs place before e → Begins xs ys → Stands ys place before e
stands_on {before = before} {e = e} s b =
    record { rest = s.rest ++ b.rest; is = b.is ∙ (ap (λ l. l ++ b.rest) s.is ∙ append_assoc before (e ∷ s.rest) b.rest); placed = s.placed }

module _ (plan : Plan) (xs ys : List Entry) (a : Ask) (goes : Begins xs ys) where
  pub granted_stays : (place e : ℕ) (c : Cached) → IsGrantedAt plan xs a place e c → IsGrantedAt plan ys a place e c
  granted_stays place e c g = record {
    before = g.before;
    moment = g.moment;
    certs = g.certs;
    stands = stands_on g.stands goes;
    judged = g.judged;
    granted = g.granted;
  }

  pub denied_stays : (place : ℕ) (denial : Denial) → IsDeniedAt plan xs a place denial → IsDeniedAt plan ys a place denial
  denied_stays place denial d = record {
    before = d.before;
    moment = d.moment;
    certs = d.certs;
    stands = stands_on d.stands goes;
    judged = d.judged;
    denied = d.denied;
  }

  pub hit_stays : (place e : ℕ) (c : Cached) → IsHitAt plan xs a place e c → IsHitAt plan ys a place e c
  hit_stays place e c h = record {
    before = h.before;
    moment = h.moment;
    certs = h.certs;
    stands = stands_on h.stands goes;
    judged = h.judged;
    proof = h.proof;
    found = h.found;
  }

  pub event_stays : (place : ℕ) (event : Event) (told : Told) → IsToldOf plan xs a event place told → IsToldOf plan ys a event place told
  event_stays place event told t = (t.0, stands_on t.1 goes)

  pub told_stays : (place : ℕ) (told : Told) → IsTold plan xs a place told → IsTold plan ys a place told
  told_stays place told t = (t.0, stands_on t.1 goes)

  -- a journal at its limit does not go on within it
  pub full_stays : length xs ≡ plan.limit → length ys ≤ plan.limit → length ys ≡ plan.limit
  full_stays full within = omega (arith, full, within, ap (λ (l : List Entry). length l) goes.is, length-append xs goes.rest)

  pub grant_stays : (place e : ℕ) (c : Cached) (kept : Bool) (settled : Settled) (own : List ℕ) → length ys ≤ plan.limit →
      IsGrant plan xs a place e c kept settled own → IsGrant plan ys a place e c kept settled own
  grant_stays place e c kept settled own within (by_kept h) = by_kept (hit_stays place e c h)
  grant_stays place e c kept settled own within (was_kept g t) = was_kept (granted_stays place e c g) (t.0, stands_on t.1 goes)
  grant_stays place e c kept settled own within (was_dropped g t) = was_dropped (granted_stays place e c g) (t.0, stands_on t.1 goes)
  grant_stays place e c kept settled own within (had_no_room g full) = had_no_room (granted_stays place e c g) (full_stays full within)

-- ---- an answer is a verdict

module _ (plan : Plan) (journal : List Entry) (a : Ask) (place : ℕ) where
  pub granted_verdict : (e : ℕ) (c : Cached) → (g : IsGrantedAt plan journal a place e c) → IsVerdict plan g.before a Granted
  granted_verdict e c g = granted g.judged (record { place = e; entry = g.granted.grant; stands = g.granted.first.stands; has_right = g.granted.first.has_right; speaks = g.granted.first.holds })

  pub denied_verdict : (denial : Denial) → (d : IsDeniedAt plan journal a place denial) → IsVerdict plan d.before a (Denied d.denied.link)
  denied_verdict denial d = denied d.judged d.denied.none d.denied.first

  pub hit_verdict : (e : ℕ) (c : Cached) → (h : IsHitAt plan journal a place e c) → IsVerdict plan h.before a Granted
  hit_verdict e c h = kept_grants plan h.before a e h.moment h.certs c h.judged h.proof
