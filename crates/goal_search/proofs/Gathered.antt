-- What stays where a pool widens, and what comes in.
use Rattle.std.proofs.Common.{◌≡◌, ℕ, ◌+◌, ◌<◌, ◌≤◌, inl, inr, List, [], ◌∷◌, ◌++◌, Bool, true, Some, slice_get, length, map, refl, sym, ap, subst, ◌∙◌, arith, All, append_assoc}
use Rattle.std.proofs.lemmas.List.{get_or_append_left, append-nil, length-append}
use Rattle.std.proofs.lemmas.List.Elements.{All-weaker}
use Rattle.std.proofs.lemmas.Option.{none-some, slice_get_within, get_or_from_slice_get}
use Rattle.prin_term.specs.Principal.{Principal, Key}
use Rattle.stmt_codec.specs.Certificates.{Certificate, speaker_of, IsWithinLimits}
use Rattle.stmt_codec.specs.Distinct.{met}
use Rattle.stmt_codec.proofs.Firsts.{met-grows, met-append}
use Rattle.taos_calculus.specs.Canonical.{post_order}
use Rattle.taos_calculus.specs.Rules.{Claim}
use Rattle.term_pool.specs.declared.cited.Cited.{Cited}
use Rattle.term_pool.specs.Claims.{CitedIn, claim_by}
use Rattle.term_pool.specs.Pool.{Pooled, Interns}
use Rattle.term_pool.proofs.Few.{cert_few}
use Rattle.term_pool.proofs.Picking.{map_same}
use Rattle.goal_search.proofs.Pushed.{pushed_at}
use Rattle.goal_search.specs.Taking.{Holds, Widens, principal_at}

pub widens_none : (pool : Pooled) (n : ℕ) → Widens pool pool n
widens_none pool n = record { more = []; longer = sym (append-nil pool.terms); few = omega arith; room = refl }

pub widens_then : (a b c : Pooled) (n m k : ℕ) → Widens a b n → Widens b c m → n + m ≤ k → Widens a c k
widens_then a b c n m k h g le = record {
  more = h.more ++ g.more;
  longer = g.longer ∙ ap (λ (t : List Principal). t ++ g.more) h.longer ∙ append_assoc a.terms h.more g.more;
  few = omega (arith, h.few, g.few, le);
  room = g.room ∙ h.room;
}

pub widens_met : (old new : Pooled) (ps : List Principal) (n : ℕ) → new.terms ≡ met old.terms ps → new.room ≡ old.room →
    length (met old.terms ps) ≤ length old.terms + n → Widens old new n
widens_met old new ps n e room few =
    let (more, g) = met-grows old.terms ps in
    record { more = more; longer = e ∙ g; few = omega (arith, few, ap length e); room = room }

module _ (old new : Pooled) (n : ℕ) (w : Widens old new n) where
  pub widens_length : length old.terms ≤ length new.terms
  widens_length = omega (arith, ap length w.longer, length-append old.terms w.more)

  pub widens_named : (i : ℕ) → i < length old.terms → principal_at new i ≡ principal_at old i
  widens_named i h = rw w.longer (get_or_append_left old.terms w.more (Key 0) i h)

  cited_still : (c : Cited) → CitedIn (length old.terms) c → CitedIn (length new.terms) c
  cited_still c h = record { speaker = omega (arith, h.speaker, widens_length); left = omega (arith, h.left, widens_length); right = omega (arith, h.right, widens_length) }

  same_claim : (c : Cited) → CitedIn (length old.terms) c → claim_by (principal_at new) c ≡ claim_by (principal_at old) c
  same_claim c h = λ k. record { speaker = widens_named c.speaker h.speaker k; left = widens_named c.left h.left k; right = widens_named c.right h.right k }

  pub widens_holds : (held : List Cited) (claims : List Claim) (taken : List Bool) → Holds old held claims taken → Holds new held claims taken
  widens_holds held claims taken g = record {
    held_in = λ i c e t. cited_still c (g.held_in i c e t);
    claims_are = λ i c e t. g.claims_are i c e t ∙ ap (λ (x : Claim). Some x) (sym (same_claim c (g.held_in i c e t)));
    placed = g.placed;
  }

  pub widens_numbers : (numbers : List ℕ) → All (λ i. i < length old.terms) numbers → All (λ i. i < length new.terms) numbers
  widens_numbers numbers all = All-weaker (λ i. i < length old.terms) (λ i. i < length new.terms) (λ i h. omega (arith, h, widens_length)) numbers all

  pub widens_map : (numbers : List ℕ) → All (λ i. i < length old.terms) numbers → map (principal_at new) numbers ≡ map (principal_at old) numbers
  widens_map numbers all =
      map_same (principal_at new) (principal_at old) numbers (All-weaker (λ i. i < length old.terms) (λ i. principal_at new i ≡ principal_at old i) widens_named numbers all)

pub holds_none : (pool : Pooled) (claims : List Claim) (taken : List Bool) → Holds pool [] claims taken
holds_none pool claims taken = record { held_in = λ i c e t. absurd (none-some c e); claims_are = λ i c e t. absurd (none-some c e); placed = λ i c e. absurd (none-some c e) }

-- a number's principal
pub interned_within : (old new : Pooled) (p : Principal) (id : ℕ) → Interns old new p id → id < length new.terms
interned_within old new p id t = slice_get_within new.terms id p t.number.stands

pub interned_named : (old new : Pooled) (p : Principal) (id : ℕ) → Interns old new p id → principal_at new id ≡ p
interned_named old new p id t = get_or_from_slice_get new.terms id p (Key 0) t.number.stands

met_longer : (terms ps : List Principal) → length terms ≤ length (met terms ps)
met_longer terms ps = let (more, e) = met-grows terms ps in omega (arith, ap length e, length-append terms more)

-- there is room for the terms of a certificate, one after another
module _ (terms : List Principal) (c : Certificate) (limits : IsWithinLimits c) (room : ℕ) (few : length terms + 16 ≤ room) where
  abbrev first : List Principal
  first = met terms (post_order (speaker_of c))

  abbrev second : List Principal
  second = met first (post_order c.left)

  all_few : length (met second (post_order c.right)) ≤ length terms + 16
  all_few =
      omega (
        arith,
        cert_few terms c limits,
        ap length (met-append terms (post_order (speaker_of c) ++ post_order c.left) (post_order c.right)),
        ap (λ (t : List Principal). length (met t (post_order c.right))) (met-append terms (post_order (speaker_of c)) (post_order c.left)),
      )

  pub room_right : length (met second (post_order c.right)) ≤ room
  room_right = omega (arith, all_few, few)

  pub room_left : length second ≤ room
  room_left = omega (arith, room_right, met_longer second (post_order c.right))

  pub room_speaker : length first ≤ room
  room_speaker = omega (arith, room_left, met_longer first (post_order c.left))

-- a certificate's terms one after another
module _ (a b c d : Pooled) (sp l r : Principal) (x y z : ℕ) (h : Interns a b sp x) (k : Interns b c l y) (m : Interns c d r z) where
  pub all_met : d.terms ≡ met a.terms (post_order sp ++ post_order l ++ post_order r)
  all_met =
      m.terms ∙ ap (λ (t : List Principal). met t (post_order r)) (k.terms ∙ ap (λ (t : List Principal). met t (post_order l)) h.terms ∙ sym (met-append a.terms (post_order sp) (post_order l))) ∙
      sym (met-append a.terms (post_order sp ++ post_order l) (post_order r))

  pub same_room : d.room ≡ a.room
  same_room = m.room ∙ k.room ∙ h.room

  bc : Widens b c (length (met b.terms (post_order l)))
  bc = widens_met b c (post_order l) (length (met b.terms (post_order l))) k.terms k.room (omega arith)

  cd : Widens c d (length (met c.terms (post_order r)))
  cd = widens_met c d (post_order r) (length (met c.terms (post_order r))) m.terms m.room (omega arith)

  pub three_within : (x < length d.terms) × (y < length d.terms) × (z < length d.terms)
  three_within = (
    omega (arith, interned_within a b sp x h, widens_length b c (length (met b.terms (post_order l))) bc, widens_length c d (length (met c.terms (post_order r))) cd),
    omega (arith, interned_within b c l y k, widens_length c d (length (met c.terms (post_order r))) cd),
    interned_within c d r z m,
  )

  pub three_named : (principal_at d x ≡ sp) × (principal_at d y ≡ l) × (principal_at d z ≡ r)
  three_named =
      let low : x < length c.terms = omega (arith, interned_within a b sp x h, widens_length b c (length (met b.terms (post_order l))) bc) in (
        widens_named c d (length (met c.terms (post_order r))) cd x low ∙ widens_named b c (length (met b.terms (post_order l))) bc x (interned_within a b sp x h) ∙ interned_named a b sp x h,
        widens_named c d (length (met c.terms (post_order r))) cd y (interned_within b c l y k) ∙ interned_named b c l y k,
        interned_named c d r z m,
      )

-- one certificate more is held
pub holds_more : (old new : Pooled) (n : ℕ) (held : List Cited) (claims : List Claim) (taken : List Bool) (c : Cited) → Widens old new n → c.place ≡ length held →
    (slice_get taken (length held) ≡ Some true → CitedIn (length new.terms) c × (slice_get claims (length held) ≡ Some (claim_by (principal_at new) c))) →
    Holds old held claims taken → Holds new (held ++ c ∷ []) claims taken
holds_more old new n held claims taken c w at is g =
    let more : Holds new held claims taken = widens_holds old new n w held claims taken g in
    record {
      held_in = λ i d e t.
          elim (pushed_at held c i d e) [
            | inl p ↦ more.held_in i d p t
            | inr p ↦ subst (λ (x : Cited). CitedIn (length new.terms) x) p.1 (is (ap (slice_get taken) (sym p.0) ∙ t)).0
          ];
      claims_are = λ i d e t.
          elim (pushed_at held c i d e) [
            | inl p ↦ more.claims_are i d p t
            | inr p ↦ ap (slice_get claims) p.0 ∙ (is (ap (slice_get taken) (sym p.0) ∙ t)).1 ∙ ap (λ (x : Cited). Some (claim_by (principal_at new) x)) p.1
          ];
      placed = λ i d e. elim (pushed_at held c i d e) [ inl p ↦ more.placed i d p | inr p ↦ ap (λ (x : Cited). x.place) (sym p.1) ∙ at ∙ sym p.0 ];
    }
