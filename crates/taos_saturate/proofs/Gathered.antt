-- What stays where a table of nodes widens, and what comes in.
use Rattle.std.proofs.Common.{◌≡◌, ℕ, ◌+◌, ◌<◌, ◌≤◌, Bool, true, false, List, [], ◌∷◌, ◌++◌, Some, slice_get, length, map, take, refl, sym, ap, ap₂, subst, ◌∙◌, arith, All, Contains, append_assoc, add-one}
use Rattle.std.proofs.lemmas.List.{get_or_default, append-nil, map-append}
use Rattle.std.proofs.lemmas.List.Elements.{All-nil, All-push, All-weaker, Contains-append_left}
use Rattle.prin_term.specs.Principal.{Principal, Key}
use Rattle.taos_calculus.specs.declared.line.Node.{Node}
use Rattle.taos_calculus.specs.Question.{picked}
use Rattle.taos_calculus.specs.Rules.{Claim}
use Rattle.taos_calculus.specs.Canonical.{post_order}
use Rattle.stmt_codec.specs.Distinct.{met}
use Rattle.taos_calculus.specs.Tables.{IsNodeTable, named, principals_of}
use Rattle.taos_calculus.proofs.Naming.{length-principals_of}
use Rattle.stmt_codec.proofs.Firsts.{met-grows, met-append}
use Rattle.term_pool.specs.declared.cited.Cited.{Cited}
use Rattle.taos_saturate.specs.Gathering.{Widens, Gathers}
use Rattle.term_pool.specs.Claims.{CitedIn, chosen_by}
use Rattle.term_pool.specs.Interning.{IsRoomy, Fits, TakesIn}
use Rattle.term_pool.specs.Claims.{claim_by}
use Rattle.stmt_codec.specs.Certificates.{Certificate, speaker_of, IsWithinLimits}
use Rattle.term_pool.proofs.Interned.{length_grown, longer_length, longer_named, named_stays, fits_next}
use Rattle.term_pool.proofs.Few.{cert_few}
use Rattle.term_pool.proofs.Picking.{map_same, picked-true, picked-false}

pub widens_none : (nodes : List Node) → IsNodeTable nodes → Widens nodes nodes 0
widens_none nodes table = record { table = table; more = []; longer = sym (append-nil (principals_of nodes)); few = omega arith }

pub widens_then : (a b c : List Node) (n m k : ℕ) → Widens a b n → Widens b c m → n + m ≤ k → Widens a c k
widens_then a b c n m k h g le = record {
  table = g.table;
  more = h.more ++ g.more;
  longer = g.longer ∙ ap (λ (t : List Principal). t ++ g.more) h.longer ∙ append_assoc (principals_of a) h.more g.more;
  few = omega (arith, h.few, g.few);
}

pub widens_taken : (old new : List Node) (ps : List Principal) (p : Principal) (id n : ℕ) → TakesIn old new ps p id →
    length (met (principals_of old) ps) ≤ length (principals_of old) + n → Widens old new n
widens_taken old new ps p id n t few =
    let (more, e) = met-grows (principals_of old) ps in
    record {
      table = t.table;
      more = more;
      longer = t.grown ∙ e;
      few = omega (arith, few, ap length t.grown, length-principals_of old, length-principals_of new);
    }

module _ (old new : List Node) (n : ℕ) (w : Widens old new n) where
  pub widens_length : length old ≤ length new
  widens_length = longer_length old new w.more w.longer

  pub widens_named : (i : ℕ) → i < length old → named new i ≡ named old i
  widens_named i h = longer_named old new w.more w.longer i h

  pub widens_contains : (p : Principal) → Contains (principals_of old) p → Contains (principals_of new) p
  widens_contains p c = subst (λ (xs : List Principal). Contains xs p) (sym w.longer) (Contains-append_left (principals_of old) w.more p c)

  pub widens_roomy : (c d : ℕ) → IsRoomy old c → c ≤ d → IsRoomy new d
  widens_roomy c d r h = record { table = w.table; room = omega (arith, r.room, h) }

  cited_still : (c : Cited) → CitedIn (length old) c → CitedIn (length new) c
  cited_still c h = record { speaker = omega (arith, h.speaker, widens_length); left = omega (arith, h.left, widens_length); right = omega (arith, h.right, widens_length) }

  same_claim : (c : Cited) → CitedIn (length old) c → claim_by (named new) c ≡ claim_by (named old) c
  same_claim c h = λ k. record { speaker = widens_named c.speaker h.speaker k; left = widens_named c.left h.left k; right = widens_named c.right h.right k }

  same_chosen : (c : Cited) → CitedIn (length old) c → chosen_by (named new) c ≡ chosen_by (named old) c
  same_chosen c h = λ k. (c.place, same_claim c h k)

  pub widens_gathers : (cited : List Cited) (chosen : List (ℕ × Claim)) → Gathers old cited chosen → Gathers new cited chosen
  widens_gathers cited chosen g = record {
    cited_in = All-weaker (CitedIn (length old)) (CitedIn (length new)) cited_still cited g.cited_in;
    chosen_is = map_same (chosen_by (named new)) (chosen_by (named old)) cited
        (All-weaker (CitedIn (length old)) (λ c. chosen_by (named new) c ≡ chosen_by (named old) c) same_chosen cited g.cited_in) ∙ g.chosen_is;
  }

  pub widens_numbers : (numbers : List ℕ) → All (λ i. i < length old) numbers → All (λ i. i < length new) numbers
  widens_numbers numbers all = All-weaker (λ i. i < length old) (λ i. i < length new) (λ i h. omega (arith, h, widens_length)) numbers all

  pub widens_map : (numbers : List ℕ) → All (λ i. i < length old) numbers → map (named new) numbers ≡ map (named old) numbers
  widens_map numbers all = map_same (named new) (named old) numbers (All-weaker (λ i. i < length old) (λ i. named new i ≡ named old i) widens_named numbers all)

pub number_contained : (nodes : List Node) (i : ℕ) (p : Principal) → i < length nodes → named nodes i ≡ p → Contains (principals_of nodes) p
number_contained nodes i p h e =
    let fits : i < length (principals_of nodes) = omega (arith, h, length-principals_of nodes) in
    (i, fits, sym (get_or_default (principals_of nodes) i (Key 0) p fits) ∙ e)

pub gathers_none : (nodes : List Node) → Gathers nodes [] []
gathers_none nodes = record { cited_in = All-nil (CitedIn (length nodes)); chosen_is = refl }

pub gathers_more : (nodes : List Node) (cited : List Cited) (chosen : List (ℕ × Claim)) (c : Cited) (place : ℕ) (claim : Claim) → Gathers nodes cited chosen → CitedIn (length nodes) c →
    c.place ≡ place → claim_by (named nodes) c ≡ claim → Gathers nodes (cited ++ c ∷ []) (chosen ++ (place, claim) ∷ [])
gathers_more nodes cited chosen c place claim g h at is = record {
  cited_in = All-push (CitedIn (length nodes)) cited c g.cited_in h;
  chosen_is = map-append (chosen_by (named nodes)) cited (c ∷ []) ∙ ap₂ (λ (xs ys : List (ℕ × Claim)). xs ++ ys) g.chosen_is (λ k. (at k, is k) ∷ []);
}

-- a certificate's terms one after another
module _ (n0 n1 n2 n3 : List Node) (sp l r : Principal) (x y z : ℕ)
    (h : TakesIn n0 n1 (post_order sp) sp x) (k : TakesIn n1 n2 (post_order l) l y) (m : TakesIn n2 n3 (post_order r) r z) where
  pub all_taken : TakesIn n0 n3 (post_order sp ++ post_order l ++ post_order r) r z
  all_taken = record {
    table = m.table;
    grown = m.grown ∙ ap (λ (t : List Principal). met t (post_order r)) (k.grown ∙ ap (λ (t : List Principal). met t (post_order l)) h.grown ∙ sym (met-append (principals_of n0) (post_order sp) (post_order l))) ∙
        sym (met-append (principals_of n0) (post_order sp ++ post_order l) (post_order r));
    within = m.within;
    named_is = m.named_is;
  }

  pub three_within : (x < length n3) × (y < length n3) × (z < length n3)
  three_within =
      let a : length n1 ≤ length n2 = length_grown n1 n2 (post_order l) l y k in
      let b : length n2 ≤ length n3 = length_grown n2 n3 (post_order r) r z m in
      (omega (arith, h.within), omega (arith, k.within), m.within)

  pub three_named : (named n3 x ≡ sp) × (named n3 y ≡ l) × (named n3 z ≡ r)
  three_named =
      let a : length n1 ≤ length n2 = length_grown n1 n2 (post_order l) l y k in (
        named_stays n2 n3 (post_order r) r z m x (omega (arith, h.within)) ∙ named_stays n1 n2 (post_order l) l y k x h.within ∙ h.named_is,
        named_stays n2 n3 (post_order r) r z m y k.within ∙ k.named_is,
        m.named_is,
      )

pub second_fits : (n0 n1 : List Node) (sp l r : Principal) (x : ℕ) → TakesIn n0 n1 (post_order sp) sp x →
    Fits n0 (post_order sp ++ post_order l ++ post_order r) → Fits n1 (post_order l ++ post_order r)
second_fits n0 n1 sp l r x h f = fits_next n0 n1 (post_order sp) sp x h (post_order l ++ post_order r) (rw append_assoc at f)

pub cert_fits : (nodes : List Node) (c : Certificate) → IsWithinLimits c → length nodes + 16 ≤ 1296 → Fits nodes (post_order (speaker_of c) ++ post_order c.left ++ post_order c.right)
cert_fits nodes c limits room = omega (arith, room, cert_few (principals_of nodes) c limits, length-principals_of nodes)

pub gathers_skip : (nodes : List Node) (cited : List Cited) (xs : List Claim) (marks : List Bool) (i : ℕ) → slice_get marks i ≡ Some false →
    Gathers nodes cited (picked 0 (take i xs) (take i marks)) → Gathers nodes cited (picked 0 (take (i + 1) xs) (take (i + 1) marks))
gathers_skip nodes cited xs marks i e g =
    subst (λ n. Gathers nodes cited (picked 0 (take n xs) (take n marks))) (sym (add-one i))
    (subst (λ (ch : List (ℕ × Claim)). Gathers nodes cited ch) (sym (picked-false 0 xs marks i e)) g)

pub gathers_step : (old new : List Node) (n : ℕ) (cited : List Cited) (xs : List Claim) (marks : List Bool) (i : ℕ) (c : Cited) (claim : Claim) → Widens old new n →
    slice_get xs i ≡ Some claim → slice_get marks i ≡ Some true → CitedIn (length new) c → c.place ≡ i → claim_by (named new) c ≡ claim →
    Gathers old cited (picked 0 (take i xs) (take i marks)) → Gathers new (cited ++ c ∷ []) (picked 0 (take (i + 1) xs) (take (i + 1) marks))
gathers_step old new n cited xs marks i c claim w e f h at is g =
    let more : Gathers new (cited ++ c ∷ []) (picked 0 (take i xs) (take i marks) ++ (0 + i, claim) ∷ [])
    = gathers_more new cited (picked 0 (take i xs) (take i marks)) c (0 + i) claim (widens_gathers old new n w cited (picked 0 (take i xs) (take i marks)) g) h (omega (arith, at)) is in
    subst (λ k. Gathers new (cited ++ c ∷ []) (picked 0 (take k xs) (take k marks))) (sym (add-one i))
    (subst (λ (ch : List (ℕ × Claim)). Gathers new (cited ++ c ∷ []) ch) (sym (picked-true 0 xs marks i claim e f)) more)
