-- What a verdict names is there, and may be told.
use Rattle.std.proofs.Common.{◌≡◌, ℕ, Bool, zero, suc, ◌+◌, ◌<◌, ◌≤◌, List, [], ◌∷◌, ◌++◌, length, Contains, Some, slice_get, refl, sym, ap, subst, ◌∙◌, ◌^◌, inl, inr, arith, append-nil, length-append}
use Rattle.std.specs.Prelude.{All, slice_index, sum_by}
use Rattle.std.specs.Int.{bytes_high_first, byte_at, to_be_bytes, w32}
use Rattle.sha2.specs.Sha256.{digest_bytes, sha256}
use Rattle.sha2.proofs.Facts256.{length-sha256}
use Rattle.object_core.specs.Operation.{IsDigest}
use Rattle.byte_fields.specs.Steps.{IsByte}
use Rattle.std.proofs.lemmas.Option.{slice_get_within}
use Rattle.std.specs.List.{flat_map}
use Rattle.std.proofs.Math.Nat.{le-max_left, le-max_right}
use Rattle.std.proofs.lemmas.Grind.{flat_map-append}
use Rattle.std.proofs.lemmas.List.Concat.{flat_map-cons}
use Rattle.std.proofs.lemmas.List.Sums.{sum_by-cons}
use Rattle.std.proofs.lemmas.List.Elements.{All-append, All-cons, All-nil, Contains-append_cases}
use Rattle.prin_term.specs.declared.term.Anchor.{Anchor}
use Rattle.prin_term.specs.Principal.{Principal, Key, Name, And, Quoting, InRole, For, operands, subterms, node_count, depth, HasSpelling}
use Rattle.prin_term.specs.Refusal.{FitsLimits}
use Rattle.prin_term.specs.View.{Grant}
use Rattle.prin_term.proofs.Parts.{length-parts, first_part}
use Rattle.stmt_codec.specs.Certificates.{Certificate, body_spelling, digest_of}
use Rattle.denial_link.specs.declared.link.Link.{Link}
use Rattle.denial_link.specs.declared.link.Link.TheVariants as links
use Rattle.denial_link.specs.Links.{Lacks, here, below, IsFirstLink, expired, early, missing}
use Rattle.denial_link.proofs.Members.{has-at, has-cases, has-nil}
use Rattle.agent_core.specs.declared.asked.Denial.{Denial}
use Rattle.agent_core.specs.declared.asked.Settled.{Settled}
use Rattle.agent_core.specs.declared.asked.Verdict.{Verdict}
use Rattle.agent_core.specs.declared.asked.Verdict.TheVariants as verdict
use Rattle.agent_core.specs.State.{Plan, Ask}
use Rattle.agent_core.specs.Plans.{IsPlan}
use Rattle.agent_core.specs.Journals.{Entry, IsLegalJournal}
use Rattle.agent_core.specs.Asked.{IsDeniedAt, Ends, Names}
use Rattle.taos_monitor.specs.Ruling.{HasPart, MayTell}
use Rattle.request_course.proofs.Cited.{grant_few}

-- ---- a part by its place

get_front : {X : Type 0} (xs ys : List X) (i : ℕ) (x : X) → slice_get xs i ≡ Some x → slice_get (xs ++ ys) i ≡ Some x
get_front [] ys i x e = absurd cc
get_front (y ∷ xs) ys zero x e = e
get_front (y ∷ xs) ys (suc i) x e = get_front xs ys i x e

get_behind : {X : Type 0} (xs ys : List X) (i j : ℕ) → i ≡ length xs + j → slice_get (xs ++ ys) i ≡ slice_get ys j
get_behind [] ys i j e = ap (slice_get ys) (omega (arith, e))
get_behind (x ∷ xs) ys zero j e = absurd (omega (arith, e))
get_behind (x ∷ xs) ys (suc i) j e = get_behind xs ys i j (omega (arith, e))

two_under : (a b : Principal) → subterms a ++ subterms b ≡ flat_map subterms (a ∷ b ∷ [])
two_under a b = sym (flat_map-cons subterms a (b ∷ []) ∙ ap (λ (l : List Principal). subterms a ++ l) (flat_map-cons subterms b [] ∙ append-nil (subterms b)))

under : (p : Principal) → subterms p ≡ p ∷ flat_map subterms (operands p)
under (And a b) = ap (λ (l : List Principal). And a b ∷ l) (two_under a b)
under (Quoting a b) = ap (λ (l : List Principal). Quoting a b ∷ l) (two_under a b)
under (InRole a r) = ap (λ (l : List Principal). InRole a r ∷ l) (sym (flat_map-cons subterms a [] ∙ append-nil (subterms a)))
under (For a b) = ap (λ (l : List Principal). For a b ∷ l) (two_under a b)
under _ = refl

count_under : (ps : List Principal) → length (flat_map subterms ps) ≡ sum_by node_count ps
count_under [] = refl
count_under (p ∷ ps) =
    omega (arith, ap length (flat_map-cons subterms p ps), length-append (subterms p) (flat_map subterms ps), length-parts p, count_under ps, sum_by-cons node_count p ps)

part_under : (p q x : Principal) (front rest : List Principal) (k n : ℕ) → operands p ≡ front ++ q ∷ rest → n ≡ 1 + sum_by node_count front + k → slice_get (subterms q) k ≡ Some x → slice_get (subterms p) n ≡ Some x
part_under p q x front rest k n ops is at =
    let there : flat_map subterms (operands p) ≡ flat_map subterms front ++ (subterms q ++ flat_map subterms rest) =
    ap (flat_map subterms) ops ∙ flat_map-append subterms front (q ∷ rest) ∙ ap (λ (l : List Principal). flat_map subterms front ++ l) (flat_map-cons subterms q rest) in
    let place : n ≡ suc (length (flat_map subterms front) + k) = omega (arith, is, count_under front) in
    ap (slice_get (subterms p)) place ∙ ap (λ (l : List Principal). slice_get l (suc (length (flat_map subterms front) + k))) (under p)
    ∙ ap (λ (l : List Principal). slice_get l (length (flat_map subterms front) + k)) there
    ∙ get_behind (flat_map subterms front) (subterms q ++ flat_map subterms rest) (length (flat_map subterms front) + k) k refl
    ∙ get_front (subterms q) (flat_map subterms rest) k x at

pub lacking_part : (P : Principal → Type 0) (p : Principal) (n : ℕ) → Lacks P p n → (x : Principal) × (slice_get (subterms p) n ≡ Some x)
lacking_part P p n (here all) = (p, first_part p 0 refl)
lacking_part P p n (below {q = q} {k = k} front rest ops reached lacked deeper is) =
    let (x, at) = lacking_part P q k deeper in
    (x, part_under p q x front rest k n ops is at)

-- ---- a part of a term within the limits

abbrev Smaller : Principal → Principal → Type 0
Smaller p q = HasSpelling q × (node_count q ≤ node_count p) × (depth q ≤ depth p)

itself : (p q : Principal) → p ≡ q → HasSpelling p → Smaller p q
itself p q e s = subst (λ (x : Principal). Smaller p x) e (s, omega arith, omega arith)

smaller_on : (p a q : Principal) → node_count a ≤ node_count p → depth a ≤ depth p → Smaller a q → Smaller p q
smaller_on p a q nodes levels s = (s.0, omega (arith, nodes, s.1), omega (arith, levels, s.2))

smaller : (p q : Principal) → Contains (subterms p) q → HasSpelling p → Smaller p q
smaller (Key k) q h s = elim (has-cases (Key k) [] q h) [ inl e ↦ itself (Key k) q e s | inr none ↦ absurd (has-nil q none) ]
smaller (Name n) q h s = elim (has-cases (Name n) [] q h) [ inl e ↦ itself (Name n) q e s | inr none ↦ absurd (has-nil q none) ]
smaller (And a b) q h s = elim (has-cases (And a b) (subterms a ++ subterms b) q h) [
  | inl e ↦ itself (And a b) q e s
  | inr r ↦ elim (Contains-append_cases (subterms a) (subterms b) q r) [
    | inl l ↦ smaller_on (And a b) a q (omega arith) (omega (arith, le-max_left (depth a) (depth b))) (smaller a q l s.0)
    | inr l ↦ smaller_on (And a b) b q (omega arith) (omega (arith, le-max_right (depth a) (depth b))) (smaller b q l s.1)
  ]
]
smaller (Quoting a b) q h s = elim (has-cases (Quoting a b) (subterms a ++ subterms b) q h) [
  | inl e ↦ itself (Quoting a b) q e s
  | inr r ↦ elim (Contains-append_cases (subterms a) (subterms b) q r) [
    | inl l ↦ smaller_on (Quoting a b) a q (omega arith) (omega (arith, le-max_left (depth a) (depth b))) (smaller a q l s.0)
    | inr l ↦ smaller_on (Quoting a b) b q (omega arith) (omega (arith, le-max_right (depth a) (depth b))) (smaller b q l s.1)
  ]
]
smaller (InRole a r) q h s = elim (has-cases (InRole a r) (subterms a) q h) [
  | inl e ↦ itself (InRole a r) q e s
  | inr l ↦ smaller_on (InRole a r) a q (omega arith) (omega arith) (smaller a q l s.0)
]
smaller (For a b) q h s = elim (has-cases (For a b) (subterms a ++ subterms b) q h) [
  | inl e ↦ itself (For a b) q e s
  | inr r ↦ elim (Contains-append_cases (subterms a) (subterms b) q r) [
    | inl l ↦ smaller_on (For a b) a q (omega arith) (omega (arith, le-max_left (depth a) (depth b))) (smaller a q l s.0)
    | inr l ↦ smaller_on (For a b) b q (omega arith) (omega (arith, le-max_right (depth a) (depth b))) (smaller b q l s.1)
  ]
]

pub part_fits : (nodes : ℕ) (p q : Principal) (n : ℕ) → FitsLimits nodes p → slice_get (subterms p) n ≡ Some q → FitsLimits nodes q
part_fits nodes p q n fits at =
    let s = smaller p q (has-at (subterms p) n q at) fits.numbers in
    record { numbers = s.0; nodes_fit = omega (arith, s.1, fits.nodes_fit); depth_fits = omega (arith, s.2, fits.depth_fits) }

-- ---- a digest's bytes

byte_at-lt : (k n : ℕ) → byte_at k n < 2 ^ 8
byte_at-lt zero n = omega arith
byte_at-lt (suc k) n = omega arith

bytes-high_first : (k n : ℕ) → All IsByte (bytes_high_first k n)
bytes-high_first zero n = All-nil IsByte
bytes-high_first (suc k) n = All-cons IsByte (byte_at k n) (bytes_high_first k n) (byte_at-lt k n) (bytes-high_first k n)

bytes-digest : (h : List ℕ) (n : ℕ) → All IsByte (digest_bytes h n)
unfolding digest_bytes
bytes-digest h zero = All-nil IsByte
bytes-digest h (suc n) = All-append IsByte (digest_bytes h n) (to_be_bytes w32 (slice_index h n)) (bytes-digest h n) (bytes-high_first 4 (slice_index h n))

bytes-sha256 : (m : List ℕ) → All IsByte (sha256 m)
unfolding sha256
bytes-sha256 m = bytes-digest _ 8

pub digest_fits : (digest : List ℕ) (c : Certificate) → digest ≡ digest_of c → IsDigest digest
digest_fits digest c is = subst IsDigest (sym is) (length-sha256 (body_spelling c), bytes-sha256 (body_spelling c))

-- ---- what is named

module _ (anchors : List Anchor) (certs : List Certificate) (moment : ℕ) (subject : Principal) (list : List Grant) (right : ℕ) where
  -- a link that names a certificate names an entry that is there
  abbrev IsInList : Link → Type 0
  IsInList (links.Expired entry place) = entry < length list
  IsInList (links.Early entry place) = entry < length list
  IsInList (links.Missing entry node) = Unit {0}
  IsInList links.NoEntry = Unit {0}

  pub in_list : (link : Link) → IsFirstLink anchors certs moment subject list right link → IsInList link
  in_list link (expired {k} {c} g first needed out) = slice_get_within list k g first.stands
  in_list link (early {k} {c} g first needed out) = slice_get_within list k g first.stands
  in_list link _ = tt

  pub named : (link : Link) (entry node : ℕ) → link ≡ links.Missing entry node → IsFirstLink anchors certs moment subject list right link →
      (g : Grant) × (part : Principal) × (slice_get list entry ≡ Some g) × (slice_get (subterms g.who) node ≡ Some part)
  named link entry node e (missing {k} {n} g first none lacks) =
      let same_entry : k ≡ entry = cc in
      let same_node : n ≡ node = cc in
      let (part, at) = lacking_part _ g.who n lacks in
      (g, part, ap (slice_get list) (sym same_entry) ∙ first.stands, ap (slice_get (subterms g.who)) (sym same_node) ∙ at)
  named link entry node e _ = absurd cc

has_part : (plan : Plan) (journal : List Entry) (a : Ask) (place : ℕ) (denial : Denial) (link : Link) → length a.list ≤ 8 → (d : IsDeniedAt plan journal a place denial) → d.denied.link ≡ link → Names d.certs link denial → HasPart a.list denial
has_part plan journal a place denial (links.Expired k i) few d at (c, stands, is) =
    let within : k < length a.list = subst (IsInList plan.anchors d.certs d.moment a.subject a.list a.right) at (in_list plan.anchors d.certs d.moment a.subject a.list a.right d.denied.link d.denied.first) in
    subst (HasPart a.list) (sym is) (omega (arith, within, few), digest_fits (digest_of c) c refl)
has_part plan journal a place denial (links.Early k i) few d at (c, stands, is) =
    let within : k < length a.list = subst (IsInList plan.anchors d.certs d.moment a.subject a.list a.right) at (in_list plan.anchors d.certs d.moment a.subject a.list a.right d.denied.link d.denied.first) in
    subst (HasPart a.list) (sym is) (omega (arith, within, few), digest_fits (digest_of c) c refl)
has_part plan journal a place denial (links.Missing k n) few d at is = subst (HasPart a.list) (sym is) (named plan.anchors d.certs d.moment a.subject a.list a.right d.denied.link k n at d.denied.first)
has_part plan journal a place denial links.NoEntry few d at is = subst (HasPart a.list) (sym is) tt

-- ---- what is told

pub may_tell : (plan : Plan) (journal : List Entry) (a : Ask) (place : ℕ) (v : Verdict) (kept : Bool) (settled : Settled) (own : List ℕ) → IsPlan plan → IsLegalJournal plan journal → length a.list ≤ 8 → Ends plan journal a place v kept settled own → MayTell a.list v
may_tell plan journal a place (verdict.Granted e c) kept settled own sound legal few granted = grant_few plan journal a place e _ kept settled own sound legal granted
may_tell plan journal a place (verdict.Denied denial) kept settled own sound legal few ((denied, is), plain, none) = has_part plan journal a place denial denied.denied.link few denied refl denied.denied.names
may_tell plan journal a place _ kept settled own sound legal few _ = tt
