-- Two domains of a path file that are linked have one key for each other.
use Rattle.std.proofs.Common.{◌≡◌, ◌≢◌, ℕ, ◌+◌, Bool, true, false, cond, eqb, List, [], ◌∷◌, ◌++◌, length, map, Option, Some, None, Result, Ok, Err, refl, sym, ap, subst, ◌∙◌, inl, inr, Bor}
use Rattle.std.specs.Prelude.{codes, nat_lt, is_some, not, ◌==◌, ◌&&◌}
use Rattle.std.specs.Option.{option_and_then, option_map, option_or}
use Rattle.std.specs.List.{AllZip}
use Rattle.std.proofs.lemmas.Bool.{eqb-true, eq-eqb, cases_Bool, false≢true}
use Rattle.byte_fields.specs.Steps.{◌>>=◌, with_fault}
use Rattle.byte_fields.proofs.Results.{bind_ok, chosen, chosen_ok, ok_is, with_fault_ok}
use Rattle.keyed_seal.specs.Keys.{Entries, key_of}
use Rattle.prin_text.specs.declared.lines.fault.FileCause.{FileCause}
use Rattle.prin_text.specs.declared.lines.fault.FileCause.TheVariants.{FirstLine, UnknownDomain, Limit}
use Rattle.prin_text.specs.declared.lines.fault.FileFault.{FileFault}
use Rattle.prin_text.specs.declared.lines.fault.FileFault.TheVariants.{Line}
use Rattle.prin_text.specs.Fields.{if_plain, one_number, some_or, two_numbers_and_key}
use Rattle.prin_text.specs.FileLines.{begun, first_or, is_first_line, key_cause, LineStep, lines_make, unless}
use Rattle.prin_text.specs.Lines.{is_plain, is_skipped, lines_from, word_off}
use Rattle.relay_path.specs.declared.domain.Domain.{Domain}
use Rattle.relay_path.specs.declared.path_kind.PathKind.{PathKind}
use Rattle.relay_path.specs.declared.path_kind.PathKind.TheVariants as kinds
use Rattle.relay_path.specs.Domains.{DomainKnows, domain_of, HasPeer, knows, LinksAgree}
use Rattle.relay_path.specs.PathFile.{changed, are_two, domain_cause, new_domain, path_adds, peer_added, path_in, path_kind, path_step, with_issuer, with_node, with_peer}
use Rattle.relay_path.specs.PathView.{StandForDomains, StandsForDomain}

-- the key that the domain of one number has for that of another
abbrev peer_key : List DomainKnows → ℕ → ℕ → Option (List ℕ)
peer_key ds a b = option_and_then (λ d. key_of d.peers b) (domain_of ds a)

-- each has the other by the key by which the other has it
pub record IsMutual (ds : List DomainKnows) : Type 0 where
  pub same : (a b : ℕ) → peer_key ds a b ≡ peer_key ds b a

has_key : (ds : List DomainKnows) (a b : ℕ) (key : List ℕ) → HasPeer ds a b key → peer_key ds a b ≡ Some key
has_key ds a b key (d, is, known) = rw is known

pub mutual_agree : (ds : List DomainKnows) → IsMutual ds → LinksAgree ds
mutual_agree ds m a b there back has other =
    let one : Some there ≡ Some back = sym (has_key ds a b there has) ∙ m.same a b ∙ has_key ds b a back other in
    cc one

-- ---- one domain more

added_at : (o : Option DomainKnows) (n a b : ℕ) → option_and_then (λ d. key_of d.peers b) (option_or o (cond (eqb n a) (Some (new_domain n)) None)) ≡ option_and_then (λ d. key_of d.peers b) o
added_at (Some d) n a b = refl
added_at None n a b = elim (cases_Bool (eqb n a)) [
  | inl is ↦ rw is refl
  | inr other ↦ rw other refl
]

or_found : (c : Bool) (d : DomainKnows) (o rest : Option DomainKnows) → cond c (Some d) (option_or o rest) ≡ option_or (cond c (Some d) o) rest
or_found true d o rest = refl
or_found false d o rest = refl

found_added : (ds : List DomainKnows) (n a : ℕ) → domain_of (ds ++ new_domain n ∷ []) a ≡ option_or (domain_of ds a) (cond (eqb n a) (Some (new_domain n)) None)
found_added [] n a = refl
found_added (d ∷ ds) n a = ap (λ (o : Option DomainKnows). cond (eqb d.number a) (Some d) o) (found_added ds n a) ∙ or_found (eqb d.number a) d (domain_of ds a) (cond (eqb n a) (Some (new_domain n)) None)

key_added : (ds : List DomainKnows) (n a b : ℕ) → peer_key (ds ++ new_domain n ∷ []) a b ≡ peer_key ds a b
key_added ds n a b = ap (option_and_then (λ d. key_of d.peers b)) (found_added ds n a) ∙ added_at (domain_of ds a) n a b

-- ---- a domain changed

-- what keeps the number
abbrev KeepsNumber : (DomainKnows → DomainKnows) → Type 0
KeepsNumber f = (d : DomainKnows) → (f d).number ≡ d.number

-- the domain of a number, where that of n is changed
abbrev change_at : ℕ → ℕ → (DomainKnows → DomainKnows) → DomainKnows → DomainKnows
change_at n a f d = cond (eqb a n) (f d) d

unchanged : (n a : ℕ) (f : DomainKnows → DomainKnows) (o : Option DomainKnows) → eqb a n ≡ false → o ≡ option_map (change_at n a f) o
unchanged n a f None e = refl
unchanged n a f (Some d) e = rw e refl

found_first : (d : DomainKnows) (ds : List DomainKnows) (n a : ℕ) (f : DomainKnows → DomainKnows) → KeepsNumber f → eqb d.number n ≡ true → (b : Bool) → eqb d.number a ≡ b → domain_of (f d ∷ ds) a ≡ option_map (change_at n a f) (domain_of (d ∷ ds) a)
found_first d ds n a f keeps this true here =
    let number : eqb (f d).number a ≡ true = ap (λ (m : ℕ). eqb m a) (keeps d) ∙ here in
    let same : eqb a n ≡ true = eq-eqb a n (sym (eqb-true d.number a here) ∙ eqb-true d.number n this) in
    rw (number, here, same) refl
found_first d ds n a f keeps this false here =
    let number : eqb (f d).number a ≡ false = ap (λ (m : ℕ). eqb m a) (keeps d) ∙ here in
    let other : eqb a n ≡ false = not_same a n d.number here (eqb-true d.number n this) in
    rw (number, here) (unchanged n a f (domain_of ds a) other)
  where
    not_same : (a n m : ℕ) → eqb m a ≡ false → m ≡ n → eqb a n ≡ false
    not_same a n m here is = elim (cases_Bool (eqb a n)) [
      | inl same ↦ absurd (false≢true (sym here ∙ eq-eqb m a (is ∙ sym (eqb-true a n same))))
      | inr differs ↦ differs
    ]

found_later : (d : DomainKnows) (ds more : List DomainKnows) (n a : ℕ) (f : DomainKnows → DomainKnows) → eqb d.number n ≡ false → domain_of more a ≡ option_map (change_at n a f) (domain_of ds a) → (b : Bool) → eqb d.number a ≡ b
    → domain_of (d ∷ more) a ≡ option_map (change_at n a f) (domain_of (d ∷ ds) a)
found_later d ds more n a f other rest true here =
    let differs : eqb a n ≡ false = ap (λ (m : ℕ). eqb m n) (sym (eqb-true d.number a here)) ∙ other in
    rw (here, differs) refl
found_later d ds more n a f other rest false here = rw here rest

found_changed : (ds : List DomainKnows) (n a : ℕ) (f : DomainKnows → DomainKnows) → KeepsNumber f → domain_of (changed n f ds) a ≡ option_map (change_at n a f) (domain_of ds a)
found_changed [] n a f keeps = refl
found_changed (d ∷ ds) n a f keeps = elim (cases_Bool (eqb d.number n)) [
  | inl this ↦ ap (λ (b : Bool). domain_of (cond b (f d ∷ ds) (d ∷ changed n f ds)) a) this ∙ found_first d ds n a f keeps this (eqb d.number a) refl
  | inr other ↦ ap (λ (b : Bool). domain_of (cond b (f d ∷ ds) (d ∷ changed n f ds)) a) other ∙ found_later d ds (changed n f ds) n a f other (found_changed ds n a f keeps) (eqb d.number a) refl
]

-- where peers are kept
same_peers : (n a b : ℕ) (f : DomainKnows → DomainKnows) → ((d : DomainKnows) → (f d).peers ≡ d.peers) → (o : Option DomainKnows) → option_and_then (λ d. key_of d.peers b) (option_map (change_at n a f) o) ≡ option_and_then (λ d. key_of d.peers b) o
same_peers n a b f keeps None = refl
same_peers n a b f keeps (Some d) = elim (cases_Bool (eqb a n)) [
  | inl this ↦ rw this (ap (λ (l : Entries). key_of l b) (keeps d))
  | inr other ↦ rw other refl
]

key_kept : (ds : List DomainKnows) (n a b : ℕ) (f : DomainKnows → DomainKnows) → KeepsNumber f → ((d : DomainKnows) → (f d).peers ≡ d.peers) → peer_key (changed n f ds) a b ≡ peer_key ds a b
key_kept ds n a b f keeps peers = ap (option_and_then (λ d. key_of d.peers b)) (found_changed ds n a f keeps) ∙ same_peers n a b f peers (domain_of ds a)

kept_mutual : (ds more : List DomainKnows) → ((a b : ℕ) → peer_key more a b ≡ peer_key ds a b) → IsMutual ds → IsMutual more
kept_mutual ds more kept m = record { same = λ a b. kept a b ∙ m.same a b ∙ sym (kept b a) }

-- ---- two domains linked

-- the key of one more row
key_pushed : (es : Entries) (n : ℕ) (key : List ℕ) (m : ℕ) → key_of (es ++ (n, key) ∷ []) m ≡ option_or (key_of es m) (cond (eqb n m) (Some key) None)
key_pushed [] n key m = refl
key_pushed (e ∷ es) n key m = ap (λ (o : Option (List ℕ)). cond (eqb e.0 m) (Some e.1) o) (key_pushed es n key m) ∙ or_key (eqb e.0 m) e.1 (key_of es m) (cond (eqb n m) (Some key) None)
  where
    or_key : (c : Bool) (k : List ℕ) (o rest : Option (List ℕ)) → cond c (Some k) (option_or o rest) ≡ option_or (cond c (Some k) o) rest
    or_key true k o rest = refl
    or_key false k o rest = refl

-- the key of a link between these two
abbrev of_link : ℕ → ℕ → List ℕ → ℕ → ℕ → Option (List ℕ)
of_link a b key x y = cond (eqb x a) (cond (eqb b y) (Some key) None) (cond (eqb x b) (cond (eqb a y) (Some key) None) None)

or_none : (o : Option (List ℕ)) → option_or o None ≡ o
or_none None = refl
or_none (Some k) = refl

-- what a domain of these two gets
link_at : (a b : ℕ) (key : List ℕ) (x y : ℕ) → a ≢ b → (o : Option DomainKnows) → (o ≡ None → (x ≢ a) × (x ≢ b))
    → option_and_then (λ d. key_of d.peers y) (option_map (change_at a x (with_peer b key)) (option_map (change_at b x (with_peer a key)) o)) ≡ option_or (option_and_then (λ d. key_of d.peers y) o) (of_link a b key x y)
link_at a b key x y apart None there =
    let t = there refl in
    let first : eqb x a ≡ false = not_eqb x a t.0 in
    let second : eqb x b ≡ false = not_eqb x b t.1 in
    rw (first, second) refl
  where
    not_eqb : (m n : ℕ) → m ≢ n → eqb m n ≡ false
    not_eqb m n differ = elim (cases_Bool (eqb m n)) [
      | inl same ↦ absurd (differ (eqb-true m n same))
      | inr other ↦ other
    ]
link_at a b key x y apart (Some d) there = elim (cases_Bool (eqb x a)) [
  | inl first ↦ elim (cases_Bool (eqb x b)) [
    | inl second ↦ absurd (apart (sym (eqb-true x a first) ∙ eqb-true x b second))
    | inr other ↦ rw (first, other) (key_pushed d.peers b key y)
  ]
  | inr not_first ↦ elim (cases_Bool (eqb x b)) [
    | inl second ↦ rw (not_first, second) (key_pushed d.peers a key y)
    | inr other ↦ rw (not_first, other) (sym (or_none (key_of d.peers y)))
  ]
]

eqb_sym : (m n : ℕ) → eqb m n ≡ eqb n m
eqb_sym m n = elim (cases_Bool (eqb m n)) [
  | inl same ↦ same ∙ sym (eq-eqb n m (sym (eqb-true m n same)))
  | inr other ↦ elim (cases_Bool (eqb n m)) [
    | inl same ↦ absurd (false≢true (sym other ∙ eq-eqb m n (sym (eqb-true n m same))))
    | inr not_same ↦ other ∙ sym not_same
  ]
]

-- by which of the two each is
link_by : (xa xb ya yb : Bool) (key : List ℕ) → ((xa ≡ true) → (xb ≡ true) → ⊥) → ((ya ≡ true) → (yb ≡ true) → ⊥)
    → cond xa (cond yb (Some key) None) (cond xb (cond ya (Some key) None) None) ≡ cond ya (cond xb (Some key) None) (cond yb (cond xa (Some key) None) None)
link_by true true ya yb key one two = absurd (one refl refl)
link_by true false true true key one two = absurd (two refl refl)
link_by true false true false key one two = refl
link_by true false false true key one two = refl
link_by true false false false key one two = refl
link_by false true true true key one two = absurd (two refl refl)
link_by false true true false key one two = refl
link_by false true false true key one two = refl
link_by false true false false key one two = refl
link_by false false true true key one two = absurd (two refl refl)
link_by false false true false key one two = refl
link_by false false false true key one two = refl
link_by false false false false key one two = refl

of_link_sym : (a b : ℕ) (key : List ℕ) (x y : ℕ) → a ≢ b → of_link a b key x y ≡ of_link a b key y x
of_link_sym a b key x y apart =
    ap (λ (k : Bool). cond (eqb x a) (cond k (Some key) None) (cond (eqb x b) (cond (eqb a y) (Some key) None) None)) (eqb_sym b y)
    ∙ ap (λ (k : Bool). cond (eqb x a) (cond (eqb y b) (Some key) None) (cond (eqb x b) (cond k (Some key) None) None)) (eqb_sym a y)
    ∙ link_by (eqb x a) (eqb x b) (eqb y a) (eqb y b) key (λ p q. apart (sym (eqb-true x a p) ∙ eqb-true x b q)) (λ p q. apart (sym (eqb-true y a p) ∙ eqb-true y b q))
    ∙ ap (λ (k : Bool). cond (eqb y a) (cond k (Some key) None) (cond (eqb y b) (cond (eqb x a) (Some key) None) None)) (eqb_sym x b)
    ∙ ap (λ (k : Bool). cond (eqb y a) (cond (eqb b x) (Some key) None) (cond (eqb y b) (cond k (Some key) None) None)) (eqb_sym x a)

module _ (ds : List DomainKnows) (a b : ℕ) (key : List ℕ) (first second : DomainKnows) (here : domain_of ds a ≡ Some first) (there : domain_of ds b ≡ Some second) (apart : a ≢ b) where
  linked : List DomainKnows
  linked = changed a (with_peer b key) (changed b (with_peer a key) ds)

  none_of_both : (x : ℕ) → domain_of ds x ≡ None → (x ≢ a) × (x ≢ b)
  none_of_both x none = ((λ same. absurd (cc (none, ap (domain_of ds) same, here))), (λ same. absurd (cc (none, ap (domain_of ds) same, there))))

  key_linked : (x y : ℕ) → peer_key (changed a (with_peer b key) (changed b (with_peer a key) ds)) x y ≡ option_or (peer_key ds x y) (of_link a b key x y)
  key_linked x y =
      ap (option_and_then (λ d. key_of d.peers y)) (found_changed (changed b (with_peer a key) ds) a x (with_peer b key) (λ d. refl) ∙ ap (option_map (change_at a x (with_peer b key))) (found_changed ds b x (with_peer a key) (λ d. refl)))
      ∙ link_at a b key x y apart (domain_of ds x) (none_of_both x)

  pub link_mutual : IsMutual ds → IsMutual (changed a (with_peer b key) (changed b (with_peer a key) ds))
  link_mutual m = record {
    same = λ x y. key_linked x y ∙ ap (λ (o : Option (List ℕ)). option_or o (of_link a b key x y)) (m.same x y) ∙ ap (option_or (peer_key ds y x)) (of_link_sym a b key x y apart) ∙ sym (key_linked y x);
  }

-- ---- lines

unless_is : {A : Type 0} (o : Option FileCause) (x y : A) → unless o x ≡ Ok y → (o ≡ None) × (x ≡ y)
unless_is None x y e = (refl, ok_is FileCause x y e)
unless_is (Some cause) x y e = absurd cc

-- the parts of a test of two
two_is : (c d e : Bool) → (not c && (d && e)) ≡ true → (c ≡ false) × (d ≡ true) × (e ≡ true)
two_is true d e h = absurd (false≢true h)
two_is false true e h = (refl, refl, h)
two_is false false e h = absurd (false≢true h)

there_is : (o : Option DomainKnows) → is_some o ≡ true → (d : DomainKnows) × (o ≡ Some d)
there_is None e = absurd (false≢true e)
there_is (Some d) e = (d, refl)

-- two domains, and their numbers differ
record AreTwo (above : List DomainKnows) (a b : ℕ) : Type 0 where
  pub first : DomainKnows
  pub second : DomainKnows
  pub here : domain_of above a ≡ Some first
  pub there : domain_of above b ≡ Some second
  pub apart : a ≢ b

two_are : (above : List DomainKnows) (a b : ℕ) → are_two above a b ≡ true → AreTwo above a b
unfolding are_two
two_are above a b e =
    let t = two_is (eqb a b) (is_some (domain_of above a)) (is_some (domain_of above b)) e in
    let x = there_is (domain_of above a) t.1 in
    let y = there_is (domain_of above b) t.2 in
    record { first = x.0; second = y.0; here = x.1; there = y.1; apart = λ same. false≢true (sym t.0 ∙ eq-eqb a b same) }

peer_is : (above more : List DomainKnows) (number peer : ℕ) (key : List ℕ) → peer_added above number peer key ≡ Ok more → changed number (with_peer peer key) above ≡ more
peer_is above more number peer key e =
    let d = bind_ok (some_or UnknownDomain (domain_of above number)) _ more e in
    (unless_is (key_cause 15 d.0.peers peer) (changed number (with_peer peer key) above) more d.2).1

adds_mutual : (above more : List DomainKnows) (kind : PathKind) (rest : List ℕ) → IsMutual above → path_adds above kind rest ≡ Ok more → IsMutual more
adds_mutual above more kinds.Domain rest m e =
    let n = bind_ok (one_number 4294967295 rest) _ more e in
    let u = unless_is (domain_cause above n.0) (above ++ new_domain n.0 ∷ []) more n.2 in
    subst IsMutual u.1 (kept_mutual above (above ++ new_domain n.0 ∷ []) (key_added above n.0) m)
adds_mutual above more kinds.Issuer rest m e =
    let x = bind_ok (two_numbers_and_key rest) _ more e in
    let d = bind_ok (some_or UnknownDomain (domain_of above x.0.0)) _ more x.2 in
    let u = unless_is (key_cause 1024 d.0.issuers x.0.1) (changed x.0.0 (with_issuer x.0.1 x.0.2) above) more d.2 in
    subst IsMutual u.1 (kept_mutual above (changed x.0.0 (with_issuer x.0.1 x.0.2) above) (λ a b. key_kept above x.0.0 a b (with_issuer x.0.1 x.0.2) (λ k. refl) (λ k. refl)) m)
adds_mutual above more kinds.Node rest m e =
    let x = bind_ok (two_numbers_and_key rest) _ more e in
    let d = bind_ok (some_or UnknownDomain (domain_of above x.0.0)) _ more x.2 in
    let u = unless_is (key_cause 1024 d.0.nodes x.0.1) (changed x.0.0 (with_node x.0.1 x.0.2) above) more d.2 in
    subst IsMutual u.1 (kept_mutual above (changed x.0.0 (with_node x.0.1 x.0.2) above) (λ a b. key_kept above x.0.0 a b (with_node x.0.1 x.0.2) (λ k. refl) (λ k. refl)) m)
adds_mutual above more kinds.Link rest m e =
    let x = bind_ok (two_numbers_and_key rest) _ more e in
    let a = x.0.0 in
    let b = x.0.1 in
    let key = x.0.2 in
    elim (chosen (are_two above a b) (peer_added above b a key >>= λ mid. peer_added mid a b key) (Err UnknownDomain) (Ok more) x.2) [
      | inl two ↦
          let t = two_are above a b two.0 in
          let mid = bind_ok (peer_added above b a key) (λ mid. peer_added mid a b key) more two.1 in
          let first = peer_is above mid.0 b a key mid.1 in
          let last = peer_is mid.0 more a b key mid.2 in
          let whole : changed a (with_peer b key) (changed b (with_peer a key) above) ≡ more = ap (changed a (with_peer b key)) first ∙ last in
          subst IsMutual whole (link_mutual above a b key t.first t.second t.here t.there t.apart m)
      | inr other ↦ absurd (cc (other.1))
    ]

plain_ok : {A : Type 0} (line : List ℕ) (r : Result A FileCause) (x : A) → if_plain line r ≡ Ok x → r ≡ Ok x
plain_ok line r x e = elim (chosen (is_plain line) r (Err _) (Ok x) e) [
  | inl plain ↦ plain.1
  | inr other ↦ absurd (cc (other.1))
]

step_mutual : (above more : List DomainKnows) (line : List ℕ) → IsMutual above → path_step above line ≡ Ok more → IsMutual more
unfolding path_step
step_mutual above more line m e =
    let kind = bind_ok (some_or _ (path_kind (word_off line).0)) _ more e in
    adds_mutual above more kind.0 (word_off line).1 m (plain_ok line (path_adds above kind.0 (word_off line).1) more kind.2)

-- ---- the file

abbrev any_step : LineStep (Option (List DomainKnows))
any_step = first_or (is_first_line (codes "taos-path")) [] path_step

-- so far it is
abbrev SoFarMutual : Option (List DomainKnows) → Type 0
SoFarMutual None = Unit {0}
SoFarMutual (Some ds) = IsMutual ds

any_mutual : (so_far more : Option (List DomainKnows)) (line : List ℕ) → SoFarMutual so_far → any_step so_far line ≡ Ok more → SoFarMutual more
any_mutual None more line m e =
    let g = chosen_ok (is_first_line (codes "taos-path") line) FirstLine (Some []) more e in
    subst SoFarMutual g.1 (record { same = λ a b. refl })
any_mutual (Some above) more line m e =
    let made = bind_ok (path_step above line) (λ x. Ok (Some x)) more e in
    let some : Option (List DomainKnows) = Some made.0 in
    subst SoFarMutual (ok_is FileCause some more made.2) (step_mutual above made.0 line m made.1)

lines_mutual : (lines : List (List ℕ)) (number : ℕ) (so_far made : Option (List DomainKnows)) → SoFarMutual so_far → lines_make any_step number so_far lines ≡ Ok made → SoFarMutual made
lines_mutual [] number so_far made m e = subst SoFarMutual (ok_is FileFault so_far made e) m
lines_mutual (line ∷ rest) number so_far made m e =
    elim (chosen (is_skipped line) (lines_make any_step (number + 1) so_far rest) (with_fault (λ cause. Line number cause) (any_step so_far line) >>= λ more. lines_make any_step (number + 1) more rest) (Ok made) e) [
      | inl skipped ↦ lines_mutual rest (number + 1) so_far made m skipped.1
      | inr read ↦
          let more = bind_ok (with_fault (λ cause. Line number cause) (any_step so_far line)) (λ more. lines_make any_step (number + 1) more rest) made read.1 in
          lines_mutual rest (number + 1) more.0 made (any_mutual so_far more.0 line m (with_fault_ok (λ cause. Line number cause) (any_step so_far line) more.0 more.1)) more.2
    ]

begun_mutual : (count : ℕ) (made : Option (List DomainKnows)) (ds : List DomainKnows) → SoFarMutual made → begun count made ≡ Ok ds → IsMutual ds
begun_mutual count None ds m e = absurd cc
begun_mutual count (Some made) ds m e = subst IsMutual (ok_is FileFault made ds e) m

pub path_mutual : (bytes : List ℕ) (ds : List DomainKnows) → path_in bytes ≡ Ok ds → IsMutual ds
unfolding path_in
path_mutual bytes ds e = elim (chosen (nat_lt 4194304 (length bytes)) (Err (Line 0 Limit)) (lines_make any_step 1 None (lines_from bytes 0) >>= begun (length (lines_from bytes 0))) (Ok ds) e) [
  | inl long ↦ absurd (cc (long.1))
  | inr short ↦
      let made = bind_ok (lines_make any_step 1 None (lines_from bytes 0)) (begun (length (lines_from bytes 0))) ds short.1 in
      begun_mutual (length (lines_from bytes 0)) made.0 ds (lines_mutual (lines_from bytes 0) 1 None made.0 tt made.1) made.2
]

-- ---- in what the program holds

stand_by : (x : Domain) (d : DomainKnows) (b : ℕ) (found there : Option DomainKnows) → StandsForDomain x d → option_and_then (λ (k : DomainKnows). key_of k.peers b) found ≡ option_and_then (λ (k : DomainKnows). key_of k.peers b) there → (t : Bool)
    → option_and_then (λ (k : DomainKnows). key_of k.peers b) (cond t (Some (knows x)) found) ≡ option_and_then (λ (k : DomainKnows). key_of k.peers b) (cond t (Some d) there)
stand_by x d b found there first others true = first.peers.each b
stand_by x d b found there first others false = others

stand_found : (domains : List Domain) (ds : List DomainKnows) (a b : ℕ) → StandForDomains domains ds → peer_key (map knows domains) a b ≡ peer_key ds a b
stand_found [] [] a b all = refl
stand_found [] (d ∷ ds) a b all = absurd all
stand_found (x ∷ xs) [] a b all = absurd all
stand_found (x ∷ xs) (d ∷ ds) a b (first, others) =
    ap (λ (n : ℕ). option_and_then (λ (k : DomainKnows). key_of k.peers b) (cond (eqb n a) (Some (knows x)) (domain_of (map knows xs) a))) first.number
    ∙ stand_by x d b (domain_of (map knows xs) a) (domain_of ds a) first (stand_found xs ds a b others) (eqb d.number a)

pub stand_agree : (domains : List Domain) (ds : List DomainKnows) → StandForDomains domains ds → IsMutual ds → LinksAgree (map knows domains)
stand_agree domains ds all m = mutual_agree (map knows domains) (kept_mutual ds (map knows domains) (λ a b. stand_found domains ds a b all) m)
