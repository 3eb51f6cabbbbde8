-- What is picked by marks says what the revived certificates say, and more of them derive more.
use Rattle.std.proofs.Common.{◌≡◌, ◌⊎◌, ◌↔◌, inl, inr, ℕ, ◌+◌, ◌<◌, ◌≤◌, ◌∷◌, ◌++◌, [], Bool, true, IsTrue, List, length, length-append, take, map, filter_map, Contains, Some, None, Option, slice_get, refl, sym, ◌∙◌, ap, ap₂, subst, arith}
use Rattle.std.proofs.Math.Seq.{get_or-append_seam}
use Rattle.std.proofs.lemmas.Bool.{cases_lt}
use Rattle.std.proofs.lemmas.List.{append-nil, get_or_append_left, take_all}
use Rattle.std.specs.List.{cons_option}
use Rattle.std.specs.Option.{option_map, MatchOption}
use Rattle.std.proofs.lemmas.Option.{none-some, same_Some, slice_get-get_or, slice_get-map, slice_get_within}
use Rattle.std.proofs.lemmas.List.Elements.{Contains-append_left, Contains-append_right, Contains-append_cases}
use Rattle.prin_term.specs.declared.term.Anchor.{Anchor}
use Rattle.prin_term.specs.Principal.{Principal}
use Rattle.prin_term.specs.View.{Grant}
use Rattle.stmt_codec.specs.Certificates.{Certificate, IsDead, IsEarly, IsLive, live}
use Rattle.stmt_codec.proofs.Living.{cases_live, dead_or_early, live-from, live-to}
use Rattle.taos_calculus.specs.Rules.{Claim}
use Rattle.taos_calculus.specs.Rules as rules
use Rattle.taos_calculus.specs.Monitor.{FirstEntry, Grants, HasRight, MaySpeak}
use Rattle.taos_calculus.specs.Question.{Question, question_of, MayAnswer, picked, claim_of}
use Rattle.taos_calculus.proofs.Asking.{IsPicked, picked-at, has-picked}
use Rattle.taos_calculus.proofs.Staying.{derives_more}
use Rattle.denial_link.specs.Order.{IsAt, IsOut, OutInOrder}
use Rattle.denial_link.specs.Keys.{AreMarked}
use Rattle.denial_link.specs.Needed.{IsNeeded, IsRevived}
use Rattle.denial_link.specs.Links.{NoEntryWith, NoneBefore}
use Rattle.denial_link.specs.declared.revive.Revival.{Revival}
use Rattle.denial_link.specs.Revived.{claims, at_places, revived, AsksWith}
use Rattle.denial_link.proofs.Members.{has-at, at-has, has-cons, has-head, has-cases, has-nil, Contains-to_map, Contains-from_map, Contains-take}

option_map_some : {X Y : Type 0} (f : X → Y) (o : Option X) (y : Y) → option_map f o ≡ Some y → (x : X) × (o ≡ Some x) × (f x ≡ y)
option_map_some f None y e = absurd (none-some y e)
option_map_some f (Some x) y e = (x, refl, same_Some (f x) y e)

at_place_of : {X Y : Type 0} (h : X → Option Y) (xs : List X) (x : X) (y : Y) → Contains xs x → h x ≡ Some y → Contains (filter_map h xs) y
at_place_of h [] x y c e = absurd (has-nil x c)
at_place_of {X} {Y} h (z ∷ xs) x y c e =
    elim (has-cases z xs x c) [
      | inl f ↦ subst (λ o. Contains (cons_option o (filter_map h xs)) y) (sym (ap h f ∙ e)) (has-head y (filter_map h xs))
      | inr g ↦ past (h z) (at_place_of h xs x y g e)
    ]
  where
    past : (o : Option Y) → Contains (filter_map h xs) y → Contains (cons_option o (filter_map h xs)) y
    past None d = d
    past (Some w) d = has-cons w (filter_map h xs) y d

of_place : {X Y : Type 0} (h : X → Option Y) (xs : List X) (y : Y) → Contains (filter_map h xs) y → (x : X) × Contains xs x × (h x ≡ Some y)
of_place h [] y c = absurd (has-nil y c)
of_place {X} {Y} h (z ∷ xs) y c = by (λ d. let (x, has, e) = of_place h xs y d in (x, has-cons z xs x has, e)) (h z) refl c
  where
    by : (Contains (filter_map h xs) y → (x : X) × Contains (z ∷ xs) x × (h x ≡ Some y)) → (o : Option Y) → h z ≡ o → Contains (cons_option o (filter_map h xs)) y → (x : X) × Contains (z ∷ xs) x × (h x ≡ Some y)
    by later None e d = later d
    by later (Some w) e d =
        elim (has-cases w (filter_map h xs) y d) [
          | inl f ↦ (z, has-head z xs, e ∙ ap Some f)
          | inr g ↦ later g
        ]

-- ---- what the revived certificates say

-- some certificate that is live, or stands at one of the places, makes the claim
pub record IsTaken (certs : List Certificate) (moment : ℕ) (places : List ℕ) (x : Claim) : Type 0 where
  pub place : ℕ
  pub cert : Certificate
  pub stands : slice_get certs place ≡ Some cert
  pub taken : IsLive moment cert ⊎ Contains places place
  pub says : claim_of cert ≡ x

pub taken-revived : (certs : List Certificate) (moment : ℕ) (places : List ℕ) (x : Claim) → Contains (claims (revived certs moment places)) x → IsTaken certs moment places x
taken-revived certs moment places x h =
    let (c, has, says) = Contains-from_map claim_of (revived certs moment places) x h in
    elim (Contains-append_cases (live certs moment) (at_places certs places) c has) [
      | inl l ↦
          let (there, lives) = live-from certs moment c l in
          let (i, at) = at-has certs c there in
          record { place = i; cert = c; stands = at; taken = inl lives; says = says }
      | inr d ↦
          let (i, there, at) = of_place (slice_get certs) places c d in
          record { place = i; cert = c; stands = at; taken = inr there; says = says }
    ]

pub revived-taken : (certs : List Certificate) (moment : ℕ) (places : List ℕ) (x : Claim) → IsTaken certs moment places x → Contains (claims (revived certs moment places)) x
revived-taken certs moment places x t =
    subst (Contains (claims (revived certs moment places))) t.says (Contains-to_map claim_of (revived certs moment places) t.cert has)
  where
    has : Contains (revived certs moment places) t.cert
    has = elim t.taken [
      | inl lives ↦ Contains-append_left (live certs moment) (at_places certs places) t.cert
          (live-to certs moment t.cert (has-at certs t.place t.cert t.stands) lives)
      | inr there ↦ Contains-append_right (live certs moment) (at_places certs places) t.cert (at_place_of (slice_get certs) places t.place t.cert there t.stands)
    ]

-- ---- what is picked

abbrev pub picked_claims : List Certificate → List Bool → List Claim
picked_claims certs marks = map (λ (c : ℕ × Claim). c.1) (picked 0 (map claim_of certs) marks)

pub taken-picked : (certs : List Certificate) (moment : ℕ) (places : List ℕ) (marks : List Bool) (x : Claim) → AreMarked certs moment places (length certs) marks → Contains (picked_claims certs marks) x → IsTaken certs moment places x
taken-picked certs moment places marks x m h =
    let (p, has, e) = Contains-from_map (λ (c : ℕ × Claim). c.1) (picked 0 (map claim_of certs) marks) x h in
    let (k, at) = at-has (picked 0 (map claim_of certs) marks) p has in
    let q : IsPicked 0 (map claim_of certs) marks p.0 p.1 = picked-at 0 (map claim_of certs) marks k p.0 p.1 at in
    let (c, stands, says) = option_map_some claim_of (slice_get certs q.number) p.1 (sym (slice_get-map claim_of certs q.number) ∙ q.stands) in
    record {
      place = q.number;
      cert = c;
      stands = stands;
      taken = (m.each q.number c (slice_get_within certs q.number c stands) stands).0 q.marked;
      says = says ∙ e;
    }

pub picked-taken : (certs : List Certificate) (moment : ℕ) (places : List ℕ) (marks : List Bool) (x : Claim) → AreMarked certs moment places (length certs) marks → IsTaken certs moment places x → Contains (picked_claims certs marks) x
picked-taken certs moment places marks x m t =
    let (k, at) = has-picked 0 (map claim_of certs) marks t.place (claim_of t.cert) (slice_get-map claim_of certs t.place ∙ ap (option_map claim_of) t.stands)
    ((m.each t.place t.cert (slice_get_within certs t.place t.cert t.stands) t.stands).1 t.taken) in
    let p : ℕ × Claim = (0 + t.place, claim_of t.cert) in
    subst (Contains (picked_claims certs marks)) t.says
    (Contains-to_map (λ (c : ℕ × Claim). c.1) (picked 0 (map claim_of certs) marks) p (has-at (picked 0 (map claim_of certs) marks) k p at))

-- ---- what is derivable

pub speaks_more : (anchors : List Anchor) (said more : List Claim) (left right : Principal) → ((x : Claim) → Contains said x → Contains more x) → MaySpeak anchors said left right → MaySpeak anchors more left right
speaks_more anchors said more left right sub d =
    derives_more anchors said more (λ i x e. at-has more x (sub x (has-at said i x e))) (rules.SpeaksFor left right) d

pub speaks_by_marks : (anchors : List Anchor) (certs : List Certificate) (moment : ℕ) (places : List ℕ) (marks : List Bool) (left right : Principal) →
    AreMarked certs moment places (length certs) marks →
    MaySpeak anchors (picked_claims certs marks) left right ↔ MaySpeak anchors (claims (revived certs moment places)) left right
speaks_by_marks anchors certs moment places marks left right m = (
  speaks_more anchors _ _ left right (λ x h. revived-taken certs moment places x (taken-picked certs moment places marks x m h)),
  speaks_more anchors _ _ left right (λ x h. picked-taken certs moment places marks x m (taken-revived certs moment places x h)),
)

-- the more places, the more is derivable
pub speaks_by_more : (anchors : List Anchor) (certs : List Certificate) (moment : ℕ) (places : List ℕ) (m n : ℕ) (left right : Principal) → m ≤ n →
    MaySpeak anchors (claims (revived certs moment (take m places))) left right → MaySpeak anchors (claims (revived certs moment (take n places))) left right
speaks_by_more anchors certs moment places m n left right le =
    speaks_more anchors _ _ left right (λ x h. revived-taken certs moment (take n places) x (longer x (taken-revived certs moment (take m places) x h)))
  where
    longer : (x : Claim) → IsTaken certs moment (take m places) x → IsTaken certs moment (take n places) x
    longer x t = record {
      place = t.place;
      cert = t.cert;
      stands = t.stands;
      taken = elim t.taken [ inl l ↦ inl l | inr h ↦ inr (Contains-take m n places t.place le h) ];
      says = t.says;
    }

-- with none besides there are the live ones
pub speaks_by_none : (anchors : List Anchor) (certs : List Certificate) (moment : ℕ) (places : List ℕ) (left right : Principal) → MaySpeak anchors (claims (revived certs moment (take 0 places))) left right → MaySpeak anchors (claims (live certs moment)) left right
speaks_by_none anchors certs moment places left right =
    subst (λ said. MaySpeak anchors (claims said) left right) (append-nil (live certs moment))

-- with all that are not live there are all
pub speaks_by_all : (anchors : List Anchor) (certs : List Certificate) (moment : ℕ) (places : List ℕ) (left right : Principal) → OutInOrder certs moment places → MaySpeak anchors (claims certs) left right → MaySpeak anchors (claims (revived certs moment places)) left right
speaks_by_all anchors certs moment places left right d = speaks_more anchors _ _ left right each
  where
    each : (x : Claim) → Contains (claims certs) x → Contains (claims (revived certs moment places)) x
    each x h =
        let (c, has, says) = Contains-from_map claim_of certs x h in
        let (i, at) = at-has certs c has in
        let which : IsLive moment c ⊎ Contains places i =
        elim (cases_live moment c) [ inl l ↦ inl l | inr out ↦ inr ((d.out i).1 (c, at, out)) ] in
        revived-taken certs moment places x (record { place = i; cert = c; stands = at; taken = which; says = says })

-- what is asked by marks is asked about the live certificates and those at the places
pub asks_by_marks : (q : Question) (anchors : List Anchor) (certs : List Certificate) (moment : ℕ) (places : List ℕ) (n : ℕ) (marks used : List Bool) (subject : Principal) (list : List Grant) →
    q ≡ question_of anchors certs used subject list → used ≡ marks → n ≡ length certs → AreMarked certs moment places n marks → AsksWith q anchors certs moment places subject list
asks_by_marks q anchors certs moment places n marks used subject list asked same count m = record {
  answers = answers;
  subject_is = ap (λ (x : Question). x.subject) asked;
  list_is = ap (λ (x : Question). x.list) asked;
}
  where
    e : q ≡ question_of anchors certs marks subject list
    e = asked ∙ ap (λ u. question_of anchors certs u subject list) same

    answers : (left right : Principal) → MayAnswer q left right ↔ MaySpeak anchors (claims (revived certs moment places)) left right
    answers left right =
        let by = speaks_by_marks anchors certs moment places marks left right (subst (λ k. AreMarked certs moment places k marks) count m) in
        (λ d. by.0 (subst (λ (p : Question). MayAnswer p left right) e d), λ d. subst (λ (p : Question). MayAnswer p left right) (sym e) (by.1 d))

-- ---- marks, one after the other

mark_before : (marks : List Bool) (b : Bool) (i : ℕ) → i < length marks → slice_get (marks ++ b ∷ []) i ≡ slice_get marks i
mark_before marks b i lt =
    slice_get-get_or (marks ++ b ∷ []) i b (omega (arith, lt, length-append marks (b ∷ []))) ∙ ap Some (get_or_append_left marks (b ∷ []) b i lt) ∙ sym (slice_get-get_or marks i b lt)

mark_last : (marks : List Bool) (b : Bool) → slice_get (marks ++ b ∷ []) (length marks) ≡ Some b
mark_last marks b = slice_get-get_or (marks ++ b ∷ []) (length marks) b (omega (arith, length-append marks (b ∷ []))) ∙ ap Some (get_or-append_seam marks b [] b)

pub marks_push : (certs : List Certificate) (moment : ℕ) (places : List ℕ) (n : ℕ) (marks new : List Bool) (c : Certificate) (b : Bool) → AreMarked certs moment places n marks → slice_get certs n ≡ Some c →
    IsTrue b ↔ (IsLive moment c ⊎ Contains places n) → new ≡ marks ++ b ∷ [] → AreMarked certs moment places (n + 1) new
marks_push certs moment places n marks new c b m at is e = record { count = omega (arith, ap length e, length-append marks (b ∷ []), m.count); each = each }
  where
    each : (i : ℕ) (d : Certificate) → i < n + 1 → slice_get certs i ≡ Some d → (slice_get new i ≡ Some true) ↔ (IsLive moment d ⊎ Contains places i)
    each i d lt there =
        elim (cases_lt i n) [
          | inl before ↦
              let same : slice_get new i ≡ slice_get marks i = ap (λ ms. slice_get ms i) e ∙ mark_before marks b i (omega (arith, before, m.count)) in
              let was = m.each i d before there in
              (λ t. was.0 (sym same ∙ t), λ h. same ∙ was.1 h)
          | inr past ↦
              let last : i ≡ n = omega (arith, lt, past) in
              let same : d ≡ c = same_Some d c (sym there ∙ ap (slice_get certs) last ∙ at) in
              let mark : slice_get new i ≡ Some b = ap₂ (λ (ms : List Bool) (k : ℕ). slice_get ms k) e (last ∙ sym m.count) ∙ mark_last marks b in (
                λ t. subst (λ k. IsLive moment d ⊎ Contains places k) (sym last) (subst (λ x. IsLive moment x ⊎ Contains places n) (sym same) (is.0 (same_Some b true (sym mark ∙ t)))),
                λ h. mark ∙ ap Some (is.1 (subst (λ x. IsLive moment x ⊎ Contains places n) same (subst (λ k. IsLive moment d ⊎ Contains places k) last h))),
              )
        ]

-- ---- the certificate that is needed

module _ {anchors : List Anchor} {certs : List Certificate} {moment : ℕ} {subject who : Principal} {c : ℕ} (needed : IsNeeded anchors certs moment subject who c) where
  -- it is not live
  pub needed_out : IsOut certs moment c
  needed_out = (needed.in_order.out c).0 (has-at needed.places needed.n c needed.stands)

  pub needed_there : c < length certs
  needed_there = slice_get_within certs c needed_out.0 needed_out.1

  pub needed_dead : (d : Certificate) → slice_get certs c ≡ Some d → IsDead moment d → IsAt certs (IsDead moment) c
  needed_dead d at dead = (d, at, dead)

  pub needed_early : (d : Certificate) → slice_get certs c ≡ Some d → (IsDead moment d → ⊥) → IsAt certs (IsEarly moment) c
  needed_early d at not_dead =
      let same : needed_out.0 ≡ d = same_Some needed_out.0 d (sym needed_out.1 ∙ at) in
      (d, at, elim (dead_or_early moment d (λ lives. needed_out.2 (subst (IsLive moment) (sym same) lives))) [ inl dead ↦ absurd (not_dead dead) | inr early ↦ early ])

-- ---- certificates that are not live are added one after the other

module _ (anchors : List Anchor) (certs : List Certificate) (moment : ℕ) (places : List ℕ) (subject : Principal) (list : List Grant) (right : ℕ) where
  abbrev pub Enough : ℕ → Grant → Type 0
  Enough n e = MaySpeak anchors (claims (revived certs moment (take n places))) subject e.who

  -- the entry at this place is derivable with the first n, and with the needed certificate first
  abbrev pub IsFoundAt : ℕ → ℕ → Revival → Type 0
  IsFoundAt end n r =
      (r.entry ≡ end) × (e : Grant) × (slice_get list end ≡ Some e) × HasRight e right × Enough n e × IsNeeded anchors certs moment subject e.who r.cert

  more : (n m : ℕ) (e : Grant) → n ≤ m → Enough n e → Enough m e
  more n m e le h = speaks_by_more anchors certs moment places n m subject e.who le h

  pub none_begins : (Grants anchors (claims (live certs moment)) subject list right → ⊥) → NoneBefore list right (Enough 0) (length list)
  none_begins denied k e lt s r h =
      denied (record { place = k; entry = e; stands = s; has_right = r; speaks = speaks_by_none anchors certs moment places subject e.who h })

  pub found_still : (end n : ℕ) (r : Revival) → IsFoundAt end n r → IsFoundAt end (n + 1) r
  found_still end n r (at, e, s, has, enough, needed) = (at, e, s, has, more n (n + 1) e (omega arith) enough, needed)

  -- one before it is, and was not before
  pub found_now : (end n k c : ℕ) (e : Grant) (r : Revival) → OutInOrder certs moment places → NoneBefore list right (Enough n) end → k < end → FirstEntry list right (Enough (n + 1)) k e →
      slice_get places n ≡ Some c → r.entry ≡ k → r.cert ≡ c → IsFoundAt k (n + 1) r
  found_now end n k c e r d none lt f stands at is = (at, e, f.stands, f.has_right, f.holds, needed)
    where
      needed : IsNeeded anchors certs moment subject e.who r.cert
      needed = record {
        n = n;
        places = places;
        in_order = d;
        enough = f.holds;
        no_fewer = λ m le h. none k e lt f.stands f.has_right (more m n e le h);
        stands = stands ∙ ap Some (sym is);
      }

  -- what is found stays found where one more is taken
  pub still_found : (o : Option Revival) (end n : ℕ) (N : Type 0) → MatchOption o N (IsFoundAt end n) → MatchOption o N (IsFoundAt end (n + 1))
  still_found None end n N h = h
  still_found (Some r) end n N h = found_still end n r h

  -- what a question about them answers
  module _ (q : Question) (n : ℕ) (asks : AsksWith q anchors certs moment (take n places) subject list) where
    pub asked_none : (end : ℕ) → NoneBefore list right (λ (e : Grant). MayAnswer q subject e.who) end → NoneBefore list right (Enough n) end
    asked_none end none k e lt s r h = none k e lt s r ((asks.answers subject e.who).1 h)

    pub asked_first : (k : ℕ) (e : Grant) → FirstEntry list right (λ (g : Grant). MayAnswer q subject g.who) k e → FirstEntry list right (Enough n) k e
    asked_first k e f = record {
      stands = f.stands;
      has_right = f.has_right;
      holds = (asks.answers subject e.who).0 f.holds;
      first = λ j g lt s r h. f.first j g lt s r ((asks.answers subject g.who).1 h);
    }

  -- at the end there are all
  module _ (d : OutInOrder certs moment places) (n : ℕ) (all : length places ≤ n) where
    by_all : (e : Grant) → MaySpeak anchors (claims certs) subject e.who → Enough n e
    by_all e h = subst (λ ps. MaySpeak anchors (claims (revived certs moment ps)) subject e.who) (sym (take_all n places all)) (speaks_by_all anchors certs moment places subject e.who d h)

    all_by : (e : Grant) → Enough n e → MaySpeak anchors (claims certs) subject e.who
    all_by e h = speaks_more anchors _ _ subject e.who (λ x k. taken_all x (taken-revived certs moment (take n places) x k)) h
      where
        taken_all : (x : Claim) → IsTaken certs moment (take n places) x → Contains (claims certs) x
        taken_all x t = subst (Contains (claims certs)) t.says (Contains-to_map claim_of certs t.cert (has-at certs t.place t.cert t.stands))

    pub none_ends : NoneBefore list right (Enough n) (length list) → NoEntryWith list right (λ (e : Grant). MaySpeak anchors (claims certs) subject e.who)
    none_ends none k e s r h = none k e (slice_get_within list k e s) s r (by_all e h)

    pub found_ends : (end : ℕ) (r : Revival) → NoneBefore list right (Enough n) end → IsFoundAt end n r → IsRevived anchors certs moment subject list right r
    found_ends end r none (at, e, s, has, enough, needed) = record {
      entry = e;
      first = rw at (record { stands = s; has_right = has; holds = all_by e enough; first = λ k g lt q h m. none k g lt q h (by_all g m) });
      needed = needed;
    }

    pub revived_ends : (o : Option Revival) (end m : ℕ) → m ≡ length list → NoneBefore list right (Enough n) end → MatchOption o (end ≡ m) (IsFoundAt end n) →
        MatchOption o (NoEntryWith list right (λ (e : Grant). MaySpeak anchors (claims certs) subject e.who)) (IsRevived anchors certs moment subject list right)
    revived_ends None end m count none e = none_ends (subst (NoneBefore list right (Enough n)) (e ∙ count) none)
    revived_ends (Some r) end m count none found = found_ends end r none found
