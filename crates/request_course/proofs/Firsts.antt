-- By the same answers of the link the certificates of a request open, or the first that comes to none does so in one way.
use Rattle.std.proofs.Common.{◌≡◌, ◌⊎◌, ℕ, List, [], ◌∷◌, ◌++◌, refl, sym, ap, subst, ◌∙◌, append_assoc, inl, inr}
use Rattle.keyed_seal.specs.Tag.{tag_of}
use Rattle.keyed_seal.proofs.Tags.{length-tag_of}
use Rattle.stmt_codec.specs.Certificates.{Certificate, body_spelling}
use Rattle.stmt_codec.proofs.Once.{body_once}
use Rattle.sealed_cert.specs.Seals.{sealed_text, Spells, Opens}
use Rattle.request_course.specs.Credentials.{Resealed, Refused, Failed, LinkCall, call, IsIssued, IsResealed, Comes, by_node, by_relay, IsRefused, malformed, bad_seal, refused, bad_reseal, AreOpened, none_more, one_more, IsFirstRefused, IsFirstFailed}

-- ---- the bytes of one

pub kinds_apart : (text x y : List ℕ) → text ≡ 2 ∷ x → text ≡ 1 ∷ y → ⊥
kinds_apart text x y relayed issued = absurd cc

abbrev pub body_and_tag : List ℕ → Certificate → List ℕ
body_and_tag key c = body_spelling c ++ tag_of key (sealed_text 2 c)

pub not_issued : (key text : List ℕ) (c : Certificate) → Opens key text c → IsIssued text → ⊥
not_issued key text c opens issued = kinds_apart text (body_and_tag key c) issued.0 opens.text issued.1

pub is_issued : (key text new : List ℕ) (c : Certificate) → IsResealed key text new c → IsIssued text
is_issued key text new c is = (body_spelling c ++ is.tag, is.presented.text)

pub spelled_so : (key text : List ℕ) (c : Certificate) → Opens key text c → Spells 2 text c (tag_of key (sealed_text 2 c))
spelled_so key text c opens = record { text = opens.text; whole_tag = length-tag_of key (sealed_text 2 c); numbers = opens.numbers; limits = opens.limits }

pub rests : (x y : List ℕ) → 2 ∷ x ≡ 2 ∷ y → x ≡ y
rests x y e = cc

-- bytes that open have the right tag
pub right_tag : (key text : List ℕ) (c d : Certificate) (tag : List ℕ) → Opens key text c → Spells 2 text d tag → tag ≡ tag_of key (sealed_text 2 d)
right_tag key text c d tag opens spelled =
    let once = body_once c d (tag_of key (sealed_text 2 c)) tag opens.numbers spelled.numbers (rests (body_and_tag key c) (body_spelling d ++ tag) (sym opens.text ∙ spelled.text)) in
    subst (λ (x : Certificate). tag ≡ tag_of key (sealed_text 2 x)) once.0 (sym once.1)

-- ---- one of them

-- it comes to none by these calls, or the link failed
abbrev Stops : List ℕ → List ℕ → List LinkCall → Type 0
Stops key text last = ((code : ℕ) × IsRefused key text last code) ⊎ (IsIssued text × (last ≡ call text Failed ∷ []))

first_answer : (c d : LinkCall) (m k : List LinkCall) → c ∷ m ≡ d ∷ k → c.answer ≡ d.answer
first_answer c d m k e =
    let h : c ≡ d = cc in
    ap (λ (x : LinkCall). x.answer) h

new_apart : (new : List ℕ) (code : ℕ) → Resealed new ≡ Refused code → ⊥
new_apart new code e = absurd cc

new_failed : (new : List ℕ) → Resealed new ≡ Failed → ⊥
new_failed new e = absurd cc

code_failed : (code : ℕ) → Refused code ≡ Failed → ⊥
code_failed code e = absurd cc

one_new : (new other : List ℕ) → Resealed new ≡ Resealed other → new ≡ other
one_new new other e = cc

module _ (text : List ℕ) (m : List LinkCall) where
  code_apart : (new : List ℕ) (code : ℕ) → call text (Resealed new) ∷ m ≡ call text (Refused code) ∷ [] → ⊥
  code_apart new code e = new_apart new code (first_answer (call text (Resealed new)) (call text (Refused code)) m [] e)

  fault_apart : (new : List ℕ) → call text (Resealed new) ∷ m ≡ call text Failed ∷ [] → ⊥
  fault_apart new e = new_failed new (first_answer (call text (Resealed new)) (call text Failed) m [] e)

  same_new : (new other : List ℕ) → call text (Resealed new) ∷ m ≡ call text (Resealed other) ∷ [] → new ≡ other
  same_new new other e = one_new new other (first_answer (call text (Resealed new)) (call text (Resealed other)) m [] e)

  same_call : (new other : List ℕ) (k : List LinkCall) → call text (Resealed new) ∷ m ≡ call text (Resealed other) ∷ k → (call text (Resealed new) ∷ [] ≡ call text (Resealed other) ∷ []) × (m ≡ k)
  same_call new other k e = (cc, cc)

module _ (key text : List ℕ) where
  same_first : (f g m k : List LinkCall) (c d : Certificate) → Comes key text f c → Comes key text g d → f ++ m ≡ g ++ k → (f ≡ g) × (m ≡ k)
  same_first f g m k c d (by_node opens) (by_node others) e = (refl, e)
  same_first f g m k c d (by_node opens) (by_relay {new} is) e = absurd (not_issued key text c opens (is_issued key text new d is))
  same_first f g m k c d (by_relay {new} is) (by_node opens) e = absurd (not_issued key text d opens (is_issued key text new c is))
  same_first f g m k c d (by_relay {new} is) (by_relay {new = other} others) e = same_call text m new other k e

  opens_or_stops : (c : Certificate) (last : List LinkCall) → Opens key text c → Stops key text last → ⊥
  opens_or_stops c last opens (inl (code, malformed other none)) = none c (tag_of key (sealed_text 2 c)) (spelled_so key text c opens)
  opens_or_stops c last opens (inl (code, bad_seal d tag spelled wrong)) = wrong (right_tag key text c d tag opens spelled)
  opens_or_stops c last opens (inl (code, refused issued fits)) = not_issued key text c opens issued
  opens_or_stops c last opens (inl (code, bad_reseal issued none)) = not_issued key text c opens issued
  opens_or_stops c last opens (inr (issued, is)) = not_issued key text c opens issued

  resealed_or_stops : (new : List ℕ) (c : Certificate) (m last : List LinkCall) → IsResealed key text new c → Stops key text last → call text (Resealed new) ∷ m ≡ last → ⊥
  resealed_or_stops new c m last is (inl (code, malformed other none)) e = other (is_issued key text new c is)
  resealed_or_stops new c m last is (inl (code, bad_seal d tag spelled wrong)) e = kinds_apart text (body_spelling d ++ tag) (body_spelling c ++ is.tag) spelled.text is.presented.text
  resealed_or_stops new c m last is (inl (code, refused issued fits)) e = code_apart text m new code e
  resealed_or_stops new c m last is (inl (code, bad_reseal {new = other} issued none)) e = none c (subst (λ (l : List ℕ). IsResealed key text l c) (same_new text m new other e) is)
  resealed_or_stops new c m last is (inr (issued, failed)) e = fault_apart text m new (e ∙ failed)

  comes_or_stops : (f m last : List LinkCall) (c : Certificate) → Comes key text f c → Stops key text last → f ++ m ≡ last → ⊥
  comes_or_stops f m last c (by_node opens) stops e = opens_or_stops c last opens stops
  comes_or_stops f m last c (by_relay {new} is) stops e = resealed_or_stops new c m last is stops e

  refused_or_failed : (last : List LinkCall) (code : ℕ) → IsRefused key text last code → IsIssued text → last ≡ call text Failed ∷ [] → ⊥
  refused_or_failed last code (malformed other none) issued e = other issued
  refused_or_failed last code (bad_seal d tag spelled wrong) issued e = kinds_apart text (body_spelling d ++ tag) issued.0 spelled.text issued.1
  refused_or_failed last code (refused {code = c} is fits) issued e = code_failed c (first_answer (call text (Refused c)) (call text Failed) [] [] e)
  refused_or_failed last code (bad_reseal {new} is none) issued e = fault_apart text [] new e

-- ---- all of them

heads : (x y : List ℕ) (xs ys : List (List ℕ)) → x ∷ xs ≡ y ∷ ys → (x ≡ y) × (xs ≡ ys)
heads x y xs ys e = (cc, cc)

nothing_left : (x : List ℕ) (xs : List (List ℕ)) → [] ≡ x ∷ xs → ⊥
nothing_left x xs e = absurd cc

module _ (key text : List ℕ) (rest : List (List ℕ)) (last : List LinkCall) (stops : Stops key text last) where
  -- where all open none stops
  all_or_first : (texts front : List (List ℕ)) (calls before : List LinkCall) (certs others : List Certificate) → AreOpened key texts calls certs → AreOpened key front before others →
      texts ≡ front ++ text ∷ rest → calls ≡ before ++ last → ⊥
  all_or_first texts front calls before certs others none_more none_more whole e = nothing_left text rest whole
  all_or_first texts front calls before certs others none_more (one_more {text = y} {texts = ys} comes behind) whole e = nothing_left y (ys ++ text ∷ rest) whole
  all_or_first texts front calls before certs others (one_more {text = x} {first = f} {calls = m} {c = c} {texts = xs} comes behind) none_more whole e =
      let h = heads x text xs rest whole in
      comes_or_stops key text f m last c (subst (λ (t : List ℕ). Comes key t f c) h.0 comes) stops e
  all_or_first texts front calls before certs others (one_more {text = x} {first = f} {calls = m} {c = c} {texts = xs} {certs = cs} comes behind)
      (one_more {text = y} {first = g} {calls = k} {c = d} {texts = ys} {certs = ds} there before_it) whole e =
      let h = heads x y xs (ys ++ text ∷ rest) whole in
      let s = same_first key y f g m (k ++ last) c d (subst (λ (t : List ℕ). Comes key t f c) h.0 comes) there (e ∙ append_assoc g k last) in
      all_or_first xs ys m k cs ds behind before_it h.1 s.1

module _ (key text other : List ℕ) (rest more : List (List ℕ)) (last end : List LinkCall) (code : ℕ) (why : IsRefused key text last code) (issued : IsIssued other) (fails : end ≡ call other Failed ∷ []) where
  -- the first that comes to none was refused, or the link failed for it
  one_first : (front forward : List (List ℕ)) (before earlier : List LinkCall) (certs others : List Certificate) → AreOpened key front before certs → AreOpened key forward earlier others →
      front ++ text ∷ rest ≡ forward ++ other ∷ more → before ++ last ≡ earlier ++ end → ⊥
  one_first front forward before earlier certs others none_more none_more whole e =
      let h = heads text other rest more whole in
      refused_or_failed key other last code (subst (λ (t : List ℕ). IsRefused key t last code) h.0 why) issued (e ∙ fails)
  one_first front forward before earlier certs others none_more (one_more {text = y} {first = g} {calls = k} {c = d} {texts = ys} there before_it) whole e =
      let h = heads text y rest (ys ++ other ∷ more) whole in
      comes_or_stops key y g (k ++ end) last d there (inl (code, subst (λ (t : List ℕ). IsRefused key t last code) h.0 why)) (sym (append_assoc g k end) ∙ sym e)
  one_first front forward before earlier certs others (one_more {text = x} {first = f} {calls = m} {c = c} {texts = xs} comes behind) none_more whole e =
      let h = heads x other (xs ++ text ∷ rest) more whole in
      comes_or_stops key other f (m ++ last) end c (subst (λ (t : List ℕ). Comes key t f c) h.0 comes) (inr (issued, fails)) (sym (append_assoc f m last) ∙ e)
  one_first front forward before earlier certs others (one_more {text = x} {first = f} {calls = m} {c = c} {texts = xs} {certs = cs} comes behind)
      (one_more {text = y} {first = g} {calls = k} {c = d} {texts = ys} {certs = ds} there before_it) whole e =
      let h = heads x y (xs ++ text ∷ rest) (ys ++ other ∷ more) whole in
      let s = same_first key y f g (m ++ last) (k ++ end) c d (subst (λ (t : List ℕ). Comes key t f c) h.0 comes) there (sym (append_assoc f m last) ∙ e ∙ append_assoc g k end) in
      one_first xs ys m k cs ds behind before_it h.1 s.1

pub opened_or_refused : (key : List ℕ) (texts : List (List ℕ)) (calls : List LinkCall) (certs : List Certificate) (index code : ℕ) → AreOpened key texts calls certs → IsFirstRefused key texts calls index code → ⊥
opened_or_refused key texts calls certs index code opened first =
    let s = first.stops in
    all_or_first key first.text s.rest first.last (inl (code, first.refused)) texts s.front calls first.before certs s.certs opened s.opened s.whole first.calls_are

pub opened_or_failed : (key : List ℕ) (texts : List (List ℕ)) (calls : List LinkCall) (certs : List Certificate) (index : ℕ) → AreOpened key texts calls certs → IsFirstFailed key texts calls index → ⊥
opened_or_failed key texts calls certs index opened first =
    let s = first.stops in
    all_or_first key first.text s.rest (call first.text Failed ∷ []) (inr (first.issued, refl)) texts s.front calls first.before certs s.certs opened s.opened s.whole first.calls_are

pub refused_or_link : (key : List ℕ) (texts : List (List ℕ)) (calls : List LinkCall) (index code other : ℕ) → IsFirstRefused key texts calls index code → IsFirstFailed key texts calls other → ⊥
refused_or_link key texts calls index code other first failed =
    let s = first.stops in
    let t = failed.stops in
    one_first key first.text failed.text s.rest t.rest first.last (call failed.text Failed ∷ []) code first.refused failed.issued refl
    s.front t.front first.before failed.before s.certs t.certs s.opened t.opened (sym s.whole ∙ t.whole) (sym first.calls_are ∙ failed.calls_are)
