-- The certificates of a request by the same answers of the link: they open, or the first that comes to none does so, in one way.
use Rattle.std.proofs.Common.{◌≡◌, ◌≢◌, ◌⊎◌, ℕ, ◌+◌, List, [], ◌∷◌, ◌++◌, length, refl, sym, ap, subst, ◌∙◌, append_assoc, inl, inr, arith, suc}
use Rattle.keyed_seal.specs.Tag.{tag_of}
use Rattle.sealed_cert.specs.Seals.{sealed_text, Spells, Opens}
use Rattle.sealed_cert.specs.declared.kind.TheConstants.{RELAYED}
use Rattle.stmt_codec.specs.Certificates.{Certificate, body_spelling}
use Rattle.stmt_codec.proofs.Once.{body_once}
use Rattle.relay_core.specs.declared.code.TheConstants.{MALFORMED, BAD_SEAL}
use Rattle.relay_core.specs.declared.presenting.TheConstants.{BAD_RESEAL}
use Rattle.request_course.specs.Credentials.{LinkAnswer, Resealed, Refused, Lacked, Failed, LinkCall, call, IsIssued, IsResealed, Comes, by_node, by_relay, IsRefused, malformed, bad_seal, refused, bad_reseal, AreOpened, none_more, one_more, IsFirstRefused, IsFirstFailed}
use Rattle.request_course.proofs.Firsts.{kinds_apart, not_issued, is_issued, spelled_so, body_and_tag, rests, right_tag}

pub opened_count : (key : List ℕ) (texts : List (List ℕ)) (calls : List LinkCall) (certs : List Certificate) → AreOpened key texts calls certs → length certs ≡ length texts
opened_count key texts calls certs none_more = refl
opened_count key texts calls certs (one_more {calls = rest} {texts = others} {certs = ds} comes more) = ap suc (opened_count key others rest ds more)

-- ---- one of them

-- what comes of one: a certificate, a refusal by this code, or that the link failed
pub data One : Type 0 where
  Came : Certificate → One
  Refusal : ℕ → One
  Failing : One

-- it comes to this by these calls
pub data OneEnd (key text : List ℕ) : List LinkCall → One → Type 0 where
  came : {calls : List LinkCall} {c : Certificate} → Comes key text calls c → OneEnd key text calls (Came c)
  stopped : {calls : List LinkCall} {code : ℕ} → IsRefused key text calls code → OneEnd key text calls (Refusal code)
  failed : IsIssued text → OneEnd key text (call text Failed ∷ []) Failing

-- two certificates in the same bytes are one
pub opens_once : (key text : List ℕ) (c d : Certificate) → Opens key text c → Opens key text d → c ≡ d
opens_once key text c d x y = (body_once c d (tag_of key (sealed_text 2 c)) (tag_of key (sealed_text 2 d)) x.numbers y.numbers (rests (body_and_tag key c) (body_and_tag key d) (sym x.text ∙ y.text))).0

-- what is under the relay's seal for the node is not sent to the relay
pub relayed_alone : (key text new : List ℕ) (c d : Certificate) → Opens key text c → IsResealed key text new d → ⊥
relayed_alone key text new c d opens is = not_issued key text c opens (is_issued key text new d is)

module _ (key text : List ℕ) where
  -- without the link
  abbrev NodeEnd : One → Type 0
  NodeEnd one =
      ((c : Certificate) × Opens key text c × (one ≡ Came c)) ⊎
      ((((c : Certificate) (tag : List ℕ) → Spells RELAYED text c tag → ⊥) × (one ≡ Refusal MALFORMED)) ⊎
      ((c : Certificate) × (tag : List ℕ) × Spells RELAYED text c tag × (tag ≢ tag_of key (sealed_text RELAYED c)) × (one ≡ Refusal BAD_SEAL)))

  -- by an answer of the link
  abbrev LinkEnd : LinkAnswer → One → Type 0
  LinkEnd (Resealed new) one = ((c : Certificate) × IsResealed key text new c × (one ≡ Came c)) ⊎ (((c : Certificate) → IsResealed key text new c → ⊥) × (one ≡ Refusal BAD_RESEAL))
  LinkEnd (Refused code) one = one ≡ Refusal code
  LinkEnd Lacked one = ⊥
  LinkEnd Failed one = one ≡ Failing

  abbrev EndsOne : List LinkCall → One → Type 0
  EndsOne calls one = ((IsIssued text → ⊥) × (calls ≡ []) × NodeEnd one) ⊎ (IsIssued text × ((answer : LinkAnswer) × (calls ≡ call text answer ∷ []) × LinkEnd answer one))

  ends_one : (calls : List LinkCall) (one : One) → OneEnd key text calls one → EndsOne calls one
  ends_one calls one (came {c} (by_node opens)) = inl (not_issued key text c opens, refl, inl (c, opens, refl))
  ends_one calls one (came {c} (by_relay {new} is)) = inr (is_issued key text new c is, (Resealed new, refl, inl (c, is, refl)))
  ends_one calls one (stopped (malformed other none)) = inl (other, refl, inr (inl (none, refl)))
  ends_one calls one (stopped (bad_seal d tag spelled wrong)) = inl (λ issued. kinds_apart text (body_spelling d ++ tag) issued.0 spelled.text issued.1, refl, inr (inr (d, tag, spelled, wrong, refl)))
  ends_one calls one (stopped (refused {code} issued fits)) = inr (issued, (Refused code, refl, refl))
  ends_one calls one (stopped (bad_reseal {new} issued none)) = inr (issued, (Resealed new, refl, inr (none, refl)))
  ends_one calls one (failed issued) = inr (issued, (Failed, refl, refl))

  node_alike : (a b : One) → NodeEnd a → NodeEnd b → a ≡ b
  node_alike a b (inl (c, x, is)) (inl (d, y, also)) = is ∙ ap Came (opens_once key text c d x y) ∙ sym also
  node_alike a b (inl (c, x, is)) (inr (inl (none, also))) = absurd (none c (tag_of key (sealed_text 2 c)) (spelled_so key text c x))
  node_alike a b (inl (c, x, is)) (inr (inr (d, tag, spelled, wrong, also))) = absurd (wrong (right_tag key text c d tag x spelled))
  node_alike a b (inr (inl (none, is))) (inl (d, y, also)) = absurd (none d (tag_of key (sealed_text 2 d)) (spelled_so key text d y))
  node_alike a b (inr (inl (none, is))) (inr (inl (never, also))) = is ∙ sym also
  node_alike a b (inr (inl (none, is))) (inr (inr (d, tag, spelled, wrong, also))) = absurd (none d tag spelled)
  node_alike a b (inr (inr (c, tag, spelled, wrong, is))) (inl (d, y, also)) = absurd (wrong (right_tag key text d c tag y spelled))
  node_alike a b (inr (inr (c, tag, spelled, wrong, is))) (inr (inl (none, also))) = absurd (none c tag spelled)
  node_alike a b (inr (inr (c, tag, spelled, wrong, is))) (inr (inr (d, other, spells, bad, also))) = is ∙ sym also

  link_alike : (answer : LinkAnswer) (a b : One) → LinkEnd answer a → LinkEnd answer b → a ≡ b
  link_alike (Resealed new) a b (inl (c, x, is)) (inl (d, y, also)) = is ∙ ap Came (opens_once key new c d x.opens y.opens) ∙ sym also
  link_alike (Resealed new) a b (inl (c, x, is)) (inr (none, also)) = absurd (none c x)
  link_alike (Resealed new) a b (inr (none, is)) (inl (d, y, also)) = absurd (none d y)
  link_alike (Resealed new) a b (inr (none, is)) (inr (never, also)) = is ∙ sym also
  link_alike (Refused code) a b x y = x ∙ sym y
  link_alike Lacked a b x y = absurd x
  link_alike Failed a b x y = x ∙ sym y

  same_answer : (c d : LinkAnswer) (m k : List LinkCall) → call text c ∷ m ≡ call text d ∷ k → (c ≡ d) × (m ≡ k)
  same_answer c d m k e = let calls : call text c ≡ call text d = cc in (ap (λ (x : LinkCall). x.answer) calls, cc)

  ends_alike : (f g m k : List LinkCall) (a b : One) → EndsOne f a → EndsOne g b → f ++ m ≡ g ++ k → (a ≡ b) × (m ≡ k)
  ends_alike f g m k a b (inl (other, none, x)) (inl (never, nothing, y)) e = (node_alike a b x y, ap (λ l. l ++ m) (sym none) ∙ e ∙ ap (λ l. l ++ k) nothing)
  ends_alike f g m k a b (inl (other, none, x)) (inr (issued, y)) e = absurd (other issued)
  ends_alike f g m k a b (inr (issued, x)) (inl (other, none, y)) e = absurd (other issued)
  ends_alike f g m k a b (inr (issued, (c, one, x))) (inr (also, (d, other, y))) e =
      let same = same_answer c d m k (ap (λ l. l ++ m) (sym one) ∙ e ∙ ap (λ l. l ++ k) other) in
      (link_alike c a b x (subst (λ (z : LinkAnswer). LinkEnd z b) (sym same.0) y), same.1)

  one_alike : (f g m k : List LinkCall) (a b : One) → OneEnd key text f a → OneEnd key text g b → f ++ m ≡ g ++ k → (a ≡ b) × (m ≡ k)
  one_alike f g m k a b x y e = ends_alike f g m k a b (ends_one f a x) (ends_one g b y) e

-- ---- all of them

-- what comes of all: certificates, or the first that comes to none, by its index
pub data End : Type 0 where
  Opened : List Certificate → End
  RefusedAt : ℕ → ℕ → End
  FailedAt : ℕ → End

-- with a certificate before them
abbrev pub push : Certificate → End → End
push c (Opened certs) = Opened (c ∷ certs)
push c (RefusedAt index code) = RefusedAt (index + 1) code
push c (FailedAt index) = FailedAt (index + 1)

module _ (key : List ℕ) where
  -- what comes after one, by what it came to
  abbrev pub After : One → (End → Type 0) → List LinkCall → List LinkCall → End → Type 0
  After (Came c) Then more rest end = (behind : End) × Then behind × (end ≡ push c behind)
  After (Refusal code) Then more rest end = (more ≡ rest) × (end ≡ RefusedAt 0 code)
  After Failing Then more rest end = (more ≡ rest) × (end ≡ FailedAt 0)

  pub record First (text : List ℕ) (all rest : List LinkCall) (end : End) (Then : List LinkCall → End → Type 0) : Type 0 where
    pub calls : List LinkCall
    pub more : List LinkCall
    pub whole : all ≡ calls ++ more
    pub one : One
    pub is : OneEnd key text calls one
    pub after : After one (Then more) more rest end

  -- the texts come to the end by the first of all calls, and these are the rest
  abbrev pub Certs : List (List ℕ) → List LinkCall → List LinkCall → End → Type 0
  Certs [] all rest end = (all ≡ rest) × (end ≡ Opened [])
  Certs (text ∷ texts) all rest end = First text all rest end (λ more behind. Certs texts more rest behind)

  after_alike : (one : One) (Then Other : End → Type 0) (more less r q : List LinkCall) (a b : End) → more ≡ less → ((x y : End) → Then x → Other y → (r ≡ q) × (x ≡ y)) → After one Then more r a → After one Other less q b → (r ≡ q) × (a ≡ b)
  after_alike (Came c) Then Other more less r q a b same later x y =
      let s = later x.0 y.0 x.1 y.1 in
      (s.0, x.2 ∙ ap (push c) s.1 ∙ sym y.2)
  after_alike _ Then Other more less r q a b same later x y = (sym x.0 ∙ same ∙ y.0, x.1 ∙ sym y.1)

  pub certs_agree : (texts : List (List ℕ)) (all r q : List LinkCall) (a b : End) → Certs texts all r a → Certs texts all q b → (r ≡ q) × (a ≡ b)
  certs_agree [] all r q a b x y = (sym x.0 ∙ y.0, x.1 ∙ sym y.1)
  certs_agree (text ∷ texts) all r q a b x y =
      let same = one_alike key text x.calls y.calls x.more y.more x.one y.one x.is y.is (sym x.whole ∙ y.whole) in
      after_alike x.one (λ e. Certs texts x.more r e) (λ e. Certs texts y.more q e) x.more y.more r q a b same.1
      (λ e f u v. certs_agree texts x.more r q e f u (subst (λ (l : List LinkCall). Certs texts l q f) (sym same.1) v)) x.after
      (subst (λ (o : One). After o (λ e. Certs texts y.more q e) y.more q b) (sym same.0) y.after)

  pub all_opened : (texts : List (List ℕ)) (calls rest : List LinkCall) (certs : List Certificate) → AreOpened key texts calls certs → Certs texts (calls ++ rest) rest (Opened certs)
  all_opened texts calls rest certs none_more = (refl, refl)
  all_opened texts calls rest certs (one_more {first} {calls = more} {c} {texts = others} {certs = ds} comes behind) = record {
    calls = first;
    more = more ++ rest;
    whole = append_assoc first more rest;
    one = Came c;
    is = came comes;
    after = (Opened ds, all_opened others more rest ds behind, refl);
  }

  abbrev pushes : List Certificate → End → End
  pushes [] end = end
  pushes (c ∷ certs) end = push c (pushes certs end)

  opened_before : (front texts : List (List ℕ)) (before all rest : List LinkCall) (certs : List Certificate) (end : End) → AreOpened key front before certs → Certs texts all rest end → Certs (front ++ texts) (before ++ all) rest (pushes certs end)
  opened_before front texts before all rest certs end none_more x = x
  opened_before front texts before all rest certs end (one_more {first} {calls = more} {c} {texts = others} {certs = ds} comes behind) x = record {
    calls = first;
    more = more ++ all;
    whole = append_assoc first more all;
    one = Came c;
    is = came comes;
    after = (pushes ds end, opened_before others texts more all rest ds end behind x, refl);
  }

  pushed_refusal : (certs : List Certificate) (code : ℕ) → pushes certs (RefusedAt 0 code) ≡ RefusedAt (length certs) code
  pushed_refusal [] code = refl
  pushed_refusal (c ∷ certs) code = ap (push c) (pushed_refusal certs code) ∙ ap (λ (k : ℕ). RefusedAt k code) (omega arith)

  pushed_failure : (certs : List Certificate) → pushes certs (FailedAt 0) ≡ FailedAt (length certs)
  pushed_failure [] = refl
  pushed_failure (c ∷ certs) = ap (push c) (pushed_failure certs) ∙ ap FailedAt (omega arith)

  pub first_refused : (texts : List (List ℕ)) (calls rest : List LinkCall) (index code : ℕ) → IsFirstRefused key texts calls index code → Certs texts (calls ++ rest) rest (RefusedAt index code)
  first_refused texts calls rest index code f =
      let s = f.stops in
      let here : Certs (f.text ∷ s.rest) (f.last ++ rest) rest (RefusedAt 0 code) = record { calls = f.last; more = rest; whole = refl; one = Refusal code; is = stopped f.refused; after = (refl, refl) } in
      let all = opened_before s.front (f.text ∷ s.rest) f.before (f.last ++ rest) rest s.certs (RefusedAt 0 code) s.opened here in
      let count : length s.certs ≡ index = opened_count key s.front f.before s.certs s.opened ∙ s.place in
      subst (λ (e : End). Certs texts (calls ++ rest) rest e) (pushed_refusal s.certs code ∙ ap (λ (k : ℕ). RefusedAt k code) count)
      (subst (λ (l : List LinkCall). Certs texts l rest (pushes s.certs (RefusedAt 0 code))) (sym (append_assoc f.before f.last rest) ∙ ap (λ l. l ++ rest) (sym f.calls_are))
      (subst (λ (ts : List (List ℕ)). Certs ts (f.before ++ (f.last ++ rest)) rest (pushes s.certs (RefusedAt 0 code))) (sym s.whole) all))

  pub first_failed : (texts : List (List ℕ)) (calls rest : List LinkCall) (index : ℕ) → IsFirstFailed key texts calls index → Certs texts (calls ++ rest) rest (FailedAt index)
  first_failed texts calls rest index f =
      let s = f.stops in
      let last = call f.text Failed ∷ [] in
      let here : Certs (f.text ∷ s.rest) (last ++ rest) rest (FailedAt 0) = record { calls = last; more = rest; whole = refl; one = Failing; is = failed f.issued; after = (refl, refl) } in
      let all = opened_before s.front (f.text ∷ s.rest) f.before (last ++ rest) rest s.certs (FailedAt 0) s.opened here in
      let count : length s.certs ≡ index = opened_count key s.front f.before s.certs s.opened ∙ s.place in
      subst (λ (e : End). Certs texts (calls ++ rest) rest e) (pushed_failure s.certs ∙ ap FailedAt count)
      (subst (λ (l : List LinkCall). Certs texts l rest (pushes s.certs (FailedAt 0))) (sym (append_assoc f.before last rest) ∙ ap (λ l. l ++ rest) (sym f.calls_are))
      (subst (λ (ts : List (List ℕ)). Certs ts (f.before ++ (last ++ rest)) rest (pushes s.certs (FailedAt 0))) (sym s.whole) all))
