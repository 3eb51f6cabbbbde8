-- The texts and the calls of the link leave one list of certificates.
use Rattle.std.proofs.Common.{◌≡◌, ◌⊎◌, ℕ, ◌<◌, ◌≤◌, List, [], ◌∷◌, ◌++◌, length, refl, sym, ap, subst, ◌∙◌, inl, inr, arith}
use Rattle.keyed_seal.specs.Tag.{tag_of}
use Rattle.keyed_seal.proofs.Tags.{length-tag_of}
use Rattle.sealed_cert.specs.Seals.{sealed_text, Spells, Opens}
use Rattle.sealed_cert.proofs.Apart.{one_body}
use Rattle.stmt_codec.specs.Certificates.{Certificate, body_spelling}
use Rattle.stmt_codec.proofs.Once.{body_once}
use Rattle.relay_core.specs.Credentials.{LinkAnswer, Resealed, Refused, Lacked, Failed, LinkCall, call, IsIssued, IsResealed, by_node, by_relay, malformed, bad_seal, bad_reseal}
use Rattle.relay_core.specs.Credentials.{refused as says_refused}
use Rattle.cred_pull.specs.Fetching.{Texts}
use Rattle.cred_pull.specs.Pulled.{IsOpened, comes, refused, too_long, ArePulled, none_more, one_more}

kinds_apart : (text x y : List ℕ) → text ≡ 2 ∷ x → text ≡ 1 ∷ y → ⊥
kinds_apart text x y relayed issued = absurd cc

rests : (x y : List ℕ) → 2 ∷ x ≡ 2 ∷ y → x ≡ y
rests x y e = cc

spelled_so : (key text : List ℕ) (c : Certificate) → Opens key text c → Spells 2 text c (tag_of key (sealed_text 2 c))
spelled_so key text c opens = record { text = opens.text; whole_tag = length-tag_of key (sealed_text 2 c); numbers = opens.numbers; limits = opens.limits }

-- bytes that open have the right tag
right_tag : (key text : List ℕ) (c d : Certificate) (tag : List ℕ) → Opens key text c → Spells 2 text d tag → tag ≡ tag_of key (sealed_text 2 d)
right_tag key text c d tag opens spelled =
    let once = body_once c d (tag_of key (sealed_text 2 c)) tag opens.numbers spelled.numbers (rests (body_spelling c ++ tag_of key (sealed_text 2 c)) (body_spelling d ++ tag) (sym opens.text ∙ spelled.text)) in
    subst (λ (x : Certificate). tag ≡ tag_of key (sealed_text 2 x)) once.0 (sym once.1)

module _ (key text : List ℕ) where
  -- without the link
  abbrev pub NodeEnd : List Certificate → Type 0
  NodeEnd own =
      ((c : Certificate) × Opens key text c × (own ≡ c ∷ [])) ⊎ (((c : Certificate) → Opens key text c → ⊥) × (own ≡ []))

  -- by an answer of the link
  abbrev pub LinkEnd : LinkAnswer → List Certificate → Type 0
  LinkEnd (Resealed new) own = ((c : Certificate) × IsResealed key text new c × (own ≡ c ∷ [])) ⊎ (((c : Certificate) → IsResealed key text new c → ⊥) × (own ≡ []))
  LinkEnd (Refused code) own = own ≡ []
  LinkEnd Lacked own = ⊥
  LinkEnd Failed own = ⊥

  -- too long; or opened by the node; or sent
  abbrev pub EndsOne : List LinkCall → List Certificate → Type 0
  EndsOne calls own =
      ((2048 < length text) × (calls ≡ []) × (own ≡ []))
      ⊎ ((length text ≤ 2048)
      × (((IsIssued text → ⊥) × (calls ≡ []) × NodeEnd own) ⊎ (IsIssued text × ((answer : LinkAnswer) × (calls ≡ call text answer ∷ []) × LinkEnd answer own))))

  not_issued : (c : Certificate) → Opens key text c → IsIssued text → ⊥
  not_issued c opens issued = kinds_apart text (body_spelling c ++ tag_of key (sealed_text 2 c)) issued.0 opens.text issued.1

  pub ends_one : (calls : List LinkCall) (own : List Certificate) → IsOpened key text calls own → EndsOne calls own
  ends_one calls own (comes {c = c} short (by_node opens)) = inr (short, inl (not_issued c opens, refl, inl (c, opens, refl)))
  ends_one calls own (comes {c = c} short (by_relay {new = new} is)) = inr (short, inr ((body_spelling c ++ is.tag, is.presented.text), (Resealed new, refl, inl (c, is, refl))))
  ends_one calls own (refused short (malformed other none)) = inr (short, inl (other, refl, inr (λ c opens. none c (tag_of key (sealed_text 2 c)) (spelled_so key text c opens), refl)))
  ends_one calls own (refused short (bad_seal d tag spelled wrong)) = inr (short, inl (λ issued. kinds_apart text (body_spelling d ++ tag) issued.0 spelled.text issued.1, refl, inr (λ c opens. wrong (right_tag key text c d tag opens spelled), refl)))
  ends_one calls own (refused short (says_refused {code = code} issued fits)) = inr (short, inr (issued, (Refused code, refl, refl)))
  ends_one calls own (refused short (bad_reseal {new = new} issued none)) = inr (short, inr (issued, (Resealed new, refl, inr (none, refl))))
  ends_one calls own (too_long long) = inl (long, refl, refl)

  node_alike : (a b : List Certificate) → NodeEnd a → NodeEnd b → a ≡ b
  node_alike a b (inl (c, x, is)) (inl (d, y, also)) = is ∙ ap (λ (e : Certificate). e ∷ []) (one_body 2 key key text c d x y) ∙ sym also
  node_alike a b (inl (c, x, is)) (inr (none, also)) = absurd (none c x)
  node_alike a b (inr (none, is)) (inl (d, y, also)) = absurd (none d y)
  node_alike a b (inr (none, is)) (inr (never, also)) = is ∙ sym also

  link_alike : (answer : LinkAnswer) (a b : List Certificate) → LinkEnd answer a → LinkEnd answer b → a ≡ b
  link_alike (Resealed new) a b (inl (c, x, is)) (inl (d, y, also)) = is ∙ ap (λ (e : Certificate). e ∷ []) (one_body 2 key key new c d x.opens y.opens) ∙ sym also
  link_alike (Resealed new) a b (inl (c, x, is)) (inr (none, also)) = absurd (none c x)
  link_alike (Resealed new) a b (inr (none, is)) (inl (d, y, also)) = absurd (none d y)
  link_alike (Resealed new) a b (inr (none, is)) (inr (never, also)) = is ∙ sym also
  link_alike (Refused code) a b x y = x ∙ sym y
  link_alike Lacked a b x y = absurd x
  link_alike Failed a b x y = absurd x

  pub same_answer : (c d : LinkAnswer) (m k : List LinkCall) → call text c ∷ m ≡ call text d ∷ k → (c ≡ d) × (m ≡ k)
  same_answer c d m k e = let calls : call text c ≡ call text d = cc in (ap (λ (x : LinkCall). x.answer) calls, cc)

  -- what is behind no calls
  both_none : (f g m k : List LinkCall) → f ≡ [] → g ≡ [] → f ++ m ≡ g ++ k → m ≡ k
  both_none f g m k none nothing e = ap (λ (l : List LinkCall). l ++ m) (sym none) ∙ e ∙ ap (λ (l : List LinkCall). l ++ k) nothing

  pub ends_alike : (f g m k : List LinkCall) (a b : List Certificate) → EndsOne f a → EndsOne g b → f ++ m ≡ g ++ k → (a ≡ b) × (m ≡ k)
  ends_alike f g m k a b (inl (long, none, is)) (inl (longer, nothing, also)) e = (is ∙ sym also, both_none f g m k none nothing e)
  ends_alike f g m k a b (inl (long, none, is)) (inr (short, y)) e = absurd (omega (arith, long, short))
  ends_alike f g m k a b (inr (short, x)) (inl (long, nothing, also)) e = absurd (omega (arith, long, short))
  ends_alike f g m k a b (inr (short, inl (other, none, x))) (inr (low, inl (never, nothing, y))) e = (node_alike a b x y, both_none f g m k none nothing e)
  ends_alike f g m k a b (inr (short, inl (other, none, x))) (inr (low, inr (issued, y))) e = absurd (other issued)
  ends_alike f g m k a b (inr (short, inr (issued, x))) (inr (low, inl (other, none, y))) e = absurd (other issued)
  ends_alike f g m k a b (inr (short, inr (issued, (c, one, x)))) (inr (low, inr (also, (d, other, y)))) e =
      let same = same_answer c d m k (ap (λ (l : List LinkCall). l ++ m) (sym one) ∙ e ∙ ap (λ (l : List LinkCall). l ++ k) other) in
      (link_alike c a b x (subst (λ (z : LinkAnswer). LinkEnd z b) (sym same.0) y), same.1)

-- ---- all of them

-- what the texts are pulled by, the first apart
pub record First (key text : List ℕ) (texts : Texts) (calls : List LinkCall) (certs : List Certificate) : Type 0 where
  pub first : List LinkCall
  pub more : List LinkCall
  pub own : List Certificate
  pub behind : List Certificate
  pub opened : IsOpened key text first own
  pub pulled : ArePulled key texts more behind
  pub calls_are : calls ≡ first ++ more
  pub certs_are : certs ≡ own ++ behind

pub first_of : (key text : List ℕ) (texts : Texts) (calls : List LinkCall) (certs : List Certificate) → ArePulled key (text ∷ texts) calls certs → First key text texts calls certs
first_of key text texts calls certs (one_more {first = by} {calls = rest} {own = mine} {certs = ds} opened behind) =
    record { first = by; more = rest; own = mine; behind = ds; opened = opened; pulled = behind; calls_are = refl; certs_are = refl }

pub none_of : (key : List ℕ) (calls : List LinkCall) (certs : List Certificate) → ArePulled key [] calls certs → certs ≡ []
none_of key calls certs none_more = refl

pub one_pull : (key : List ℕ) (texts : Texts) (calls : List LinkCall) (certs others : List Certificate) → ArePulled key texts calls certs → ArePulled key texts calls others → certs ≡ others
one_pull key [] calls certs others x y = none_of key calls certs x ∙ sym (none_of key calls others y)
one_pull key (text ∷ texts) calls certs others x y =
    let a = first_of key text texts calls certs x in
    let b = first_of key text texts calls others y in
    let same = ends_alike key text a.first b.first a.more b.more a.own b.own (ends_one key text a.first a.own a.opened) (ends_one key text b.first b.own b.opened) (sym a.calls_are ∙ b.calls_are) in
    let rest = one_pull key texts b.more a.behind b.behind (subst (λ (l : List LinkCall). ArePulled key texts l a.behind) same.1 a.pulled) b.pulled in
    a.certs_are ∙ ap (λ (l : List Certificate). l ++ a.behind) same.0 ∙ ap (λ (l : List Certificate). b.own ++ l) rest ∙ sym b.certs_are
