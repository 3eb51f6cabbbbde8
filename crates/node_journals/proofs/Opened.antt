-- What a drill's request presents opens, and none of it is refused.
use Rattle.std.proofs.Common.{◌≡◌, ℕ, List, [], ◌∷◌, ◌++◌, refl, sym, subst, ◌∙◌}
use Rattle.keyed_seal.specs.Tag.{tag_of}
use Rattle.keyed_seal.proofs.Tags.{length-tag_of}
use Rattle.sealed_cert.specs.Seals.{sealed_text, Spells, Opens}
use Rattle.stmt_codec.specs.Certificates.{Certificate, body_spelling}
use Rattle.stmt_codec.proofs.Once.{body_once}
use Rattle.request_course.specs.Credentials.{LinkCall, IsIssued, Comes, by_node, by_relay, IsRefused, malformed, bad_seal, refused, bad_reseal, AreOpened, none_more, one_more, IsFirstRefused, IsFirstFailed}

kinds_apart : (text x y : List ℕ) → text ≡ 2 ∷ x → text ≡ 1 ∷ y → ⊥
kinds_apart text x y relayed issued = absurd cc

rests : (x y : List ℕ) → 2 ∷ x ≡ 2 ∷ y → x ≡ y
rests x y e = cc

module _ (key text : List ℕ) (c : Certificate) (opens : Opens key text c) where
  not_issued : IsIssued text → ⊥
  not_issued issued = kinds_apart text (body_spelling c ++ tag_of key (sealed_text 2 c)) issued.0 opens.text issued.1

  spelled_so : Spells 2 text c (tag_of key (sealed_text 2 c))
  spelled_so = record { text = opens.text; whole_tag = length-tag_of key (sealed_text 2 c); numbers = opens.numbers; limits = opens.limits }

  right_tag : (d : Certificate) (tag : List ℕ) → Spells 2 text d tag → tag ≡ tag_of key (sealed_text 2 d)
  right_tag d tag spelled =
      let once = body_once c d (tag_of key (sealed_text 2 c)) tag opens.numbers spelled.numbers (rests (body_spelling c ++ tag_of key (sealed_text 2 c)) (body_spelling d ++ tag) (sym opens.text ∙ spelled.text)) in
      subst (λ (x : Certificate). tag ≡ tag_of key (sealed_text 2 x)) once.0 (sym once.1)

  same_body : (d : Certificate) → Opens key text d → d ≡ c
  same_body d also = (body_once d c (tag_of key (sealed_text 2 d)) (tag_of key (sealed_text 2 c)) also.numbers opens.numbers
      (rests (body_spelling d ++ tag_of key (sealed_text 2 d)) (body_spelling c ++ tag_of key (sealed_text 2 c)) (sym also.text ∙ opens.text))).0

  -- it comes to that certificate
  comes_so : (calls : List LinkCall) (e : Certificate) → Comes key text calls e → e ≡ c
  comes_so calls e (by_node also) = same_body e also
  comes_so calls e (by_relay {new} is) = absurd (not_issued (body_spelling e ++ is.tag, is.presented.text))

  -- and is refused for nothing
  not_refused : (calls : List LinkCall) (code : ℕ) → IsRefused key text calls code → ⊥
  not_refused calls code (malformed other none) = none c (tag_of key (sealed_text 2 c)) spelled_so
  not_refused calls code (bad_seal e tag spelled wrong) = wrong (right_tag e tag spelled)
  not_refused calls code (refused issued fits) = not_issued issued
  not_refused calls code (bad_reseal issued none) = not_issued issued

  opened_more : (calls : List LinkCall) (certs : List Certificate) → AreOpened key [] calls certs → certs ≡ []
  opened_more calls certs none_more = refl

  opened_first : (texts : List (List ℕ)) (calls : List LinkCall) (certs : List Certificate) → texts ≡ text ∷ [] → AreOpened key texts calls certs → certs ≡ c ∷ []
  opened_first texts calls certs is none_more = absurd (nothing_there is)
    where
      nothing_there : [] ≡ text ∷ [] → ⊥
      nothing_there e = absurd cc
  opened_first texts calls certs is (one_more {text = other} {first} {calls = later} {c = e} {texts = more} {certs = others} comes opened) =
      let here : other ≡ text = first_is is in
      let rest : more ≡ [] = rest_is is in
      let one = comes_so first e (subst (λ (t : List ℕ). Comes key t first e) here comes) in
      let none = opened_more later others (subst (λ (ts : List (List ℕ)). AreOpened key ts later others) rest opened) in
      λ k. one k ∷ none k
    where
      first_is : other ∷ more ≡ text ∷ [] → other ≡ text
      first_is e = cc

      rest_is : other ∷ more ≡ text ∷ [] → more ≡ []
      rest_is e = cc

  -- it is the only one
  only_one : (front rest : List (List ℕ)) (other : List ℕ) → text ∷ [] ≡ front ++ other ∷ rest → other ≡ text
  only_one [] rest other is = first_is is
    where
      first_is : text ∷ [] ≡ other ∷ rest → other ≡ text
      first_is e = cc
  only_one (f ∷ []) rest other is = absurd (too_many is)
    where
      too_many : text ∷ [] ≡ f ∷ (other ∷ rest) → ⊥
      too_many e = absurd cc
  only_one (f ∷ (g ∷ front)) rest other is = absurd (too_many is)
    where
      too_many : text ∷ [] ≡ f ∷ (g ∷ (front ++ other ∷ rest)) → ⊥
      too_many e = absurd cc

  pub never_refused : (calls : List LinkCall) (index code : ℕ) → IsFirstRefused key (text ∷ []) calls index code → ⊥
  never_refused calls index code first =
      not_refused first.last code (subst (λ (t : List ℕ). IsRefused key t first.last code) (only_one first.stops.front first.stops.rest first.text first.stops.whole) first.refused)

  pub never_failed : (calls : List LinkCall) (index : ℕ) → IsFirstFailed key (text ∷ []) calls index → ⊥
  never_failed calls index first = not_issued (subst IsIssued (only_one first.stops.front first.stops.rest first.text first.stops.whole) first.issued)

  pub opened_to : (calls : List LinkCall) (certs : List Certificate) → AreOpened key (text ∷ []) calls certs → certs ≡ c ∷ []
  opened_to calls certs opened = opened_first (text ∷ []) calls certs refl opened
