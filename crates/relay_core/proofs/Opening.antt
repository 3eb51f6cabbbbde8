-- Why bytes that the node opens come to none: their form is wrong, or else their tag is.
use Rattle.std.proofs.Common.{◌≡◌, ◌≢◌, ◌⊎◌, ℕ, ◌+◌, ◌-◌, true, false, cond, List, [], ◌++◌, length, drop, Result, Ok, Err, refl, sym, ap, subst, ◌∙◌, inl, inr, get_or}
use Rattle.std.specs.Prelude.{nat_lt, ◌==◌, if◌then◌else◌}
use Rattle.std.specs.Str.{bytes_eq}
use Rattle.std.proofs.lemmas.Bool.{cases_Bool, false≢true}
use Rattle.std.proofs.lemmas.Slice.Eq.{bytes_eq-Decides}
use Rattle.keyed_seal.specs.Tag.{tag_of}
use Rattle.byte_fields.specs.Steps.{byte_at, with_fault}
use Rattle.byte_fields.proofs.Results.{bind_err, err_is, chosen, chosen_err, refused_err, with_fault_err}
use Rattle.byte_fields.proofs.FieldLaws.{IsBytes}
use Rattle.stmt_codec.specs.Certificates.{Certificate}
use Rattle.stmt_codec.specs.Reading.{body_at}
use Rattle.byte_fields.specs.declared.fault.FormatFault.{FormatFault}
use Rattle.byte_fields.specs.declared.fault.FormatFault.TheVariants as bodies
use Rattle.sealed_cert.specs.declared.fault.SealFault.{SealFault}
use Rattle.sealed_cert.specs.declared.fault.SealFault.TheVariants.{Malformed, UnknownIssuer, BadSeal, WrongKind, NoMemory}
use Rattle.sealed_cert.specs.Seals.{sealed_text, Spells}
use Rattle.sealed_cert.specs.Refusals.{seen_as, kind_at, ends_in_tag, body_and_tag_at, body_of_kind, is_tagged, checked, opened}
use Rattle.sealed_cert.proofs.Opened.{IsCarried, carried_takes, opened_again, front_is}
use Rattle.sealed_cert.proofs.Judged.{relayed_bad}
use Rattle.relay_core.specs.Credentials.{IsIssued, IsRefused, malformed, bad_seal}
use Rattle.relay_core.specs.Presenting.{IsOneRefused, refused_as}

-- ---- bytes whose form is wrong are not said to have a wrong seal

abbrev IsOfForm : SealFault → Type 0
IsOfForm (Malformed o) = Unit {0}
IsOfForm (UnknownIssuer i) = Unit {0}
IsOfForm BadSeal = ⊥
IsOfForm (WrongKind k) = Unit {0}
IsOfForm NoMemory = Unit {0}

kind_err : (bytes : List ℕ) (f : SealFault) → kind_at 2 1 bytes ≡ Err f → IsOfForm f
unfolding kind_at byte_at
kind_err bytes f e = elim (bind_err (byte_at (Malformed 0) bytes 0) (λ first. if first.0 == 1 then Err (WrongKind 1) else (if first.0 == 2 then Ok first.1 else Err (Malformed 0))) f e) [
  | inl short ↦ subst IsOfForm (sym (chosen_err (nat_lt 0 (length bytes)) (Malformed 0) f (get_or bytes 0 0, 1) short).1) tt
  | inr x ↦ elim (chosen (x.0.0 == 1) (Err (WrongKind 1)) (cond (x.0.0 == 2) (Ok x.0.1) (Err (Malformed 0))) (Err f) x.2) [
    | inl wrong ↦ subst IsOfForm (err_is ℕ (WrongKind 1) f wrong.1) tt
    | inr right ↦ subst IsOfForm (sym (chosen_err (x.0.0 == 2) (Malformed 0) f x.0.1 right.1).1) tt
  ]
]

body_err : (d : FormatFault) → IsOfForm (seen_as d)
body_err (bodies.Malformed o) = tt
body_err bodies.NoMemory = tt

tag_err : (bytes : List ℕ) (at : ℕ) (f : SealFault) → ends_in_tag bytes at ≡ Err f → IsOfForm f
unfolding ends_in_tag
tag_err bytes at f e = elim (chosen (nat_lt (length bytes - at) 32) (Err (Malformed (length bytes))) (cond (nat_lt (at + 32) (length bytes)) (Err (Malformed (at + 32))) (Ok at)) (Err f) e) [
  | inl short ↦ subst IsOfForm (err_is ℕ (Malformed (length bytes)) f short.1) tt
  | inr long ↦ subst IsOfForm (sym (refused_err (nat_lt (at + 32) (length bytes)) (Malformed (at + 32)) f at long.1).1) tt
]

carried_err : (bytes : List ℕ) (f : SealFault) → body_of_kind 2 1 bytes ≡ Err f → IsOfForm f
unfolding body_of_kind body_and_tag_at
carried_err bytes f e = elim (bind_err (kind_at 2 1 bytes) _ f e) [
  | inl kind ↦ kind_err bytes f kind
  | inr begin ↦ elim (bind_err (with_fault seen_as (body_at bytes begin.0)) _ f begin.2) [
    | inl wrong ↦ let h = with_fault_err seen_as (body_at bytes begin.0) f wrong in subst IsOfForm (sym h.2) (body_err h.0)
    | inr body ↦ elim (bind_err (ends_in_tag bytes body.0.1) _ f body.2) [
      | inl tag ↦ tag_err bytes body.0.1 f tag
      | inr end ↦ absurd (cc (end.2))
    ]
  ]
]

-- ---- what each fault of opening says

other_tag : (key bytes : List ℕ) (c : Certificate) (end : ℕ) → IsCarried 2 bytes c end → is_tagged key bytes end ≡ false → drop end bytes ≢ tag_of key (sealed_text 2 c)
other_tag key bytes c end is untagged = λ same.
    let front = front_is bytes (sealed_text 2 c) end is.text is.place in
    let yes : is_tagged key bytes end ≡ true = (bytes_eq-Decides _ _).1 (same ∙ ap (tag_of key) (sym front)) in
    false≢true (sym untagged ∙ yes)

pub is_badly_sealed : (key bytes : List ℕ) → IsBytes bytes → opened key bytes ≡ Err BadSeal → IsRefused key bytes [] 3
unfolding opened
is_badly_sealed key bytes fits e = elim (bind_err (body_of_kind 2 1 bytes) (checked key bytes) BadSeal e) [
  | inl early ↦ absurd (carried_err bytes BadSeal early)
  | inr x ↦
      let is = carried_takes 2 1 bytes x.0 fits x.1 in
      let untagged = (chosen_err (is_tagged key bytes x.0.1) BadSeal BadSeal x.0.0 x.2).0 in
      bad_seal x.0.0 (drop x.0.1 bytes) (record { text = is.text; whole_tag = is.tag; numbers = is.numbers; limits = is.limits }) (other_tag key bytes x.0.0 x.0.1 is untagged)
]

judged : (key bytes tag : List ℕ) (c : Certificate) → Spells 2 bytes c tag → (opened key bytes ≡ Ok c) ⊎ (opened key bytes ≡ Err BadSeal)
judged key bytes tag c is = elim (cases_Bool (bytes_eq tag (tag_of key (sealed_text 2 c)))) [
  | inl alike ↦
      let same = (bytes_eq-Decides tag (tag_of key (sealed_text 2 c))).0 alike in
      inl (opened_again key bytes c (record { text = is.text ∙ ap (λ (l : List ℕ). sealed_text 2 c ++ l) same; numbers = is.numbers; limits = is.limits }))
  | inr unlike ↦ inr (relayed_bad key bytes tag c is (λ same. false≢true (sym unlike ∙ (bytes_eq-Decides tag (tag_of key (sealed_text 2 c))).1 same)))
]

not_both : {A E : Type 0} (r : Result A E) (a : A) (f : E) → r ≡ Ok a → r ≡ Err f → ⊥
not_both (Ok b) a f p q = cc
not_both (Err g) a f p q = cc

is_no_cert : (key bytes : List ℕ) (f : SealFault) → (IsIssued bytes → ⊥) → opened key bytes ≡ Err f → (f ≢ BadSeal) → IsRefused key bytes [] 1
is_no_cert key bytes f unissued e other = malformed unissued (λ c tag is. elim (judged key bytes tag c is) [
  | inl opens ↦ not_both (opened key bytes) c f opens e
  | inr sealed ↦ other (err_is Certificate f BadSeal (sym e ∙ sealed))
])

given_fault : (key bytes : List ℕ) (f : SealFault) → (f ≢ NoMemory) → (f ≡ NoMemory) ⊎ (opened key bytes ≡ Err f) → opened key bytes ≡ Err f
given_fault key bytes f other (inl want) = absurd (other want)
given_fault key bytes f other (inr e) = e

-- the refusal says why
pub is_one_refused : (key bytes : List ℕ) (f : SealFault) → IsBytes bytes → (IsIssued bytes → ⊥) → (f ≡ NoMemory) ⊎ (opened key bytes ≡ Err f) → IsOneRefused key bytes (refused_as f)
is_one_refused key bytes (Malformed o) fits unissued e = is_no_cert key bytes (Malformed o) unissued (given_fault key bytes (Malformed o) (λ x. cc) e) (λ x. cc)
is_one_refused key bytes (UnknownIssuer i) fits unissued e = is_no_cert key bytes (UnknownIssuer i) unissued (given_fault key bytes (UnknownIssuer i) (λ x. cc) e) (λ x. cc)
is_one_refused key bytes BadSeal fits unissued e = is_badly_sealed key bytes fits (given_fault key bytes BadSeal (λ x. cc) e)
is_one_refused key bytes (WrongKind k) fits unissued e = is_no_cert key bytes (WrongKind k) unissued (given_fault key bytes (WrongKind k) (λ x. cc) e) (λ x. cc)
is_one_refused key bytes NoMemory fits unissued e = tt
