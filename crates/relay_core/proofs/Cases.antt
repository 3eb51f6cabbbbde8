-- Of the cases of resealing one holds, and that is what is said.
use Rattle.std.proofs.Common.{◌≡◌, ◌≢◌, ℕ, ◌+◌, ◌-◌, Bool, true, false, cond, List, ◌∷◌, ◌++◌, length, drop, Option, Some, None, Result, Ok, Err, refl, sym, ap, subst, ◌∙◌, inl, inr, arith, get_or}
use Rattle.std.specs.Prelude.{nat_lt, ◌==◌, if◌then◌else◌}
use Rattle.std.specs.Str.{bytes_eq}
use Rattle.std.proofs.lemmas.Bool.{eqb-true, false≢true, cases_Bool}
use Rattle.std.proofs.lemmas.Slice.Eq.{bytes_eq-Decides}
use Rattle.keyed_seal.specs.Keys.{Entries, key_of}
use Rattle.keyed_seal.specs.Tag.{tag_of}
use Rattle.keyed_seal.proofs.Tags.{length-tag_of}
use Rattle.byte_fields.specs.Steps.{◌>>=◌, byte_at, with_fault}
use Rattle.byte_fields.proofs.Results.{bind_err, err_is, chosen, chosen_err, refused_err, with_fault_err}
use Rattle.byte_fields.proofs.FieldLaws.{IsBytes, byte_takes}
use Rattle.stmt_codec.specs.Certificates.{Certificate}
use Rattle.stmt_codec.specs.Reading.{body_at}
use Rattle.byte_fields.specs.declared.fault.FormatFault.{FormatFault}
use Rattle.byte_fields.specs.declared.fault.FormatFault.TheVariants as bodies
use Rattle.sealed_cert.specs.declared.fault.SealFault.{SealFault}
use Rattle.sealed_cert.specs.declared.fault.SealFault.TheVariants.{Malformed, UnknownIssuer, BadSeal, WrongKind, NoMemory}
use Rattle.sealed_cert.specs.Seals.{sealed_text, Spells, OpensIssued}
use Rattle.sealed_cert.specs.Refusals.{seen_as, kind_at, ends_in_tag, body_and_tag_at, body_of_kind, is_tagged, checked, known, opened_issued}
use Rattle.sealed_cert.proofs.Opened.{IsCarried, carried_takes, issued_takes, issued_again, front_is}
use Rattle.sealed_cert.proofs.Apart.{relayed_is_wrong}
use Rattle.sealed_cert.proofs.Judged.{issued_unknown, issued_bad}
use Rattle.frame_link.specs.declared.outside.RelayAnswer.{RelayAnswer}
use Rattle.frame_link.specs.declared.outside.RelayAnswer.TheVariants.{Resealed, Refused}
use Rattle.frame_link.specs.declared.outside.RelayAnswer.TheVariants as answers
use Rattle.frame_link.specs.Relay.{Said, Gave, Refuses, IsSaid, IsRelayCode, HasRelayCode}
use Rattle.relay_core.specs.Resealing.{code_of, said_of, resealed, IsRelayed, IsResealed, is_given, is_of_wrong_kind, is_malformed, is_of_no_issuer, is_badly_sealed, is_for_no_node}

-- ---- what a fault of the form says

abbrev Early : List ℕ → SealFault → Type 0
Early bytes (Malformed o) = Unit {0}
Early bytes (UnknownIssuer i) = ⊥
Early bytes BadSeal = ⊥
Early bytes (WrongKind k) = IsRelayed bytes
Early bytes NoMemory = Unit {0}

kind_err : (bytes : List ℕ) (f : SealFault) → kind_at 1 2 bytes ≡ Err f → Early bytes f
unfolding kind_at byte_at
kind_err bytes f e = elim (bind_err (byte_at (Malformed 0) bytes 0) (λ first. if first.0 == 2 then Err (WrongKind 2) else (if first.0 == 1 then Ok first.1 else Err (Malformed 0))) f e) [
  | inl short ↦ subst (Early bytes) (sym (chosen_err (nat_lt 0 (length bytes)) (Malformed 0) f (get_or bytes 0 0, 1) short).1) tt
  | inr x ↦ elim (chosen (x.0.0 == 2) (Err (WrongKind 2)) (cond (x.0.0 == 1) (Ok x.0.1) (Err (Malformed 0))) (Err f) x.2) [
    | inl wrong ↦
        let t = byte_takes (Malformed 0) bytes 0 x.0 x.1 in
        subst (Early bytes) (err_is ℕ (WrongKind 2) f wrong.1) (drop x.0.1 bytes, t.parts ∙ ap (λ (b : ℕ). b ∷ drop x.0.1 bytes) (eqb-true _ _ wrong.0))
    | inr right ↦ subst (Early bytes) (sym (chosen_err (x.0.0 == 1) (Malformed 0) f x.0.1 right.1).1) tt
  ]
]

body_err : (bytes : List ℕ) (d : FormatFault) → Early bytes (seen_as d)
body_err bytes (bodies.Malformed o) = tt
body_err bytes bodies.NoMemory = tt

tag_err : (bytes : List ℕ) (at : ℕ) (f : SealFault) → ends_in_tag bytes at ≡ Err f → Early bytes f
unfolding ends_in_tag
tag_err bytes at f e = elim (chosen (nat_lt (length bytes - at) 32) (Err (Malformed (length bytes))) (cond (nat_lt (at + 32) (length bytes)) (Err (Malformed (at + 32))) (Ok at)) (Err f) e) [
  | inl short ↦ subst (Early bytes) (err_is ℕ (Malformed (length bytes)) f short.1) tt
  | inr long ↦ subst (Early bytes) (sym (refused_err (nat_lt (at + 32) (length bytes)) (Malformed (at + 32)) f at long.1).1) tt
]

carried_err : (bytes : List ℕ) (f : SealFault) → body_of_kind 1 2 bytes ≡ Err f → Early bytes f
unfolding body_of_kind body_and_tag_at
carried_err bytes f e = elim (bind_err (kind_at 1 2 bytes) _ f e) [
  | inl kind ↦ kind_err bytes f kind
  | inr begin ↦ elim (bind_err (with_fault seen_as (body_at bytes begin.0)) _ f begin.2) [
    | inl wrong ↦ let h = with_fault_err seen_as (body_at bytes begin.0) f wrong in subst (Early bytes) (sym h.2) (body_err bytes h.0)
    | inr body ↦ elim (bind_err (ends_in_tag bytes body.0.1) _ f body.2) [
      | inl tag ↦ tag_err bytes body.0.1 f tag
      | inr end ↦ absurd (cc (end.2))
    ]
  ]
]

-- ---- what each fault of opening says

abbrev Cause : Entries → List ℕ → SealFault → Type 0
Cause issuers bytes (Malformed o) = Unit {0}
Cause issuers bytes (UnknownIssuer i) = (c : Certificate) × (tag : List ℕ) × Spells 1 bytes c tag × (key_of issuers c.issuer ≡ None)
Cause issuers bytes BadSeal = (c : Certificate) × (tag key : List ℕ) × Spells 1 bytes c tag × (key_of issuers c.issuer ≡ Some key) × (tag ≢ tag_of key (sealed_text 1 c))
Cause issuers bytes (WrongKind k) = IsRelayed bytes
Cause issuers bytes NoMemory = Unit {0}

early_cause : (issuers : Entries) (bytes : List ℕ) (f : SealFault) → Early bytes f → Cause issuers bytes f
early_cause issuers bytes (Malformed o) h = tt
early_cause issuers bytes (UnknownIssuer i) h = absurd h
early_cause issuers bytes BadSeal h = absurd h
early_cause issuers bytes (WrongKind k) h = h
early_cause issuers bytes NoMemory h = tt

spells_carried : (bytes : List ℕ) (c : Certificate) (end : ℕ) → IsCarried 1 bytes c end → Spells 1 bytes c (drop end bytes)
spells_carried bytes c end is = record { text = is.text; whole_tag = is.tag; numbers = is.numbers; limits = is.limits }

is_other : (key bytes : List ℕ) (c : Certificate) (end : ℕ) → IsCarried 1 bytes c end → is_tagged key bytes end ≡ false → drop end bytes ≢ tag_of key (sealed_text 1 c)
is_other key bytes c end is untagged = λ same.
    let front = front_is bytes (sealed_text 1 c) end is.text is.place in
    let yes : is_tagged key bytes end ≡ true = (bytes_eq-Decides _ _).1 (same ∙ ap (tag_of key) (sym front)) in
    false≢true (sym untagged ∙ yes)

judged_behind : (issuers : Entries) (bytes : List ℕ) (x : Certificate × ℕ) (f : SealFault) (key : Option (List ℕ)) → IsCarried 1 bytes x.0 x.1 → key_of issuers x.0.issuer ≡ key
    → (known x.0.issuer key >>= λ k. checked k bytes x) ≡ Err f → Cause issuers bytes f
judged_behind issuers bytes x f None is e went = subst (Cause issuers bytes) (err_is Certificate (UnknownIssuer x.0.issuer) f went) (x.0, drop x.1 bytes, spells_carried bytes x.0 x.1 is, e)
judged_behind issuers bytes x f (Some key) is e went =
    let g = chosen_err (is_tagged key bytes x.1) BadSeal f x.0 went in
    subst (Cause issuers bytes) (sym g.1) (x.0, drop x.1 bytes, key, spells_carried bytes x.0 x.1 is, e, is_other key bytes x.0 x.1 is g.0)

opened_err : (issuers : Entries) (bytes : List ℕ) (f : SealFault) → IsBytes bytes → opened_issued issuers bytes ≡ Err f → Cause issuers bytes f
unfolding opened_issued
opened_err issuers bytes f fits e = elim (bind_err (body_of_kind 1 2 bytes) _ f e) [
  | inl early ↦ early_cause issuers bytes f (carried_err bytes f early)
  | inr x ↦ judged_behind issuers bytes x.0 f (key_of issuers x.0.0.issuer) (carried_takes 1 2 bytes x.0 fits x.1) refl x.2
]

-- ---- what is spelled whole is not malformed, nor of the other kind

-- the three answers that the spelled bytes may have
data Judged (issuers : Entries) (bytes : List ℕ) (c : Certificate) : Type 0 where
  opens : opened_issued issuers bytes ≡ Ok c → Judged issuers bytes c
  unknown : opened_issued issuers bytes ≡ Err (UnknownIssuer c.issuer) → Judged issuers bytes c
  bad : opened_issued issuers bytes ≡ Err BadSeal → Judged issuers bytes c

judge : (issuers : Entries) (bytes tag : List ℕ) (c : Certificate) (key : Option (List ℕ)) → Spells 1 bytes c tag → key_of issuers c.issuer ≡ key → Judged issuers bytes c
judge issuers bytes tag c None is e = unknown (issued_unknown issuers bytes tag c is e)
judge issuers bytes tag c (Some key) is e = elim (cases_Bool (bytes_eq tag (tag_of key (sealed_text 1 c)))) [
  | inl same ↦ opens (issued_again issuers bytes c (record {
    key = key;
    known = e;
    seal = record { text = is.text ∙ ap (λ (l : List ℕ). sealed_text 1 c ++ l) ((bytes_eq-Decides tag (tag_of key (sealed_text 1 c))).0 same); numbers = is.numbers; limits = is.limits };
  }))
  | inr other ↦ bad (issued_bad issuers key bytes tag c is e (λ same. false≢true (sym other ∙ (bytes_eq-Decides tag (tag_of key (sealed_text 1 c))).1 same)))
]

abbrev is_form : SealFault → Bool
is_form (Malformed o) = true
is_form (UnknownIssuer i) = false
is_form BadSeal = false
is_form (WrongKind k) = false
is_form NoMemory = true

not_spelled : (issuers : Entries) (bytes : List ℕ) (f : SealFault) → is_form f ≡ true → opened_issued issuers bytes ≡ Err f → (c : Certificate) (tag : List ℕ) → ¬ Spells 1 bytes c tag
not_spelled issuers bytes f form e = λ c tag is. against c (judge issuers bytes tag c (key_of issuers c.issuer) is refl)
  where
    against : (c : Certificate) → Judged issuers bytes c → ⊥
    against c (opens o) = absurd (cc (o, e))
    against c (unknown o) = false≢true (ap is_form (err_is Certificate (UnknownIssuer c.issuer) f (sym o ∙ e)) ∙ form)
    against c (bad o) = false≢true (ap is_form (err_is Certificate BadSeal f (sym o ∙ e)) ∙ form)

not_relayed : (issuers : Entries) (bytes : List ℕ) (f : SealFault) → is_form f ≡ true → opened_issued issuers bytes ≡ Err f → ¬ IsRelayed bytes
not_relayed issuers bytes f form e = λ relayed.
    let wrong : opened_issued issuers bytes ≡ Err (WrongKind 2) = ap (opened_issued issuers) relayed.1 ∙ relayed_is_wrong issuers relayed.0 in
    false≢true (ap is_form (err_is Certificate (WrongKind 2) f (sym wrong ∙ e)) ∙ form)

-- ---- some case holds

case_of : (issuers nodes : Entries) (node : ℕ) (bytes : List ℕ) → IsBytes bytes → (key : Option (List ℕ)) → key_of nodes node ≡ key → (r : Result Certificate SealFault) → opened_issued issuers bytes ≡ r
    → IsResealed issuers nodes node bytes (said_of key r)
case_of issuers nodes node bytes fits None k (Ok c) e = is_for_no_node c (issued_takes issuers bytes c fits e) k
case_of issuers nodes node bytes fits (Some key) k (Ok c) e = is_given c key (issued_takes issuers bytes c fits e) k
case_of issuers nodes node bytes fits key k (Err (Malformed o)) e = is_malformed (not_relayed issuers bytes (Malformed o) refl e) (not_spelled issuers bytes (Malformed o) refl e)
case_of issuers nodes node bytes fits key k (Err (UnknownIssuer i)) e = let h = opened_err issuers bytes (UnknownIssuer i) fits e in is_of_no_issuer h.0 h.1 h.2 h.3
case_of issuers nodes node bytes fits key k (Err BadSeal) e = let h = opened_err issuers bytes BadSeal fits e in is_badly_sealed h.0 h.1 h.2 h.3 h.4 h.5
case_of issuers nodes node bytes fits key k (Err (WrongKind n)) e = is_of_wrong_kind (opened_err issuers bytes (WrongKind n) fits e)
case_of issuers nodes node bytes fits key k (Err NoMemory) e = is_malformed (not_relayed issuers bytes NoMemory refl e) (not_spelled issuers bytes NoMemory refl e)

pub some_case : (issuers nodes : Entries) (node : ℕ) (bytes : List ℕ) → IsBytes bytes → IsResealed issuers nodes node bytes (resealed issuers nodes node bytes)
some_case issuers nodes node bytes fits = case_of issuers nodes node bytes fits (key_of nodes node) refl (opened_issued issuers bytes) refl

-- ---- and no other

at_once : (issuers nodes : Entries) (node : ℕ) (bytes : List ℕ) (key : Option (List ℕ)) (r : Result Certificate SealFault) → key_of nodes node ≡ key → opened_issued issuers bytes ≡ r → said_of key r ≡ resealed issuers nodes node bytes
at_once issuers nodes node bytes key r k e = rw (k, e) refl

spells_opened : (issuers : Entries) (bytes : List ℕ) (c : Certificate) (o : OpensIssued issuers bytes c) → Spells 1 bytes c (tag_of o.key (sealed_text 1 c))
spells_opened issuers bytes c o = record { text = o.seal.text; whole_tag = length-tag_of o.key (sealed_text 1 c); numbers = o.seal.numbers; limits = o.seal.limits }

form_only : (issuers nodes : Entries) (node : ℕ) (bytes : List ℕ) → IsBytes bytes → ¬ IsRelayed bytes → ((c : Certificate) (tag : List ℕ) → ¬ Spells 1 bytes c tag)
    → (r : Result Certificate SealFault) → opened_issued issuers bytes ≡ r → Refuses 1 ≡ said_of (key_of nodes node) r
form_only issuers nodes node bytes fits other none (Ok c) e = let o = issued_takes issuers bytes c fits e in absurd (none c (tag_of o.key (sealed_text 1 c)) (spells_opened issuers bytes c o))
form_only issuers nodes node bytes fits other none (Err (Malformed o)) e = refl
form_only issuers nodes node bytes fits other none (Err (UnknownIssuer i)) e = let h = opened_err issuers bytes (UnknownIssuer i) fits e in absurd (none h.0 h.1 h.2)
form_only issuers nodes node bytes fits other none (Err BadSeal) e = let h = opened_err issuers bytes BadSeal fits e in absurd (none h.0 h.1 h.3)
form_only issuers nodes node bytes fits other none (Err (WrongKind k)) e = absurd (other (opened_err issuers bytes (WrongKind k) fits e))
form_only issuers nodes node bytes fits other none (Err NoMemory) e = refl

pub that_case : (issuers nodes : Entries) (node : ℕ) (bytes : List ℕ) (said : Said) → IsBytes bytes → IsResealed issuers nodes node bytes said → said ≡ resealed issuers nodes node bytes
that_case issuers nodes node bytes said fits (is_given c key o k) = at_once issuers nodes node bytes (Some key) (Ok c) k (issued_again issuers bytes c o)
that_case issuers nodes node bytes said fits (is_of_wrong_kind r) = at_once issuers nodes node bytes (key_of nodes node) (Err (WrongKind 2)) refl (ap (opened_issued issuers) r.1 ∙ relayed_is_wrong issuers r.0)
that_case issuers nodes node bytes said fits (is_malformed other none) = form_only issuers nodes node bytes fits other none (opened_issued issuers bytes) refl
that_case issuers nodes node bytes said fits (is_of_no_issuer c tag is k) = at_once issuers nodes node bytes (key_of nodes node) (Err (UnknownIssuer c.issuer)) refl (issued_unknown issuers bytes tag c is k)
that_case issuers nodes node bytes said fits (is_badly_sealed c tag key is k other) = at_once issuers nodes node bytes (key_of nodes node) (Err BadSeal) refl (issued_bad issuers key bytes tag c is k other)
that_case issuers nodes node bytes said fits (is_for_no_node c o k) = at_once issuers nodes node bytes None (Ok c) k (issued_again issuers bytes c o)

-- ---- the codes

code_fits : (fault : SealFault) → IsRelayCode (code_of fault)
code_fits (Malformed o) = (omega arith, omega arith)
code_fits (UnknownIssuer i) = (omega arith, omega arith)
code_fits BadSeal = (omega arith, omega arith)
code_fits (WrongKind k) = (omega arith, omega arith)
code_fits NoMemory = (omega arith, omega arith)

-- what is said refuses by a relay's codes alone
abbrev IsCoded : Said → Type 0
IsCoded (Gave bytes) = Unit {0}
IsCoded (Refuses code) = IsRelayCode code

coded : (key : Option (List ℕ)) (r : Result Certificate SealFault) → IsCoded (said_of key r)
coded None (Ok c) = (omega arith, omega arith)
coded (Some key) (Ok c) = tt
coded key (Err fault) = code_fits fault

answer_coded : (said : Said) (answer : RelayAnswer) (out : List ℕ) → IsCoded said → IsSaid said answer out → HasRelayCode answer
answer_coded said Resealed out fits is = tt
answer_coded said answers.NoMemory out fits is = tt
answer_coded (Gave bytes) (Refused code) out fits is = absurd is
answer_coded (Refuses c) (Refused code) out fits is = subst IsRelayCode (sym is.0) fits

pub has_code : (issuers nodes : Entries) (node : ℕ) (bytes : List ℕ) (answer : RelayAnswer) (out : List ℕ) → IsSaid (resealed issuers nodes node bytes) answer out → HasRelayCode answer
has_code issuers nodes node bytes answer out is = answer_coded (resealed issuers nodes node bytes) answer out (coded (key_of nodes node) (opened_issued issuers bytes)) is
