-- Bytes are refused by what is wrong with them first.
use Rattle.std.proofs.Common.{◌≡◌, ◌≢◌, ℕ, ◌+◌, ◌-◌, ◌<◌, ◌≤◌, true, false, cond, List, [], ◌∷◌, ◌++◌, length, drop, get_or, Option, Some, None, Result, Ok, Err, refl, sym, ap, subst, ◌∙◌, append_assoc, inl, inr, arith, length-append, length-drop}
use Rattle.std.specs.Prelude.{nat_lt, ◌==◌, if◌then◌else◌}
use Rattle.std.proofs.lemmas.Bool.{eqb-true, eqb-false, ltb-true, ltb-false, false≢true}
use Rattle.std.proofs.lemmas.Bool.Decides.{nat_tests}
use Rattle.std.proofs.lemmas.Slice.Eq.{bytes_eq-Decides}
use Rattle.keyed_seal.specs.Keys.{Entries, key_of}
use Rattle.keyed_seal.specs.Tag.{tag_of}
use Rattle.byte_fields.specs.declared.fault.FormatFault.{FormatFault}
use Rattle.byte_fields.specs.declared.fault.FormatFault.TheVariants as formats
use Rattle.byte_fields.specs.Steps.{◌>>=◌, with_fault, byte_at}
use Rattle.byte_fields.proofs.FieldLaws.{IsBytes, behind, byte_takes, byte_again, byte_refused}
use Rattle.byte_fields.proofs.Results.{bind_err, err_is, chosen, chosen_err, refused_err, with_fault_ok, with_fault_err}
use Rattle.stmt_codec.specs.Certificates.{Certificate, body_spelling}
use Rattle.stmt_codec.specs.Reading.{body_at}
use Rattle.stmt_codec.proofs.Bodies.{found_at}
use Rattle.stmt_codec.proofs.Offsets.{never_memory}
use Rattle.sealed_cert.specs.declared.fault.SealFault.{SealFault}
use Rattle.sealed_cert.specs.declared.fault.SealFault.TheVariants.{Malformed, UnknownIssuer, BadSeal, WrongKind, NoMemory}
use Rattle.sealed_cert.specs.Causes.{HasTail, IsMalformedAt, empty, no_kind, no_body, short_tag, long_tag, IsOfKind, IsRefused, IsRefusedIssued}
use Rattle.sealed_cert.specs.Refusals.{seen_as, kind_at, ends_in_tag, body_and_tag_at, body_of_kind, is_tagged, checked, known, opened, opened_issued}
use Rattle.sealed_cert.specs.Seals.{sealed_text, Spells}
use Rattle.sealed_cert.proofs.Apart.{wrong_kind, relayed_refused, issued_refused}
use Rattle.sealed_cert.proofs.Judged.{relayed_bad, issued_unknown, issued_bad}
use Rattle.sealed_cert.proofs.Lengths.{some, none_carried, tail_refused, tag_short, tag_long}
use Rattle.sealed_cert.proofs.Opened.{IsCarried, HasBody, kind_takes, kind_again, body_parts, carried_takes, front_is}

-- ---- what a fault of the form says

abbrev Why : ℕ → ℕ → List ℕ → SealFault → Type 0
Why kind other bytes (Malformed o) = IsMalformedAt kind other bytes o
Why kind other bytes (WrongKind k) = (k ≡ other) × IsOfKind other bytes
Why kind other bytes (UnknownIssuer i) = ⊥
Why kind other bytes BadSeal = ⊥
Why kind other bytes NoMemory = ⊥

none_left : (bytes : List ℕ) → length bytes ≤ 0 → bytes ≡ []
none_left [] le = refl
none_left (b ∷ bytes) le = absurd (omega arith)

kind_why : (kind other : ℕ) (bytes : List ℕ) (f : SealFault) → kind_at kind other bytes ≡ Err f → Why kind other bytes f
unfolding kind_at
kind_why kind other bytes f e = elim (bind_err (byte_at (Malformed 0) bytes 0) (λ first. if first.0 == other then Err (WrongKind other) else (if first.0 == kind then Ok first.1 else Err (Malformed 0))) f e) [
  | inl short ↦
      let g = byte_refused (Malformed 0) bytes 0 f short in
      subst (Why kind other bytes) (sym g.1) (empty (none_left bytes g.0) refl)
  | inr x ↦
      let t = byte_takes (Malformed 0) bytes 0 x.0 x.1 in
      elim (chosen (x.0.0 == other) (Err (WrongKind other)) (cond (x.0.0 == kind) (Ok x.0.1) (Err (Malformed 0))) (Err f) x.2) [
        | inl wrong ↦ subst (Why kind other bytes) (err_is ℕ (WrongKind other) f wrong.1) (refl, (drop x.0.1 bytes, t.parts ∙ ap (λ (b : ℕ). b ∷ drop x.0.1 bytes) (eqb-true _ _ wrong.0)))
        | inr right ↦
            let g = chosen_err (x.0.0 == kind) (Malformed 0) f x.0.1 right.1 in
            subst (Why kind other bytes) (sym g.1) (no_kind x.0.0 (drop x.0.1 bytes) t.parts (eqb-false _ _ g.0) (eqb-false _ _ right.0) refl)
      ]
]

body_why : (kind other : ℕ) (bytes rest : List ℕ) (d : FormatFault) → IsBytes bytes → bytes ≡ kind ∷ rest → body_at bytes 1 ≡ Err d → Why kind other bytes (seen_as d)
body_why kind other bytes rest (formats.Malformed o) fits first e = no_body rest first e
body_why kind other bytes rest formats.NoMemory fits first e = absurd (never_memory bytes 1 (some kind rest bytes first) fits e)

tag_why : (kind other : ℕ) (bytes : List ℕ) (c : Certificate) (at : ℕ) (f : SealFault) → HasBody kind bytes c at → ends_in_tag bytes at ≡ Err f → Why kind other bytes f
unfolding ends_in_tag
tag_why kind other bytes c at f is e =
    let tail : HasTail kind bytes c (drop at bytes) = record { text = is.text; numbers = is.numbers; limits = is.limits } in
    elim (chosen (nat_lt (length bytes - at) 32) (Err (Malformed (length bytes))) (cond (nat_lt (at + 32) (length bytes)) (Err (Malformed (at + 32))) (Ok at)) (Err f) e) [
      | inl short ↦
          let less : length bytes - at < 32 = ltb-true _ _ short.0 in
          subst (Why kind other bytes) (err_is ℕ (Malformed (length bytes)) f short.1) (short_tag c (drop at bytes) tail (omega (arith, less, length-drop at bytes)) refl)
      | inr long ↦
          let g = refused_err (nat_lt (at + 32) (length bytes)) (Malformed (at + 32)) f at long.1 in
          let more : at + 32 < length bytes = ltb-true _ _ g.0 in
          subst (Why kind other bytes) (sym g.1) (long_tag c (drop at bytes) tail (omega (arith, more, length-drop at bytes)) (ap (λ (n : ℕ). n + 32) is.place))
    ]

carried_why : (kind other : ℕ) (bytes : List ℕ) (f : SealFault) → IsBytes bytes → body_of_kind kind other bytes ≡ Err f → Why kind other bytes f
unfolding body_of_kind body_and_tag_at
carried_why kind other bytes f fits e = elim (bind_err (kind_at kind other bytes) _ f e) [
  | inl first ↦ kind_why kind other bytes f first
  | inr begin ↦
      let k = kind_takes kind other bytes begin.0 begin.1 in
      elim (bind_err (with_fault seen_as (body_at bytes begin.0)) _ f begin.2) [
        | inl wrong ↦
            let h = with_fault_err seen_as (body_at bytes begin.0) f wrong in
            let read : body_at bytes 1 ≡ Err h.0 = ap (body_at bytes) (sym k.0) ∙ h.1 in
            subst (Why kind other bytes) (sym h.2) (body_why kind other bytes (drop 1 bytes) h.0 fits k.1 read)
        | inr body ↦
            let within : begin.0 ≤ length bytes = omega (arith, k.0, some kind (drop 1 bytes) bytes k.1) in
            let read : body_at bytes begin.0 ≡ Ok body.0 = with_fault_ok seen_as _ body.0 body.1 in
            let found = found_at bytes begin.0 body.0 within fits read in
            elim (bind_err (ends_in_tag bytes body.0.1) _ f body.2) [
              | inl tag ↦ tag_why kind other bytes body.0.0 body.0.1 f (body_parts kind bytes body.0.0 begin.0 body.0.1 k.0 k.1 found.0 found.1) tag
              | inr end ↦ absurd (cc (end.2))
            ]
      ]
]

-- ---- and each such fault comes

no_kind_refused : (kind other first : ℕ) (bytes rest : List ℕ) → bytes ≡ first ∷ rest → first ≢ kind → first ≢ other → body_of_kind kind other bytes ≡ Err (Malformed 0)
unfolding body_of_kind body_and_tag_at kind_at
no_kind_refused kind other first bytes rest e not_kind not_other =
    let a : (first == other) ≡ false = grind (arith, nat_tests, not_other) in
    let b : (first == kind) ≡ false = grind (arith, nat_tests, not_kind) in
    rw (byte_again (Malformed 0) bytes rest 0 first e, a, b) refl

no_body_refused : (kind other : ℕ) (bytes rest : List ℕ) (o : ℕ) → (kind == other) ≡ false → bytes ≡ kind ∷ rest → body_at bytes 1 ≡ Err (formats.Malformed o) → body_of_kind kind other bytes ≡ Err (Malformed o)
unfolding body_of_kind body_and_tag_at
no_body_refused kind other bytes rest o differs e none = rw (kind_again kind other bytes rest differs e, none) refl

lengths : (k : ℕ) (text tail bytes : List ℕ) → bytes ≡ (k ∷ text) ++ tail → length bytes ≡ (1 + length text) + length tail
lengths k text tail bytes e = omega (arith, ap length e, length-append (k ∷ text) tail)

one_more : (k : ℕ) (text : List ℕ) → (1 + length text) + 32 ≡ length (k ∷ text) + 32
one_more k text = omega arith

malformed_is : (kind other : ℕ) (bytes : List ℕ) (o : ℕ) → (kind == other) ≡ false → IsMalformedAt kind other bytes o → body_of_kind kind other bytes ≡ Err (Malformed o)
malformed_is kind other bytes o differs (empty e is) = ap (body_of_kind kind other) e ∙ none_carried kind other ∙ ap (λ (n : ℕ). Err (Malformed n)) (sym is)
malformed_is kind other bytes o differs (no_kind first rest e not_kind not_other is) = no_kind_refused kind other first bytes rest e not_kind not_other ∙ ap (λ (n : ℕ). Err (Malformed n)) (sym is)
malformed_is kind other bytes o differs (no_body rest e none) = no_body_refused kind other bytes rest o differs e none
malformed_is kind other bytes o differs (short_tag c tail has less is) =
    let len = lengths kind (body_spelling c) tail bytes has.text in
    let short = tag_short bytes (1 + length (body_spelling c)) (omega (arith, len, less)) in
    tail_refused kind other bytes tail c (Malformed o) differs has.numbers has.limits has.text (short ∙ ap (λ (n : ℕ). Err (Malformed n)) (sym is))
malformed_is kind other bytes o differs (long_tag c tail has more is) =
    let len = lengths kind (body_spelling c) tail bytes has.text in
    let long = tag_long bytes (1 + length (body_spelling c)) (omega (arith, len, more)) in
    let place = one_more kind (body_spelling c) ∙ sym is in
    tail_refused kind other bytes tail c (Malformed o) differs has.numbers has.limits has.text (long ∙ ap (λ (n : ℕ). Err (Malformed n)) place)

-- ---- what stands before the tag is whole

spells_carried : (kind : ℕ) (bytes : List ℕ) (c : Certificate) (end : ℕ) → IsCarried kind bytes c end → Spells kind bytes c (drop end bytes)
spells_carried kind bytes c end is = record { text = is.text; whole_tag = is.tag; numbers = is.numbers; limits = is.limits }

is_other : (kind : ℕ) (key bytes : List ℕ) (c : Certificate) (end : ℕ) → IsCarried kind bytes c end → is_tagged key bytes end ≡ false → drop end bytes ≢ tag_of key (sealed_text kind c)
is_other kind key bytes c end is untagged = λ same.
    let front = front_is bytes (sealed_text kind c) end is.text is.place in
    let yes : is_tagged key bytes end ≡ true = (bytes_eq-Decides _ _).1 (same ∙ ap (tag_of key) (sym front)) in
    false≢true (sym untagged ∙ yes)

-- ---- under a relay's key

relayed_early : (key bytes : List ℕ) (f : SealFault) → Why 2 1 bytes f → IsRefused key bytes f
relayed_early key bytes (Malformed o) h = h
relayed_early key bytes (WrongKind k) h = h
relayed_early key bytes (UnknownIssuer i) h = absurd h
relayed_early key bytes BadSeal h = absurd h
relayed_early key bytes NoMemory h = absurd h

pub relayed_why : (key bytes : List ℕ) (f : SealFault) → IsBytes bytes → opened key bytes ≡ Err f → IsRefused key bytes f
unfolding opened
relayed_why key bytes f fits e = elim (bind_err (body_of_kind 2 1 bytes) (checked key bytes) f e) [
  | inl early ↦ relayed_early key bytes f (carried_why 2 1 bytes f fits early)
  | inr x ↦
      let is = carried_takes 2 1 bytes x.0 fits x.1 in
      let g = chosen_err (is_tagged key bytes x.0.1) BadSeal f x.0.0 x.2 in
      subst (IsRefused key bytes) (sym g.1) (x.0.0, drop x.0.1 bytes, spells_carried 2 bytes x.0.0 x.0.1 is, is_other 2 key bytes x.0.0 x.0.1 is g.0)
]

pub relayed_is_refused : (key bytes : List ℕ) (f : SealFault) → IsRefused key bytes f → opened key bytes ≡ Err f
relayed_is_refused key bytes (Malformed o) h = relayed_refused key bytes (Malformed o) (malformed_is 2 1 bytes o refl h)
relayed_is_refused key bytes (WrongKind k) h = relayed_refused key bytes (WrongKind k) (ap (body_of_kind 2 1) h.1.1 ∙ wrong_kind 2 1 h.1.0 ∙ ap (λ (n : ℕ). Err (WrongKind n)) (sym h.0))
relayed_is_refused key bytes (UnknownIssuer i) h = absurd h
relayed_is_refused key bytes BadSeal h = relayed_bad key bytes h.1 h.0 h.2 h.3
relayed_is_refused key bytes NoMemory h = absurd h

-- ---- under an issuer's

issued_early : (entries : Entries) (bytes : List ℕ) (f : SealFault) → Why 1 2 bytes f → IsRefusedIssued entries bytes f
issued_early entries bytes (Malformed o) h = h
issued_early entries bytes (WrongKind k) h = h
issued_early entries bytes (UnknownIssuer i) h = absurd h
issued_early entries bytes BadSeal h = absurd h
issued_early entries bytes NoMemory h = absurd h

judged : (entries : Entries) (bytes : List ℕ) (x : Certificate × ℕ) (f : SealFault) (key : Option (List ℕ)) → IsCarried 1 bytes x.0 x.1 → key_of entries x.0.issuer ≡ key
    → (known x.0.issuer key >>= λ k. checked k bytes x) ≡ Err f → IsRefusedIssued entries bytes f
judged entries bytes x f None is e went =
    subst (IsRefusedIssued entries bytes) (err_is Certificate (UnknownIssuer x.0.issuer) f went) (x.0, drop x.1 bytes, spells_carried 1 bytes x.0 x.1 is, e, refl)
judged entries bytes x f (Some key) is e went =
    let g = chosen_err (is_tagged key bytes x.1) BadSeal f x.0 went in
    subst (IsRefusedIssued entries bytes) (sym g.1) (x.0, drop x.1 bytes, key, spells_carried 1 bytes x.0 x.1 is, e, is_other 1 key bytes x.0 x.1 is g.0)

pub issued_why : (entries : Entries) (bytes : List ℕ) (f : SealFault) → IsBytes bytes → opened_issued entries bytes ≡ Err f → IsRefusedIssued entries bytes f
unfolding opened_issued
issued_why entries bytes f fits e = elim (bind_err (body_of_kind 1 2 bytes) _ f e) [
  | inl early ↦ issued_early entries bytes f (carried_why 1 2 bytes f fits early)
  | inr x ↦ judged entries bytes x.0 f (key_of entries x.0.0.issuer) (carried_takes 1 2 bytes x.0 fits x.1) refl x.2
]

pub issued_is_refused : (entries : Entries) (bytes : List ℕ) (f : SealFault) → IsRefusedIssued entries bytes f → opened_issued entries bytes ≡ Err f
issued_is_refused entries bytes (Malformed o) h = issued_refused entries bytes (Malformed o) (malformed_is 1 2 bytes o refl h)
issued_is_refused entries bytes (WrongKind k) h = issued_refused entries bytes (WrongKind k) (ap (body_of_kind 1 2) h.1.1 ∙ wrong_kind 1 2 h.1.0 ∙ ap (λ (n : ℕ). Err (WrongKind n)) (sym h.0))
issued_is_refused entries bytes (UnknownIssuer i) h = issued_unknown entries bytes h.1 h.0 h.2 h.3 ∙ ap (λ (n : ℕ). Err (UnknownIssuer n)) (sym h.4)
issued_is_refused entries bytes BadSeal h = issued_bad entries h.2 bytes h.1 h.0 h.3 h.4 h.5
issued_is_refused entries bytes NoMemory h = absurd h
