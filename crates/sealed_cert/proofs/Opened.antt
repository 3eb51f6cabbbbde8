-- What opens was sealed so, and what is sealed so opens.
use Rattle.std.proofs.Common.{◌≡◌, ℕ, ◌+◌, ◌-◌, ◌≤◌, true, false, cond, List, [], ◌∷◌, ◌++◌, length, take, drop, Option, Some, None, Result, Ok, Err, refl, sym, ap, subst, ◌∙◌, inl, inr, arith, length-drop}
use Rattle.std.specs.Prelude.{nat_lt, ◌==◌}
use Rattle.std.proofs.lemmas.Bool.{ltb-false, le-ltb, eqb-true, eq-eqb}
use Rattle.std.proofs.lemmas.Slice.Eq.{bytes_eq-Decides}
use Rattle.std.proofs.lemmas.List.{take_at, drop_at}
use Rattle.keyed_seal.specs.Keys.{Entries, key_of}
use Rattle.keyed_seal.specs.Tag.{tag_of}
use Rattle.keyed_seal.proofs.Tags.{length-tag_of}
use Rattle.byte_fields.specs.Steps.{◌>>=◌}
use Rattle.byte_fields.proofs.Results.{bind_ok, ok_is, chosen, chosen_ok, refused_ok, with_fault_ok}
use Rattle.byte_fields.proofs.FieldLaws.{IsBytes, byte_takes, byte_again, behind}
use Rattle.stmt_codec.specs.Certificates.{Certificate, body_spelling, HasBodySpelling, IsWithinLimits, IsBodyAt}
use Rattle.stmt_codec.specs.Reading.{body_at}
use Rattle.stmt_codec.proofs.Bodies.{found_at, body_again}
use Rattle.sealed_cert.specs.declared.fault.SealFault.{SealFault}
use Rattle.sealed_cert.specs.declared.fault.SealFault.TheVariants.{Malformed, BadSeal, WrongKind}
use Rattle.sealed_cert.specs.Seals.{sealed_text, IsSealed, OpensIssued}
use Rattle.sealed_cert.specs.Refusals.{seen_as, kind_at, ends_in_tag, body_and_tag_at, body_of_kind, is_tagged, checked, opened, known, opened_issued}

-- the bytes are the body of a kind, and 32 more from an offset on
pub record IsCarried (kind : ℕ) (bytes : List ℕ) (c : Certificate) (end : ℕ) : Type 0 where
  pub text : bytes ≡ sealed_text kind c ++ drop end bytes
  pub place : end ≡ length (sealed_text kind c)
  pub tag : length (drop end bytes) ≡ 32
  pub numbers : HasBodySpelling c
  pub limits : IsWithinLimits c

-- ---- the byte of the kind

pub kind_takes : (kind other : ℕ) (bytes : List ℕ) (begin : ℕ) → kind_at kind other bytes ≡ Ok begin → (begin ≡ 1) × (bytes ≡ kind ∷ drop 1 bytes)
unfolding kind_at
kind_takes kind other bytes begin e =
    let first = bind_ok _ _ begin e in
    let t = byte_takes (Malformed 0) bytes 0 first.0 first.1 in
    elim (chosen (first.0.0 == other) (Err (WrongKind other)) (cond (first.0.0 == kind) (Ok first.0.1) (Err (Malformed 0))) (Ok begin) first.2) [
      | inl wrong ↦ absurd (cc (wrong.1))
      | inr right ↦
          let g = chosen_ok (first.0.0 == kind) (Malformed 0) first.0.1 begin right.1 in
          let same : first.0.0 ≡ kind = eqb-true _ _ g.0 in
          (sym g.1 ∙ t.end_is, t.parts ∙ ap (λ (b : ℕ). b ∷ drop first.0.1 bytes) same ∙ ap (λ (n : ℕ). kind ∷ drop n bytes) t.end_is)
    ]

pub kind_again : (kind other : ℕ) (bytes rest : List ℕ) → (kind == other) ≡ false → bytes ≡ kind ∷ rest → kind_at kind other bytes ≡ Ok 1
unfolding kind_at
kind_again kind other bytes rest differs e =
    let same : (kind == kind) ≡ true = eq-eqb kind kind refl in
    rw (byte_again (Malformed 0) bytes rest 0 kind e, differs, same) refl

-- ---- the tag

tag_takes : (bytes : List ℕ) (at end : ℕ) → ends_in_tag bytes at ≡ Ok end → (at ≡ end) × (length (drop at bytes) ≡ 32)
unfolding ends_in_tag
tag_takes bytes at end e =
    elim (chosen (nat_lt (length bytes - at) 32) (Err (Malformed (length bytes))) (cond (nat_lt (at + 32) (length bytes)) (Err (Malformed (at + 32))) (Ok at)) (Ok end) e) [
      | inl short ↦ absurd (cc (short.1))
      | inr long ↦
          let g = refused_ok (nat_lt (at + 32) (length bytes)) (Malformed (at + 32)) at end long.1 in
          let least : 32 ≤ length bytes - at = ltb-false _ _ long.0 in
          let most : length bytes ≤ at + 32 = ltb-false _ _ g.0 in
          (g.1, omega (arith, length-drop at bytes, least, most))
    ]

tag_again : (bytes : List ℕ) (at : ℕ) → length (drop at bytes) ≡ 32 → ends_in_tag bytes at ≡ Ok at
unfolding ends_in_tag
tag_again bytes at len =
    let least : nat_lt (length bytes - at) 32 ≡ false = le-ltb _ _ (omega (arith, length-drop at bytes, len)) in
    let most : nat_lt (at + 32) (length bytes) ≡ false = le-ltb _ _ (omega (arith, length-drop at bytes, len)) in
    rw (least, most) refl

-- ---- the certificate, whatever its tag

-- the bytes are the body of a kind, and others from an offset on
pub record HasBody (kind : ℕ) (bytes : List ℕ) (c : Certificate) (end : ℕ) : Type 0 where
  pub text : bytes ≡ sealed_text kind c ++ drop end bytes
  pub place : end ≡ length (sealed_text kind c)
  pub numbers : HasBodySpelling c
  pub limits : IsWithinLimits c

pub body_parts : (kind : ℕ) (bytes : List ℕ) (c : Certificate) (begin end : ℕ) → begin ≡ 1 → bytes ≡ kind ∷ drop 1 bytes → IsBodyAt bytes begin c → end ≡ begin + length (body_spelling c) → HasBody kind bytes c end
body_parts kind bytes c begin end one first is place =
    let rest = is.text.0 in
    let start : drop 1 bytes ≡ body_spelling c ++ rest = ap (λ (n : ℕ). drop n bytes) (sym one) ∙ is.text.1 in
    let left : drop (1 + length (body_spelling c)) bytes ≡ rest = behind bytes (body_spelling c) rest 1 start in
    let at_end : end ≡ 1 + length (body_spelling c) = place ∙ ap (λ (n : ℕ). n + length (body_spelling c)) one in
    let tail : rest ≡ drop end bytes = sym left ∙ ap (λ (n : ℕ). drop n bytes) (sym at_end) in
    record {
      text = first ∙ ap (λ (l : List ℕ). kind ∷ l) (start ∙ ap (λ (l : List ℕ). body_spelling c ++ l) tail);
      place = at_end ∙ behind_one kind (body_spelling c);
      numbers = is.numbers;
      limits = is.limits;
    }
  where
    behind_one : (b : ℕ) (l : List ℕ) → 1 + length l ≡ length (b ∷ l)
    behind_one b l = omega arith

carried_parts : (kind : ℕ) (bytes : List ℕ) (c : Certificate) (end : ℕ) → HasBody kind bytes c end → length (drop end bytes) ≡ 32 → IsCarried kind bytes c end
carried_parts kind bytes c end is len = record { text = is.text; place = is.place; tag = len; numbers = is.numbers; limits = is.limits }

pub carried_takes : (kind other : ℕ) (bytes : List ℕ) (x : Certificate × ℕ) → IsBytes bytes → body_of_kind kind other bytes ≡ Ok x → IsCarried kind bytes x.0 x.1
unfolding body_of_kind body_and_tag_at
carried_takes kind other bytes x fits e =
    let begin = bind_ok _ _ x e in
    let body = bind_ok _ _ x begin.2 in
    let k = kind_takes kind other bytes begin.0 begin.1 in
    let within = some kind (drop 1 bytes) bytes begin.0 k.0 k.1 in
    let read : body_at bytes begin.0 ≡ Ok body.0 = with_fault_ok seen_as _ body.0 body.1 in
    let end = bind_ok _ _ x body.2 in
    let f = found_at bytes begin.0 body.0 within fits read in
    let t = tag_takes bytes body.0.1 end.0 end.1 in
    subst (λ (y : Certificate × ℕ). IsCarried kind bytes y.0 y.1) (ok_is SealFault (body.0.0, end.0) x end.2)
    (carried_parts kind bytes body.0.0 end.0 (body_parts kind bytes body.0.0 begin.0 end.0 k.0 k.1 f.0 (sym t.0 ∙ f.1)) (ap (λ (n : ℕ). length (drop n bytes)) (sym t.0) ∙ t.1))
  where
    some : (b : ℕ) (l bytes : List ℕ) (begin : ℕ) → begin ≡ 1 → bytes ≡ b ∷ l → begin ≤ length bytes
    some b l bytes begin one e = omega (arith, one, ap length e)

pub carried_again : (kind other : ℕ) (bytes : List ℕ) (c : Certificate) (end : ℕ) → (kind == other) ≡ false → IsCarried kind bytes c end → body_of_kind kind other bytes ≡ Ok (c, end)
unfolding body_of_kind body_and_tag_at
carried_again kind other bytes c end differs is =
    let rest : List ℕ = body_spelling c ++ drop end bytes in
    let first = kind_again kind other bytes rest differs is.text in
    let start : drop 1 bytes ≡ body_spelling c ++ drop end bytes = behind bytes (kind ∷ []) rest 0 is.text in
    let body = body_again bytes (drop end bytes) 1 c (some kind rest bytes is.text) is.numbers is.limits start in
    let place : 1 + length (body_spelling c) ≡ end = behind_one kind (body_spelling c) ∙ sym is.place in
    rw (first, body, place, tag_again bytes end is.tag) refl
  where
    some : (b : ℕ) (l bytes : List ℕ) → bytes ≡ b ∷ l → 1 ≤ length bytes
    some b l bytes e = omega (arith, ap length e)

    behind_one : (b : ℕ) (l : List ℕ) → 1 + length l ≡ length (b ∷ l)
    behind_one b l = omega arith

-- ---- the seal

pub front_is : (bytes text : List ℕ) (end : ℕ) → bytes ≡ text ++ drop end bytes → end ≡ length text → take end bytes ≡ text
front_is bytes text end e place = ap (take end) e ∙ take_at text (drop end bytes) end (sym place)

tagged_is_sealed : (kind : ℕ) (key bytes : List ℕ) (c : Certificate) (end : ℕ) → IsCarried kind bytes c end → is_tagged key bytes end ≡ true → IsSealed kind key bytes c
tagged_is_sealed kind key bytes c end is tagged =
    let tag : drop end bytes ≡ tag_of key (take end bytes) = (bytes_eq-Decides _ _).0 tagged in
    let front : take end bytes ≡ sealed_text kind c = front_is bytes (sealed_text kind c) end is.text is.place in
    record {
      text = is.text ∙ ap (λ (l : List ℕ). sealed_text kind c ++ l) (tag ∙ ap (tag_of key) front);
      numbers = is.numbers;
      limits = is.limits;
    }

pub tag_behind : (bytes text tag : List ℕ) → bytes ≡ text ++ tag → drop (length text) bytes ≡ tag
tag_behind bytes text tag e = ap (drop (length text)) e ∙ drop_at text tag (length text) refl

pub sealed_is_carried : (kind : ℕ) (key bytes : List ℕ) (c : Certificate) → IsSealed kind key bytes c → IsCarried kind bytes c (length (sealed_text kind c))
sealed_is_carried kind key bytes c is =
    let left = tag_behind bytes (sealed_text kind c) (tag_of key (sealed_text kind c)) is.text in
    record {
      text = is.text ∙ ap (λ (l : List ℕ). sealed_text kind c ++ l) (sym left);
      place = refl;
      tag = ap length left ∙ length-tag_of key (sealed_text kind c);
      numbers = is.numbers;
      limits = is.limits;
    }

sealed_is_tagged : (kind : ℕ) (key bytes : List ℕ) (c : Certificate) → IsSealed kind key bytes c → is_tagged key bytes (length (sealed_text kind c)) ≡ true
sealed_is_tagged kind key bytes c is =
    let text : List ℕ = sealed_text kind c in
    let left = tag_behind bytes text (tag_of key text) is.text in
    let front : take (length text) bytes ≡ text = ap (take (length text)) is.text ∙ take_at text (tag_of key text) (length text) refl in
    (bytes_eq-Decides _ _).1 (left ∙ ap (tag_of key) (sym front))

checked_again : (kind : ℕ) (key bytes : List ℕ) (c : Certificate) → IsSealed kind key bytes c → checked key bytes (c, length (sealed_text kind c)) ≡ Ok c
checked_again kind key bytes c is = rw (sealed_is_tagged kind key bytes c is) refl

-- ---- what opens

pub opened_takes : (key bytes : List ℕ) (c : Certificate) → IsBytes bytes → opened key bytes ≡ Ok c → IsSealed 2 key bytes c
unfolding opened
opened_takes key bytes c fits e =
    let x = bind_ok (body_of_kind 2 1 bytes) (checked key bytes) c e in
    let g = chosen_ok (is_tagged key bytes x.0.1) BadSeal x.0.0 c x.2 in
    subst (λ (d : Certificate). IsSealed 2 key bytes d) g.1 (tagged_is_sealed 2 key bytes x.0.0 x.0.1 (carried_takes 2 1 bytes x.0 fits x.1) g.0)

pub opened_again : (key bytes : List ℕ) (c : Certificate) → IsSealed 2 key bytes c → opened key bytes ≡ Ok c
unfolding opened
opened_again key bytes c is =
    let read = carried_again 2 1 bytes c (length (sealed_text 2 c)) refl (sealed_is_carried 2 key bytes c is) in
    ap (λ (r : Result (Certificate × ℕ) SealFault). r >>= checked key bytes) read ∙ checked_again 2 key bytes c is

known_is : (issuer : ℕ) (o : Option (List ℕ)) (key : List ℕ) → known issuer o ≡ Ok key → o ≡ Some key
known_is issuer (Some k) key e = cc
known_is issuer None key e = absurd cc

pub issued_takes : (entries : Entries) (bytes : List ℕ) (c : Certificate) → IsBytes bytes → opened_issued entries bytes ≡ Ok c → OpensIssued entries bytes c
unfolding opened_issued
issued_takes entries bytes c fits e =
    let x = bind_ok _ _ c e in
    let k = bind_ok _ _ c x.2 in
    let g = chosen_ok (is_tagged k.0 bytes x.0.1) BadSeal x.0.0 c k.2 in
    subst (λ (d : Certificate). OpensIssued entries bytes d) g.1 (record {
      key = k.0;
      known = known_is x.0.0.issuer (key_of entries x.0.0.issuer) k.0 k.1;
      seal = tagged_is_sealed 1 k.0 bytes x.0.0 x.0.1 (carried_takes 1 2 bytes x.0 fits x.1) g.0;
    })

pub issued_again : (entries : Entries) (bytes : List ℕ) (c : Certificate) → OpensIssued entries bytes c → opened_issued entries bytes ≡ Ok c
unfolding opened_issued
issued_again entries bytes c is =
    let read = carried_again 1 2 bytes c (length (sealed_text 1 c)) refl (sealed_is_carried 1 is.key bytes c is.seal) in
    rw (read, is.known) (checked_again 1 is.key bytes c is.seal)
