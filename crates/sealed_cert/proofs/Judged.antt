-- What becomes of bytes that are spelled whole.
use Rattle.std.proofs.Common.{◌≡◌, ◌≢◌, ℕ, false, List, ◌++◌, length, Some, None, Result, Err, refl, sym, ap, ◌∙◌}
use Rattle.std.proofs.lemmas.Bool.{false_from_ne_true}
use Rattle.std.proofs.lemmas.Slice.Eq.{bytes_eq-Decides}
use Rattle.keyed_seal.specs.Keys.{Entries, key_of}
use Rattle.keyed_seal.specs.Tag.{tag_of}
use Rattle.byte_fields.specs.Steps.{◌>>=◌}
use Rattle.stmt_codec.specs.Certificates.{Certificate}
use Rattle.sealed_cert.specs.declared.fault.SealFault.{SealFault}
use Rattle.sealed_cert.specs.declared.fault.SealFault.TheVariants.{UnknownIssuer, BadSeal}
use Rattle.sealed_cert.specs.Seals.{sealed_text, Spells}
use Rattle.sealed_cert.specs.Refusals.{is_tagged, checked, opened, opened_issued}
use Rattle.sealed_cert.proofs.Opened.{IsCarried, carried_again, tag_behind, front_is}

spelled_is_carried : (kind : ℕ) (bytes tag : List ℕ) (c : Certificate) → Spells kind bytes c tag → IsCarried kind bytes c (length (sealed_text kind c))
spelled_is_carried kind bytes tag c is =
    let left = tag_behind bytes (sealed_text kind c) tag is.text in
    record {
      text = is.text ∙ ap (λ (l : List ℕ). sealed_text kind c ++ l) (sym left);
      place = refl;
      tag = ap length left ∙ is.whole_tag;
      numbers = is.numbers;
      limits = is.limits;
    }

untagged : (kind : ℕ) (key bytes tag : List ℕ) (c : Certificate) → Spells kind bytes c tag → tag ≢ tag_of key (sealed_text kind c) → is_tagged key bytes (length (sealed_text kind c)) ≡ false
untagged kind key bytes tag c is other =
    let end = length (sealed_text kind c) in
    let left = tag_behind bytes (sealed_text kind c) tag is.text in
    let front = front_is bytes (sealed_text kind c) end (spelled_is_carried kind bytes tag c is).text refl in
    false_from_ne_true (is_tagged key bytes end) (λ yes. other (sym left ∙ (bytes_eq-Decides _ _).0 yes ∙ ap (tag_of key) front))

checked_bad : (kind : ℕ) (key bytes tag : List ℕ) (c : Certificate) → Spells kind bytes c tag → tag ≢ tag_of key (sealed_text kind c) → checked key bytes (c, length (sealed_text kind c)) ≡ Err BadSeal
checked_bad kind key bytes tag c is other = rw (untagged kind key bytes tag c is other) refl

pub relayed_bad : (key bytes tag : List ℕ) (c : Certificate) → Spells 2 bytes c tag → tag ≢ tag_of key (sealed_text 2 c) → opened key bytes ≡ Err BadSeal
unfolding opened
relayed_bad key bytes tag c is other =
    let read = carried_again 2 1 bytes c (length (sealed_text 2 c)) refl (spelled_is_carried 2 bytes tag c is) in
    ap (λ (r : Result (Certificate × ℕ) SealFault). r >>= checked key bytes) read ∙ checked_bad 2 key bytes tag c is other

pub issued_unknown : (entries : Entries) (bytes tag : List ℕ) (c : Certificate) → Spells 1 bytes c tag → key_of entries c.issuer ≡ None → opened_issued entries bytes ≡ Err (UnknownIssuer c.issuer)
unfolding opened_issued
issued_unknown entries bytes tag c is none =
    let read = carried_again 1 2 bytes c (length (sealed_text 1 c)) refl (spelled_is_carried 1 bytes tag c is) in
    rw (read, none) refl

pub issued_bad : (entries : Entries) (key bytes tag : List ℕ) (c : Certificate) → Spells 1 bytes c tag → key_of entries c.issuer ≡ Some key → tag ≢ tag_of key (sealed_text 1 c) → opened_issued entries bytes ≡ Err BadSeal
unfolding opened_issued
issued_bad entries key bytes tag c is some other =
    let read = carried_again 1 2 bytes c (length (sealed_text 1 c)) refl (spelled_is_carried 1 bytes tag c is) in
    rw (read, some) (checked_bad 1 key bytes tag c is other)
