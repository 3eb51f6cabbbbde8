-- The kinds are apart, and bytes carry one body.
use Rattle.std.proofs.Common.{◌≡◌, ℕ, true, List, ◌∷◌, ◌++◌, Some, Result, Ok, Err, refl, sym, ap, ◌∙◌}
use Rattle.std.specs.Prelude.{◌==◌}
use Rattle.std.proofs.lemmas.Bool.{eq-eqb}
use Rattle.keyed_seal.specs.Keys.{Entries, key_of}
use Rattle.keyed_seal.specs.Tag.{tag_of}
use Rattle.byte_fields.specs.Steps.{◌>>=◌}
use Rattle.byte_fields.proofs.FieldLaws.{byte_again}
use Rattle.stmt_codec.specs.Certificates.{Certificate, body_spelling, HasBodySpelling, IsWithinLimits}
use Rattle.stmt_codec.proofs.Once.{body_once}
use Rattle.sealed_cert.specs.declared.fault.SealFault.{SealFault}
use Rattle.sealed_cert.specs.declared.fault.SealFault.TheVariants.{Malformed, WrongKind}
use Rattle.sealed_cert.specs.Seals.{sealed_text, sealed, IsSealed, Opens, OpensIssued}
use Rattle.sealed_cert.specs.Refusals.{kind_at, body_and_tag_at, body_of_kind, checked, opened, opened_issued}
use Rattle.sealed_cert.proofs.Opened.{opened_again, issued_again}

pub relayed_opens : (key : List ℕ) (c : Certificate) → HasBodySpelling c → IsWithinLimits c → opened key (sealed 2 key c) ≡ Ok c
relayed_opens key c numbers limits = opened_again key (sealed 2 key c) c (record { text = refl; numbers = numbers; limits = limits })

pub issued_opens : (entries : Entries) (key : List ℕ) (c : Certificate) → HasBodySpelling c → IsWithinLimits c → key_of entries c.issuer ≡ Some key → opened_issued entries (sealed 1 key c) ≡ Ok c
issued_opens entries key c numbers limits is =
    issued_again entries (sealed 1 key c) c (record { key = key; known = is; seal = record { text = refl; numbers = numbers; limits = limits } })

pub wrong_kind : (kind other : ℕ) (rest : List ℕ) → body_of_kind kind other (other ∷ rest) ≡ Err (WrongKind other)
unfolding body_of_kind body_and_tag_at kind_at
wrong_kind kind other rest =
    let same : (other == other) ≡ true = eq-eqb other other refl in
    rw (byte_again (Malformed 0) (other ∷ rest) rest 0 other refl, same) refl

-- a refusal of what is carried is the answer
pub relayed_refused : (key bytes : List ℕ) (f : SealFault) → body_of_kind 2 1 bytes ≡ Err f → opened key bytes ≡ Err f
unfolding opened
relayed_refused key bytes f e = ap (λ (r : Result (Certificate × ℕ) SealFault). r >>= checked key bytes) e

pub issued_refused : (entries : Entries) (bytes : List ℕ) (f : SealFault) → body_of_kind 1 2 bytes ≡ Err f → opened_issued entries bytes ≡ Err f
unfolding opened_issued
issued_refused entries bytes f e = rw e refl

pub relayed_is_wrong : (entries : Entries) (rest : List ℕ) → opened_issued entries (2 ∷ rest) ≡ Err (WrongKind 2)
relayed_is_wrong entries rest = issued_refused entries (2 ∷ rest) (WrongKind 2) (wrong_kind 1 2 rest)

pub issued_is_wrong : (key rest : List ℕ) → opened key (1 ∷ rest) ≡ Err (WrongKind 1)
issued_is_wrong key rest = relayed_refused key (1 ∷ rest) (WrongKind 1) (wrong_kind 2 1 rest)

first_bytes : (x y : List ℕ) → 2 ∷ x ≡ 1 ∷ y → ⊥
first_bytes x y e = absurd cc

pub kinds_differ : (entries : Entries) (key bytes : List ℕ) (c d : Certificate) → Opens key bytes c → OpensIssued entries bytes d → ⊥
kinds_differ entries key bytes c d relayed issued =
    first_bytes (body_spelling c ++ tag_of key (sealed_text 2 c)) (body_spelling d ++ tag_of issued.key (sealed_text 1 d)) (sym relayed.text ∙ issued.seal.text)

bodies_of : (kind : ℕ) (x y : List ℕ) → kind ∷ x ≡ kind ∷ y → x ≡ y
bodies_of kind x y e = cc

pub one_body : (kind : ℕ) (key other bytes : List ℕ) (c d : Certificate) → IsSealed kind key bytes c → IsSealed kind other bytes d → c ≡ d
one_body kind key other bytes c d first second =
    let x : List ℕ = tag_of key (sealed_text kind c) in
    let y : List ℕ = tag_of other (sealed_text kind d) in
    let once = body_once c d x y first.numbers second.numbers (bodies_of kind (body_spelling c ++ x) (body_spelling d ++ y) (sym first.text ∙ second.text)) in
    once.0
