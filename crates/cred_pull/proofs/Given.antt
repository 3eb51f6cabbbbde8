-- What a payload gives, read from left to right: what is read is given, and what is given is read.
use Rattle.std.proofs.Common.{◌≡◌, ℕ, ◌+◌, ◌-◌, ◌<◌, ◌≤◌, suc, false, cond, ltb, List, [], ◌∷◌, ◌++◌, length, drop, Result, Ok, Err, refl, sym, ap, subst, ◌∙◌, append-nil, arith}
use Rattle.std.specs.Int.{w16}
use Rattle.std.proofs.lemmas.Bool.{ltb-false, le-ltb}
use Rattle.std.proofs.lemmas.List.{drop_all}
use Rattle.byte_fields.specs.Formats.{ended}
use Rattle.byte_fields.specs.Readers.{Reader, items_behind}
use Rattle.byte_fields.specs.Steps.{◌>>=◌, counted_at, mark_at, with_value}
use Rattle.byte_fields.specs.declared.fault.FormatFault.{FormatFault}
use Rattle.byte_fields.specs.declared.fault.FormatFault.TheVariants.{Malformed}
use Rattle.byte_fields.proofs.FieldLaws.{IsBytes, mark_takes, mark_again}
use Rattle.byte_fields.proofs.Loops.{IsSoFar}
use Rattle.byte_fields.proofs.Results.{bind_ok, ok_is, refused_ok}
use Rattle.taos_wire.specs.Request.{certs_bytes}
use Rattle.taos_wire.specs.RequestReading.{cert_at, certs_at}
use Rattle.taos_wire.proofs.Operations.{reads_certs}
use Rattle.cred_pull.specs.Fetching.{Texts}
use Rattle.cred_pull.specs.FetchMessages.{giving, given_at, IsGiving, IsNoGiving}

pub given_takes : (payload : List ℕ) (certs : Texts) → IsBytes payload → given_at payload ≡ Ok certs → IsGiving payload certs
unfolding given_at
given_takes payload certs fits e =
    let a = bind_ok (mark_at (ended payload) (Malformed 0) 9 payload 0) (λ at. certs_at payload at >>= λ x. cond (ltb x.1 (length payload)) (Err (Malformed x.1)) (Ok x.0)) certs e in
    let b = bind_ok (certs_at payload a.0) (λ x. cond (ltb x.1 (length payload)) (Err (Malformed x.1)) (Ok x.0)) certs a.2 in
    let m = mark_takes (ended payload) (Malformed 0) 9 payload 0 a.0 a.1 in
    let here : a.0 ≤ length payload = omega (arith, m.end_is, ap length m.parts) in
    let t = (reads_certs payload).takes fits a.0 b.0 here b.1 in
    let g = refused_ok (ltb b.0.1 (length payload)) (Malformed b.0.1) b.0.0 certs b.2 in
    let past : length payload ≤ b.0.1 = ltb-false _ _ g.0 in
    let nothing : drop b.0.1 payload ≡ [] = drop_all b.0.1 payload past in
    let rest : drop a.0 payload ≡ certs_bytes b.0.0 = t.0.parts ∙ ap (λ (l : List ℕ). certs_bytes b.0.0 ++ l) nothing ∙ append-nil (certs_bytes b.0.0) in
    let whole : payload ≡ giving b.0.0 = m.parts ∙ ap (λ (l : List ℕ). 9 ∷ l) rest in
    subst (λ (l : Texts). IsGiving payload l) g.1 (record { text = whole; within = record { few = t.1.0; each = t.1.1 } })

pub given_again : (payload : List ℕ) (certs : Texts) → IsGiving payload certs → given_at payload ≡ Ok certs
unfolding given_at
given_again payload certs is =
    let m = mark_again {E = FormatFault} (ended payload) (Malformed 0) 9 payload (certs_bytes certs) 0 is.text in
    let c = (reads_certs payload).again 1 certs [] (is.within.few, is.within.each) (ap (drop 1) is.text ∙ sym (append-nil (certs_bytes certs))) in
    let end : ltb (1 + length (certs_bytes certs)) (length payload) ≡ false = le-ltb _ _ (omega (arith, ap length is.text)) in
    rw (m, c, end) refl

-- a payload gives one list of certificates
pub given_once : (payload : List ℕ) (certs others : Texts) → IsGiving payload certs → IsGiving payload others → certs ≡ others
given_once payload certs others is are = ok_is FormatFault certs others (sym (given_again payload certs is) ∙ given_again payload others are)

not_both : {A E : Type 0} (r : Result A E) (a : A) (f : E) → r ≡ Ok a → r ≡ Err f → ⊥
not_both (Ok b) a f p q = cc
not_both (Err g) a f p q = cc

-- what the program read, by a view, is what the payload gives
pub was_given : {A : Type 0} (view : A → Texts) (payload : List ℕ) (r : Result A FormatFault) (a : A) → IsBytes payload → with_value view r ≡ given_at payload → r ≡ Ok a → IsGiving payload (view a)
was_given view payload r a fits read is = given_takes payload (view a) fits (sym read ∙ ap (with_value view) is)

pub was_not_given : {A : Type 0} (view : A → Texts) (payload : List ℕ) (r : Result A FormatFault) (f : FormatFault) → with_value view r ≡ given_at payload → r ≡ Err f → IsNoGiving payload
was_not_given view payload r f read is = λ certs given. not_both (given_at payload) certs f (given_again payload certs given) (sym read ∙ ap (with_value view) is)

-- ---- item after item

-- a certificate, by what is said where the bytes end
pub cert_is : (payload : List ℕ) (at : ℕ) (f : FormatFault) → f ≡ ended payload → cert_at payload at ≡ counted_at f w16 payload at
unfolding cert_at
cert_is payload at f is = ap (λ (g : FormatFault). counted_at g w16 payload at) (sym is)

-- a loop that reads items stops at the first that is refused
pub stops_at : {A E : Type 0} (item : List A → Reader A E) (count i : ℕ) (before : List A) (at : ℕ) (total : Result (List A × ℕ) E) (f : E) → i < count → item before at ≡ Err f
    → IsSoFar item count i before at total → total ≡ Err f
unfolding items_behind
stops_at item count i before at total f lt is so_far =
    let k : count - i ≡ suc (count - (i + 1)) = omega arith in
    let one : items_behind item (count - i) before at ≡ Err f = rw (k, is) refl in
    sym so_far.rest ∙ one
