-- Sealed certificates that are cut, and those with bytes behind them.
use Rattle.std.proofs.Common.{◌≡◌, ℕ, ◌+◌, ◌-◌, ◌<◌, ◌≤◌, true, false, List, [], ◌∷◌, ◌++◌, length, drop, Err, refl, sym, ap, ◌∙◌, append_assoc, arith, length-append}
use Rattle.std.specs.Prelude.{nat_lt, ◌==◌}
use Rattle.std.proofs.lemmas.Bool.{lt-ltb, le-ltb}
use Rattle.keyed_seal.specs.Keys.{Entries}
use Rattle.keyed_seal.specs.Tag.{tag_of}
use Rattle.keyed_seal.proofs.Tags.{length-tag_of}
use Rattle.byte_fields.specs.Steps.{byte_at}
use Rattle.byte_fields.proofs.FieldLaws.{behind}
use Rattle.stmt_codec.specs.Certificates.{Certificate, body_spelling, HasBodySpelling, IsWithinLimits}
use Rattle.stmt_codec.proofs.Bodies.{body_again}
use Rattle.stmt_codec.proofs.Prefixes.{body_cut}
use Rattle.stmt_codec.proofs.Cuts.{Split, whole, cut, splits}
use Rattle.sealed_cert.specs.declared.fault.SealFault.{SealFault}
use Rattle.sealed_cert.specs.declared.fault.SealFault.TheVariants.{Malformed}
use Rattle.sealed_cert.specs.Seals.{sealed_text, sealed, IsSealed}
use Rattle.sealed_cert.specs.Refusals.{kind_at, ends_in_tag, body_and_tag_at, body_of_kind, opened, opened_issued}
use Rattle.sealed_cert.proofs.Opened.{kind_again}
use Rattle.sealed_cert.proofs.Apart.{relayed_refused, issued_refused}

pub tag_short : (bytes : List ℕ) (at : ℕ) → length bytes - at < 32 → ends_in_tag bytes at ≡ Err (Malformed (length bytes))
unfolding ends_in_tag
tag_short bytes at less = let test : nat_lt (length bytes - at) 32 ≡ true = lt-ltb _ _ less in rw test refl

pub tag_long : (bytes : List ℕ) (at : ℕ) → at + 32 < length bytes → ends_in_tag bytes at ≡ Err (Malformed (at + 32))
unfolding ends_in_tag
tag_long bytes at more =
    let enough : nat_lt (length bytes - at) 32 ≡ false = le-ltb _ _ (omega arith) in
    let test : nat_lt (at + 32) (length bytes) ≡ true = lt-ltb _ _ more in
    rw (enough, test) refl

pub some : (b : ℕ) (l bytes : List ℕ) → bytes ≡ b ∷ l → 1 ≤ length bytes
some b l bytes e = omega (arith, ap length e)

pub none_carried : (kind other : ℕ) → body_of_kind kind other [] ≡ Err (Malformed 0)
unfolding body_of_kind body_and_tag_at kind_at byte_at
none_carried kind other = refl

-- a whole body, and something else than a tag behind it
pub tail_refused : (kind other : ℕ) (bytes left : List ℕ) (c : Certificate) (f : SealFault) → (kind == other) ≡ false → HasBodySpelling c → IsWithinLimits c → bytes ≡ kind ∷ (body_spelling c ++ left)
    → ends_in_tag bytes (1 + length (body_spelling c)) ≡ Err f → body_of_kind kind other bytes ≡ Err f
unfolding body_of_kind body_and_tag_at
tail_refused kind other bytes left c f differs numbers limits e tail =
    let first = kind_again kind other bytes (body_spelling c ++ left) differs e in
    let start : drop 1 bytes ≡ body_spelling c ++ left = behind bytes (kind ∷ []) (body_spelling c ++ left) 0 e in
    let body = body_again bytes left 1 c (some kind (body_spelling c ++ left) bytes e) numbers limits start in
    rw (first, body, tail) refl

-- a body that ends too early
body_refused : (kind other : ℕ) (bytes front more : List ℕ) (c : Certificate) → (kind == other) ≡ false → HasBodySpelling c → IsWithinLimits c → bytes ≡ kind ∷ front → body_spelling c ≡ front ++ more → 0 < length more
    → body_of_kind kind other bytes ≡ Err (Malformed (length bytes))
unfolding body_of_kind body_and_tag_at
body_refused kind other bytes front more c differs numbers limits e text rest =
    let first = kind_again kind other bytes front differs e in
    let start : drop 1 bytes ≡ front = behind bytes (kind ∷ []) front 0 e in
    let body = body_cut bytes more 1 c (some kind front bytes e) numbers limits (text ∙ ap (λ (l : List ℕ). l ++ more) (sym start)) rest in
    rw (first, body) refl

pub carried_cut : (kind other : ℕ) (key bytes more : List ℕ) (c : Certificate) → (kind == other) ≡ false → HasBodySpelling c → IsWithinLimits c → sealed kind key c ≡ bytes ++ more → 0 < length more → body_of_kind kind other bytes ≡ Err (Malformed (length bytes))
carried_cut kind other key [] more c differs numbers limits e rest = none_carried kind other
carried_cut kind other key (b ∷ front) more c differs numbers limits e rest =
    let tag : List ℕ = tag_of key (sealed_text kind c) in
    let apart = heads kind b (body_spelling c ++ tag) (front ++ more) e in
    by tag (length-tag_of key (sealed_text kind c)) (ap (λ (k : ℕ). k ∷ front) (sym apart.0)) (splits front more (body_spelling c) tag (sym apart.1))
  where
    heads : (k b : ℕ) (x y : List ℕ) → k ∷ x ≡ b ∷ y → (k ≡ b) × (x ≡ y)
    heads k b x y e = (cc, cc)

    shorter : (b : ℕ) (front text left more tag : List ℕ) → length tag ≡ 32 → front ≡ text ++ left → left ++ more ≡ tag → 0 < length more → length (b ∷ front) - (1 + length text) < 32
    shorter b front text left more tag len f t rest = omega (arith, len, ap length f, ap length t, length-append text left, length-append left more)

    by : (tag : List ℕ) → length tag ≡ 32 → b ∷ front ≡ kind ∷ front → Split front more (body_spelling c) tag → body_of_kind kind other (b ∷ front) ≡ Err (Malformed (length (b ∷ front)))
    by tag len is (whole left f t) =
        tail_refused kind other (b ∷ front) left c (Malformed (length (b ∷ front))) differs numbers limits (is ∙ ap (λ (l : List ℕ). kind ∷ l) f)
        (tag_short (b ∷ front) (1 + length (body_spelling c)) (shorter b front (body_spelling c) left more tag len f t rest))
    by tag len is (cut m t left) = body_refused kind other (b ∷ front) front m c differs numbers limits is t left

pub carried_longer : (kind other : ℕ) (key bytes more : List ℕ) (c : Certificate) → (kind == other) ≡ false → IsSealed kind key bytes c → 0 < length more → body_of_kind kind other (bytes ++ more) ≡ Err (Malformed (length bytes))
carried_longer kind other key bytes more c differs is rest =
    let tag : List ℕ = tag_of key (sealed_text kind c) in
    let text : bytes ++ more ≡ kind ∷ (body_spelling c ++ (tag ++ more)) = ap (λ (l : List ℕ). l ++ more) is.text ∙ append_assoc (sealed_text kind c) tag more in
    let sum : length bytes ≡ (1 + length (body_spelling c)) + 32 = lengths kind (body_spelling c) tag (length-tag_of key (sealed_text kind c)) bytes is.text in
    let long = tag_long (bytes ++ more) (1 + length (body_spelling c)) (past (1 + length (body_spelling c)) sum) in
    tail_refused kind other (bytes ++ more) (tag ++ more) c (Malformed (length bytes)) differs is.numbers is.limits text (long ∙ ap (λ (n : ℕ). Err (Malformed n)) (sym sum))
  where
    lengths : (k : ℕ) (text tag : List ℕ) → length tag ≡ 32 → (bytes : List ℕ) → bytes ≡ (k ∷ text) ++ tag → length bytes ≡ (1 + length text) + 32
    lengths k text tag len bytes e = omega (arith, len, ap length e, length-append (k ∷ text) tag)

    past : (n : ℕ) → length bytes ≡ n + 32 → n + 32 < length (bytes ++ more)
    past n e = omega (arith, e, rest, length-append bytes more)

pub relayed_cut : (key other bytes more : List ℕ) (c : Certificate) → HasBodySpelling c → IsWithinLimits c → sealed 2 key c ≡ bytes ++ more → 0 < length more → opened other bytes ≡ Err (Malformed (length bytes))
relayed_cut key other bytes more c numbers limits e rest = relayed_refused other bytes _ (carried_cut 2 1 key bytes more c refl numbers limits e rest)

pub issued_cut : (entries : Entries) (key bytes more : List ℕ) (c : Certificate) → HasBodySpelling c → IsWithinLimits c → sealed 1 key c ≡ bytes ++ more → 0 < length more → opened_issued entries bytes ≡ Err (Malformed (length bytes))
issued_cut entries key bytes more c numbers limits e rest = issued_refused entries bytes _ (carried_cut 1 2 key bytes more c refl numbers limits e rest)

pub relayed_longer : (key other bytes more : List ℕ) (c : Certificate) → IsSealed 2 key bytes c → 0 < length more → opened other (bytes ++ more) ≡ Err (Malformed (length bytes))
relayed_longer key other bytes more c is rest = relayed_refused other (bytes ++ more) _ (carried_longer 2 1 key bytes more c refl is rest)

pub issued_longer : (entries : Entries) (key bytes more : List ℕ) (c : Certificate) → IsSealed 1 key bytes c → 0 < length more → opened_issued entries (bytes ++ more) ≡ Err (Malformed (length bytes))
issued_longer entries key bytes more c is rest = issued_refused entries (bytes ++ more) _ (carried_longer 1 2 key bytes more c refl is rest)
