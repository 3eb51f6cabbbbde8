-- What is read as a request is spelled so, and what is spelled so is read.
use Rattle.std.proofs.Common.{◌≡◌, ℕ, ◌+◌, ◌<◌, ◌≤◌, true, false, cond, ltb, List, [], ◌∷◌, ◌++◌, length, drop, Result, Ok, Err, refl, sym, ap, subst, ◌∙◌, append_assoc, append-nil, arith, length-append}
use Rattle.std.specs.Prelude.{IfOk, MatchResult}
use Rattle.std.specs.Int.{w32, w64, to_be_bytes}
use Rattle.std.proofs.lemmas.Bool.{ltb-false, le-ltb, lt-ltb}
use Rattle.std.proofs.lemmas.List.{drop_all}
use Rattle.keyed_seal.specs.Tag.{tag_of}
use Rattle.keyed_seal.proofs.Tags.{length-tag_of, bytes-tag_of}
use Rattle.prin_term.specs.declared.limits.TheConstants.{QUOTED_NODES}
use Rattle.prin_term.specs.Principal.{spelling}
use Rattle.byte_fields.specs.Steps.{Gives, optional}
use Rattle.byte_fields.proofs.FieldLaws.{IsBytes}
use Rattle.prin_term.proofs.TermReaders.{reads_optional_term}
use Rattle.byte_fields.proofs.ReaderLaws.{Reads, reads_followed, reads_made}
use Rattle.byte_fields.proofs.Results.{bind_ok, ok_is, refused_ok, gives_found, gives_only}
use Rattle.byte_fields.specs.declared.fault.FormatFault.{FormatFault as WireFault}
use Rattle.byte_fields.specs.declared.fault.FormatFault.TheVariants.{Malformed, NoMemory}
use Rattle.taos_wire.specs.declared.request.Request as code
use Rattle.object_core.specs.Spelling.{kind_of, op_fields}
use Rattle.taos_wire.specs.Request.{Request, request_text, FitsRequest, certs_bytes, IsTag, Spells, sealed}
use Rattle.taos_wire.specs.RequestReading.{request_at, request_of}
use Rattle.taos_wire.specs.View.{request}
use Rattle.taos_wire.proofs.Operations.{reads_origin, reads_asked, reads_certs, reads_tag}

-- its bytes, from the left and in fields
in_fields : (channel seq quoted object fields certs tag : List ℕ)
    → (channel ++ seq) ++ (quoted ++ ((object ++ fields) ++ (certs ++ tag))) ≡ ((((channel ++ seq) ++ quoted) ++ (object ++ fields)) ++ certs) ++ tag
in_fields channel seq quoted object fields certs tag = simp append_assoc

text_in_fields : (r : Request) (tag : List ℕ)
    → (3 ∷ (to_be_bytes w32 r.channel ++ to_be_bytes w64 r.seq)) ++ (optional spelling r.quoted ++ ((kind_of r.op ∷ (to_be_bytes w32 r.object ++ op_fields r.op)) ++ (certs_bytes r.certs ++ tag))) ≡ request_text r ++ tag
text_in_fields r tag =
    in_fields (3 ∷ to_be_bytes w32 r.channel) (to_be_bytes w64 r.seq) (optional spelling r.quoted) (kind_of r.op ∷ to_be_bytes w32 r.object) (op_fields r.op) (certs_bytes r.certs) tag

-- a request with its tag
abbrev pub Tagged : Type 0
Tagged = Request × List ℕ

abbrev pub tagged_bytes : Tagged → List ℕ
tagged_bytes x = request_text x.0 ++ x.1

abbrev pub FitsTagged : Tagged → Type 0
FitsTagged x = FitsRequest x.0 × IsTag x.1

pub reads_request : (bytes : List ℕ) → Reads bytes (request_at bytes) tagged_bytes FitsTagged
unfolding request_at
reads_request bytes =
    reads_made (λ x. (record { channel = x.0.0; seq = x.0.1; quoted = x.1.0; object = x.1.1.0.0; op = x.1.1.0.1; certs = x.1.1.1.0 }, x.1.1.1.1))
    (λ (x : Tagged). ((x.0.channel, x.0.seq), (x.0.quoted, ((x.0.object, x.0.op), (x.0.certs, x.1)))))
    tagged_bytes FitsTagged
    (reads_followed (reads_origin bytes) (λ _ _. reads_followed (reads_optional_term bytes QUOTED_NODES) (λ _ _. reads_followed (reads_asked bytes) (λ _ _. reads_followed (reads_certs bytes) (λ _ _. reads_tag bytes)))))
    (λ x is. (
      (
        record { channel = is.0.0; seq = is.0.1; quoted = is.1.0; object = is.1.1.0.0; op = is.1.1.0.1; few_certs = is.1.1.1.0.0; certs = is.1.1.1.0.1 },
        is.1.1.1.1,
      ),
      text_in_fields (record { channel = x.0.0; seq = x.0.1; quoted = x.1.0; object = x.1.1.0.0; op = x.1.1.0.1; certs = x.1.1.1.0 }) x.1.1.1.1,
    ))
    (λ x is. (
      ((is.0.channel, is.0.seq), (is.0.quoted, ((is.0.object, is.0.op), ((is.0.few_certs, is.0.certs), is.1)))),
      sym (text_in_fields x.0 x.1),
      refl,
    ))

-- what is read is spelled
pub request_takes : (bytes : List ℕ) → IsBytes bytes → (r : Request) → request_of bytes ≡ Ok r → Spells r bytes
unfolding request_of
request_takes bytes ok r e =
    let x = bind_ok (request_at bytes 0) (λ x. cond (ltb x.1 (length bytes)) (Err (Malformed x.1)) (Ok x.0.0)) r e in
    let t = (reads_request bytes).takes ok 0 x.0 (omega arith) x.1 in
    let g = refused_ok (ltb x.0.1 (length bytes)) (Malformed x.0.1) x.0.0.0 r x.2 in
    let past : length bytes ≤ x.0.1 = ltb-false _ _ g.0 in
    let nothing : drop x.0.1 bytes ≡ [] = drop_all x.0.1 bytes past in
    let whole : bytes ≡ tagged_bytes x.0.0 = t.0.parts ∙ ap (λ (l : List ℕ). tagged_bytes x.0.0 ++ l) nothing ∙ append-nil (tagged_bytes x.0.0) in
    subst (λ (r : Request). Spells r bytes) g.1 (record { limits = t.1.0; tag = x.0.0.1; is_tag = t.1.1; text = whole })

-- a spelling is read up to its end, whatever follows
pub request_in : (bytes rest : List ℕ) (r : Request) (tag : List ℕ) → FitsRequest r → IsTag tag → bytes ≡ (request_text r ++ tag) ++ rest → request_at bytes 0 ≡ Ok ((r, tag), 0 + length (request_text r ++ tag))
request_in bytes rest r tag fits is_tag e = (reads_request bytes).again 0 (r, tag) rest (fits, is_tag) e

-- what is spelled is read
pub request_again : (bytes : List ℕ) (r : Request) → Spells r bytes → request_of bytes ≡ Ok r
unfolding request_of
request_again bytes r is =
    let read = request_in bytes [] r is.tag is.limits is.is_tag (is.text ∙ sym (append-nil (request_text r ++ is.tag))) in
    let len : length bytes ≡ length (request_text r ++ is.tag) = ap length is.text in
    let end : ltb (0 + length (request_text r ++ is.tag)) (length bytes) ≡ false = le-ltb _ _ (omega (arith, len)) in
    rw (read, end) refl

-- bytes spell one request at most
pub spelled_once : (q r : Request) (bytes : List ℕ) → Spells q bytes → Spells r bytes → q ≡ r
spelled_once q r bytes is_q is_r = ok_is WireFault q r (sym (request_again bytes q is_q) ∙ request_again bytes r is_r)

-- a spelling does not begin another
pub none_longer : (q r : Request) (front more : List ℕ) → Spells q front → Spells r (front ++ more) → more ≡ []
none_longer q r front more is_q is_r =
    let short = request_in (front ++ more) more q is_q.tag is_q.limits is_q.is_tag (ap (λ (l : List ℕ). l ++ more) is_q.text) in
    let long = request_in (front ++ more) [] r is_r.tag is_r.limits is_r.is_tag (is_r.text ∙ sym (append-nil (request_text r ++ is_r.tag))) in
    let one : Tagged × ℕ = ((q, is_q.tag), 0 + length (request_text q ++ is_q.tag)) in
    let other : Tagged × ℕ = ((r, is_r.tag), 0 + length (request_text r ++ is_r.tag)) in
    let ends : 0 + length (request_text q ++ is_q.tag) ≡ 0 + length (request_text r ++ is_r.tag) = ap (λ (x : Tagged × ℕ). x.1) (ok_is WireFault one other (sym short ∙ long)) in
    let front_len : length front ≡ length (request_text q ++ is_q.tag) = ap length is_q.text in
    let whole_len : length (front ++ more) ≡ length (request_text r ++ is_r.tag) = ap length is_r.text in
    none_of more (omega (arith, ends, front_len, whole_len, length-append front more))
  where
    none_of : (more : List ℕ) → length more ≤ 0 → more ≡ []
    none_of [] le = refl
    none_of (b ∷ more) le = absurd (omega (arith, le))

-- bytes behind a spelling are refused at the first of them
pub longer_refused : (r : Request) (bytes more : List ℕ) → Spells r bytes → 0 < length more → request_of (bytes ++ more) ≡ Err (Malformed (length bytes))
unfolding request_of
longer_refused r bytes more is some =
    let text = request_text r ++ is.tag in
    let read = request_in (bytes ++ more) more r is.tag is.limits is.is_tag (ap (λ (l : List ℕ). l ++ more) is.text) in
    let len : length bytes ≡ length text = ap length is.text in
    let end : ltb (0 + length text) (length (bytes ++ more)) ≡ true = lt-ltb _ _ (omega (arith, len, some, length-append bytes more)) in
    let place : 0 + length text ≡ length bytes = omega (arith, len) in
    rw (read, end, place) refl

-- a request under the tag of a key is spelled
pub sealed_spells : (key : List ℕ) (r : Request) → FitsRequest r → Spells r (sealed key r)
sealed_spells key r fits = record { limits = fits; tag = tag_of key (request_text r); is_tag = (length-tag_of key (request_text r), bytes-tag_of key (request_text r)); text = refl }

-- ---- what the whole reader answers

pub is_found : (bytes : List ℕ) (r : Result code.Request WireFault) → IsBytes bytes → Gives NoMemory request r (request_of bytes) → IfOk r (λ x. Spells (request x) bytes)
is_found bytes r fits given = gives_found (λ (q : Request). Spells q bytes) NoMemory request r (request_of bytes) given (λ q e. request_takes bytes fits q e)

pub is_only : (bytes : List ℕ) (r : Result code.Request WireFault) → Gives NoMemory request r (request_of bytes) → (q : Request) → Spells q bytes → MatchResult r (λ x. request x ≡ q) (λ f. f ≡ NoMemory)
is_only bytes r given q is = gives_only NoMemory request r (request_of bytes) q given (request_again bytes q is)
