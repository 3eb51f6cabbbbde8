-- Requests: one that is refused is refused at one of its bytes or right after the last, and one that is cut is refused at the cut.
use Rattle.std.proofs.Common.{◌≡◌, ℕ, ◌+◌, ◌<◌, List, [], ◌++◌, length, Err, refl, sym, ap, ◌∙◌, append-nil, arith, length-append}
use Rattle.std.specs.Prelude.{All}
use Rattle.byte_fields.specs.Formats.{IsFaultIn}
use Rattle.byte_fields.specs.Steps.{IsByte}
use Rattle.byte_fields.specs.declared.fault.FormatFault.{FormatFault as WireFault}
use Rattle.byte_fields.specs.declared.fault.FormatFault.TheVariants.{Malformed}
use Rattle.byte_fields.proofs.FieldLaws.{IsBytes, bytes_are}
use Rattle.byte_fields.proofs.Forms.{Form, lacks, whole_refused, form_followed, form_passing, form_made, form_counted, form_u8, form_u32, form_u64, form_bytes, form_counted16}
use Rattle.prin_term.proofs.TermForms.{form_optional_term}
use Rattle.object_core.proofs.Operations.{form_fields}
use Rattle.taos_wire.specs.Request.{Request, request_text, Spells}
use Rattle.taos_wire.specs.RequestReading.{origin_at, asked_at, cert_at, certs_at, tag_at, request_at, request_of}
use Rattle.taos_wire.proofs.RequestLaws.{Tagged, request_in}

origin_form : Form IsBytes origin_at
unfolding origin_at
origin_form = form_made _ (form_followed (form_passing _ form_u8) (λ _. form_followed form_u32 (λ _. form_u64)))

asked_form : Form IsBytes asked_at
unfolding asked_at
asked_form = form_made _ (form_followed (form_passing _ form_u8) (λ kind. form_followed form_u32 (λ _. form_fields kind)))

certs_form : Form IsBytes certs_at
unfolding certs_at cert_at
certs_form = form_counted _ form_u8 (λ _. form_counted16)

pub tag_form : Form IsBytes tag_at
unfolding tag_at
tag_form = form_bytes _

request_form : Form IsBytes request_at
unfolding request_at
request_form = form_made _ (form_followed origin_form (λ _. form_followed (form_optional_term _) (λ _. form_followed asked_form (λ _. form_followed certs_form (λ _. tag_form)))))

pub request_refused : (bytes : List ℕ) → IsBytes bytes → (f : WireFault) → request_of bytes ≡ Err f → IsFaultIn bytes f
unfolding request_of
request_refused bytes ok f e = whole_refused request_form bytes ok (λ (x : Tagged). x.0) f e

pub cut_refused : (r : Request) (front more : List ℕ) → All IsByte (front ++ more) → Spells r (front ++ more) → 0 < length more → request_of front ≡ Err (Malformed (length front))
unfolding request_of
cut_refused r front more all is some =
    let whole = request_in (front ++ more) [] r is.tag is.limits is.is_tag (is.text ∙ sym (append-nil (request_text r ++ is.tag))) in
    let x : Tagged × ℕ = ((r, is.tag), 0 + length (request_text r ++ is.tag)) in
    let past : length front < x.1 = omega (arith, ap length is.text, some, length-append front more) in
    rw (lacks request_form front more (bytes_are (front ++ more) all) 0 x (omega arith) whole past) refl
