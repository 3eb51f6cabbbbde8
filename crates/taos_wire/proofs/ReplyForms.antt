-- Replies: one that is refused is refused at one of its bytes or right after the last, and one that is cut is refused at the cut.
use Rattle.std.proofs.Common.{◌≡◌, ℕ, ◌+◌, ◌<◌, eqb, List, [], ◌++◌, length, Err, refl, sym, append-nil, arith, length-append}
use Rattle.std.specs.Prelude.{All}
use Rattle.byte_fields.specs.Formats.{IsFaultIn}
use Rattle.byte_fields.specs.Steps.{IsByte}
use Rattle.byte_fields.specs.declared.fault.FormatFault.{FormatFault as WireFault}
use Rattle.byte_fields.specs.declared.fault.FormatFault.TheVariants as faults
use Rattle.byte_fields.proofs.FieldLaws.{IsBytes, bytes_are}
use Rattle.byte_fields.proofs.Forms.{Form, lacks, whole_refused, form_followed, form_passing, form_made, form_given, form_if, form_u8, form_u32, form_u64, form_bytes, form_counted16}
use Rattle.prin_term.proofs.TermForms.{form_term}
use Rattle.stmt_codec.proofs.Listed.{form_cited}
use Rattle.taos_calculus.proofs.Counted.{form_proof}
use Rattle.taos_wire.specs.Reply.{Reply, Malformed, UnknownChannel, BadSeal, Replayed, ChannelFull, RelayFailed, UnknownObject, NoMemory, NotHeld, NoEntry, SpellsReply}
use Rattle.taos_wire.specs.ReplyReading.{answered_at, place_at, granted_at, digest_at, named_at, link_at, denied_at, fields_at, status_at, reply_at, reply_of}
use Rattle.taos_wire.proofs.ReplyLaws.{Tagged, tagged, reply_in}
use Rattle.taos_wire.proofs.RequestForms.{tag_form}

answered_form : Form IsBytes answered_at
unfolding answered_at
answered_form = form_made _ (form_followed (form_passing _ form_u8) (λ _. form_followed form_u32 (λ _. form_u64)))

place_form : Form IsBytes place_at
unfolding place_at
place_form = form_followed form_u32 (λ _. form_u64)

granted_form : Form IsBytes granted_at
unfolding granted_at
granted_form =
    form_made _ (form_followed (form_passing _ form_u8)
    (λ _. form_followed form_u8
    (λ _. form_followed place_form
    (λ _. form_followed form_proof
    (λ _. form_followed (form_cited _)
    (λ _. form_counted16))))))

digest_form : Form IsBytes digest_at
unfolding digest_at
digest_form = form_followed form_u8 (λ _. form_bytes 32)

named_form : (kind : ℕ) → Form IsBytes (λ bytes. named_at bytes kind)
unfolding named_at
named_form kind =
    form_if (eqb kind 1) (form_made _ digest_form)
    (form_if (eqb kind 2) (form_made _ (form_followed form_u8 (λ _. form_term _)))
    (form_if (eqb kind 3) (form_given NoEntry) (form_made _ digest_form)))

denied_form : Form IsBytes denied_at
unfolding denied_at link_at
denied_form = form_made _ (form_followed place_form (λ _. form_made _ (form_followed (form_passing _ form_u8) (λ kind. named_form kind))))

fields_form : (status : ℕ) → Form IsBytes (λ bytes. fields_at bytes status)
unfolding fields_at
fields_form s =
    form_if (eqb s 0) granted_form
    (form_if (eqb s 1) denied_form
    (form_if (eqb s 2) (form_made Malformed form_u32)
    (form_if (eqb s 3) (form_made UnknownChannel form_u32)
    (form_if (eqb s 4) (form_given BadSeal)
    (form_if (eqb s 5) (form_made Replayed form_u64)
    (form_if (eqb s 6) (form_made _ (form_followed form_u8 (λ _. form_u8)))
    (form_if (eqb s 7) (form_made ChannelFull form_u8)
    (form_if (eqb s 8) (form_made RelayFailed form_u8)
    (form_if (eqb s 9) (form_made UnknownObject form_u32)
    (form_if (eqb s 10) (form_made _ (form_followed (form_passing _ form_u8) (λ _. place_form)))
    (form_if (eqb s 11) (form_given NoMemory)
    (form_if (eqb s 12) (form_made _ (form_followed form_u8 (λ _. form_u32)))
    (form_if (eqb s 13) (form_made NotHeld (form_bytes 32))
    (form_made _ (form_followed form_u8 (λ _. form_u32))))))))))))))))

status_form : Form IsBytes status_at
unfolding status_at
status_form = form_made _ (form_followed (form_passing _ form_u8) (λ status. fields_form status))

reply_form : Form IsBytes reply_at
unfolding reply_at
reply_form = form_made _ (form_followed answered_form (λ _. form_followed status_form (λ _. tag_form)))

pub reply_refused : (bytes : List ℕ) → IsBytes bytes → (f : WireFault) → reply_of bytes ≡ Err f → IsFaultIn bytes f
unfolding reply_of
reply_refused bytes ok f e = whole_refused reply_form bytes ok (λ (x : Tagged). x.0) f e

pub cut_refused : (channel seq : ℕ) (r : Reply) (front more : List ℕ) → All IsByte (front ++ more) → SpellsReply channel seq r (front ++ more) → 0 < length more → reply_of front ≡ Err (faults.Malformed (length front))
unfolding reply_of
cut_refused channel seq r front more all is some =
    let whole = reply_in channel seq r (front ++ more) [] (front ++ more) is (sym (append-nil (front ++ more))) in
    let x : Tagged × ℕ = (tagged channel seq r is.tag, 0 + length (front ++ more)) in
    let past : length front < x.1 = omega (arith, some, length-append front more) in
    rw (lacks reply_form front more (bytes_are (front ++ more) all) 0 x (omega arith) whole past) refl
