-- Journals: those that are refused are refused at one of their bytes or right after the last, and those that are cut at the cut.
use Rattle.std.proofs.Common.{◌≡◌, ℕ, ◌+◌, ◌<◌, List, [], ◌++◌, length, Err, sym, append-nil, refl, arith, length-append}
use Rattle.std.specs.Prelude.{All}
use Rattle.byte_fields.specs.declared.fault.FormatFault.{FormatFault}
use Rattle.byte_fields.specs.declared.fault.FormatFault.TheVariants.{Malformed}
use Rattle.byte_fields.specs.Formats.{IsFaultIn}
use Rattle.byte_fields.specs.Steps.{IsByte}
use Rattle.byte_fields.proofs.FieldLaws.{IsBytes, bytes_are}
use Rattle.byte_fields.proofs.Forms.{Form, lacks, whole_refused, form_followed, form_passing, form_made, form_u8, form_u32, form_u64}
use Rattle.journal_bytes.specs.JournalsReading.{shard_at, rulings_at, object_at, object_by, shards_at, objects_at, head_at, journals_at, journals_in}
use Rattle.journal_bytes.specs.Limits.{Spells}
use Rattle.journal_bytes.specs.Spelled.{ObjectJournal, Journals}
use Rattle.journal_bytes.proofs.EntryForms.{entry_form, ruled_form}
use Rattle.journal_bytes.proofs.Items.{form_items_at}
use Rattle.journal_bytes.proofs.JournalLaws.{journals_front}

shard_form : Form IsBytes shard_at
unfolding shard_at
shard_form = form_items_at form_u64 (λ _. entry_form)

object_form : (before : List ObjectJournal) → Form IsBytes (λ bytes. object_at bytes before)
unfolding object_by rulings_at
object_form before = form_made _ (form_followed (form_passing _ form_u32) (λ _. form_items_at form_u64 (λ _. ruled_form)))

journals_form : Form IsBytes journals_at
unfolding journals_at head_at shards_at objects_at
journals_form =
    form_made _ (form_followed (form_made _ (form_followed (form_passing _ form_u8) (λ _. form_passing _ form_u8)))
    (λ _. form_followed (form_items_at form_u32 (λ _. shard_form))
    (λ _. form_items_at form_u32 object_form)))

pub journals_refused : (bytes : List ℕ) → IsBytes bytes → (f : FormatFault) → journals_in bytes ≡ Err f → IsFaultIn bytes f
unfolding journals_in
journals_refused bytes ok f e = whole_refused journals_form bytes ok (λ (j : Journals). j) f e

pub cut_refused : (j : Journals) (front more : List ℕ) → All IsByte (front ++ more) → Spells j (front ++ more) → 0 < length more → journals_in front ≡ Err (Malformed (length front))
unfolding journals_in
cut_refused j front more all is some =
    let whole = journals_front (front ++ more) [] (front ++ more) j is (sym (append-nil (front ++ more))) in
    let x : Journals × ℕ = (j, 0 + length (front ++ more)) in
    let past : length front < x.1 = omega (arith, some, length-append front more) in
    rw (lacks journals_form front more (bytes_are (front ++ more) all) 0 x (omega arith) whole past) refl
