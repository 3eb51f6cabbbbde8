-- Entries: one that is refused is refused at one of its bytes or right after the last, and one that is cut is refused at the cut.
use Rattle.std.proofs.Common.{ℕ, eqb, List}
use Rattle.byte_fields.specs.Formats.{FormatReader}
use Rattle.byte_fields.proofs.FieldLaws.{IsBytes}
use Rattle.byte_fields.proofs.Forms.{Form, form_followed, form_passing, form_made, form_given, form_if, form_u8, form_u32, form_u64, form_bytes}
use Rattle.prin_term.proofs.TermForms.{form_term}
use Rattle.stmt_codec.proofs.Listed.{form_cited}
use Rattle.taos_calculus.proofs.Counted.{form_proof}
use Rattle.object_core.specs.declared.ruling.Ruling.TheVariants.{Granted, Denied}
use Rattle.object_core.proofs.ListForms.{form_list}
use Rattle.object_core.proofs.Operations.{form_fields}
use Rattle.agent_core.specs.declared.told.Told.{Told}
use Rattle.journal_bytes.specs.Reading.{right_at, ask_at, keep_at, event_at, answer_at, asked_at, kept_at, held_at, left_at, told_at, entry_at, ruled_by, ruling_at, op_at, ruled_at}
use Rattle.journal_bytes.specs.Spelled.{Asks, Holds, Discards, Forgets, Expires, Withdraws}

-- ---- events

ask_form : Form IsBytes ask_at
unfolding ask_at right_at
ask_form =
    form_made _ (form_followed form_u32
    (λ _. form_followed form_u64
    (λ _. form_followed form_u64
    (λ _. form_followed (form_term _)
    (λ _. form_followed form_list
    (λ _. form_followed (form_passing _ form_u8)
    (λ _. form_cited _)))))))

keep_form : Form IsBytes keep_at
unfolding keep_at
keep_form =
    form_made _ (form_followed form_u64
    (λ _. form_followed form_u8
    (λ _. form_followed form_proof
    (λ _. form_cited _))))

event_form : (kind : ℕ) → Form IsBytes (λ bytes. event_at bytes kind)
unfolding event_at
event_form kind =
    form_if (eqb kind 1) (form_made Asks ask_form)
    (form_if (eqb kind 2) keep_form
    (form_if (eqb kind 3) (form_made Holds (form_cited _))
    (form_if (eqb kind 4) (form_made Discards (form_bytes 32))
    (form_if (eqb kind 5) (form_made Forgets form_u32)
    (form_if (eqb kind 6) (form_made Expires form_u64)
    (form_made Withdraws form_u32))))))

-- ---- what was told

asked_form : (mark : ℕ) → Form IsBytes (λ bytes. asked_at bytes mark)
unfolding asked_at
asked_form mark =
    form_if (eqb mark 0) (form_given Told.Miss)
    (form_if (eqb mark 1) (form_made Told.Hit form_u8)
    (form_if (eqb mark 2) (form_made Told.Replayed form_u64)
    (form_made Told.Full form_u8)))

kept_form : (mark : ℕ) → Form IsBytes (λ bytes. kept_at bytes mark)
unfolding kept_at
kept_form mark =
    form_if (eqb mark 0) (form_given Told.Kept)
    (form_if (eqb mark 1) (form_made _ (form_bytes 32))
    (form_made _ (form_followed form_u64 (λ _. form_u64))))

held_form : (mark : ℕ) → Form IsBytes (λ bytes. held_at bytes mark)
unfolding held_at
held_form mark = form_if (eqb mark 0) (form_made Told.Held form_u8) (form_made Told.CommonsFull form_u8)

left_form : (mark : ℕ) → Form IsBytes (λ bytes. left_at bytes mark)
unfolding left_at
left_form mark = form_if (eqb mark 0) (form_made Told.Removed form_u32) (form_made Told.WithdrawnFull form_u8)

answer_form : (last : ℕ) (fields : List ℕ → ℕ → FormatReader Told) → ((mark : ℕ) → Form IsBytes (λ bytes. fields bytes mark)) → Form IsBytes (λ bytes. answer_at last (fields bytes) bytes)
unfolding answer_at
answer_form last fields one = form_made _ (form_followed (form_passing _ form_u8) (λ mark. one mark))

told_form : (kind : ℕ) → Form IsBytes (λ bytes. told_at bytes kind)
unfolding told_at
told_form kind =
    form_if (eqb kind 1) (answer_form 3 asked_at asked_form)
    (form_if (eqb kind 2) (answer_form 2 kept_at kept_form)
    (form_if (eqb kind 3) (answer_form 1 held_at held_form)
    (form_if (eqb kind 7) (answer_form 1 left_at left_form)
    (form_made Told.Removed form_u32))))

-- ---- entries

pub entry_form : Form IsBytes entry_at
unfolding entry_at
entry_form = form_made _ (form_followed (form_passing _ form_u8) (λ kind. form_followed (event_form kind) (λ _. told_form kind)))

ruled_by_form : (mark : ℕ) → Form IsBytes (λ bytes. ruled_by bytes mark)
unfolding ruled_by
ruled_by_form mark = form_if (eqb mark 0) (form_given Denied) (form_made Granted form_u8)

pub ruled_form : Form IsBytes ruled_at
unfolding ruled_at op_at ruling_at
ruled_form =
    form_made _ (form_followed form_u32
    (λ _. form_followed form_u64
    (λ _. form_followed (form_made _ (form_followed (form_passing _ form_u8) (λ kind. form_fields kind)))
    (λ _. form_made _ (form_followed (form_passing _ form_u8) (λ mark. ruled_by_form mark))))))
