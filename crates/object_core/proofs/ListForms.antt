-- Contents and access lists: where they are refused, whole or cut.
use Rattle.byte_fields.proofs.FieldLaws.{IsBytes}
use Rattle.byte_fields.proofs.Forms.{Form, form_followed, form_passing, form_made, form_counted, form_u8, form_u16, form_bytes}
use Rattle.prin_term.proofs.TermForms.{form_term}
use Rattle.object_core.specs.Reading.{content_at, entry_at, list_at}

pub form_content : Form IsBytes content_at
unfolding content_at
form_content = form_made _ (form_followed (form_passing _ form_u16) (λ n. form_bytes n))

pub form_entry : Form IsBytes entry_at
unfolding entry_at
form_entry = form_made _ (form_followed (form_passing _ form_u8) (λ _. form_term _))

pub form_list : Form IsBytes list_at
unfolding list_at
form_list = form_counted _ form_u8 (λ _. form_entry)
