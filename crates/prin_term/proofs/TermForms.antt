-- Terms as fields: where they are refused, whole or cut.
use Rattle.std.proofs.Common.{ℕ}
use Rattle.byte_fields.proofs.FieldLaws.{IsBytes}
use Rattle.byte_fields.proofs.Forms.{Form, form_optional}
use Rattle.prin_term.specs.TermFields.{seen_as, term_in, optional_term_in}
use Rattle.prin_term.proofs.TermCuts.{cuts_term}
use Rattle.prin_term.proofs.TermPlaces.{term_in_stays}

pub form_term : (nodes : ℕ) → Form IsBytes (term_in nodes)
form_term nodes = record {
  stays = λ bytes ok. term_in_stays bytes ok nodes;
  cuts = λ front more ok. cuts_term seen_as nodes front more ok;
}

pub form_optional_term : (nodes : ℕ) → Form IsBytes (optional_term_in nodes)
form_optional_term nodes = form_optional (form_term nodes)
