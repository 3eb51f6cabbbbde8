use Rattle.byte_fields.proofs.FieldLaws.{bytes_are}
use Rattle.prin_term.proofs.Whole.{read_is, refused_is}
use Rattle.prin_term.proofs.laws.terms_are_read.Goals as goal

pub returns-clause-read : goal.returns-clause-read
returns-clause-read c = λ nodes at end bytes t le all. read_is nodes at end bytes t le (bytes_are bytes all)

pub returns-clause-refused : goal.returns-clause-refused
returns-clause-refused c = λ nodes at bytes f le all. refused_is nodes at bytes f le (bytes_are bytes all)
