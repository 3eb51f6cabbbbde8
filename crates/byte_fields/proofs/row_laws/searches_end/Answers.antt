use Rattle.byte_fields.proofs.RowPlaces.{search_ends}
use Rattle.byte_fields.proofs.row_laws.searches_end.Goals as goal

pub returns : goal.returns
returns c start = λ number default rows n r never_falls. search_ends number default rows never_falls n r
