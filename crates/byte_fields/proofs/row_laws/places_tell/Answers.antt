use Rattle.byte_fields.proofs.RowPlaces.{value_of-at, value_of-in_gap}
use Rattle.byte_fields.proofs.row_laws.places_tell.Goals as goal

pub returns : goal.returns
returns c start = λ number value default rows n i.
    (value_of-in_gap number value default rows n i, λ ascending. value_of-at number value default rows ascending n i)
