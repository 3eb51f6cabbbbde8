use Rattle.byte_fields.proofs.RowPlaces.{ascending-insert, value_of-insert_here, value_of-insert_else}
use Rattle.byte_fields.proofs.row_laws.gaps_take.Goals as goal

pub returns : goal.returns
returns c start = λ number value default rows row i gap.
    (ascending-insert number default rows row i gap, value_of-insert_here number value default rows row i gap, value_of-insert_else number value default rows row i gap)
