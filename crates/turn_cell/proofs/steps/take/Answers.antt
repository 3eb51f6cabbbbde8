use Rattle.std.proofs.Common.{rules, ap, Some}
use Rattle.std.specs.Option.{is_some}
use Rattle.turn_cell.proofs.Told.{slot_rest, slot_found, taken_now}
use Rattle.turn_cell.proofs.steps.take.Goals as goal

-- the seat holds the slot, and nothing behind it
pub exchange-requires : goal.exchange-requires
exchange-requires g c = (search rules, (Some c.requires.slot.0, slot_rest _ _ c.requires.slot.1))

-- what was found is the value of the slot
pub unwrap-requires : goal.unwrap-requires
unwrap-requires g c = ap is_some (slot_found _ _ _ c.requires.slot.1 c.exchange.ensures.2)

pub returns : goal.returns
returns g c = record { taken = (search rules, taken_now c.args.seat.now.me c.exchange.new.seat.me c.requires.slot.0 c.exchange.result c.unwrap.result c.requires.slot.1 c.exchange.ensures.2 c.exchange.ensures.3 c.unwrap.ensures) }
