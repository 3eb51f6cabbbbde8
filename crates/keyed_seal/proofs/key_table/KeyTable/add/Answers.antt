use Rattle.std.proofs.Common.{◌≡◌, ◌<◌, length, ap, subst, arith}
use Rattle.std.specs.List.{insert}
use Rattle.keyed_seal.specs.Keys.{IsKey, IsKeyTable, Keys}
use Rattle.keyed_seal.proofs.Place.{adds_in_gap, sound_in_gap}
use Rattle.keyed_seal.proofs.key_table.KeyTable.add.Goals as goal

-- the entry was put into the gap for its number
inserted : (c : goal.After-unwrap) → c.insert.new.self.items ≡ insert c.args.self.now.entries c.in-Err.place (c.args.number, c.args.key)
inserted c = grind (arith, c.insert.ensures.items, c.unwrap.ensures, c.of.ensures.key, c.self.view_is)

pub returns-clause-added : goal.returns-clause-added
returns-clause-added c = adds_in_gap _ _ _ c.in-Err.place _ c.in-Err.ensures.absent (ap (λ (k : Keys). k.room) c.self.view_is) (inserted c)

pub returns-clause-sound : goal.returns-clause-sound
returns-clause-sound c =
    let sound = subst IsKeyTable c.self.view_is c.self.invariant.sound in
    let room_left : length c.args.self.now.entries < c.args.self.now.room = grind (arith, c.self.view_is, c.len.ensures, c.if-len-self.false, c.self.invariant.sound.within) in
    let whole : IsKey c.args.key = rw c.of.ensures.key at c.of.ensures.whole in
    sound_in_gap _ _ _ c.in-Err.place _ c.in-Err.ensures.absent (ap (λ (k : Keys). k.room) c.self.view_is) (inserted c) sound room_left (c.ranges.number.fits, whole)

-- the room that was taken is never given back
pub invariant_of-self : goal.invariant_of-self
invariant_of-self c = record { sound = returns-clause-sound c; reserved = omega (arith, c.insert.ensures.capacity, c.self.invariant.reserved) }
