use Rattle.std.proofs.Common.{[], rules}
use Rattle.std.proofs.lemmas.List.Sorted.{answers_always}
use Rattle.keyed_seal.proofs.Place.{Finds}
use Rattle.byte_fields.proofs.RowPlaces.{searched}
use Rattle.keyed_seal.proofs.key_table.KeyTable.place_of.Goals as goal

-- the closure gives an entry's number, and the slice is the table's entries
pub returns : goal.returns
returns c =
    let facts = c.binary_search_by_key.ensures in
    let by_number = facts.position (λ entry. entry.0) (answers_always _ _ _ (λ f a r g called. search rules)) in
    let finds = searched (λ e. e.0) (λ e. e.1) (0, []) _ c.self.invariant.sound.ascending c.args.number _ (rw c.deref.ensures.value at facts.bound) (rw c.deref.ensures.value at by_number) in
    let finds : Finds c.args.self.now.entries c.args.number c.binary_search_by_key.result = rw (← c.self.view_is) finds in
    record { found = finds.found; absent = finds.absent; known = finds.known; is_new = finds.is_new }
