use Rattle.std.proofs.Common.{◌≡◌, ◌++◌, ◌∷◌, ◌+◌, [], suc, length, List, ℕ, append_assoc, sym, ap, subst, ◌∙◌, arith}
use Rattle.std.specs.List.Sorted.{IsStrictlySortedBy}
use Rattle.std.specs.Map.{keys_of}
use Rattle.std.specs.Ordering.{nat_cmp}
use Rattle.std.proofs.lemmas.List.{length-append}
use Rattle.std.proofs.lemmas.Result.{IfOk-at_ok}
use Rattle.keyed_seal.specs.Keys.{AddsKey, Entries, Keys}
use Rattle.prin_text.proofs.Gathered.{next_key}
use Rattle.prin_text.proofs.KeyLookups.{adds_key}
use Rattle.prin_text.proofs.lines.key_draft.KeyDraft.table.Goals as goal

-- the table has none of this number, and room
pub unwrap-requires : goal.unwrap-requires
unwrap-requires c =
    let so = c.loop-number.invariant in
    let number = c.in-Some.number.now in
    let key = c.in-Some.key.now in
    let rest = c.next.new.self in
    let split : so.before ++ (number, key) ∷ rest ≡ c.self.inside.keys.entries = ap (λ (l : Entries). so.before ++ l) (sym c.in-Some.ensures.steps) ∙ so.split ∙ ap (λ (k : Keys). k.entries) (sym c.self.view_is) in
    let sorted = subst (λ (l : Entries). IsStrictlySortedBy nat_cmp (keys_of l)) (sym split) c.into_iter-number-iterator.ensures.into_iter_gives.5 in
    let longer : length so.before + suc (length rest) ≡ length c.self.inside.keys.entries = sym (length-append so.before ((number, key) ∷ rest)) ∙ ap (λ (l : Entries). length l) split in
    c.add.ensures.succeeds.1 (record {
      is_new = next_key c.loop-number.table so.before rest number key so.held sorted;
      room_left = omega (arith, so.held.count, longer, c.self.invariant, so.room, ap (λ (k : Keys). k.room) c.self.view_is);
    })

pub loop-number-preserved : goal.loop-number-preserved
loop-number-preserved c =
    let so = c.loop-number.invariant in
    let number = c.in-Some.number.now in
    let key = c.in-Some.key.now in
    let rest = c.next.new.self in
    let split : so.before ++ (number, key) ∷ rest ≡ c.self.inside.keys.entries = ap (λ (l : Entries). so.before ++ l) (sym c.in-Some.ensures.steps) ∙ so.split ∙ ap (λ (k : Keys). k.entries) (sym c.self.view_is) in
    let sorted = subst (λ (l : Entries). IsStrictlySortedBy nat_cmp (keys_of l)) (sym split) c.into_iter-number-iterator.ensures.into_iter_gives.5 in
    let is_new = next_key c.loop-number.table so.before rest number key so.held sorted in
    let adds : AddsKey c.loop-number.table c.add.new.self number key = IfOk-at_ok (λ _. AddsKey c.loop-number.table c.add.new.self number key) c.unwrap.ensures c.add.ensures.added in
    record {
      before = so.before ++ (number, key) ∷ [];
      split = append_assoc so.before ((number, key) ∷ []) rest ∙ split ∙ ap (λ (k : Keys). k.entries) c.self.view_is;
      held = adds_key c.loop-number.table c.add.new.self so.before number key so.held is_new adds;
      room = adds.room ∙ so.room;
    }
