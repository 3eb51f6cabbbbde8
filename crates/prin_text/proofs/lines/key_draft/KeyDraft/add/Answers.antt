use Rattle.std.proofs.Common.{◌≡◌, ◌+◌, ℕ, List, Option, None, cond, sym, ap, subst, ◌∙◌}
use Rattle.std.specs.BTreeMap.{btree_map_len}
use Rattle.std.specs.Option.{is_some}
use Rattle.keyed_seal.specs.Keys.{AddsKey, Keys, key_of}
use Rattle.prin_text.proofs.Gathered.{gathers_key, key_of-get}
use Rattle.prin_text.proofs.lines.key_draft.KeyDraft.add.Goals as goal

-- the map had no key at the number
pub returns-clause-added : goal.returns-clause-added
returns-clause-added c =
    let old = c.self.inside.keys in
    let new = c.insert.new.self in
    let none : c.in_ok-insert.field-0 ≡ None = c.in_ok-insert.ensures.old ∙ sym (key_of-get old.entries c.args.number) ∙ ap (λ (k : Keys). key_of k.entries c.args.number) c.self.view_is ∙ c.requires.is_new in
    let one_more : btree_map_len new ≡ btree_map_len old + 1 = c.in_ok-insert.ensures.len ∙ ap (λ (o : Option (List ℕ)). btree_map_len old + cond (is_some o) 0 1) none in
    subst (λ (k : Keys). AddsKey k (record { room = c.self.inside.room; entries = new.entries }) c.args.number c.args.key) c.self.view_is
    (gathers_key c.self.inside.room old new c.args.number c.args.key c.in_ok-insert.ensures.updates one_more)

pub returns-clause-room : goal.returns-clause-room
returns-clause-room c = ap (λ (k : Keys). k.room) c.self.view_is

pub returns-in_err-insert-clause-room : goal.returns-in_err-insert-clause-room
returns-in_err-insert-clause-room c = ap (λ (k : Keys). k.room) c.self.view_is
