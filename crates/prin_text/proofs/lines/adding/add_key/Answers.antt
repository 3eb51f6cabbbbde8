use Rattle.std.proofs.Common.{◌≡◌, ◌<◌, ◌≤◌, length, false, sym, ◌∙◌, arith}
use Rattle.std.specs.Option.{is_some}
use Rattle.std.proofs.lemmas.Bool.Decides.{nat_tests}
use Rattle.keyed_seal.specs.Keys.{key_of}
use Rattle.prin_text.proofs.Added.{key_fits, key_full, key_twice, none_from}
use Rattle.prin_text.proofs.KeyLookups.{adds_key}
use Rattle.prin_text.proofs.lines.adding.add_key.Goals as goal

pub returns-then-has-clause-takes : goal.returns-then-has-clause-takes
returns-then-has-clause-takes c = λ keys held. key_twice c.args.table.now keys c.args.number c.args.key held (sym c.has.ensures ∙ c.if-has.true)

pub returns-then-is_full-clause-takes : goal.returns-then-is_full-clause-takes
returns-then-is_full-clause-takes c = λ keys held.
    let full : c.args.table.now.room ≤ length c.args.table.now.entries = grind (arith, nat_tests, c.is_full.ensures, c.if-is_full.true) in
    key_full c.args.table.now keys c.args.number c.args.key held (sym c.has.ensures ∙ c.if-has.false) full

pub add-requires : goal.add-requires
add-requires c = record {
  is_new = none_from _ (sym c.has.ensures ∙ c.if-has.false);
  room_left = grind (arith, nat_tests, c.is_full.ensures, c.if-is_full.false);
}

pub returns-clause-takes : goal.returns-clause-takes
returns-clause-takes c = λ keys held.
    let absent : is_some (key_of c.args.table.now.entries c.args.number) ≡ false = sym c.has.ensures ∙ c.if-has.false in
    let room : length c.args.table.now.entries < c.args.table.now.room = grind (arith, nat_tests, c.is_full.ensures, c.if-is_full.false) in (
      _,
      key_fits c.args.table.now keys c.args.number c.args.key held absent room,
      adds_key c.args.table.now c.add.new.self keys c.args.number c.args.key held (none_from _ absent) c.in_ok-add.ensures.added,
    )
