use Rattle.std.proofs.Common.{◌≡◌, ℕ, Ok, true, false, sym, ap, ◌∙◌}
use Rattle.std.specs.Int.{w32}
use Rattle.std.specs.Option.{is_some}
use Rattle.keyed_seal.specs.Keys.{key_of}
use Rattle.byte_fields.specs.Steps.{number_at}
use Rattle.byte_fields.specs.Formats.{ended}
use Rattle.node_file.proofs.Lookups.{channel_number}
use Rattle.node_file.proofs.opening.table.number_of.Goals as goal

pub returns-then-has-clause-value : goal.returns-then-has-clause-value
returns-then-has-clause-value c = λ before held.
    let x : ℕ × ℕ = (c.in_ok-number.number, c.in_ok-number.next) in
    let read : number_at (ended c.args.bytes.now) w32 c.args.bytes.now c.args.at ≡ Ok x = ap (λ short. number_at short w32 c.args.bytes.now c.args.at) (sym c.ended.ensures) ∙ sym c.in_ok-number.ensures.value in
    let there : is_some (key_of c.args.table.now.entries x.0) ≡ true = sym c.has.ensures ∙ c.if-has.true in
    sym (channel_number c.args.bytes.now before c.args.at c.args.table.now x true held read there)

pub returns-clause-value : goal.returns-clause-value
returns-clause-value c = λ before held.
    let x : ℕ × ℕ = (c.in_ok-number.number, c.in_ok-number.next) in
    let read : number_at (ended c.args.bytes.now) w32 c.args.bytes.now c.args.at ≡ Ok x = ap (λ short. number_at short w32 c.args.bytes.now c.args.at) (sym c.ended.ensures) ∙ sym c.in_ok-number.ensures.value in
    let there : is_some (key_of c.args.table.now.entries x.0) ≡ false = sym c.has.ensures ∙ c.if-has.false in
    sym (channel_number c.args.bytes.now before c.args.at c.args.table.now x false held read there)
