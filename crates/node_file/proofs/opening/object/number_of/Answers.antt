use Rattle.std.proofs.Common.{◌≡◌, ℕ, Ok, true, false, sym, ap, ◌∙◌}
use Rattle.std.specs.Int.{w32}
use Rattle.std.specs.Option.{is_some}
use Rattle.byte_fields.specs.Formats.{ended}
use Rattle.byte_fields.specs.Steps.{number_at}
use Rattle.object_core.specs.Objects.{object_of}
use Rattle.node_file.specs.Plans.{drafted}
use Rattle.node_file.proofs.Lookups.{some_map, object_number}
use Rattle.node_file.proofs.opening.object.number_of.Goals as goal

pub returns-then-is_some-clause-value : goal.returns-then-is_some-clause-value
returns-then-is_some-clause-value c = λ before held.
    let x : ℕ × ℕ = (c.in_ok-number.number, c.in_ok-number.next) in
    let read : number_at (ended c.args.bytes.now) w32 c.args.bytes.now c.args.at ≡ Ok x = ap (λ short. number_at short w32 c.args.bytes.now c.args.at) (sym c.ended.ensures) ∙ sym c.in_ok-number.ensures.value in
    let there : is_some (object_of c.args.plans.now x.0) ≡ true = ap is_some (sym c.get.ensures) ∙ some_map (λ o. drafted (x.0, o.now)) c.get.result ∙ sym c.is_some.ensures ∙ c.if-is_some.true in
    sym (object_number c.args.bytes.now before c.args.at c.args.plans.now x true held read there)

pub returns-clause-value : goal.returns-clause-value
returns-clause-value c = λ before held.
    let x : ℕ × ℕ = (c.in_ok-number.number, c.in_ok-number.next) in
    let read : number_at (ended c.args.bytes.now) w32 c.args.bytes.now c.args.at ≡ Ok x = ap (λ short. number_at short w32 c.args.bytes.now c.args.at) (sym c.ended.ensures) ∙ sym c.in_ok-number.ensures.value in
    let there : is_some (object_of c.args.plans.now x.0) ≡ false = ap is_some (sym c.get.ensures) ∙ some_map (λ o. drafted (x.0, o.now)) c.get.result ∙ sym c.is_some.ensures ∙ c.if-is_some.false in
    sym (object_number c.args.bytes.now before c.args.at c.args.plans.now x false held read there)
