use Rattle.std.proofs.Common.{◌≡◌, ◌+◌, ◌++◌, ◌∷◌, ℕ, List, [], length, length-append, arith, sym, ap, ◌∙◌}
use Rattle.std.specs.Int.{w32}
use Rattle.std.proofs.lemmas.Result.{err_from_is_err_and}
use Rattle.byte_fields.specs.Readers.{items_behind}
use Rattle.byte_fields.specs.Steps.{number_at}
use Rattle.byte_fields.proofs.Loops.{goes_on, is_done}
use Rattle.relay_path.specs.Opening.{malformed}
use Rattle.relay_path.proofs.Front.{stops_here}
use Rattle.relay_path.proofs.opening.numbers_of.Goals as goal

pub returns-in_err-number-clause-value : goal.returns-in_err-number-clause-value
returns-in_err-number-clause-value c =
    let p = err_from_is_err_and c.from_residual.result c.from_residual.ensures.1 in
    let bytes = c.args.bytes.now in
    rw (p.1, p.2) (sym (stops_here bytes c.loop.visited.items c.args.count c.loop.counter c.loop.next (items_behind (λ _. number_at malformed w32 bytes) c.args.count [] c.args.at) c.in_err-number.field-0.0 c.loop-test.true (sym c.in_err-number.ensures.value) c.loop.invariant.so_far))

pub loop-preserved : goal.loop-preserved
loop-preserved c =
    let bytes = c.args.bytes.now in
    let item = λ (_ : List ℕ). number_at malformed w32 bytes in
    record {
      so_far = rw c.push.ensures.items (goes_on item c.args.count c.loop.counter c.loop.visited.items c.loop.next (items_behind item c.args.count [] c.args.at) c.in_ok-number.number c.in_ok-number.after c.loop-test.true (sym c.in_ok-number.ensures.value) c.loop.invariant.so_far);
      within = c.in_ok-number.ensures.within;
      long = ap length c.push.ensures.items ∙ length-append c.loop.visited.items (c.in_ok-number.number ∷ []) ∙ ap (λ (n : ℕ). n + 1) c.loop.invariant.long;
    }

pub returns-clause-value : goal.returns-clause-value
returns-clause-value c =
    let item = λ (_ : List ℕ). number_at malformed w32 c.args.bytes.now in
    sym (is_done item c.args.count c.loop.counter c.loop.visited.items c.loop.next (items_behind item c.args.count [] c.args.at) c.loop-test.false c.loop.invariant.so_far)
