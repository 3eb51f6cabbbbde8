use Rattle.std.proofs.Common.{◌≡◌, ◌++◌, ◌∷◌, Bor, List, [], map, length, ℕ, ap, ◌∙◌, sym, arith, length-append}
use Rattle.std.proofs.lemmas.Result.{err_from_is_err_and}
use Rattle.std.proofs.lemmas.List.{map_push}
use Rattle.byte_fields.specs.Readers.{items_behind}
use Rattle.byte_fields.proofs.Loops.{goes_on, is_done}
use Rattle.taos_wire.specs.RequestReading.{cert_at}
use Rattle.cred_pull.proofs.Given.{cert_is, stops_at}
use Rattle.cred_pull.proofs.answer.texts_of.Goals as goal

pub returns-in_err-text-clause-value : goal.returns-in_err-text-clause-value
returns-in_err-text-clause-value c =
    let p = err_from_is_err_and c.from_residual.result c.from_residual.ensures.1 in
    let item = λ (_ : List (List ℕ)). cert_at c.args.payload.now in
    rw (p.1, p.2) (sym (stops_at item c.args.count c.loop.counter (map (λ t. t.now) c.loop.texts.items) c.loop.next (items_behind item c.args.count [] c.args.at) c.in_err-text.field-0.0 c.loop-test.true (cert_is c.args.payload.now c.loop.next c.ended.result c.ended.ensures ∙ sym c.in_err-text.ensures.value) c.loop.invariant.so_far))

pub loop-preserved : goal.loop-preserved
loop-preserved c =
    let item = λ (_ : List (List ℕ)). cert_at c.args.payload.now in
    let text = c.in_ok-text.text in
    let now : Bor (List ℕ) → List ℕ = λ t. t.now in
    let pushed : map now c.push.new.self.items ≡ map now c.loop.texts.items ++ text.now ∷ [] = rw c.push.ensures.items (map_push now c.loop.texts.items text) in
    record {
      so_far = rw pushed (goes_on item c.args.count c.loop.counter (map now c.loop.texts.items) c.loop.next (items_behind item c.args.count [] c.args.at) text.now c.in_ok-text.after c.loop-test.true (cert_is c.args.payload.now c.loop.next c.ended.result c.ended.ensures ∙ sym c.in_ok-text.ensures.value) c.loop.invariant.so_far);
      within = c.in_ok-text.ensures.within;
      many = omega (arith, c.loop.invariant.many, ap length c.push.ensures.items, length-append c.loop.texts.items (text ∷ []));
    }

pub returns-clause-value : goal.returns-clause-value
returns-clause-value c =
    let item = λ (_ : List (List ℕ)). cert_at c.args.payload.now in
    sym (is_done item c.args.count c.loop.counter (map (λ t. t.now) c.loop.texts.items) c.loop.next (items_behind item c.args.count [] c.args.at) c.loop-test.false c.loop.invariant.so_far)
