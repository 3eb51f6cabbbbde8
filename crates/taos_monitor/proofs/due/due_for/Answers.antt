-- each shard that is due has an equal event
use Rattle.std.proofs.Common.{◌≡◌, ◌%◌, ◌+◌, ◌≤◌, [], ◌∷◌, length, sym, ap, ◌∙◌, arith}
use Rattle.std.proofs.lemmas.List.{length-map}
use Rattle.std.specs.List.{range_with_len}
use Rattle.std.specs.Option.{option_map}
use Rattle.object_core.specs.declared.operation.Op as code
use Rattle.object_core.specs.View.{operation}
use Rattle.stmt_codec.specs.View.{certificates}
use Rattle.agent_core.specs.Views.{event_of}
use Rattle.taos_wire.specs.View.{cited}
use Rattle.request_course.specs.Operations.{targets_of}
use Rattle.taos_monitor.proofs.Dues.{ready_of, due_of, all_targets}
use Rattle.taos_monitor.proofs.due.due_for.Goals.{in-Forget, in_default-op}
use Rattle.taos_monitor.proofs.due.due_for.Goals as goal

pub returns-clause-ready : goal.returns-clause-ready
returns-clause-ready c = λ plans planned.
    let op = operation c.args.op.now in
    let certs = certificates c.args.certs.now in
    let is = sym c.in_ok-event.ensures ∙ ap (option_map event_of) c.in-Some.is in
    let few : length certs ≤ 16 = omega (arith, c.requires.few, length-map c.args.certs.now cited) in
    let counted = c.in_ok-copies_of.ensures.count in
    elim c.match-op.branch [
      | in-Forget w ↦
          let first : c.match-op.first.0 ≡ w.in-Forget.channel % c.args.count = ap (λ p. p.0) w.first-is in
          let one : c.match-op.first.1 ≡ 1 = ap (λ p. p.1) w.first-is in
          let room : c.match-op.first.0 + 1 ≤ c.args.count = omega (arith, first, c.requires.some) in
          ready_of plans _ op certs c.args.reading (event_of c.in-Some.event) is (omega (arith, counted, one)) c.in_ok-copies_of.ensures.same few
          (omega (arith, counted, one, room, planned)) (omega (arith, counted, one, room, c.ranges.count.fits))
      | in_default-op w ↦
          let first : c.match-op.first.0 ≡ 0 = ap (λ p. p.0) w.first-is in
          let all : c.match-op.first.1 ≡ c.args.count = ap (λ p. p.1) w.first-is in
          ready_of plans _ op certs c.args.reading (event_of c.in-Some.event) is (omega (arith, counted, all, c.requires.some)) c.in_ok-copies_of.ensures.same few
          (omega (arith, counted, all, first, planned)) (omega (arith, counted, all, first, c.ranges.count.fits))
    ]

pub returns-clause-due : goal.returns-clause-due
returns-clause-due c = λ plans planned.
    let op = operation c.args.op.now in
    let certs = certificates c.args.certs.now in
    let is = sym c.in_ok-event.ensures ∙ ap (option_map event_of) c.in-Some.is in
    let counted = c.in_ok-copies_of.ensures.count in
    elim c.match-op.branch [
      | in-Forget w ↦
          let first : c.match-op.first.0 ≡ w.in-Forget.channel % c.args.count = ap (λ p. p.0) w.first-is in
          let one : c.match-op.first.1 ≡ 1 = ap (λ p. p.1) w.first-is in
          due_of plans _ op certs c.args.reading (event_of c.in-Some.event) is (omega (arith, counted, one)) c.in_ok-copies_of.ensures.same
          (ap (range_with_len c.match-op.first.0) (counted ∙ one) ∙ ap (λ k. k ∷ []) (first ∙ ap (λ k. w.in-Forget.channel % k) (sym planned)) ∙ ap (λ (o : code.Op). targets_of plans (operation o)) (sym w.in-Forget.is))
      | in_default-op w ↦
          let first : c.match-op.first.0 ≡ 0 = ap (λ p. p.0) w.first-is in
          let all : c.match-op.first.1 ≡ c.args.count = ap (λ p. p.1) w.first-is in
          due_of plans _ op certs c.args.reading (event_of c.in-Some.event) is (omega (arith, counted, all, c.requires.some)) c.in_ok-copies_of.ensures.same
          (ap (λ k. range_with_len k (length c.in_ok-copies_of.field-0.items)) first ∙ ap (range_with_len 0) (counted ∙ all ∙ sym planned)
          ∙ all_targets plans c.args.op.now certs c.args.reading (event_of c.in-Some.event) is w.in_default-op.not-Forget)
    ]
