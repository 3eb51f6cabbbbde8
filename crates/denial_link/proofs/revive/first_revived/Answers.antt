use Rattle.std.proofs.Common.{◌≡◌, ℕ, ◌<◌, ◌+◌, List, Option, map, length, take, get_or, Some, slice_get, refl, sym, ap, subst, ◌∙◌, arith}
use Rattle.std.specs.Prelude.{MatchOption}
use Rattle.std.proofs.lemmas.List.{length-map}
use Rattle.std.proofs.lemmas.Option.{slice_get-get_or}
use Rattle.prin_term.specs.View.{grant, principal}
use Rattle.stmt_codec.specs.View.{certificates}
use Rattle.taos_calculus.specs.Question.{Question}
use Rattle.denial_link.specs.declared.revive.Revival.{Revival}
use Rattle.denial_link.specs.Links.{NoneBefore}
use Rattle.denial_link.specs.Revived.{AsksWith}
use Rattle.denial_link.proofs.Entries.{asks_entry, asks_subject}
use Rattle.denial_link.proofs.Reviving.{Enough, IsFoundAt, asked_first, asked_none, found_now, revived_ends, still_found}
use Rattle.denial_link.proofs.revive.first_revived.Goals as goal
use Rattle.denial_link.proofs.revive.first_revived.Goals.{in-Some, in_default}

pub first_before-requires-clause-asking : goal.first_before-requires-clause-asking
first_before-requires-clause-asking g c = asks_subject _ _ _ _ _ _ _ c.ask_with.ensures

pub first_before-requires-clause-asked : goal.first_before-requires-clause-asked
first_before-requires-clause-asked g c = asks_entry _ _ _ _ _ _ _ c.ask_with.ensures

pub loop-n-preserved : goal.loop-n-preserved
loop-n-preserved g c =
    let anchors = c.args.anchors.now in
    let certs = certificates c.args.certs.now in
    let places : List ℕ = c.out_in_order-places.result.items in
    let subject = principal c.args.subject.now in
    let list = map grant c.args.list.now in
    let n : ℕ = c.loop-n.n in
    let q : Question = g.D.Decide.question c.ask_with.new.bench in
    let asks : AsksWith q anchors certs c.args.moment (take (n + 1) places) subject list =
    subst (λ (ps : List ℕ). AsksWith q anchors certs c.args.moment (take (n + 1) ps) subject list) c.deref.ensures.0 c.ask_with.ensures in
    let inside : n < length places = omega arith in
    elim c.match-first_before.branch [
      | in-Some w ↦
          let f = w.in-Some.ensures.found in
          let first = asked_first anchors certs c.args.moment places subject list c.args.right q (n + 1) asks w.in-Some.entry f.1 f.2 in
          let used : List ℕ = w.deref-in-Some.result.now in
          let cert : ℕ = get_or used n 0 in
          let stands : slice_get places n ≡ Some cert = slice_get-get_or places n 0 inside ∙ ap (λ (ps : List ℕ). Some (get_or ps n 0)) (sym w.deref-in-Some.ensures.0) in
          let r : Revival = record { entry = w.in-Some.entry; cert = cert } in
          let found = found_now anchors certs c.args.moment places subject list c.args.right c.loop-n.end n w.in-Some.entry cert f.1 r c.out_in_order-places.ensures c.loop-n.invariant.none f.0 first stands refl refl in
          record {
            end_in = omega (arith, w.end-is, f.0, c.loop-n.invariant.end_in);
            none = subst (λ (k : ℕ). NoneBefore list c.args.right (Enough anchors certs c.args.moment places subject list c.args.right (n + 1)) k) (sym w.end-is) first.first;
            found = subst (λ (o : Option Revival). MatchOption o (c.match-first_before.end ≡ length c.args.list.now) (IsFoundAt anchors certs c.args.moment places subject list c.args.right c.match-first_before.end (n + 1))) (sym w.found-is)
                (subst (λ (k : ℕ). IsFoundAt anchors certs c.args.moment places subject list c.args.right k (n + 1) r) (sym w.end-is) found);
          }
      | in_default w ↦
          let none = asked_none anchors certs c.args.moment places subject list c.args.right q (n + 1) asks c.loop-n.end w.in_default.ensures.found in
          let found = still_found anchors certs c.args.moment places subject list c.args.right c.loop-n.found c.loop-n.end n (c.loop-n.end ≡ length c.args.list.now) c.loop-n.invariant.found in
          record {
            end_in = omega (arith, w.end-is, c.loop-n.invariant.end_in);
            none = subst (λ (k : ℕ). NoneBefore list c.args.right (Enough anchors certs c.args.moment places subject list c.args.right (n + 1)) k) (sym w.end-is) none;
            found = subst (λ (o : Option Revival). MatchOption o (c.match-first_before.end ≡ length c.args.list.now) (IsFoundAt anchors certs c.args.moment places subject list c.args.right c.match-first_before.end (n + 1))) (sym w.found-is)
                (subst (λ (k : ℕ). MatchOption c.loop-n.found (k ≡ length c.args.list.now) (IsFoundAt anchors certs c.args.moment places subject list c.args.right k (n + 1))) (sym w.end-is) found);
          }
    ]

pub returns : goal.returns
returns g c =
    revived_ends c.args.anchors.now (certificates c.args.certs.now) c.args.moment c.out_in_order-places.result.items (principal c.args.subject.now) (map grant c.args.list.now) c.args.right
    c.out_in_order-places.ensures c.loop-n.n (omega arith) c.loop-n.found c.loop-n.end (length c.args.list.now) (sym (length-map c.args.list.now grant)) c.loop-n.invariant.none c.loop-n.invariant.found
