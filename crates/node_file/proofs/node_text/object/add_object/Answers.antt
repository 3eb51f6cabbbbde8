use Rattle.std.proofs.Common.{◌≡◌, true, false, sym, ap, subst, ◌∙◌, arith}
use Rattle.std.specs.Option.{is_some}
use Rattle.object_core.specs.Objects.{ObjectPlan, object_of}
use Rattle.node_file.specs.NodeLines.{empty_object}
use Rattle.node_file.specs.Plans.{AddsPlan, drafted}
use Rattle.prin_text.proofs.Added.{none_from}
use Rattle.node_file.proofs.Lookups.{adds_plan, some_map}
use Rattle.node_file.proofs.NodeAdded.{object_fits, object_full, object_twice}
use Rattle.node_file.proofs.node_text.object.add_object.Goals as goal

pub returns-then-is_some : goal.returns-then-is_some
returns-then-is_some c = record {
  takes = λ above held.
      let there : is_some (object_of c.args.objects.now c.args.number) ≡ true = ap is_some (sym c.get.ensures) ∙ some_map (λ o. drafted (c.args.number, o.now)) c.get.result ∙ sym c.is_some.ensures ∙ c.if-is_some.true in
      object_twice above c.args.number (ap is_some (sym (held.each c.args.number)) ∙ there);
}

pub returns-then-count : goal.returns-then-count
returns-then-count c = record {
  takes = λ above held.
      let absent : is_some (object_of c.args.objects.now c.args.number) ≡ false = ap is_some (sym c.get.ensures) ∙ some_map (λ o. drafted (c.args.number, o.now)) c.get.result ∙ sym c.is_some.ensures ∙ c.if-is_some.false in
      object_full above c.args.number (ap is_some (sym (held.each c.args.number)) ∙ absent) (omega (arith, held.count, c.count.ensures));
}

pub returns : goal.returns
returns c = record {
  takes = λ above held.
      let absent : is_some (object_of c.args.objects.now c.args.number) ≡ false = ap is_some (sym c.get.ensures) ∙ some_map (λ o. drafted (c.args.number, o.now)) c.get.result ∙ sym c.is_some.ensures ∙ c.if-is_some.false in
      let none = none_from (object_of c.args.objects.now c.args.number) absent in (
        _,
        object_fits above c.args.number (ap is_some (sym (held.each c.args.number)) ∙ absent) (omega (arith, held.count, c.count.ensures)),
        adds_plan c.args.objects.now c.add.new.self above (empty_object c.args.number) held none
            (subst (λ (p : ObjectPlan). AddsPlan c.args.objects.now c.add.new.self p) (c.empty_object-object.ensures c.args.number) c.in_ok-add.ensures),
      );
}

pub add-requires : goal.add-requires
add-requires c = none_from _ (ap is_some (sym c.get.ensures) ∙ some_map (λ o. drafted (c.args.number, o.now)) c.get.result ∙ sym c.is_some.ensures ∙ c.if-is_some.false)
