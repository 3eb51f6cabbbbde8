-- A content for the object that is found, where it has none.
use Rattle.std.proofs.Common.{◌≡◌, IsSome, Option, Some, refl, sym, subst, ◌∙◌, arith}
use Rattle.object_core.specs.Objects.{ObjectPlan, object_of}
use Rattle.node_file.specs.NodeLines.{with_content}
use Rattle.node_file.specs.Plans.{drafted}
use Rattle.node_file.proofs.Changed.{changes_plan}
use Rattle.node_file.proofs.NodeAdded.{content_fits, content_long, content_twice, content_unknown}
use Rattle.node_file.proofs.node_text.object.add_content.Goals as goal

pub returns-in_default : goal.returns-in_default
returns-in_default c = record {
  takes = λ above held. content_unknown above c.args.number c.args.content.items (sym (held.each c.args.number) ∙ sym c.in_default.ensures);
}

pub returns-then-len-gt0 : goal.returns-then-len-gt0
returns-then-len-gt0 c = record {
  takes = λ above held.
      let there : object_of above c.args.number ≡ Some (drafted (c.args.number, c.in-Some.object.now)) = sym (held.each c.args.number) ∙ sym c.in-Some.ensures in
      content_twice above c.args.number c.args.content.items (drafted (c.args.number, c.in-Some.object.now)) there (grind arith);
}

pub returns-then-len : goal.returns-then-len
returns-then-len c = record {
  takes = λ above held.
      let there : object_of above c.args.number ≡ Some (drafted (c.args.number, c.in-Some.object.now)) = sym (held.each c.args.number) ∙ sym c.in-Some.ensures in
      content_long above c.args.number c.args.content.items (drafted (c.args.number, c.in-Some.object.now)) there (grind arith) (grind arith);
}

pub returns : goal.returns
returns c = record {
  takes = λ above held.
      let there : object_of above c.args.number ≡ Some (drafted (c.args.number, c.in-Some.object.now)) = sym (held.each c.args.number) ∙ sym c.in-Some.ensures in (
        _,
        content_fits above c.args.number c.args.content.items (drafted (c.args.number, c.in-Some.object.now)) there (grind arith) (grind arith),
        changes_plan c.args.number (with_content c.args.content.items) (λ p. refl) c.args.objects.now c.set_content.new.self above held c.set_content.ensures,
      );
}

pub set_content-requires : goal.set_content-requires
set_content-requires c = subst (λ (o : Option ObjectPlan). IsSome o) c.in-Some.ensures refl
