-- An entry more for the object that is found.
use Rattle.std.proofs.Common.{◌≡◌, IsSome, Ok, Option, Some, refl, sym, subst, ◌∙◌, arith}
use Rattle.std.proofs.lemmas.List.{length-map}
use Rattle.object_core.specs.Objects.{ObjectPlan, object_of}
use Rattle.prin_term.specs.View.{Grant, grant, principal}
use Rattle.node_file.specs.NodeLines.{who_said, with_grant}
use Rattle.node_file.specs.Plans.{drafted}
use Rattle.node_file.proofs.Changed.{changes_plan}
use Rattle.node_file.proofs.NodeAdded.{grant_fits, grant_full, grant_unknown, who_refused}
use Rattle.node_file.proofs.SamePrincipals.{same_who}
use Rattle.node_file.proofs.node_text.allow.add_entry.Goals as goal

pub returns-in_default : goal.returns-in_default
returns-in_default c = record {
  takes = λ labels above names roles held. grant_unknown above c.args.number labels c.args.rights c.args.text.now (sym (held.each c.args.number) ∙ sym c.in_default.ensures);
}

pub returns-in-Err : goal.returns-in-Err
returns-in-Err c = record {
  takes = λ labels above names roles held.
      let there : object_of above c.args.number ≡ Some (drafted (c.args.number, c.in-Some.object.now)) = sym (held.each c.args.number) ∙ sym c.in-Some.ensures in
      who_refused above c.args.number c.args.names.now labels names roles c.args.rights c.args.text.now (drafted (c.args.number, c.in-Some.object.now)) there c.args.objects.now c.in-Err.fault c.in-Err.ensures;
}

pub returns-then-len : goal.returns-then-len
returns-then-len c = record {
  takes = λ labels above names roles held.
      let there : object_of above c.args.number ≡ Some (drafted (c.args.number, c.in-Some.object.now)) = sym (held.each c.args.number) ∙ sym c.in-Some.ensures in
      let said : who_said labels c.args.text.now ≡ Ok (principal c.in-Ok.who) = sym (same_who c.args.names.now labels names roles c.args.text.now) ∙ c.in-Ok.ensures in
      grant_full above c.args.number labels c.args.rights c.args.text.now (drafted (c.args.number, c.in-Some.object.now)) (principal c.in-Ok.who) there said (grind (arith, length-map c.in-Some.object.now.list.items grant));
}

pub returns : goal.returns
returns c = record {
  takes = λ labels above names roles held.
      let p = drafted (c.args.number, c.in-Some.object.now) in
      let g : Grant = record { rights = c.args.rights; who = principal c.in-Ok.who } in
      let there : object_of above c.args.number ≡ Some p = sym (held.each c.args.number) ∙ sym c.in-Some.ensures in
      let said : who_said labels c.args.text.now ≡ Ok (principal c.in-Ok.who) = sym (same_who c.args.names.now labels names roles c.args.text.now) ∙ c.in-Ok.ensures in (
        _,
        grant_fits above c.args.number labels c.args.rights c.args.text.now p (principal c.in-Ok.who) g there said (grind (arith, length-map c.in-Some.object.now.list.items grant)) refl,
        changes_plan c.args.number (with_grant g) (λ p. refl) c.args.objects.now c.add_entry.new.self above held c.in_ok-add_entry.ensures,
      );
}

pub add_entry-requires : goal.add_entry-requires
add_entry-requires c = subst (λ (o : Option ObjectPlan). IsSome o) c.in-Some.ensures refl
