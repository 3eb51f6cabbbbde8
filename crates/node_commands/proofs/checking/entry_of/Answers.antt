-- The entry of the list that the program holds.
use Rattle.std.proofs.Common.{◌≡◌, ℕ, List, Some, map, length, sym, ap, subst, ◌∙◌, arith, false}
use Rattle.std.specs.Prelude.{bit_and, slice_get, nat_lt}
use Rattle.std.proofs.lemmas.Bool.{ltb-true}
use Rattle.std.proofs.lemmas.Bool.Decides.{nat_tests}
use Rattle.object_core.specs.declared.operation.Op.{Op}
use Rattle.object_core.specs.Operation.{right_of}
use Rattle.object_core.specs.View.{operation}
use Rattle.prin_term.specs.declared.term.Entry.{Entry}
use Rattle.prin_term.specs.View.{grant}
use Rattle.taos_wire.specs.View.{request as request_is}
use Rattle.node_file.specs.Meaning.{opening}
use Rattle.node_file.specs.Plans.{plan}
use Rattle.node_commands.specs.Checking.{no_object}
use Rattle.denial_link.proofs.Places.{entry_at}
use Rattle.node_commands.proofs.Looked.{no_such_entry, no_right}
use Rattle.node_commands.proofs.checking.entry_of.Goals as goal

pub returns-in_default-clause-stops : goal.returns-in_default-clause-stops
returns-in_default-clause-stops c = λ q p lines certs granted.
    no_object (request_is c.args.asked.now) c.args.place lines certs granted
    (sym c.in_default.ensures)

pub returns-in_default-get-clause-stops : goal.returns-in_default-get-clause-stops
returns-in_default-get-clause-stops c = λ q p lines certs granted.
    no_such_entry (opening c.args.node.now) q p (request_is c.args.asked.now) c.args.place lines certs (plan c.in-Some.plan.now) c.deref-2.result.now granted
    (sym c.in-Some.ensures)
    (ap (λ (l : List Entry). map grant l) (sym (c.deref-2.ensures.value ∙ ap (λ v. v.items) c.deref.ensures)))
    (λ within. let past : false ≡ nat_lt c.args.place (length c.deref-2.result.now) = c.in_default-get.ensures.lookup.0 in grind (arith, nat_tests, past, within))

pub returns-then-entry-right_of-eq0-clause-stops : goal.returns-then-entry-right_of-eq0-clause-stops
returns-then-entry-right_of-eq0-clause-stops c = λ q p lines certs granted.
    no_right (opening c.args.node.now) q p (request_is c.args.asked.now) c.args.place lines certs (plan c.in-Some.plan.now) c.deref-2.result.now c.in-Some-get.entry.now granted
    (sym c.in-Some.ensures)
    (ap (λ (l : List Entry). map grant l) (sym (c.deref-2.ensures.value ∙ ap (λ v. v.items) c.deref.ensures)))
    (ltb-true _ _ (sym c.in-Some-get.ensures.lookup.0)) c.in-Some-get.ensures.lookup.1
    (ap (λ (n : ℕ). bit_and c.in-Some-get.entry.now.rights n) (sym (c.right_of.ensures ∙ ap (λ (op : Op). right_of (operation op)) c.deref-3.ensures)) ∙ c.if-entry-right_of-eq0.true)

pub returns-clause-stands : goal.returns-clause-stands
returns-clause-stands c = λ q p lines certs granted.
    let e = c.in-Some-get.entry.now in
    record {
      object = plan c.in-Some.plan.now;
      found = record {
        grant = granted;
        there = sym c.in-Some.ensures;
      };
      listed = subst (λ (l : List Entry). slice_get (map grant l) c.args.place ≡ Some (grant e)) (c.deref-2.ensures.value ∙ ap (λ v. v.items) c.deref.ensures) (entry_at c.deref-2.result.now c.args.place e c.in-Some-get.ensures.lookup.1 (ltb-true _ _ (sym c.in-Some-get.ensures.lookup.0)));
      has_right = λ none. c.if-entry-right_of-eq0.false (ap (λ (n : ℕ). bit_and e.rights n) (c.right_of.ensures ∙ ap (λ (op : Op). right_of (operation op)) c.deref-3.ensures) ∙ none);
    }
