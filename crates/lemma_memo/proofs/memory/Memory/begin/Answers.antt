use Rattle.std.proofs.Common.{◌≡◌, ◌∙◌, inl, inr, false, true, List, ap, refl, sym, subst}
use Rattle.std.specs.Prelude.{◌↔◌, IsTrue}
use Rattle.std.specs.Arc.{arc_value}
use Rattle.std.proofs.lemmas.List.{length-map}
use Rattle.prin_term.specs.declared.term.Anchor.{Anchor}
use Rattle.stmt_codec.specs.View.{certificate_of, certificates}
use Rattle.lemma_memo.specs.Memory.{Begins}
use Rattle.lemma_memo.specs.Kept.{AreMarks, memo_of}
use Rattle.lemma_memo.proofs.Places.{marks_first, chosen_stand}
use Rattle.lemma_memo.proofs.Entries.{same_by}
use Rattle.lemma_memo.proofs.memory.Memory.begin.Goals.{then-is_some, else-is_some}
use Rattle.lemma_memo.proofs.memory.Memory.begin.Goals as goal

pub invariant_of-self : goal.invariant_of-self
invariant_of-self c =
    let commons = certificates c.self.inside.commons.items in
    let certs = c.args.certs.now in
    let here = c.look.new.here.items in
    let marks = subst (λ l. AreMarks (certificates l) (certificates certs) c.args.chosen.now here) c.deref-then-self.ensures.value c.look.ensures.marks in
    let long = length-map certs certificate_of in
    (c.self.invariant.0, marks_first commons (certificates certs) c.args.chosen.now here marks (c.look.ensures.long ∙ sym long) (c.requires.chosen ∙ sym long), c.self.invariant.2)

pub returns-then-self : goal.returns-then-self
returns-then-self c =
    let i = c.self.inside in
    let anchors = (arc_value i.anchors).items in
    let commons = certificates i.commons.items in
    let certs = c.args.certs.now in
    let here = c.look.new.here.items in
    let marks = subst (λ l. AreMarks (certificates l) (certificates certs) c.args.chosen.now here) c.deref-then-self.ensures.value c.look.ensures.marks in
    let long = length-map certs certificate_of in
    subst (λ m. Begins m (memo_of anchors commons c.if-is_some.self here i.lemmas) c.args.anchors.now (certificates certs) c.args.chosen.now) c.self.view_is
    (record {
      same = elim c.if-is_some.branch [
        | then-is_some w ↦
            let first = w.as_slice.ensures.value ∙ ap (λ v. v.items) w.deref.ensures in
            let iff = subst (λ (l : List Anchor). IsTrue w.are_same-self-inside.result ↔ (l ≡ c.args.anchors.now)) first w.are_same-self-inside.ensures in
            same_by anchors c.args.anchors.now commons i.lemmas w.are_same-self-inside.result c.if-is_some.self c.self.invariant.2 (inl (sym c.is_some.ensures ∙ w.if-is_some.true, iff, w.self-is))
        | else-is_some w ↦ same_by anchors c.args.anchors.now commons i.lemmas false c.if-is_some.self c.self.invariant.2 (inr (sym c.is_some.ensures ∙ w.if-is_some.false, w.self-is ∙ w.if-is_some.false))
      ];
      here = λ same. chosen_stand commons (certificates certs) c.args.chosen.now here marks (c.look.ensures.long ∙ sym long) (c.requires.chosen ∙ sym long);
      others = refl;
    })

pub returns-else-self : goal.returns-else-self
returns-else-self c =
    let i = c.self.inside in
    let anchors = (arc_value i.anchors).items in
    let commons = certificates i.commons.items in
    let certs = c.args.certs.now in
    subst (λ m. Begins m (memo_of anchors commons c.if-is_some.self i.here.items i.lemmas) c.args.anchors.now (certificates certs) c.args.chosen.now) c.self.view_is
    (record {
      same = elim c.if-is_some.branch [
        | then-is_some w ↦
            let first = w.as_slice.ensures.value ∙ ap (λ v. v.items) w.deref.ensures in
            let iff = subst (λ (l : List Anchor). IsTrue w.are_same-self-inside.result ↔ (l ≡ c.args.anchors.now)) first w.are_same-self-inside.ensures in
            same_by anchors c.args.anchors.now commons i.lemmas w.are_same-self-inside.result c.if-is_some.self c.self.invariant.2 (inl (sym c.is_some.ensures ∙ w.if-is_some.true, iff, w.self-is))
        | else-is_some w ↦ same_by anchors c.args.anchors.now commons i.lemmas false c.if-is_some.self c.self.invariant.2 (inr (sym c.is_some.ensures ∙ w.if-is_some.false, w.self-is ∙ w.if-is_some.false))
      ];
      here = λ same. absurd (let q : false ≡ true = sym c.if-self.false ∙ same in cc);
      others = refl;
    })
