use Rattle.std.proofs.Common.{◌≡◌, ◌∙◌, ◌++◌, ◌∷◌, [], List, Some, ap, length, subst, sym}
use Rattle.std.proofs.lemmas.List.{length-map}
use Rattle.object_core.specs.Objects.{ObjectEntry}
use Rattle.object_core.specs.ObjectView.{object_entry}
use Rattle.std.proofs.Common.{refl}
use Rattle.audit_replay.specs.Stepping.{HasBeenRuled}
use Rattle.audit_replay.proofs.Progressing.{falls_ruled, rules_on}
use Rattle.audit_replay.proofs.SoundSteps.{none_failed, rules_fallen}
use Rattle.audit_replay.proofs.ruling.rule_next.Goals as goal

pub returns-then-is_some-clause-ruled : goal.returns-then-is_some-clause-ruled
returns-then-is_some-clause-ruled c = λ cells journals front number before h.
    rules_fallen cells journals front number before (object_entry c.args.entry) c.args.shards.now c.args.shards.now c.args.object.now c.args.object.now refl c.args.fall (sym c.is_some.ensures ∙ c.if-is_some.true) h

pub returns-in-Some-clause-ruled : goal.returns-in-Some-clause-ruled
returns-in-Some-clause-ruled c = λ cells journals front number before h.
    let e = object_entry c.args.entry in
    let rs = c.args.shards.now in
    let o = c.args.object.now in
    let long : length c.journal.result.now ≡ length o.journal = sym (length-map c.journal.result.now object_entry) ∙ ap (λ (l : List ObjectEntry). length l) c.journal.ensures.value in
    let one = none_failed cells journals front number before e rs rs o o refl c.args.fall (sym c.is_some.ensures ∙ c.if-is_some.false) h in
    subst (λ n. HasBeenRuled cells journals front number (before ++ e ∷ []) c.rule.new.shards c.rule.new.object (Some (record { place = n; cause = c.in-Some.cause }))) (sym long)
    (falls_ruled cells journals front number before e rs c.rule.new.shards o c.rule.new.object c.rule.ensures.fixed c.in-Some.cause (λ names sound. c.in-Some.ensures.fails cells names sound) one)

pub returns-in-None-clause-ruled : goal.returns-in-None-clause-ruled
returns-in-None-clause-ruled c = λ cells journals front number before h.
    let e = object_entry c.args.entry in
    let rs = c.args.shards.now in
    let o = c.args.object.now in
    let one = none_failed cells journals front number before e rs rs o o refl c.args.fall (sym c.is_some.ensures ∙ c.if-is_some.false) h in
    rules_on cells journals front number before e rs c.rule.new.shards o c.rule.new.object c.rule.ensures.fixed (λ names sound. c.in-None.ensures.rules cells names sound) c.in-None.ensures.adds one
