use Rattle.std.proofs.Common.{◌≡◌, ◌∙◌, ◌++◌, ◌∷◌, [], List, Some, ap, arith, length, subst, sym}
use Rattle.std.proofs.lemmas.List.{length-map}
use Rattle.agent_core.specs.Journals.{Entry}
use Rattle.agent_core.specs.Views.{entry_of}
use Rattle.journal_bytes.specs.View.{entry_seen}
use Rattle.audit_replay.specs.Stepping.{HasCome}
use Rattle.audit_replay.proofs.Progressing.{comes_on, falls_now}
use Rattle.audit_replay.proofs.SoundSteps.{goes_fallen, none_fell}
use Rattle.audit_replay.proofs.stepping.ShardReplay.go_on.Goals as goal

pub returns-then-is_some : goal.returns-then-is_some
returns-then-is_some g c = λ plans number before h.
    goes_fallen plans number before (entry_seen c.args.entry) c.args.self.now c.args.self.now c.args.fall (sym c.is_some.ensures ∙ c.if-is_some.true) h

pub returns-in-Some : goal.returns-in-Some
returns-in-Some g c = λ plans number before h.
    let r = c.args.self.now in
    let after = c.step.new.self in
    let e = entry_seen c.args.entry in
    let fails = rw c.in-Some.is at c.in_ok-cause.ensures.fails in
    let long : length c.journal.result.now ≡ length r.shard.journal = sym (length-map c.journal.result.now entry_of) ∙ ap (λ (l : List Entry). length l) c.journal.ensures.value in
    subst (λ n. HasCome plans number (before ++ e ∷ []) after (Some (record { place = n; cause = c.in-Some.cause }))) (sym long)
    (falls_now plans number before e r after c.in-Some.cause fails (none_fell plans number before e r after c.args.fall (sym c.is_some.ensures ∙ c.if-is_some.false) h))

pub returns-in-None : goal.returns-in-None
returns-in-None g c = λ plans number before h.
    let r = c.args.self.now in
    let after = c.step.new.self in
    let e = entry_seen c.args.entry in
    let adds = rw c.in-None.is at c.in_ok-cause.ensures.adds in
    let sound = rw c.in-None.is at c.in_ok-cause.ensures.sound in
    comes_on plans number before e r after adds.0 adds.1 adds.2 (sound plans [] number (λ has. absurd (omega (arith, has.1)))) (none_fell plans number before e r after c.args.fall (sym c.is_some.ensures ∙ c.if-is_some.false) h)
