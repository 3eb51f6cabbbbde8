use Rattle.std.proofs.Common.{◌≡◌, ◌∙◌, ◌+◌, [], List, Ok, Option, true, arith, subst, sym, ap}
use Rattle.byte_fields.specs.Readers.{items_behind}
use Rattle.object_core.specs.Objects.{ObjectEntry}
use Rattle.journal_bytes.specs.Reading.{ruled_at}
use Rattle.audit_replay.specs.declared.fall.Failure.{Failure}
use Rattle.audit_replay.specs.declared.replayed.Cell.{Cell}
use Rattle.audit_replay.specs.Passes.{EntriesRuled}
use Rattle.audit_replay.specs.Stepping.{MakesOf, failure_at}
use Rattle.std.specs.Option.{option_map}
use Rattle.audit_replay.proofs.ObjectsComing.{all_same, entries_passed, entries_ruled, none_failed_yet}
use Rattle.audit_replay.proofs.Passing.{items_counted}
use Rattle.audit_replay.proofs.objects.object_entries.Goals as goal

pub returns-then-reads_only-clause-value : goal.returns-then-reads_only-clause-value
returns-then-reads_only-clause-value c =
    let p = c.args.progress in
    let rs = c.args.shards.now in
    let item = λ (_ : List ObjectEntry). ruled_at c.args.bytes.now in
    entries_passed rs rs c.args.object c.args.object c.args.count c.in_ok-next.next (items_behind item c.args.count [] c.args.at) (λ y is. omega (arith, items_counted item c.args.count [] c.args.at y is))
    p (sym c.reads_only.ensures ∙ c.if-reads_only.true) c.in_ok-next.ensures.value

pub returns-clause-value : goal.returns-clause-value
returns-clause-value c =
    let p = c.args.progress in
    let rs = c.args.shards.now in
    let o = c.args.object in
    let item = λ (_ : List ObjectEntry). ruled_at c.args.bytes.now in
    let read = items_behind item c.args.count [] c.args.at in
    let goes = sym c.reads_only.ensures ∙ c.if-reads_only.false in
    let failed : c.failed_at.result ≡ option_map (failure_at (Cell.Object o.plan.number)) c.in_ok-fall.fall = c.failed_at.ensures ∙ ap (λ n. option_map (failure_at (Cell.Object n)) c.in_ok-fall.fall) c.number-number.ensures in
    subst (λ (f : Option Failure). MakesOf (EntriesRuled rs c.rule_entries.new.shards o p) (Ok (record { same = true; failure = f; entries = p.entries + c.args.count }, c.in_ok-fall.next)) read) (sym failed)
    (entries_ruled rs c.rule_entries.new.shards o c.rule_entries.new.object c.args.count c.in_ok-fall.next read (λ y is. omega (arith, items_counted item c.args.count [] c.args.at y is))
    c.in_ok-fall.fall p (all_same p.same p.failure goes) (none_failed_yet p.same p.failure goes) c.rule_entries.ensures.fixed c.in_ok-fall.ensures.value)
