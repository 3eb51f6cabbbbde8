use Rattle.std.proofs.Common.{◌≡◌, ◌∙◌, List, None, Option, Some, ap, length, refl, slice_get, subst, sym}
use Rattle.std.specs.Prelude.{MatchOption}
use Rattle.std.proofs.lemmas.Bool.{false≢true}
use Rattle.std.proofs.lemmas.Option.{slice_get_past, slice_get_read}
use Rattle.object_core.specs.ObjectView.{object_entry}
use Rattle.agent_core.specs.Journals.{Entry}
use Rattle.agent_core.specs.Views.{ask_of}
use Rattle.journal_bytes.specs.Events.{ask_there}
use Rattle.audit_replay.specs.declared.due.Due.{Due}
use Rattle.audit_replay.specs.Legal.{Names}
use Rattle.audit_replay.specs.Ruling.{IsNamedDue}
use Rattle.audit_replay.specs.Stepping.{stepped_again}
use Rattle.audit_replay.proofs.Naming.{another, ask_here, named_due, no_ask, no_mark, no_place}
use Rattle.audit_replay.proofs.ruling.due_to.Goals as goal

pub returns-in_err-mark-clause-due : goal.returns-in_err-mark-clause-due
returns-in_err-mark-clause-due c =
    let rs = c.args.shards.now in
    let r = c.in_ok-replay.replay.now in
    let o = c.args.object.now in
    let e = object_entry c.args.entry.now in
    let m = c.deref.result.now in
    let at : slice_get rs e.shard ≡ Some r = slice_get_read rs (length rs) e.shard r refl (c.in_ok-replay.ensures.lookup.3.0) c.in_ok-replay.ensures.lookup.1 in
    let marks : slice_get r.marks.items e.place ≡ slice_get m e.place = ap (λ (l : List (Option Due)). slice_get l e.place) (sym c.deref.ensures.value) in
    let gone : slice_get m e.place ≡ None = slice_get_past m e.place (c.in_err-mark.ensures.lookup.3) in
    λ cells names sound.
    let never : Names cells (stepped_again rs) o.plan o.journal e → ⊥ = no_place cells names rs sound o.plan o.journal e r at (marks ∙ gone) in
    subst (λ (x : Option Due). MatchOption x (Names cells (stepped_again rs) o.plan o.journal e → ⊥) (IsNamedDue cells (stepped_again rs) names o.plan o.journal e)) (sym c.from_residual-in_err-mark.ensures) never

pub returns-in_err-due-clause-due : goal.returns-in_err-due-clause-due
returns-in_err-due-clause-due c =
    let rs = c.args.shards.now in
    let r = c.in_ok-replay.replay.now in
    let o = c.args.object.now in
    let e = object_entry c.args.entry.now in
    let m = c.deref.result.now in
    let at : slice_get rs e.shard ≡ Some r = slice_get_read rs (length rs) e.shard r refl (c.in_ok-replay.ensures.lookup.3.0) c.in_ok-replay.ensures.lookup.1 in
    let marks : slice_get r.marks.items e.place ≡ slice_get m e.place = ap (λ (l : List (Option Due)). slice_get l e.place) (sym c.deref.ensures.value) in
    let mark = c.in_ok-mark.mark.now in
    let marked : slice_get r.marks.items e.place ≡ Some mark = marks ∙ slice_get_read m (length m) e.place mark refl (c.in_ok-mark.ensures.lookup.3.0) c.in_ok-mark.ensures.lookup.1 in
    λ cells names sound.
    let never : Names cells (stepped_again rs) o.plan o.journal e → ⊥ = no_mark cells names rs sound o.plan o.journal e r at (marked ∙ ap (λ (x : Option Due). Some x) c.in_err-due.was) in
    subst (λ (x : Option Due). MatchOption x (Names cells (stepped_again rs) o.plan o.journal e → ⊥) (IsNamedDue cells (stepped_again rs) names o.plan o.journal e)) (sym c.from_residual-in_err-due.ensures) never

pub returns-in_err-asked-clause-due : goal.returns-in_err-asked-clause-due
returns-in_err-asked-clause-due c =
    let rs = c.args.shards.now in
    let r = c.in_ok-replay.replay.now in
    let o = c.args.object.now in
    let e = object_entry c.args.entry.now in
    let m = c.deref.result.now in
    let at : slice_get rs e.shard ≡ Some r = slice_get_read rs (length rs) e.shard r refl (c.in_ok-replay.ensures.lookup.3.0) c.in_ok-replay.ensures.lookup.1 in
    let marks : slice_get r.marks.items e.place ≡ slice_get m e.place = ap (λ (l : List (Option Due)). slice_get l e.place) (sym c.deref.ensures.value) in
    let found : None ≡ ask_there (slice_get r.shard.journal e.place) = c.in_err-asked.ensures ∙ ap (λ (l : List Entry). ask_there (slice_get l e.place)) c.journal.ensures.value in
    λ cells names sound.
    let never : Names cells (stepped_again rs) o.plan o.journal e → ⊥ = no_ask cells names rs sound o.plan o.journal e r at found in
    subst (λ (x : Option Due). MatchOption x (Names cells (stepped_again rs) o.plan o.journal e → ⊥) (IsNamedDue cells (stepped_again rs) names o.plan o.journal e)) (sym c.from_residual-in_err-asked.ensures) never

pub returns-then-is_for-clause-due : goal.returns-then-is_for-clause-due
returns-then-is_for-clause-due c =
    let rs = c.args.shards.now in
    let r = c.in_ok-replay.replay.now in
    let o = c.args.object.now in
    let e = object_entry c.args.entry.now in
    let m = c.deref.result.now in
    let at : slice_get rs e.shard ≡ Some r = slice_get_read rs (length rs) e.shard r refl (c.in_ok-replay.ensures.lookup.3.0) c.in_ok-replay.ensures.lookup.1 in
    let marks : slice_get r.marks.items e.place ≡ slice_get m e.place = ap (λ (l : List (Option Due)). slice_get l e.place) (sym c.deref.ensures.value) in
    let mark = c.in_ok-mark.mark.now in
    let marked : slice_get r.marks.items e.place ≡ Some mark = marks ∙ slice_get_read m (length m) e.place mark refl (c.in_ok-mark.ensures.lookup.3.0) c.in_ok-mark.ensures.lookup.1 in
    let asked = ask_of c.in_ok-asked.asked.now in
    let found : Some asked ≡ ask_there (slice_get r.shard.journal e.place) = c.in_ok-asked.ensures ∙ ap (λ (l : List Entry). ask_there (slice_get l e.place)) c.journal.ensures.value in
    let both = c.is_for.ensures.0 c.if-is_for.true in
    λ cells names sound. named_due cells names rs sound o.plan o.journal e r c.in_ok-due.due asked at (marked ∙ ap (λ (x : Option Due). Some x) c.in_ok-due.was) (ask_here r.shard.journal e.place asked found) both.0 both.1

pub returns-then-is_for-clause-there : goal.returns-then-is_for-clause-there
returns-then-is_for-clause-there c =
    let rs = c.args.shards.now in
    let r = c.in_ok-replay.replay.now in
    let o = c.args.object.now in
    let e = object_entry c.args.entry.now in
    let m = c.deref.result.now in
    let at : slice_get rs e.shard ≡ Some r = slice_get_read rs (length rs) e.shard r refl (c.in_ok-replay.ensures.lookup.3.0) c.in_ok-replay.ensures.lookup.1 in
    let marks : slice_get r.marks.items e.place ≡ slice_get m e.place = ap (λ (l : List (Option Due)). slice_get l e.place) (sym c.deref.ensures.value) in
    let mark = c.in_ok-mark.mark.now in
    let marked : slice_get r.marks.items e.place ≡ Some mark = marks ∙ slice_get_read m (length m) e.place mark refl (c.in_ok-mark.ensures.lookup.3.0) c.in_ok-mark.ensures.lookup.1 in
    record { replay = r; is = at; marked = (marked ∙ ap (λ (x : Option Due). Some x) c.in_ok-due.was) }

pub returns-else-is_for-clause-due : goal.returns-else-is_for-clause-due
returns-else-is_for-clause-due c =
    let rs = c.args.shards.now in
    let r = c.in_ok-replay.replay.now in
    let o = c.args.object.now in
    let e = object_entry c.args.entry.now in
    let m = c.deref.result.now in
    let at : slice_get rs e.shard ≡ Some r = slice_get_read rs (length rs) e.shard r refl (c.in_ok-replay.ensures.lookup.3.0) c.in_ok-replay.ensures.lookup.1 in
    let marks : slice_get r.marks.items e.place ≡ slice_get m e.place = ap (λ (l : List (Option Due)). slice_get l e.place) (sym c.deref.ensures.value) in
    let asked = ask_of c.in_ok-asked.asked.now in
    let found : Some asked ≡ ask_there (slice_get r.shard.journal e.place) = c.in_ok-asked.ensures ∙ ap (λ (l : List Entry). ask_there (slice_get l e.place)) c.journal.ensures.value in
    λ cells names sound. another cells names rs sound o.plan o.journal e r at asked (ask_here r.shard.journal e.place asked found) (λ both. false≢true (c.if-is_for.ensures.1 both))
