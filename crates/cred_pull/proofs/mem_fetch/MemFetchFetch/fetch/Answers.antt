-- A call that does not fail gives the first answer that is left, or nothing.
use Rattle.std.proofs.Common.{◌≡◌, ℕ, false, List, sym, ap, ◌∙◌}
use Rattle.std.specs.Prelude.{◌==◌}
use Rattle.std.specs.List.{list_any}
use Rattle.cred_pull.proofs.Fetches.{answers_first, answers_none, none_left, rest_within}
use Rattle.cred_pull.proofs.mem_fetch.MemFetchFetch.fetch.Goals as goal
use Rattle.cred_pull.proofs.mem_fetch.MemFetchFetch.fetch.Goals.{in-Some, in-None}

pub invariant_of-self-2 : goal.invariant_of-self-2
invariant_of-self-2 c = rest_within c.self.inside.answers.items c.pop_front.new.self.items c.pop_front.ensures.rest c.self.invariant

pub returns-clause-exact : goal.returns-clause-exact
returns-clause-exact c =
    let left = c.self.inside.answers.items in
    let rest = c.pop_front.new.self.items in
    let calls = c.self.inside.calls in
    let fails = c.self.inside.fails.items in
    let among : List ℕ → _ = list_any (λ (n : ℕ). n == calls) in
    let runs : list_any (λ (n : ℕ). n == calls) fails ≡ false = ap among (sym c.deref.ensures.value) ∙ sym c.contains.ensures.value ∙ c.if-contains.false in
    let next = c.saturating_add-self-inside.result in
    elim c.match-pop_front.branch [
      | in-Some w ↦ rw w.result-is (answers_first c.args.self.now left rest calls next c.self.inside.faults fails c.self.view_is runs c.saturating_add-self-inside.ensures w.in-Some.certs (rw w.in-Some.is at c.pop_front.ensures.items))
      | in-None w ↦
          let same = rw w.in-None.is at c.pop_front.ensures.items in
          let none = none_left left rest same c.pop_front.ensures.rest in
          rw w.result-is (answers_none c.args.self.now left rest calls next c.self.inside.faults fails c.self.view_is runs c.saturating_add-self-inside.ensures w.new.result.items w.new.ensures.items none (sym same ∙ none))
    ]
