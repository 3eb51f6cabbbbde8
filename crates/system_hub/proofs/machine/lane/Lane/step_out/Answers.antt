-- What is kept passes the test.
use Rattle.std.proofs.Common.{◌≡◌, ◌==◌, ℕ, List, not, ap, subst, rules}
use Rattle.std.specs.List.{filter}
use Rattle.std.proofs.lemmas.Fn.{filter_same}
use Rattle.system_hub.specs.Queues.{Queues}
use Rattle.system_hub.proofs.machine.lane.Lane.step_out.Goals as goal

pub returns : goal.returns
returns c =
    let h = c.self.inside in
    let seen : Queues = record { waiting = h.waiting.items; turns = h.turns.items; room = h.room } in
    let kept : c.retain.new.self.items ≡ filter (λ x. not (x == c.args.client)) h.turns.items =
    filter_same _ _ _ (λ x b f' k. search rules) _ _ c.retain.ensures.filtered in
    subst (λ (v : Queues). record seen { turns = c.retain.new.self.items } ≡ record v { turns = filter (λ x. not (x == c.args.client)) v.turns }) c.self.view_is
    (ap (λ (t : List ℕ). record seen { turns = t }) kept)
