-- No client has come, and all seats are free.
use Rattle.std.proofs.Common.{◌≡◌, ℕ, ◌<◌, List, [], length, sym, ap, subst, ◌∙◌, arith, All}
use Rattle.std.proofs.lemmas.List.{length-replicate}
use Rattle.system_hub.specs.Queues.{Queues}
use Rattle.system_hub.proofs.Beginning.{all_places, kept_made}
use Rattle.system_hub.proofs.machine.hub.Hub.new.Goals as goal

pub invariant_of-result : goal.invariant_of-result
invariant_of-result c =
    let seats = c.in_ok-seats.seats.items in
    let count : length seats ≡ c.args.clients = c.in_ok-seats.ensures.count in
    let lanes : length c.in_ok-lanes.lanes.items ≡ c.args.lanes =
    ap (λ (l : List Queues). length l) c.in_ok-lanes.ensures ∙ length-replicate c.args.lanes (record { waiting = []; turns = []; room = c.args.clients }) in (
      omega (arith, count, c.requires.clients),
      omega (arith, lanes, c.requires.lanes),
      omega (arith, lanes, c.requires.lanes),
      omega (arith, count, c.requires.clients),
      subst (λ (l : List ℕ). All (λ p. p < length seats) l) (sym c.in_ok-free.ensures.places) (all_places c.args.clients (length seats) (sym count)),
      omega (arith, count, c.in_ok-free.ensures.room),
    )

pub returns-clause-history : goal.returns-clause-history
returns-clause-history c =
    kept_made c.in_ok-seats.seats.items c.in_ok-lanes.lanes.items c.in_ok-free.free.items c.args.clients c.args.lanes c.args.place
    c.in_ok-seats.ensures.count c.in_ok-seats.ensures.each c.in_ok-lanes.ensures c.in_ok-free.ensures.places
