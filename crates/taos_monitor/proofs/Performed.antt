-- What came of an operation in the shards, by how its steps ended.
use Rattle.std.proofs.Common.{◌≡◌, ℕ, Bool, List, Option, Some, None, sym, subst}
use Rattle.std.specs.Prelude.{IsSome}
use Rattle.object_core.specs.Operation.{Op}
use Rattle.stmt_codec.specs.Certificates.{Certificate}
use Rattle.taos_wire.specs.Reply.{Reply}
use Rattle.agent_core.specs.declared.told.Told.{Told}
use Rattle.agent_core.specs.Shards.{ShardsSeen}
use Rattle.taos_monitor.specs.declared.due.Due.{Due}
use Rattle.taos_monitor.specs.declared.performing.Effected.{Effected}
use Rattle.taos_monitor.specs.declared.performing.Effected.TheVariants as effected
use Rattle.request_course.specs.Asking.{shard_full}
use Rattle.request_course.specs.Operations.{effect_of, targets_of}
use Rattle.request_course.specs.Effects.{ShardStep, FoundNoRoom, lacks_room, IsPerformed, through, not_held, no_room, no_place}
use Rattle.taos_monitor.specs.Performing.{EndAs, TellsHeld, SteppedBy, effect_due, shards_due, IsDueOf}

module _ (old new : ShardsSeen) where
  stepped_as : (E F : List ShardStep → Type 0) → ((steps : List ShardStep) → E steps → F steps) → SteppedBy old new E → SteppedBy old new F
  stepped_as E F f s = record { steps = s.steps; goes_on = s.goes_on; legal = s.legal; ends = f s.steps s.ends }

  module _ (op : Op) (certs : List Certificate) (reading : ℕ) (due : Due) (is_due : IsDueOf old.plans op certs reading due) where
    abbrev Ended : Effected → Type 0
    Ended r = SteppedBy old new (λ steps. EndAs new.seen (effect_due due) old.plans (shards_due due) steps r)

    abbrev Performed : Option Reply → Type 0
    Performed answer = SteppedBy old new (λ steps. IsPerformed old.plans new.seen op (effect_of op certs reading) steps answer)

    as_due : (r : Effected) → Ended r → SteppedBy old new (λ steps. EndAs new.seen (effect_of op certs reading) old.plans (targets_of old.plans op) steps r)
    as_due r ended =
        subst (λ ss. SteppedBy old new (λ steps. EndAs new.seen (effect_of op certs reading) old.plans ss steps r)) is_due.shards_are
        (subst (λ e. SteppedBy old new (λ steps. EndAs new.seen e old.plans (shards_due due) steps r)) is_due.effect_is ended)

    pub through_all : (removed : Bool) (answer : Option Reply) → TellsHeld op removed answer → Ended (effected.Through removed) → Performed answer
    through_all removed None tells ended =
        stepped_as _ _ (λ steps ends. through ends.0 (λ digest is. ends.1.0 (tells digest is))) (as_due (effected.Through removed) ended)
    through_all removed (Some reply) (digest, is, none, said) ended =
        subst (λ r. Performed (Some r)) (sym said)
        (stepped_as _ _ (λ steps ends. not_held digest is ends.0 (λ lets. none (ends.1.1 lets))) (as_due (effected.Through removed) ended))

    refused_so : (shard : ℕ) (told : Told) (steps : List ShardStep) (answer : Option Reply) → answer ≡ lacks_room shard told → IsSome answer → FoundNoRoom new.seen (effect_of op certs reading) (targets_of old.plans op) steps shard told →
        IsPerformed old.plans new.seen op (effect_of op certs reading) steps answer
    refused_so shard told steps None is some found = absurd cc
    refused_so shard told steps (Some reply) is some found = no_room (sym is) found

    pub stopped_by_room : (shard : ℕ) (told : Told) (answer : Option Reply) → answer ≡ lacks_room shard told → Ended (effected.NoRoom shard told) → Performed answer
    stopped_by_room shard told answer is ended =
        stepped_as _ _ (λ steps ends. refused_so shard told steps answer is (subst IsSome (sym is) (ends.1 shard)) ends.0) (as_due (effected.NoRoom shard told) ended)

    pub stopped_by_limit : (shard limit : ℕ) → Ended (effected.Full shard limit) → Performed (Some (shard_full shard limit))
    stopped_by_limit shard limit ended = stepped_as _ _ (λ steps ends. no_place ends) (as_due (effected.Full shard limit) ended)
