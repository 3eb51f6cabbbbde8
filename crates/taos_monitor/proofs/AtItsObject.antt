-- What came of a request at its object, by what is promised of taking the object and of giving it back.
use Rattle.std.proofs.Common.{◌≡◌, ◌≢◌, ℕ, ◌<◌, ◌≤◌, List, [], ◌∷◌, ◌++◌, length, Option, None, Some, sym, ap, subst, ◌∙◌}
use Rattle.std.specs.Prelude.{IfSome, MatchOption}
use Rattle.std.proofs.lemmas.Option.{same_Some}
use Rattle.object_core.specs.Objects.{ObjectEntry, ObjectSeen}
use Rattle.object_core.specs.Operation.{Op}
use Rattle.object_core.specs.Shelving.{AreWithin, LeavesObjects, ObjectFixed, ShelfSeen, TakenFrom, fixed_of, fixed_at}
use Rattle.object_core.specs.Shelving.{GoesOn as TakenOn}
use Rattle.stmt_codec.specs.View.{certificates}
use Rattle.taos_wire.specs.Reply.{Reply}
use Rattle.taos_wire.specs.View.{request}
use Rattle.agent_core.specs.Shards.{ShardsSeen}
use Rattle.agent_core.specs.State.{Plan}
use Rattle.taos_monitor.specs.declared.deciding.Came.{Came}
use Rattle.taos_monitor.specs.declared.deciding.Ruled.{Ruled}
use Rattle.taos_monitor.specs.declared.due.Due.{Due}
use Rattle.request_course.specs.AtObject.{ruled_as, told_or}
use Rattle.request_course.specs.Cells.{Seen, ShardsStay, seen_by}
use Rattle.taos_monitor.specs.Performing.{IsDueOf, PerformsRuled}
use Rattle.taos_monitor.specs.Ruling.{DecidedTo, GuardedTo, seeking_of, standing_by}
use Rattle.taos_monitor.proofs.Guards.{fixed_at-number, guarded_unruled, guarded_ruled, stepped_over}

module _ (shards0 shards1 : ShardsSeen) (shelf0 lent shelf1 : ShelfSeen) (c : Came) (within : AreWithin shelf0.objects shelf0.seen) {r : Option ObjectSeen}
    (o : ObjectSeen) (is : r ≡ Some o) (takes : TakenFrom shelf0 lent (request c.asked.now).object r) (gives : LeavesObjects lent shelf1 o.plan.number) where
  abbrev number : ℕ
  number = (request c.asked.now).object

  -- what was taken is the object of the request
  found : fixed_at shelf0.objects number ≡ Some (fixed_of o)
  found = subst (λ (q : Option ObjectSeen). MatchOption q (fixed_at shelf0.objects number ≡ None) (λ (s : ObjectSeen). fixed_at shelf0.objects number ≡ Some (fixed_of s))) is takes.found

  taken : TakenOn shelf0.alone (shelf0.seen number) o
  taken = subst (λ (q : Option ObjectSeen). IfSome q (TakenOn shelf0.alone (shelf0.seen number))) is takes.journal

  here : o.plan.number ≡ number
  here = fixed_at-number shelf0.objects number (fixed_of o) found

  -- no other changes
  others : (n : ℕ) → n ≢ number → (shelf1.seen n ≡ shelf0.seen n) × (shelf1.own n ≡ shelf0.own n)
  others n not =
      let was = gives.others n (λ same. not (same ∙ here)) in
      (was.0 ∙ ap (λ (f : ℕ → List ObjectEntry). f n) takes.rest.seen, was.1 ∙ ap (λ (f : ℕ → List ℕ). f n) takes.rest.own)

  owned : lent.own number ≡ shelf0.own number
  owned = ap (λ (f : ℕ → List ℕ). f number) takes.rest.own

  abbrev Guarded : ObjectFixed → Seen → Reply → Type 0
  Guarded fixed after reply = GuardedTo (standing_by shards0 shelf0) (seen_by shards0 shelf0) after (seeking_of c fixed) reply

  as_found : (fixed : ObjectFixed) (after : Seen) (reply : Reply) → fixed_at shelf0.objects number ≡ Some fixed → Guarded (fixed_of o) after reply → Guarded fixed after reply
  as_found fixed after reply at = subst (λ (f : ObjectFixed). Guarded f after reply) (same_Some (fixed_of o) fixed (sym found ∙ at))

  -- it was given back as it was taken
  pub unruled_here : (fixed : ObjectFixed) → fixed_at shelf0.objects number ≡ Some fixed → (ruled : Option Ruled) (reply : Reply) → DecidedTo shards0 shards1 (c, o, ruled) reply → ruled ≡ None →
      shelf1.seen o.plan.number ≡ o.journal → shelf1.own o.plan.number ≡ lent.own o.plan.number → length o.journal ≤ o.limit → Guarded fixed (seen_by shards1 shelf1) reply
  unruled_here fixed at ruled reply decided none seen own fits =
      as_found fixed (seen_by shards1 shelf1) reply at
      (guarded_unruled shards0 shelf0 c within o found taken shelf1 others shards1 ruled reply decided none
      (subst (λ (k : ℕ). shelf1.seen k ≡ o.journal) here seen) (subst (λ (k : ℕ). shelf1.own k ≡ lent.own k) here own ∙ owned) fits)

  -- it was given back with a ruling, and what that grants was performed
  module _ (fixed : ObjectFixed) (at : fixed_at shelf0.objects number ≡ Some fixed) (ruled : Option Ruled) (reply : Reply) (decided : DecidedTo shards0 shards1 (c, o, ruled) reply)
      (room : IfSome ruled (λ _. length o.journal < o.limit)) (stays : ShardsStay shards0 shards1) {q : Ruled} (some : ruled ≡ Some q) where
    pub ruled_here : {e : ObjectEntry} → e ≡ ruled_as q.shard q.place (request c.asked.now).op q.ruling →
        shelf1.seen o.plan.number ≡ o.journal ++ e ∷ [] → shelf1.own o.plan.number ≡ lent.own o.plan.number ++ length o.journal ∷ [] →
        (op : Op) → op ≡ (request c.asked.now).op → {count : ℕ} → count ≡ length shards0.plans → {due : Due} →
        ((plans : List Plan) → length plans ≡ count → IsDueOf plans (request c.asked.now).op (certificates c.arrived.certs.items) c.reading due) →
        (shards2 : ShardsSeen) (answer refused : Option Reply) → PerformsRuled shards1 shards2 op due q.ruling answer → answer ≡ refused →
        Guarded fixed (seen_by shards2 shelf1) (told_or refused reply)
    ruled_here entry seen own op same {count = count} counted {due = due} dues shards2 answer refused performs told =
        let x = request c.asked.now in
        let certs = certificates c.arrived.certs.items in
        as_found fixed (seen_by shards2 shelf1) (told_or refused reply) at
        (guarded_ruled shards0 shelf0 c within o found taken shelf1 others shards1 q
        (subst (λ (k : ℕ). shelf1.seen k ≡ o.journal ++ ruled_as q.shard q.place x.op q.ruling ∷ []) here (seen ∙ ap (λ (e : ObjectEntry). o.journal ++ e ∷ []) entry))
        (subst (λ (k : ℕ). shelf1.own k ≡ lent.own k ++ length o.journal ∷ []) here own ∙ ap (λ (l : List ℕ). l ++ length o.journal ∷ []) owned)
        (subst (λ (s : Option Ruled). IfSome s (λ _. length o.journal < o.limit)) some room)
        shards2 ruled reply refused decided some
        (stepped_over shards0 shards1 shards2 stays.plans stays.alone q.ruling x.op op same certs c.reading answer refused told
        (performs certs c.reading
        (subst (λ (p : Op). IsDueOf shards1.plans p certs c.reading due) (sym same) (dues shards1.plans (ap (λ (l : List Plan). length l) stays.plans ∙ sym counted))))))
