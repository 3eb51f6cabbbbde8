use Rattle.std.proofs.Common.{◌≡◌, inl, refl, List, Ok, map, ltb, length, ap, sym, subst, ◌∙◌, true, false, arith}
use Rattle.std.proofs.lemmas.Bool.{le-ltb, lt-ltb}
use Rattle.std.proofs.lemmas.List.{length-map}
use Rattle.std.proofs.lemmas.Result.{err_from_is_err_and}
use Rattle.object_core.specs.Objects.{ObjectSeen}
use Rattle.object_core.specs.Shelving.{fixed_of}
use Rattle.agent_core.specs.Journals.{ShardSeen}
use Rattle.shard_core.specs.Opened.{new_shard}
use Rattle.node_file.specs.Meaning.{opening}
use Rattle.shard_core.specs.Cells.{cells_of, its_plans}
use Rattle.journal_bytes.specs.JournalsReading.{head_at, journals_in, objects_at}
use Rattle.audit_replay.specs.declared.replayed.Replayed.{Replayed}
use Rattle.audit_replay.specs.declared.stepping.ShardReplay.{ShardReplay}
use Rattle.audit_replay.specs.Passes.{ObjectsCome}
use Rattle.audit_replay.specs.Replays.{AreReplayed}
use Rattle.audit_replay.specs.Stepping.{MakesOf}
use Rattle.audit_replay.proofs.AllComing.{all_made, more_behind, objects_fresh, objects_refused, shards_fresh}
use Rattle.audit_replay.proofs.Composed.{no_head, no_shards}
use Rattle.audit_replay.proofs.replaying.replay_all.Goals as goal

pub returns-in_err-shards : goal.returns-in_err-shards
returns-in_err-shards g c =
    let p = err_from_is_err_and c.from_residual.result c.from_residual.ensures.1 in
    rw (p.1, p.2) (inl refl)

pub objects_of-requires : goal.objects_of-requires
objects_of-requires g c = c.requires.objects

pub returns-in_err-objects : goal.returns-in_err-objects
returns-in_err-objects g c =
    let p = err_from_is_err_and c.from_residual-in_err-objects.result c.from_residual-in_err-objects.ensures.1 in
    rw (p.1, p.2) (inl refl)

pub returns-in_err-next : goal.returns-in_err-next
returns-in_err-next g c =
    let p = err_from_is_err_and c.from_residual-in_err-next.result c.from_residual-in_err-next.ensures.1 in
    rw (p.1, p.2) (no_head c.args.bytes.now (AreReplayed (cells_of c.args.node.now)) c.in_err-next.field-0.0 (sym c.in_err-next.ensures.value))

pub all_shards-requires : goal.all_shards-requires
all_shards-requires g c = record {
  within = c.in_ok-next.ensures.within;
  few = omega (arith, c.in_ok-shards.ensures.whole.few, length-map c.in_ok-shards.shards.items (λ (s : ShardSeen). s.plan));
}

pub returns-in_err-replayed : goal.returns-in_err-replayed
returns-in_err-replayed g c =
    let bytes = c.args.bytes.now in
    let p = err_from_is_err_and c.from_residual-in_err-replayed.result c.from_residual-in_err-replayed.ensures.1 in
    let head : head_at bytes 0 ≡ Ok (c.in_ok-next.field-0-0, c.in_ok-next.next) = sym c.in_ok-next.ensures.value in
    rw (p.1, p.2) (no_shards bytes c.in_ok-next.field-0-0 c.in_ok-next.next (AreReplayed (cells_of c.args.node.now)) c.in_err-replayed.field-0.0 head c.in_err-replayed.ensures.value)

pub returns-in_err-progress : goal.returns-in_err-progress
returns-in_err-progress g c =
    let bytes = c.args.bytes.now in
    let p = err_from_is_err_and c.from_residual-in_err-progress.result c.from_residual-in_err-progress.ensures.1 in
    let head : head_at bytes 0 ≡ Ok (c.in_ok-next.field-0-0, c.in_ok-next.next) = sym c.in_ok-next.ensures.value in
    rw (p.1, p.2) (objects_refused (cells_of c.args.node.now) c.in_ok-shards.shards.items c.in_ok-objects.objects.items bytes c.in_ok-next.field-0-0 c.in_ok-next.next head c.in_ok-replayed.replayed c.in_ok-replayed.progress c.in_ok-replayed.next c.in_ok-replayed.ensures.value
    c.in_err-progress.field-0.0 c.in_err-progress.ensures.value)

pub returns-then-end-bytes : goal.returns-then-end-bytes
returns-then-end-bytes g c =
    let bytes = c.args.bytes.now in
    let objects = c.in_ok-objects.objects.items in
    let rs = c.in_ok-replayed.replayed in
    let head : head_at bytes 0 ≡ Ok (c.in_ok-next.field-0-0, c.in_ok-next.next) = sym c.in_ok-next.ensures.value in
    let two = subst (λ (l : List ShardReplay). MakesOf (ObjectsCome l objects c.in_ok-replayed.progress) (Ok (c.in_ok-progress.progress, c.in_ok-progress.end)) (objects_at bytes c.in_ok-replayed.next)) c.deref_mut.ensures.value c.in_ok-progress.ensures.value in
    let more : ltb c.in_ok-progress.end (length bytes) ≡ true = lt-ltb _ _ (omega arith) in
    more_behind (cells_of c.args.node.now) c.in_ok-shards.shards.items objects bytes c.in_ok-next.field-0-0 c.in_ok-next.next head rs c.in_ok-replayed.progress c.in_ok-replayed.next c.in_ok-replayed.ensures.value c.in_ok-progress.progress c.in_ok-progress.end two more

pub returns : goal.returns
returns g c =
    let node = c.args.node.now in
    let cells = cells_of node in
    let bytes = c.args.bytes.now in
    let shards = c.in_ok-shards.shards.items in
    let objects = c.in_ok-objects.objects.items in
    let rs = c.in_ok-replayed.replayed in
    let plans = its_plans (opening node) node.channels.entries in
    let head : head_at bytes 0 ≡ Ok (c.in_ok-next.field-0-0, c.in_ok-next.next) = sym c.in_ok-next.ensures.value in
    let two = subst (λ (l : List ShardReplay). MakesOf (ObjectsCome l objects c.in_ok-replayed.progress) (Ok (c.in_ok-progress.progress, c.in_ok-progress.end)) (objects_at bytes c.in_ok-replayed.next)) c.deref_mut.ensures.value c.in_ok-progress.ensures.value in
    let count : length shards ≡ length plans = ap (λ (l : List ShardSeen). length l) c.in_ok-shards.ensures.opened ∙ length-map plans new_shard in
    let fixed = ap (λ (l : List ObjectSeen). map fixed_of l) (sym c.in_ok-objects.ensures.opened) in
    let new = shards_fresh plans shards node.anchors.value.items c.in_ok-shards.ensures.opened c.in_ok-shards.ensures.whole in
    let fresh = objects_fresh cells node.limit node.objects objects c.in_ok-objects.ensures.opened fixed in
    let whole : ltb c.in_ok-progress.end (length bytes) ≡ false = le-ltb _ _ (omega arith) in
    subst (λ (r : Replayed). MakesOf (AreReplayed cells) (Ok r) (journals_in bytes)) (sym c.outcome.ensures)
    (all_made cells shards objects bytes c.in_ok-next.field-0-0 c.in_ok-next.next head rs c.in_ok-replayed.progress c.in_ok-replayed.next c.in_ok-replayed.ensures.value c.in_ok-progress.progress c.in_ok-progress.end two count fixed new fresh whole)
