-- what the input brings is judged, and its line was written
use Rattle.std.proofs.Common.{List, ℕ, refl, subst, sym, ◌∙◌}
use Rattle.std.proofs.KnownBytes.{Keeps-refl}
use Rattle.std.specs.Io.KnownBytes.{Appends}
use Rattle.shard_core.specs.Cells.{cells_of}
use Rattle.node_journals.specs.Replaying.{IsToldOf}
use Rattle.node_journals.proofs.Brought.{all_brought}
use Rattle.node_journals.proofs.replay.replay_input.Goals as goal

pub returns-in-Err-Failed-clause-replays : goal.returns-in-Err-Failed-clause-replays
returns-in-Err-Failed-clause-replays g c = λ o r. let part = c.in-Err-Failed.ensures.part in ((part.0, part.2, part.1), Keeps-refl _)

pub returns-in-Err-Failed-clause-causes : goal.returns-in-Err-Failed-clause-causes
returns-in-Err-Failed-clause-causes g c = let rose = rw c.in-Err-Failed.field-0-is at c.in-Err-Failed.ensures.cause in (rose.0, rose.1, refl)

pub returns-in-Err-NoMemory-clause-replays : goal.returns-in-Err-NoMemory-clause-replays
returns-in-Err-NoMemory-clause-replays g c = λ o r. let part = c.in-Err-NoMemory.ensures.part in ((part.0, part.2, part.1), Keeps-refl _)

pub returns-in-Err-NoMemory-clause-causes : goal.returns-in-Err-NoMemory-clause-causes
returns-in-Err-NoMemory-clause-causes g c = let same = rw c.in-Err-NoMemory.field-0-is at c.in-Err-NoMemory.ensures.cause in (same, refl)

pub returns-in_default-clause-replays : goal.returns-in_default-clause-replays
returns-in_default-clause-replays g c = λ o r. ((c.in-Ok.bytes.items, c.in-Ok.ensures.read, c.in-Ok.ensures.few), Keeps-refl _)

pub returns-in-Ok-pour-clause-replays : goal.returns-in-Ok-pour-clause-replays
returns-in-Ok-pour-clause-replays g c = λ o r.
    let cells = cells_of c.args.node.now in
    let judged = c.in-Ok-judge.judged in (
      judged.line.items,
      record {
        cells = cells;
        are = c.cells_are.ensures o r;
        bytes = c.in-Ok.bytes.items;
        brings = all_brought _ _ c.in-Ok.bytes.items c.in-Ok.ensures.read c.in-Ok.ensures.whole c.in-Ok.ensures.few;
        told = subst (λ (l : List ℕ). IsToldOf cells l judged.legal judged.line.items) c.as_slice.ensures.value c.in-Ok-judge.ensures;
      },
      subst (Appends (g.O.Sink.shown c.args.output.now).told (g.O.Sink.shown c.pour.new.sink).told) c.deref.ensures.0 c.in-Ok-pour.ensures.all,
    )

pub returns-clause-replays : goal.returns-clause-replays
returns-clause-replays g c = λ o r.
    let cells = cells_of c.args.node.now in
    let judged = c.in-Ok-judge.judged in
    let part = c.in-Err.ensures.part in (
      judged.legal,
      judged.line.items,
      record {
        cells = cells;
        are = c.cells_are.ensures o r;
        bytes = c.in-Ok.bytes.items;
        brings = all_brought _ _ c.in-Ok.bytes.items c.in-Ok.ensures.read c.in-Ok.ensures.whole c.in-Ok.ensures.few;
        told = subst (λ (l : List ℕ). IsToldOf cells l judged.legal judged.line.items) c.as_slice.ensures.value c.in-Ok-judge.ensures;
      },
      (part.0, part.1, sym c.deref.ensures.0 ∙ part.2, part.3, part.4),
    )
