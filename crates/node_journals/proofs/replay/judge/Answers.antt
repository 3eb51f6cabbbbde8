-- the line is that of what the bytes come to, where they are not too many
use Rattle.std.proofs.Common.{Bool, List, ℕ, arith, subst₂, sym}
use Rattle.shard_core.specs.Cells.{cells_of}
use Rattle.node_journals.specs.Replaying.{IsToldOf, judged, too_large}
use Rattle.node_journals.proofs.replay.judge.Goals as goal

pub returns-then-bytes-gt-MAX_JOURNALS : goal.returns-then-bytes-gt-MAX_JOURNALS
returns-then-bytes-gt-MAX_JOURNALS c =
    subst₂ (λ (legal : Bool) (line : List ℕ). IsToldOf (cells_of c.args.node.now) c.args.bytes.now legal line) (sym c.too_large.ensures.legal) (sym c.too_large.ensures.line) (too_large (omega arith))

pub returns : goal.returns
returns c =
    subst₂ (λ (legal : Bool) (line : List ℕ). IsToldOf (cells_of c.args.node.now) c.args.bytes.now legal line) (sym c.is_legal.ensures) (sym c.line_of.ensures) (judged (omega arith) c.in_ok-answer.ensures)
