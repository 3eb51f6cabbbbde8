use Rattle.std.proofs.Common.{List, subst, sym}
use Rattle.std.specs.Prelude.{All}
use Rattle.object_core.specs.Objects.{ObjectEntry}
use Rattle.object_core.specs.Operation.{FitsOperation}
use Rattle.journal_bytes.proofs.journals_writing.push_object.Goals as goal

pub push_numbered-requires : goal.push_numbered-requires
push_numbered-requires c = record {
  fit = subst (λ (j : List ObjectEntry). All (λ (e : ObjectEntry). FitsOperation e.op) j) (sym c.journal.ensures.value) c.requires.fit;
}

pub returns : goal.returns
returns c = rw (sym c.journal.ensures.value, sym c.number.ensures) c.push_numbered.ensures
