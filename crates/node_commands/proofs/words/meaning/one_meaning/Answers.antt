use Rattle.std.specs.Prelude.{map, string_bytes}
use Rattle.node_commands.proofs.Meanings as law
use Rattle.node_commands.proofs.words.meaning.one_meaning.Goals as goal

pub returns : goal.returns
returns c = λ words a b x y. law.one_meaning (map string_bytes words) a b x y
