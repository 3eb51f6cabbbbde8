-- What the parts of a reader in the program stand for.
use Rattle.std.specs.Prelude.{List, map, reverse}
use Rattle.prin_term.specs.Kind as kinds
use Rattle.prin_term.specs.View.{principal}
use Rattle.prin_text.specs.Pieces as pieces
use Rattle.prin_text.specs.Reading as reading
use Rattle.prin_text.specs.declared.piece.Compound.{Compound}
use Rattle.prin_text.specs.declared.piece.Compound.TheVariants.{And, Quote, For}
use Rattle.prin_text.specs.declared.piece.Part.{Part}
use Rattle.prin_text.specs.declared.piece.Part.TheVariants.{Built, Deep}
use Rattle.prin_text.specs.declared.piece.Due.{Due}
use Rattle.prin_text.specs.declared.piece.Due.TheVariants.{First, Second}
use Rattle.prin_text.specs.declared.piece.Place.{Place}
use Rattle.prin_text.specs.declared.piece.Place.TheVariants.{Operand, One, Role, Whole}

-- the kind of a compound
abbrev pub kind : Compound → kinds.Kind
kind And = kinds.And
kind Quote = kinds.Quoting
kind For = kinds.For

-- the piece that a part stands for
abbrev pub piece : Part → pieces.Piece
piece (Built term levels) = pieces.Built (principal term) levels
piece Deep = pieces.Deep

-- what is due
abbrev pub due : Due → reading.Pending
due First = reading.First
due (Second part compound) = reading.Second (piece part) (kind compound)

-- what was read
abbrev pub place : Place → reading.Stage
place (Operand d) = reading.Operand (due d)
place (One part) = reading.One (piece part)
place (Role part) = reading.Role (piece part)
place (Whole part) = reading.Whole (piece part)

-- the principals that are open, the innermost first
abbrev pub opened : List Due → List reading.Pending
opened ds = reverse (map due ds)
