-- Which entry may follow in an object's journal.
use Rattle.std.specs.Prelude.{◌<◌, List, length}
use Rattle.object_core.specs.Objects.{ObjectEntry}
use Rattle.object_core.specs.Shelving.{ObjectFixed}

-- any may, where the journal is not full
abbrev pub HasRoom : ObjectFixed → List ObjectEntry → ObjectEntry → Type 0
HasRoom fixed before entry = length before < fixed.limit
