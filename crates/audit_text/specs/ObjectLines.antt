-- The text of an object's journal.
use Rattle.std.specs.Prelude.{ℕ, codes, length, List, [], ◌++◌}
use Rattle.std.specs.Fmt.{decimal}
use Rattle.hex.specs.Hex.{encode_lower}
use Rattle.prin_text.specs.Labels.{Labels}
use Rattle.prin_text.specs.Printing.{list_text}
use Rattle.object_core.specs.declared.ruling.Ruling.{Ruling}
use Rattle.object_core.specs.declared.ruling.Ruling.TheVariants.{Granted, Denied}
use Rattle.object_core.specs.Objects.{ObjectEntry}
use Rattle.object_core.specs.Operation.{Op, Read, Write, SetList, Hold, Discard, Forget, Sweep, Withdraw}
use Rattle.audit_text.specs.Lines.{front, line, numbered, text_of}

-- no texts of names or roles: each is told by its number
abbrev pub unnamed : Labels
unnamed = record { names = []; roles = [] }

-- what was asked: of a content the count of its bytes
abbrev pub operation_text : Op → List ℕ
operation_text Read = codes "read"
operation_text (Write content) = numbered (codes "write") (length content)
operation_text (SetList list) = codes "list " ++ list_text unnamed list
operation_text Hold = codes "hold"
operation_text (Discard digest) = codes "discard " ++ encode_lower digest
operation_text (Forget channel) = numbered (codes "forget") channel
operation_text Sweep = codes "sweep"
operation_text (Withdraw issuer) = numbered (codes "withdraw") issuer

-- what was ruled
abbrev pub ruling_text : Ruling → List ℕ
ruling_text (Granted entry) = numbered (codes "granted") entry
ruling_text Denied = codes "denied"

-- by which Ask it was ruled, its shard and its place there, and what was asked
abbrev pub asked_text : ObjectEntry → List ℕ
asked_text e =
    numbered (codes "ask") e.shard ++ codes "/" ++ decimal e.place ++ codes " "
    ++ operation_text e.op

-- the line of an entry of this object, at its place
abbrev pub object_line : ℕ → ℕ → ObjectEntry → List ℕ
object_line number place e =
    line (front (codes "object") number place) (asked_text e) (ruling_text e.ruling)

-- the text of an object's journal
abbrev pub object_text : ℕ → List ObjectEntry → List ℕ
object_text number journal = text_of (object_line number) journal
