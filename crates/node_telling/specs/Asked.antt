-- Who asks what, as members of a line.
use Rattle.std.specs.Prelude.{ℕ, ◌==◌, Option, Some, None, if◌then◌else◌, codes, List, [], ◌++◌}
use Rattle.json.specs.Token.{Token}
use Rattle.object_core.specs.Operation.{Op, Read, Write, SetList, Hold, Discard, Forget, Sweep, Withdraw, right_of}
use Rattle.prin_term.specs.Principal.{Principal}
use Rattle.prin_text.specs.Labels.{Labels}
use Rattle.prin_text.specs.Printing.{principal_text}
use Rattle.taos_wire.specs.Request.{Request}
use Rattle.node_telling.specs.Members.{counted, worded}

abbrev pub operation_word : Op → List ℕ
operation_word Read = codes "read"
operation_word (Write content) = codes "write"
operation_word (SetList list) = codes "list"
operation_word Hold = codes "hold"
operation_word (Discard digest) = codes "discard"
operation_word (Forget channel) = codes "forget"
operation_word Sweep = codes "sweep"
operation_word (Withdraw issuer) = codes "withdraw"

-- a right, of 1, 2, 4 and 8
abbrev pub right_word : ℕ → List ℕ
right_word right =
    if right == 1 then codes "read"
    else if right == 2 then codes "write"
    else if right == 4 then codes "control"
    else codes "manage"

-- whom the channel quotes, if anybody
abbrev pub quoted_members : Labels → Option Principal → List Token
quoted_members labels (Some p) = worded (codes "quoted") (principal_text labels p)
quoted_members labels None = []

-- who asks what
abbrev pub asked_members : Labels → Request → List Token
asked_members labels r =
    counted (codes "channel") r.channel ++ counted (codes "number") r.seq
    ++ quoted_members labels r.quoted ++ worded (codes "operation") (operation_word r.op)
    ++ counted (codes "object") r.object ++ worded (codes "right") (right_word (right_of r.op))
