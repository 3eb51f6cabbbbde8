use Rattle.std.proofs.Common.{◌≤◌}
use Rattle.arrayvec.specs.ArrayVec.{array_vec_len}
use Rattle.stmt_codec.specs.View.{certificates}
use Rattle.denial_link.specs.Keys.{KeysBelow}
use Rattle.denial_link.proofs.order.out_keys.Given as goal

abbrev pub invariant-loop-place : goal.invariant-loop-place
invariant-loop-place l =
    KeysBelow (certificates l.certs) l.moment l.place l.keys.items ×
    (array_vec_len l.keys ≤ l.place)
