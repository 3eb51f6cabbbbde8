-- What a note leaves, by what writing it answers.
use Rattle.std.proofs.Common.{◌≡◌, ℕ, ◌<◌, List, ◌++◌, length, Result, Ok, Err}
use Rattle.std.specs.Prelude.{Option, OnOk, OnErr}
use Rattle.std.specs.Io.KnownBytes.{Appends}
use Rattle.frame_link.specs.Faults.{HasCause}
use Rattle.taos_node.specs.Notes.{IsNoted, whole, cut}

pub is_noted : {T E : Type 0} (before after : Option (List ℕ)) (n0 n1 : ℕ) (note : List ℕ) (r : Result T E) → OnOk r (Appends before after note)
    → OnErr r ((part more : List ℕ) × (note ≡ part ++ more) × (0 < length more) × Appends before after part) → HasCause n0 n1 r → IsNoted before after n0 n1 note
is_noted before after n0 n1 note (Ok x) all part cause = whole cause.steady all
is_noted before after n0 n1 note (Err e) all part cause = cut part.0 part.1 part.2 part.3 cause.later cause.failed part.4
