-- What a lane sends is whole frames.
use Rattle.std.proofs.Common.{ℕ, ◌≤◌, List, [], ◌∷◌, length, map, sym, inl, append-nil, arith}
use Rattle.std.specs.Prelude.{All}
use Rattle.std.proofs.lemmas.List.Elements.{All-cons, All-nil}
use Rattle.frame_link.specs.Frames.{Splits, in_word}
use Rattle.taos_drill.specs.Sent.{drill_stream, payload_of, requests_of}
use Rattle.taos_drill.proofs.Asking.{length-payload}

abbrev IsShort : List ℕ → Type 0
IsShort payload = length payload ≤ 65536

each_short : (seed lanes : ℕ) (is : List ℕ) → All IsShort (map (payload_of seed lanes) is)
each_short seed lanes [] = All-nil IsShort
each_short seed lanes (i ∷ is) =
    let short : IsShort (payload_of seed lanes i) = omega (arith, length-payload seed lanes i) in
    All-cons IsShort (payload_of seed lanes i) (map (payload_of seed lanes) is) short (each_short seed lanes is)

pub stream_splits : (seed requests lanes lane : ℕ) → Splits 65536 (drill_stream seed requests lanes lane) (map (payload_of seed lanes) (requests_of requests lanes lane)) []
stream_splits seed requests lanes lane = record {
  whole = sym (append-nil (drill_stream seed requests lanes lane));
  each = each_short seed lanes (requests_of requests lanes lane);
  no_more = inl (in_word (omega arith));
}
