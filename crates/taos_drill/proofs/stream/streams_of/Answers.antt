use Rattle.std.proofs.Common.{◌+◌, List, ℕ, map, ap, ◌∙◌}
use Rattle.std.proofs.lemmas.List.{map_push}
use Rattle.sealed_cert.specs.declared.kind.TheConstants.{RELAYED}
use Rattle.sealed_cert.specs.Seals.{sealed}
use Rattle.taos_wire.specs.View.{text_of}
use Rattle.taos_drill.specs.Sent.{drill_certificate}
use Rattle.taos_drill.proofs.Streams.{lanes_more}
use Rattle.taos_drill.proofs.stream.streams_of.Goals as goal

pub lanes-preserved : goal.lanes-preserved
lanes-preserved c = λ seed requests keys words.
    let lane = c.lanes.lane in
    let stream = c.in_ok-stream_of.field-0 in
    let keyed = c.in_ok-caller.ensures.key ∙ c.key_at-key.ensures seed c.args.lanes keys in
    let shown = c.in_ok-caller.ensures.cert ∙ ap (λ (k : List ℕ). sealed RELAYED k (drill_certificate (lane + 1))) (c.key_at-relay_key.ensures seed c.args.lanes keys) in
    lanes_more seed requests c.args.lanes lane (map text_of c.lanes.streams.items) (map text_of c.push.new.self.items) stream.items (c.lanes.invariant seed requests keys words)
    (ap (map text_of) c.in_ok-push.ensures.items ∙ map_push text_of c.lanes.streams.items stream)
    (c.in_ok-stream_of.ensures seed requests words keyed shown)
