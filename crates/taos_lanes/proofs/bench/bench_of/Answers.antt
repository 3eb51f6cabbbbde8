-- the first commons are told in their order
use Rattle.std.proofs.Common.{◌≡◌, ℕ, take, sym, ap, ◌∙◌}
use Rattle.std.proofs.lemmas.List.{take-map, take_min}
use Rattle.lemma_memo.specs.Memory.{empty_memo}
use Rattle.stmt_codec.specs.View.{certificate_of, certificates}
use Rattle.taos_calculus.specs.declared.decide.TheConstants.{MAX_CERTS}
use Rattle.taos_lanes.proofs.bench.bench_of.Goals as goal

pub returns : goal.returns
returns c =
    let commons = c.args.commons.now in
    let first : certificates (take c.min.result commons) ≡ take MAX_CERTS (certificates commons) = ap (λ (n : ℕ). certificates (take n commons)) c.min.ensures ∙
    (ap certificates (take_min MAX_CERTS commons) ∙ sym (take-map certificate_of MAX_CERTS commons)) in
    c.in_ok-remembering.ensures.memo ∙ (λ i. empty_memo (c.min-room.ensures i) (c.in_ok-anchors.ensures i).items (first i))
