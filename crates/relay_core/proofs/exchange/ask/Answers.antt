-- Where no frame came there is no answer, and else the payload decides.
use Rattle.std.proofs.Common.{◌≡◌, ◌++◌, List, ℕ, ap, ◌∙◌}
use Rattle.std.proofs.lemmas.Result.{err_from_is_err_and}
use Rattle.relay_core.specs.Messages.{asking}
use Rattle.relay_core.specs.Links.{Streams, streams}
use Rattle.relay_core.proofs.Exchanging.{broken, spelled, unspelled}
use Rattle.relay_core.proofs.exchange.ask.Goals as goal
use Rattle.relay_core.proofs.exchange.ask.Goals.{in-Some, in-None}

pub returns-in_err-exchange_frames-clause-asks : goal.returns-in_err-exchange_frames-clause-asks
returns-in_err-exchange_frames-clause-asks g c =
    let request = c.lay.ensures.payload ∙ ap (λ (head : List ℕ). head ++ c.args.sealed.now) c.head_of.ensures in
    let exchanged = rw (request, c.lay.ensures.limit ∙ c.room.invariant) at c.in_err-exchange_frames.ensures.exchanges in
    let failed = err_from_is_err_and c.from_residual.result c.from_residual.ensures.1 in
    rw failed.1 (c.requires.empty, broken (asking c.args.node c.args.sealed.now) _ _ exchanged)

pub returns-clause-asks : goal.returns-clause-asks
returns-clause-asks g c =
    let before : Streams = streams (g.I.Source.shown c.args.input.now) (g.O.Sink.shown c.args.output.now) in
    let after : Streams = streams (g.I.Source.shown c.exchange_frames.new.input) (g.O.Sink.shown c.exchange_frames.new.output) in
    let asked = asking c.args.node c.args.sealed.now in
    let payload = c.exchange_frames.new.buf.payload in
    let request = c.lay.ensures.payload ∙ ap (λ (head : List ℕ). head ++ c.args.sealed.now) c.head_of.ensures in
    let exchanged = rw (request, c.lay.ensures.limit ∙ c.room.invariant) at c.in_ok-exchange_frames.ensures.exchanges in
    elim c.match-read_answer.branch [
      | in-Some w ↦ rw w.result-is (spelled asked payload before after exchanged w.in-Some.answer c.read_answer.new.out.items (rw c.payload.ensures at w.in-Some.ensures.some))
      | in-None w ↦ rw w.result-is (w.in-None.ensures.empty, unspelled asked payload before after exchanged (rw c.payload.ensures at w.in-None.ensures.none))
    ]
