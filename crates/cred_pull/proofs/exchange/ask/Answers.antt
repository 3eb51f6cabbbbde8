-- Where no frame came there is no answer, and else the payload decides.
use Rattle.std.proofs.Common.{◌++◌, [], List, ℕ, Ok, ap, ◌∙◌, append-nil}
use Rattle.std.proofs.lemmas.Result.{err_from_is_err_and}
use Rattle.frame_link.specs.declared.outside.Failed.{Failed}
use Rattle.cred_pull.specs.Fetching.{pull_of}
use Rattle.cred_pull.specs.FetchLinks.{Streams, streams}
use Rattle.cred_pull.specs.FetchMessages.{fetching}
use Rattle.cred_pull.proofs.Exchanged.{broken, heard, unheard, within_heard}
use Rattle.cred_pull.proofs.exchange.ask.Goals as goal
use Rattle.cred_pull.proofs.exchange.ask.Goals.{in-Some, in-None}

pub returns-in_err-exchange_frames-clause-asks : goal.returns-in_err-exchange_frames-clause-asks
returns-in_err-exchange_frames-clause-asks g c =
    let asked = fetching c.args.channel c.args.seq in
    let request = c.lay.ensures.payload ∙ ap (λ (head : List ℕ). head ++ []) c.asking.ensures ∙ append-nil asked in
    let exchanged = rw (request, c.lay.ensures.limit ∙ c.room.invariant) at c.in_err-exchange_frames.ensures.exchanges in
    let failed = err_from_is_err_and c.from_residual.result c.from_residual.ensures.1 in
    rw failed.1 (broken asked _ _ exchanged)

pub returns-clause-asks : goal.returns-clause-asks
returns-clause-asks g c =
    let before : Streams = streams (g.I.Source.shown c.args.input.now) (g.O.Sink.shown c.args.output.now) in
    let after : Streams = streams (g.I.Source.shown c.exchange_frames.new.input) (g.O.Sink.shown c.exchange_frames.new.output) in
    let asked = fetching c.args.channel c.args.seq in
    let payload = c.exchange_frames.new.buf.payload in
    let request = c.lay.ensures.payload ∙ ap (λ (head : List ℕ). head ++ []) c.asking.ensures ∙ append-nil asked in
    let exchanged = rw (request, c.lay.ensures.limit ∙ c.room.invariant) at c.in_ok-exchange_frames.ensures.exchanges in
    elim c.match-read_answer.branch [
      | in-Some w ↦ rw w.result-is (heard asked payload before after exchanged (pull_of {E = Failed} (Ok w.in-Some.fetched)) (rw c.payload.ensures at w.in-Some.ensures.heard))
      | in-None w ↦ rw w.result-is (unheard asked payload before after exchanged (rw c.payload.ensures at w.in-None.ensures.none))
    ]

pub returns-clause-within : goal.returns-clause-within
returns-clause-within g c =
    let payload = c.exchange_frames.new.buf.payload in
    elim c.match-read_answer.branch [
      | in-Some w ↦ rw w.result-is (within_heard payload (pull_of {E = Failed} (Ok w.in-Some.fetched)) (rw c.payload.ensures at w.in-Some.ensures.heard))
      | in-None w ↦ rw w.result-is tt
    ]
