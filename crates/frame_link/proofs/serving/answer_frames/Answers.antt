use Rattle.std.proofs.Common.{◌≡◌, ◌<◌, ℕ, List, [], length, refl, subst, ◌∙◌, arith, rules}
use Rattle.std.specs.Io.KnownBytes.{Consumes, Appends}
use Rattle.frame_link.specs.declared.frame.Next.{Next}
use Rattle.frame_link.specs.declared.frame.Next.TheVariants as next
use Rattle.frame_link.specs.declared.frame.Put.TheVariants as put
use Rattle.frame_link.specs.declared.service.TheConstants.{MAX_PAYLOAD}
use Rattle.frame_link.specs.Frames.{frame}
use Rattle.frame_link.specs.Next.{TakesFrame, Puts}
use Rattle.frame_link.specs.Streams.{Stream}
use Rattle.frame_link.specs.declared.outcome.Outcome.TheVariants.{End}
use Rattle.frame_link.specs.Served.{Line, line, IsServed}
use Rattle.frame_link.proofs.Turns.{Progress, started, goes_on}
use Rattle.frame_link.proofs.Ends.{at_end, truncated, above, unread, spent, cut, dropped, nothing_read, at_its_end, one_byte}
use Rattle.frame_link.proofs.serving.answer_frames.Goals as goal

-- the buffer's limit is a service's
within_limit : (k : ℕ) (before after : Stream) (payload : List ℕ) (other : Next) → k ≡ MAX_PAYLOAD → TakesFrame k before after payload other → TakesFrame MAX_PAYLOAD before after payload other
within_limit k before after payload other is came = subst (λ (n : ℕ). TakesFrame n before after payload other) is came

progress_at : {S : Type 0} (answers : S → List ℕ → List ℕ → S → Type 0) (m n : ℕ) (l0 l1 : Line S) → m ≡ n → Progress answers m l0 l1 → Progress answers n l0 l1
progress_at answers m n l0 l1 is p = subst (λ (k : ℕ). Progress answers k l0 l1) is p

pub loop-answered-init : goal.loop-answered-init
loop-answered-init g c =
    record {
      limit = c.requires.limit;
      stands = c.requires.stands;
      same = refl;
      progress = started g.S.Service.answers (line (g.I.Source.shown c.args.input.now) (g.O.Sink.shown c.args.output.now) c.args.service.now);
      input_steady = refl;
      output_steady = refl;
      clock_steady = refl;
    }

pub returns-in-End-clause-served : goal.returns-in-End-clause-served
returns-in-End-clause-served g c =
    at_end _ _ c.loop-answered.answered c.args.frames _ _ (g.I.Source.shown c.next_frame.new.source) (omega (arith, c.loop-answered-test.true)) c.loop-answered.invariant.progress
    (within_limit _ (g.I.Source.shown c.loop-answered.input) (g.I.Source.shown c.next_frame.new.source) [] next.End c.loop-answered.invariant.limit c.in-End.ensures.bytes)

pub returns-in-Truncated-clause-served : goal.returns-in-Truncated-clause-served
returns-in-Truncated-clause-served g c =
    truncated _ _ c.loop-answered.answered c.args.frames c.in-Truncated.have _ _ (g.I.Source.shown c.next_frame.new.source) (omega (arith, c.loop-answered-test.true)) c.loop-answered.invariant.progress
    (within_limit _ (g.I.Source.shown c.loop-answered.input) (g.I.Source.shown c.next_frame.new.source) [] (next.Truncated c.in-Truncated.have) c.loop-answered.invariant.limit c.in-Truncated.ensures.bytes)

pub returns-in-TooLong-clause-served : goal.returns-in-TooLong-clause-served
returns-in-TooLong-clause-served g c =
    above _ _ c.loop-answered.answered c.args.frames c.in-TooLong.length _ _ (g.I.Source.shown c.next_frame.new.source) (omega (arith, c.loop-answered-test.true)) c.loop-answered.invariant.progress
    (within_limit _ (g.I.Source.shown c.loop-answered.input) (g.I.Source.shown c.next_frame.new.source) [] (next.TooLong c.in-TooLong.length) c.loop-answered.invariant.limit c.in-TooLong.ensures.bytes)

pub returns-in-ReadFault-clause-served : goal.returns-in-ReadFault-clause-served
returns-in-ReadFault-clause-served g c =
    unread _ _ c.loop-answered.answered c.args.frames _ _ (g.I.Source.shown c.next_frame.new.source) (omega (arith, c.loop-answered-test.true)) c.loop-answered.invariant.progress
    (within_limit _ (g.I.Source.shown c.loop-answered.input) (g.I.Source.shown c.next_frame.new.source) [] next.ReadFault c.loop-answered.invariant.limit c.in-ReadFault.ensures.bytes)

-- the clock failed at this payload
pub returns-in-Err-clause-served : goal.returns-in-Err-clause-served
returns-in-Err-clause-served g c =
    dropped _ _ c.loop-answered.answered c.args.frames _ _ (g.I.Source.shown c.next_frame.new.source) c.answer.new.self c.next_frame.new.buf.payload c.loop-answered-test.true c.loop-answered.invariant.progress
    (within_limit _ (g.I.Source.shown c.loop-answered.input) (g.I.Source.shown c.next_frame.new.source) c.next_frame.new.buf.payload next.Frame c.loop-answered.invariant.limit c.in-Frame.ensures.bytes)
    (subst (λ (l : List ℕ). g.S.Service.gives_up c.loop-answered.service l c.answer.new.self) c.payload.ensures c.in-Err.ensures.given_up)

-- the sink failed at this reply
pub returns-in-WriteFault-clause-served : goal.returns-in-WriteFault-clause-served
returns-in-WriteFault-clause-served g c =
    cut _ _ c.loop-answered.answered c.args.frames _ _ (line (g.I.Source.shown c.next_frame.new.source) (g.O.Sink.shown c.put_frame.new.sink) c.answer.new.self) c.next_frame.new.buf.payload (g.S.Service.ready c.answer.new.self) c.loop-answered-test.true c.loop-answered.invariant.progress
    (within_limit _ (g.I.Source.shown c.loop-answered.input) (g.I.Source.shown c.next_frame.new.source) c.next_frame.new.buf.payload next.Frame c.loop-answered.invariant.limit c.in-Frame.ensures.bytes)
    (subst (λ (l : List ℕ). g.S.Service.answers c.loop-answered.service l (g.S.Service.ready c.answer.new.self) c.answer.new.self) c.payload.ensures c.in-Ok.ensures.answered)
    (subst (λ (l : List ℕ). Puts (g.O.Sink.shown c.loop-answered.output) (g.O.Sink.shown c.put_frame.new.sink) l put.WriteFault) c.reply.ensures c.in-WriteFault.ensures.bytes)

-- one frame more was answered
pub loop-answered-preserved : goal.loop-answered-preserved
loop-answered-preserved g c =
    record {
      limit = c.next_frame.ensures.limit ∙ c.loop-answered.invariant.limit;
      stands = c.in-Ok.ensures.stays;
      same = c.in-Ok.ensures.same ∙ c.loop-answered.invariant.same;
      progress = goes_on g.S.Service.answers c.loop-answered.answered _ _ (line (g.I.Source.shown c.next_frame.new.source) (g.O.Sink.shown c.put_frame.new.sink) c.answer.new.self) c.next_frame.new.buf.payload (g.S.Service.ready c.answer.new.self) c.loop-answered.invariant.progress
          (within_limit _ (g.I.Source.shown c.loop-answered.input) (g.I.Source.shown c.next_frame.new.source) c.next_frame.new.buf.payload next.Frame c.loop-answered.invariant.limit c.in-Frame.ensures.bytes)
          (subst (λ (l : List ℕ). g.S.Service.answers c.loop-answered.service l (g.S.Service.ready c.answer.new.self) c.answer.new.self) c.payload.ensures c.in-Ok.ensures.answered)
          (subst (λ (l : List ℕ). Appends (g.O.Sink.shown c.loop-answered.output).told (g.O.Sink.shown c.put_frame.new.sink).told (frame l)) c.reply.ensures c.in-Done.ensures.bytes);
      input_steady = c.in-Frame.ensures.cause ∙ c.loop-answered.invariant.input_steady;
      output_steady = c.in-Done.ensures.cause ∙ c.loop-answered.invariant.output_steady;
      clock_steady = c.in-Ok.ensures.cause.steady ∙ c.loop-answered.invariant.clock_steady;
    }

-- no byte more was read
pub returns-in-Err-read-clause-served : goal.returns-in-Err-read-clause-served
returns-in-Err-read-clause-served g c =
    let all : c.loop-answered.answered ≡ c.args.frames = search (rules, arith) in
    unread _ _ c.loop-answered.answered c.args.frames _ _ (g.I.Source.shown c.read.new.self) (omega (arith, all)) c.loop-answered.invariant.progress (nothing_read (g.I.Source.shown c.loop-answered.input) (g.I.Source.shown c.read.new.self) c.in-Err-read.ensures.bytes)

-- the source has ended
pub returns-in-Ok-eq0-clause-served : goal.returns-in-Ok-eq0-clause-served
returns-in-Ok-eq0-clause-served g c =
    let all : c.loop-answered.answered ≡ c.args.frames = search (rules, arith) in
    let room : length c.read.new.into ≡ 1 = search (rules, arith) in
    let none : c.in-Ok-eq0.field-0 ≡ 0 = search (rules, arith) in
    subst (λ (m : ℕ). IsServed g.S.Service.answers g.S.Service.gives_up c.args.frames
    (line (g.I.Source.shown c.args.input.now) (g.O.Sink.shown c.args.output.now) c.args.service.now)
    (line (g.I.Source.shown c.read.new.self) (g.O.Sink.shown c.loop-answered.output) c.loop-answered.service) (End m)) all
    (at_end _ _ c.loop-answered.answered c.args.frames _ _ (g.I.Source.shown c.read.new.self) (omega (arith, all)) c.loop-answered.invariant.progress
    (at_its_end (g.I.Source.shown c.loop-answered.input) (g.I.Source.shown c.read.new.self) c.read.new.into c.in-Ok-eq0.field-0 none room c.in-Ok-eq0.ensures.bytes))

-- it has a byte more
pub returns-in-Ok-read-clause-served : goal.returns-in-Ok-read-clause-served
returns-in-Ok-read-clause-served g c =
    let all : c.loop-answered.answered ≡ c.args.frames = search (rules, arith) in
    let room : length c.read.new.into ≡ 1 = search (rules, arith) in
    let some : 0 < c.in-Ok-read.field-0 = search (rules, arith) in
    let byte = one_byte c.read.new.into c.in-Ok-read.field-0 room some in
    spent _ _ c.args.frames byte.0 _ _ (g.I.Source.shown c.read.new.self) (progress_at g.S.Service.answers _ _ _ _ all c.loop-answered.invariant.progress)
    (subst (Consumes (g.I.Source.shown c.loop-answered.input).told (g.I.Source.shown c.read.new.self).told) byte.1 c.in-Ok-read.ensures.bytes.0)
