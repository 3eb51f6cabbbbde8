-- The frame was not written, or no frame came in its place, or one did.
use Rattle.std.proofs.Common.{refl}
use Rattle.std.proofs.KnownBytes.{Keeps-refl}
use Rattle.frame_link.specs.Exchange.{unwritten, unanswered, unread, ended, cut, too_long}
use Rattle.frame_link.proofs.exchange.exchange_frames.Goals as goal

pub returns-in-WriteFault-clause-exchanges : goal.returns-in-WriteFault-clause-exchanges
returns-in-WriteFault-clause-exchanges g c =
    let written = rw c.payload.ensures at c.in-WriteFault.ensures.bytes in
    unwritten written c.in-WriteFault.ensures.cause.0 c.in-WriteFault.ensures.cause.1 (Keeps-refl (g.I.Source.shown c.args.input.now).told) refl

pub returns-in-Frame-clause-exchanges : goal.returns-in-Frame-clause-exchanges
returns-in-Frame-clause-exchanges g c =
    let written = rw c.payload.ensures at c.in-Done.ensures.bytes in (
      written,
      c.in-Done.ensures.cause,
      record {
        payload = c.next_frame.new.buf.payload;
        read = c.in-Frame.ensures.bytes;
        spells = refl;
        steady = c.in-Frame.ensures.cause;
      },
    )

pub returns-in-End-clause-exchanges : goal.returns-in-End-clause-exchanges
returns-in-End-clause-exchanges g c =
    let written = rw c.payload.ensures at c.in-Done.ensures.bytes in
    unanswered written c.in-Done.ensures.cause (ended c.in-End.ensures.bytes c.in-End.ensures.cause)

pub returns-in-Truncated-clause-exchanges : goal.returns-in-Truncated-clause-exchanges
returns-in-Truncated-clause-exchanges g c =
    let written = rw c.payload.ensures at c.in-Done.ensures.bytes in
    unanswered written c.in-Done.ensures.cause (cut c.in-Truncated.have c.in-Truncated.ensures.bytes c.in-Truncated.ensures.cause)

pub returns-in-TooLong-clause-exchanges : goal.returns-in-TooLong-clause-exchanges
returns-in-TooLong-clause-exchanges g c =
    let written = rw c.payload.ensures at c.in-Done.ensures.bytes in
    unanswered written c.in-Done.ensures.cause (too_long c.in-TooLong.length c.in-TooLong.ensures.bytes c.in-TooLong.ensures.cause)

pub returns-in-ReadFault-clause-exchanges : goal.returns-in-ReadFault-clause-exchanges
returns-in-ReadFault-clause-exchanges g c =
    let written = rw c.payload.ensures at c.in-Done.ensures.bytes in
    unanswered written c.in-Done.ensures.cause (unread c.in-ReadFault.ensures.bytes c.in-ReadFault.ensures.cause.0 c.in-ReadFault.ensures.cause.1)
