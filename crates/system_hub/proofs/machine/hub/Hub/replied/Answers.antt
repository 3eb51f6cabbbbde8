-- Who failed by a reply is let go.
use Rattle.std.proofs.Common.{[], ◌∷◌}
use Rattle.system_hub.specs.Events.{Replied, Failed, Closed}
use Rattle.system_hub.proofs.Seating.{follows_on, about_then, gone_others}
use Rattle.system_hub.proofs.machine.hub.Hub.replied.Goals as goal

pub returns-in-Slow-clause-answered : goal.returns-in-Slow-clause-answered
returns-in-Slow-clause-answered c =
    let client = c.in-Slow.client in
    let replied = c.in-Slow.ensures.replied in (
      replied.0,
      replied.1,
      replied.2,
      follows_on c.args.self.now c.answer-answer.new.self c.close.new.self (Replied c.args.lane c.args.payload.now ∷ Failed client ∷ []) (Closed client ∷ []) replied.3 c.close.ensures.closed,
    )

pub returns-in-Slow-clause-seats : goal.returns-in-Slow-clause-seats
returns-in-Slow-clause-seats c =
    let client = c.in-Slow.client in (
      gone_others client c.args.self.now c.close.new.self
          (about_then client c.args.self.now c.answer-answer.new.self c.close.new.self c.in-Slow.ensures.about.0 c.close.ensures.about) c.close.ensures.left,
      c.close.ensures.left,
    )

pub returns-in-NoMemory : goal.returns-in-NoMemory
returns-in-NoMemory c =
    let client = c.in-NoMemory.client in
    let replied = c.in-NoMemory.ensures.replied in
    let close = c.close-in-NoMemory in
    record {
      answered = (
        replied.0,
        replied.1,
        replied.2,
        follows_on c.args.self.now c.answer-answer.new.self close.new.self (Replied c.args.lane c.args.payload.now ∷ Failed client ∷ []) (Closed client ∷ []) replied.3 close.ensures.closed,
      );
      seats = (
        gone_others client c.args.self.now close.new.self
            (about_then client c.args.self.now c.answer-answer.new.self close.new.self c.in-NoMemory.ensures.about.0 close.ensures.about) close.ensures.left,
        close.ensures.left,
      );
    }
