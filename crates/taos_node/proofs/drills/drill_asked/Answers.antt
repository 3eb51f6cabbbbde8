-- other words ask for no such load, and nothing but the output is touched
use Rattle.std.proofs.Common.{refl, arith}
use Rattle.std.proofs.KnownBytes.{Keeps-refl}
use Rattle.taos_node.specs.Calls.{touched}
use Rattle.node_commands.specs.Words.{drill_words}
use Rattle.taos_node.proofs.Endings.{drilled}
use Rattle.taos_node.proofs.drills.drill_asked.Goals as goal

pub returns-then-asked-gt-MAX_REQUESTS : goal.returns-then-asked-gt-MAX_REQUESTS
returns-then-asked-gt-MAX_REQUESTS g c = record { drills = λ file input used words is. absurd (omega (arith, is.4.requests.1, c.if-asked-gt-MAX_REQUESTS.true)) }

pub returns-then-asked-eq0 : goal.returns-then-asked-eq0
returns-then-asked-eq0 g c = record { drills = λ file input used words is. absurd (omega (arith, is.4.some, c.if-asked-eq0.true)) }

pub returns-then-asked-gt-MAX_LANES : goal.returns-then-asked-gt-MAX_LANES
returns-then-asked-gt-MAX_LANES g c = record { drills = λ file input used words is. absurd (omega (arith, is.4.lanes.1, c.if-asked-gt-MAX_LANES.true)) }

pub returns : goal.returns
returns g c = record {
  drills = λ file input used words is.
      let d = drill_words c.args.asked in
      let before = touched file input (g.O.Sink.shown c.args.output.now) used in
      let after = touched file input (g.O.Sink.shown c.drill.new.output) used in (
        (d, is, record { drills = c.drill.ensures.drills; file = Keeps-refl file.told; input = Keeps-refl input.told; lane = record { clock = refl {a = used.clock}; link = refl {a = used.relay}; fetch = refl {a = used.fetch} } }),
        drilled words d before after c.drill.result is refl refl refl c.drill.ensures.cause,
      );
}
