-- what came of the next frame
use Rattle.std.proofs.Common.{List, ℕ, subst, sym}
use Rattle.frame_link.specs.declared.frame.Next.{Next}
use Rattle.frame_link.specs.declared.frame.Next.TheVariants as next
use Rattle.frame_link.specs.Next.{TakesFrame}
use Rattle.node_commands.proofs.Paths.{fault_taken, none_taken, one_taken}
use Rattle.node_commands.proofs.path.first_payload.Goals as goal

pub returns-in-Frame-clause-taken : goal.returns-in-Frame-clause-taken
returns-in-Frame-clause-taken g c =
    let limit = c.args.buf.now.limit in
    let before = g.I.Source.shown c.args.input.now in
    let after = g.I.Source.shown c.next_frame.new.source in
    let came = subst (λ (n : Next). TakesFrame limit before after c.next_frame.new.buf.payload n) c.in-Frame.is c.next_frame.ensures.bytes in
    one_taken limit 2048 c.requires.limit before after c.payload.result.now (subst (λ (p : List ℕ). TakesFrame limit before after p next.Frame) (sym c.payload.ensures) came)

pub returns-in-ReadFault-clause-failed : goal.returns-in-ReadFault-clause-failed
returns-in-ReadFault-clause-failed g c =
    let limit = c.args.buf.now.limit in
    let before = g.I.Source.shown c.args.input.now in
    let after = g.I.Source.shown c.next_frame.new.source in
    fault_taken limit 2048 c.requires.limit before after c.next_frame.new.buf.payload
    (subst (λ (n : Next). TakesFrame limit before after c.next_frame.new.buf.payload n) c.in-ReadFault.is c.next_frame.ensures.bytes)

pub returns-in_default-clause-taken : goal.returns-in_default-clause-taken
returns-in_default-clause-taken g c =
    none_taken c.args.buf.now.limit 2048 c.requires.limit (g.I.Source.shown c.args.input.now) (g.I.Source.shown c.next_frame.new.source) c.next_frame.new.buf.payload c.next_frame.result c.in_default.not-Frame c.in_default.not-ReadFault c.next_frame.ensures.bytes
