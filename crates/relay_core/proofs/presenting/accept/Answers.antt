-- new bytes that open are as long as a kind and a tag, and carry the presented body where they are the same but for these
use Rattle.std.proofs.Common.{refl, sym, ◌∙◌, arith}
use Rattle.std.specs.Arc.{arc_value}
use Rattle.std.proofs.lemmas.Bool.{false≢true}
use Rattle.stmt_codec.specs.Certificates.{certificate}
use Rattle.relay_core.proofs.Bodies.{long, same_body, carries}
use Rattle.relay_core.proofs.presenting.accept.Goals as goal

pub carries_same-requires : goal.carries_same-requires
carries_same-requires c = omega (arith, long c.args.opened.now c.args.new.now (certificate (arc_value c.in-Ok.cert).body) c.in-Ok.ensures.found)

pub returns-then-carries_same-clause-resealed : goal.returns-then-carries_same-clause-resealed
returns-then-carries_same-clause-resealed c =
    same_body c.args.opened.now c.args.new.now (certificate (arc_value c.in-Ok.cert).body) c.in-Ok.ensures.found c.args.text.now c.requires (c.carries_same.ensures.0 c.if-carries_same.true)

pub returns-else-carries_same-clause-refused : goal.returns-else-carries_same-clause-refused
returns-else-carries_same-clause-refused c =
    (refl, λ d is. absurd (false≢true (sym c.if-carries_same.false ∙ c.carries_same.ensures.1 (carries c.args.opened.now c.args.new.now d is.opens c.args.text.now is))))
