use Rattle.std.proofs.Common.{length, sym, ap, ◌∙◌, arith}
use Rattle.prin_text.specs.Tokens.{first_place}
use Rattle.prin_text.proofs.Scans.{first_is, skip_one}
use Rattle.prin_text.proofs.tokens.skip_blanks.Goals as goal

pub loop-start-preserved : goal.loop-start-preserved
loop-start-preserved c = record {
  from = omega arith;
  within = omega arith;
  same = skip_one c.args.bytes.now c.loop-start.start c.loop-start-test.true (sym c.is_blank.ensures ∙ c.if-is_blank.true) ∙ c.loop-start.invariant.same;
}

pub returns-else-is_blank-clause-first : goal.returns-else-is_blank-clause-first
returns-else-is_blank-clause-first c =
    first_is c.args.bytes.now c.loop-start.start c.loop-start.invariant.within (λ _. sym c.is_blank.ensures ∙ c.if-is_blank.false)
    ∙ ap (λ ts. first_place ts (length c.args.bytes.now)) c.loop-start.invariant.same

pub returns-after-loop-start-clause-first : goal.returns-after-loop-start-clause-first
returns-after-loop-start-clause-first c =
    first_is c.args.bytes.now c.loop-start.start c.loop-start.invariant.within (λ lt. absurd (omega arith))
    ∙ ap (λ ts. first_place ts (length c.args.bytes.now)) c.loop-start.invariant.same
