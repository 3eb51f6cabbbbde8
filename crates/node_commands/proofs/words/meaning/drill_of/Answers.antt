-- what is read of each text
use Rattle.std.proofs.Common.{◌^◌, arith, codes, subst}
use Rattle.node_commands.specs.Table.{texts_of}
use Rattle.node_commands.specs.Words.{HasNumber}
use Rattle.node_commands.proofs.Meanings.{same_number}
use Rattle.node_commands.proofs.words.meaning.drill_of.Goals as goal

pub returns-then-lanes-eq0 : goal.returns-then-lanes-eq0
returns-then-lanes-eq0 c = λ d given.
    let text = texts_of c.args.words.now (codes "lanes") in
    let lanes : HasNumber 17 text c.in_ok-lanes.lanes = subst (λ o. HasNumber 17 o c.in_ok-lanes.lanes) c.text_of-3.ensures c.in_ok-lanes.ensures in
    absurd (omega (arith, same_number text 17 c.in_ok-lanes.lanes d.lanes (omega arith) lanes given.lanes, given.some, c.if-lanes-eq0.true))

pub returns : goal.returns
returns c = record {
  seed = subst (λ o. HasNumber (2 ^ 64) o c.in_ok-seed.seed) c.text_of.ensures c.in_ok-seed.ensures;
  requests = subst (λ o. HasNumber 10001 o c.in_ok-requests.requests) c.text_of-2.ensures c.in_ok-requests.ensures;
  lanes = subst (λ o. HasNumber 17 o c.in_ok-lanes.lanes) c.text_of-3.ensures c.in_ok-lanes.ensures;
  some = omega (arith, c.if-lanes-eq0.false);
}
