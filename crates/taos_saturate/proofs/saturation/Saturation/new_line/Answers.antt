use Rattle.taos_saturate.proofs.Chaining.{chains_all}
use Rattle.taos_saturate.proofs.Steps.{for_none}
use Rattle.taos_saturate.proofs.saturation.Saturation.new_line.Goals as goal

pub returns : goal.returns
returns c =
    for_none c.new_in_statements.result _
    (λ h. record {
      speaks = c.in_default.ensures;
      chains = λ l m hl hm. chains_all c.args.self.now c.requires.sound c.in_default-new_in_lines.ensures l m;
      says = λ k w p e hw. (h k w p e hw).0;
      lifts = λ k w p e hw. (h k w p e hw).1;
    })
    c.new_in_statements.ensures
