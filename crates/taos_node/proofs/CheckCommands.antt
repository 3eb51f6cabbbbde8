-- What a check does, as the file's own opening has it.
use Rattle.node_file.specs.declared.opening.Opening as code
use Rattle.node_file.specs.Opening.{Opening}
use Rattle.node_file.specs.OpeningView.{Represents}
use Rattle.node_file.proofs.Listed.{same_node}
use Rattle.node_file.specs.Meaning.{opening}
use Rattle.node_commands.specs.declared.check.CheckEnd.{CheckEnd}
use Rattle.node_commands.specs.Findings.{Checks}
use Rattle.taos_node.specs.Calls.{Touched}
use Rattle.taos_node.specs.Command.{UsesNoLane, LooksOver}
use Rattle.node_commands.specs.Files.{OpensNode}
use Rattle.node_commands.proofs.SameFindings.{checks_at}

pub looked_over : (before after : Touched) (node : code.Opening) (o : Opening) (end : CheckEnd) → OpensNode before.file after.file o → Represents node o →
    Checks (opening node) before.input.told after.input.told before.output.told after.output.told end → UsesNoLane before after → LooksOver before after end
looked_over before after node o end opens r c lane = record {
  node = o;
  opens = opens;
  checks = checks_at (opening node) o (same_node node o r) before.input.told after.input.told before.output.told after.output.told end c;
  lane = lane;
}
