-- the pieces before the first comma and behind it
use Rattle.std.proofs.Common.{Some, None, arith, ap, ◌∙◌}
use Rattle.std.proofs.lemmas.Str.Pattern.{split_parts}
use Rattle.clap.proofs.CutLemmas.{slice_split-at, slice_split-Lacks}
use Rattle.node_commands.specs.Routes.{pieces}
use Rattle.node_commands.proofs.words.meaning.cut.Goals as goal

pub returns-in-Some : goal.returns-in-Some
returns-in-Some c =
    let parts = split_parts 44 c.args.text.now (Some (c.in-Some.first, c.in-Some.later)) c.in-Some.ensures.cases (omega arith) in
    ap pieces parts.0 ∙ slice_split-at 44 c.in-Some.first.now c.in-Some.later.now parts.1

pub returns-in-None : goal.returns-in-None
returns-in-None c =
    let lacks = split_parts 44 c.args.text.now None c.in-None.ensures.cases (omega arith) in
    slice_split-Lacks 44 c.args.text.now lacks
