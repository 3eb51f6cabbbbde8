-- the first piece, and those behind it
use Rattle.std.proofs.Common.{[]}
use Rattle.std.specs.Option.{option_map}
use Rattle.node_commands.specs.Routes.{numbers_in}
use Rattle.node_commands.proofs.Routes.{no_number, read_on, read_whole}
use Rattle.node_commands.proofs.words.meaning.route_of.Goals as goal

pub returns-in_err-number : goal.returns-in_err-number
returns-in_err-number c =
    let behind = option_map (λ s. s.now) c.cut.result.1 in
    rw c.from_residual.ensures (λ r is. no_number c.args.text.now behind c.cut.result.0.now c.cut.ensures c.in_err-number.ensures r is.numbers)

pub returns : goal.returns
returns c =
    let behind = option_map (λ s. s.now) c.cut.result.1 in
    read_whole c.args.text.now c.with_later.result (read_on c.args.text.now behind c.cut.result.0.now c.cut.ensures [] (numbers_in c.of.result) c.in_ok-number.number c.in_ok-number.ensures c.of.ensures c.with_later.result c.with_later.ensures)
