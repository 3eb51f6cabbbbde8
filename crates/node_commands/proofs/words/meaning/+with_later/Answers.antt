-- piece by piece, while there is room
use Rattle.std.proofs.Common.{Option, ap}
use Rattle.std.specs.Option.{option_map}
use Rattle.node_commands.specs.Routes.{numbers_in}
use Rattle.node_commands.proofs.Routes.{no_number, no_room, nothing_behind, read_on}
use Rattle.node_commands.proofs.words.meaning.+with_later.Goals as goal

pub returns-in_default : goal.returns-in_default
returns-in_default t c =
    rw (ap (λ (o : Option _). option_map (λ s. s.now) o) c.in_default.is) (nothing_behind c.args.route)

pub returns-in_err-number : goal.returns-in_err-number
returns-in_err-number t c =
    let behind = option_map (λ s. s.now) c.cut.result.1 in
    let is = ap (λ (o : Option _). option_map (λ s. s.now) o) c.in-Some.is in
    rw (c.from_residual.ensures, is) (λ r on. no_number c.in-Some.text.now behind c.cut.result.0.now c.cut.ensures c.in_err-number.ensures on.later on.numbers)

pub returns-in_err-more : goal.returns-in_err-more
returns-in_err-more t c =
    let behind = option_map (λ s. s.now) c.cut.result.1 in
    let is = ap (λ (o : Option _). option_map (λ s. s.now) o) c.in-Some.is in
    rw (c.from_residual-in_err-more.ensures, is) (no_room c.in-Some.text.now behind c.cut.result.0.now c.cut.ensures (numbers_in c.args.route) c.in_err-more.ensures)

pub returns : goal.returns
returns t c =
    let behind = option_map (λ s. s.now) c.cut.result.1 in
    let is = ap (λ (o : Option _). option_map (λ s. s.now) o) c.in-Some.is in
    rw is (read_on c.in-Some.text.now behind c.cut.result.0.now c.cut.ensures (numbers_in c.args.route) (numbers_in c.in_ok-more.more) c.in_ok-number.number c.in_ok-number.ensures c.in_ok-more.ensures c.with_later.result c.with_later.ensures)
