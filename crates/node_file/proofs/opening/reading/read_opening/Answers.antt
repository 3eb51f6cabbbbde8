use Rattle.std.proofs.Common.{Err, Ok, arith}
use Rattle.node_file.proofs.Whole.{is_found, is_only, read_long}
use Rattle.node_file.proofs.Listed.{all_fit}
use Rattle.node_file.proofs.ReadFits.{read_fits}
use Rattle.node_file.proofs.opening.reading.read_opening.Goals as goal

pub returns-then-bytes-gt-MAX_FILE-clause-exact : goal.returns-then-bytes-gt-MAX_FILE-clause-exact
returns-then-bytes-gt-MAX_FILE-clause-exact c = read_long c.args.bytes.now (omega arith)

pub returns-in-Err-clause-only : goal.returns-in-Err-clause-only
returns-in-Err-clause-only c = is_only c.args.bytes.now (Err c.in-Err.fault) c.in-Err.ensures

pub returns-in-Ok-clause-found : goal.returns-in-Ok-clause-found
returns-in-Ok-clause-found c = is_found c.args.bytes.now (Ok c.in-Ok.opening) (λ i. omega (arith, c.type_inv.bytes i)) c.in-Ok.ensures

pub returns-in-Ok-clause-only : goal.returns-in-Ok-clause-only
returns-in-Ok-clause-only c = is_only c.args.bytes.now (Ok c.in-Ok.opening) c.in-Ok.ensures

-- its tables are in order
pub returns-in-Ok-clause-whole : goal.returns-in-Ok-clause-whole
returns-in-Ok-clause-whole c =
    let found = returns-in-Ok-clause-found c in
    read_fits c.in-Ok.opening found.0 c.args.bytes.now found.1 found.2 c.are_in_order.ensures.channels c.are_in_order.ensures.names c.are_in_order.ensures.objects

pub returns-in-Ok-clause-fits : goal.returns-in-Ok-clause-fits
returns-in-Ok-clause-fits c = all_fit c.args.bytes.now (Ok c.in-Ok.opening) (returns-in-Ok-clause-found c)
