-- a row that was swept stands for its names, and any other for those that stay
use Rattle.std.proofs.Common.{◌∙◌, sym}
use Rattle.shard_core.specs.Names.{certs_named}
use Rattle.shard_core.proofs.Rows.{nothing_goes, row_fresh, row_stale}
use Rattle.shard_core.proofs.shard.keeping.due_of.Goals as goal

pub returns-then-row-swept : goal.returns-then-row-swept
returns-then-row-swept c =
    nothing_goes (certs_named c.args.book.now c.args.row.now.own.items) ∙
    sym (row_fresh c.args.book.now.plan c.args.book.now.journal c.args.clock c.args.swept c.args.row.now c.if-row-swept.true)

pub returns : goal.returns
returns c = rw c.gone_by.ensures (sym (row_stale c.args.book.now.plan c.args.book.now.journal c.args.clock c.args.swept c.args.row.now c.if-row-swept.false))
