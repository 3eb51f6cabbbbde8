-- what stays of a row that was not swept is what it stands for
use Rattle.std.proofs.Common.{◌∙◌, sym}
use Rattle.shard_core.specs.declared.held.removal.Removal.TheVariants.{Ended}
use Rattle.shard_core.specs.Names.{named}
use Rattle.shard_core.proofs.Rows.{left_named, left_names, row_stale}
use Rattle.shard_core.proofs.shard.row.settle.Goals as goal

pub returns-clause-own : goal.returns-clause-own
returns-clause-own c =
    let kept = rw c.gone_by.ensures at c.sweep.ensures in
    left_named (named c.args.book.now) (Ended c.args.book.now.plan.keep c.args.clock) c.args.row.now.own.items c.sweep.new.names.items kept ∙
    sym (row_stale c.args.book.now.plan c.args.book.now.journal c.args.clock c.args.swept c.args.row.now c.if-row-swept.false)

pub returns-clause-names : goal.returns-clause-names
returns-clause-names c =
    let kept = rw c.gone_by.ensures at c.sweep.ensures in
    left_names (named c.args.book.now) (Ended c.args.book.now.plan.keep c.args.clock) c.args.row.now.own.items c.sweep.new.names.items kept c.requires
