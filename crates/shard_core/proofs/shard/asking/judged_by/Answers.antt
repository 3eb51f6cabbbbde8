-- what stays of the row and in common is what the state has at the moment
use Rattle.std.proofs.Common.{◌++◌, List, refl, ap₂, ◌∙◌}
use Rattle.stmt_codec.specs.Certificates.{Certificate}
use Rattle.agent_core.specs.Journals.{Entry}
use Rattle.shard_core.specs.Kept.{state_of}
use Rattle.agent_core.specs.State.{Plan, State}
use Rattle.agent_core.specs.Views.{ask_of}
use Rattle.shard_core.proofs.Changing.{commons_staying}
use Rattle.shard_core.proofs.Looks.{row_named, row_stays}
use Rattle.shard_core.proofs.shard.asking.judged_by.Goals as goal

pub push_left-requires : goal.push_left-requires
push_left-requires c =
    row_named c.args.book.now.plan c.args.book.now.journal c.args.store.now c.requires.store
    (ask_of c.args.asked.now) c.args.look.now c.requires.look c.args.store.now.rows refl c.index.result.now c.index.ensures

pub returns : goal.returns
returns c =
    let plan : Plan = c.args.book.now.plan in
    let journal : List Entry = c.args.book.now.journal in
    let s : State = state_of c.args.book.now in
    let own = row_stays plan journal c.args.store.now c.requires.store (ask_of c.args.asked.now) c.args.look.now c.requires.look c.args.store.now.rows refl c.index.result.now c.index.ensures in
    let shared = commons_staying plan journal s c.args.store.now c.requires.store c.args.look.now.moment in
    let first = rw (c.gone_by-gone.ensures, c.in_ok-certs.ensures.items) at c.in_ok-push_left.ensures in
    let second = rw c.deref.ensures.value at c.in_ok-push_at.ensures in
    let third = rw c.gone_by-gone.ensures at c.in_ok-push_left-2.ensures in
    third ∙ ap₂ (λ (xs ys : List Certificate). xs ++ ys) (second ∙ ap₂ (λ (xs ys : List Certificate). xs ++ ys) (first ∙ own) c.requires.look.new_are) shared
