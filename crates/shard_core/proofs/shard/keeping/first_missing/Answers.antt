-- the row of the channel is found, and what stays of it is what the channel holds
use Rattle.std.proofs.Common.{List, ap, ◌∙◌, arith}
use Rattle.std.specs.Option.{option_map}
use Rattle.std.proofs.lemmas.Option.{slice_get_within}
use Rattle.stmt_codec.specs.Certificates.{digest_of}
use Rattle.proof_cache.specs.Cached.{cached}
use Rattle.shard_core.specs.declared.held.removal.Removal.TheVariants.{Nothing}
use Rattle.agent_core.specs.Journals.{Entry}
use Rattle.shard_core.specs.Kept.{certs_staying, state_of}
use Rattle.shard_core.specs.Names.{certs_named}
use Rattle.agent_core.specs.State.{Plan, State, own_of}
use Rattle.shard_core.proofs.Changing.{row_found, row_names}
use Rattle.shard_core.proofs.Keeps.{first_is}
use Rattle.shard_core.proofs.shard.keeping.first_missing.Goals as goal

pub returns-in_default : goal.returns-in_default
returns-in_default c =
    let plan : Plan = c.args.book.now.plan in
    let journal : List Entry = c.args.book.now.journal in
    let s : State = state_of c.args.book.now in
    let own = ap (λ names. certs_staying c.args.book.now Nothing names) c.new-none.ensures ∙ ap (own_of s) c.in_default.ensures in
    let found = rw c.deref.ensures.value at c.missing.ensures in
    found ∙ ap (option_map digest_of) (first_is s (cached c.args.proof.now) _ (certs_named c.args.book.now c.args.store.now.commons.items) own c.requires.store.commons_are)

pub index-row-requires : goal.index-row-requires
index-row-requires c =
    let here = rw c.unwrap-place.ensures at c.row_of.ensures in
    omega (arith, slice_get_within c.args.book.now.plan.channels c.unwrap-place.result c.in-Some.channel here, c.requires.store.row_count)

pub missing-requires-2-clause-own : goal.missing-requires-2-clause-own
missing-requires-2-clause-own c =
    let plan : Plan = c.args.book.now.plan in
    let journal : List Entry = c.args.book.now.journal in
    let here = rw c.unwrap-place.ensures at c.row_of.ensures in
    row_names plan journal (state_of c.args.book.now) c.args.store.now c.requires.store c.unwrap-place.result c.in-Some.channel c.index-row.result.now here c.index-row.ensures

pub returns : goal.returns
returns c =
    let plan : Plan = c.args.book.now.plan in
    let journal : List Entry = c.args.book.now.journal in
    let s : State = state_of c.args.book.now in
    let here = rw c.unwrap-place.ensures at c.row_of.ensures in
    let at = row_found plan journal s c.args.store.now c.requires.store c.unwrap-place.result c.in-Some.channel c.index-row.result.now here c.index-row.ensures in
    let own = c.due_of-due.ensures ∙ (c.requires.store.rows_are c.unwrap-place.result c.index-row.result.now c.in-Some.channel at here).own_is ∙ ap (own_of s) c.in-Some.ensures in
    let found = rw c.deref-2.ensures.value at c.missing-2.ensures in
    found ∙ ap (option_map digest_of) (first_is s (cached c.args.proof.now) _ (certs_named c.args.book.now c.args.store.now.commons.items) own c.requires.store.commons_are)
