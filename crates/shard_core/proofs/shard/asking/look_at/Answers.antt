-- what is found is what the row and the commons stand for, swept
use Rattle.std.proofs.Common.{ℕ, ◌≤◌, ◌∙◌, sym, ap, ap₂, refl, arith, List, ◌++◌, length}
use Rattle.stmt_codec.specs.Certificates.{Certificate}
use Rattle.stmt_codec.specs.View.{certificates}
use Rattle.shard_core.specs.declared.held.removal.Removal.TheVariants.{Ended}
use Rattle.agent_core.specs.Held.{admitted, newly}
use Rattle.agent_core.specs.Journals.{Entry}
use Rattle.shard_core.specs.Kept.{state_of}
use Rattle.shard_core.specs.Names.{named}
use Rattle.agent_core.specs.State.{Plan, State}
use Rattle.shard_core.proofs.Changing.{row_names, row_staying, commons_staying}
use Rattle.denial_link.proofs.Places.{certificate_count}
use Rattle.shard_core.proofs.Rows.{left_counted}
use Rattle.shard_core.proofs.shard.asking.look_at.Goals as goal

pub count_left-held-requires : goal.count_left-held-requires
count_left-held-requires c =
    let here = rw c.unwrap-place.ensures at c.row_of.ensures in
    row_names c.args.book.now.plan c.args.book.now.journal (state_of c.args.book.now) c.args.store.now c.requires.store
    c.unwrap-place.result c.args.asked.now.channel c.index.result.now here c.index.ensures

pub new_of-new-requires-clause-own : goal.new_of-new-requires-clause-own
new_of-new-requires-clause-own c =
    let here = rw c.unwrap-place.ensures at c.row_of.ensures in
    row_names c.args.book.now.plan c.args.book.now.journal (state_of c.args.book.now) c.args.store.now c.requires.store
    c.unwrap-place.result c.args.asked.now.channel c.index.result.now here c.index.ensures

pub returns : goal.returns
returns c =
    let plan : Plan = c.args.book.now.plan in
    let journal : List Entry = c.args.book.now.journal in
    let s : State = state_of c.args.book.now in
    let here = rw c.unwrap-place.ensures at c.row_of.ensures in
    let names = row_names plan journal s c.args.store.now c.requires.store c.unwrap-place.result c.args.asked.now.channel c.index.result.now here c.index.ensures in
    let later : c.args.store.now.clock ≤ c.max-moment.result = omega (arith, c.max-moment.ensures) in
    let own = row_staying plan journal s c.args.store.now c.requires.store c.max-moment.result later c.unwrap-place.result c.args.asked.now.channel c.index.result.now here c.index.ensures in
    let shared = commons_staying plan journal s c.args.store.now c.requires.store c.max-moment.result in
    let count = rw c.gone_by-gone.ensures at c.count_left-held.ensures.count in
    let new_are = rw (c.deref.ensures.value, c.gone_by-gone.ensures) at c.new_of-new.ensures.value in
    let within = rw (c.deref.ensures.value, sym (certificate_count c.args.asked.now.presented.items)) at c.new_of-new.ensures.within in
    record {
      here = here;
      moment = c.max-moment.ensures;
      held = count ∙ left_counted (named c.args.book.now) (Ended plan.keep c.max-moment.result) c.index.result.now.own.items _ refl names ∙
          ap (λ (cs : List Certificate). length cs) own;
      few = c.count_left-held.ensures.few;
      new_are = new_are ∙ ap₂ (λ (held : List Certificate) (issuers : List ℕ). newly held (admitted issuers (certificates c.args.asked.now.presented.items))) (ap₂ (λ (xs ys : List Certificate). xs ++ ys) own shared)
          c.requires.store.withdrawn_are;
      new_within = within;
    }
