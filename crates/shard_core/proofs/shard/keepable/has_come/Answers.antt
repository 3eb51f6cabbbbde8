-- an entry that is looked at moves the clock to its reading, unless it is there already
use Rattle.std.proofs.Common.{◌≡◌, ◌+◌, ◌-◌, ◌<◌, ℕ, List, length, get_or, map, Some, slice_get, refl, sym, ap, ◌∙◌, arith}
use Rattle.std.specs.Option.{option_map}
use Rattle.std.proofs.lemmas.Bool.{false≢true}
use Rattle.std.proofs.lemmas.Option.{slice_get-get_or, slice_get-map}
use Rattle.agent_core.specs.Journals.{Entry}
use Rattle.agent_core.specs.declared.event.ShardEntry.{ShardEntry}
use Rattle.agent_core.specs.State.{Plan, reading_of}
use Rattle.agent_core.specs.Views.{entry_of, event_of}
use Rattle.agent_core.proofs.Clocks.{clock_after, clock_back}
use Rattle.shard_core.proofs.shard.keepable.has_come.Goals as goal

standing : (entries : List ShardEntry) (k : ℕ) (x : ShardEntry) → k < length entries → x ≡ get_or entries k x → slice_get (map entry_of entries) k ≡ Some (entry_of x)
standing entries k x within is = slice_get-map entry_of entries k ∙ ap (option_map entry_of) (slice_get-get_or entries k x within ∙ ap Some (sym is))

pub loop-back-preserved : goal.loop-back-preserved
loop-back-preserved c =
    let journal : List Entry = map entry_of c.args.entries.now in
    let x : ShardEntry = c.index-entries-earlier.result in
    let at = standing c.args.entries.now (c.args.place - c.loop-back.back) x (omega arith) c.index-entries-earlier.is in
    let read : c.reading_of-read.result ≡ reading_of (event_of x.event) = c.reading_of-read.ensures ∙ ap (λ (y : ShardEntry). reading_of (event_of y.event)) (sym c.index-entries-earlier.is) in
    let moved = λ (plan : Plan). clock_back plan journal c.args.place c.loop-back.back (entry_of x) (omega arith) at in
    record {
      before = λ plan. omega (arith, moved plan, c.loop-back.invariant.before plan);
      come = λ plan h. omega (arith, moved plan, read, c.if-moment-read.false, c.loop-back.invariant.come plan h);
      above = λ _. omega (arith, c.if-moment-read.false);
    }

pub returns-then-moment-read : goal.returns-then-moment-read
returns-then-moment-read c = λ plan.
    let journal : List Entry = map entry_of c.args.entries.now in
    let x : ShardEntry = c.index-entries-earlier.result in
    let at = standing c.args.entries.now (c.args.place - c.loop-back.back) x (omega arith) c.index-entries-earlier.is in
    let read : c.reading_of-read.result ≡ reading_of (event_of x.event) = c.reading_of-read.ensures ∙ ap (λ (y : ShardEntry). reading_of (event_of y.event)) (sym c.index-entries-earlier.is) in
    let moved = clock_back plan journal c.args.place c.loop-back.back (entry_of x) (omega arith) at in
    (λ _. omega (arith, moved, read, c.if-moment-read.true, c.loop-back.invariant.before plan), λ _. refl)

pub returns : goal.returns
returns c = λ plan.
    let journal : List Entry = map entry_of c.args.entries.now in
    let none : c.args.place + 1 - c.loop-back.back ≡ 0 = omega arith in (
      λ f. absurd (false≢true f),
      λ h. absurd (omega (arith, c.loop-back.invariant.come plan h, ap (clock_after plan journal) none, c.loop-back.invariant.above (omega arith))),
    )
