-- each entry's channel was looked at, and these are the channels that have a key
use Rattle.std.proofs.Common.{refl, sym, subst, ◌∙◌, arith}
use Rattle.std.proofs.lemmas.Bool.{false≢true}
use Rattle.std.proofs.lemmas.Option.{slice_get_within}
use Rattle.shard_core.specs.Alone.{plans_in}
use Rattle.taos_monitor.specs.Planned.{IsPlanned}
use Rattle.taos_monitor.proofs.Keyed.{key_listed, listed_key}
use Rattle.taos_lanes.proofs.planned.keys_fit.Goals as goal

pub returns-then-not-has_channel : goal.returns-then-not-has_channel
returns-then-not-has_channel c =
    let entries = c.args.keys.now.channels.entries in (
      λ t. absurd (false≢true t),
      λ all. absurd (false≢true (sym c.if-not-has_channel.true ∙ c.has_channel.ensures.1
          (λ plan at. all c.in-Some.number plan (listed_key entries c.loop-place.place (c.in-Some.number, c.in-Some.field-0-1.now) (sym c.in-Some.ensures.value)) at))),
    )

pub returns : goal.returns
returns c =
    let entries = c.args.keys.now.channels.entries in (
      λ t channel plan has at.
          let l = key_listed entries channel has in
          subst (IsPlanned (plans_in c.args.shards.now.shards)) l.number
          (c.loop-place.invariant l.place l.entry (omega (arith, slice_get_within entries l.place l.entry l.stands, c.loop-place-test.false, c.count-place-end.ensures.count)) l.stands) plan at,
      λ all. refl,
    )
