-- what is kept at opening stands for the opening state
use Rattle.std.proofs.Common.{◌∙◌, All, List, map, sym, ap, refl, subst}
use Rattle.agent_core.specs.declared.event.ShardEntry.{ShardEntry}
use Rattle.std.proofs.lemmas.List.Elements.{All-nil}
use Rattle.agent_core.specs.Journals.{Entry, cache_after}
use Rattle.agent_core.specs.Answers.{FitsEvent}
use Rattle.shard_core.specs.declared.shard.store.Store.{Store}
use Rattle.shard_core.specs.Kept.{AreNew, first_names}
use Rattle.agent_core.specs.Views.{entry_of, plan_of}
use Rattle.shard_core.proofs.Opening.{opened_kept}
use Rattle.denial_link.proofs.Places.{certificate_count}
use Rattle.shard_core.proofs.shard.Shard.new.Goals as goal

pub invariant_of-result : goal.invariant_of-result
invariant_of-result c =
    let store : Store = record { clock = 0; swept = 0; commons = c.names_of.result; withdrawn = c.new.result; rows = c.in_ok-rows.rows } in
    record {
      kept = opened_kept (plan_of c.args.plan) c.in_ok-entries.entries store c.requires c.in_ok-entries.ensures.items c.in_ok-entries.ensures.capacity refl refl
          (c.names_of.ensures ∙ ap first_names (c.len-2.ensures ∙ c.args.plan.commons.ok.0 ∙ sym (certificate_count c.args.plan.commons.items)))
          c.new.ensures
          (subst (AreNew c.in_ok-rows.rows.items) (c.len.ensures ∙ c.args.plan.channels.ok.0) c.in_ok-rows.ensures);
      fits = subst (λ (es : List ShardEntry). All (λ (e : Entry). FitsEvent e.event) (map entry_of es)) (sym c.in_ok-entries.ensures.items)
          (All-nil (λ (e : Entry). FitsEvent e.event));
      cached = c.in_ok-cache.ensures ∙ sym (ap (λ (es : List ShardEntry). cache_after (plan_of c.args.plan) (map entry_of es)) c.in_ok-entries.ensures.items);
    }
