-- the certificates that are new are held in common, where there is room
use Rattle.std.proofs.Common.{◌≡◌, [], ◌∷◌, ◌++◌, List, length, map, refl, sym, ap, ◌∙◌, arith}
use Rattle.std.proofs.lemmas.List.{length-map}
use Rattle.stmt_codec.specs.Certificates.{Certificate}
use Rattle.stmt_codec.specs.View.{certificates}
use Rattle.agent_core.specs.declared.event.Event.TheVariants as code
use Rattle.agent_core.specs.declared.event.ShardEntry.{ShardEntry}
use Rattle.agent_core.specs.declared.told.Told.{Told}
use Rattle.agent_core.specs.State.{State, Holds, Plain}
use Rattle.agent_core.specs.Journals.{state_after}
use Rattle.agent_core.specs.Views.{entry_of, plan_of}
use Rattle.agent_core.specs.Held.{admitted, newly}
use Rattle.shard_core.specs.Names.{book, certs_named, name_in}
use Rattle.shard_core.proofs.Rows.{nothing_goes}
use Rattle.shard_core.proofs.Bringing.{commons_full, commons_fit, commons_held, held_more}
use Rattle.denial_link.proofs.Places.{certificate_count}
use Rattle.shard_core.proofs.KeptMore.{store_more, tells_more}
use Rattle.shard_core.proofs.shard.plain.hold.Goals as goal

pub returns-then-held-len-gt-MAX_COMMONS-clause-tells : goal.returns-then-held-len-gt-MAX_COMMONS-clause-tells
returns-then-held-len-gt-MAX_COMMONS-clause-tells c =
    let plan = plan_of c.args.plan.now in
    let journal = map entry_of c.args.entries.now.items in
    let s : State = state_after plan journal in
    let certs = certificates c.args.certs.value.items in
    let found = rw (c.deref.ensures.value, c.deref-3.ensures.value, c.deref-2.ensures, c.new-none.ensures) at c.new_of-new.ensures.value ∙ ap (λ (held : List Certificate). newly held (admitted c.args.store.now.withdrawn.items certs)) (nothing_goes (certs_named (book plan journal) c.args.store.now.commons.items)) in
    let within = rw (c.deref-3.ensures.value, c.deref-2.ensures, sym (certificate_count c.args.certs.value.items)) at c.new_of-new.ensures.within in
    let e : ShardEntry = record { event = code.Hold c.args.certs; told = Told.CommonsFull c.len-held.result } in
    tells_more plan c.args.entries.now c.args.store.now c.requires.kept e c.append.new.entries c.requires.room c.append.ensures.added c.append.ensures.capacity
    c.args.store.now s (Holds certs) refl tt
    (commons_full plan journal s c.args.store.now c.requires.kept.store_is certs c.new_of-new.result.items found within (omega (arith, c.if-held-len-gt-MAX_COMMONS.true, c.len-held.ensures.value, c.len.ensures.value)) ∙
    ap (λ n. (s, Plain (Told.CommonsFull n))) (sym c.len-held.ensures.value))
    (store_more plan journal (entry_of e ∷ []) s c.args.store.now c.requires.kept.store_is) (omega (arith, c.requires.kept.swept_within))

pub returns-clause-tells : goal.returns-clause-tells
returns-clause-tells c =
    let plan = plan_of c.args.plan.now in
    let journal = map entry_of c.args.entries.now.items in
    let s : State = state_after plan journal in
    let certs = certificates c.args.certs.value.items in
    let found = rw (c.deref.ensures.value, c.deref-3.ensures.value, c.deref-2.ensures, c.new-none.ensures) at c.new_of-new.ensures.value ∙ ap (λ (held : List Certificate). newly held (admitted c.args.store.now.withdrawn.items certs)) (nothing_goes (certs_named (book plan journal) c.args.store.now.commons.items)) in
    let within = rw (c.deref-3.ensures.value, c.deref-2.ensures, sym (certificate_count c.args.certs.value.items)) at c.new_of-new.ensures.within in
    let e : ShardEntry = record { event = code.Hold c.args.certs; told = Told.Held c.len-added.result } in
    let number : c.len-entry.result ≡ length journal = c.len-entry.ensures ∙ c.args.entries.now.ok.0 ∙ sym (length-map c.args.entries.now.items entry_of) in
    tells_more plan c.args.entries.now c.args.store.now c.requires.kept e c.append-2.new.entries c.requires.room c.append-2.ensures.added c.append-2.ensures.capacity
    (record { clock = c.args.store.now.clock; swept = c.args.store.now.swept; commons = c.name_all.new.names; withdrawn = c.args.store.now.withdrawn; rows = c.args.store.now.rows })
    (held_more s (newly s.commons (admitted s.withdrawn certs))) (Holds certs) refl tt
    (commons_fit plan journal s c.args.store.now c.requires.kept.store_is certs c.new_of-new.result.items found within (omega (arith, c.if-held-len-gt-MAX_COMMONS.false, c.len-held.ensures.value, c.len.ensures.value)) ∙
    ap (λ n. (held_more s (newly s.commons (admitted s.withdrawn certs)), Plain (Told.Held n))) (sym c.len-added.ensures.value))
    (commons_held plan journal s c.args.store.now c.requires.kept.store_is certs c.new_of-new.result.items found within (entry_of e)
    (record { clock = c.args.store.now.clock; swept = c.args.store.now.swept; commons = c.name_all.new.names; withdrawn = c.args.store.now.withdrawn; rows = c.args.store.now.rows }) refl
    (c.name_all.ensures ∙ ap (λ n. c.args.store.now.commons.items ++ map (name_in n) c.new_of-new.result.items) number) refl refl refl refl)
    (omega (arith, c.requires.kept.swept_within))
