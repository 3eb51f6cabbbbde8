-- A shard that was opened stands for the opening state.
use Rattle.std.proofs.Common.{◌≡◌, ◌<◌, ◌≤◌, List, [], ◌∷◌, ◌++◌, length, map, Option, Some, IsSome, append_assoc, refl, sym, ap, ap₂, ◌∙◌, subst, arith, vec_capacity}
use Rattle.std.specs.List.{slice_get, filter_map, range_with_len, cons_option}
use Rattle.std.specs.declared.alloc.Global.{Global}
use Rattle.std.specs.declared.vec.Vec.{Vec}
use Rattle.std.proofs.lemmas.List.{length_push}
use Rattle.std.proofs.lemmas.List.FromFn.{length-map-range_with_len, get_or-map-range_with_len}
use Rattle.stmt_codec.specs.Certificates.{Certificate}
use Rattle.agent_core.specs.declared.event.ShardEntry.{ShardEntry}
use Rattle.shard_core.specs.declared.held.name.Name.TheVariants.{Common}
use Rattle.shard_core.specs.declared.shard.store.Store.{Store}
use Rattle.agent_core.specs.Plans.{IsPlan}
use Rattle.agent_core.specs.State.{Plan, opened}
use Rattle.agent_core.specs.Journals.{Entry, IsLegalJournal, state_after}
use Rattle.shard_core.specs.Kept.{AreNew, first_names, IsStore, IsKept}
use Rattle.shard_core.specs.Names.{book, named, certs_named, AreNames}
use Rattle.agent_core.specs.Views.{entry_of}
use Rattle.agent_core.proofs.AtPlaces.{is_there, slice_at}
use Rattle.shard_core.proofs.Rows.{row_fresh}

-- names of the places from one on are the certificates from there on
names_from : (plan : Plan) (front rest : List Certificate) (journal : List Entry) → plan.commons ≡ front ++ rest → filter_map (named (book plan journal)) (map (λ place. Common place) (range_with_len (length front) (length rest))) ≡ rest
names_from plan front [] journal e = refl
names_from plan front (c ∷ rest) journal e =
    let here : slice_get plan.commons (length front) ≡ Some c = ap (λ (cs : List Certificate). slice_get cs (length front)) e ∙ slice_at front c rest in
    ap₂ (λ (o : Option Certificate) (cs : List Certificate). cons_option o cs) here
    (ap (λ n. filter_map (named (book plan journal)) (map (λ place. Common place) (range_with_len n (length rest)))) (sym (length_push front c)) ∙
    names_from plan (front ++ c ∷ []) rest journal (e ∙ sym (append_assoc front (c ∷ []) rest)))

pub first_named : (plan : Plan) (journal : List Entry) → certs_named (book plan journal) (first_names (length plan.commons)) ≡ plan.commons
first_named plan journal = names_from plan [] plan.commons journal refl

pub first_are_names : (plan : Plan) (journal : List Entry) → AreNames (book plan journal) (first_names (length plan.commons))
first_are_names plan journal = λ k d lt.
    let within : k < length plan.commons = omega (arith, lt, length-map-range_with_len (λ place. Common place) 0 (length plan.commons)) in
    subst (λ n. IsSome (named (book plan journal) n)) (sym (get_or-map-range_with_len (λ place. Common place) 0 (length plan.commons) k k d within (omega arith))) (is_there plan.commons k within)

no_entry : (before : List Entry) (e : Entry) (rest : List Entry) → [] ≡ before ++ e ∷ rest → ⊥
no_entry [] e rest h = cc
no_entry (b ∷ before) e rest h = cc

pub opened_kept : (plan : Plan) (entries : Vec ShardEntry Global) (store : Store) → IsPlan plan → entries.items ≡ [] → plan.limit ≤ vec_capacity entries →
    store.clock ≡ 0 → store.swept ≡ 0 → store.commons.items ≡ first_names (length plan.commons) → store.withdrawn.items ≡ [] → AreNew store.rows.items (length plan.channels) → IsKept plan entries store
opened_kept plan entries store planned none room clock swept commons barred rows =
    let names : AreNames (book plan []) store.commons.items = subst (AreNames (book plan [])) (sym commons) (first_are_names plan []) in
    let is : IsStore (book plan []) (opened plan) store = record {
      clock_is = clock;
      commons_are = ap (certs_named (book plan [])) commons ∙ first_named plan [];
      commons_names = names;
      withdrawn_are = barred;
      row_count = rows.long;
      rows_are = λ i row c at there.
          let (last, stamp, own) = rows.blank i row at in
          record {
            last_is = last;
            own_is = row_fresh plan [] store.clock store.swept row (stamp ∙ sym swept) ∙ ap (certs_named (book plan [])) own;
            names = subst (AreNames (book plan [])) (sym own) (λ k d lt. absurd (omega (arith, lt)));
            swept_before = omega (arith, stamp);
          };
    } in
    record {
      planned = planned;
      legal = subst (λ (es : List ShardEntry). IsLegalJournal plan (map entry_of es)) (sym none) (λ before e rest eq. absurd (no_entry before e rest eq));
      store_is = subst (λ (es : List ShardEntry). IsStore (book plan (map entry_of es)) (state_after plan (map entry_of es)) store) (sym none) is;
      swept_within = omega (arith, swept);
      within = omega (arith, ap (λ (es : List ShardEntry). length es) none);
      room = room;
    }
