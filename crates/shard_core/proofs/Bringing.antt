-- Certificates that an event brings, and that are held from then on.
use Rattle.std.proofs.Common.{◌≡◌, ℕ, ◌+◌, ◌<◌, ◌≤◌, cond, List, [], ◌∷◌, ◌++◌, length, map, All, IsSome, Some, sym, ap, ap₂, ◌∙◌, subst, arith}
use Rattle.std.specs.List.{slice_get, filter_map}
use Rattle.std.proofs.lemmas.Bool.{lt-ltb, le-ltb}
use Rattle.std.proofs.lemmas.List.Elements.{All-append, filter_map-append}
use Rattle.stmt_codec.specs.Certificates.{Certificate}
use Rattle.shard_core.specs.declared.held.name.Name.{Name}
use Rattle.shard_core.specs.declared.shard.store.Store.{Store}
use Rattle.agent_core.specs.declared.told.Told.{Told}
use Rattle.agent_core.specs.Held.{admitted, newly}
use Rattle.agent_core.specs.State.{Plan, State, Holds, Plain, next}
use Rattle.agent_core.specs.Journals.{Entry}
use Rattle.shard_core.specs.Kept.{IsStore}
use Rattle.shard_core.specs.Names.{book, named, certs_named, AreNames, name_in, brought_by}
use Rattle.agent_core.proofs.AtPlaces.{count_named, count_places}
use Rattle.shard_core.proofs.NamesLeft.{certs_brought, are_brought, journal_names_more, named_more, names_more}
use Rattle.shard_core.proofs.KeptMore.{store_more}

-- ---- names with those that the last entry brought

module _ (plan : Plan) (journal : List Entry) (e : Entry) (names : List Name) (places : List ℕ) where
  pub certs_joined : AreNames (book plan journal) names → certs_named (book plan (journal ++ e ∷ [])) (names ++ map (name_in (length journal)) places) ≡ certs_named (book plan journal) names ++ filter_map (slice_get (brought_by e.event)) places
  certs_joined all =
      filter_map-append (named (book plan (journal ++ e ∷ []))) names (map (name_in (length journal)) places) ∙
      ap₂ (λ (xs ys : List Certificate). xs ++ ys)
      (named_more (named (book plan journal)) (named (book plan (journal ++ e ∷ []))) (journal_names_more plan journal (e ∷ [])) names all) (certs_brought plan journal e places)

  pub names_joined : AreNames (book plan journal) names → All (λ p. p < length (brought_by e.event)) places → AreNames (book plan (journal ++ e ∷ [])) (names ++ map (name_in (length journal)) places)
  names_joined all within =
      All-append (λ n. IsSome (named (book plan (journal ++ e ∷ [])) n)) names (map (name_in (length journal)) places)
      (names_more (named (book plan journal)) (named (book plan (journal ++ e ∷ []))) (journal_names_more plan journal (e ∷ [])) names all) (are_brought plan journal e places within)

-- ---- certificates that are held in common

abbrev pub held_more : State → List Certificate → State
held_more s new = record { clock = s.clock; last = s.last; own = s.own; commons = s.commons ++ new; withdrawn = s.withdrawn }

module _ (plan : Plan) (journal : List Entry) (s : State) (store : Store) (is : IsStore (book plan journal) s store) (certs : List Certificate) (places : List ℕ)
    (found : filter_map (slice_get certs) places ≡ newly (certs_named (book plan journal) store.commons.items) (admitted store.withdrawn.items certs)) (within : All (λ i. i < length certs) places) where
  -- what is new in common
  abbrev pub fresh : List Certificate
  fresh = newly s.commons (admitted s.withdrawn certs)

  news : filter_map (slice_get certs) places ≡ fresh
  news = found ∙ ap₂ (λ (held : List Certificate) (issuers : List ℕ). newly held (admitted issuers certs)) is.commons_are is.withdrawn_are

  new_count : length fresh ≡ length places
  new_count = sym (ap (λ (cs : List Certificate). length cs) news) ∙ count_places certs places within

  held_count : length s.commons ≡ length store.commons.items
  held_count = sym (ap (λ (cs : List Certificate). length cs) is.commons_are) ∙ count_named (named (book plan journal)) store.commons.items is.commons_names

  pub commons_full : 32 < length store.commons.items + length places → next plan s (Holds certs) ≡ (s, Plain (Told.CommonsFull (length store.commons.items)))
  commons_full lt =
      ap (λ b. cond b (s, Plain (Told.CommonsFull (length s.commons))) (held_more s fresh, Plain (Told.Held (length fresh))))
      (lt-ltb 32 (length s.commons + length fresh) (omega (arith, lt, new_count, held_count))) ∙
      ap (λ n. (s, Plain (Told.CommonsFull n))) held_count

  pub commons_fit : length store.commons.items + length places ≤ 32 → next plan s (Holds certs) ≡ (held_more s fresh, Plain (Told.Held (length places)))
  commons_fit le =
      ap (λ b. cond b (s, Plain (Told.CommonsFull (length s.commons))) (held_more s fresh, Plain (Told.Held (length fresh))))
      (le-ltb 32 (length s.commons + length fresh) (omega (arith, le, new_count, held_count))) ∙
      ap (λ n. (held_more s fresh, Plain (Told.Held n))) new_count

  pub commons_held : (e : Entry) (after : Store) → brought_by e.event ≡ certs → after.commons.items ≡ store.commons.items ++ map (name_in (length journal)) places →
      after.clock ≡ store.clock → after.swept ≡ store.swept → after.rows ≡ store.rows → after.withdrawn ≡ store.withdrawn → IsStore (book plan (journal ++ e ∷ [])) (held_more s fresh) after
  commons_held e after brings commons clock swept rows barred =
      let more = store_more plan journal (e ∷ []) s store is in
      let there : certs_named (book plan (journal ++ e ∷ [])) (store.commons.items ++ map (name_in (length journal)) places) ≡ s.commons ++ fresh =
      certs_joined plan journal e store.commons.items places is.commons_names ∙
      ap₂ (λ (xs ys : List Certificate). xs ++ ys) is.commons_are (ap (λ (cs : List Certificate). filter_map (slice_get cs) places) brings ∙ news) in
      let valid = names_joined plan journal e store.commons.items places is.commons_names (subst (λ (cs : List Certificate). All (λ p. p < length cs) places) (sym brings) within) in
      record {
        clock_is = clock ∙ is.clock_is;
        commons_are = subst (λ ns. certs_named (book plan (journal ++ e ∷ [])) ns ≡ s.commons ++ fresh) (sym commons) there;
        commons_names = subst (AreNames (book plan (journal ++ e ∷ []))) (sym commons) valid;
        withdrawn_are = ap (λ v. v.items) barred ∙ is.withdrawn_are;
        row_count = ap (λ v. length v.items) rows ∙ is.row_count;
        rows_are = λ i row c at channel.
            rw (clock, swept) (more.rows_are i row c (subst (λ v. slice_get v.items i ≡ Some row) rows at) channel);
      }
