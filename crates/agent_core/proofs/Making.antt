-- The journal that a shard makes of events, and legal journals an entry at a time.
use Rattle.std.proofs.Common.{◌≡◌, ◌+◌, ◌≤◌, List, [], ◌∷◌, ◌++◌, length, map, refl, sym, ◌∙◌, ap, ap₂, subst, append_assoc, append-nil, length-append, arith}
use Rattle.std.proofs.lemmas.List.{map-append}
use Rattle.proof_cache.specs.Cached.{Cached}
use Rattle.agent_core.specs.Caches.{cache_next}
use Rattle.agent_core.specs.State.{Plan, State, Event, opened, next}
use Rattle.agent_core.specs.Journals.{Entry, entry, told_of, told_at, state_from, state_after, cache_from, cache_after, MayFollow, IsLegalJournal}
use Rattle.agent_core.specs.Laws.{journal_from, journal_of, AreMeant, AllMayFollow, LegalIsAllowed, JournalIsLegal, HasOneJournal, FrontIsLegal}
use Rattle.agent_core.proofs.Journaling.{state_from-push, cache_after-push, legal_more}

module _ (plan : Plan) where
  pub front_legal : FrontIsLegal plan
  front_legal front more legal before e rest is = legal before e (rest ++ more) (ap (λ l. l ++ more) is ∙ append_assoc before (e ∷ rest) more)

  -- what holds of the empty journal, and of each legal journal with one entry more, holds of every legal journal
  module _ (P : List Entry → Type 0) (step : (j : List Entry) (e : Entry) → IsLegalJournal plan j → P j → MayFollow plan j e → P (j ++ e ∷ [])) where
    by_entries : (front rest : List Entry) → IsLegalJournal plan (front ++ rest) → P front → P (front ++ rest)
    by_entries front [] legal p = subst P (sym (append-nil front)) p
    by_entries front (e ∷ rest) legal p =
        let same : (front ++ e ∷ []) ++ rest ≡ front ++ e ∷ rest = append_assoc front (e ∷ []) rest in
        subst P same (by_entries (front ++ e ∷ []) rest (subst (IsLegalJournal plan) (sym same) legal)
        (step front e (front_legal front (e ∷ rest) legal) p (legal front e rest refl)))

    pub journal_induction : P [] → (j : List Entry) → IsLegalJournal plan j → P j
    journal_induction p j legal = by_entries [] j legal p

  -- the journal of the next events, behind those that stand
  abbrev onward : List Entry → List Event → List Entry
  onward before events = journal_from plan (state_after plan before) (cache_after plan before) events

  abbrev made : List Entry → Event → Entry
  made before e = entry e (told_at plan before e)

  onward_more : (before : List Entry) (e : Event) (es : List Event) →
      before ++ onward before (e ∷ es) ≡ (before ++ made before e ∷ []) ++ onward (before ++ made before e ∷ []) es
  onward_more before e es =
      sym (append_assoc before (made before e ∷ []) _) ∙
      ap₂ (λ s c. (before ++ made before e ∷ []) ++ journal_from plan s c es) (sym (state_from-push plan (opened plan) before (made before e)))
      (sym (cache_after-push plan before (made before e)))

  legal_onward : (before : List Entry) (events : List Event) → IsLegalJournal plan before → length before + length events ≤ plan.limit →
      AreMeant plan before events → IsLegalJournal plan (before ++ onward before events)
  legal_onward before [] legal room meant = subst (IsLegalJournal plan) (sym (append-nil before)) legal
  legal_onward before (e ∷ es) legal room meant =
      let may : MayFollow plan before (made before e) = record { room = omega arith; meant = meant.0; tells = refl } in
      let more : length (before ++ made before e ∷ []) ≡ length before + 1 = length-append before (made before e ∷ []) in
      subst (IsLegalJournal plan) (sym (onward_more before e es))
      (legal_onward (before ++ made before e ∷ []) es (legal_more plan before (made before e) legal may) (omega arith) meant.1)

  empty_legal : IsLegalJournal plan []
  empty_legal [] e rest is = let no : ⊥ = cc in absurd no
  empty_legal (b ∷ before) e rest is = let no : ⊥ = cc in absurd no

  pub journal_legal : JournalIsLegal plan
  journal_legal events few meant = legal_onward [] events empty_legal (omega arith) meant

  journal_from-append : (s : State) (cache : List Cached) (es : List Event) (e : Event) →
      journal_from plan s cache (es ++ e ∷ []) ≡
      journal_from plan s cache es ++ journal_from plan (state_from plan s (journal_from plan s cache es)) (cache_from plan s cache (journal_from plan s cache es)) (e ∷ [])
  journal_from-append s cache [] e = refl
  journal_from-append s cache (x ∷ es) e =
      let t : State = (next plan s x).0 in
      let told = told_of cache x (next plan s x).1 in
      ap (λ l. entry x told ∷ l) (journal_from-append t (cache_next t.clock x told cache) es e)

  abbrev events_of : List Entry → List Event
  events_of j = map (λ (e : Entry). e.event) j

  abbrev IsMade : List Entry → Type 0
  IsMade j = j ≡ journal_of plan (events_of j)

  -- an entry that may follow is what the shard makes of its event
  entry_made : (j : List Entry) (e : Entry) → e.told ≡ told_at plan j e.event → e ≡ made j e.event
  entry_made j e t = λ i. record { event = e.event; told = t i }

  made_more : (j : List Entry) (e : Entry) → IsLegalJournal plan j → IsMade j → MayFollow plan j e → IsMade (j ++ e ∷ [])
  made_more j e legal is may =
      let k : List Entry = journal_of plan (events_of j) in
      ap (λ l. l ++ e ∷ []) is
      ∙ (ap (λ x. k ++ x ∷ []) (entry_made j e may.tells ∙ ap (λ l. made l e.event) is)
      ∙ (sym (journal_from-append (opened plan) [] (events_of j) e.event)
      ∙ ap (journal_of plan) (sym (map-append (λ (x : Entry). x.event) j (e ∷ [])))))

  pub one_journal : HasOneJournal plan
  one_journal = journal_induction IsMade made_more refl

  allowed_onward : (before rest : List Entry) → IsLegalJournal plan (before ++ rest) → AllMayFollow plan before rest
  allowed_onward before [] legal = tt
  allowed_onward before (e ∷ es) legal =
      (legal before e es refl, allowed_onward (before ++ e ∷ []) es (subst (IsLegalJournal plan) (sym (append_assoc before (e ∷ []) es)) legal))

  legal_from_allowed : (before rest : List Entry) → IsLegalJournal plan before → AllMayFollow plan before rest → IsLegalJournal plan (before ++ rest)
  legal_from_allowed before [] legal all = subst (IsLegalJournal plan) (sym (append-nil before)) legal
  legal_from_allowed before (e ∷ es) legal all =
      subst (IsLegalJournal plan) (append_assoc before (e ∷ []) es)
      (legal_from_allowed (before ++ e ∷ []) es (legal_more plan before e legal all.0) all.1)

  pub legal_allowed : LegalIsAllowed plan
  legal_allowed journal = (allowed_onward [] journal, legal_from_allowed [] journal empty_legal)
