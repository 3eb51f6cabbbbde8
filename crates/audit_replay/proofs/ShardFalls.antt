-- The entries of a shard fail first at one place at most, for one cause, and never where they are those of a legal journal.
use Rattle.std.proofs.Common.{◌≡◌, inl, inr, ℕ, suc, ◌<◌, List, [], ◌∷◌, ◌++◌, length, map, Some, slice_get, refl, sym, ap, ap₂, ◌∙◌, subst, arith}
use Rattle.std.proofs.lemmas.Bool.{cases_order}
use Rattle.std.proofs.lemmas.List.{length-map}
use Rattle.std.proofs.lemmas.Option.{same_Some}
use Rattle.agent_core.specs.State.{Plan}
use Rattle.agent_core.specs.Journals.{Entry, IsLegalJournal, MayFollow, told_at}
use Rattle.agent_core.proofs.Making.{front_legal}
use Rattle.agent_core.proofs.AtPlaces.{slice_at}
use Rattle.journal_bytes.specs.Spelled.{SpelledEntry, SpelledEvent, Asks, Keeps, Holds, Discards, Forgets, Expires, Withdraws, spelled}
use Rattle.journal_bytes.proofs.OneJournal.{event_is, one_journal}
use Rattle.audit_replay.specs.declared.replayed.ReplayCause.{ReplayCause}
use Rattle.audit_replay.specs.Legal.{AreLegal}
use Rattle.audit_replay.specs.Replays.{FailsAt, ShardCause, Unmeant, full, unmeant, mistold, all_spelled}
use Rattle.audit_replay.proofs.Splits.{head_is, tail_is, longer_parts, map_parts, same_parts}

one_unmeant : (e : SpelledEvent) (c d : ReplayCause) → Unmeant e c → Unmeant e d → c ≡ d
one_unmeant (Asks a) c d is also = is ∙ sym also
one_unmeant (Keeps ask e proof cites) c d is also = is ∙ sym also
one_unmeant (Holds certs) c d is also = is ∙ sym also
one_unmeant (Discards digest) c d is also = is ∙ sym also
one_unmeant (Forgets channel) c d is also = is ∙ sym also
one_unmeant (Expires reading) c d is also = is ∙ sym also
one_unmeant (Withdraws issuer) c d is also = is ∙ sym also

module _ (plan : Plan) where
  -- an entry that may follow does not fail
  follows_not : (before : List Entry) (x : Entry) (c : ReplayCause) → MayFollow plan before x → ShardCause plan before (spelled x) c → ⊥
  follows_not before x c may (full is_full) = omega (arith, is_full, may.room)
  follows_not before x c may (unmeant room not_made is) =
      not_made (record { event = x.event; is = event_is plan before x.event may.meant; meant = may.meant })
  follows_not before x c may (mistold room made differs) =
      let same : made.event ≡ x.event = same_Some made.event x.event (sym made.is ∙ event_is plan before x.event may.meant) in
      differs (may.tells ∙ ap (told_at plan before) (sym same))

  one_cause : (before : List Entry) (e : SpelledEntry) (c d : ReplayCause) → ShardCause plan before e c → ShardCause plan before e d → c ≡ d
  one_cause before e c d (full is_full) (full also) = refl
  one_cause before e c d (full is_full) (unmeant room never is) = absurd (omega (arith, is_full, room))
  one_cause before e c d (full is_full) (mistold room made differs) = absurd (omega (arith, is_full, room))
  one_cause before e c d (unmeant room never is) (full is_full) = absurd (omega (arith, is_full, room))
  one_cause before e c d (unmeant room never is) (unmeant also_room also_no also) = one_unmeant e.event c d is also
  one_cause before e c d (unmeant room never is) (mistold also_room made differs) = absurd (never made)
  one_cause before e c d (mistold room made differs) (full is_full) = absurd (omega (arith, is_full, room))
  one_cause before e c d (mistold room made differs) (unmeant also_room never is) = absurd (never made)
  one_cause before e c d (mistold room made differs) (mistold also_room also_made also) = refl

  -- a legal journal has no entry that fails
  pub legal_not : (journal : List Entry) (entries : List SpelledEntry) (p : ℕ) (c : ReplayCause) → IsLegalJournal plan journal → map spelled journal ≡ entries → FailsAt plan entries p c → ⊥
  legal_not journal entries p c legal are f =
      let (a, x, r, is, fronts, here) = map_parts spelled journal (map spelled f.before) f.e f.rest (are ∙ f.is) in
      let whole : IsLegalJournal plan (a ++ x ∷ r) = subst (IsLegalJournal plan) is legal in
      let front : IsLegalJournal plan a = front_legal plan a (x ∷ r) whole in
      let same : a ≡ f.before = one_journal plan a f.before front f.legal fronts in
      let may : MayFollow plan f.before x = subst (λ (l : List Entry). MayFollow plan l x) same (whole a x r refl) in
      follows_not f.before x c may (subst (λ (e : SpelledEntry). ShardCause plan f.before e c) (sym here) f.fails)

  -- the later of two places is none
  later_not : (entries : List SpelledEntry) (p q : ℕ) (c d : ReplayCause) (f : FailsAt plan entries p c) (g : FailsAt plan entries q d) → length f.before < length g.before → ⊥
  later_not entries p q c d f g less =
      let shorter : length (map spelled f.before) < length (map spelled g.before) = omega (arith, less, length-map f.before spelled, length-map g.before spelled) in
      let (more, is) = longer_parts (map spelled f.before) (map spelled g.before) f.e g.e f.rest g.rest (sym f.is ∙ g.is) shorter in
      legal_not g.before (map spelled g.before) p c g.legal refl
      (record { before = f.before; e = f.e; rest = more; is = is; placed = f.placed; legal = f.legal; fails = f.fails })

  pub one_fall : (entries : List SpelledEntry) (p q : ℕ) (c d : ReplayCause) → FailsAt plan entries p c → FailsAt plan entries q d → (p ≡ q) × (c ≡ d)
  one_fall entries p q c d f g =
      elim (cases_order (length f.before) (length g.before)) [
        | inl long ↦
            let longs : length (map spelled f.before) ≡ length (map spelled g.before) = omega (arith, long, length-map f.before spelled, length-map g.before spelled) in
            let parts = same_parts (map spelled f.before) (map spelled g.before) f.e g.e f.rest g.rest (sym f.is ∙ g.is) longs in
            let same : f.before ≡ g.before = one_journal plan f.before g.before f.legal g.legal parts.0 in
            let moved : ShardCause plan g.before g.e c = subst (λ (x : SpelledEntry). ShardCause plan g.before x c) parts.1 (subst (λ (l : List Entry). ShardCause plan l f.e c) same f.fails) in
            (sym f.placed ∙ long ∙ g.placed, one_cause g.before g.e c d moved g.fails)
        | inr other ↦ elim other [
          | inl less ↦ absurd (later_not entries p q c d f g less)
          | inr less ↦ absurd (later_not entries q p d c g f less)
        ]
      ]

-- ---- all shards

-- where all are legal none has an entry that fails
pub all_not : (plans : List Plan) (journals front : List (List Entry)) (shards : List (List SpelledEntry)) (entries : List SpelledEntry) (others : List (List SpelledEntry)) (plan : Plan) (p : ℕ) (c : ReplayCause) →
    AreLegal plans journals → shards ≡ all_spelled journals → shards ≡ all_spelled front ++ entries ∷ others → slice_get plans (length front) ≡ Some plan → FailsAt plan entries p c → ⊥
all_not plans journals front shards entries others plan p c legal are is opened f =
    let each = λ (journal : List Entry). map spelled journal in
    let (a, x, r, parts, fronts, here) = map_parts each journals (all_spelled front) entries others (sym are ∙ is) in
    let long : length a ≡ length front = omega (arith, ap (λ (l : List (List SpelledEntry)). length l) fronts, length-map a each, length-map front each) in
    let stands : slice_get journals (length front) ≡ Some x = ap₂ (λ (l : List (List Entry)) n. slice_get l n) parts (sym long) ∙ slice_at a x r in
    legal_not plan x entries p c (legal (length front) plan x opened stands) here f

-- two places at which a shard fails first are one
pub one_shard : (plans : List Plan) (front back : List (List Entry)) (shards : List (List SpelledEntry)) (xs ys : List SpelledEntry) (others more : List (List SpelledEntry)) (plan also : Plan) (p q : ℕ) (c d : ReplayCause) →
    shards ≡ all_spelled front ++ xs ∷ others → shards ≡ all_spelled back ++ ys ∷ more → AreLegal plans front → AreLegal plans back →
    slice_get plans (length front) ≡ Some plan → slice_get plans (length back) ≡ Some also → FailsAt plan xs p c → FailsAt also ys q d → (length front ≡ length back) × (p ≡ q) × (c ≡ d)
one_shard plans front back shards xs ys others more plan also p q c d is spells legal goes opened reopened f g =
    let each = λ (journal : List Entry). map spelled journal in
    let counted : length (all_spelled front) ≡ length front = length-map front each in
    let count : length (all_spelled back) ≡ length back = length-map back each in
    elim (cases_order (length front) (length back)) [
      | inl long ↦
          let parts = same_parts (all_spelled front) (all_spelled back) xs ys others more (sym is ∙ spells) (omega (arith, long, counted, count)) in
          let one : plan ≡ also = same_Some plan also (sym opened ∙ ap (slice_get plans) long ∙ reopened) in
          let moved : FailsAt also ys p c = subst (λ (l : List SpelledEntry). FailsAt also l p c) parts.1 (subst (λ (k : Plan). FailsAt k xs p c) one f) in
          let fall = one_fall also ys p q c d moved g in
          (long, fall.0, fall.1)
      | inr other ↦ elim other [
        | inl less ↦
            let (rest, begun) = longer_parts (all_spelled front) (all_spelled back) xs ys others more (sym is ∙ spells) (omega (arith, less, counted, count)) in
            absurd (all_not plans back front (all_spelled back) xs rest plan p c goes refl begun opened f)
        | inr less ↦
            let (rest, begun) = longer_parts (all_spelled back) (all_spelled front) ys xs more others (sym spells ∙ is) (omega (arith, less, counted, count)) in
            absurd (all_not plans front back (all_spelled front) ys rest also q d legal refl begun reopened g)
      ]
    ]

legal_first : (p : Plan) (ps : List Plan) (j : List Entry) (js : List (List Entry)) → AreLegal (p ∷ ps) (j ∷ js) → IsLegalJournal p j
legal_first p ps j js legal = legal 0 p j refl refl

legal_others : (p : Plan) (ps : List Plan) (j : List Entry) (js : List (List Entry)) → AreLegal (p ∷ ps) (j ∷ js) → AreLegal ps js
legal_others p ps j js legal i plan journal opened stands = legal (suc i) plan journal opened stands

-- legal journals of all shards that are spelled alike are the same
pub one_lot : (plans : List Plan) (js ks : List (List Entry)) → length js ≡ length plans → AreLegal plans js → AreLegal plans ks → all_spelled js ≡ all_spelled ks → js ≡ ks
one_lot plans [] [] long legal goes same = refl
one_lot plans [] (k ∷ ks) long legal goes same = absurd cc
one_lot plans (j ∷ js) [] long legal goes same = absurd cc
one_lot [] (j ∷ js) (k ∷ ks) long legal goes same = absurd (omega (arith, long))
one_lot (p ∷ ps) (j ∷ js) (k ∷ ks) long legal goes same =
    let first : j ≡ k = one_journal p j k (legal_first p ps j js legal) (legal_first p ps k ks goes) (head_is (map spelled j) (map spelled k) (all_spelled js) (all_spelled ks) same) in
    let others : js ≡ ks = one_lot ps js ks (omega (arith, long)) (legal_others p ps j js legal) (legal_others p ps k ks goes) (tail_is (map spelled j) (map spelled k) (all_spelled js) (all_spelled ks) same) in
    ap₂ (λ (h : List Entry) l. h ∷ l) first others
