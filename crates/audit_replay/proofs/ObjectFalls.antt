-- The entries of objects fail first at one place at most, for one cause, and never where all are ruled as is due.
use Rattle.std.proofs.Common.{◌≡◌, ◌≢◌, inl, inr, ℕ, ◌+◌, ◌<◌, List, [], ◌∷◌, ◌++◌, length, map, Some, slice_get, refl, sym, ap, ◌∙◌, subst, arith, length-append, append_assoc, append-nil}
use Rattle.std.specs.Prelude.{All, AllPairs, Contains}
use Rattle.std.proofs.lemmas.Bool.{cases_order}
use Rattle.std.proofs.lemmas.Grind.{flat_map-append}
use Rattle.std.proofs.lemmas.List.{map-append}
use Rattle.std.proofs.lemmas.List.Elements.{All-contains}
use Rattle.std.proofs.lemmas.Option.{same_Some}
use Rattle.byte_fields.proofs.ReaderLaws.{AllPairs-before}
use Rattle.object_core.specs.Objects.{ObjectEntry}
use Rattle.object_core.specs.Shelving.{ObjectFixed}
use Rattle.agent_core.specs.Journals.{Entry}
use Rattle.agent_core.proofs.AtPlaces.{slice_at}
use Rattle.shard_core.specs.Cells.{Cells}
use Rattle.journal_bytes.specs.Spelled.{ObjectJournal, numbered}
use Rattle.audit_replay.specs.declared.replayed.ReplayCause.{ReplayCause}
use Rattle.audit_replay.specs.Legal.{AreRuled, IsRuled, IsRuledObject, all_named, named}
use Rattle.audit_replay.specs.Replays.{ObjectCause, ObjectFailsAt, object_full, unasked, again, misruled}
use Rattle.audit_replay.proofs.Splits.{longer_parts, same_parts}

abbrev Apart : (ℕ × ℕ) → (ℕ × ℕ) → Type 0
Apart m n = m ≢ n

-- the names of entries that fall apart
pub names_fall : (number : ℕ) (b : List ObjectEntry) (e : ObjectEntry) (r : List ObjectEntry) (front others : List ObjectJournal) →
    all_named (front ++ numbered number (b ++ e ∷ r) ∷ others) ≡ all_named (front ++ numbered number b ∷ []) ++ named e ∷ (map named r ++ all_named others)
names_fall number b e r front others =
    let each = λ (o : ObjectJournal). map named o.entries in
    let here : map named (b ++ e ∷ r) ≡ map named b ++ named e ∷ map named r = map-append named b (e ∷ r) in
    let left : all_named (front ++ numbered number (b ++ e ∷ r) ∷ others) ≡ all_named front ++ (map named (b ++ e ∷ r) ++ all_named others) = flat_map-append each front (numbered number (b ++ e ∷ r) ∷ others) in
    let right : all_named (front ++ numbered number b ∷ []) ≡ all_named front ++ map named b = flat_map-append each front (numbered number b ∷ []) ∙ ap (λ (l : List (ℕ × ℕ)). all_named front ++ l) (append-nil (map named b)) in
    let moved : (map named b ++ named e ∷ map named r) ++ all_named others ≡ map named b ++ named e ∷ (map named r ++ all_named others) = append_assoc (map named b) (named e ∷ map named r) (all_named others) in
    left ∙ ap (λ (l : List (ℕ × ℕ)). all_named front ++ (l ++ all_named others)) here ∙ ap (λ (l : List (ℕ × ℕ)). all_named front ++ l) moved ∙ sym (append_assoc (all_named front) (map named b) (named e ∷ (map named r ++ all_named others))) ∙ ap (λ (l : List (ℕ × ℕ)). l ++ named e ∷ (map named r ++ all_named others)) (sym right)

module _ (cells : Cells) (shards : List (List Entry)) where
  one_cause : (f : ObjectFixed) (names : List (ℕ × ℕ)) (before : List ObjectEntry) (e : ObjectEntry) (c d : ReplayCause) → ObjectCause cells shards f names before e c → ObjectCause cells shards f names before e d → c ≡ d
  one_cause f names before e c d (object_full full) (object_full also) = refl
  one_cause f names before e c d (object_full full) (unasked room never) = absurd (omega (arith, full, room))
  one_cause f names before e c d (object_full full) (again room is has) = absurd (omega (arith, full, room))
  one_cause f names before e c d (object_full full) (misruled room is new never) = absurd (omega (arith, full, room))
  one_cause f names before e c d (unasked room never) (object_full full) = absurd (omega (arith, full, room))
  one_cause f names before e c d (unasked room never) (unasked also_room also) = refl
  one_cause f names before e c d (unasked room never) (again also_room is has) = absurd (never is)
  one_cause f names before e c d (unasked room never) (misruled also_room is new not_due) = absurd (never is)
  one_cause f names before e c d (again room is has) (object_full full) = absurd (omega (arith, full, room))
  one_cause f names before e c d (again room is has) (unasked also_room never) = absurd (never is)
  one_cause f names before e c d (again room is has) (again also_room also_is also) = refl
  one_cause f names before e c d (again room is has) (misruled also_room also_is new not_due) = absurd (new has)
  one_cause f names before e c d (misruled room is new not_due) (object_full full) = absurd (omega (arith, full, room))
  one_cause f names before e c d (misruled room is new not_due) (unasked also_room never) = absurd (never is)
  one_cause f names before e c d (misruled room is new not_due) (again also_room also_is has) = absurd (new has)
  one_cause f names before e c d (misruled room is new not_due) (misruled also_room also_is also_new also) = refl

  -- an entry that is ruled as is due, and names an Ask that has no name, does not fail
  ruled_not : (f : ObjectFixed) (names : List (ℕ × ℕ)) (before : List ObjectEntry) (e : ObjectEntry) (c : ReplayCause) → length before < f.limit → IsRuled cells shards f.plan before e →
      (Contains names (named e) → ⊥) → ObjectCause cells shards f names before e c → ⊥
  ruled_not f names before e c room is new (object_full full) = omega (arith, full, room)
  ruled_not f names before e c room is new (unasked also never) = never is.names
  ruled_not f names before e c room is new (again also names_it has) = new has
  ruled_not f names before e c room is new (misruled also names_it also_new never) = never is

  -- where all are ruled as is due none has an entry that fails
  pub all_ruled_not : (f : ObjectFixed) (front others : List ObjectJournal) (o : ObjectJournal) (p : ℕ) (c : ReplayCause) → AreRuled cells shards (front ++ o ∷ others) → slice_get cells.objects (length front) ≡ Some f →
      ObjectFailsAt cells shards f front o p c → ⊥
  all_ruled_not f front others o p c ruled opened x =
      let object : IsRuledObject cells shards f o.entries = ruled.each (length front) f o opened (slice_at front o others) in
      let long : length o.entries ≡ length x.before + length (x.e ∷ x.rest) = ap (λ (l : List ObjectEntry). length l) x.is ∙ length-append x.before (x.e ∷ x.rest) in
      let more : length (x.e ∷ x.rest) ≡ length x.rest + 1 = omega arith in
      let room : length x.before < f.limit = omega (arith, long, more, object.within) in
      let journal : numbered o.number o.entries ≡ numbered o.number (x.before ++ x.e ∷ x.rest) = ap (numbered o.number) x.is in
      let names : all_named (front ++ o ∷ others) ≡ all_named (front ++ numbered o.number x.before ∷ []) ++ named x.e ∷ (map named x.rest ++ all_named others) =
      ap (λ (q : ObjectJournal). all_named (front ++ q ∷ others)) journal ∙ names_fall o.number x.before x.e x.rest front others in
      let once : AllPairs Apart (all_named (front ++ numbered o.number x.before ∷ []) ++ named x.e ∷ (map named x.rest ++ all_named others)) = subst (AllPairs Apart) names ruled.once in
      let earlier : All (λ m. Apart m (named x.e)) (all_named (front ++ numbered o.number x.before ∷ [])) =
      AllPairs-before Apart (all_named (front ++ numbered o.number x.before ∷ [])) (named x.e) (map named x.rest ++ all_named others) once in
      ruled_not f (all_named (front ++ numbered o.number x.before ∷ [])) x.before x.e c room (object.ruled x.before x.rest x.e x.is)
      (λ has. All-contains (λ m. Apart m (named x.e)) (all_named (front ++ numbered o.number x.before ∷ [])) (named x.e) earlier has refl) x.fails

  -- the later of two places is none
  later_not : (f : ObjectFixed) (front : List ObjectJournal) (o : ObjectJournal) (p q : ℕ) (c d : ReplayCause) → slice_get cells.objects (length front) ≡ Some f →
      (x : ObjectFailsAt cells shards f front o p c) (y : ObjectFailsAt cells shards f front o q d) → length x.before < length y.before → ⊥
  later_not f front o p q c d opened x y less =
      let (more, is) = longer_parts x.before y.before x.e y.e x.rest y.rest (sym x.is ∙ y.is) less in
      all_ruled_not f front [] (numbered o.number y.before) p c y.ruled opened
      (record { before = x.before; e = x.e; rest = more; is = is; placed = x.placed; ruled = x.ruled; fails = x.fails })

  one_fall : (f : ObjectFixed) (front : List ObjectJournal) (o : ObjectJournal) (p q : ℕ) (c d : ReplayCause) → slice_get cells.objects (length front) ≡ Some f →
      ObjectFailsAt cells shards f front o p c → ObjectFailsAt cells shards f front o q d → (p ≡ q) × (c ≡ d)
  one_fall f front o p q c d opened x y =
      elim (cases_order (length x.before) (length y.before)) [
        | inl long ↦
            let parts = same_parts x.before y.before x.e y.e x.rest y.rest (sym x.is ∙ y.is) long in
            let Fails = λ (b : List ObjectEntry) (e : ObjectEntry). ObjectCause cells shards f (all_named (front ++ numbered o.number b ∷ [])) b e c in
            let moved : Fails y.before y.e = subst (λ (e : ObjectEntry). Fails y.before e) parts.1 (subst (λ (b : List ObjectEntry). Fails b x.e) parts.0 x.fails) in
            (sym x.placed ∙ long ∙ y.placed, one_cause f (all_named (front ++ numbered o.number y.before ∷ [])) y.before y.e c d moved y.fails)
        | inr other ↦ elim other [
          | inl less ↦ absurd (later_not f front o p q c d opened x y less)
          | inr less ↦ absurd (later_not f front o q p d c opened y x less)
        ]
      ]

  -- of two objects that fail first the later is none
  later_object : (f : ObjectFixed) (front back others more : List ObjectJournal) (o u : ObjectJournal) (g : ObjectFixed) (p q : ℕ) (c d : ReplayCause) → front ++ o ∷ others ≡ back ++ u ∷ more →
      slice_get cells.objects (length front) ≡ Some f → ObjectFailsAt cells shards f front o p c → ObjectFailsAt cells shards g back u q d → length front < length back → ⊥
  later_object f front back others more o u g p q c d same opened x y less =
      let (rest, is) = longer_parts front back o u others more same less in
      let whole : (front ++ o ∷ rest) ++ numbered u.number y.before ∷ [] ≡ front ++ o ∷ (rest ++ numbered u.number y.before ∷ []) = append_assoc front (o ∷ rest) (numbered u.number y.before ∷ []) in
      let ruled : AreRuled cells shards (front ++ o ∷ (rest ++ numbered u.number y.before ∷ [])) =
      subst (AreRuled cells shards) (ap (λ (l : List ObjectJournal). l ++ numbered u.number y.before ∷ []) is ∙ whole) y.ruled in
      all_ruled_not f front (rest ++ numbered u.number y.before ∷ []) o p c ruled opened x

  -- two places at which an object fails first are one
  pub one_object : (f : ObjectFixed) (front back others more : List ObjectJournal) (o u : ObjectJournal) (g : ObjectFixed) (p q : ℕ) (c d : ReplayCause) → front ++ o ∷ others ≡ back ++ u ∷ more →
      slice_get cells.objects (length front) ≡ Some f → slice_get cells.objects (length back) ≡ Some g → ObjectFailsAt cells shards f front o p c → ObjectFailsAt cells shards g back u q d →
      (o ≡ u) × (p ≡ q) × (c ≡ d)
  one_object f front back others more o u g p q c d same opened reopened x y =
      elim (cases_order (length front) (length back)) [
        | inl long ↦
            let parts = same_parts front back o u others more same long in
            let one : f ≡ g = same_Some f g (sym opened ∙ ap (slice_get cells.objects) long ∙ reopened) in
            let Fails = λ (k : ObjectFixed) (l : List ObjectJournal) (j : ObjectJournal). ObjectFailsAt cells shards k l j p c in
            let moved : Fails g back u = subst (λ (j : ObjectJournal). Fails g back j) parts.1 (subst (λ (l : List ObjectJournal). Fails g l o) parts.0 (subst (λ (k : ObjectFixed). Fails k front o) one x)) in
            let fall = one_fall g back u p q c d reopened moved y in
            (parts.1, fall.0, fall.1)
        | inr other ↦ elim other [
          | inl less ↦ absurd (later_object f front back others more o u g p q c d same opened x y less)
          | inr less ↦ absurd (later_object g back front more others u o f q p d c (sym same) reopened y x less)
        ]
      ]
