-- One entry more of an object that is ruled as is due.
use Rattle.std.proofs.Common.{◌≡◌, ◌≢◌, inl, inr, ℕ, ◌<◌, List, [], ◌∷◌, ◌++◌, length, Some, slice_get, sym, ap, ◌∙◌, subst, subst₂, arith, length-append}
use Rattle.std.specs.Prelude.{AllPairs, Contains}
use Rattle.std.proofs.lemmas.List.Elements.{Contains-get_or}
use Rattle.std.proofs.lemmas.List.Quantifiers.{all_pairs_push}
use Rattle.std.proofs.lemmas.Option.{same_Some}
use Rattle.object_core.specs.Objects.{ObjectEntry}
use Rattle.object_core.specs.Shelving.{ObjectFixed}
use Rattle.agent_core.specs.Journals.{Entry}
use Rattle.agent_core.proofs.Journaling.{slice_front}
use Rattle.agent_core.proofs.AtPlaces.{slice_at}
use Rattle.shard_core.specs.Cells.{Cells}
use Rattle.journal_bytes.specs.Spelled.{ObjectJournal, numbered}
use Rattle.audit_replay.specs.Legal.{AreRuled, IsRuled, IsRuledObject, all_named, named}
use Rattle.audit_replay.proofs.Marks.{slice_last}
use Rattle.audit_replay.proofs.ObjectFalls.{names_fall}
use Rattle.audit_replay.proofs.Splits.{last_parts}

-- one more that differs from each before it
pub pairs_more : {X : Type 0} (xs : List X) (x : X) → AllPairs (λ m n. m ≢ n) xs → (Contains xs x → ⊥) → AllPairs (λ m n. m ≢ n) (xs ++ x ∷ [])
pairs_more xs x pairs new = all_pairs_push (λ m n. m ≢ n) xs x pairs (λ k d below same. new (subst (Contains xs) same (Contains-get_or xs k d below)))

-- the names of one entry more
pub names_more : (number : ℕ) (b : List ObjectEntry) (e : ObjectEntry) (front : List ObjectJournal) → all_named (front ++ numbered number (b ++ e ∷ []) ∷ []) ≡ all_named (front ++ numbered number b ∷ []) ++ named e ∷ []
names_more number b e front = names_fall number b e [] front []

module _ (cells : Cells) (shards : List (List Entry)) where
  entry_ruled : (f : ObjectFixed) (b : List ObjectEntry) (e : ObjectEntry) → IsRuledObject cells shards f b → length b < f.limit → IsRuled cells shards f.plan b e → IsRuledObject cells shards f (b ++ e ∷ [])
  entry_ruled f b e are room is = record {
    within = omega (arith, room, length-append b (e ∷ []));
    ruled = λ before rest x parts.
        elim (last_parts b e before x rest parts) [
          | inl same ↦ subst₂ (λ l y. IsRuled cells shards f.plan l y) (sym same.0) (sym same.1) is
          | inr more ↦ are.ruled before more.0 x more.1
        ];
  }

  -- the object with one entry more
  pub ruled_more : (f : ObjectFixed) (front : List ObjectJournal) (number : ℕ) (b : List ObjectEntry) (e : ObjectEntry) → AreRuled cells shards (front ++ numbered number b ∷ []) → slice_get cells.objects (length front) ≡ Some f →
      length b < f.limit → IsRuled cells shards f.plan b e → (Contains (all_named (front ++ numbered number b ∷ [])) (named e) → ⊥) → AreRuled cells shards (front ++ numbered number (b ++ e ∷ []) ∷ [])
  ruled_more f front number b e are opened room is new = record {
    each = λ i g o at stands.
        elim (slice_last front (numbered number (b ++ e ∷ [])) i o stands) [
          | inl before ↦ are.each i g o at (slice_front front (numbered number b ∷ []) i o before)
          | inr here ↦
              let one : f ≡ g = same_Some f g (sym opened ∙ ap (slice_get cells.objects) (sym here.0) ∙ at) in
              let last : slice_get (front ++ numbered number b ∷ []) (length front) ≡ Some (numbered number b) = slice_at front (numbered number b) [] in
              let object : IsRuledObject cells shards f (b ++ e ∷ []) = entry_ruled f b e (are.each (length front) f (numbered number b) opened last) room is in
              subst₂ (λ k (j : ObjectJournal). IsRuledObject cells shards k j.entries) one here.1 object
        ];
    once = subst (AllPairs (λ m n. m ≢ n)) (sym (names_more number b e front)) (pairs_more (all_named (front ++ numbered number b ∷ [])) (named e) are.once new);
  }
