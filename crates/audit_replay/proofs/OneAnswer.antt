-- Bytes come to one answer.
use Rattle.std.proofs.Common.{◌≡◌, ℕ, List, ◌∷◌, ◌++◌, length, map, Ok, Err, Result, refl, sym, ap, ◌∙◌, subst, arith}
use Rattle.std.proofs.lemmas.List.{length-map}
use Rattle.byte_fields.specs.declared.fault.FormatFault.{FormatFault}
use Rattle.byte_fields.specs.declared.fault.FormatFault.TheVariants.{Malformed}
use Rattle.agent_core.specs.Journals.{Entry}
use Rattle.shard_core.specs.Cells.{Cells}
use Rattle.journal_bytes.specs.JournalsReading.{journals_in}
use Rattle.journal_bytes.specs.Spelled.{Journals, ObjectJournal, SpelledEntry, spelled}
use Rattle.journal_bytes.proofs.JournalLaws.{journals_again, spelled_once}
use Rattle.audit_replay.specs.declared.replayed.Cell.{Cell}
use Rattle.audit_replay.specs.declared.replayed.ReplayCause.{ReplayCause}
use Rattle.audit_replay.specs.declared.replayed.Replayed.{Replayed}
use Rattle.audit_replay.specs.Legal.{AreLegal, AreRuled, HasCells}
use Rattle.audit_replay.specs.Replays.{AreReplayed, IsReplayed, ObjectFailsAt, all_spelled, legal, other_cells, in_shard, in_object, malformed, judged}
use Rattle.audit_replay.proofs.ShardFalls.{all_not, one_lot, one_shard}
use Rattle.audit_replay.proofs.ObjectFalls.{all_ruled_not, one_object}

one_offset : (m n : ℕ) (r : Result Journals FormatFault) → r ≡ Err (Malformed m) → r ≡ Err (Malformed n) → m ≡ n
one_offset m n r e f = cc

not_both : (j : Journals) (n : ℕ) (r : Result Journals FormatFault) → r ≡ Ok j → r ≡ Err (Malformed n) → ⊥
not_both j n r e f = absurd cc

illegal_is : (a b : Cell) (p q : ℕ) (c d : ReplayCause) → a ≡ b → p ≡ q → c ≡ d → Replayed.Illegal a p c ≡ Replayed.Illegal b q d
illegal_is a b p q c d cells places causes = rw (cells, places, causes) refl

module _ (cells : Cells) (j : Journals) where
  -- the journals of the shards are the same
  same_shards : (js ks : List (List Entry)) → HasCells cells j → j.shards ≡ all_spelled js → j.shards ≡ all_spelled ks → AreLegal cells.plans js → AreLegal cells.plans ks → js ≡ ks
  same_shards js ks has are also is goes =
      let long : length js ≡ length cells.plans = omega (arith, ap (λ (l : List (List SpelledEntry)). length l) are, length-map js (λ (journal : List Entry). map spelled journal), has.shards) in
      one_lot cells.plans js ks long is goes (sym are ∙ also)

  pub one_come : (r s : Replayed) → AreReplayed cells j r → AreReplayed cells j s → r ≡ s
  one_come r s (legal has are is ruled) (legal also_has also_are also_is also_ruled) = refl
  one_come r s (legal has are is ruled) (other_cells never) = absurd (never has)
  one_come r s (legal {shards = js} has are is ruled) (in_shard front {plan = plan} {entries = entries} others {place = p} {cause = c} also parts goes opened f) =
      absurd (all_not cells.plans js front j.shards entries others plan p c is are parts opened f)
  one_come r s (legal {shards = js} has are is ruled) (in_object {shards = ks} {f = f} {o = o} {front = front} others {place = p} {cause = c} also also_are goes parts opened x) =
      let same : js ≡ ks = same_shards js ks has are also_are is goes in
      let moved : AreRuled cells ks (front ++ o ∷ others) = subst (AreRuled cells ks) parts (subst (λ (l : List (List Entry)). AreRuled cells l j.objects) same ruled) in
      absurd (all_ruled_not cells ks f front others o p c moved opened x)
  one_come r s (other_cells never) (legal has are is ruled) = absurd (never has)
  one_come r s (other_cells never) (other_cells also) = refl
  one_come r s (other_cells never) (in_shard front others has parts goes opened f) = absurd (never has)
  one_come r s (other_cells never) (in_object others has are goes parts opened x) = absurd (never has)
  one_come r s (in_shard front {plan = plan} {entries = entries} others {place = p} {cause = c} has parts goes opened f) (legal {shards = js} also are is ruled) =
      absurd (all_not cells.plans js front j.shards entries others plan p c is are parts opened f)
  one_come r s (in_shard front others has parts goes opened f) (other_cells never) = absurd (never has)
  one_come r s (in_shard front {plan = plan} {entries = xs} others {place = p} {cause = c} has parts goes opened f)
      (in_shard back {plan = other} {entries = ys} more {place = q} {cause = d} also also_parts also_goes reopened g) =
      let one = one_shard cells.plans front back j.shards xs ys others more plan other p q c d parts also_parts goes also_goes opened reopened f g in
      illegal_is (Cell.Shard (length front)) (Cell.Shard (length back)) p q c d (ap Cell.Shard one.0) one.1 one.2
  one_come r s (in_shard front {plan = plan} {entries = entries} others {place = p} {cause = c} has parts goes opened f) (in_object {shards = js} rest also are is also_parts reopened x) =
      absurd (all_not cells.plans js front j.shards entries others plan p c is are parts opened f)
  one_come r s (in_object {shards = ks} {f = f} {o = o} {front = front} others {place = p} {cause = c} has also_are goes parts opened x) (legal {shards = js} also are is ruled) =
      let same : js ≡ ks = same_shards js ks also are also_are is goes in
      let moved : AreRuled cells ks (front ++ o ∷ others) = subst (AreRuled cells ks) parts (subst (λ (l : List (List Entry)). AreRuled cells l j.objects) same ruled) in
      absurd (all_ruled_not cells ks f front others o p c moved opened x)
  one_come r s (in_object others has are goes parts opened x) (other_cells never) = absurd (never has)
  one_come r s (in_object {shards = js} rest has are is parts opened x) (in_shard front {plan = plan} {entries = entries} others {place = p} {cause = c} also also_parts goes reopened f) =
      absurd (all_not cells.plans js front j.shards entries others plan p c is are also_parts reopened f)
  one_come r s (in_object {shards = js} {f = f} {o = o} {front = front} others {place = p} {cause = c} has are is parts opened x)
      (in_object {shards = ks} {f = g} {o = u} {front = back} more {place = q} {cause = d} also also_are goes also_parts reopened y) =
      let same : ks ≡ js = same_shards ks js has also_are are goes is in
      let moved : ObjectFailsAt cells js g back u q d = subst (λ (l : List (List Entry)). ObjectFailsAt cells l g back u q d) same y in
      let one = one_object cells js f front back others more o u g p q c d (sym parts ∙ also_parts) opened reopened x moved in
      illegal_is (Cell.Object o.number) (Cell.Object u.number) p q c d (ap (λ (k : ObjectJournal). Cell.Object k.number) one.0) one.1 one.2

pub one_answer : (cells : Cells) (bytes : List ℕ) (r s : Replayed) → IsReplayed cells bytes r → IsReplayed cells bytes s → r ≡ s
one_answer cells bytes r s (malformed {offset = m} e) (malformed {offset = n} f) = ap Replayed.Malformed (one_offset m n (journals_in bytes) e f)
one_answer cells bytes r s (malformed {offset = m} e) (judged {j = j} is come) = absurd (not_both j m (journals_in bytes) (journals_again bytes j is) e)
one_answer cells bytes r s (judged {j = j} is come) (malformed {offset = m} e) = absurd (not_both j m (journals_in bytes) (journals_again bytes j is) e)
one_answer cells bytes r s (judged {j = i} is come) (judged {j = j} also comes) =
    one_come cells j r s (subst (λ (k : Journals). AreReplayed cells k r) (spelled_once i j bytes is also) come) comes
