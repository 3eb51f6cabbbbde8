-- The last entry of a journal where that is an Ask that was a miss, as the program reads it.
use Rattle.std.proofs.Common.{◌≡◌, ℕ, ◌+◌, ◌≤◌, List, true, false, length, map, replicate, Option, Some, None, slice_get, sym, ap, ◌∙◌, arith}
use Rattle.std.proofs.lemmas.List.{length-map}
use Rattle.std.proofs.lemmas.Option.{same_Some}
use Rattle.stmt_codec.specs.Certificates.{Certificate}
use Rattle.taos_calculus.specs.Question.{IsAskable}
use Rattle.object_core.specs.declared.ruling.Ruling.{Ruling}
use Rattle.agent_core.specs.declared.event.ShardEntry.{ShardEntry}
use Rattle.agent_core.specs.Journals.{Entry}
use Rattle.agent_core.specs.Plans.{IsPlan}
use Rattle.agent_core.specs.State.{Plan, Ask, Asks}
use Rattle.agent_core.specs.Views.{entry_of}
use Rattle.journal_bytes.specs.Events.{ask_there}
use Rattle.audit_replay.specs.Legal.{IsRulingBy}
use Rattle.audit_replay.specs.Stepping.{IsLastMark, WasMissed}
use Rattle.audit_replay.proofs.LastMark.{is_asked, last_askable, miss_mark, some_entries}

same_event : (a b : Ask) → Asks a ≡ Asks b → a ≡ b
same_event a b e = cc

none_here : (a : Ask) → None ≡ Some a → ⊥
none_here a e = absurd cc

module _ (plan : Plan) (journal : List Entry) (moment : ℕ) (certs : List Certificate) (m : WasMissed plan journal moment certs) (entries : List ShardEntry) (are : map entry_of entries ≡ journal) where
  long : length entries ≡ length journal
  long = omega (arith, ap (λ (l : List Entry). length l) are, length-map entries entry_of)

  pub missed_some : 1 ≤ length entries
  missed_some = omega (arith, long, some_entries plan journal m.answer m.stepped)

  module _ (last : ℕ) (end : last + 1 ≡ length entries) where
    there : (o : Option Ask) → o ≡ ask_there (slice_get (map entry_of entries) last) → (a : Ask) × (o ≡ Some a) × (m.stepped.stepped.event ≡ Asks a)
    there o is =
        is_asked plan journal m.answer m.stepped last moment certs o (omega (arith, end, long)) m.missed (is ∙ ap (λ (l : List Entry). ask_there (slice_get l last)) are)

    asks : (asked : Ask) → Some asked ≡ ask_there (slice_get (map entry_of entries) last) → m.stepped.stepped.event ≡ Asks asked
    asks asked is = let (a, same, event) = there (Some asked) is in event ∙ ap Asks (sym (same_Some asked a same))

    pub missed_askable : (asked : Ask) (count : ℕ) → IsPlan plan → length certs ≡ count → Some asked ≡ ask_there (slice_get (map entry_of entries) last) → IsAskable plan.anchors certs (replicate count true) asked.subject asked.list
    missed_askable asked count planned counted is = last_askable plan journal m.answer m.stepped moment certs count asked planned m.missed (asks asked is) counted

    pub missed_mark : (asked : Ask) (r : Ruling) → Some asked ≡ ask_there (slice_get (map entry_of entries) last) → IsRulingBy plan.anchors certs moment asked r → IsLastMark plan journal (Some (record { ruling = r; named = false }))
    missed_mark asked r is by = miss_mark plan journal m.answer m.stepped moment certs asked r m.missed (λ a event. same_event asked a (sym (asks asked is) ∙ event)) by

    pub never_none : None ≡ ask_there (slice_get (map entry_of entries) last) → ⊥
    never_none is = let (a, same, event) = there None is in none_here a same
