-- An entry of an object, and the mark of the Ask that it names.
use Rattle.std.proofs.Common.{◌≡◌, inl, inr, ℕ, ◌<◌, ◌≤◌, List, length, Option, Some, None, slice_get, refl, sym, ap, ◌∙◌, subst, arith}
use Rattle.std.specs.Option.{option_map}
use Rattle.std.specs.Prelude.{MatchOption}
use Rattle.std.proofs.lemmas.Bool.{cases_lt}
use Rattle.std.proofs.lemmas.Option.{same_Some, slice_get-map, slice_get_within}
use Rattle.object_core.specs.Objects.{ObjectEntry, ObjectPlan, list_after}
use Rattle.object_core.specs.Operation.{right_of}
use Rattle.agent_core.specs.declared.told.Told.{Told}
use Rattle.agent_core.specs.Journals.{Entry, entry}
use Rattle.agent_core.specs.State.{Plan, Ask, Asks}
use Rattle.agent_core.proofs.Asks.{standing}
use Rattle.shard_core.specs.Cells.{Cells}
use Rattle.journal_bytes.specs.Events.{ask_there}
use Rattle.audit_replay.specs.declared.due.Due.{Due}
use Rattle.audit_replay.specs.declared.stepping.ShardReplay.{ShardReplay}
use Rattle.audit_replay.specs.Legal.{IsDue, IsRuled, Names}
use Rattle.audit_replay.specs.Marks.{AreSound, IsDueThere, IsSound}
use Rattle.audit_replay.specs.Ruling.{IsNamedDue}
use Rattle.audit_replay.specs.Stepping.{stepped_again}
use Rattle.audit_replay.proofs.Marks.{one_due}
use Rattle.audit_replay.proofs.Progressing.{journal_at}

same_entry : (a b : Ask) (t u : Told) → Some (entry (Asks a) t) ≡ Some (entry (Asks b) u) → a ≡ b
same_entry a b t u e = let event : Asks a ≡ Asks b = ap (λ (y : Entry). y.event) (same_Some (entry (Asks a) t) (entry (Asks b) u) e) in cc

some_none : (a : Ask) → Some a ≡ None → ⊥
some_none a e = absurd cc

-- the Ask that stands at the place
pub ask_here : (journal : List Entry) (place : ℕ) (asked : Ask) → Some asked ≡ ask_there (slice_get journal place) → (told : Told) (a : Ask) → slice_get journal place ≡ Some (entry (Asks a) told) → asked ≡ a
ask_here journal place asked found told a stands = same_Some asked a (found ∙ ap ask_there stands)

pub journal_of : (rs : List ShardReplay) (i : ℕ) (r : ShardReplay) → slice_get rs i ≡ Some r → slice_get (stepped_again rs) i ≡ Some r.shard.journal
journal_of rs i r at = slice_get-map (λ (x : ShardReplay). x.shard.journal) rs i ∙ ap (option_map (λ (x : ShardReplay). x.shard.journal)) at

module _ (cells : Cells) (names : List (ℕ × ℕ)) (rs : List ShardReplay) (sound : AreSound cells.plans names rs) (object : ObjectPlan) (before : List ObjectEntry) (e : ObjectEntry) where
  -- the mark is that of the Ask which the entry names
  pub named_due : (r : ShardReplay) (d : Due) (asked : Ask) → slice_get rs e.shard ≡ Some r → slice_get r.marks.items e.place ≡ Some (Some d) → ((told : Told) (a : Ask) → slice_get r.shard.journal e.place ≡ Some (entry (Asks a) told) → asked ≡ a) →
      asked.right ≡ right_of e.op → asked.list ≡ list_after object before → IsNamedDue cells (stepped_again rs) names object before e d
  named_due r d asked at marked here right list =
      let s : IsSound cells.plans names e.shard r = sound e.shard r at in
      let m : IsDueThere r.shard.plan r.shard.journal names e.shard e.place d = s.marks.each e.place (Some d) marked in
      let same : asked ≡ m.asked = here m.told m.asked m.stands in
      record {
        place_is = record {
          plan = r.shard.plan;
          journal = r.shard.journal;
          asked = m.asked;
          told = m.told;
          plan_is = s.opened;
          journal_is = journal_of rs e.shard r at;
          stands = m.stands;
          judged = m.judged;
          right = ap (λ (a : Ask). a.right) (sym same) ∙ right;
          list = ap (λ (a : Ask). a.list) (sym same) ∙ list;
        };
        due = m.due;
        named_is = m.named;
      }

  -- no shard has the number
  pub no_shard : slice_get rs e.shard ≡ None → Names cells (stepped_again rs) object before e → ⊥
  no_shard none n = let (r, at, is) = journal_at rs e.shard n.journal n.journal_is in absurd (cc (none, at))

  module _ (r : ShardReplay) (at : slice_get rs e.shard ≡ Some r) where
    its_journal : (n : Names cells (stepped_again rs) object before e) → n.journal ≡ r.shard.journal
    its_journal n = same_Some n.journal r.shard.journal (sym n.journal_is ∙ journal_of rs e.shard r at)

    its_ask : (n : Names cells (stepped_again rs) object before e) → slice_get r.shard.journal e.place ≡ Some (entry (Asks n.asked) n.told)
    its_ask n = ap (λ (l : List Entry). slice_get l e.place) (sym (its_journal n)) ∙ n.stands

    -- no Ask that was judged stands there
    pub no_mark : slice_get r.marks.items e.place ≡ Some None → Names cells (stepped_again rs) object before e → ⊥
    no_mark marked n = (sound e.shard r at).marks.each e.place None marked n.asked n.told (its_ask n) n.judged

    -- no entry stands there
    pub no_place : slice_get r.marks.items e.place ≡ None → Names cells (stepped_again rs) object before e → ⊥
    no_place none n =
        let within : e.place < length r.shard.journal = slice_get_within r.shard.journal e.place (entry (Asks n.asked) n.told) (its_ask n) in
        let (mark, there) = standing r.marks.items e.place (omega (arith, within, (sound e.shard r at).marks.counted)) in
        absurd (cc (none, there))

    -- no Ask stands there
    pub no_ask : None ≡ ask_there (slice_get r.shard.journal e.place) → Names cells (stepped_again rs) object before e → ⊥
    no_ask none n = some_none n.asked (sym (ap ask_there (its_ask n)) ∙ sym none)

    -- the Ask that stands there has another right, or another list
    pub another : (asked : Ask) → ((told : Told) (a : Ask) → slice_get r.shard.journal e.place ≡ Some (entry (Asks a) told) → asked ≡ a) → ((asked.right ≡ right_of e.op) × (asked.list ≡ list_after object before) → ⊥) →
        Names cells (stepped_again rs) object before e → ⊥
    another asked here differs n =
        let same : asked ≡ n.asked = here n.told n.asked (its_ask n) in
        differs (ap (λ (a : Ask). a.right) same ∙ n.right, ap (λ (a : Ask). a.list) same ∙ n.list)

-- the ruling that is due
pub is_due : (cells : Cells) (shards : List (List Entry)) (names : List (ℕ × ℕ)) (object : ObjectPlan) (before : List ObjectEntry) (e : ObjectEntry) (d : Due) → IsNamedDue cells shards names object before e d → d.ruling ≡ e.ruling → IsRuled cells shards object before e
is_due cells shards names object before e d n same =
    record { names = n.place_is; due = subst (IsDue n.place_is.plan n.place_is.journal e.place n.place_is.asked) same n.due }

-- another ruling than the one that is due
pub not_due : (cells : Cells) (shards : List (List Entry)) (names : List (ℕ × ℕ)) (object : ObjectPlan) (before : List ObjectEntry) (e : ObjectEntry) (d : Due) → IsNamedDue cells shards names object before e d → (d.ruling ≡ e.ruling → ⊥) →
    IsRuled cells shards object before e → ⊥
not_due cells shards names object before e d n differs is =
    let plans : n.place_is.plan ≡ is.names.plan = same_Some n.place_is.plan is.names.plan (sym n.place_is.plan_is ∙ is.names.plan_is) in
    let journals : n.place_is.journal ≡ is.names.journal = same_Some n.place_is.journal is.names.journal (sym n.place_is.journal_is ∙ is.names.journal_is) in
    let there : slice_get is.names.journal e.place ≡ Some (entry (Asks n.place_is.asked) n.place_is.told) = ap (λ (l : List Entry). slice_get l e.place) (sym journals) ∙ n.place_is.stands in
    let asks : n.place_is.asked ≡ is.names.asked = same_entry n.place_is.asked is.names.asked n.place_is.told is.names.told (sym there ∙ is.names.stands) in
    let Due_is = λ (p : Plan) (j : List Entry) (a : Ask). IsDue p j e.place a d.ruling in
    let moved : IsDue is.names.plan is.names.journal e.place is.names.asked d.ruling =
    subst (λ (a : Ask). Due_is is.names.plan is.names.journal a) asks (subst (λ (j : List Entry). Due_is is.names.plan j n.place_is.asked) journals (subst (λ (p : Plan). Due_is p n.place_is.journal n.place_is.asked) plans n.due)) in
    differs (one_due is.names.plan is.names.journal e.place is.names.asked d.ruling e.ruling moved is.due)

-- nothing is due where nothing is answered
pub no_due : (cells : Cells) (shards : List (List Entry)) (names : List (ℕ × ℕ)) (object : ObjectPlan) (before : List ObjectEntry) (e : ObjectEntry) (o : Option Due) → ((d : Due) → o ≡ Some d → ⊥) →
    MatchOption o (Names cells shards object before e → ⊥) (IsNamedDue cells shards names object before e) → Names cells shards object before e → ⊥
no_due cells shards names object before e None none is = is
no_due cells shards names object before e (Some d) none is = absurd (none d refl)

pub past : {X : Type 0} (xs : List X) (limit : ℕ) → (length xs < limit → ⊥) → limit ≤ length xs
past xs limit never = elim (cases_lt (length xs) limit) [ inl less ↦ absurd (never less) | inr over ↦ over ]
