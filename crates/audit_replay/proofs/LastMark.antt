-- What is due to the last entry of a journal, by the answer to it.
use Rattle.std.proofs.Common.{◌≡◌, ◌⊎◌, inl, inr, ℕ, ◌+◌, ◌≤◌, List, [], ◌∷◌, ◌++◌, true, false, length, replicate, Option, Some, None, slice_get, refl, sym, ap, ap₂, ◌∙◌, subst, arith, length-append}
use Rattle.std.proofs.lemmas.List.{length-replicate}
use Rattle.std.proofs.lemmas.List.Elements.{All-weaker}
use Rattle.std.proofs.lemmas.Option.{same_Some}
use Rattle.prin_term.specs.Principal.{node_count}
use Rattle.prin_term.specs.View.{Grant}
use Rattle.prin_term.specs.declared.limits.TheConstants.{ENTRY_NODES}
use Rattle.prin_term.specs.declared.term.Anchor.{Anchor}
use Rattle.stmt_codec.specs.Certificates.{Certificate, live}
use Rattle.taos_calculus.specs.Monitor.{MaySpeak}
use Rattle.taos_calculus.specs.Question.{IsAskable}
use Rattle.denial_link.specs.Links.{NoEntryWith}
use Rattle.denial_link.specs.Revived.{claims}
use Rattle.proof_cache.specs.Cached.{Cached}
use Rattle.object_core.specs.declared.ruling.Ruling.{Ruling}
use Rattle.object_core.specs.declared.ruling.Ruling.TheVariants as ruling
use Rattle.agent_core.specs.declared.told.Answer.{Answer}
use Rattle.agent_core.specs.declared.told.Answer.TheVariants as code
use Rattle.agent_core.specs.declared.told.DropCause.{DropCause}
use Rattle.agent_core.specs.declared.told.Told.{Told}
use Rattle.agent_core.specs.Answers.{Full, Handed, given_by}
use Rattle.agent_core.specs.Journals.{Entry, entry, IsJudged, Stands}
use Rattle.agent_core.specs.State.{ask_in, Plan, Ask, Asks, Event}
use Rattle.agent_core.specs.Plans.{IsPlan}
use Rattle.agent_core.specs.Steps.{Hit, IsAnswer, Miss, Other, StepAnswer, hit, miss, other}
use Rattle.object_core.specs.Operation.{FitsGrant}
use Rattle.agent_core.proofs.Few.{judges_few}
use Rattle.agent_core.proofs.AtPlaces.{slice_at}
use Rattle.journal_bytes.specs.Events.{ask_there}
use Rattle.journal_bytes.specs.Limits.{FitsAsk, FitsEvent}
use Rattle.journal_bytes.specs.Spelled.{SpelledEntry, event_spelled}
use Rattle.audit_replay.specs.Legal.{IsRulingBy, WasJudged}
use Rattle.audit_replay.specs.Legal as legal
use Rattle.audit_replay.specs.Stepping.{IsLastMark, WasStepped}

-- where no entry with the right is spoken for, nothing is granted
pub none_granted : (anchors : List Anchor) (certs : List Certificate) (moment : ℕ) (a : Ask) → NoEntryWith a.list a.right (λ e. MaySpeak anchors (claims (live certs moment)) a.subject e.who) → IsRulingBy anchors certs moment a ruling.Denied
none_granted anchors certs moment a none = λ g. none g.place g.entry g.stands g.has_right g.speaks

same_handed : (x y : StepAnswer) → Handed x ≡ Handed y → x ≡ y
same_handed x y e = cc

no_full : (x : StepAnswer) (n : ℕ) → Handed x ≡ Full n → ⊥
no_full x n e = absurd cc

module _ (plan : Plan) where
  hit_told : (before : List Entry) (event : Event) (told : Told) (handed : StepAnswer) (e : ℕ) (c : Cached) → IsAnswer plan before event told handed → handed ≡ Hit e c → (a : Ask) × (event ≡ Asks a) × (told ≡ Told.Hit e)
  hit_told before event told handed e c (hit {a = a} {e = k} judged at found) is = let same : k ≡ e = cc in (a, refl, ap Told.Hit same)
  hit_told before event told handed e c (miss judged) is = absurd cc
  hit_told before event told handed e c (other plain) is = absurd cc

  miss_told : (before : List Entry) (event : Event) (told : Told) (handed : StepAnswer) (moment : ℕ) (certs : List Certificate) → IsAnswer plan before event told handed → handed ≡ Miss moment certs →
      (a : Ask) × (event ≡ Asks a) × (told ≡ Told.Miss) × IsJudged plan before a moment certs
  miss_told before event told handed moment certs (hit judged at found) is = absurd cc
  miss_told before event told handed moment certs (miss {a = a} {moment = m} {certs = cs} judged) is =
      let moments : m ≡ moment = cc in
      let all : cs ≡ certs = cc in
      (a, refl, refl, subst (λ n. IsJudged plan before a n certs) moments (subst (λ (l : List Certificate). IsJudged plan before a m l) all judged))
  miss_told before event told handed moment certs (other plain) is = absurd cc

  other_told : (before : List Entry) (event : Event) (told : Told) (handed : StepAnswer) (plain : Told) → IsAnswer plan before event told handed → handed ≡ Other plain → told ≡ plain
  other_told before event told handed plain (hit judged at found) is = absurd cc
  other_told before event told handed plain (miss judged) is = absurd cc
  other_told before event told handed plain (other {told = t} tells) is = let same : t ≡ plain = cc in same

  module _ (journal : List Entry) (answer : Answer) (w : WasStepped plan journal answer) where
    -- the last entry stands at the last place
    last_stands : (place : ℕ) → place + 1 ≡ length journal → slice_get journal place ≡ Some (entry w.stepped.event w.stepped.steps.told)
    last_stands place end =
        let last : Entry = entry w.stepped.event w.stepped.steps.told in
        let grown : length journal ≡ length w.before + length (last ∷ []) = ap (λ (l : List Entry). length l) w.stepped.steps.adds ∙ length-append w.before (last ∷ []) in
        let one : length (last ∷ []) ≡ 1 = refl in
        let here : place ≡ length w.before = omega (arith, end, grown, one) in
        ap₂ (λ (l : List Entry) n. slice_get l n) w.stepped.steps.adds here ∙ slice_at w.before last []

    handed_is : (x : StepAnswer) → given_by answer ≡ Handed x → w.stepped.handed ≡ x
    handed_is x is = same_handed w.stepped.handed x (sym w.stepped.given ∙ is)

    -- a proof that was kept serves it
    pub hit_mark : (e : ℕ) (c : Cached) → given_by answer ≡ Handed (Hit e c) → IsLastMark plan journal (Some (record { ruling = ruling.Granted e; named = false }))
    hit_mark e c is = λ names shard place end new.
        let (a, asks, told) = hit_told w.before w.stepped.event w.stepped.steps.told w.stepped.handed e c w.stepped.steps.answers (handed_is (Hit e c) is) in
        let stands : slice_get journal place ≡ Some (entry (Asks a) (Told.Hit e)) = last_stands place end ∙ ap₂ (λ x t. Some (entry x t)) asks told in
        record { asked = a; told = Told.Hit e; stands = stands; judged = tt; due = legal.hit stands; named = ((λ never. absurd cc), (λ has. absurd (new has))) }

    -- it is judged by these certificates
    pub miss_mark : (moment : ℕ) (certs : List Certificate) (asked : Ask) (r : Ruling) → given_by answer ≡ Handed (Miss moment certs) → ((a : Ask) → w.stepped.event ≡ Asks a → asked ≡ a) → IsRulingBy plan.anchors certs moment asked r →
        IsLastMark plan journal (Some (record { ruling = r; named = false }))
    miss_mark moment certs asked r is same by = λ names shard place end new.
        let (a, asks, told, judged) = miss_told w.before w.stepped.event w.stepped.steps.told w.stepped.handed moment certs w.stepped.steps.answers (handed_is (Miss moment certs) is) in
        let last : entry w.stepped.event w.stepped.steps.told ≡ entry (Asks a) Told.Miss = ap₂ (λ x t. entry x t) asks told in
        let stands : slice_get journal place ≡ Some (entry (Asks a) Told.Miss) = last_stands place end ∙ ap (λ (x : Entry). Some x) last in
        let grown : length journal ≡ length w.before + length (entry w.stepped.event w.stepped.steps.told ∷ []) = ap (λ (l : List Entry). length l) w.stepped.steps.adds ∙ length-append w.before (entry w.stepped.event w.stepped.steps.told ∷ []) in
        let one : length (entry w.stepped.event w.stepped.steps.told ∷ []) ≡ 1 = refl in
        let there : Stands journal place w.before (entry (Asks a) Told.Miss) = record { rest = []; is = w.stepped.steps.adds ∙ ap (λ (x : Entry). w.before ++ x ∷ []) last; placed = omega (arith, end, grown, one) } in
        record { asked = a; told = Told.Miss; stands = stands; judged = tt; due = legal.missed there judged (subst (λ (x : Ask). IsRulingBy plan.anchors certs moment x r) (same a asks) by); named = ((λ never. absurd cc), (λ has. absurd (new has))) }

    miss_is : (moment : ℕ) (certs : List Certificate) → given_by answer ≡ Handed (Miss moment certs) → (a : Ask) × (w.stepped.event ≡ Asks a) × (w.stepped.steps.told ≡ Told.Miss) × IsJudged plan w.before a moment certs
    miss_is moment certs is = miss_told w.before w.stepped.event w.stepped.steps.told w.stepped.handed moment certs w.stepped.steps.answers (handed_is (Miss moment certs) is)

    -- the last entry is an Ask
    pub is_asked : (place moment : ℕ) (certs : List Certificate) (o : Option Ask) → place + 1 ≡ length journal → given_by answer ≡ Handed (Miss moment certs) → o ≡ ask_there (slice_get journal place) → (a : Ask) × (o ≡ Some a) × (w.stepped.event ≡ Asks a)
    is_asked place moment certs o end is found =
        let (a, asks, told, judged) = miss_is moment certs is in
        (a, found ∙ ap ask_there (last_stands place end) ∙ ap ask_in asks, asks)

    -- it may be asked about
    pub last_askable : (moment : ℕ) (certs : List Certificate) (count : ℕ) (asked : Ask) → IsPlan plan → given_by answer ≡ Handed (Miss moment certs) → w.stepped.event ≡ Asks asked → length certs ≡ count →
        IsAskable plan.anchors certs (replicate count true) asked.subject asked.list
    last_askable moment certs count asked planned is asks counted =
        let (a, also, told, judged) = miss_is moment certs is in
        let spelled_so : event_spelled w.stepped.event ≡ w.e.event = ap (λ (x : SpelledEntry). x.event) w.stepped.is in
        let fits : FitsAsk asked = subst FitsEvent (sym spelled_so ∙ ap event_spelled asks) w.fits.event in
        record {
          anchors_fit = planned.few_anchors;
          certs_fit = judges_few plan planned.few_commons w.before a moment certs judged;
          chosen_fit = length-replicate count true ∙ sym counted;
          subject_fits = fits.subject.nodes_fit;
          list_fits = fits.list.0;
          entries_fit = All-weaker FitsGrant (λ (e : Grant). node_count e.who ≤ ENTRY_NODES) (λ e f. f.who.nodes_fit) asked.list fits.list.1;
        }

    -- there is one
    pub some_entries : 1 ≤ length journal
    some_entries = omega (arith, ap (λ (l : List Entry). length l) w.stepped.steps.adds, length-append w.before (entry w.stepped.event w.stepped.steps.told ∷ []))

    full_never : (n : ℕ) → given_by answer ≡ Full n → ⊥
    full_never n is = no_full w.stepped.handed n (sym w.stepped.given ∙ is)

    same_told : (x : Event) (t : Told) (a : Ask) (told : Told) → Some (entry x t) ≡ Some (entry (Asks a) told) → t ≡ told
    same_told x t a told e = ap (λ (y : Entry). y.told) (same_Some (entry x t) (entry (Asks a) told) e)

    -- it is not judged
    pub plain_mark : (plain : Told) → given_by answer ≡ Handed (Other plain) → (WasJudged plain → ⊥) → IsLastMark plan journal None
    plain_mark plain is never = λ names shard place end new. λ a told stands judged.
        let now : w.stepped.steps.told ≡ plain = other_told w.before w.stepped.event w.stepped.steps.told w.stepped.handed plain w.stepped.steps.answers (handed_is (Other plain) is) in
        let same : w.stepped.steps.told ≡ told = same_told w.stepped.event w.stepped.steps.told a told (sym (last_stands place end) ∙ stands) in
        never (subst WasJudged (sym same ∙ now) judged)

    -- nor is it where anything else is answered
    pub other_mark : ((n : ℕ) × (answer ≡ code.Replayed n)) ⊎ (((n : ℕ) × (answer ≡ code.Full n)) ⊎ ((answer ≡ code.Kept) ⊎ (((cause : DropCause) × (answer ≡ code.Dropped cause)) ⊎
        (((n : ℕ) × (answer ≡ code.Held n)) ⊎ (((n : ℕ) × (answer ≡ code.CommonsFull n)) ⊎ (((n : ℕ) × (answer ≡ code.Removed n)) ⊎ (((n : ℕ) × (answer ≡ code.WithdrawnFull n)) ⊎ ((n : ℕ) × (answer ≡ code.JournalFull n))))))))) → IsLastMark plan journal None
    other_mark (inl h) = plain_mark (Told.Replayed h.0) (ap given_by h.1) (λ never. never)
    other_mark (inr (inl h)) = plain_mark (Told.Full h.0) (ap given_by h.1) (λ never. never)
    other_mark (inr (inr (inl h))) = plain_mark Told.Kept (ap given_by h) (λ never. never)
    other_mark (inr (inr (inr (inl h)))) = plain_mark (Told.Dropped h.0) (ap given_by h.1) (λ never. never)
    other_mark (inr (inr (inr (inr (inl h))))) = plain_mark (Told.Held h.0) (ap given_by h.1) (λ never. never)
    other_mark (inr (inr (inr (inr (inr (inl h)))))) = plain_mark (Told.CommonsFull h.0) (ap given_by h.1) (λ never. never)
    other_mark (inr (inr (inr (inr (inr (inr (inl h))))))) = plain_mark (Told.Removed h.0) (ap given_by h.1) (λ never. never)
    other_mark (inr (inr (inr (inr (inr (inr (inr (inl h)))))))) = plain_mark (Told.WithdrawnFull h.0) (ap given_by h.1) (λ never. never)
    other_mark (inr (inr (inr (inr (inr (inr (inr (inr h)))))))) = absurd (full_never h.0 (ap given_by h.1))
