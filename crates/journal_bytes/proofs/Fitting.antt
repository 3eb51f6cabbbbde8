-- Entries of legal journals fit their bytes where their numbers do.
use Rattle.std.proofs.Common.{◌≡◌, ℕ, suc, ◌+◌, ◌^◌, ◌<◌, Bool, true, false, cond, leb, ltb, List, [], ◌∷◌, ◌++◌, length, map, Option, None, Some, Result, Ok, Err, refl, sym, subst, ◌∙◌, append_assoc, arith}
use Rattle.std.specs.Prelude.{All, OnOk}
use Rattle.std.specs.declared.alloc.Global.{Global}
use Rattle.std.specs.declared.sync.Arc.{Arc}
use Rattle.std.proofs.lemmas.List.{length-map}
use Rattle.std.proofs.lemmas.List.Elements.{All-cons, All-nil}
use Rattle.prin_term.specs.declared.term.Anchor.{Anchor}
use Rattle.prin_term.specs.Principal.{Principal}
use Rattle.stmt_codec.specs.declared.cert.Cert.{Cert}
use Rattle.stmt_codec.specs.Certificates.{Certificate, FitsBody}
use Rattle.stmt_codec.specs.View.{certificate_of, certificates}
use Rattle.taos_calculus.specs.Rules.{Claim, EachFollows, Follows, Judgement, Line, Proves, Says, SpeaksFor}
use Rattle.taos_calculus.specs.Rules.{same, chain, left, right, both, quoting, for_both, role, role_under, anchored, said, lift, join, hand_off, delegate}
use Rattle.taos_calculus.specs.Spells.{IsProof, LineFits, is_says, is_saying}
use Rattle.taos_calculus.specs.Tables.{judgement, meaning, named}
use Rattle.taos_calculus.specs.declared.line.Fact.{Fact}
use Rattle.taos_calculus.specs.declared.line.Line as code
use Rattle.object_core.specs.Objects.{ObjectEntry, ObjectSeen}
use Rattle.object_core.specs.Operation.{FitsOperation}
use Rattle.agent_core.specs.declared.limits.TheConstants.{MAX_COMMONS, MAX_OWN, MAX_WITHDRAWN}
use Rattle.agent_core.specs.declared.told.DropCause.{DropCause}
use Rattle.agent_core.specs.declared.told.Told.{Told}
use Rattle.agent_core.specs.Answers.{FitsEvent as MeantEvent}
use Rattle.agent_core.specs.Caches.{first_hit, hit_or_miss, unlapsed}
use Rattle.agent_core.specs.Journals.{Entry, IsLegalJournal, IsMeant, MayFollow, ShardSeen, cache_after, state_after, told_at, told_of}
use Rattle.agent_core.specs.State.{Answer, Ask, Asks, Discards, Event, Expires, Forgets, Holds, Judged, Keeps, Plain, Plan, State, Withdraws}
use Rattle.agent_core.specs.State.{asking, brought, first_missing, holding, moment_of, new_commons, removing, settled_by, swept, taking, withdrawing, without_issuer}
use Rattle.journal_bytes.specs.Limits.{AsksWithin, AsksWithinOf, CitesFew, CitesFewOf, FitsEntry, FitsEvent, FitsJournals, FitsObject, FitsShard, FitsTold, AddsSpelling}
use Rattle.journal_bytes.specs.Numbers.{EntryNumbers, EventNumbers, HasLineNumbers, ProofNumbers, RuledNumbers, ToldNumbers}
use Rattle.journal_bytes.specs.Spelled.{Journals, event_spelled, shard_spelled, object_spelled, spelled}
use Rattle.journal_bytes.specs.Spelling.{journals_bytes, kind_of}

-- each certificate has a spelling, and is within the limits
pub certs_fit : (certs : List (Arc Cert Global)) → All FitsBody (certificates certs)
certs_fit [] = All-nil FitsBody
certs_fit (c ∷ certs) = All-cons FitsBody (certificate_of c) (certificates certs) (record { numbers = c.value.numbers; limits = c.value.limits }) (certs_fit certs)

-- ---- proofs

abbrev says : Judgement → Bool
says (SpeaksFor l r) = false
says (Says w l r) = true

module _ (anchors : List Anchor) (claims : List Claim) where
  -- the fact of a line that follows is of the kind that its rule gives
  follows_kind : (earlier : List Judgement) (l : Line) → Follows anchors claims earlier l → says l.fact ≡ is_saying l.step
  follows_kind earlier l same = refl
  follows_kind earlier l (chain i j) = refl
  follows_kind earlier l left = refl
  follows_kind earlier l right = refl
  follows_kind earlier l (both i j) = refl
  follows_kind earlier l (quoting i j) = refl
  follows_kind earlier l (for_both i j) = refl
  follows_kind earlier l role = refl
  follows_kind earlier l (role_under i) = refl
  follows_kind earlier l (anchored i) = refl
  follows_kind earlier l (said i) = refl
  follows_kind earlier l (lift i j) = refl
  follows_kind earlier l (join i j) = refl
  follows_kind earlier l (hand_off i) = refl
  follows_kind earlier l (delegate i) = refl

  fact_kind : (p : ℕ → Principal) (f : Fact) → says (judgement p f) ≡ is_says f
  fact_kind p (Fact.Speaks l r) = refl
  fact_kind p (Fact.Says w l r) = refl

  lines_fit : (p : ℕ → Principal) (earlier : List Judgement) (lines : List code.Line) → EachFollows anchors claims earlier (map (meaning p) lines) → All HasLineNumbers lines → All LineFits lines
  lines_fit p earlier [] follow numbers = All-nil LineFits
  lines_fit p earlier (l ∷ lines) follow numbers =
      All-cons LineFits l lines (sym (fact_kind p l.fact) ∙ follows_kind earlier (meaning p l) follow.0, numbers 0 l (omega arith))
      (lines_fit p (earlier ++ (meaning p l).fact ∷ []) lines follow.1 (λ i d below. numbers (suc i) d (omega (arith, below))))

  pub is_proof : (lines : List Line) (fact : Judgement) → Proves anchors claims lines fact → ProofNumbers lines → IsProof lines
  is_proof lines fact proves n = record {
    parts = n.parts;
    limits = record {
      proof = n.numbers.proof;
      nodes = n.numbers.nodes;
      lines = lines_fit (named n.parts.nodes) [] n.parts.lines (subst (EachFollows anchors claims []) (sym n.meaning) proves.follow) n.numbers.lines;
    };
    meaning = n.meaning;
  }

-- ---- what was told

-- it is told of events of this kind
abbrev IsToldOf : ℕ → Told → Type 0
IsToldOf kind Told.Miss = kind ≡ 1
IsToldOf kind (Told.Hit entry) = kind ≡ 1
IsToldOf kind (Told.Replayed last) = kind ≡ 1
IsToldOf kind (Told.Full held) = kind ≡ 1
IsToldOf kind Told.Kept = kind ≡ 2
IsToldOf kind (Told.Dropped cause) = kind ≡ 2
IsToldOf kind (Told.Held added) = kind ≡ 3
IsToldOf kind (Told.CommonsFull held) = kind ≡ 3
IsToldOf kind (Told.Removed count) = 3 < kind
IsToldOf kind (Told.WithdrawnFull held) = kind ≡ 7

told_fits : (kind : ℕ) (t : Told) → IsToldOf kind t → ToldNumbers t → FitsTold kind t
told_fits kind Told.Miss is n = is
told_fits kind (Told.Hit entry) is n = (is, n)
told_fits kind (Told.Replayed last) is n = (is, n)
told_fits kind (Told.Full held) is n = (is, n)
told_fits kind Told.Kept is n = is
told_fits kind (Told.Dropped (DropCause.NotHeld digest)) is n = (is, n)
told_fits kind (Told.Dropped (DropCause.Lapsed clock lease)) is n = (is, n.0, n.1)
told_fits kind (Told.Held added) is n = (is, n)
told_fits kind (Told.CommonsFull held) is n = (is, n)
told_fits kind (Told.Removed count) is n = (is, n)
told_fits kind (Told.WithdrawnFull held) is n = (is, n)

either_way : {X : Type 0} (P : X → Type 0) (b : Bool) (x y : X) → P x → P y → P (cond b x y)
either_way P true x y one other = one
either_way P false x y one other = other

hit_kind : (h : Option ℕ) → IsToldOf 1 (hit_or_miss h)
hit_kind None = refl
hit_kind (Some e) = refl

settled_kind : (o : Option Certificate) (clock lease : ℕ) → IsToldOf 2 (settled_by o clock lease)
settled_kind None clock lease = either_way (IsToldOf 2) (leb lease clock) (Told.Dropped (DropCause.Lapsed clock lease)) Told.Kept refl refl
settled_kind (Some missing) clock lease = refl

module _ (plan : Plan) (before : List Entry) where
  abbrev IsToldIn : Event → State × Answer → Type 0
  IsToldIn event x = IsToldOf (kind_of (event_spelled event)) (told_of (cache_after plan before) event x.1)

  asking_kind : (s : State) (a : Ask) → IsToldIn (Asks a) (asking s a)
  asking_kind s a =
      let more = (s.own a.channel ++ brought s a) ++ s.commons in
      let full : State × Answer = (s, Plain (Told.Full (length (s.own a.channel)))) in
      let judged : State × Answer = (taking s a, Judged s.clock more) in
      let is_full = ltb MAX_OWN (length (s.own a.channel) + length (brought s a)) in
      either_way (IsToldIn (Asks a)) (leb a.seq (s.last a.channel)) (s, Plain (Told.Replayed (s.last a.channel))) (cond is_full full judged) refl
      (either_way (IsToldIn (Asks a)) is_full full judged refl (hit_kind (first_hit (unlapsed s.clock (cache_after plan before)) a)))

  holding_kind : (certs new : List Certificate) (s : State) → IsToldIn (Holds certs) (holding s new)
  holding_kind certs new s =
      either_way (IsToldIn (Holds certs)) (ltb MAX_COMMONS (length s.commons + length new)) (s, Plain (Told.CommonsFull (length s.commons))) (record s { commons = s.commons ++ new }, Plain (Told.Held (length new))) refl refl

  withdrawing_kind : (issuer : ℕ) (s : State) → IsToldIn (Withdraws issuer) (withdrawing plan issuer s)
  withdrawing_kind issuer s =
      let full : State × Answer = (s, Plain (Told.WithdrawnFull (length s.withdrawn))) in
      let gone : State × Answer = removing plan s (without_issuer issuer s) in
      let is_full = leb MAX_WITHDRAWN (length s.withdrawn) in
      either_way (IsToldIn (Withdraws issuer)) _ (s, Plain (Told.Removed 0)) (cond is_full full gone) (omega arith)
      (either_way (IsToldIn (Withdraws issuer)) is_full full gone refl (omega arith))

  told_kind : (event : Event) → IsToldOf (kind_of (event_spelled event)) (told_at plan before event)
  told_kind (Asks a) = let s = state_after plan before in asking_kind (swept plan.keep (moment_of s a.reading) s) a
  told_kind (Keeps ask e c) = let s = state_after plan before in settled_kind (first_missing s c) s.clock c.lease
  told_kind (Holds certs) = let s = state_after plan before in holding_kind certs (new_commons s certs) s
  told_kind (Discards digest) = omega arith
  told_kind (Forgets channel) = omega arith
  told_kind (Expires reading) = omega arith
  told_kind (Withdraws issuer) = withdrawing_kind issuer (state_after plan before)

  -- ---- entries

  event_fits : (e : Event) → IsMeant plan before e → MeantEvent e → CitesFewOf e → AsksWithinOf e → EventNumbers e → FitsEvent (event_spelled e)
  event_fits (Asks a) meant fits few within n = record {
    channel = n.0.channel;
    seq = n.0.seq;
    reading = n.0.reading;
    subject = within.subject;
    list = within.list;
    right = within.right;
    presented = (omega (arith, fits.0), n.1);
  }
  event_fits (Keeps ask e c) meant fits few within n = record {
    ask_fits = n.0;
    entry_fits = n.1;
    proof_fits = is_proof plan.anchors _ c.proof _ meant.proves n.2;
    cites_fit = (few, n.3);
  }
  event_fits (Holds certs) meant fits few within n = (omega (arith, fits), n)
  event_fits (Discards digest) meant fits few within n = n
  event_fits (Forgets channel) meant fits few within n = n
  event_fits (Expires reading) meant fits few within n = n
  event_fits (Withdraws issuer) meant fits few within n = n

  entry_fits : (e : Entry) → MayFollow plan before e → MeantEvent e.event → CitesFewOf e.event → AsksWithinOf e.event → EntryNumbers e → FitsEntry (spelled e)
  entry_fits e may fits few within n = record {
    event = event_fits e.event may.meant fits few within n.0;
    told = told_fits (kind_of (event_spelled e.event)) e.told (subst (IsToldOf (kind_of (event_spelled e.event))) (sym may.tells) (told_kind e.event)) n.1;
  }

first : {X : Type 0} (P : X → Type 0) (x : X) (xs : List X) → All P (x ∷ xs) → P x
first P x xs all = all 0 x (omega arith)

others : {X : Type 0} (P : X → Type 0) (x : X) (xs : List X) → All P (x ∷ xs) → All P xs
others P x xs all = λ i d below. all (suc i) d (omega (arith, below))

entries_fit : (plan : Plan) (before es : List Entry) → IsLegalJournal plan (before ++ es) → All (λ (e : Entry). MeantEvent e.event) es → All (λ (e : Entry). CitesFewOf e.event) es → All (λ (e : Entry). AsksWithinOf e.event) es → All EntryNumbers es
    → All FitsEntry (map spelled es)
entries_fit plan before [] legal fits few within n = All-nil FitsEntry
entries_fit plan before (e ∷ es) legal fits few within n =
    All-cons FitsEntry (spelled e) (map spelled es)
    (entry_fits plan before e (legal before e es refl) (first (λ (x : Entry). MeantEvent x.event) e es fits) (first (λ (x : Entry). CitesFewOf x.event) e es few) (first (λ (x : Entry). AsksWithinOf x.event) e es within) (first EntryNumbers e es n))
    (entries_fit plan (before ++ e ∷ []) es (subst (IsLegalJournal plan) (sym (append_assoc before (e ∷ []) es)) legal) (others (λ (x : Entry). MeantEvent x.event) e es fits) (others (λ (x : Entry). CitesFewOf x.event) e es few)
    (others (λ (x : Entry). AsksWithinOf x.event) e es within) (others EntryNumbers e es n))

pub shard_fits : (s : ShardSeen) → length s.journal < 2 ^ 64 → IsLegalJournal s.plan s.journal → All (λ (e : Entry). MeantEvent e.event) s.journal → CitesFew s → All EntryNumbers s.journal → AsksWithin s → FitsShard (shard_spelled s)
shard_fits s short legal fits few n within = (omega (arith, short, length-map s.journal spelled), entries_fit s.plan [] s.journal legal fits few within n)

-- ---- objects

pub object_fits : (o : ObjectSeen) → o.plan.number < 2 ^ 32 → length o.journal < 2 ^ 64 → All (λ (e : ObjectEntry). FitsOperation e.op) o.journal → All RuledNumbers o.journal → FitsObject (object_spelled o)
object_fits o number short fit n = record {
  number = number;
  entries = (short, λ i d below. record { shard = (n i d below).shard; place = (n i d below).place; op = fit i d below; ruling = (n i d below).ruling });
}

-- ---- all of them

each_shard : (shards : List ShardSeen) → All (λ s. AsksWithin s → FitsShard (shard_spelled s)) shards → All AsksWithin shards → All FitsShard (map shard_spelled shards)
each_shard [] fit within = All-nil FitsShard
each_shard (s ∷ shards) fit within =
    All-cons FitsShard (shard_spelled s) (map shard_spelled shards) (first (λ x. AsksWithin x → FitsShard (shard_spelled x)) s shards fit (first AsksWithin s shards within))
    (each_shard shards (others (λ x. AsksWithin x → FitsShard (shard_spelled x)) s shards fit) (others AsksWithin s shards within))

each_object : (objects : List ObjectSeen) → All (λ o. FitsObject (object_spelled o)) objects → All FitsObject (map object_spelled objects)
each_object [] fit = All-nil FitsObject
each_object (o ∷ objects) fit = All-cons FitsObject (object_spelled o) (map object_spelled objects) (first (λ x. FitsObject (object_spelled x)) o objects fit) (each_object objects (others (λ x. FitsObject (object_spelled x)) o objects fit))

pub spelling_added : {A E : Type 0} (r : Result A E) (old new : List ℕ) (j : Journals) → FitsJournals j → OnOk r (new ≡ old ++ journals_bytes j) → OnOk r (AddsSpelling old new j)
spelling_added (Ok x) old new j fits is = record { text = journals_bytes j; added = is; spells = record { limits = fits; text = refl } }
spelling_added (Err e) old new j fits is = tt

pub journals_fit : (shards : List ShardSeen) (objects : List ObjectSeen) → length shards < 2 ^ 32 → length objects < 2 ^ 32 → All (λ s. AsksWithin s → FitsShard (shard_spelled s)) shards → All (λ o. FitsObject (object_spelled o)) objects → All AsksWithin shards
    → (length (map shard_spelled shards) < 2 ^ 32) × All FitsShard (map shard_spelled shards) × (length (map object_spelled objects) < 2 ^ 32) × All FitsObject (map object_spelled objects)
journals_fit shards objects few_shards few_objects fit_shards fit_objects within =
    (omega (arith, few_shards, length-map shards shard_spelled), each_shard shards fit_shards within, omega (arith, few_objects, length-map objects object_spelled), each_object objects fit_objects)
