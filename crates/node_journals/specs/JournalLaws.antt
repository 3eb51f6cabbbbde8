-- What a shard tells of a drill's load: each law is the contract of a function that does nothing.
use Rattle.std.specs.Prelude.{◌≡◌, ◌⊎◌, ℕ, ◌+◌, ◌<◌, List, [], ◌∷◌, length, count_by, Some, slice_get}
use Rattle.prin_term.specs.View.{Grant}
use Rattle.denial_link.specs.declared.link.Link.TheVariants.{NoEntry}
use Rattle.proof_cache.specs.Cached.{Cached}
use Rattle.agent_core.specs.declared.told.Told.{Told}
use Rattle.agent_core.specs.declared.asked.Denial.{Denial}
use Rattle.agent_core.specs.State.{Plan, Asks, Keeps}
use Rattle.agent_core.specs.Journals.{Entry, entry, Stands, IsJudged, IsVerdict, Granted, Denied}
use Rattle.agent_core.specs.Asked.{IsGrantedAt, IsHitAt, IsDeniedAt}
use Rattle.taos_drill.specs.declared.numbers.TheConstants.{READING}
use Rattle.taos_drill.specs.Opened.{reader}
use Rattle.taos_drill.specs.Sent.{drill_certificate}
use Rattle.node_journals.specs.Load.{load_ask, IsLoadList, AsksAt, IsLoadJournal, KeepsInTime, KeepsOnce, is_ask, is_keep}

-- no Ask is refused: it is judged
abbrev pub AsksAreJudged : Type 0
AsksAreJudged =
    (plan : Plan) (journal : List Entry) → IsLoadJournal plan journal →
    (place channel seq : ℕ) (list : List Grant) (told : Told) →
    AsksAt journal place channel seq list told →
    (told ≡ Told.Miss) ⊎ ((e : ℕ) × (told ≡ Told.Hit e))

-- an Ask for the list that lets name 1 read is not denied
abbrev pub ReaderIsGranted : Type 0
ReaderIsGranted =
    (plan : Plan) (journal : List Entry) → IsLoadJournal plan journal →
    (place channel seq : ℕ) (denial : Denial) →
    IsDeniedAt plan journal (load_ask channel seq (reader ∷ [])) place denial → ⊥

-- the first Ask of a channel for that list is a miss
abbrev pub FirstMisses : Type 0
FirstMisses =
    (plan : Plan) (journal : List Entry) → IsLoadJournal plan journal →
    (q channel n : ℕ) (u : Told) → AsksAt journal q channel n (reader ∷ []) u →
    ((p m : ℕ) (t : Told) → p < q → AsksAt journal p channel m (reader ∷ []) t → ⊥) →
    u ≡ Told.Miss

-- and each later one is a hit
abbrev pub LaterHit : Type 0
LaterHit =
    (plan : Plan) (journal : List Entry) → IsLoadJournal plan journal → KeepsInTime journal →
    (p q channel m n : ℕ) (t u : Told) → p < q →
    AsksAt journal p channel m (reader ∷ []) t → AsksAt journal q channel n (reader ∷ []) u →
    (e : ℕ) × (u ≡ Told.Hit e)

-- ---- verdicts

-- an Ask is judged by its channel's certificate alone, at the drill's reading
abbrev pub AsksAreOfTheirOwn : Type 0
AsksAreOfTheirOwn =
    (plan : Plan) (journal : List Entry) → IsLoadJournal plan journal →
    (place channel seq : ℕ) (list : List Grant) (told : Told) (before : List Entry) →
    Stands journal place before (entry (Asks (load_ask channel seq list)) told) →
    IsJudged plan before (load_ask channel seq list) READING (drill_certificate channel ∷ [])

-- the verdict on an Ask: it is granted on the list that lets name 1 read; on an empty one it is
-- denied, since no entry has the right
abbrev pub VerdictsAreListed : Type 0
VerdictsAreListed =
    (plan : Plan) (journal : List Entry) → IsLoadJournal plan journal →
    (place channel seq : ℕ) (list : List Grant) (told : Told) (before : List Entry) →
    Stands journal place before (entry (Asks (load_ask channel seq list)) told) →
    (list ≡ reader ∷ [] → IsVerdict plan before (load_ask channel seq list) Granted)
    × (list ≡ [] → IsVerdict plan before (load_ask channel seq list) (Denied NoEntry))

-- an Ask that is granted, by a new proof or a kept one, is on the list that lets name 1 read, and
-- granted by its entry; one that is denied is on an empty list, and no entry has the right
abbrev pub EndsAreListed : Type 0
EndsAreListed =
    (plan : Plan) (journal : List Entry) → IsLoadJournal plan journal →
    (place channel seq : ℕ) (list : List Grant) → IsLoadList list →
    ((e : ℕ) (c : Cached) → IsGrantedAt plan journal (load_ask channel seq list) place e c →
    (list ≡ reader ∷ []) × (e ≡ 0))
    × ((e : ℕ) (c : Cached) → IsHitAt plan journal (load_ask channel seq list) place e c →
    (list ≡ reader ∷ []) × (e ≡ 0))
    × ((denial : Denial) → IsDeniedAt plan journal (load_ask channel seq list) place denial →
    (list ≡ []) × (denial ≡ Denial.NoEntry))

-- ---- proofs that are to be kept

-- each is kept
abbrev pub KeepsAreKept : Type 0
KeepsAreKept =
    (plan : Plan) (journal : List Entry) → IsLoadJournal plan journal →
    (place at e : ℕ) (c : Cached) (told : Told) →
    slice_get journal place ≡ Some (entry (Keeps at e c) told) → told ≡ Told.Kept

-- there is at most one for each channel
abbrev pub OneForEach : Type 0
OneForEach =
    (plan : Plan) (journal : List Entry) → IsLoadJournal plan journal → KeepsInTime journal →
    KeepsOnce journal → (i j channel m n p q e f : ℕ) (c d : Cached) (t u : Told) →
    AsksAt journal p channel m (reader ∷ []) Told.Miss →
    AsksAt journal q channel n (reader ∷ []) Told.Miss →
    slice_get journal i ≡ Some (entry (Keeps p e c) t) →
    slice_get journal j ≡ Some (entry (Keeps q f d) u) → i ≡ j

-- each entry is an Ask or a proof that is to be kept
abbrev pub EntriesAreCounted : Type 0
EntriesAreCounted =
    (plan : Plan) (journal : List Entry) → IsLoadJournal plan journal →
    length journal ≡ count_by is_ask journal + count_by is_keep journal
