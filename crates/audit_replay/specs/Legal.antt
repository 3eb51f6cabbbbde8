-- When journals are legal beside each other, and the ruling that is due to an Ask.
use Rattle.std.specs.Prelude.{◌≡◌, ◌≢◌, ℕ, ◌≤◌, List, ◌∷◌, ◌++◌, length, map, Some, slice_get, AllPairs}
use Rattle.std.specs.List.{flat_map}
use Rattle.prin_term.specs.declared.term.Anchor.{Anchor}
use Rattle.prin_term.specs.View.{Grant}
use Rattle.stmt_codec.specs.Certificates.{Certificate, live}
use Rattle.taos_calculus.specs.Monitor.{FirstEntry, Grants, MaySpeak}
use Rattle.denial_link.specs.Revived.{claims}
use Rattle.object_core.specs.Objects.{ObjectEntry, ObjectPlan, list_after}
use Rattle.object_core.specs.Operation.{right_of}
use Rattle.object_core.specs.Shelving.{ObjectFixed, numbers_of}
use Rattle.object_core.specs.declared.ruling.Ruling.{Ruling}
use Rattle.object_core.specs.declared.ruling.Ruling.TheVariants as ruling
use Rattle.agent_core.specs.declared.told.Told.{Told}
use Rattle.agent_core.specs.State.{Plan, Ask, Asks}
use Rattle.agent_core.specs.Journals.{Entry, entry, IsJudged, IsLegalJournal, Stands}
use Rattle.shard_core.specs.Cells.{Cells}
use Rattle.journal_bytes.specs.Spelled.{Journals, ObjectJournal}

-- The ruling by these certificates at this moment: granted by the first entry with the right for
-- which the subject speaks, or denied where there is none.
abbrev pub IsRulingBy : List Anchor → List Certificate → ℕ → Ask → Ruling → Type 0
IsRulingBy anchors certs moment a (ruling.Granted e) =
    (g : Grant) × FirstEntry a.list a.right
    (λ h. MaySpeak anchors (claims (live certs moment)) a.subject h.who) e g
IsRulingBy anchors certs moment a ruling.Denied =
    Grants anchors (claims (live certs moment)) a.subject a.list a.right → ⊥

-- the ruling that is due to the Ask at a place of a legal journal
pub data IsDue (plan : Plan) (journal : List Entry) (place : ℕ) (a : Ask) : Ruling → Type 0 where
  -- a proof that was kept serves this entry
  hit : {e : ℕ} → slice_get journal place ≡ Some (entry (Asks a) (Told.Hit e)) →
      IsDue plan journal place a (ruling.Granted e)
  -- by what it is judged by
  missed : {before : List Entry} {moment : ℕ} {certs : List Certificate} {r : Ruling} →
      Stands journal place before (entry (Asks a) Told.Miss) →
      IsJudged plan before a moment certs → IsRulingBy plan.anchors certs moment a r →
      IsDue plan journal place a r

-- it was told of an Ask that is judged
abbrev pub WasJudged : Told → Type 0
WasJudged (Told.Hit e) = Unit {0}
WasJudged Told.Miss = Unit {0}
WasJudged _ = ⊥

-- the Ask that an entry of an object names, by its shard and its place there
abbrev pub named : ObjectEntry → ℕ × ℕ
named e = (e.shard, e.place)

-- the Asks that the entries of the objects name, object after object
abbrev pub all_named : List ObjectJournal → List (ℕ × ℕ)
all_named objects = flat_map (λ (o : ObjectJournal). map named o.entries) objects

module _ (cells : Cells) (shards : List (List Entry)) where
  -- The entry of an object, after these, names an Ask that was to be judged, with the right of its
  -- operation and the list that the object has there.
  pub record Names (object : ObjectPlan) (before : List ObjectEntry) (e : ObjectEntry) : Type 0 where
    pub plan : Plan
    pub journal : List Entry
    pub asked : Ask
    pub told : Told
    pub plan_is : slice_get cells.plans e.shard ≡ Some plan
    pub journal_is : slice_get shards e.shard ≡ Some journal
    pub stands : slice_get journal e.place ≡ Some (entry (Asks asked) told)
    pub judged : WasJudged told
    pub right : asked.right ≡ right_of e.op
    pub list : asked.list ≡ list_after object before

  -- the same, and the ruling is the one that is due to this Ask
  pub record IsRuled (object : ObjectPlan) (before : List ObjectEntry) (e : ObjectEntry) : Type 0 where
    pub names : Names object before e
    pub due : IsDue names.plan names.journal e.place names.asked e.ruling

  -- the journal of an object is within its limit, and each entry is ruled as is due
  pub record IsRuledObject (object : ObjectFixed) (entries : List ObjectEntry) : Type 0 where
    pub within : length entries ≤ object.limit
    pub ruled : (before rest : List ObjectEntry) (e : ObjectEntry) →
        entries ≡ before ++ e ∷ rest → IsRuled object.plan before e

  -- The same of each of these objects, which are the first of the cells, and no two entries name
  -- one Ask.
  pub record AreRuled (objects : List ObjectJournal) : Type 0 where
    pub each : (i : ℕ) (f : ObjectFixed) (o : ObjectJournal) → slice_get cells.objects i ≡ Some f →
        slice_get objects i ≡ Some o → IsRuledObject f o.entries
    pub once : AllPairs (λ m n. m ≢ n) (all_named objects)

-- these shards, which are the first of the plans, have legal journals
abbrev pub AreLegal : List Plan → List (List Entry) → Type 0
AreLegal plans shards =
    (i : ℕ) (plan : Plan) (journal : List Entry) → slice_get plans i ≡ Some plan →
    slice_get shards i ≡ Some journal → IsLegalJournal plan journal

-- there is one journal a shard and one an object of the cells, and none besides
pub record HasCells (cells : Cells) (j : Journals) : Type 0 where
  pub shards : length j.shards ≡ length cells.plans
  pub objects : map (λ (o : ObjectJournal). o.number) j.objects ≡ numbers_of cells.objects
