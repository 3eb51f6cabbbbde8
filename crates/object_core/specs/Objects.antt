-- The objects that a node is opened with, and what the journal of each makes of it.
use Rattle.std.specs.Prelude.{◌≡◌, ℕ, ◌==◌, Bool, true, false, List, [], ◌∷◌, ◌++◌, Option, Some, None, find}
use Rattle.std.specs.List.{filter, filter_map}
use Rattle.prin_term.specs.View.{Grant}
use Rattle.object_core.specs.Operation.{Op, Write, SetList}
use Rattle.object_core.specs.declared.ruling.Ruling.{Ruling}
use Rattle.object_core.specs.declared.ruling.Ruling.TheVariants.{Granted, Denied}

-- a guarded object: its number, its content and its access list
pub record ObjectPlan : Type 0 where
  pub number : ℕ
  pub content : List ℕ
  pub list : List Grant

-- the first object that has the number
abbrev pub object_of : List ObjectPlan → ℕ → Option ObjectPlan
object_of objects number = find (λ (p : ObjectPlan). p.number == number) objects

-- an operation with its ruling, and the Ask by which it was ruled
pub record ObjectEntry : Type 0 where
  -- the number of the shard that was asked
  pub shard : ℕ
  -- the place of the Ask in that shard's journal
  pub place : ℕ
  pub op : Op
  pub ruling : Ruling

-- an object as contracts see it, and nothing else
pub record ObjectSeen : Type 0 where
  -- what it was opened with
  pub plan : ObjectPlan
  -- how many entries its journal has at most
  pub limit : ℕ
  pub journal : List ObjectEntry

-- ---- what the entries make of an object

-- the last of them, or the first argument where there is none
abbrev pub latest : {X : Type 0} → X → List X → X
latest x [] = x
latest x (y ∷ ys) = latest y ys

-- the content that an operation brings with this ruling: a granted Write brings one
abbrev pub written : Ruling → Op → Option (List ℕ)
written (Granted entry) (Write content) = Some content
written _ _ = None

-- the content that an entry brings
abbrev pub written_by : ObjectEntry → Option (List ℕ)
written_by e = written e.ruling e.op

-- the access list that an operation brings with this ruling: a granted SetList brings one
abbrev pub listed : Ruling → Op → Option (List Grant)
listed (Granted entry) (SetList list) = Some list
listed _ _ = None

-- the access list that an entry brings
abbrev pub listed_by : ObjectEntry → Option (List Grant)
listed_by e = listed e.ruling e.op

-- the content after these entries: that of the last granted Write, else the one at opening
abbrev pub content_after : ObjectPlan → List ObjectEntry → List ℕ
content_after plan journal = latest plan.content (filter_map written_by journal)

-- the access list after these entries: that of the last granted SetList, else the one at opening
abbrev pub list_after : ObjectPlan → List ObjectEntry → List Grant
list_after plan journal = latest plan.list (filter_map listed_by journal)

-- ---- what follows

-- whether the ruling is a grant
abbrev pub is_grant : Ruling → Bool
is_grant (Granted entry) = true
is_grant Denied = false

-- the entries that were granted, in order
abbrev pub granted_of : List ObjectEntry → List ObjectEntry
granted_of journal = filter (λ (e : ObjectEntry). is_grant e.ruling) journal

-- what the granted entries alone make of an object is what all of them make of it
abbrev pub ChangesByGrants : Type 0
ChangesByGrants = (plan : ObjectPlan) (journal : List ObjectEntry) →
    (content_after plan (granted_of journal) ≡ content_after plan journal)
    × (list_after plan (granted_of journal) ≡ list_after plan journal)

-- an entry that was denied changes no byte of the content, and no entry of the list
abbrev pub StaysWhenDenied : Type 0
StaysWhenDenied = (plan : ObjectPlan) (journal : List ObjectEntry) (e : ObjectEntry) →
    e.ruling ≡ Denied →
    (content_after plan (journal ++ e ∷ []) ≡ content_after plan journal)
    × (list_after plan (journal ++ e ∷ []) ≡ list_after plan journal)
