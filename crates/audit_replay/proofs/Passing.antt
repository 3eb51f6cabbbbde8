-- Loops that read item after item and keep none of them: what was read is there all the same.
use Rattle.std.proofs.Common.{◌≡◌, ◌⊎◌, ℕ, zero, suc, ◌+◌, ◌<◌, ◌≤◌, List, [], ◌∷◌, ◌++◌, length, Option, None, Result, Ok, Err, ap, arith, length-append}
use Rattle.byte_fields.specs.declared.fault.FormatFault.{FormatFault}
use Rattle.byte_fields.specs.declared.fault.FormatFault.TheVariants.{NoMemory}
use Rattle.byte_fields.specs.Readers.{Reader, items_behind}
use Rattle.byte_fields.proofs.Loops.{IsSoFar, begins, goes_on, is_done, stops}
use Rattle.byte_fields.proofs.Results.{bind_ok, ok_is}
use Rattle.std.specs.Int.{w32, w64, to_be_bytes}
use Rattle.object_core.specs.Objects.{ObjectEntry, ObjectSeen}
use Rattle.agent_core.specs.Journals.{Entry}
use Rattle.agent_core.specs.State.{Plan}
use Rattle.shard_core.specs.Cells.{Cells}
use Rattle.object_core.specs.Spelling.{kind_of, op_fields}
use Rattle.journal_bytes.specs.Spelled.{ObjectJournal, SpelledEntry}
use Rattle.journal_bytes.specs.Spelling.{entry_bytes, ruled_bytes, ruling_bytes}
use Rattle.audit_replay.specs.declared.fall.Fall.{Fall}
use Rattle.audit_replay.specs.declared.stepping.ShardReplay.{ShardReplay}
use Rattle.audit_replay.specs.Stepping.{HasBeenRuled, HasCome, MakesOf, PassesOver}

-- a reader's fault, of whatever it would have made
abbrev pub refused : (X : Type 0) → FormatFault → Result X FormatFault
refused X f = Err f

pub ends_there : {A : Type 0} (x : A) (m n : ℕ) (r : Result (A × ℕ) FormatFault) → r ≡ Ok (x, m) → m ≡ n → r ≡ Ok (x, n)
ends_there x m n r is same = cc

module _ {A : Type 0} (item : List A → Reader A FormatFault) (count at : ℕ) where
  -- so many items were read up to this offset, of which this holds
  pub record HasRead (i next : ℕ) (Holds : List A → Type 0) : Type 0 where
    pub read : List A
    pub so_far : IsSoFar item count i read next (items_behind item count [] at)
    pub holds : Holds read

  pub reading : (Holds : List A → Type 0) → Holds [] → HasRead 0 at Holds
  reading Holds is = record { read = []; so_far = begins item count at; holds = is }

  -- one item more
  pub reads_on : (i next after : ℕ) (x : A) (Holds Then : List A → Type 0) (h : HasRead i next Holds) → i < count → item h.read next ≡ Ok (x, after) → (Holds h.read → Then (h.read ++ x ∷ [])) → HasRead (i + 1) after Then
  reads_on i next after x Holds Then h less is on = record {
    read = h.read ++ x ∷ [];
    so_far = goes_on item count i h.read next (items_behind item count [] at) x after less is h.so_far;
    holds = on h.holds;
  }

  -- an item that is refused
  pub reading_stops : {X : Type 0} (Related : List A × ℕ → X → Type 0) (i next : ℕ) (f : FormatFault) (Holds : List A → Type 0) (h : HasRead i next Holds) → i < count → (f ≡ NoMemory) ⊎ (item h.read next ≡ Err f) →
      MakesOf Related (refused X f) (items_behind item count [] at)
  reading_stops Related i next f Holds h less refused = stops item count i h.read next (items_behind item count [] at) NoMemory f less refused h.so_far

  -- all of them
  pub reading_ends : {X : Type 0} (Related : List A × ℕ → X → Type 0) (i next : ℕ) (x : X) (Holds : List A → Type 0) (h : HasRead i next Holds) → count ≤ i → (Holds h.read → Related (h.read, next) x) → MakesOf Related (Ok x) (items_behind item count [] at)
  reading_ends Related i next x Holds h done end = ((h.read, next), is_done item count i h.read next (items_behind item count [] at) done h.so_far, end h.holds)

module _ {A : Type 0} (item : List A → Reader A FormatFault) (count at : ℕ) where
  -- one item more, which was let go
  pub passes_on : (i next after : ℕ) (h : HasRead item count at i next (λ _. Unit {0})) → i < count → PassesOver (Ok after) (item h.read next) → HasRead item count at (i + 1) after (λ _. Unit {0})
  passes_on i next after h less (y, is, ends) =
      reads_on item count at i next after y.0 (λ _. Unit {0}) (λ _. Unit {0}) h less (ends_there y.0 y.1 after (item h.read next) is ends) (λ _. tt)

-- as many are read as are counted
pub items_counted : {A E : Type 0} (item : List A → Reader A E) (n : ℕ) (before : List A) (at : ℕ) (x : List A × ℕ) → items_behind item n before at ≡ Ok x → length x.0 ≡ length before + n
unfolding items_behind
items_counted {A} {E} item zero before at x e = omega (arith, ap (λ (l : List A × ℕ). length l.0) (ok_is E (before, at) x e))
items_counted {A} {E} item (suc n) before at x e =
    let (y, first, rest) = bind_ok (item before at) (λ next. items_behind item n (before ++ next.0 ∷ []) next.1) x e in
    omega (arith, items_counted item n (before ++ y.0 ∷ []) y.1 x rest, length-append before (y.0 ∷ []))

-- ---- an entry has a byte at least

pub entry_long : (e : SpelledEntry) → 1 ≤ length (entry_bytes e)
unfolding entry_bytes
entry_long e = omega arith

pub ruled_long : (e : ObjectEntry) → 1 ≤ length (ruled_bytes e)
unfolding ruled_bytes
ruled_long e =
    let behind : List ℕ = kind_of e.op ∷ op_fields e.op ++ ruling_bytes e.ruling in
    omega (arith, length-append (to_be_bytes w32 e.shard) (to_be_bytes w64 e.place ++ behind), length-append (to_be_bytes w64 e.place) behind)

-- ---- what became of what was read

abbrev pub Come : ShardReplay → ShardReplay → Option Fall → List SpelledEntry → Type 0
Come before after fall xs = (plans : List Plan) (number : ℕ) → HasCome plans number [] before None → HasCome plans number xs after fall

abbrev pub Ruled : List ShardReplay → List ShardReplay → ObjectSeen → ObjectSeen → Option Fall → List ObjectEntry → Type 0
Ruled before after o now fall xs =
    (cells : Cells) (journals : List (List Entry)) (front : List ObjectJournal) (number : ℕ) → HasBeenRuled cells journals front number [] before o None → HasBeenRuled cells journals front number xs after now fall
