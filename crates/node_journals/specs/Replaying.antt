-- What `replay` does: the bytes of journals are judged beside an opening, and one line tells it.
use Rattle.std.specs.Prelude.{◌≡◌, ◌⊎◌, ℕ, ◌+◌, ◌<◌, ◌≤◌, Bool, true, false, List, ◌++◌, length, codes, decimal, Option}
use Rattle.std.specs.Io.KnownBytes.{Appends, Consumes, IsAtEnd, Keeps}
use Rattle.audit_replay.specs.declared.replayed.Cell.{Cell}
use Rattle.audit_replay.specs.declared.replayed.ReplayCause.{ReplayCause}
use Rattle.audit_replay.specs.declared.replayed.Replayed.{Replayed}
use Rattle.audit_replay.specs.Replays.{IsReplayed}
use Rattle.frame_link.specs.Faults.{Rose}
use Rattle.node_file.specs.Opening.{Opening}
use Rattle.shard_core.specs.Cells.{AreCellsOf, Cells}
use Rattle.node_journals.specs.declared.replay.ReplayEnd.{ReplayEnd}
use Rattle.node_journals.specs.declared.replay.ReplayEnd.TheVariants as ends
use Rattle.node_journals.specs.declared.replay.TheConstants.{MAX_JOURNALS}

-- ---- the line

-- why an entry fails, as the line names it
abbrev pub cause_word : ReplayCause → List ℕ
cause_word ReplayCause.Cells = codes "cells"
cause_word ReplayCause.Limit = codes "limit"
cause_word ReplayCause.Keep = codes "keep"
cause_word ReplayCause.Told = codes "told"
cause_word ReplayCause.Ask = codes "ask"
cause_word ReplayCause.Again = codes "again"
cause_word ReplayCause.Ruling = codes "ruling"

-- a shard or an object, as the line names it
abbrev pub cell_words : Cell → List ℕ
cell_words (Cell.Shard number) = codes "shard " ++ decimal number
cell_words (Cell.Object number) = codes "object " ++ decimal number

-- the line that tells what journals come to
abbrev pub replay_line : Replayed → List ℕ
replay_line (Replayed.Legal entries) = codes "legal entries " ++ decimal entries ++ codes "\n"
replay_line (Replayed.Malformed offset) = codes "malformed byte " ++ decimal offset ++ codes "\n"
replay_line (Replayed.Illegal cell place cause) = codes "illegal " ++ cell_words cell
    ++ codes " entry " ++ decimal place ++ codes " " ++ cause_word cause ++ codes "\n"

abbrev pub is_legal : Replayed → Bool
is_legal (Replayed.Legal entries) = true
is_legal _ = false

-- the line of these bytes, and whether they are those of legal journals
pub data IsToldOf (cells : Cells) (bytes : List ℕ) : Bool → List ℕ → Type 0 where
  judged : {r : Replayed} → length bytes ≤ MAX_JOURNALS → IsReplayed cells bytes r →
      IsToldOf cells bytes (is_legal r) (replay_line r)
  too_large : MAX_JOURNALS < length bytes → IsToldOf cells bytes false (codes "too large\n")

-- ---- the input

-- at most one byte more than are judged was taken
abbrev pub TakesFew : Option (List ℕ) → Option (List ℕ) → Type 0
TakesFew in0 in1 =
    (taken : List ℕ) × Consumes in0 in1 taken × (length taken ≤ MAX_JOURNALS + 1)

-- the input brings the bytes: these are all of it, or one more than are judged
pub record Brings (in0 in1 : Option (List ℕ)) (bytes : List ℕ) : Type 0 where
  pub read : Consumes in0 in1 bytes
  pub whole : IsAtEnd in1 ⊎ (MAX_JOURNALS < length bytes)
  pub few : length bytes ≤ MAX_JOURNALS + 1

-- ---- what is done

module _ (o : Opening) where
  -- the bytes of the input are judged beside the cells of the opening
  pub record Judges (in0 in1 : Option (List ℕ)) (legal : Bool) (line : List ℕ) : Type 0 where
    pub cells : Cells
    pub are : AreCellsOf o cells
    pub bytes : List ℕ
    pub brings : Brings in0 in1 bytes
    pub told : IsToldOf cells bytes legal line

  -- What is done, by how it ends: the line was written, or a proper front of it.
  abbrev pub Replays : Option (List ℕ) → Option (List ℕ) → Option (List ℕ) → Option (List ℕ) →
      ReplayEnd → Type 0
  Replays in0 in1 out0 out1 (ends.Done legal) =
      (line : List ℕ) × Judges in0 in1 legal line × Appends out0 out1 line
  Replays in0 in1 out0 out1 ends.ReadFault = TakesFew in0 in1 × Keeps out0 out1
  Replays in0 in1 out0 out1 ends.WriteFault =
      (legal : Bool) × (line : List ℕ) × Judges in0 in1 legal line
      × ((part more : List ℕ) × (line ≡ part ++ more) × (0 < length more)
      × Appends out0 out1 part)
  Replays in0 in1 out0 out1 ends.NoMemory = TakesFew in0 in1 × Keeps out0 out1

-- the count of the fault that is answered rose, and each other stayed as it was
abbrev pub ReplayCauses : ℕ → ℕ → ℕ → ℕ → ReplayEnd → Type 0
ReplayCauses in0 in1 out0 out1 (ends.Done legal) = (in1 ≡ in0) × (out1 ≡ out0)
ReplayCauses in0 in1 out0 out1 ends.ReadFault = (in0 ≤ in1) × Rose in0 in1 × (out1 ≡ out0)
ReplayCauses in0 in1 out0 out1 ends.WriteFault = (in1 ≡ in0) × (out0 ≤ out1) × Rose out0 out1
ReplayCauses in0 in1 out0 out1 ends.NoMemory = (in1 ≡ in0) × (out1 ≡ out0)
