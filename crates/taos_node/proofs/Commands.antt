-- What a file decides, and what the first lane tells.
use Rattle.std.proofs.Common.{◌≡◌, ◌≢◌, ℕ, ◌-◌, ◌^◌, ◌<◌, Bool, true, List, [], ◌∷◌, length, map, slice_index_or, slice_set, Some, refl, sym, ap, subst, arith, inl, inr}
use Rattle.std.specs.Prelude.{Option}
use Rattle.std.specs.List.{AllZip}
use Rattle.std.specs.Io.KnownBytes.{Consumes}
use Rattle.std.proofs.lemmas.List.{length-append}
use Rattle.frame_link.specs.declared.outcome.Outcome.{Outcome}
use Rattle.frame_link.specs.Faults.{Rose}
use Rattle.frame_link.specs.Served.{HasCauses, IsComplete, line}
use Rattle.taos_lanes.specs.Workers.{LaneShown}
use Rattle.request_course.specs.Cells.{Node, Seen, alone_of}
use Rattle.request_course.specs.Connection.{Connects}
use Rattle.node_commands.specs.declared.fault.FileFault.{FileFault}
use Rattle.node_commands.specs.declared.fault.FileFault.TheVariants as fault
use Rattle.node_commands.specs.declared.fault.FileFault.TheVariants.{Malformed, Refused}
use Rattle.node_commands.specs.Files.{FaultHasCause, FileFails, IsRefused, Meaning, Opens}
use Rattle.taos_node.specs.Deciding.{FileDecides}
use Rattle.frame_link.specs.Streams.{Stream}
use Rattle.taos_node.specs.Calls.{LaneUsed, touched, first_of, used_of}
use Rattle.taos_node.specs.Command.{HasOtherUse, LeavesDoors, with_seen}
use Rattle.prin_text.specs.declared.lines.fault.FileFault.{FileFault as Refusal}
use Rattle.prin_text.specs.declared.lines.fault.FileFault.TheVariants.{Line, Byte}
use Rattle.frame_link.proofs.Complete.{left_after}
use Rattle.request_course.specs.World.{setting_of}
use Rattle.taos_node.proofs.Stopped.{file_status}
use Rattle.node_commands.proofs.Meant.{told_is, IsMeantBy}

-- a count that stood still did not rise
pub still : (before now : ℕ) → (now ≡ before) × (before < 2 ^ 64 - 1) → Rose before now → ⊥
still before now s rose = omega (arith, s.0, s.1, rose)

-- ---- what a file means

module _ {A : Type 0} (Means : A → List ℕ → Type 0) (means : Meaning A) (laws : IsMeantBy Means means) (file0 file1 : Stream) where
  -- a file that tells that it means something is not refused
  pub not_refused : (bytes : List ℕ) (a : A) (why : Refusal) → IsRefused means file0 file1 why → file0.told ≡ Some bytes → Means a bytes → ⊥
  not_refused bytes a why bad told is = elim bad.read.whole [
    | inl at_end ↦
        let same : bytes ≡ bad.bytes = told_is file0.told file1.told bytes bad.bytes bad.read.read at_end told in
        absurd (cc (bad.refused, laws.read bad.bytes a (subst (Means a) same is)))
    | inr long ↦
        let behind = left_after bytes bad.bytes file1.told (subst (λ (f : Option (List ℕ)). Consumes f file1.told bad.bytes) told bad.read.read) in
        absurd (omega (arith, long, laws.short bytes a is, ap length behind.2, length-append bad.bytes behind.0))
  ]

  -- and one that was opened tells nothing else
  pub is_opened : (bytes : List ℕ) (a : A) → Opens Means file0 file1 a → file0.told ≡ Some bytes → Means a bytes
  is_opened bytes a opened told = subst (Means a) (sym (told_is file0.told file1.told bytes opened.bytes opened.read opened.at_end told)) opened.means

  -- ---- what the file decides, by what came of it

  pub decided_opened : (a : A) (status : ℕ) → Opens Means file0 file1 a → status ≢ 2 → FileDecides Means file0 file1 status
  decided_opened a status opened other = record {
    opens = λ bytes b told is. other;
    refuses = λ bytes told none steady. absurd (none a (is_opened bytes a opened told));
  }

  refused_decides : (why : Refusal) → IsRefused means file0 file1 why → FileDecides Means file0 file1 2
  refused_decides why bad = record {
    opens = λ bytes a told is e. not_refused bytes a why bad told is;
    refuses = λ bytes told none steady. inl refl;
  }

  pub decided_fault : (f : FileFault) → FileFails means file0 file1 f → FaultHasCause file0 file1 f → FileDecides Means file0 file1 (file_status f)
  decided_fault (Refused line cause) bad why = refused_decides (Line line cause) bad
  decided_fault (Malformed offset) bad why = refused_decides (Byte offset) bad
  decided_fault fault.ReadFault bad why = record {
    opens = λ bytes a told is e. omega (arith, e);
    refuses = λ bytes told none steady. absurd (still file0.faults file1.faults steady why.1);
  }
  decided_fault fault.NoMemory bad why = record {
    opens = λ bytes a told is e. omega (arith, e);
    refuses = λ bytes told none steady. inr refl;
  }

-- ---- the lanes

module _ {X : Type 0} where
  same_use : (l : List (LaneShown X)) → AllZip HasOtherUse l l
  same_use [] = tt
  same_use (lane ∷ l) = (record { door = refl; work = refl; tally = refl }, same_use l)

  -- lanes that nobody touched
  pub no_lane : (l : List (LaneShown X)) → LeavesDoors l l
  no_lane l = record { others = refl; all = same_use l }

-- ---- the first lane

module _ {L X : Type 0} (shown : L → LaneShown X) where
  pub first_is : (lanes : List L) (d : L) → 0 < length lanes → first_of (map shown lanes) ≡ used_of (shown (slice_index_or lanes 0 d))
  first_is [] d some = absurd (omega (arith, some))
  first_is (lane ∷ lanes) d some = refl

  -- as it is left
  pub first_after : (lanes : List L) (lane : L) → 0 < length lanes → first_of (map shown (slice_set lanes 0 lane)) ≡ used_of (shown lane)
  first_after [] lane some = absurd (omega (arith, some))
  first_after (other ∷ lanes) lane some = refl

  -- of which only what a connection uses has changed
  pub leaves_doors : (lanes : List L) (d lane : L) → 0 < length lanes → HasOtherUse (shown (slice_index_or lanes 0 d)) (shown lane) → LeavesDoors (map shown lanes) (map shown (slice_set lanes 0 lane))
  leaves_doors [] d lane some h = absurd (omega (arith, some))
  leaves_doors (first ∷ lanes) d lane some h = record { others = refl; all = (h, (no_lane (map shown lanes)).all) }

  -- how it ended, by the counts of the first lane's clock
  pub causes_by : (lanes : List L) (d lane : L) → 0 < length lanes → (in0 in1 out0 out1 : Stream) (outcome : Outcome) →
      HasCauses (λ (n : ℕ). n) (line in0 out0 (shown (slice_index_or lanes 0 d)).outside.clock.faults) (line in1 out1 (shown lane).outside.clock.faults) outcome →
      HasCauses (λ (n : ℕ). n) (line in0 out0 (first_of (map shown lanes)).clock.faults) (line in1 out1 (first_of (map shown (slice_set lanes 0 lane))).clock.faults) outcome
  causes_by [] d lane some in0 in1 out0 out1 outcome h = absurd (omega (arith, some))
  causes_by (first ∷ lanes) d lane some in0 in1 out0 out1 outcome h = h

  pub complete_by : (lanes : List L) (d lane : L) → 0 < length lanes → (in0 in1 out0 out1 : Stream) (outcome : Outcome) (limit : ℕ) →
      IsComplete (λ (n : ℕ). n) limit (line in0 out0 (shown (slice_index_or lanes 0 d)).outside.clock.faults) (line in1 out1 (shown lane).outside.clock.faults) outcome →
      IsComplete (λ (n : ℕ). n) limit (line in0 out0 (first_of (map shown lanes)).clock.faults) (line in1 out1 (first_of (map shown (slice_set lanes 0 lane))).clock.faults) outcome
  complete_by [] d lane some in0 in1 out0 out1 outcome limit h = absurd (omega (arith, some))
  complete_by (first ∷ lanes) d lane some in0 in1 out0 out1 outcome limit h = h

-- a connection over what is touched, as the first lane tells it, with the use of the fetch that stays
pub touches : (n : Node) (pulls used : Bool) (frames : ℕ) (file0 file1 in0 in1 out0 out1 : Stream) (lane0 lane0' lane1 lane1' : LaneUsed) (seen seen' last : Seen) (outcome : Outcome) →
    used ≡ pulls → lane0' ≡ lane0 → lane1' ≡ lane1 → seen' ≡ seen →
    Connects (setting_of n (alone_of true true)) frames (with_seen pulls (touched file0 in0 out0 lane0) seen) (with_seen used (touched file1 in1 out1 lane1) last) outcome →
    Connects (setting_of n (alone_of true true)) frames (with_seen pulls (touched file0 in0 out0 lane0') seen') (with_seen pulls (touched file1 in1 out1 lane1') last) outcome
touches n pulls used frames file0 file1 in0 in1 out0 out1 lane0 lane0' lane1 lane1' seen seen' last outcome e e0 e1 e2 c =
    rw (e0, e1, e2)
    (subst (λ (b : Bool). Connects (setting_of n (alone_of true true)) frames (with_seen pulls (touched file0 in0 out0 lane0) seen) (with_seen b (touched file1 in1 out1 lane1) last) outcome) e c)
