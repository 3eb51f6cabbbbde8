-- What the status tells of the lanes' doors, and of the command that serves lanes.
use Rattle.std.proofs.Common.{◌≡◌, ◌≢◌, ◌⊎◌, ℕ, ◌+◌, ◌<◌, ◌≤◌, ◌-◌, ◌^◌, Bool, true, false, List, [], ◌∷◌, length, Option, refl, sym, ap, ◌∙◌, subst, arith, inl, inr, cond}
use Rattle.std.specs.Prelude.{String, not, ◌==◌, ◌||◌}
use Rattle.std.specs.List.{AllZip, position_or_len}
use Rattle.std.specs.declared.alloc.Global.{Global}
use Rattle.frame_link.specs.Doors.{DoorSeen}
use Rattle.agent_shards.specs.Each.{Each3}
use Rattle.node_file.specs.Opening.{Opening}
use Rattle.node_file.specs.RelayFile.{RelayFile}
use Rattle.frame_link.specs.declared.limits.Limits.{Limits}
use Rattle.taos_lanes.specs.Workers.{HasOtherWork, LaneShown}
use Rattle.taos_lanes.specs.Lanes.{LaneRun}
use Rattle.taos_lanes.specs.declared.total.Total.{Total}
use Rattle.taos_lanes.specs.Relaying.{IsRelayRunOf, RelayRun}
use Rattle.taos_lanes.specs.Serving.{IsRunOf}
use Rattle.taos_monitor.specs.Changing.{change}
use Rattle.taos_lanes.specs.Telling.{Telling}
use Rattle.taos_lanes.specs.Working.{HasDoorCause}
use Rattle.taos_node.specs.declared.ending.Ending.{Ending}
use Rattle.taos_node.specs.declared.ending.Ending.TheVariants as ending
use Rattle.taos_node.specs.declared.ending.Ending.TheVariants.{Usage, File, Served, Checked, Relayed, Minted, Lanes, RelayLanes, Audited, Drilled, Passed, Walleted, Replayed}
use Rattle.node_commands.specs.declared.fault.FileFault.{FileFault}
use Rattle.taos_node.specs.declared.ending.LanesEnd.{LanesEnd}
use Rattle.taos_node.specs.declared.ending.LanesEnd.TheVariants as lanes
use Rattle.taos_node.specs.Command.{IsCommand, LeavesDoors, ServesDoors, Runs, RunsAlone}
use Rattle.taos_node.specs.Status.{Does, EndsAlone, EndsWellFor, FileDecidesFor, HasSameCount, HasSteadyDoor, IsStatus, TellsDoors}
use Rattle.taos_node.specs.Calls.{Touched, over}
use Rattle.taos_node.specs.Stops.{status_of}
use Rattle.node_commands.specs.Files.{FaultHasCause, FileFails, HasFailed, IsNodeFile, IsRelayFile, IsSteady, node_means, relay_means}
use Rattle.taos_node.specs.Lanes.{HasNoneFailed, LanesCauses, PrintsLine, ServesLanes, served, unserved}
use Rattle.taos_node.specs.RelayLanes.{RelaysDoors}
use Rattle.node_commands.specs.Words.{Mean, RelayServe, Serve, ServeWords, Task}
use Rattle.taos_node.proofs.Commands.{no_lane, still}
use Rattle.node_commands.proofs.Meant.{node_files, relay_files}
use Rattle.taos_node.proofs.Statuses.{apart, file_ends, is_file_status, lacked, of_command, stayed, two_commands}
use Rattle.taos_node.proofs.Stopped.{file_status, lanes_status}

-- ---- the other commands

-- the command serves lanes
abbrev pub IsLaneTask : Task → Type 0
IsLaneTask (Serve limits) = Unit {0}
IsLaneTask (RelayServe limits) = Unit {0}
IsLaneTask other = ⊥

-- words of another command serve no lanes
other_words : (words : List (String Global)) (a : Task) → Mean words a → (IsLaneTask a → ⊥) → ServesDoors words → ⊥
other_words words a is apart (inl serve) = two_commands words a (Serve serve.0) is serve.1 (λ e. apart (subst IsLaneTask (sym e) tt))
other_words words a is apart (inr serve) = two_commands words a (RelayServe serve.0) is serve.1 (λ e. apart (subst IsLaneTask (sym e) tt))

-- nor do words of no command
pub none_serves : (words : List (String Global)) → (IsCommand words → ⊥) → ServesDoors words → ⊥
none_serves words none (inl serve) = none (Serve serve.0, serve.1)
none_serves words none (inr serve) = none (RelayServe serve.0, serve.1)

module _ {In Out : Type 0} (telling : Telling In Out) (words : List (String Global)) (before after : Touched) (lanes0 lanes1 : List (LaneShown (In × Out))) where
  alone_runs : (e : Ending) → RunsAlone words before after e → LeavesDoors lanes0 lanes1 → Runs telling words (over before lanes0) (over after lanes1) e
  alone_runs Usage r others = (r, others)
  alone_runs ending.NoMemory r others = (r, others)
  alone_runs (File f) r others = (r, others)
  alone_runs (Served outcome) r others = (r, others)
  alone_runs (Checked end) r others = (r, others)
  alone_runs (Relayed outcome) r others = (r, others)
  alone_runs (Minted end) r others = (r, others)
  alone_runs (Audited end) r others = (r, others)
  alone_runs (Drilled end) r others = (r, others)
  alone_runs (Passed end) r others = (r, others)
  alone_runs (Walleted outcome) r others = (r, others)
  alone_runs (Replayed end) r others = (r, others)
  alone_runs (Lanes end) r others = absurd r
  alone_runs (RelayLanes end) r others = absurd r

  -- a command that serves no lanes
  pub alone : (e : Ending) → RunsAlone words before after e → IsStatus words before after (status_of e) → LeavesDoors lanes0 lanes1 → (ServesDoors words → ⊥) → Does telling words (over before lanes0) (over after lanes1) e
  alone e r status others none = record {
    runs = alone_runs e r others;
    status = status;
    tells = record { caused = λ nine. absurd (none (status.door_of nine)); told = λ serve. absurd (none serve); well = λ serve. absurd (none (inl serve)); relays_well = λ serve. absurd (none (inr serve)) };
  }

-- the same, by what came of the command
pub ends_alone : {In Out : Type 0} (telling : Telling In Out) (words : List (String Global)) (task : Task) {before after : Touched} (lanes0 lanes1 : List (LaneShown (In × Out))) (e : Ending) → Mean words task → (IsLaneTask task → ⊥) →
    EndsAlone task before after e → LeavesDoors lanes0 lanes1 → Does telling words (over before lanes0) (over after lanes1) e
ends_alone telling words task {before} {after} lanes0 lanes1 e is apart ends others =
    let did = ends words is in
    alone telling words before after lanes0 lanes1 e did.0 did.1 others (other_words words task is apart)

-- ---- doors that nobody asked

pub same_doors : {X : Type 0} (l : List (LaneShown X)) → AllZip HasSameCount l l
same_doors [] = tt
same_doors (x ∷ l) = (refl, same_doors l)

other_work : {X : Type 0} (xs ys : List (LaneShown X)) → AllZip HasOtherWork xs ys → AllZip HasSameCount xs ys
other_work [] [] z = tt
other_work {X} (x ∷ xs) (y ∷ ys) z = (ap (λ (d : DoorSeen X). d.faults) z.0.door, other_work xs ys z.1)
other_work [] (y ∷ ys) z = absurd z
other_work (x ∷ xs) [] z = absurd z

module _ {In Out : Type 0} (telling : Telling In Out) (words : List (String Global)) (before after : Touched) (l : List (LaneShown (In × Out))) where
  -- memory was refused before the words were read
  pub unread_does : RunsAlone words before after ending.NoMemory → IsStatus words before after 6 → Does telling words (over before l) (over after l) ending.NoMemory
  unread_does r status = record {
    runs = (r, no_lane l);
    status = status;
    tells = record { caused = λ nine. absurd (omega (arith, nine)); told = λ serve other. same_doors l; well = λ serve bytes o told is sf so steady. inr refl; relays_well = λ serve bytes r told is sf so steady. inr refl };
  }

  -- the file of the command that serves lanes was not served
  pub file_does : (s : ServeWords) (f : FileFault) → Mean words (Serve s) → RunsAlone words before after (File f) → IsStatus words before after (file_status f) → FileFails node_means before.file after.file f →
      FaultHasCause before.file after.file f → Does telling words (over before l) (over after l) (File f)
  file_does s f serve r status bad cause = record {
    runs = (r, no_lane l);
    status = status;
    tells = record {
      caused = λ nine. absurd (apart is_file_status (file_ends f) refl nine);
      told = λ is other. same_doors l;
      well = λ is bytes o told means sf so steady. inr (lacked before after IsNodeFile node_means node_files f bad cause bytes o told means sf);
      relays_well = λ relay. two_commands words (Serve s) (RelayServe relay.0) serve relay.1 (λ e. cc e);
    };
  }

  -- nor that of the command that serves them as a relay
  pub relay_file_does : (limits : Limits) (f : FileFault) → Mean words (RelayServe limits) → RunsAlone words before after (File f) → IsStatus words before after (file_status f) → FileFails relay_means before.file after.file f →
      FaultHasCause before.file after.file f → Does telling words (over before l) (over after l) (File f)
  relay_file_does limits f relay r status bad cause = record {
    runs = (r, no_lane l);
    status = status;
    tells = record {
      caused = λ nine. absurd (apart is_file_status (file_ends f) refl nine);
      told = λ is other. same_doors l;
      well = λ serve. two_commands words (RelayServe limits) (Serve serve.0) relay serve.1 (λ e. cc e);
      relays_well = λ is bytes q told means sf so steady. inr (lacked before after IsRelayFile relay_means relay_files f bad cause bytes q told means sf);
    };
  }

-- ---- the first lane whose door failed

no_less : {a b m n : ℕ} → a ≤ b → a ≡ m → b ≡ n → m ≤ n
no_less le p q = omega (arith, le, p, q)

steady_run : (failed : Bool) (b a : ℕ) → HasDoorCause failed b a → (a ≡ b) × (b < 2 ^ 64 - 1) → failed ≡ false
steady_run true b a cause s = absurd (still b a s cause.1)
steady_run false b a cause s = refl

same_run : (failed : Bool) (b a : ℕ) → HasDoorCause failed b a → failed ≡ false → a ≡ b
same_run true b a cause is = absurd (cc is)
same_run false b a cause is = cause

module _ {X R : Type 0} (Is : LaneShown X → LaneShown X → R → Type 0) (failed : R → Bool) (cause : (x y : LaneShown X) (r : R) → Is x y r → HasDoorCause (failed r) x.door.faults y.door.faults) where
  abbrev first_in : List R → ℕ
  first_in runs = position_or_len failed runs

  abbrev first_by : Bool → List R → ℕ
  first_by b runs = cond (not b) (1 + first_in runs) 0

  -- where each door was steady none failed
  none_failed : (xs ys : List (LaneShown X)) (runs : List R) → Each3 Is xs ys runs → AllZip HasSteadyDoor xs ys → first_in runs ≡ length runs
  none_failed [] [] [] each steady = refl
  none_failed (x ∷ xs) (y ∷ ys) (r ∷ runs) each steady =
      let at : first_in (r ∷ runs) ≡ 1 + first_in runs = ap (λ (b : Bool). first_by b runs) (steady_run (failed r) x.door.faults y.door.faults (cause x y r each.0) steady.0) in
      omega (arith, at, none_failed xs ys runs each.1 steady.1)
  none_failed _ _ _ each steady = absurd each

  -- and where none failed each count stayed
  none_rose : (xs ys : List (LaneShown X)) (runs : List R) → Each3 Is xs ys runs → length runs ≤ first_in runs → AllZip HasSameCount xs ys
  none_rose [] [] [] each all = tt
  none_rose (x ∷ xs) (y ∷ ys) (r ∷ runs) each all =
      let here = by (failed r) refl in
      (same_run (failed r) x.door.faults y.door.faults (cause x y r each.0) here.0, none_rose xs ys runs each.1 here.1)
    where
      by : (b : Bool) → failed r ≡ b → (failed r ≡ false) × (length runs ≤ first_in runs)
      by true is = let at : first_in (r ∷ runs) ≡ 0 = ap (λ (b : Bool). first_by b runs) is in absurd (omega (arith, all, at))
      by false is = let at : first_in (r ∷ runs) ≡ 1 + first_in runs = ap (λ (b : Bool). first_by b runs) is in (is, omega (arith, all, at))
  none_rose _ _ _ each all = absurd each

  -- what is printed of what these counted tells of the doors
  module _ (xs ys : List (LaneShown X)) (runs : List R) (each : Each3 Is xs ys runs) (total : Total) (many : total.lanes ≡ length runs) (first : total.first_failed ≡ first_in runs) where
    none_first : AllZip HasSteadyDoor xs ys → total.first_failed ≡ total.lanes
    none_first steady = first ∙ (none_failed xs ys runs each steady ∙ sym many)

    counts_stay : HasNoneFailed total → AllZip HasSameCount xs ys
    counts_stay none = none_rose xs ys runs each (no_less none many first)

    line_nine : (text : List ℕ) (out0 out1 : Option (List ℕ)) (end : LanesEnd) → PrintsLine total text out0 out1 end → lanes_status end ≡ 9 → AllZip HasSteadyDoor xs ys → ⊥
    line_nine text out0 out1 lanes.Done p nine steady = absurd (omega (arith, nine))
    line_nine text out0 out1 (lanes.DoorFault lane) p nine steady = absurd (omega (arith, p.0, p.1, none_first steady))
    line_nine text out0 out1 lanes.WriteFault p nine steady = absurd (omega (arith, nine))
    line_nine text out0 out1 lanes.NoMemory p nine steady = absurd (omega (arith, nine))

    line_same : (text : List ℕ) (out0 out1 : Option (List ℕ)) (end : LanesEnd) → PrintsLine total text out0 out1 end → lanes_status end ≢ 9 → AllZip HasSameCount xs ys
    line_same text out0 out1 lanes.Done p other = counts_stay p.0.doors
    line_same text out0 out1 (lanes.DoorFault lane) p other = absurd (other refl)
    line_same text out0 out1 lanes.WriteFault p other = counts_stay p.0.doors
    line_same text out0 out1 lanes.NoMemory p other = counts_stay p.0

    line_well : (text : List ℕ) (before after : Touched) (end : LanesEnd) → PrintsLine total text before.output.told after.output.told end → LanesCauses before.output.faults after.output.faults end →
        IsSteady before.output after.output → AllZip HasSteadyDoor xs ys → (lanes_status end ≡ 0) ⊎ (lanes_status end ≡ 6)
    line_well text before after lanes.Done p h so steady = inl refl
    line_well text before after (lanes.DoorFault lane) p h so steady = absurd (omega (arith, p.0, p.1, none_first steady))
    line_well text before after lanes.WriteFault p h so steady = absurd (still before.output.faults after.output.faults so h.1)
    line_well text before after lanes.NoMemory p h so steady = inr refl

    -- so it does of a call that printed it
    pub line_tells : (words : List (String Global)) (before after : Touched) (text : List ℕ) (end : LanesEnd) → PrintsLine total text before.output.told after.output.told end → LanesCauses before.output.faults after.output.faults end →
        TellsDoors words (over before xs) (over after ys) (lanes_status end)
    line_tells words before after text end p h = record {
      caused = line_nine text before.output.told after.output.told end p;
      told = λ serve other. line_same text before.output.told after.output.told end p other;
      well = λ serve bytes o told means sf so steady. line_well text before after end p h so steady;
      relays_well = λ serve bytes r told means sf so steady. line_well text before after end p h so steady;
    }

-- ---- lanes that served

-- it ends by one of these
abbrev pub is_lanes_status : ℕ → Bool
is_lanes_status n = (n == 0) || ((n == 4) || ((n == 6) || (n == 9)))

pub lanes_end : (end : LanesEnd) → is_lanes_status (lanes_status end) ≡ true
lanes_end lanes.Done = refl
lanes_end (lanes.DoorFault lane) = refl
lanes_end lanes.WriteFault = refl
lanes_end lanes.NoMemory = refl

module _ (before after : Touched) where
  lanes_write : (end : LanesEnd) → LanesCauses before.output.faults after.output.faults end → lanes_status end ≡ 4 → HasFailed before.output after.output
  lanes_write lanes.Done h e = absurd (omega (arith, e))
  lanes_write (lanes.DoorFault lane) h e = absurd (omega (arith, e))
  lanes_write lanes.WriteFault h e = h.1
  lanes_write lanes.NoMemory h e = absurd (omega (arith, e))

  lanes_output : (end : LanesEnd) → LanesCauses before.output.faults after.output.faults end → before.output.faults < after.output.faults → lanes_status end ≡ 4
  lanes_output lanes.Done h = stayed before.output.faults after.output.faults h
  lanes_output (lanes.DoorFault lane) h = stayed before.output.faults after.output.faults h
  lanes_output lanes.WriteFault h = λ _. refl
  lanes_output lanes.NoMemory h = stayed before.output.faults after.output.faults h

  pub lanes_tell : (words : List (String Global)) (task : Task) (end : LanesEnd) → Mean words task → EndsWellFor task before after (lanes_status end) → (lanes_status end ≢ 2 → FileDecidesFor task before.file after.file (lanes_status end)) → ServesDoors words →
      after.file.faults ≡ before.file.faults → after.input.faults ≡ before.input.faults → LanesCauses before.output.faults after.output.faults end → IsStatus words before after (lanes_status end)
  lanes_tell words task end is well decides serve same input h = record {
    usage = record { usage = λ e. absurd (apart is_lanes_status (lanes_end end) refl e); no_command = λ none. absurd (none (task, is)) };
    file = λ other o. of_command (λ w. FileDecidesFor w before.file after.file (lanes_status end)) words task other is o (decides (apart is_lanes_status (lanes_end end) refl));
    well = λ other o. of_command (λ w. EndsWellFor w before after (lanes_status end)) words task other is o well;
    causes = record { read = λ e. absurd (apart is_lanes_status (lanes_end end) refl e); write = lanes_write end h; clock = λ e. absurd (apart is_lanes_status (lanes_end end) refl e) };
    told = record { file = stayed before.file.faults after.file.faults same; input = stayed before.input.faults after.input.faults input; output = lanes_output end h };
    clock = λ none. absurd (none serve);
    clock_of = λ e. absurd (apart is_lanes_status (lanes_end end) refl e);
    door_of = λ e. serve;
  }

module _ {In Out : Type 0} (telling : Telling In Out) (asked : ServeWords) (xs ys : List (LaneShown (In × Out))) where
  pub doors_tell : (o : Opening) (words : List (String Global)) (before after : Touched) (end : LanesEnd) → Mean words (Serve asked) → ServesLanes telling o asked.pulls asked.limits (change xs ys) (change before.output.told after.output.told) end →
      LanesCauses before.output.faults after.output.faults end → TellsDoors words (over before xs) (over after ys) (lanes_status end)
  doors_tell o words before after end serve (unserved none same kept) h =
      let six : lanes_status end ≡ 6 = ap lanes_status none in
      record {
        caused = λ nine. absurd (omega (arith, nine, six));
        told = λ is other. other_work xs ys same;
        well = λ is bytes p told means sf so steady. inr six;
        relays_well = λ is bytes p told means sf so steady. inr six;
      }
  doors_tell o words before after end serve (served l s p) h =
      let run = λ (x y : LaneShown (In × Out)) (r : LaneRun s.node asked.limits.frames) (is : IsRunOf telling asked.pulls asked.limits x y r). is.cause in
      line_tells _ _ run xs ys s.serves.runs s.serves.each l.total s.serves.counted.lanes s.serves.counted.first_failed words before after _ end p h

module _ {In Out : Type 0} (telling : Telling In Out) (limits : Limits) (xs ys : List (LaneShown (In × Out))) where
  -- the same of a relay's lanes
  pub relay_doors_tell : (r : RelayFile) (words : List (String Global)) (before after : Touched) (end : LanesEnd) → Mean words (RelayServe limits) → RelaysDoors telling r limits (change xs ys) (change before.output.told after.output.told) end →
      LanesCauses before.output.faults after.output.faults end → TellsDoors words (over before xs) (over after ys) (lanes_status end)
  relay_doors_tell r words before after end relay s h =
      let run = λ (x y : LaneShown (In × Out)) (q : RelayRun limits.frames) (is : IsRelayRunOf telling s.table limits x y q). is.cause in
      line_tells _ _ run xs ys s.serves.runs s.serves.each s.total s.serves.counted.lanes s.serves.counted.first_failed words before after _ end s.prints h
