-- What one word does to a walk over the words behind a command.
use Rattle.std.proofs.Common.{◌≡◌, ◌≢◌, ℕ, ◌==◌, Bool, true, false, List, [], ◌∷◌, ◌++◌, Option, Some, None, refl, ap, ap₂, ◌∙◌, arith}
use Rattle.std.specs.Prelude.{cond, nat_lt, not, ◌&&◌}
use Rattle.std.specs.Option.{option_map, option_map_or}
use Rattle.std.specs.Str.{bytes_eq}
use Rattle.std.proofs.lemmas.Bool.Decides.{nat_tests}
use Rattle.clap.specs.Words.{Kinds, Row, Rule, Text}
use Rattle.clap.specs.Kinds.{or_else}
use Rattle.clap.specs.Lexer.{long_of, short_of}
use Rattle.clap.specs.Walk.{Held, Step, Waiting, Walk, after_flag, after_step, arg_by_id, arg_by_long, has_row, idle, long_met, long_or_other, option, option_word, positional, settled, short_or_plain, trailing, used, used_by_id, walked}
use Rattle.clap.specs.Simple.{Shape, built_leaf, inherited}
use Rattle.clap.specs.Faults.{bundle_fault, flag_word_fault, long_fault, positional_fault, settle_fault, step_fault, stray_fault, turn_fault, use_fault}
use Rattle.clap.specs.declared.error.kind.ErrorKind.{ErrorKind}
use Rattle.clap.specs.declared.error.kind.ErrorKind.TheVariants as kind
use Rattle.clap.proofs.OnLiterals.{clap_on_literals}
use Rattle.node_commands.specs.Table.{base_app, command_app}
use Rattle.node_commands.specs.Words.{Argument, Given, IsValue, Joined, Apart, Alone, flag, option_named, valued}
use Rattle.node_commands.proofs.Options.{id_named, long_named, no_position, rule_for, rules_for, same_text}
use Rattle.node_commands.proofs.Rows.{row_for, used_new}

-- a command with these options, once it is built
abbrev pub leaf_of : Text → List Argument → Shape
leaf_of command options = built_leaf (inherited base_app.top (command_app command options).top)

-- what is held of a line: rows, and nothing that waits; an option that has no value yet, or its
-- value alone
abbrev pub held : List Row → Held
held rows = record { rows = rows; pending = None; skip = 0 }

abbrev pub pending : List Row → Text → Held
pending rows name = record { rows = rows; pending = Some (name, []); skip = 0 }

abbrev pub with_value : List Row → Text → Text → Held
with_value rows name value = record { rows = rows; pending = Some (name, value ∷ []); skip = 0 }

-- an option, by how it is given
abbrev pub joined_to : Text → Text → Given
joined_to name value = record { name = name; way = Joined value }

abbrev pub apart_from : Text → Text → Given
apart_from name value = record { name = name; way = Apart value }

abbrev pub raised : Text → Given
raised name = record { name = name; way = Alone }

-- a walk that stands between two words, and one that waits for the value of an option
abbrev pub standing : Waiting → Held → Walk
standing k h = record { held = h; waiting = k; position = 1; is_trailing = false; stopped = None }

abbrev pub at : Held → Walk
at = standing idle

abbrev pub awaiting : Text → Held → Walk
awaiting name = standing (option name)

-- ---- what a word is

-- the word is read as this option, with this value or none
pub record Reads (word name : Text) (value : Option Text) : Type 0 where
  pub dashes : bytes_eq word (45 ∷ 45 ∷ []) ≡ false
  pub long : ◌≡◌ {A = Option (Text × Option Text)} (long_of word) (Some (name, value))

-- the word is read as no option
pub record IsRest (word : Text) : Type 0 where
  pub dashes : bytes_eq word (45 ∷ 45 ∷ []) ≡ false
  pub long : ◌≡◌ {A = Option (Text × Option Text)} (long_of word) None
  pub short : short_of word ≡ None

pub is_other : (x : ℕ) → x ≢ 45 → (x == 45) ≡ false
is_other x other = grind (arith, nat_tests)

pub is_rest : (word : Text) → IsValue word → IsRest word
is_rest [] is = absurd is
is_rest (x ∷ word) is = let other = is_other x is in record { dashes = rw other refl; long = rw other refl; short = rw other refl }

-- ---- the faults of a word, by what it is

abbrev pub met_by : Shape → Waiting → Held → Text → Bool → Option (Text × Option Text) → Held × Step
met_by s waiting h w dashes long = cond dashes (h, trailing 1) (long_or_other s.rules waiting w long h)

abbrev pub fault_by : Shape → Waiting → Held → Text → Bool → Option (Text × Option Text) → Kinds
fault_by s waiting h w dashes long =
    or_else (cond dashes [] (flag_word_fault s.rules s.args_override_self long w h)) (step_fault s 1 (met_by s waiting h w dashes long).0 (met_by s waiting h w dashes long).1)

-- the same of an option, by its rule
abbrev pub option_met_by : Shape → Waiting → Held → Text → Option Text → Option Rule → Held × Step
option_met_by s waiting h w v found = after_flag s.rules waiting w (long_met s.rules found v h).0 (long_met s.rules found v h).1

abbrev pub option_fault_by : Shape → Waiting → Held → Text → Option Text → Option Rule → Kinds
option_fault_by s waiting h w v found =
    or_else (long_fault s.rules s.args_override_self found v h) (step_fault s 1 (option_met_by s waiting h w v found).0 (option_met_by s waiting h w v found).1)

-- the same of another word
abbrev pub rest_met_by : Shape → Waiting → Held → Text → Option Text → Held × Step
rest_met_by s waiting h w flags = short_or_plain s.rules waiting w flags h

abbrev pub rest_fault_by : Shape → Waiting → Held → Text → Option Text → Kinds
rest_fault_by s waiting h w flags =
    or_else (option_map_or (λ f. bundle_fault s.rules s.args_override_self f h) flags []) (step_fault s 1 (rest_met_by s waiting h w flags).0 (rest_met_by s waiting h w flags).1)

module _ (s : Shape) (h : Held) (w : Text) where
  option_turn : (k : Waiting) (name : Text) (v : Option Text) (found : Option Rule) → Reads w name v → arg_by_long s.rules name ≡ found → turn_fault s [] (standing k h) w ≡ option_fault_by s k h w v found
  unfolding clap_on_literals
  option_turn idle name v found r is = ap₂ (fault_by s idle h w) r.dashes r.long ∙ ap (option_fault_by s idle h w v) is
  option_turn (option n) name v found r is = ap₂ (fault_by s (option n) h w) r.dashes r.long ∙ ap (option_fault_by s (option n) h w v) is
  option_turn positional name v found r is = ap₂ (fault_by s positional h w) r.dashes r.long ∙ ap (option_fault_by s positional h w v) is

  rest_turn : IsRest w → turn_fault s [] (at h) w ≡ rest_fault_by s idle h w None
  unfolding clap_on_literals
  rest_turn r = ap₂ (fault_by s idle h w) r.dashes r.long ∙ ap (rest_fault_by s idle h w) r.short

  rest_turn_early : (n : Text) → IsRest w → turn_fault s [] (awaiting n h) w ≡ rest_fault_by s (option n) h w None
  unfolding clap_on_literals
  rest_turn_early n r = ap₂ (fault_by s (option n) h w) r.dashes r.long ∙ ap (rest_fault_by s (option n) h w) r.short

  option_next : (name : Text) (v : Option Text) (found : Option Rule) → Reads w name v → arg_by_long s.rules name ≡ found →
      walked s.rules [] (at h) w ≡ after_step s.rules w (at h) (option_met_by s idle h w v found).0 (option_met_by s idle h w v found).1
  unfolding clap_on_literals
  option_next name v found r is =
      ap₂ (λ b l. after_step s.rules w (at h) (met_by s idle h w b l).0 (met_by s idle h w b l).1) r.dashes r.long
      ∙ ap (λ f. after_step s.rules w (at h) (option_met_by s idle h w v f).0 (option_met_by s idle h w v f).1) is

  rest_next_early : (n : Text) → IsRest w → walked s.rules [] (awaiting n h) w ≡ after_step s.rules w (awaiting n h) (rest_met_by s (option n) h w None).0 (rest_met_by s (option n) h w None).1
  unfolding clap_on_literals
  rest_next_early n r =
      ap₂ (λ b l. after_step s.rules w (awaiting n h) (met_by s (option n) h w b l).0 (met_by s (option n) h w b l).1) r.dashes r.long
      ∙ ap (λ f. after_step s.rules w (awaiting n h) (rest_met_by s (option n) h w f).0 (rest_met_by s (option n) h w f).1) r.short

-- ---- what is held

-- what waits is settled to these rows, with no fault
pub record Settles (options : List Argument) (h : Held) (rows : List Row) : Type 0 where
  pub to : settled (rules_for options) h ≡ held rows
  pub no_fault : settle_fault (rules_for options) false h ≡ []

pub rows_settle : (options : List Argument) (rows : List Row) → Settles options (held rows) rows
rows_settle options rows = record { to = refl; no_fault = refl }

-- the faults of a use, by whether the option has a row
abbrev pub use_by : Bool → Kinds
use_by again = or_else (cond (again && not false) (kind.ArgumentConflict ∷ []) []) []

use_new : (name v : Text) (rows : List Row) → has_row name rows ≡ false → use_fault false (rule_for (valued name)) (v ∷ []) rows ≡ []
use_new name v rows is = ap use_by is

use_again : (name v : Text) (rows : List Row) → has_row name rows ≡ true → use_fault false (rule_for (valued name)) (v ∷ []) rows ≡ kind.ArgumentConflict ∷ []
use_again name v rows is = ap use_by is

-- the faults of settling a use, by its rule
abbrev pub settle_by : List Text → List Row → Option Rule → Kinds
settle_by values rows found = option_map_or (λ a. use_fault false a values rows) found []

module _ (options : List Argument) (name : Text) where
  -- the rule of the option of this name
  pub long_is : (o : Option Argument) → option_named options name ≡ o → arg_by_long (rules_for options) name ≡ option_map rule_for o
  long_is o is = long_named options name ∙ ap (option_map rule_for) is

  id_is : (o : Option Argument) → option_named options name ≡ o → arg_by_id (rules_for options) name ≡ option_map rule_for o
  id_is o is = id_named options name ∙ ap (option_map rule_for) is

  module _ (rows : List Row) (found : option_named options name ≡ Some (valued name)) where
    pub value_settles : (v : Text) → has_row name rows ≡ false → Settles options (with_value rows name v) (rows ++ row_for (apart_from name v) ∷ [])
    value_settles v new = record {
      to = ap (λ o. held (used_by_id o (v ∷ []) rows)) (id_is (Some (valued name)) found) ∙ ap held (used_new (apart_from name v) rows new);
      no_fault = ap (settle_by (v ∷ []) rows) (id_is (Some (valued name)) found) ∙ use_new name v rows new;
    }

    -- an option that has a row does not settle again
    pub value_again : (v : Text) → has_row name rows ≡ true → settle_fault (rules_for options) false (with_value rows name v) ≡ kind.ArgumentConflict ∷ []
    value_again v again = ap (settle_by (v ∷ []) rows) (id_is (Some (valued name)) found) ∙ use_again name v rows again

    -- nor does one without a value
    pub no_value : settle_fault (rules_for options) false (pending rows name) ≡ kind.InvalidValue ∷ []
    no_value = ap (settle_by [] rows) (id_is (Some (valued name)) found)

-- ---- words behind a command

module _ (command : Text) (options : List Argument) where
  -- an option that the command has not is refused
  pub unknown : (k : Waiting) (h : Held) (w name : Text) (v : Option Text) → Reads w name v → option_named options name ≡ None →
      turn_fault (leaf_of command options) [] (standing k h) w ≡ kind.UnknownArgument ∷ []
  unknown k h w name v r none = option_turn (leaf_of command options) h w k name v None r (long_is options name None none)

  -- a word that is no option and no value is refused
  pub stray : (h : Held) (w : Text) → IsRest w → turn_fault (leaf_of command options) [] (at h) w ≡ kind.UnknownArgument ∷ []
  stray h w r =
      rest_turn (leaf_of command options) h w r
      ∙ ap (λ o. option_map_or (λ a. positional_fault (rules_for options) false a h) o (stray_fault (leaf_of command options))) (no_position options 1)

  -- a flag takes no value
  pub flag_joined : (k : Waiting) (h : Held) (w name n v : Text) → Reads w name (Some v) → option_named options name ≡ Some (flag n) →
      turn_fault (leaf_of command options) [] (standing k h) w ≡ kind.TooManyValues ∷ []
  flag_joined k h w name n v r found = option_turn (leaf_of command options) h w k name (Some v) (Some (rule_for (flag n))) r (long_is options name (Some (flag n)) found)

  -- a word is refused
  abbrev pub IsRefused : Waiting → Held → Text → Type 0
  IsRefused k h w = (x : ErrorKind) × (turn_fault (leaf_of command options) [] (standing k h) w ≡ x ∷ [])

  -- what waits does not settle: no option may follow
  module _ (k : Waiting) (h : Held) (x : ErrorKind) (bad : settle_fault (rules_for options) false h ≡ x ∷ []) (w name : Text) where
    stuck_by : (v : Option Text) → Reads w name v → (n : Text) (f : Bool) → option_named options name ≡ Some (record { name = n; is_flag = f }) → IsRefused k h w
    stuck_by None r n false found =
        (x, option_turn (leaf_of command options) h w k name None (Some (rule_for (valued n))) r (long_is options name (Some (valued n)) found) ∙ ap (λ f. or_else f []) bad)
    stuck_by (Some v) r n false found = (
      x,
      option_turn (leaf_of command options) h w k name (Some v) (Some (rule_for (valued n))) r (long_is options name (Some (valued n)) found)
          ∙ ap (λ f. or_else (or_else f (use_fault false (rule_for (valued n)) (v ∷ []) (settled (rules_for options) h).rows)) []) bad,
    )
    stuck_by None r n true found = (
      x,
      option_turn (leaf_of command options) h w k name None (Some (rule_for (flag n))) r (long_is options name (Some (flag n)) found)
          ∙ ap (λ f. or_else (or_else f (use_fault false (rule_for (flag n)) [] (settled (rules_for options) h).rows)) []) bad,
    )
    stuck_by (Some v) r n true found = (kind.TooManyValues, flag_joined k h w name n v r found)

    pub stuck : (v : Option Text) → Reads w name v → (o : Option Argument) → option_named options name ≡ o → IsRefused k h w
    stuck v r None found = (kind.UnknownArgument, unknown k h w name v r found)
    stuck v r (Some a) found = stuck_by v r a.name a.is_flag found

  module _ (h : Held) (rows : List Row) (st : Settles options h rows) (w name : Text) where
    -- the faults of an option with its value
    joined_use : (v : Text) → Reads w name (Some v) → option_named options name ≡ Some (valued name) →
        turn_fault (leaf_of command options) [] (at h) w ≡ or_else (use_fault false (rule_for (valued name)) (v ∷ []) rows) []
    joined_use v r found =
        option_turn (leaf_of command options) h w idle name (Some v) (Some (rule_for (valued name))) r (long_is options name (Some (valued name)) found)
        ∙ ap (λ f. or_else (or_else f (use_fault false (rule_for (valued name)) (v ∷ []) (settled (rules_for options) h).rows)) []) st.no_fault
        ∙ ap (λ (k : Held). or_else (use_fault false (rule_for (valued name)) (v ∷ []) k.rows) []) st.to

    pub joined_turn : (v : Text) → Reads w name (Some v) → option_named options name ≡ Some (valued name) → has_row name rows ≡ false → turn_fault (leaf_of command options) [] (at h) w ≡ []
    joined_turn v r found new = joined_use v r found ∙ ap (λ f. or_else f []) (use_new name v rows new)

    pub joined_again : (v : Text) → Reads w name (Some v) → option_named options name ≡ Some (valued name) → has_row name rows ≡ true →
        turn_fault (leaf_of command options) [] (at h) w ≡ kind.ArgumentConflict ∷ []
    joined_again v r found again = joined_use v r found ∙ ap (λ f. or_else f []) (use_again name v rows again)

    pub joined_next : (v : Text) → Reads w name (Some v) → option_named options name ≡ Some (valued name) → has_row name rows ≡ false →
        walked (rules_for options) [] (at h) w ≡ at (held (rows ++ row_for (joined_to name v) ∷ []))
    joined_next v r found new =
        option_next (leaf_of command options) h w name (Some v) (Some (rule_for (valued name))) r (long_is options name (Some (valued name)) found)
        ∙ ap (λ (k : Held). at (record k { rows = used (rule_for (valued name)) (v ∷ []) k.rows; pending = None })) st.to
        ∙ ap (λ (l : List Row). at (held l)) (used_new (joined_to name v) rows new)

    -- an option whose value is to follow
    pub alone_turn : Reads w name None → option_named options name ≡ Some (valued name) → turn_fault (leaf_of command options) [] (at h) w ≡ []
    alone_turn r found =
        option_turn (leaf_of command options) h w idle name None (Some (rule_for (valued name))) r (long_is options name (Some (valued name)) found) ∙ ap (λ f. or_else f []) st.no_fault

    pub alone_next : Reads w name None → option_named options name ≡ Some (valued name) → walked (rules_for options) [] (at h) w ≡ awaiting name (pending rows name)
    alone_next r found =
        option_next (leaf_of command options) h w name None (Some (rule_for (valued name))) r (long_is options name (Some (valued name)) found)
        ∙ ap (λ (k : Held). awaiting name (record k { pending = Some (name, []) })) st.to

    -- a flag
    flag_use : Reads w name None → option_named options name ≡ Some (flag name) → turn_fault (leaf_of command options) [] (at h) w ≡ or_else (use_fault false (rule_for (flag name)) [] rows) []
    flag_use r found =
        option_turn (leaf_of command options) h w idle name None (Some (rule_for (flag name))) r (long_is options name (Some (flag name)) found)
        ∙ ap (λ f. or_else (or_else f (use_fault false (rule_for (flag name)) [] (settled (rules_for options) h).rows)) []) st.no_fault
        ∙ ap (λ (k : Held). or_else (use_fault false (rule_for (flag name)) [] k.rows) []) st.to

    pub flag_turn : Reads w name None → option_named options name ≡ Some (flag name) → has_row name rows ≡ false → turn_fault (leaf_of command options) [] (at h) w ≡ []
    flag_turn r found new = flag_use r found ∙ ap (λ b. or_else (use_by b) []) new

    pub flag_again : Reads w name None → option_named options name ≡ Some (flag name) → has_row name rows ≡ true → turn_fault (leaf_of command options) [] (at h) w ≡ kind.ArgumentConflict ∷ []
    flag_again r found again = flag_use r found ∙ ap (λ b. or_else (use_by b) []) again

    pub flag_next : Reads w name None → option_named options name ≡ Some (flag name) → has_row name rows ≡ false → walked (rules_for options) [] (at h) w ≡ at (held (rows ++ row_for (raised name) ∷ []))
    flag_next r found new =
        option_next (leaf_of command options) h w name None (Some (rule_for (flag name))) r (long_is options name (Some (flag name)) found)
        ∙ ap (λ (k : Held). at (record k { rows = used (rule_for (flag name)) [] k.rows; pending = None })) st.to
        ∙ ap (λ (l : List Row). at (held l)) (used_new (raised name) rows new)

  -- the value that was awaited
  pub value_turn : (rows : List Row) (n w : Text) → IsRest w → turn_fault (leaf_of command options) [] (awaiting n (pending rows n)) w ≡ []
  value_turn rows n w r = rest_turn_early (leaf_of command options) (pending rows n) w n r

  pub value_next : (rows : List Row) (name v : Text) → IsRest v → option_named options name ≡ Some (valued name) →
      walked (rules_for options) [] (awaiting name (pending rows name)) v ≡ at (with_value rows name v)
  value_next rows name v r found =
      rest_next_early (leaf_of command options) (pending rows name) v name r
      ∙ ap (λ o. record (awaiting name (option_word o name v (pending rows name)).0) { waiting = (option_word o name v (pending rows name)).1 }) (id_is options name (Some (valued name)) found)
      ∙ ap (λ (b : Bool). record (at (with_value rows name v)) { waiting = cond (nat_lt (cond b 1 0) 1) (option name) idle }) (same_text name)
