-- The rules of a command's options: each is found by its name, and no other is.
use Rattle.std.proofs.Common.{◌≡◌, ℕ, ◌||◌, Bool, true, false, List, [], ◌∷◌, map, Option, Some, None, refl, sym, ap, subst, ◌∙◌}
use Rattle.std.specs.Prelude.{cond, not, ◌&&◌}
use Rattle.std.specs.List.{All, fold, list_any}
use Rattle.std.specs.Option.{option_map}
use Rattle.std.specs.Str.{bytes_eq}
use Rattle.std.proofs.lemmas.Bool.{false≢true}
use Rattle.std.proofs.lemmas.List.Elements.{All-head, All-tail}
use Rattle.std.proofs.lemmas.Option.{same_Some}
use Rattle.std.proofs.lemmas.Slice.Eq.{bytes_eq-Decides}
use Rattle.clap.specs.Words.{Row, Rule, Text}
use Rattle.clap.specs.Walk.{arg_by_id, arg_by_index, arg_by_long, has_row, with_default}
use Rattle.clap.specs.Simple.{filled, filled_from, with_index}
use Rattle.clap.specs.Faults.{defaults_fault}
use Rattle.clap.specs.Takes.{is_given}
use Rattle.clap.proofs.OnLiterals.{clap_on_literals}
use Rattle.node_commands.specs.Table.{option_rule}
use Rattle.node_commands.specs.Words.{Argument, flag, option_named, valued}

-- the rule of an option, and the rules of a command's, once the command is built
abbrev pub rule_for : Argument → Rule
rule_for a = with_index 1 (filled (option_rule a))

abbrev pub rules_for : List Argument → List Rule
rules_for options = filled_from 1 (map option_rule options)

-- a text is itself
pub same_text : (t : Text) → bytes_eq t t ≡ true
same_text t = (bytes_eq-Decides t t).1 refl

-- another text is not
pub other_text : (a b : Text) → (a ≡ b → ⊥) → bytes_eq a b ≡ false
other_text a b other = by (bytes_eq a b) refl
  where
    by : (r : Bool) → bytes_eq a b ≡ r → r ≡ false
    by true is = absurd (other ((bytes_eq-Decides a b).0 is))
    by false is = refl

-- texts that are told apart are two
pub two_texts : (a b : Text) → bytes_eq a b ≡ false → a ≡ b → ⊥
two_texts a b apart same = false≢true (sym apart ∙ (bytes_eq-Decides a b).1 same)

-- ---- rules by name

or_false : (b : Bool) → (b || false) ≡ b
or_false true = refl
or_false false = refl

-- what is found among rules, by whether the first is it
abbrev by_first : Bool → Argument → Option Rule → Option Rule
by_first is a rest = cond is (Some (rule_for a)) rest

-- the same of options, as their rules
abbrev first_named : Bool → Argument → List Argument → Text → Option Rule
first_named is a options name = option_map rule_for (cond is (Some a) (option_named options name))

rule_of_first : (b : Bool) (a : Argument) (options : List Argument) (name : Text) → by_first b a (option_map rule_for (option_named options name)) ≡ first_named b a options name
rule_of_first true a options name = refl
rule_of_first false a options name = refl

-- an option, by its name and whether it is a flag
abbrev arg : Text → Bool → Argument
arg name is_flag = record { name = name; is_flag = is_flag }

long_first : (o : Text) (f : Bool) (os : List Argument) (name : Text) → arg_by_long (rules_for (arg o f ∷ os)) name ≡ by_first (bytes_eq o name) (arg o f) (arg_by_long (rules_for os) name)
long_first o true os name = ap (λ b. by_first b (flag o) (arg_by_long (rules_for os) name)) (or_false (bytes_eq o name))
long_first o false os name = ap (λ b. by_first b (valued o) (arg_by_long (rules_for os) name)) (or_false (bytes_eq o name))

id_first : (o : Text) (f : Bool) (os : List Argument) (name : Text) → arg_by_id (rules_for (arg o f ∷ os)) name ≡ by_first (bytes_eq o name) (arg o f) (arg_by_id (rules_for os) name)
id_first o true os name = refl
id_first o false os name = refl

-- the rule of an option's name is that of the option
pub long_named : (options : List Argument) (name : Text) → arg_by_long (rules_for options) name ≡ option_map rule_for (option_named options name)
long_named [] name = refl
long_named (a ∷ os) name = long_first a.name a.is_flag os name ∙ ap (by_first (bytes_eq a.name name) a) (long_named os name) ∙ rule_of_first (bytes_eq a.name name) a os name

pub id_named : (options : List Argument) (name : Text) → arg_by_id (rules_for options) name ≡ option_map rule_for (option_named options name)
id_named [] name = refl
id_named (a ∷ os) name = id_first a.name a.is_flag os name ∙ ap (by_first (bytes_eq a.name name) a) (id_named os name) ∙ rule_of_first (bytes_eq a.name name) a os name

-- an option that is found by a name has this name
first_has_name : (a : Argument) (options : List Argument) (name : Text) (found : Argument) (b : Bool) → bytes_eq a.name name ≡ b → (option_named options name ≡ Some found → found.name ≡ name) →
    option_named (a ∷ options) name ≡ Some found → found.name ≡ name
first_has_name a options name found true is rest e =
    ap (λ (x : Argument). x.name) (same_Some found a (sym e ∙ ap (λ b. cond b (Some a) (option_named options name)) is)) ∙ (bytes_eq-Decides a.name name).0 is
first_has_name a options name found false is rest e = rest (sym (ap (λ b. cond b (Some a) (option_named options name)) is) ∙ e)

none_named : (found : Argument) → ◌≡◌ {A = Option Argument} None (Some found) → ⊥
none_named found e = absurd cc

pub has_name : (options : List Argument) (name : Text) (found : Argument) → option_named options name ≡ Some found → found.name ≡ name
has_name [] name found e = absurd (none_named found e)
has_name (a ∷ options) name found e = first_has_name a options name found (bytes_eq a.name name) refl (has_name options name found) e

-- what holds of each option holds of one that is found
first_holds : (P : Argument → Type 0) (a : Argument) (options : List Argument) (name : Text) (found : Argument) (b : Bool) → bytes_eq a.name name ≡ b → P a → (option_named options name ≡ Some found → P found) →
    option_named (a ∷ options) name ≡ Some found → P found
first_holds P a options name found true is this rest e = subst P (same_Some a found (sym (ap (λ b. cond b (Some a) (option_named options name)) is) ∙ e)) this
first_holds P a options name found false is this rest e = rest (sym (ap (λ b. cond b (Some a) (option_named options name)) is) ∙ e)

pub holds_of_named : (P : Argument → Type 0) (options : List Argument) (name : Text) (found : Argument) → All P options → option_named options name ≡ Some found → P found
holds_of_named P [] name found all e = absurd (none_named found e)
holds_of_named P (a ∷ options) name found all e =
    first_holds P a options name found (bytes_eq a.name name) refl (All-head P a options all) (holds_of_named P options name found (All-tail P a options all)) e

-- ---- what no option is

-- none stands at a position
position_first : (o : Text) (f : Bool) (os : List Argument) (i : ℕ) → arg_by_index (rules_for (arg o f ∷ os)) i ≡ arg_by_index (rules_for os) i
position_first o true os i = refl
position_first o false os i = refl

pub no_position : (options : List Argument) (i : ℕ) → arg_by_index (rules_for options) i ≡ None
no_position [] i = refl
no_position (a ∷ os) i = position_first a.name a.is_flag os i ∙ no_position os i

-- none has a default
defaults_first : (o : Text) (f : Bool) (os : List Argument) (rows : List Row) (b : Bool) → has_row o rows ≡ b → defaults_fault rows (rules_for os) ≡ [] → defaults_fault rows (rules_for (arg o f ∷ os)) ≡ []
unfolding clap_on_literals
defaults_first o true os rows true is rest = rw is rest
defaults_first o true os rows false is rest = rw is rest
defaults_first o false os rows true is rest = rw is rest
defaults_first o false os rows false is rest = rw is rest

pub no_defaults : (options : List Argument) (rows : List Row) → defaults_fault rows (rules_for options) ≡ []
unfolding clap_on_literals
no_defaults [] rows = refl
no_defaults (a ∷ os) rows = defaults_first a.name a.is_flag os rows (has_row a.name rows) refl (no_defaults os rows)

either_way : (b : Bool) (rows : List Row) → cond b rows rows ≡ rows
either_way true rows = refl
either_way false rows = refl

keeps_first : (o : Text) (f : Bool) (rows : List Row) → with_default rows (rule_for (arg o f)) ≡ rows
keeps_first o true rows = either_way (has_row o rows) rows
keeps_first o false rows = either_way (has_row o rows) rows

rules_first : (o : Text) (f : Bool) (os : List Argument) → ◌≡◌ {A = List Rule} (rules_for (arg o f ∷ os)) (rule_for (arg o f) ∷ rules_for os)
rules_first o true os = refl
rules_first o false os = refl

pub keeps_rows : (options : List Argument) (rows : List Row) → fold with_default rows (rules_for options) ≡ rows
keeps_rows [] rows = refl
keeps_rows (a ∷ os) rows =
    ap (fold with_default rows) (rules_first a.name a.is_flag os) ∙ ap (λ (l : List Row). fold with_default l (rules_for os)) (keeps_first a.name a.is_flag rows) ∙ keeps_rows os rows

-- none has to be given
required_first : (o : Text) (f : Bool) (os : List Argument) (rows : List Row) → list_any (λ a. a.required && not (is_given a.id rows)) (rules_for os) ≡ false → list_any (λ a. a.required && not (is_given a.id rows)) (rules_for (arg o f ∷ os)) ≡ false
required_first o true os rows rest = rest
required_first o false os rows rest = rest

pub none_required : (options : List Argument) (rows : List Row) → list_any (λ a. a.required && not (is_given a.id rows)) (rules_for options) ≡ false
none_required [] rows = refl
none_required (a ∷ os) rows = required_first a.name a.is_flag os rows (none_required os rows)
