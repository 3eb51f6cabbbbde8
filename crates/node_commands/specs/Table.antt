-- The commands and their options, as `clap` sees them.
use Rattle.std.specs.Prelude.{◌≡◌, List, [], ◌∷◌, ◌++◌, map, fold, if◌then◌else◌, Contains, MatchOption, codes, true, false, Option, Some, None}
use Rattle.node_commands.specs.declared.words.wanted.Wanted.{Wanted}
use Rattle.node_commands.specs.declared.words.table.Argument.{Argument as Declared}
use Rattle.node_commands.specs.declared.words.table.Argument.TheVariants as declared
use Rattle.node_commands.specs.declared.words.table.Entry.{Entry}
use Rattle.node_commands.specs.Words.{Argument, Asked, Command, Gives, IsValue, Running, Checking, Relaying, Minting, Serving, RelayServing, Auditing, Carrying, Giving, drill_names, flag, named, options_of, task_for, task_of, valued, AuditingBytes, Replaying}
use Rattle.clap.specs.Words.{App, Rule, Text, app_of, first_of, found_of, rows_of, new_app, new_rule, with_subcommand}
use Rattle.clap.specs.declared.builder.command.Command.TheViews.{out-Command}
use Rattle.clap.specs.Simple.{on_top}
use Rattle.clap.specs.declared.builder.command.Command.{Command as Built}
use Rattle.clap.specs.declared.parser.matches.ArgMatches.{ArgMatches}
use Rattle.clap.specs.declared.builder.action.ArgAction.TheVariants.{Set}

-- an option of the program
abbrev pub argument_of : Declared → Argument
argument_of (declared.Valued name) = valued name.now
argument_of (declared.Flag name) = flag name.now

-- a command of the program, by its name and options
abbrev pub entry_of : Entry → Text × List Argument
entry_of e = (e.name.now, map argument_of e.options.now)

-- an option with one value
abbrev pub value_rule : Text → Rule
value_rule name = record (new_rule name) { long = Some name; action = Some Set }

-- A flag: an option that takes no value, and has an empty one where it is given. It is not one of the
-- action `SetTrue`, which has a value where it is not.
abbrev pub flag_rule : Text → Rule
flag_rule name = record (value_rule name) {
  range = Some (record { start_inclusive = 0; end_inclusive = 0 });
  missing = [] ∷ [];
}

-- an option
abbrev pub option_rule : Argument → Rule
option_rule a = if a.is_flag then flag_rule a.name else value_rule a.name

-- a word without an option's name, by its place
abbrev pub word_rule : Text → Rule
word_rule name = record (new_rule name) { action = Some Set }

-- a command that takes by these rules, and has no help of its own
abbrev pub ruled_app : Text → List Rule → App
ruled_app name rules = on_top (λ s. record s { disable_help_flag = true; rules = rules }) (new_app name)

-- a command that has these options
abbrev pub command_app : Text → List Argument → App
command_app name options = ruled_app name (map option_rule options)

-- the words stand behind the program's own, and one of them is a command
abbrev pub base_app : App
base_app =
    on_top (λ s. record s {
      disable_help_subcommand = true;
      no_binary_name = true;
      subcommand_required = true;
    })
    (command_app (codes "taos") [])

-- the command that has no options
abbrev pub drill_app : App
drill_app = ruled_app (codes "drill") (map word_rule drill_names)

-- the commands that have options
abbrev pub with_options : List Command
with_options =
    Running ∷ Checking ∷ Relaying ∷ Minting ∷ Serving ∷ RelayServing ∷ Auditing
    ∷ Carrying ∷ Giving ∷ AuditingBytes ∷ Replaying ∷ []

-- commands with options
abbrev pub table_of : List (Text × List Argument) → App
table_of entries =
    fold (λ (a : App) (e : Text × List Argument). with_subcommand a (command_app e.0 e.1).top) base_app
    entries

-- all commands
abbrev pub taos_app : App
taos_app =
    with_subcommand (table_of (map (λ (c : Command). (named c, options_of c)) with_options))
    drill_app.top

-- a command of this form, with no global argument
abbrev pub IsMade : App → Built → Type 0
IsMade app c = (app_of c ≡ app) × ((out-Command c).has_globals ≡ false)

-- all options of the table
abbrev pub all_options : List Text
all_options =
    codes "connections" ∷ codes "frames" ∷ codes "issuer" ∷ codes "serial" ∷ codes "from"
    ∷ codes "until" ∷ codes "quoted" ∷ codes "left" ∷ codes "right" ∷ codes "node" ∷ codes "route"
    ∷ codes "lemmas" ∷ codes "pull" ∷ []

-- the word is the option of this name, in one of its ways: `--name`, or `--name=value`
pub data IsOption (word name : Text) : Type 0 where
  alone : word ≡ codes "--" ++ name → IsOption word name
  joined : (value : Text) → word ≡ codes "--" ++ name ++ codes "=" ++ value → IsValue value →
      IsOption word name

-- the word is one of these options
abbrev pub IsOptionOf : List Text → Text → Type 0
IsOptionOf options word = (name : Text) × Contains options name × IsOption word name

-- the word may be a value, or is an option of the table
pub data IsOfTable (word : Text) : Type 0 where
  plain : IsValue word → IsOfTable word
  option : (name : Text) → Contains all_options name → IsOption word name → IsOfTable word

-- the texts that were found
abbrev pub texts_of : ArgMatches → Text → Option Text
texts_of found name = first_of name (rows_of (found_of found))

-- what the program has of what was read is what is meant, and nothing is read where nothing is
abbrev pub IsReadBy : {X Y : Type 0} → (Y → X) → (X → Type 0) → Option Y → Type 0
IsReadBy {X} has means read = MatchOption read ((x : X) → means x → ⊥) (λ y. means (has y))

-- what is read of a text is what it means, and nothing is read where it means nothing
abbrev pub IsReadOf : {X : Type 0} → (X → Type 0) → Option X → Type 0
IsReadOf means read = IsReadBy (λ x. x) means read

-- what is read of the texts behind a command is what it is asked for
abbrev pub IsReadAs : (c : Command) → (Text → Option Text) → Option Wanted → Type 0
IsReadAs c text_of (Some wanted) =
    (asked : Asked c) × (task_of wanted ≡ task_for c asked) × Gives c text_of asked
IsReadAs c text_of None = (asked : Asked c) → Gives c text_of asked → ⊥
