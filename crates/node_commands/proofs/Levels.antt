-- Which lines `clap` takes: a command of the table, and behind it its options.
use Rattle.std.proofs.Common.{◌≡◌, suc, slice_index_or, ◌||◌, Bool, true, false, List, [], ◌∷◌, ◌++◌, map, Option, Some, None, is_some, refl, sym, ap, ap₂, subst, ◌∙◌, codes, arith}
use Rattle.std.specs.Prelude.{Contains, cond, find, not, ◌&&◌}
use Rattle.std.specs.List.{All, flat_map, fold, list_all, list_any}
use Rattle.std.specs.Option.{option_map, option_map_or}
use Rattle.std.specs.Str.{bytes_eq}
use Rattle.std.proofs.lemmas.List.Elements.{All-nil, All-head, All-tail, All-cons}
use Rattle.std.proofs.lemmas.Bool.{false≢true}
use Rattle.std.proofs.lemmas.List.Sums.{AllPass-from_list_all}
use Rattle.std.proofs.lemmas.Slice.Eq.{bytes_eq-Decides}
use Rattle.clap.specs.Words.{App, Kinds, Row, Shape, Text, built, fault_of, subcommand_of}
use Rattle.clap.specs.Kinds.{or_else}
use Rattle.clap.specs.Walk.{Walk, after_step, answers_to, finished, idle, nothing_held, settled, subcommand_met, subcommand_or_other, walk, walk_from, walked}
use Rattle.clap.specs.Simple.{entered, label_of, names_of, rows_at}
use Rattle.clap.specs.Faults.{check_fault, defaults_fault, entered_fault, level_fault, other_fault, settle_fault, step_fault, turn_fault, walk_fault}
use Rattle.clap.specs.declared.error.kind.ErrorKind.{ErrorKind}
use Rattle.clap.specs.declared.error.kind.ErrorKind.TheVariants as kind
use Rattle.clap.proofs.OnLiterals.{clap_on_literals}
use Rattle.clap.proofs.FaultLemmas.{stopped_fault}
use Rattle.clap.proofs.WalkLemmas.{walk_stopped}
use Rattle.node_commands.specs.Table.{IsOfTable, all_options, taos_app, with_options, plain, option, alone, joined}
use Rattle.node_commands.specs.Words.{Argument, Asked, Asks, Command, Given, HasValue, IsValue, TextsMean, Way, Joined, Apart, Alone, Running, Checking, Relaying, Minting, Serving, RelayServing, Auditing, Drilling, Carrying, Giving, argument_in, named, option_named, options_of, task_for, words_for, words_of, AuditingBytes, Replaying}
use Rattle.node_commands.proofs.Options.{has_name, holds_of_named}
use Rattle.node_commands.proofs.Drilled.{AreFew, three_words, drill_leaf, drill_pass, drill_split, few_rows, rows_of_words}
use Rattle.node_commands.proofs.Rows.{AreNew, rows_for}
use Rattle.node_commands.proofs.Walks.{Reads, fault_by, is_rest, leaf_of, rest_fault_by}
use Rattle.node_commands.proofs.Lines.{given_pass, given_rows, read_alone, read_joined, words_split}

-- the table's commands, once they are built
abbrev pub whole : App
whole = built taos_app

-- ---- the commands of the table

-- the command is met by its name, and found by it
pub record IsMet (name : Text) (leaf : Shape) : Type 0 where
  pub met : ◌≡◌ {A = Option Text} (subcommand_met (names_of whole) idle name) (Some name)
  pub found : ◌≡◌ {A = Option Shape} (find (λ s. answers_to name (label_of s)) whole.subs) (Some leaf)
  pub no_help : bytes_eq name (codes "help") ≡ false
  pub word : IsValue name

-- the name is one of the table's options
abbrev is_listed : Text → Bool
is_listed name = list_any (λ option. bytes_eq option name) all_options

-- a command that has options: each is of the table, and the words behind it mean what they give
pub record TakesOptions (c : Command) : Type 0 where
  pub is : IsMet (named c) (leaf_of (named c) (options_of c))
  pub listed : list_all (λ a. is_listed a.name) (options_of c) ≡ true
  pub asks : (words : List Text) (x : Asked c) → TextsMean words (task_for c x) → Asks c words x
  pub means : (words : List Text) (x : Asked c) → Asks c words x → TextsMean words (task_for c x)

-- the command that has words in place of options
pub drill_met : IsMet (codes "drill") drill_leaf
drill_met = record { met = refl; found = refl; no_help = refl; word = λ e. omega (arith, e) }

pub data IsKind (c : Command) : Type 0 where
  by_options : TakesOptions c → IsKind c
  by_words : c ≡ Drilling → IsKind c

pub kind_for : (c : Command) → IsKind c
kind_for Running = by_options (record { is = record { met = refl; found = refl; no_help = refl; word = λ e. omega (arith, e) }; listed = refl; asks = λ words x is. is; means = λ words x is. is })
kind_for Checking = by_options (record { is = record { met = refl; found = refl; no_help = refl; word = λ e. omega (arith, e) }; listed = refl; asks = λ words x is. is; means = λ words x is. is })
kind_for Relaying = by_options (record { is = record { met = refl; found = refl; no_help = refl; word = λ e. omega (arith, e) }; listed = refl; asks = λ words x is. is; means = λ words x is. is })
kind_for Minting = by_options (record { is = record { met = refl; found = refl; no_help = refl; word = λ e. omega (arith, e) }; listed = refl; asks = λ words x is. is; means = λ words x is. is })
kind_for Serving = by_options (record { is = record { met = refl; found = refl; no_help = refl; word = λ e. omega (arith, e) }; listed = refl; asks = λ words x is. is; means = λ words x is. is })
kind_for RelayServing = by_options (record { is = record { met = refl; found = refl; no_help = refl; word = λ e. omega (arith, e) }; listed = refl; asks = λ words x is. is; means = λ words x is. is })
kind_for Auditing = by_options (record { is = record { met = refl; found = refl; no_help = refl; word = λ e. omega (arith, e) }; listed = refl; asks = λ words x is. is; means = λ words x is. is })
kind_for Drilling = by_words refl
kind_for Carrying = by_options (record { is = record { met = refl; found = refl; no_help = refl; word = λ e. omega (arith, e) }; listed = refl; asks = λ words x is. is; means = λ words x is. is })
kind_for Giving = by_options (record { is = record { met = refl; found = refl; no_help = refl; word = λ e. omega (arith, e) }; listed = refl; asks = λ words x is. is; means = λ words x is. is })
kind_for AuditingBytes = by_options (record { is = record { met = refl; found = refl; no_help = refl; word = λ e. omega (arith, e) }; listed = refl; asks = λ words x is. is; means = λ words x is. is })
kind_for Replaying = by_options (record { is = record { met = refl; found = refl; no_help = refl; word = λ e. omega (arith, e) }; listed = refl; asks = λ words x is. is; means = λ words x is. is })

listed_first : (o name : Text) (os : List Text) (b : Bool) → bytes_eq o name ≡ b → (list_any (λ option. bytes_eq option name) os ≡ true → Contains os name) → list_any (λ option. bytes_eq option name) (o ∷ os) ≡ true → Contains (o ∷ os) name
listed_first o name os true same rest is = (0, omega arith, (bytes_eq-Decides o name).0 same)
listed_first o name os false other rest is =
    let there = rest (sym (ap (λ b. b || list_any (λ option. bytes_eq option name) os) other) ∙ is) in
    (suc there.0, omega (arith, there.1), there.2)

listed_there : (name : Text) (options : List Text) → list_any (λ option. bytes_eq option name) options ≡ true → Contains options name
listed_there name [] is = absurd (false≢true is)
listed_there name (o ∷ os) is = listed_first o name os (bytes_eq o name) refl (listed_there name os) is

-- an option of a command is one of the table
within : (c : Command) → TakesOptions c → (name : Text) (a : Argument) → option_named (options_of c) name ≡ Some a → Contains all_options name
within c t name a has =
    let all : All (λ (x : Argument). Contains all_options x.name) (options_of c) =
    λ k d lt. listed_there (slice_index_or (options_of c) k d).name all_options (AllPass-from_list_all (λ (x : Argument). is_listed x.name) (options_of c) t.listed k d lt) in
    subst (Contains all_options) (has_name (options_of c) name a has) (holds_of_named (λ (x : Argument). Contains all_options x.name) (options_of c) name a all has)

-- all commands, as the table has them
abbrev commands : List Command
commands = with_options ++ Drilling ∷ []

-- ---- a line that begins with a command

abbrev stopped_at : Text → List Text → Walk
stopped_at name ws = record (walk_from nothing_held) { stopped = Some (name, ws) }

-- the faults of a line, by the walk over its words and the faults of that
abbrev by_walk : Walk → Kinds → Kinds
by_walk end fault =
    or_else fault (or_else (entered_fault whole end.stopped)
    (or_else (settle_fault whole.top.rules whole.top.args_override_self end.held)
    (or_else (defaults_fault (settled whole.top.rules end.held).rows whole.top.rules)
    (check_fault whole.top (finished whole.top.rules end.held) (is_some (entered whole end.stopped))))))

-- the faults of a command's words, by its shape
abbrev leaf_fault : Shape → List Text → Kinds
leaf_fault s ws = level_fault s [] nothing_held ws false []

abbrev by_found : List Text → Option Shape → Kinds
by_found ws found =
    or_else (option_map_or (λ s. leaf_fault s ws) found [])
    (or_else (defaults_fault (settled whole.top.rules nothing_held).rows whole.top.rules)
    (check_fault whole.top (finished whole.top.rules nothing_held) (is_some (option_map (λ s. rows_at s ws) found))))

module _ (name : Text) (leaf : Shape) (e : IsMet name leaf) (ws : List Text) where
  first_walk : walked whole.top.rules (names_of whole) (walk_from nothing_held) name ≡ stopped_at name []
  unfolding clap_on_literals
  first_walk = ap (λ m. after_step whole.top.rules name (walk_from nothing_held) (subcommand_or_other whole.top.rules m idle 1 name nothing_held).0 (subcommand_or_other whole.top.rules m idle 1 name nothing_held).1) e.met

  command_walk : walk whole.top.rules (names_of whole) nothing_held (name ∷ ws) ≡ stopped_at name ws
  command_walk = ap (λ k. fold (walked whole.top.rules (names_of whole)) k ws) first_walk ∙ sym (walk_stopped whole.top.rules (names_of whole) (walk_from nothing_held) name [] ws)

  abbrev turn_by : Option Text → Kinds
  turn_by m =
      or_else (other_fault whole.top m name nothing_held) (step_fault whole.top 1 (subcommand_or_other whole.top.rules m idle 1 name nothing_held).0 (subcommand_or_other whole.top.rules m idle 1 name nothing_held).1)

  first_turn : turn_fault whole.top (names_of whole) (walk_from nothing_held) name ≡ []
  unfolding clap_on_literals
  first_turn = ap turn_by e.met ∙ ap (λ b. or_else (cond (b && not whole.top.disable_help_subcommand) (kind.DisplayHelp ∷ kind.InvalidSubcommand ∷ []) []) []) e.no_help

  command_fault : walk_fault whole.top (names_of whole) (walk_from nothing_held) (name ∷ ws) ≡ []
  unfolding clap_on_literals
  command_fault =
      ap (λ f. or_else f (walk_fault whole.top (names_of whole) (walked whole.top.rules (names_of whole) (walk_from nothing_held) name) ws)) first_turn
      ∙ ap (λ k. walk_fault whole.top (names_of whole) k ws) first_walk
      ∙ stopped_fault whole.top (names_of whole) (walk_from nothing_held) (name, []) ws

  pub command_level : fault_of taos_app (name ∷ ws) ≡ or_else (leaf_fault leaf ws) []
  unfolding clap_on_literals
  command_level = ap₂ by_walk command_walk command_fault ∙ ap (by_found ws) e.found

  pub command_found : ◌≡◌ {A = Option (Text × List Row)} (subcommand_of taos_app (name ∷ ws)) (Some (rows_at leaf ws))
  unfolding clap_on_literals
  command_found = ap (λ (k : Walk). entered whole k.stopped) command_walk ∙ ap (option_map (λ s. rows_at s ws)) e.found

-- ---- lines that are taken

given_known : (name : Text) (way : Way) (ws : List Text) → Contains all_options name → HasValue way → All IsOfTable ws → All IsOfTable (words_for name way ++ ws)
given_known name (Joined value) ws has is rest = All-cons IsOfTable (codes "--" ++ name ++ codes "=" ++ value) ws (option name has (joined value refl is)) rest
given_known name (Apart value) ws has is rest = All-cons IsOfTable (codes "--" ++ name) (value ∷ ws) (option name has (alone refl)) (All-cons IsOfTable value ws (plain is) rest)
given_known name Alone ws has is rest = All-cons IsOfTable (codes "--" ++ name) ws (option name has (alone refl)) rest

all_given_known : (options : List Argument) (rows : List Row) (gs : List Given) → ((name : Text) (a : Argument) → option_named options name ≡ Some a → Contains all_options name) → AreNew options rows gs → All IsOfTable (flat_map words_of gs)
all_given_known options rows [] known new = All-nil IsOfTable
all_given_known options rows (g ∷ gs) known new = given_known g.name g.way (flat_map words_of gs) (known g.name (argument_in g) new.0) new.2 (all_given_known options _ gs known new.3)

-- what is found in a line that is taken
pub record IsTakenAs (words : List Text) (command : Text) (rows : List Row) : Type 0 where
  pub known : All IsOfTable words
  pub no_fault : fault_of taos_app words ≡ []
  pub found : ◌≡◌ {A = Option (Text × List Row)} (subcommand_of taos_app words) (Some (command, rows))

-- the same of one that has options
abbrev pub IsFound : List Text → Text → List Given → Type 0
IsFound words command given = IsTakenAs words command (rows_for given)

pub line_found : (c : Command) → TakesOptions c → (given : List Given) → AreNew (options_of c) [] given → IsFound (named c ∷ flat_map words_of given) (named c) given
line_found c t given new =
    let ws = flat_map words_of given in
    let leaf = leaf_of (named c) (options_of c) in
    record {
      known = All-cons IsOfTable (named c) ws (plain t.is.word) (all_given_known (options_of c) [] given (within c t) new);
      no_fault = command_level (named c) leaf t.is ws ∙ ap (λ f. or_else f []) (given_pass (named c) (options_of c) (within c t) given new);
      found = command_found (named c) leaf t.is ws ∙ ap (λ (rows : List Row). Some (named c, rows)) (given_rows (named c) (options_of c) (within c t) given new);
    }

-- the rows that are found behind `drill`
pub drill_rows : (ws : List Text) → AreFew ws → ◌≡◌ {A = Option (Text × List Row)} (subcommand_of taos_app (codes "drill" ∷ ws)) (Some (codes "drill", rows_of_words ws))
drill_rows ws few = command_found (codes "drill") drill_leaf drill_met ws ∙ ap (λ (rows : List Row). Some (codes "drill", rows)) (few_rows ws few)

-- three words behind `drill`
pub drill_found : (a b c : Text) → IsValue a → IsValue b → IsValue c → IsTakenAs (codes "drill" ∷ a ∷ b ∷ c ∷ []) (codes "drill") (rows_of_words (a ∷ b ∷ c ∷ []))
drill_found a b c pa pb pc =
    let ws = a ∷ b ∷ c ∷ [] in
    record {
      known = All-cons IsOfTable (codes "drill") ws (plain drill_met.word) (All-cons IsOfTable a (b ∷ c ∷ []) (plain pa) (All-cons IsOfTable b (c ∷ []) (plain pb) (All-cons IsOfTable c [] (plain pc) (All-nil IsOfTable))));
      no_fault = command_level (codes "drill") drill_leaf drill_met ws ∙ ap (λ f. or_else f []) (drill_pass a b c pa pb pc);
      found = drill_rows ws (three_words a b c pa pb pc refl);
    }

-- ---- lines that are not

-- the word is a command's name, or names none
data Which (cs : List Command) (w : Text) : Type 0 where
  this : (c : Command) → named c ≡ w → Which cs w
  other : ◌≡◌ {A = Option (Text × List Text)} (find (answers_to w) (map (λ (c : Command). (named c, [])) cs)) None → Which cs w

abbrev by_name : Command → List Command → Text → Bool → Option (Text × List Text)
by_name c cs w b = cond (b || false) (Some (named c, [])) (find (answers_to w) (map (λ (x : Command). (named x, [])) cs))

or_none : (c : Command) (cs : List Command) (w : Text) (b : Bool) → bytes_eq (named c) w ≡ b → Which cs w → Which (c ∷ cs) w
or_none c cs w true is rest = this c ((bytes_eq-Decides (named c) w).0 is)
or_none c cs w false is (this d same) = this d same
or_none c cs w false is (other none) = other (ap (by_name c cs w) is ∙ none)

which : (cs : List Command) (w : Text) → Which cs w
which [] w = other refl
which (c ∷ cs) w = or_none c cs w (bytes_eq (named c) w) refl (which cs w)

abbrev other_turn_by : Text → Option Text → Kinds
other_turn_by w m =
    or_else (other_fault whole.top m w nothing_held) (step_fault whole.top 1 (subcommand_or_other whole.top.rules m idle 1 w nothing_held).0 (subcommand_or_other whole.top.rules m idle 1 w nothing_held).1)

module _ (w : Text) (none : ◌≡◌ {A = Option Text} (subcommand_met (names_of whole) idle w) None) where
  pub no_command : IsValue w → turn_fault whole.top (names_of whole) (walk_from nothing_held) w ≡ kind.UnknownArgument ∷ kind.InvalidSubcommand ∷ []
  unfolding clap_on_literals
  no_command is =
      let r = is_rest w is in
      ap (other_turn_by w) none ∙ ap₂ (fault_by whole.top idle nothing_held w) r.dashes r.long ∙ ap (rest_fault_by whole.top idle nothing_held w) r.short

  pub no_option : (name : Text) (v : Option Text) → Reads w name v → turn_fault whole.top (names_of whole) (walk_from nothing_held) w ≡ kind.UnknownArgument ∷ []
  unfolding clap_on_literals
  no_option name v r = ap (other_turn_by w) none ∙ ap₂ (fault_by whole.top idle nothing_held w) r.dashes r.long

  -- the line is refused
  refused : (x : ErrorKind) (xs : Kinds) (ws : List Text) → turn_fault whole.top (names_of whole) (walk_from nothing_held) w ≡ x ∷ xs → fault_of taos_app (w ∷ ws) ≡ [] → ⊥
  unfolding clap_on_literals
  refused x xs ws is e =
      let later = walk_fault whole.top (names_of whole) (walked whole.top.rules (names_of whole) (walk_from nothing_held) w) ws in
      let bad : ◌≡◌ {A = Kinds} (x ∷ xs) [] = sym (ap (λ turn. by_walk (walk whole.top.rules (names_of whole) nothing_held (w ∷ ws)) (or_else turn later)) is) ∙ e in
      absurd (cc bad)

  other_line : (ws : List Text) → IsOfTable w → fault_of taos_app (w ∷ ws) ≡ [] → ⊥
  other_line ws (plain is) e = refused kind.UnknownArgument (kind.InvalidSubcommand ∷ []) ws (no_command is) e
  other_line ws (option name has (alone is)) e = refused kind.UnknownArgument [] ws (no_option name None (read_alone w name has is)) e
  other_line ws (option name has (joined v is value)) e = refused kind.UnknownArgument [] ws (no_option name (Some v) (read_joined w name v has is)) e

no_word : fault_of taos_app [] ≡ kind.MissingSubcommand ∷ []
unfolding clap_on_literals
no_word = refl

-- a line that is taken is that of a command with its options, or `drill` with words
pub data IsSplit (words : List Text) : Type 0 where
  has_options : (c : Command) → TakesOptions c → (given : List Given) → words ≡ named c ∷ flat_map words_of given → AreNew (options_of c) [] given → IsSplit words
  has_words : (ws : List Text) → words ≡ codes "drill" ∷ ws → AreFew ws → IsSplit words

or_else_none : (a b : Kinds) → or_else a b ≡ [] → a ≡ []
or_else_none [] b none = refl
or_else_none (k ∷ ks) b none = absurd cc

-- the words behind a command have no fault
behind_taken : (name : Text) (leaf : Shape) → IsMet name leaf → (w : Text) (ws : List Text) → name ≡ w → fault_of taos_app (w ∷ ws) ≡ [] → leaf_fault leaf ws ≡ []
behind_taken name leaf e w ws same none = or_else_none (leaf_fault leaf ws) [] (sym (command_level name leaf e ws) ∙ subst (λ y. fault_of taos_app (y ∷ ws) ≡ []) (sym same) none)

split_kind : (c : Command) (w : Text) (ws : List Text) → named c ≡ w → IsKind c → All IsOfTable ws → fault_of taos_app (w ∷ ws) ≡ [] → IsSplit (w ∷ ws)
split_kind c w ws same (by_options t) all none =
    let split = words_split (named c) (options_of c) ws all (behind_taken (named c) (leaf_of (named c) (options_of c)) t.is w ws same none) in
    has_options c t split.0 (ap₂ (λ (y : Text) (l : List Text). y ∷ l) (sym same) split.1) split.2
split_kind c w ws same (by_words is) all none =
    let drills : codes "drill" ≡ w = sym (ap named is) ∙ same in
    has_words ws (ap (λ (y : Text). y ∷ ws) (sym drills)) (drill_split ws all (behind_taken (codes "drill") drill_leaf drill_met w ws drills none))

split_which : (w : Text) (ws : List Text) → Which commands w → IsOfTable w → All IsOfTable ws → fault_of taos_app (w ∷ ws) ≡ [] → IsSplit (w ∷ ws)
split_which w ws (this c same) known all none = split_kind c w ws same (kind_for c) all none
split_which w ws (other none_met) known all none = absurd (other_line w (ap (option_map (λ (s : Text × List Text). s.0)) none_met) ws known none)

pub line_split : (words : List Text) → All IsOfTable words → fault_of taos_app words ≡ [] → IsSplit words
line_split [] all none = absurd (cc (no_word, none))
line_split (w ∷ ws) all none = split_which w ws (which commands w) (All-head IsOfTable w ws all) (All-tail IsOfTable w ws all) none
