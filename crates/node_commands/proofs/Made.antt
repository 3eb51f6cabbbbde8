-- How a command grows.
use Rattle.std.proofs.Common.{◌≡◌, ◌∙◌, ℕ, ◌<◌, ◌+◌, List, [], ◌∷◌, map, take, length, get_or, ap, ap₂, subst, sym, ◌||◌, refl, true, false}
use Rattle.std.proofs.lemmas.List.{map-append, map_more}
use Rattle.std.proofs.lemmas.List.Sums.{fold-append}
use Rattle.clap.specs.Words.{App, Rule, Text, AddsArg, AddsSubcommand, rule_of, with_rule, with_subcommand, is_simple, is_simple_and_free}
use Rattle.clap.specs.declared.builder.command.Command.{Command}
use Rattle.clap.specs.declared.builder.arg.Arg.{Arg}
use Rattle.clap.proofs.OnLiterals.{clap_on_literals}
use Rattle.node_commands.specs.declared.words.table.Argument.{Argument as Declared}
use Rattle.node_commands.specs.declared.words.table.Entry.{Entry}
use Rattle.node_commands.specs.Words.{Argument}
use Rattle.node_commands.specs.Table.{IsMade, argument_of, base_app, command_app, entry_of, option_rule, ruled_app, table_of, taos_app}

pub adds_rule : (old : Command) (a : Arg) (new : Command) (app : App) (r : Rule) → IsMade app old → rule_of a ≡ r → a.global ≡ false → AddsArg old a new → IsMade (with_rule app r) new
adds_rule old a new app r made rule local h = (h.shape local ∙ ap₂ with_rule made.0 rule, h.globals ∙ ap₂ ◌||◌ made.1 local)

pub adds_subcommand : (old sub new : Command) (app below : App) → IsMade app old → IsMade below sub → AddsSubcommand old sub new → IsMade (with_subcommand app below.top) new
adds_subcommand old sub new app below made lower h = (h.shape lower.1 ∙ ap₂ with_subcommand made.0 (ap (λ (a : App). a.top) lower.0), h.globals ∙ ap₂ ◌||◌ made.1 lower.1)

-- the rules of one option more
pub one_option_more : (old : Command) (a : Arg) (new : Command) (name : Text) (options : List Declared) (i : ℕ) (d : Declared) → i < length options → IsMade (command_app name (map argument_of (take i options))) old →
    rule_of a ≡ option_rule (argument_of (get_or options i d)) → a.global ≡ false → AddsArg old a new → IsMade (command_app name (map argument_of (take (i + 1) options))) new
one_option_more old a new name options i d lt made rule local h =
    let before = map argument_of (take i options) in
    let this = argument_of (get_or options i d) in
    subst (λ (rules : List Rule). IsMade (ruled_app name rules) new)
    (sym (ap (map option_rule) (map_more argument_of options i d lt) ∙ map-append option_rule before (this ∷ [])))
    (adds_rule old a new (command_app name before) (option_rule this) made rule local h)

-- the table of one command more
pub one_entry_more : (old sub new : Command) (entries : List Entry) (i : ℕ) (d : Entry) → i < length entries → IsMade (table_of (map entry_of (take i entries))) old →
    IsMade (command_app (entry_of (get_or entries i d)).0 (entry_of (get_or entries i d)).1) sub → AddsSubcommand old sub new → IsMade (table_of (map entry_of (take (i + 1) entries))) new
one_entry_more old sub new entries i d lt made lower h =
    let before = map entry_of (take i entries) in
    let this = entry_of (get_or entries i d) in
    subst (λ (app : App). IsMade app new)
    (sym (ap table_of (map_more entry_of entries i d lt) ∙ fold-append (λ (a : App) (e : Text × List Argument). with_subcommand a (command_app e.0 e.1).top) base_app before (this ∷ [])))
    (adds_subcommand old sub new (table_of before) (command_app this.0 this.1) made lower h)

pub taos_is_simple : is_simple taos_app ≡ true
unfolding clap_on_literals
taos_is_simple = refl

pub taos_is_free : is_simple_and_free taos_app ≡ true
unfolding clap_on_literals
taos_is_free = refl
