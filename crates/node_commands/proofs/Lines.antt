-- Which words behind a command `clap` takes: its options, each once and as it is given, in any order.
use Rattle.std.proofs.Common.{◌≡◌, ℕ, ◌==◌, Bool, true, false, List, [], ◌∷◌, ◌++◌, Option, Some, None, refl, sym, ap, ap₂, subst, ◌∙◌, codes, append_assoc, slice_index_or}
use Rattle.std.specs.Prelude.{Contains, not}
use Rattle.std.specs.List.{All, flat_map, fold, list_all}
use Rattle.std.proofs.lemmas.Bool.{false≢true}
use Rattle.std.proofs.lemmas.Bool.Decides.{Decides-eqb}
use Rattle.std.proofs.lemmas.List.Elements.{All-head, All-tail}
use Rattle.std.proofs.lemmas.List.Sums.{AllPass-from_list_all}
use Rattle.std.proofs.lemmas.List.{append-nil}
use Rattle.clap.specs.Words.{Kinds, Row, Text}
use Rattle.clap.specs.Kinds.{check_kinds, or_else}
use Rattle.clap.specs.Walk.{Held, Waiting, Walk, finished, has_row, idle, rows_after, settled, walked, with_default}
use Rattle.clap.specs.Walk.{option as waits_for}
use Rattle.clap.specs.Simple.{Shape}
use Rattle.clap.specs.Faults.{check_fault, defaults_fault, settle_fault, turn_fault, walk_fault}
use Rattle.clap.specs.declared.error.kind.ErrorKind.{ErrorKind}
use Rattle.clap.specs.declared.error.kind.ErrorKind.TheVariants as kind
use Rattle.clap.specs.Lexer.{long_of_rest}
use Rattle.clap.proofs.CutLemmas.{Lacks}
use Rattle.clap.proofs.LexerLemmas.{name_and_value-at, name_and_value-without}
use Rattle.clap.proofs.OnLiterals.{clap_on_literals}
use Rattle.node_commands.specs.Table.{IsOfTable, IsOption, all_options, plain, option, alone, joined}
use Rattle.node_commands.specs.Words.{Argument, Given, IsValue, Way, Joined, Apart, Alone, flag, option_named, valued, words_for, words_of}
use Rattle.node_commands.proofs.Options.{has_name, keeps_rows, no_defaults, none_required, rules_for}
use Rattle.node_commands.proofs.Rows.{AreNew, row_for, rows_for}
use Rattle.node_commands.proofs.Walks.{Reads, Settles, alone_next, alone_turn, apart_from, at, awaiting, flag_again, flag_joined, flag_next, flag_turn, held, is_rest, joined_again, joined_to}
use Rattle.node_commands.proofs.Walks.{joined_next, joined_turn, leaf_of, no_value, pending, raised, rows_settle, standing, stray, stuck, unknown, value_again, value_next, value_settles, value_turn, with_value}

-- ---- the names of options

-- the option is read off its words
pub record IsName (name : Text) : Type 0 where
  pub bare : Reads (codes "--" ++ name) name None
  pub whole : (v : Text) → Reads (codes "--" ++ name ++ codes "=" ++ v) name (Some v)

-- a name has bytes, and no `=` (61) among them
abbrev is_name_text : Text → Bool
is_name_text [] = false
is_name_text (x ∷ name) = list_all (λ y. not (y == 61)) (x ∷ name)

lacks_of : (y : ℕ) (b : Bool) → (y == 61) ≡ b → not b ≡ true → (y ≡ 61 → ⊥)
lacks_of y true is bad = absurd (false≢true bad)
lacks_of y false is good = λ same. false≢true (sym is ∙ (Decides-eqb y 61).1 same)

lacks : (name : Text) → list_all (λ y. not (y == 61)) name ≡ true → Lacks 61 name
lacks name all = λ i within. let y = slice_index_or name i 0 in lacks_of y (y == 61) refl (AllPass-from_list_all (λ x. not (x == 61)) name all i 0 within)

whole_name : (x : ℕ) (name v : Text) → Lacks 61 (x ∷ name) → ◌≡◌ {A = Option (Text × Option Text)} (long_of_rest (x ∷ name ++ codes "=" ++ v)) (Some (x ∷ name, Some v))
whole_name x name v lack = ap long_of_rest (append_assoc (x ∷ name) (codes "=") v) ∙ ap (λ p. Some p) (name_and_value-at (x ∷ name) v lack)

named_so : (name : Text) → is_name_text name ≡ true → IsName name
named_so [] is = absurd (false≢true is)
named_so (x ∷ name) is = record {
  bare = record { dashes = refl; long = ap (λ p. Some p) (name_and_value-without (x ∷ name) (lacks (x ∷ name) is)) };
  whole = λ v. record { dashes = refl; long = whole_name x name v (lacks (x ∷ name) is) };
}

names_are : list_all is_name_text all_options ≡ true
names_are = refl

pub names : (name : Text) → Contains all_options name → IsName name
names name (k, within, is) = named_so name (subst (λ n. is_name_text n ≡ true) is (AllPass-from_list_all is_name_text all_options names_are k name within))

-- what an option is read as, by its word
pub read_alone : (w name : Text) → Contains all_options name → w ≡ codes "--" ++ name → Reads w name None
read_alone w name has is = subst (λ y. Reads y name None) (sym is) (names name has).bare

pub read_joined : (w name v : Text) → Contains all_options name → w ≡ codes "--" ++ name ++ codes "=" ++ v → Reads w name (Some v)
read_joined w name v has is = subst (λ y. Reads y name (Some v)) (sym is) ((names name has).whole v)

-- ---- step by step

abbrev pub rest_fault : Shape → Walk → Kinds
rest_fault s end =
    or_else (settle_fault s.rules s.args_override_self end.held)
    (or_else (defaults_fault (settled s.rules end.held).rows s.rules) (check_fault s (finished s.rules end.held) false))

-- the faults of the words from where a walk stands
abbrev pub from : Shape → Walk → List Text → Kinds
from s k ws = or_else (walk_fault s [] k ws) (rest_fault s (fold (walked s.rules []) k ws))

or_assoc : (a b c : Kinds) → or_else (or_else a b) c ≡ or_else a (or_else b c)
or_assoc [] b c = refl
or_assoc (k ∷ ks) b c = refl

step : (s : Shape) (k : Walk) (w : Text) (ws : List Text) → from s k (w ∷ ws) ≡ or_else (turn_fault s [] k w) (from s (walked s.rules [] k w) ws)
unfolding clap_on_literals
step s k w ws = or_assoc (turn_fault s [] k w) (walk_fault s [] (walked s.rules [] k w) ws) (rest_fault s (fold (walked s.rules []) (walked s.rules [] k w) ws))

some_fault : (k : ErrorKind) (ks b : Kinds) → or_else (k ∷ ks) b ≡ [] → ⊥
some_fault k ks b e = absurd cc

-- the word is refused
pub stops : (s : Shape) (k : Walk) (w : Text) (ws : List Text) (x : ErrorKind) → turn_fault s [] k w ≡ x ∷ [] → from s k (w ∷ ws) ≡ [] → ⊥
stops s k w ws x is none =
    some_fault x [] (from s (walked s.rules [] k w) ws) (sym (ap (λ f. or_else f (from s (walked s.rules [] k w) ws)) is) ∙ sym (step s k w ws) ∙ none)

-- the word is taken
pub goes : (s : Shape) (k : Walk) (w : Text) (ws : List Text) (next : Walk) → turn_fault s [] k w ≡ [] → walked s.rules [] k w ≡ next → from s k (w ∷ ws) ≡ from s next ws
goes s k w ws next is to = step s k w ws ∙ ap (λ f. or_else f (from s (walked s.rules [] k w) ws)) is ∙ ap (λ n. from s n ws) to

module _ (command : Text) (options : List Argument) where
  -- ---- the end of a line

  ends_well : (h : Held) (rows : List Row) → Settles options h rows → from (leaf_of command options) (at h) [] ≡ []
  unfolding clap_on_literals
  ends_well h rows st =
      let left = finished (rules_for options) h in
      ap (λ f. or_else f (or_else (defaults_fault (settled (rules_for options) h).rows (rules_for options)) (check_fault (leaf_of command options) left false))) st.no_fault
      ∙ ap (λ f. or_else f (check_fault (leaf_of command options) left false)) (no_defaults options (settled (rules_for options) h).rows)
      ∙ ap (λ b. check_kinds false false b) (none_required options left)

  ends_badly : (k : Waiting) (h : Held) (x : ErrorKind) → settle_fault (rules_for options) false h ≡ x ∷ [] → from (leaf_of command options) (standing k h) [] ≡ [] → ⊥
  unfolding clap_on_literals
  ends_badly k h x bad none =
      some_fault x [] (or_else (defaults_fault (settled (rules_for options) h).rows (rules_for options)) (check_fault (leaf_of command options) (finished (rules_for options) h) false))
      (sym (ap (λ f. or_else f (or_else (defaults_fault (settled (rules_for options) h).rows (rules_for options)) (check_fault (leaf_of command options) (finished (rules_for options) h) false))) bad) ∙ none)

  -- ---- options that are given are taken

  -- the words are taken, and leave these rows
  record Passes (k : Walk) (rows : List Row) (ws : List Text) : Type 0 where
    last : Held
    to : fold (walked (rules_for options) []) k ws ≡ at last
    settles : Settles options last rows
    no_fault : from (leaf_of command options) k ws ≡ []

  one_more : (k next : Walk) (w : Text) (ws : List Text) (rows : List Row) → turn_fault (leaf_of command options) [] k w ≡ [] → walked (rules_for options) [] k w ≡ next → Passes next rows ws → Passes k rows (w ∷ ws)
  one_more k next w ws rows turn to p = record {
    last = p.last;
    to = ap (λ n. fold (walked (rules_for options) []) n ws) to ∙ p.to;
    settles = p.settles;
    no_fault = goes (leaf_of command options) k w ws next turn to ∙ p.no_fault;
  }

  -- the rows with those of options that are given behind them
  abbrev grown : List Row → List Given → List Row
  grown rows [] = rows
  grown rows (g ∷ gs) = grown (rows ++ row_for g ∷ []) gs

  grown_is : (rows : List Row) (gs : List Given) → grown rows gs ≡ rows ++ rows_for gs
  grown_is rows [] = sym (append-nil rows)
  grown_is rows (g ∷ gs) = grown_is (rows ++ row_for g ∷ []) gs ∙ append_assoc rows (row_for g ∷ []) (rows_for gs)

  module _ (within : (name : Text) (a : Argument) → option_named options name ≡ Some a → Contains all_options name) where
    one_given : (name : Text) (way : Way) (h : Held) (rows last : List Row) (ws : List Text) → Settles options h rows → AreNew options rows (record { name = name; way = way } ∷ []) →
        ((next : Held) → Settles options next (rows ++ row_for (record { name = name; way = way }) ∷ []) → Passes (at next) last ws) → Passes (at h) last (words_for name way ++ ws)
    one_given name (Joined v) h rows last ws st new behind =
        let w = codes "--" ++ name ++ codes "=" ++ v in
        let reads = (names name (within name (valued name) new.0)).whole v in
        let next = rows ++ row_for (joined_to name v) ∷ [] in
        one_more (at h) (at (held next)) w ws last (joined_turn command options h rows st w name v reads new.0 new.1) (joined_next command options h rows st w name v reads new.0 new.1)
        (behind (held next) (rows_settle options next))
    one_given name (Apart v) h rows last ws st new behind =
        let w = codes "--" ++ name in
        let reads = (names name (within name (valued name) new.0)).bare in
        let rest = is_rest v new.2 in
        one_more (at h) (awaiting name (pending rows name)) w (v ∷ ws) last (alone_turn command options h rows st w name reads new.0) (alone_next command options h rows st w name reads new.0)
        (one_more (awaiting name (pending rows name)) (at (with_value rows name v)) v ws last (value_turn command options rows name v rest) (value_next command options rows name v rest new.0)
        (behind (with_value rows name v) (value_settles options name rows new.0 v new.1)))
    one_given name Alone h rows last ws st new behind =
        let w = codes "--" ++ name in
        let reads = (names name (within name (flag name) new.0)).bare in
        let next = rows ++ row_for (raised name) ∷ [] in
        one_more (at h) (at (held next)) w ws last (flag_turn command options h rows st w name reads new.0 new.1) (flag_next command options h rows st w name reads new.0 new.1)
        (behind (held next) (rows_settle options next))

    all_given : (h : Held) (rows : List Row) (gs : List Given) → Settles options h rows → AreNew options rows gs → Passes (at h) (grown rows gs) (flat_map words_of gs)
    all_given h rows [] st new = record { last = h; to = refl; settles = st; no_fault = ends_well h rows st }
    all_given h rows (g ∷ gs) st new =
        one_given g.name g.way h rows (grown (rows ++ row_for g ∷ []) gs) (flat_map words_of gs) st (new.0, new.1, new.2, tt) (λ next settles. all_given next (rows ++ row_for g ∷ []) gs settles new.3)

    -- options that are each given once have no fault, and these rows
    pub given_pass : (gs : List Given) → AreNew options [] gs → from (leaf_of command options) (at (held [])) (flat_map words_of gs) ≡ []
    given_pass gs new = (all_given (held []) [] gs (rows_settle options []) new).no_fault

    pub given_rows : (gs : List Given) → AreNew options [] gs → rows_after (rules_for options) [] (flat_map words_of gs) ≡ rows_for gs
    given_rows gs new =
        let p = all_given (held []) [] gs (rows_settle options []) new in
        ap (λ (k : Walk). finished (rules_for options) k.held) p.to
        ∙ ap (λ (k : Held). fold with_default k.rows (rules_for options)) p.settles.to
        ∙ keeps_rows options (grown [] gs) ∙ grown_is [] gs

  -- ---- what is taken was given

  -- where what waits does not settle, no option is taken
  stuck_option : (k : Waiting) (h : Held) (x : ErrorKind) (w : Text) (ws : List Text) (name : Text) → settle_fault (rules_for options) false h ≡ x ∷ [] → Contains all_options name → IsOption w name →
      from (leaf_of command options) (standing k h) (w ∷ ws) ≡ [] → ⊥
  stuck_option k h x w ws name bad has (alone is) none =
      let stop = stuck command options k h x bad w name None (read_alone w name has is) (option_named options name) refl in stops (leaf_of command options) (standing k h) w ws stop.0 stop.1 none
  stuck_option k h x w ws name bad has (joined v is value) none =
      let stop = stuck command options k h x bad w name (Some v) (read_joined w name v has is) (option_named options name) refl in stops (leaf_of command options) (standing k h) w ws stop.0 stop.1 none

  -- and no line
  blocked : (h : Held) (x : ErrorKind) (ws : List Text) → settle_fault (rules_for options) false h ≡ x ∷ [] → All IsOfTable ws → from (leaf_of command options) (at h) ws ≡ [] → ⊥
  blocked h x [] bad all none = ends_badly idle h x bad none
  blocked h x (w ∷ ws) bad all none = by (All-head IsOfTable w ws all)
    where
      by : IsOfTable w → ⊥
      by (plain is) = stops (leaf_of command options) (at h) w ws kind.UnknownArgument (stray command options h w (is_rest w is)) none
      by (option name has o) = stuck_option idle h x w ws name bad has o none

  -- the options that words give, where there are such
  abbrev Gives : List Row → List Text → Type 0
  Gives rows ws = (given : List Given) × (ws ≡ flat_map words_of given) × AreNew options rows given

  abbrev Splits : List Text → Type 0
  Splits ws = (h : Held) (rows : List Row) → Settles options h rows → All IsOfTable ws → from (leaf_of command options) (at h) ws ≡ [] → Gives rows ws

  -- the same behind the first word
  abbrev SplitsBehind : List Text → Type 0
  SplitsBehind [] = Unit {0}
  SplitsBehind (w ∷ ws) = Splits ws

  module _ (rows : List Row) (w name : Text) (ws : List Text) (new : has_row name rows ≡ false) where
    gives_joined : (v : Text) → w ≡ codes "--" ++ name ++ codes "=" ++ v → IsValue v → option_named options name ≡ Some (valued name) → Gives (rows ++ row_for (joined_to name v) ∷ []) ws → Gives rows (w ∷ ws)
    gives_joined v is value has rest = (joined_to name v ∷ rest.0, ap₂ (λ (x : Text) (l : List Text). x ∷ l) is rest.1, (has, new, value, rest.2))

    gives_apart : (v : Text) → w ≡ codes "--" ++ name → IsValue v → option_named options name ≡ Some (valued name) → Gives (rows ++ row_for (apart_from name v) ∷ []) ws → Gives rows (w ∷ v ∷ ws)
    gives_apart v is value has rest = (apart_from name v ∷ rest.0, ap₂ (λ (x : Text) (l : List Text). x ∷ v ∷ l) is rest.1, (has, new, value, rest.2))

    gives_flag : w ≡ codes "--" ++ name → option_named options name ≡ Some (flag name) → Gives (rows ++ row_for (raised name) ∷ []) ws → Gives rows (w ∷ ws)
    gives_flag is has rest = (raised name ∷ rest.0, ap₂ (λ (x : Text) (l : List Text). x ∷ l) is rest.1, (has, new, tt, rest.2))

  module _ (h : Held) (rows : List Row) (st : Settles options h rows) (w name : Text) (ws : List Text) (behind : Splits ws) (all : All IsOfTable ws) (none : from (leaf_of command options) (at h) (w ∷ ws) ≡ []) where
    split_joined : (v : Text) (b : Bool) → has_row name rows ≡ b → w ≡ codes "--" ++ name ++ codes "=" ++ v → IsValue v → Reads w name (Some v) → option_named options name ≡ Some (valued name) → Gives rows (w ∷ ws)
    split_joined v true again is value reads has = absurd (stops (leaf_of command options) (at h) w ws kind.ArgumentConflict (joined_again command options h rows st w name v reads has again) none)
    split_joined v false new is value reads has =
        let next = rows ++ row_for (joined_to name v) ∷ [] in
        gives_joined rows w name ws new v is value has
        (behind (held next) next (rows_settle options next) all
        (sym (goes (leaf_of command options) (at h) w ws (at (held next)) (joined_turn command options h rows st w name v reads has new) (joined_next command options h rows st w name v reads has new)) ∙ none))

    split_flag : (b : Bool) → has_row name rows ≡ b → w ≡ codes "--" ++ name → Reads w name None → option_named options name ≡ Some (flag name) → Gives rows (w ∷ ws)
    split_flag true again is reads has = absurd (stops (leaf_of command options) (at h) w ws kind.ArgumentConflict (flag_again command options h rows st w name reads has again) none)
    split_flag false new is reads has =
        let next = rows ++ row_for (raised name) ∷ [] in
        gives_flag rows w name ws new is has
        (behind (held next) next (rows_settle options next) all
        (sym (goes (leaf_of command options) (at h) w ws (at (held next)) (flag_turn command options h rows st w name reads has new) (flag_next command options h rows st w name reads has new)) ∙ none))

  split_value : (rows : List Row) (w name v : Text) (ws : List Text) → w ≡ codes "--" ++ name → IsValue v → option_named options name ≡ Some (valued name) →
      Splits ws → All IsOfTable ws → from (leaf_of command options) (awaiting name (pending rows name)) (v ∷ ws) ≡ [] → Gives rows (w ∷ v ∷ ws)
  split_value rows w name v ws is value has behind all none = by (has_row name rows) refl
    where
      later : from (leaf_of command options) (at (with_value rows name v)) ws ≡ []
      later =
          sym (goes (leaf_of command options) (awaiting name (pending rows name)) v ws (at (with_value rows name v)) (value_turn command options rows name v (is_rest v value)) (value_next command options rows name v (is_rest v value) has)) ∙ none

      by : (b : Bool) → has_row name rows ≡ b → Gives rows (w ∷ v ∷ ws)
      by true again = absurd (blocked (with_value rows name v) kind.ArgumentConflict ws (value_again options name rows has v again) all later)
      by false new =
          gives_apart rows w name ws new v is value has
          (behind (with_value rows name v) (rows ++ row_for (apart_from name v) ∷ []) (value_settles options name rows has v new) all later)

  split_alone : (rows : List Row) (w name : Text) (ws : List Text) → w ≡ codes "--" ++ name → option_named options name ≡ Some (valued name) →
      SplitsBehind ws → All IsOfTable ws → from (leaf_of command options) (awaiting name (pending rows name)) ws ≡ [] → Gives rows (w ∷ ws)
  split_alone rows w name [] is has behind all none = absurd (ends_badly (waits_for name) (pending rows name) kind.InvalidValue (no_value options name rows has) none)
  split_alone rows w name (v ∷ ws) is has behind all none = by (All-head IsOfTable v ws all)
    where
      by : IsOfTable v → Gives rows (w ∷ v ∷ ws)
      by (plain value) = split_value rows w name v ws is value has behind (All-tail IsOfTable v ws all) none
      by (option other there o) = absurd (stuck_option (waits_for name) (pending rows name) kind.InvalidValue v ws other (no_value options name rows has) there o none)

  module _ (h : Held) (rows : List Row) (st : Settles options h rows) (w name : Text) (ws : List Text) (there : Contains all_options name) (behind : Splits ws) (behind_two : SplitsBehind ws) (all : All IsOfTable ws) (none : from (leaf_of command options) (at h) (w ∷ ws) ≡ []) where
    split_known : IsOption w name → (f : Bool) → option_named options name ≡ Some (record { name = name; is_flag = f }) → Gives rows (w ∷ ws)
    split_known (joined v is value) false has = split_joined h rows st w name ws behind all none v (has_row name rows) refl is value (read_joined w name v there is) has
    split_known (joined v is value) true has = absurd (stops (leaf_of command options) (at h) w ws kind.TooManyValues (flag_joined command options idle h w name name v (read_joined w name v there is) has) none)
    split_known (alone is) false has =
        let reads = read_alone w name there is in
        split_alone rows w name ws is has behind_two all
        (sym (goes (leaf_of command options) (at h) w ws (awaiting name (pending rows name)) (alone_turn command options h rows st w name reads has) (alone_next command options h rows st w name reads has)) ∙ none)
    split_known (alone is) true has = split_flag h rows st w name ws behind all none (has_row name rows) refl is (read_alone w name there is) has

    not_known : IsOption w name → option_named options name ≡ None → ⊥
    not_known (joined v is value) not = stops (leaf_of command options) (at h) w ws kind.UnknownArgument (unknown command options idle h w name (Some v) (read_joined w name v there is) not) none
    not_known (alone is) not = stops (leaf_of command options) (at h) w ws kind.UnknownArgument (unknown command options idle h w name None (read_alone w name there is) not) none

    split_option : IsOption w name → (o : Option Argument) → option_named options name ≡ o → Gives rows (w ∷ ws)
    split_option o None not = absurd (not_known o not)
    split_option o (Some a) has =
        split_known o a.is_flag (has ∙ ap (λ (n : Text). Some (record { name = n; is_flag = a.is_flag })) (has_name options name a has))

  split_word : (w : Text) (ws : List Text) → Splits ws → SplitsBehind ws → Splits (w ∷ ws)
  split_word w ws behind behind_two h rows st all none = by (All-head IsOfTable w ws all)
    where
      by : IsOfTable w → Gives rows (w ∷ ws)
      by (plain is) = absurd (stops (leaf_of command options) (at h) w ws kind.UnknownArgument (stray command options h w (is_rest w is)) none)
      by (option name there o) = split_option h rows st w name ws there behind behind_two (All-tail IsOfTable w ws all) none o (option_named options name) refl

  both : (ws : List Text) → Splits ws × SplitsBehind ws
  both [] = (λ h rows st all none. ([], refl, tt), tt)
  both (w ∷ ws) = let rest = both ws in (split_word w ws rest.0 rest.1, rest.0)

  -- words that have no fault give options, each once
  pub words_split : (ws : List Text) → All IsOfTable ws → from (leaf_of command options) (at (held [])) ws ≡ [] → (given : List Given) × (ws ≡ flat_map words_of given) × AreNew options [] given
  words_split ws all none = (both ws).0 (held []) [] (rows_settle options []) all none
