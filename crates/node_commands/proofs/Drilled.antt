-- Which words behind `drill` `clap` takes: three at most, that may be values.
use Rattle.std.proofs.Common.{◌≡◌, ℕ, Bool, false, List, [], ◌∷◌, Option, Some, None, refl, sym, ap, ap₂, subst, ◌∙◌, codes}
use Rattle.std.specs.Prelude.{cond}
use Rattle.std.specs.List.{All, fold}
use Rattle.std.specs.Option.{option_map_or}
use Rattle.std.proofs.lemmas.List.Elements.{All-head, All-tail}
use Rattle.clap.specs.Words.{Kinds, Row, Text}
use Rattle.clap.specs.Kinds.{or_else}
use Rattle.clap.specs.Walk.{Held, Step, Walk, after_step, arg_by_index, finished, idle, long_or_other, nothing_held, reading_by, rows_after, short_or_plain, to_positional, trailing, value, walked}
use Rattle.clap.specs.Simple.{Shape, built_leaf, filled, inherited, with_index}
use Rattle.clap.specs.Faults.{bundle_fault, flag_word_fault, step_fault, turn_fault}
use Rattle.clap.specs.declared.error.kind.ErrorKind.TheVariants as kind
use Rattle.clap.specs.declared.parser.matches.ValueSource.TheVariants.{CommandLine}
use Rattle.clap.proofs.OnLiterals.{clap_on_literals}
use Rattle.node_commands.specs.Table.{IsOfTable, base_app, drill_app, word_rule, plain, option, alone, joined}
use Rattle.node_commands.specs.Words.{IsValue}
use Rattle.node_commands.proofs.Lines.{from, goes, read_alone, read_joined, stops}
use Rattle.node_commands.proofs.Walks.{IsRest, Reads, is_rest}

-- the command, once it is built
abbrev pub drill_leaf : Shape
drill_leaf = built_leaf (inherited base_app.top drill_app.top)

-- a walk that stands between two words, before the word of this position
abbrev pub stands : Held → ℕ → Walk
stands h p = record { held = h; waiting = idle; position = p; is_trailing = false; stopped = None }

-- ---- one word

-- what a word comes to, by what it is read as
abbrev met_at : ℕ → Held → Text → Bool → Option (Text × Option Text) → Held × Step
met_at p h w dashes long = cond dashes (h, trailing p) (long_or_other drill_leaf.rules idle w long h)

abbrev fault_at : ℕ → Held → Text → Bool → Option (Text × Option Text) → Kinds
fault_at p h w dashes long =
    or_else (cond dashes [] (flag_word_fault drill_leaf.rules drill_leaf.args_override_self long w h)) (step_fault drill_leaf p (met_at p h w dashes long).0 (met_at p h w dashes long).1)

-- the same of a word that is no option with a long name
abbrev rest_at : Held → Text → Option Text → Held × Step
rest_at h w flags = short_or_plain drill_leaf.rules idle w flags h

abbrev rest_fault_at : ℕ → Held → Text → Option Text → Kinds
rest_fault_at p h w flags =
    or_else (option_map_or (λ f. bundle_fault drill_leaf.rules drill_leaf.args_override_self f h) flags []) (step_fault drill_leaf p (rest_at h w flags).0 (rest_at h w flags).1)

module _ (p : ℕ) (h : Held) (w : Text) where
  plain_turn : IsRest w → turn_fault drill_leaf [] (stands h p) w ≡ step_fault drill_leaf p h value
  unfolding clap_on_literals
  plain_turn r = ap₂ (fault_at p h w) r.dashes r.long ∙ ap (rest_fault_at p h w) r.short

  plain_next : IsRest w → walked drill_leaf.rules [] (stands h p) w ≡ to_positional drill_leaf.rules (arg_by_index drill_leaf.rules p) w (stands h p) h
  unfolding clap_on_literals
  plain_next r =
      ap₂ (λ b l. after_step drill_leaf.rules w (stands h p) (met_at p h w b l).0 (met_at p h w b l).1) r.dashes r.long
      ∙ ap (λ f. after_step drill_leaf.rules w (stands h p) (rest_at h w f).0 (rest_at h w f).1) r.short

  -- no option is one of the command
  option_turn : (name : Text) (v : Option Text) → Reads w name v → turn_fault drill_leaf [] (stands h p) w ≡ kind.UnknownArgument ∷ []
  unfolding clap_on_literals
  option_turn name v r = ap₂ (fault_at p h w) r.dashes r.long

  -- so a word that is taken may be a value
  is_value : (ws : List Text) → IsOfTable w → from drill_leaf (stands h p) (w ∷ ws) ≡ [] → IsValue w
  is_value ws (plain is) none = is
  is_value ws (option name has (alone is)) none =
      absurd (stops drill_leaf (stands h p) w ws kind.UnknownArgument (option_turn name None (read_alone w name has is)) none)
  is_value ws (option name has (joined v is is_one)) none =
      absurd (stops drill_leaf (stands h p) w ws kind.UnknownArgument (option_turn name (Some v) (read_joined w name v has is)) none)

-- ---- three words

-- the row of a word
abbrev pub row_of_word : Text → Text → Row
row_of_word name w = record { id = name; values = w ∷ []; count = None; source = Some CommandLine; reading = reading_by (with_index 1 (filled (word_rule name))) }

abbrev waits : List Row → Text → Text → Held
waits rows name w = record { rows = rows; pending = Some (name, w ∷ []); skip = 0 }

-- what is held behind one word, behind two, and behind three
abbrev held_one : Text → Held
held_one a = waits [] (codes "seed") a

abbrev held_two : Text → Text → Held
held_two a b = waits (row_of_word (codes "seed") a ∷ []) (codes "requests") b

abbrev held_three : Text → Text → Text → Held
held_three a b c = waits (row_of_word (codes "seed") a ∷ row_of_word (codes "requests") b ∷ []) (codes "lanes") c

-- the rows of words
abbrev pub rows_of_words : List Text → List Row
rows_of_words [] = []
rows_of_words (a ∷ []) = row_of_word (codes "seed") a ∷ []
rows_of_words (a ∷ b ∷ []) = row_of_word (codes "seed") a ∷ row_of_word (codes "requests") b ∷ []
rows_of_words (a ∷ b ∷ c ∷ ws) = row_of_word (codes "seed") a ∷ row_of_word (codes "requests") b ∷ row_of_word (codes "lanes") c ∷ []

first_turn : (a : Text) → IsValue a → turn_fault drill_leaf [] (stands nothing_held 1) a ≡ []
unfolding clap_on_literals
first_turn a is = plain_turn 1 nothing_held a (is_rest a is)

first_next : (a : Text) → IsValue a → walked drill_leaf.rules [] (stands nothing_held 1) a ≡ stands (held_one a) 2
unfolding clap_on_literals
first_next a is = plain_next 1 nothing_held a (is_rest a is)

second_turn : (a b : Text) → IsValue b → turn_fault drill_leaf [] (stands (held_one a) 2) b ≡ []
unfolding clap_on_literals
second_turn a b is = plain_turn 2 (held_one a) b (is_rest b is)

second_next : (a b : Text) → IsValue b → walked drill_leaf.rules [] (stands (held_one a) 2) b ≡ stands (held_two a b) 3
unfolding clap_on_literals
second_next a b is = plain_next 2 (held_one a) b (is_rest b is)

third_turn : (a b c : Text) → IsValue c → turn_fault drill_leaf [] (stands (held_two a b) 3) c ≡ []
unfolding clap_on_literals
third_turn a b c is = plain_turn 3 (held_two a b) c (is_rest c is)

third_next : (a b c : Text) → IsValue c → walked drill_leaf.rules [] (stands (held_two a b) 3) c ≡ stands (held_three a b c) 4
unfolding clap_on_literals
third_next a b c is = plain_next 3 (held_two a b) c (is_rest c is)

-- a fourth word is refused
fourth_turn : (a b c w : Text) → IsValue w → turn_fault drill_leaf [] (stands (held_three a b c) 4) w ≡ kind.UnknownArgument ∷ []
unfolding clap_on_literals
fourth_turn a b c w is = plain_turn 4 (held_three a b c) w (is_rest w is)

ends_three : (a b c : Text) → from drill_leaf (stands (held_three a b c) 4) [] ≡ []
unfolding clap_on_literals
ends_three a b c = refl

-- three words are taken
pub drill_pass : (a b c : Text) → IsValue a → IsValue b → IsValue c → from drill_leaf (stands nothing_held 1) (a ∷ b ∷ c ∷ []) ≡ []
drill_pass a b c pa pb pc =
    goes drill_leaf (stands nothing_held 1) a (b ∷ c ∷ []) (stands (held_one a) 2) (first_turn a pa) (first_next a pa)
    ∙ (goes drill_leaf (stands (held_one a) 2) b (c ∷ []) (stands (held_two a b) 3) (second_turn a b pb) (second_next a b pb)
    ∙ (goes drill_leaf (stands (held_two a b) 3) c [] (stands (held_three a b c) 4) (third_turn a b c pc) (third_next a b c pc)
    ∙ ends_three a b c))

-- ---- words that are taken

-- three words at most
pub data AreFew (ws : List Text) : Type 0 where
  no_words : ws ≡ [] → AreFew ws
  one_word : (a : Text) → IsValue a → ws ≡ a ∷ [] → AreFew ws
  two_words : (a b : Text) → IsValue a → IsValue b → ws ≡ a ∷ b ∷ [] → AreFew ws
  three_words : (a b c : Text) → IsValue a → IsValue b → IsValue c → ws ≡ a ∷ b ∷ c ∷ [] → AreFew ws

-- the rows that a walk leaves which goes on from here
abbrev rows_from : Walk → List Text → List Row
rows_from k ws = finished drill_leaf.rules (fold (walked drill_leaf.rules []) k ws).held

rows_one : (a : Text) → IsValue a → (ws : List Text) → rows_after drill_leaf.rules [] (a ∷ ws) ≡ rows_from (stands (held_one a) 2) ws
rows_one a pa ws = ap (λ k. rows_from k ws) (first_next a pa)

rows_two : (a b : Text) → IsValue a → IsValue b → (ws : List Text) → rows_after drill_leaf.rules [] (a ∷ b ∷ ws) ≡ rows_from (stands (held_two a b) 3) ws
rows_two a b pa pb ws = rows_one a pa (b ∷ ws) ∙ ap (λ k. rows_from k ws) (second_next a b pb)

rows_three : (a b c : Text) → IsValue a → IsValue b → IsValue c → (ws : List Text) → rows_after drill_leaf.rules [] (a ∷ b ∷ c ∷ ws) ≡ rows_from (stands (held_three a b c) 4) ws
rows_three a b c pa pb pc ws = rows_two a b pa pb (c ∷ ws) ∙ ap (λ k. rows_from k ws) (third_next a b c pc)

-- what is found in words that are taken
pub few_rows : (ws : List Text) → AreFew ws → rows_after drill_leaf.rules [] ws ≡ rows_of_words ws
few_rows ws (no_words is) = subst (λ l. rows_after drill_leaf.rules [] l ≡ rows_of_words l) (sym is) refl
few_rows ws (one_word a pa is) = subst (λ l. rows_after drill_leaf.rules [] l ≡ rows_of_words l) (sym is) (rows_one a pa [])
few_rows ws (two_words a b pa pb is) = subst (λ l. rows_after drill_leaf.rules [] l ≡ rows_of_words l) (sym is) (rows_two a b pa pb [])
few_rows ws (three_words a b c pa pb pc is) = subst (λ l. rows_after drill_leaf.rules [] l ≡ rows_of_words l) (sym is) (rows_three a b c pa pb pc [])

no_fourth : (a b c : Text) (ws : List Text) → All IsOfTable ws → from drill_leaf (stands (held_three a b c) 4) ws ≡ [] → ws ≡ []
no_fourth a b c [] all taken = refl
no_fourth a b c (w ∷ ws) all taken =
    let is = is_value 4 (held_three a b c) w ws (All-head IsOfTable w ws all) taken in
    absurd (stops drill_leaf (stands (held_three a b c) 4) w ws kind.UnknownArgument (fourth_turn a b c w is) taken)

behind_two : (a b : Text) → IsValue a → IsValue b → (ws : List Text) → All IsOfTable ws → from drill_leaf (stands (held_two a b) 3) ws ≡ [] → AreFew (a ∷ b ∷ ws)
behind_two a b pa pb [] all taken = two_words a b pa pb refl
behind_two a b pa pb (c ∷ ws) all taken =
    let pc = is_value 3 (held_two a b) c ws (All-head IsOfTable c ws all) taken in
    let rest = sym (goes drill_leaf (stands (held_two a b) 3) c ws (stands (held_three a b c) 4) (third_turn a b c pc) (third_next a b c pc)) ∙ taken in
    three_words a b c pa pb pc (ap (λ (l : List Text). a ∷ b ∷ c ∷ l) (no_fourth a b c ws (All-tail IsOfTable c ws all) rest))

behind_one : (a : Text) → IsValue a → (ws : List Text) → All IsOfTable ws → from drill_leaf (stands (held_one a) 2) ws ≡ [] → AreFew (a ∷ ws)
behind_one a pa [] all taken = one_word a pa refl
behind_one a pa (b ∷ ws) all taken =
    let pb = is_value 2 (held_one a) b ws (All-head IsOfTable b ws all) taken in
    behind_two a b pa pb ws (All-tail IsOfTable b ws all) (sym (goes drill_leaf (stands (held_one a) 2) b ws (stands (held_two a b) 3) (second_turn a b pb) (second_next a b pb)) ∙ taken)

-- words that have no fault are few
pub drill_split : (ws : List Text) → All IsOfTable ws → from drill_leaf (stands nothing_held 1) ws ≡ [] → AreFew ws
drill_split [] all taken = no_words refl
drill_split (a ∷ ws) all taken =
    let pa = is_value 1 nothing_held a ws (All-head IsOfTable a ws all) taken in
    behind_one a pa ws (All-tail IsOfTable a ws all) (sym (goes drill_leaf (stands nothing_held 1) a ws (stands (held_one a) 2) (first_turn a pa) (first_next a pa)) ∙ taken)
