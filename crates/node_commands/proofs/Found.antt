-- What is read of words.
use Rattle.std.proofs.Common.{append_assoc, ◌≡◌, ℕ, zero, suc, ◌<◌, ◌≤◌, Bool, List, [], ◌∷◌, ◌++◌, ◌+◌, drop, length, Option, Some, None, Result, Ok, Err, refl, sym, ap, subst, ◌∙◌, codes, arith, inl, inr, IsTrue, ◌^◌}
use Rattle.std.specs.Option.{option_map}
use Rattle.std.specs.Borrow.{Bor}
use Rattle.std.specs.Str.Parse.{ParsesUnsigned}
use Rattle.std.proofs.lemmas.Fmt.{decimal_injective, parse-decimal}
use Rattle.clap.specs.Words.{Row, Text, first_of, first_value, rows_of}
use Rattle.clap.specs.declared.parser.matches.Found.{Found}
use Rattle.clap.proofs.WalkLemmas.{first_value-rows}
use Rattle.std.specs.List.{All, slice_index_or}
use Rattle.std.proofs.lemmas.Bool.{cases_lt}
use Rattle.std.proofs.lemmas.List.{get_or_default}
use Rattle.std.specs.Prelude.{map, string_bytes, String}
use Rattle.std.specs.declared.alloc.Global.{Global}
use Rattle.std.proofs.lemmas.List.Elements.{All-head, All-tail, All-cons}
use Rattle.std.specs.Box.{box_value}
use Rattle.clap.specs.declared.parser.matches.ArgMatches.TheViews.{out-ArgMatches, out-SubCommand}
use Rattle.clap.specs.Words.{HasMatchesOf, fault_of, found_of, kind_of, subcommand_name_of, subcommand_of, subcommand_rows_of}
use Rattle.clap.specs.Kinds.{HasKind, Kinds}
use Rattle.clap.specs.declared.error.Error.{Error}
use Rattle.clap.specs.declared.error.kind.ErrorKind.TheVariants as kind
use Rattle.clap.specs.declared.parser.matches.ArgMatches.{ArgMatches}
use Rattle.node_commands.specs.declared.words.wanted.Wanted.{Wanted}
use Rattle.node_commands.specs.Words.{AsksDrill, Command, DrillWords, Drilling, Given, Gives, GivesDrill, HasNumber, IsMeaning, IsNumber, IsValue, Mean, Task, TextsMean, drill_names, named, options_of, text_at, words_of}
use Rattle.node_commands.specs.Table.{IsOfTable, IsOption, IsOptionOf, IsReadAs, all_options, taos_app, plain, option, alone, joined}
use Rattle.node_commands.proofs.Made.{taos_is_simple}
use Rattle.node_commands.proofs.Meanings as law
use Rattle.std.proofs.Math.Path.{fun_ext}
use Rattle.node_commands.proofs.Rows.{AreNew, first_of_rows, rows_for}
use Rattle.node_commands.proofs.Drilled.{AreFew, no_words, one_word, two_words, three_words, rows_of_words}
use Rattle.node_commands.proofs.Levels.{IsFound, IsSplit, TakesOptions, has_options, has_words, drill_rows, line_found, line_split}
use Rattle.node_commands.proofs.Meanings.{IsTaken, TextMeaning, asked_for, is_line, meant_found, same_texts, texts_in}
use Rattle.std.specs.List.{flat_map}
use Rattle.std.proofs.lemmas.List.{append-nil, append_cancel_left}
use Rattle.std.specs.Prelude.{Contains}

pub text_found : (r : Option (Bor Text)) (f : Found) (name : Text) → option_map (λ s. s.now) r ≡ first_value f name → option_map (λ s. s.now) r ≡ first_of name (rows_of f)
text_found r f name is = is ∙ first_value-rows f name

-- a number is read as itself
number_is_read : {E : Type 0} (text : Text) (r : Result ℕ E) (n : ℕ) → ParsesUnsigned 64 10 text r → IsNumber (2 ^ 64) text n → r ≡ Ok n
number_is_read text r n parses is = parse-decimal 64 n text r is.1 is.1 is.0 parses

-- a text that is no number is not written as one
pub not_read : {E : Type 0} (text : Text) (r : Result ℕ E) (e : E) (n : ℕ) → ParsesUnsigned 64 10 text r → r ≡ Err e → IsNumber (2 ^ 64) text n → ⊥
not_read text r e n parses failed is = absurd (cc (failed, number_is_read text r n parses is))

-- what is read of a number is the number
pub is_read : {E : Type 0} (text : Text) (r : Result ℕ E) (m n : ℕ) → ParsesUnsigned 64 10 text r → r ≡ Ok m → IsNumber (2 ^ 64) text n → m ≡ n
is_read text r m n parses read is = cc (read, number_is_read text r n parses is)

-- a number of 32 bits is one of 64
pub wider : (o : Option Text) (n : ℕ) → HasNumber (2 ^ 32) o n → HasNumber (2 ^ 64) o n
wider None n is = absurd is
wider (Some text) n is = (is.0, omega (arith, is.1))

-- a text is one number, with a bound of its own
pub one_number : (o : Option Text) (m n : ℕ) → HasNumber (2 ^ 64) o m → HasNumber (2 ^ 32) o n → (m ≡ n) × (m < 2 ^ 32)
one_number None m n a b = absurd a
one_number (Some text) m n a b =
    let same : m ≡ n = decimal_injective m n a.1 (omega (arith, b.1)) (sym a.0 ∙ b.0) in
    (same, omega (arith, same, b.1))

pub narrower : (o : Option Text) (n : ℕ) → HasNumber (2 ^ 64) o n → n < 2 ^ 32 → HasNumber (2 ^ 32) o n
narrower None n is small = absurd is
narrower (Some text) n is small = (is.0, small)

-- a number is below a larger bound too
pub below_more : (small large : ℕ) → small ≤ large → (o : Option Text) (n : ℕ) → HasNumber small o n → HasNumber large o n
below_more small large le None n is = absurd is
below_more small large le (Some text) n is = (is.0, omega (arith, is.1, le))

-- so it is no number below a bound where it is one at that bound or above
pub not_below : (o : Option Text) (bound m n : ℕ) → HasNumber (2 ^ 32) o m → bound ≤ m → HasNumber bound o n → ⊥
not_below None bound m n a over b = absurd a
not_below (Some text) bound m n a over b =
    let same : m ≡ n = decimal_injective m n (omega (arith, a.1)) (omega (arith, a.1, over, b.1)) (sym a.0 ∙ b.0) in
    absurd (omega (arith, same, over, b.1))

-- a text that is no number of 64 bits is none of 32
pub none_narrower : (o : Option Text) → ((n : ℕ) → HasNumber (2 ^ 64) o n → ⊥) → (n : ℕ) → HasNumber (2 ^ 32) o n → ⊥
none_narrower o none n is = none n (wider o n is)

-- ---- the words of an option

-- the name ends here: nothing follows, or `=` (61) and what may be a value
abbrev pub EndsName : Text → Type 0
EndsName [] = Unit {0}
EndsName (x ∷ rest) = (x ≡ 61) × IsValue rest

-- behind two dashes stands its name, which ends there
pub behind_dashes : (w text name : Text) → w ≡ codes "--" ++ text → IsOption w name → (rest : Text) × (text ≡ name ++ rest) × EndsName rest
behind_dashes w text name is (alone e) = ([], append_cancel_left (codes "--") text name (sym is ∙ e) ∙ sym (append-nil name), tt)
behind_dashes w text name is (joined v e value) = (61 ∷ v, append_cancel_left (codes "--") text (name ++ codes "=" ++ v) (sym is ∙ e) ∙ append_assoc name (codes "=") v, (refl, value))

pub is_named : (w text name rest : Text) → w ≡ codes "--" ++ text → text ≡ name ++ rest → EndsName rest → IsOption w name
is_named w text name [] is named ends = alone (is ∙ ap (λ (t : Text). codes "--" ++ t) (named ∙ append-nil name))
is_named w text name (x ∷ v) is named ends =
    joined v (is ∙ ap (λ (t : Text). codes "--" ++ t) (named ∙ ap (λ (y : ℕ). name ++ y ∷ v) ends.0 ∙ sym (append_assoc name (codes "=") v))) ends.1

-- an option whose name is there ends it
pub ends_name : (w text name rest : Text) → w ≡ codes "--" ++ text → text ≡ name ++ rest → IsOption w name → EndsName rest
ends_name w text name rest is named o =
    let b = behind_dashes w text name is o in
    subst EndsName (append_cancel_left name b.0 rest (sym b.1 ∙ named)) b.2

-- what has no bytes ends a name
pub none_ends : (rest : Text) → length rest < 1 → EndsName rest
none_ends [] none = tt
none_ends (x ∷ rest) none = absurd (omega (arith, none))

-- behind `=` stands what may be a value
pub value_ends : (rest : Text) → 0 < length rest → slice_index_or rest 0 0 ≡ 61 → (IsValue (drop 1 rest) → EndsName rest) × (EndsName rest → IsValue (drop 1 rest))
value_ends [] some is = absurd (omega (arith, some))
value_ends (x ∷ rest) some is = (λ value. (is, value), λ ends. ends.1)

-- no option of the name where that does not follow the dashes
pub not_named : (w text name : Text) → w ≡ codes "--" ++ text → ((rest : Text) → text ≡ name ++ rest → ⊥) → IsOption w name → ⊥
not_named w text name is none o = let b = behind_dashes w text name is o in none b.0 b.1

-- the text of a name that is there
at_name : (names : List (Bor Text)) (i : ℕ) (n : Bor Text) (bytes d : Text) → i < length names → bytes ≡ (slice_index_or names i n).now → slice_index_or (map (λ s. s.now) names) i d ≡ bytes
at_name [] i n bytes d lt same = absurd (omega (arith, lt))
at_name (x ∷ names) zero n bytes d lt same = sym same
at_name (x ∷ names) (suc i) n bytes d lt same = at_name names i n bytes d (omega (arith, lt)) same

texts_count : (names : List (Bor Text)) → length (map (λ s. s.now) names) ≡ length names
texts_count [] = refl
texts_count (x ∷ names) = ap suc (texts_count names)

-- a name that is there is among the texts, and the name at a place below the next is one before it or this one
pub among : (names : List (Bor Text)) (i : ℕ) (n : Bor Text) (bytes : Text) → i < length names → bytes ≡ (slice_index_or names i n).now → Contains (map (λ s. s.now) names) bytes
among names i n bytes lt same = (i, omega (arith, lt, texts_count names), at_name names i n bytes bytes lt same)

pub none_more : (w : Text) (names : List (Bor Text)) (i : ℕ) (n : Bor Text) (bytes : Text) → i < length names → bytes ≡ (slice_index_or names i n).now → ((k : ℕ) (name : Text) → k < i → slice_index_or (map (λ s. s.now) names) k name ≡ name → IsOption w name → ⊥) →
    (IsOption w bytes → ⊥) → (k : ℕ) (name : Text) → k < i + 1 → slice_index_or (map (λ s. s.now) names) k name ≡ name → IsOption w name → ⊥
none_more w names i n bytes lt same none not_this k name within there o = elim (cases_lt k i) [
  | inl before ↦ none k name before there o
  | inr here ↦
      let at : k ≡ i = omega (arith, here, within) in
      not_this (subst (IsOption w) (sym there ∙ ap (λ (j : ℕ). slice_index_or (map (λ s. s.now) names) j name) at ∙ at_name names i n bytes name lt same) o)
]

pub none_at_all : (w : Text) (names : List (Bor Text)) (i : ℕ) → length names ≤ i → ((k : ℕ) (name : Text) → k < i → slice_index_or (map (λ s. s.now) names) k name ≡ name → IsOption w name → ⊥) → IsOptionOf (map (λ s. s.now) names) w → ⊥
none_at_all w names i all none o = none o.1.0 o.0 (omega (arith, o.1.1, all, texts_count names)) o.1.2 o.2

-- a word of the table is plain, or one of the options
pub of_known : (w : Text) (b : Bool) → (IsValue w → ⊥) → (IsTrue b → IsOptionOf all_options w) × (IsOptionOf all_options w → IsTrue b) → (IsTrue b → IsOfTable w) × (IsOfTable w → IsTrue b)
of_known w b dashed tells = (λ told. let o = tells.0 told in option o.0 o.1 o.2, from)
  where
    from : IsOfTable w → IsTrue b
    from (plain is) = absurd (dashed is)
    from (option n has o) = tells.1 (n, has, o)

-- ---- all words

abbrev pub OfTable : String Global → Type 0
OfTable word = IsOfTable (string_bytes word)

pub all_texts : (words : List (String Global)) → All OfTable words → All IsOfTable (map string_bytes words)
all_texts [] all = λ k d within. absurd (omega (arith, within))
all_texts (w ∷ ws) all = All-cons IsOfTable (string_bytes w) (map string_bytes ws) (All-head OfTable w ws all) (all_texts ws (All-tail OfTable w ws all))

back : (words : List (String Global)) → All IsOfTable (map string_bytes words) → All OfTable words
back [] all = λ k d within. absurd (omega (arith, within))
back (w ∷ ws) all = All-cons OfTable w ws (All-head IsOfTable (string_bytes w) (map string_bytes ws) all) (back ws (All-tail IsOfTable (string_bytes w) (map string_bytes ws) all))

-- words that mean something are of the table, and `clap` takes them
found_line : (texts : List Text) (wanted : Task) → TextsMean texts wanted → All IsOfTable texts × (fault_of taos_app texts ≡ [])
found_line texts wanted is = let f = (meant_found texts wanted is).1 in (f.known, f.no_fault)

pub all_words : (words : List (String Global)) (wanted : Task) → Mean words wanted → All OfTable words
all_words words wanted is = back words (found_line (map string_bytes words) wanted is).0

-- what `clap` refuses means nothing, but for want of memory
among_none : (e : Error) (kinds : Kinds) → kinds ≡ [] → HasKind kinds e → kind_of e ≡ kind.OutOfMemory
among_none e [] none (inl is) = is
among_none e [] none (inr is) = absurd is
among_none e (k ∷ ks) none h = absurd cc

pub refused_meaning : (words : List (String Global)) (e : Error) (wanted : Task) → HasKind (fault_of taos_app (map string_bytes words)) e → (kind_of e ≡ kind.OutOfMemory → ⊥) → Mean words wanted → ⊥
refused_meaning words e wanted has other is = other (among_none e (fault_of taos_app (map string_bytes words)) (found_line (map string_bytes words) wanted is).1 has)

-- ---- what was found

names_in : {A : Type 0} (o : Option A) (f : A → Text × List Row) → option_map (λ x. (f x).0) o ≡ option_map (λ (p : Text × List Row). p.0) (option_map f o)
names_in None f = refl
names_in (Some x) f = refl

-- a subcommand's name is that beside its rows
pub named_by_rows : (m : ArgMatches) → subcommand_name_of m ≡ option_map (λ (p : Text × List Row). p.0) (subcommand_rows_of m)
named_by_rows m = names_in (out-ArgMatches m).subcommand (λ b. ((out-SubCommand (box_value b)).name.now, rows_of (found_of (out-SubCommand (box_value b)).matches)))

-- what the texts of rows are read as, by those of options that are given
rows_texts : (given : List Given) → ◌≡◌ {A = Text → Option Text} (λ name. first_of name (rows_for given)) (texts_in given)
rows_texts given = fun_ext (λ name. first_of_rows name given)

-- the words of `drill` give the same by their places as by their rows
by_rows : (a b c : Text) (d : DrillWords) → GivesDrill (text_at drill_names (a ∷ b ∷ c ∷ [])) d → GivesDrill (λ name. first_of name (rows_of_words (a ∷ b ∷ c ∷ []))) d
by_rows a b c d g = record { seed = g.seed; requests = g.requests; lanes = g.lanes; some = g.some }

by_places : (a b c : Text) (d : DrillWords) → GivesDrill (λ name. first_of name (rows_of_words (a ∷ b ∷ c ∷ []))) d → GivesDrill (text_at drill_names (a ∷ b ∷ c ∷ [])) d
by_places a b c d g = record { seed = g.seed; requests = g.requests; lanes = g.lanes; some = g.some }

these_three : (a b c : Text) (d : DrillWords) → AsksDrill (codes "drill" ∷ a ∷ b ∷ c ∷ []) d → GivesDrill (text_at drill_names (a ∷ b ∷ c ∷ [])) d
these_three a b c d (x, y, z, is, gives) = subst (λ (l : List Text). GivesDrill (text_at drill_names (drop 1 l)) d) (sym is) gives

module _ (texts : List Text) (m : ArgMatches) (r : Option Wanted) (read : (c : Command) (rows : List Row) → subcommand_rows_of m ≡ Some (named c, rows) → IsReadAs c (λ name. first_of name rows) r)
    (same : ◌≡◌ {A = Option (Text × List Row)} (subcommand_rows_of m) (subcommand_of taos_app texts)) where
  -- a line of a command with options means what is read of these
  line_means : (c : Command) → TakesOptions c → (given : List Given) → texts ≡ named c ∷ flat_map words_of given → AreNew (options_of c) [] given → TextMeaning texts r
  line_means c t given are new = by r (subst (λ f. IsReadAs c f r) (rows_texts given) (read c (rows_for given) (same ∙ found.found)))
    where
      found : IsFound texts (named c) given
      found = subst (λ (w : List Text). IsFound w (named c) given) (sym are) (line_found c t given new)

      by : (o : Option Wanted) → IsReadAs c (texts_in given) o → TextMeaning texts o
      by (Some w) is = subst (TextsMean texts) (sym is.1) (t.means texts is.0 (given, is_line texts c given are new, is.2))
      by None none = λ task means.
          let o = asked_for texts c (rows_for given, found) task means in
          let a = t.asks texts o.0 o.1 in
          none o.0 (subst (λ f. Gives c f o.0) (same_texts texts (named c) a.0 given (law.found_line texts c t a.0 a.1) found) a.2)

  -- and one of `drill` what is read of its words
  drill_means : (ws : List Text) → texts ≡ codes "drill" ∷ ws → AreFew ws → TextMeaning texts r
  drill_means ws are few = by few r (read Drilling (rows_of_words ws) rows)
    where
      rows : ◌≡◌ {A = Option (Text × List Row)} (subcommand_rows_of m) (Some (codes "drill", rows_of_words ws))
      rows = same ∙ (ap (subcommand_of taos_app) are ∙ drill_rows ws few)

      -- `drill` has three words in a line that means it
      asked : (l : List Text) → ws ≡ l → (task : Task) → TextsMean texts task → (d : DrillWords) × AsksDrill (codes "drill" ∷ l) d
      asked l is task means =
          let f = meant_found texts task means in
          let taken : IsTaken texts (codes "drill") = (rows_of_words ws, record { known = f.1.known; no_fault = f.1.no_fault; found = ap (subcommand_of taos_app) are ∙ drill_rows ws few }) in
          let o = asked_for texts Drilling taken task means in
          (o.0, subst (λ t. AsksDrill t o.0) (are ∙ ap (λ (k : List Text). codes "drill" ∷ k) is) o.1)

      too_few : (l : List Text) → length l < 3 → (d : DrillWords) → AsksDrill (codes "drill" ∷ l) d → ⊥
      too_few l less d (seed, requests, lanes, is, gives) = absurd (omega (arith, less, ap (λ (k : List Text). length k) is))

      few_mean : (l : List Text) → ws ≡ l → length l < 3 → ((d : DrillWords) → GivesDrill (λ name. first_of name (rows_of_words l)) d → ⊥) → (o : Option Wanted) → IsReadAs Drilling (λ name. first_of name (rows_of_words ws)) o → TextMeaning texts o
      few_mean l is less lacks (Some w) read_it = absurd (lacks read_it.0 (subst (λ k. GivesDrill (λ name. first_of name (rows_of_words k)) read_it.0) is read_it.2))
      few_mean l is less lacks None none = λ task means. let o = asked l is task means in too_few l less o.0 o.1

      three_mean : (a b c : Text) → ws ≡ a ∷ b ∷ c ∷ [] → (o : Option Wanted) → IsReadAs Drilling (λ name. first_of name (rows_of_words ws)) o → TextMeaning texts o
      three_mean a b c is (Some w) read_it =
          let gives = by_places a b c read_it.0 (subst (λ k. GivesDrill (λ name. first_of name (rows_of_words k)) read_it.0) is read_it.2) in
          subst (TextsMean texts) (sym read_it.1) (a, b, c, are ∙ ap (λ (k : List Text). codes "drill" ∷ k) is, gives)
      three_mean a b c is None none = λ task means.
          let o = asked (a ∷ b ∷ c ∷ []) is task means in
          none o.0 (subst (λ k. GivesDrill (λ name. first_of name (rows_of_words k)) o.0) (sym is) (by_rows a b c o.0 (these_three a b c o.0 o.1)))

      by : AreFew ws → (o : Option Wanted) → IsReadAs Drilling (λ name. first_of name (rows_of_words ws)) o → TextMeaning texts o
      by (no_words is) o read_it = few_mean [] is (omega arith) (λ d x. x.lanes) o read_it
      by (one_word a pa is) o read_it = few_mean (a ∷ []) is (omega arith) (λ d x. x.lanes) o read_it
      by (two_words a b pa pb is) o read_it = few_mean (a ∷ b ∷ []) is (omega arith) (λ d x. x.lanes) o read_it
      by (three_words a b c pa pb pc is) o read_it = three_mean a b c is o read_it

  read_means : IsSplit texts → TextMeaning texts r
  read_means (has_options c t given are new) = line_means c t given are new
  read_means (has_words ws are few) = drill_means ws are few

as_meaning : (words : List (String Global)) (r : Option Wanted) → TextMeaning (map string_bytes words) r → IsMeaning words r
as_meaning words (Some wanted) is = is
as_meaning words None is = is

pub found_meaning : (words : List (String Global)) (m : ArgMatches) (r : Option Wanted) → All IsOfTable (map string_bytes words) → fault_of taos_app (map string_bytes words) ≡ [] → HasMatchesOf taos_app (map string_bytes words) m →
    ((c : Command) (rows : List Row) → subcommand_rows_of m ≡ Some (named c, rows) → IsReadAs c (λ name. first_of name rows) r) → IsMeaning words r
found_meaning words m r known none has read =
    let texts = map string_bytes words in
    as_meaning words r (read_means texts m r read (has taos_is_simple).1 (line_split texts known none))

-- ---- one word after the other

-- a word that is there, whatever stands in for one that is not
at_place : (words : List (String Global)) (i : ℕ) (d w : String Global) (bytes : Text) → i < length words → bytes ≡ string_bytes w → w ≡ slice_index_or words i w → string_bytes (slice_index_or words i d) ≡ bytes
at_place words i d w bytes lt spelled is = ap (λ (x : String Global). string_bytes x) (get_or_default words i d w lt ∙ sym is) ∙ sym spelled

pub more_known : (words : List (String Global)) (i : ℕ) (w : String Global) (bytes : Text) → i < length words → ((k : ℕ) (d : String Global) → k < i → OfTable (slice_index_or words k d)) →
    bytes ≡ string_bytes w → w ≡ slice_index_or words i w → IsOfTable bytes → (k : ℕ) (d : String Global) → k < i + 1 → OfTable (slice_index_or words k d)
more_known words i w bytes lt known spelled is one k d within = elim (cases_lt k i) [
  | inl before ↦ known k d before
  | inr here ↦
      let same : k ≡ i = omega (arith, here, within) in
      subst (λ (j : ℕ). OfTable (slice_index_or words j d)) (sym same) (subst IsOfTable (sym (at_place words i d w bytes lt spelled is)) one)
]

pub one_known : (words : List (String Global)) (i : ℕ) (w : String Global) (bytes : Text) → i < length words → bytes ≡ string_bytes w → w ≡ slice_index_or words i w → All OfTable words → IsOfTable bytes
one_known words i w bytes lt spelled is all = subst IsOfTable (at_place words i w w bytes lt spelled is) (all i w lt)
