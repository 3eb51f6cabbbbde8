-- What words mean: one command.
use Rattle.std.proofs.Common.{◌≡◌, ℕ, zero, suc, ◌<◌, ◌≤◌, ◌^◌, List, [], ◌∷◌, drop, length, get_or, Option, Some, None, refl, sym, ap, subst, ◌∙◌, codes, decimal, arith}
use Rattle.std.specs.List.{flat_map}
use Rattle.std.proofs.Math.Path.{fun_ext}
use Rattle.std.proofs.lemmas.Fmt.{decimal_digit, decimal_nonempty, first_decimal, decimal_injective}
use Rattle.std.proofs.lemmas.Option.{same_Some}
use Rattle.clap.specs.Words.{Row, Text, first_of}
use Rattle.frame_link.specs.declared.limits.Limits.{Limits}
use Rattle.node_commands.specs.declared.words.wanted.Wanted.{Wanted}
use Rattle.node_commands.specs.Words.{Asked, AsksDrill, Command, Default, DrillWords, Given, Gives, GivesDrill, GivesLimits, GivesMint, GivesPath, GivesRun, GivesServe, HasNumber, HasRoute, IsCount, IsLine, IsNumber, IsValue, MintWords, PathWords, RunWords, ServeWords, Task, TextsMean, drill_names, named, options_of, task_for, task_of, text_at, value_of, words_of}
use Rattle.node_commands.specs.Words.{Running, Checking, Relaying, Minting, Serving, RelayServing, Auditing, Drilling, Carrying, Giving, AuditingBytes, Replaying}
use Rattle.node_commands.proofs.Rows.{AreNew, all_are_new, all_known, are_once, first_of_rows, have_values, rows_for}
use Rattle.node_commands.proofs.Drilled.{rows_of_words}
use Rattle.node_commands.proofs.Levels.{IsFound, IsKind, IsTakenAs, TakesOptions, by_options, by_words, drill_found, kind_for, line_found}
use Rattle.node_commands.proofs.Routes.{one_route}
use Rattle.node_commands.proofs.Tasks.{asked_of, command_of, command_named, command_named-named}

-- ---- values

count_first : (n : ℕ) → 1 ≤ n → n < 2 ^ 64 → (v : Text) → v ≡ decimal n → IsValue v
count_first n some small [] is = absurd (omega (arith, decimal_nonempty n small, ap (λ (l : List ℕ). length l) is))
count_first n some small (x ∷ v) is = λ dash. omega (arith, dash, first_decimal n some small, ap (λ (l : List ℕ). get_or l 0 0) is)

zero_value : (text : Text) → text ≡ decimal 0 → IsValue text
zero_value text is = subst IsValue (sym (is ∙ decimal_digit 0 (omega arith))) (λ dash. omega (arith, dash))

-- a number may be a value
number_value : (bound : ℕ) → bound ≤ 2 ^ 64 → (text : Text) (n : ℕ) → IsNumber bound text n → IsValue text
number_value bound small text zero is = zero_value text is.0
number_value bound small text (suc n) is = count_first (suc n) (omega arith) (omega (arith, is.1, small)) text is.0

-- ---- lines

-- a line of a command that has options is taken as it, and what is taken so is such a line
pub is_line : (words : List Text) (c : Command) (given : List Given) → words ≡ named c ∷ flat_map words_of given → AreNew (options_of c) [] given → IsLine words (named c) (options_of c) given
is_line words c given are new = record { are = are; known = all_known (options_of c) [] given new; once = are_once (options_of c) [] given new; values = have_values (options_of c) [] given new }

pub found_line : (words : List Text) (c : Command) → TakesOptions c → (given : List Given) → IsLine words (named c) (options_of c) given → IsFound words (named c) given
found_line words c t given l = subst (λ (w : List Text). IsFound w (named c) given) (sym l.are) (line_found c t given (all_are_new (options_of c) given l.known l.once l.values))

-- words are one command, and give each option one value
same_pair : (words : List Text) (a b : Text) (p q : List Row) → IsTakenAs words a p → IsTakenAs words b q → ◌≡◌ {A = Text × List Row} (a, p) (b, q)
same_pair words a b p q f g = same_Some _ _ (sym f.found ∙ g.found)

same_command : (words : List Text) (a b : Text) (p q : List Row) → IsTakenAs words a p → IsTakenAs words b q → a ≡ b
same_command words a b p q f g = ap (λ (x : Text × List Row). x.0) (same_pair words a b p q f g)

same_value : (words : List Text) (a : Text) (gs hs : List Given) → IsFound words a gs → IsFound words a hs → (name : Text) → value_of name gs ≡ value_of name hs
same_value words a gs hs f g name = sym (first_of_rows name gs) ∙ ap (λ (p : Text × List Row). first_of name p.1) (same_pair words a a (rows_for gs) (rows_for hs) f g) ∙ first_of_rows name hs

-- the texts that options have
abbrev pub texts_in : List Given → Text → Option Text
texts_in given = λ name. value_of name given

pub same_texts : (words : List Text) (a : Text) (gs hs : List Given) → IsFound words a gs → IsFound words a hs → texts_in gs ≡ texts_in hs
same_texts words a gs hs f g = fun_ext (same_value words a gs hs f g)

-- ---- what a command's words give

-- what means something is a line that is taken
abbrev pub IsTaken : List Text → Text → Type 0
IsTaken words command = (rows : List Row) × IsTakenAs words command rows

asked_drill : (words : List Text) (d : DrillWords) → AsksDrill words d → IsTaken words (codes "drill")
asked_drill words d (seed, requests, lanes, are, gives) = (
  rows_of_words (seed ∷ requests ∷ lanes ∷ []),
  subst (λ (w : List Text). IsTakenAs w (codes "drill") (rows_of_words (seed ∷ requests ∷ lanes ∷ []))) (sym are)
      (drill_found seed requests lanes (number_value (2 ^ 64) (omega arith) seed d.seed gives.seed) (number_value 10001 (omega arith) requests d.requests gives.requests) (number_value 17 (omega arith) lanes d.lanes gives.lanes)),
)

task_found : (words : List Text) (c : Command) → IsKind c → (x : Asked c) → TextsMean words (task_for c x) → IsTaken words (named c)
task_found words c (by_options t) x is = let a = t.asks words x is in (rows_for a.0, found_line words c t a.0 a.1)
task_found words c (by_words drills) x is = subst (λ (k : Command). (y : Asked k) → TextsMean words (task_for k y) → IsTaken words (named k)) (sym drills) (asked_drill words) x is

pub meant_found : (words : List Text) (t : Task) → TextsMean words t → IsTaken words (named (command_of t))
meant_found words t is = let one = asked_of t in task_found words (command_of t) (kind_for (command_of t)) one.0 (subst (TextsMean words) (sym one.1) is)

-- words that are taken as a command mean nothing but a task of this command
of_command : (words : List Text) (c : Command) → IsTaken words (named c) → (t : Task) → TextsMean words t → (x : Asked c) × (task_for c x ≡ t)
of_command words c taken t is =
    let found = meant_found words t is in
    let names : named (command_of t) ≡ named c = same_command words (named (command_of t)) (named c) found.0 taken.0 found.1 taken.1 in
    let same : command_of t ≡ c = sym (command_named-named (command_of t)) ∙ ap command_named names ∙ command_named-named c in
    subst (λ (k : Command). (x : Asked k) × (task_for k x ≡ t)) same (asked_of t)

pub asked_for : (words : List Text) (c : Command) → IsTaken words (named c) → (t : Task) → TextsMean words t → (x : Asked c) × TextsMean words (task_for c x)
asked_for words c taken t is =
    let o = of_command words c taken t is in
    (o.0, subst (TextsMean words) (sym o.1) is)

-- ---- one meaning

-- an option is read in one way where a text is
module _ {X : Type 0} (reads : Text → X → Type 0) (one : (text : Text) (x y : X) → reads text x → reads text y → x ≡ y) where
  same_default : (other : X) (o : Option Text) (x y : X) → Default reads other o x → Default reads other o y → x ≡ y
  same_default other None x y a b = a ∙ sym b
  same_default other (Some text) x y a b = one text x y a b

same_count : (text : Text) (m n : ℕ) → IsCount text m → IsCount text n → m ≡ n
same_count text m n a b = decimal_injective m n a.2 b.2 (sym a.0 ∙ b.0)

pub same_number : (o : Option Text) (bound m n : ℕ) → bound ≤ 2 ^ 64 → HasNumber bound o m → HasNumber bound o n → m ≡ n
same_number None bound m n small a b = absurd a
same_number (Some v) bound m n small a b = decimal_injective m n (omega (arith, a.1, small)) (omega (arith, b.1, small)) (sym a.0 ∙ b.0)

same_limits : (text_of : Text → Option Text) (m n : Limits) → GivesLimits text_of m → GivesLimits text_of n → m ≡ n
same_limits text_of m n a b = by
    (same_default IsCount same_count _ (text_of (codes "connections")) m.connections n.connections a.connections b.connections)
    (same_default IsCount same_count _ (text_of (codes "frames")) m.frames n.frames a.frames b.frames)
  where
    by : m.connections ≡ n.connections → m.frames ≡ n.frames → m ≡ n
    by connections frames = λ i. record { connections = connections i; frames = frames i }

same_mint : (text_of : Text → Option Text) (m n : MintWords) → GivesMint text_of m → GivesMint text_of n → m ≡ n
same_mint text_of m n a b = by
    (same_number (text_of (codes "issuer")) (2 ^ 32) m.issuer n.issuer (omega arith) a.issuer b.issuer)
    (same_number (text_of (codes "serial")) (2 ^ 64) m.serial n.serial (omega arith) a.serial b.serial)
    (sym a.from ∙ b.from)
    (same_Some m.until n.until (sym a.until ∙ b.until))
    (sym a.quoted ∙ b.quoted)
    (same_Some m.left n.left (sym a.left ∙ b.left))
    (same_Some m.right n.right (sym a.right ∙ b.right))
  where
    by : m.issuer ≡ n.issuer → m.serial ≡ n.serial → m.from ≡ n.from → m.until ≡ n.until → m.quoted ≡ n.quoted → m.left ≡ n.left → m.right ≡ n.right → m ≡ n
    by issuer serial from until quoted left right = λ i. record { issuer = issuer i; serial = serial i; from = from i; until = until i; quoted = quoted i; left = left i; right = right i }

same_drill : (text_of : Text → Option Text) (m n : DrillWords) → GivesDrill text_of m → GivesDrill text_of n → m ≡ n
same_drill text_of m n a b = by
    (same_number (text_of (codes "seed")) (2 ^ 64) m.seed n.seed (omega arith) a.seed b.seed)
    (same_number (text_of (codes "requests")) 10001 m.requests n.requests (omega arith) a.requests b.requests)
    (same_number (text_of (codes "lanes")) 17 m.lanes n.lanes (omega arith) a.lanes b.lanes)
  where
    by : m.seed ≡ n.seed → m.requests ≡ n.requests → m.lanes ≡ n.lanes → m ≡ n
    by seed requests lanes = λ i. record { seed = seed i; requests = requests i; lanes = lanes i }

same_path : (text_of : Text → Option Text) (m n : PathWords) → GivesPath text_of m → GivesPath text_of n → m ≡ n
same_path text_of m n a b = by
    (same_number (text_of (codes "node")) (2 ^ 32) m.node n.node (omega arith) a.node b.node)
    (same_route (text_of (codes "route")) m.route n.route a.route b.route)
  where
    same_route : (o : Option Text) (r s : List ℕ) → HasRoute o r → HasRoute o s → r ≡ s
    same_route None r s x y = absurd x
    same_route (Some text) r s x y = one_route text r s x y

    by : m.node ≡ n.node → m.route ≡ n.route → m ≡ n
    by node route = λ i. record { node = node i; route = route i }

same_lemma_count : (text : Text) (m n : ℕ) → IsNumber 1025 text m → IsNumber 1025 text n → m ≡ n
same_lemma_count text m n a b = decimal_injective m n (omega (arith, a.1)) (omega (arith, b.1)) (sym a.0 ∙ b.0)

same_run : (text_of : Text → Option Text) (m n : RunWords) → GivesRun text_of m → GivesRun text_of n → m ≡ n
same_run text_of m n a b = by
    (same_default IsCount same_count _ (text_of (codes "frames")) m.frames n.frames a.frames b.frames)
    (same_default (IsNumber 1025) same_lemma_count 0 (text_of (codes "lemmas")) m.lemmas n.lemmas a.lemmas b.lemmas)
    (a.pulls ∙ sym b.pulls)
  where
    by : m.frames ≡ n.frames → m.lemmas ≡ n.lemmas → m.pulls ≡ n.pulls → m ≡ n
    by frames lemmas pulls = λ i. record { frames = frames i; lemmas = lemmas i; pulls = pulls i }

same_serve : (text_of : Text → Option Text) (m n : ServeWords) → GivesServe text_of m → GivesServe text_of n → m ≡ n
same_serve text_of m n a b = by
    (same_limits text_of m.limits n.limits a.limits b.limits)
    (same_default (IsNumber 1025) same_lemma_count 0 (text_of (codes "lemmas")) m.lemmas n.lemmas a.lemmas b.lemmas)
    (a.pulls ∙ sym b.pulls)
  where
    by : m.limits ≡ n.limits → m.lemmas ≡ n.lemmas → m.pulls ≡ n.pulls → m ≡ n
    by limits lemmas pulls = λ i. record { limits = limits i; lemmas = lemmas i; pulls = pulls i }

-- texts give one thing
same_given : (c : Command) (text_of : Text → Option Text) (x y : Asked c) → Gives c text_of x → Gives c text_of y → x ≡ y
same_given Running text_of x y a b = same_run text_of x y a b
same_given Checking text_of x y a b = refl
same_given Relaying text_of x y a b = same_default IsCount same_count _ (text_of (codes "frames")) x y a b
same_given Minting text_of x y a b = same_mint text_of x y a b
same_given Serving text_of x y a b = same_serve text_of x y a b
same_given RelayServing text_of x y a b = same_limits text_of x y a b
same_given Auditing text_of x y a b = same_default IsCount same_count _ (text_of (codes "frames")) x y a b
same_given Drilling text_of x y a b = same_drill text_of x y a b
same_given Carrying text_of x y a b = same_path text_of x y a b
same_given Giving text_of x y a b = same_default IsCount same_count _ (text_of (codes "frames")) x y a b
same_given AuditingBytes text_of x y a b = same_default IsCount same_count _ (text_of (codes "frames")) x y a b
same_given Replaying text_of x y a b = refl

-- and so do words
asked_once : (words : List Text) (d e : DrillWords) → AsksDrill words d → AsksDrill words e → d ≡ e
asked_once words d e (s, r, l, are, a) (s', r', l', are', b) =
    same_drill (text_at drill_names (s' ∷ r' ∷ l' ∷ [])) d e (subst (λ (w : List Text). GivesDrill (text_at drill_names (drop 1 w)) d) (sym are ∙ are') a) b

same_asked : (words : List Text) (c : Command) → IsKind c → (x y : Asked c) → TextsMean words (task_for c x) → TextsMean words (task_for c y) → x ≡ y
same_asked words c (by_options t) x y p q =
    let a = t.asks words x p in
    let b = t.asks words y q in
    let same = same_texts words (named c) a.0 b.0 (found_line words c t a.0 a.1) (found_line words c t b.0 b.1) in
    same_given c (texts_in b.0) x y (subst (λ f. Gives c f x) same a.2) b.2
same_asked words c (by_words drills) x y p q =
    subst (λ (k : Command). (v w : Asked k) → TextsMean words (task_for k v) → TextsMean words (task_for k w) → v ≡ w) (sym drills) (asked_once words) x y p q

pub one_meaning : (words : List Text) (a b : Task) → TextsMean words a → TextsMean words b → a ≡ b
one_meaning words a b x y =
    let c = command_of a in
    let one = asked_of a in
    let other = of_command words c (meant_found words a x) b y in
    let same : one.0 ≡ other.0 = same_asked words c (kind_for c) one.0 other.0 (subst (TextsMean words) (sym one.1) x) (subst (TextsMean words) (sym other.1) y) in
    sym one.1 ∙ ap (task_for c) same ∙ other.1

-- ---- what is read

-- what is found is what the texts mean
abbrev pub TextMeaning : List Text → Option Wanted → Type 0
TextMeaning texts (Some wanted) = TextsMean texts (task_of wanted)
TextMeaning texts None = (wanted : Task) → TextsMean texts wanted → ⊥
