-- Printed lines as a node file takes them, one after another.
use Rattle.std.proofs.Common.{◌≡◌, ℕ, ◌+◌, ◌<◌, false, true, not, List, [], ◌∷◌, ◌++◌, length, Option, Some, Ok, refl, sym, ap, subst, ◌∙◌, arith}
use Rattle.std.specs.Prelude.{codes}
use Rattle.std.specs.List.{list_all}
use Rattle.byte_fields.specs.Steps.{◌>>=◌}
use Rattle.prin_text.specs.Tokens.{is_blank}
use Rattle.prin_text.specs.declared.lines.fault.FileCause.TheVariants.{UnknownWord}
use Rattle.node_file.specs.declared.node_text.kind.LineKind.{LineKind}
use Rattle.node_file.specs.declared.node_text.kind.LineKind.TheVariants as kinds
use Rattle.node_file.specs.declared.node_text.kind.Setting.TheVariants as settings
use Rattle.prin_text.specs.Fields.{if_plain, some_or}
use Rattle.prin_text.specs.FileLines.{lines_make}
use Rattle.prin_text.specs.Lines.{is_plain, is_skipped}
use Rattle.node_file.specs.NodeFile.{Draft, adds, node_step}
use Rattle.node_file.specs.NodeLines.{kind_of}
use Rattle.prin_text.proofs.Plain.{plain_says}
use Rattle.node_file.proofs.Kept.{any_step}
use Rattle.node_file.proofs.PrintedWords.{ArePlain, IsWord, plain_append, word_first}

-- the line can stand in a file and is taken: below what is said so far, this is said
pub record Takes (d : Draft) (line : List ℕ) (more : Draft) : Type 0 where
  pub read : is_skipped line ≡ false
  pub plain : is_plain line ≡ true
  pub said : node_step d line ≡ Ok more

-- so are the lines, one after another
abbrev pub Goes : Draft → List (List ℕ) → Draft → Type 0
Goes d [] e = d ≡ e
Goes d (line ∷ rest) e = (more : Draft) × Takes d line more × Goes more rest e

pub goes_append : (xs ys : List (List ℕ)) (d more e : Draft) → Goes d xs more → Goes more ys e → Goes d (xs ++ ys) e
goes_append [] ys d more e first second = subst (λ (x : Draft). Goes x ys e) (sym first) second
goes_append (x ∷ xs) ys d more e first second = (first.0, first.1, goes_append xs ys first.0 more e first.2 second)

pub goes_plain : (xs : List (List ℕ)) (d e : Draft) → Goes d xs e → ArePlain xs
goes_plain [] d e goes = tt
goes_plain (x ∷ xs) d e goes = (goes.1.plain, goes_plain xs goes.0 e goes.2)

pub goes_made : (xs : List (List ℕ)) (number : ℕ) (d e : Draft) → Goes d xs e → lines_make any_step number (Some d) xs ≡ Ok (Some e)
goes_made [] number d e goes = ap (λ (x : Draft). Ok (Some x)) goes
goes_made (x ∷ xs) number d e goes = rw (goes.1.read, goes.1.said) (goes_made xs (number + 1) goes.0 e goes.2)

-- ---- the word in front of a line

abbrev pub word_of : LineKind → List ℕ
word_of (kinds.Setting settings.Node) = codes "node"
word_of (kinds.Setting settings.Shards) = codes "shards"
word_of (kinds.Setting settings.Keep) = codes "keep"
word_of (kinds.Setting settings.Journal) = codes "journal"
word_of kinds.Name = codes "name"
word_of kinds.Role = codes "role"
word_of kinds.Channel = codes "channel"
word_of kinds.Anchor = codes "anchor"
word_of kinds.Common = codes "common"
word_of kinds.Object = codes "object"
word_of kinds.Content = codes "content"
word_of kinds.Allow = codes "allow"

-- it is one, tells what the line is about, and is no comment
record Begins (kind : LineKind) : Type 0 where
  pub is_word : IsWord (word_of kind)
  pub known : kind_of (word_of kind) ≡ Some kind
  pub reads : (tail : List ℕ) → is_skipped (word_of kind ++ 32 ∷ tail) ≡ false

begun_by : (kind : LineKind) → 0 < length (word_of kind) → list_all (λ b. not (is_blank b)) (word_of kind) ≡ true → is_plain (word_of kind) ≡ true → kind_of (word_of kind) ≡ Some kind
    → ((tail : List ℕ) → is_skipped (word_of kind ++ 32 ∷ tail) ≡ false) → Begins kind
begun_by kind some inner plain known reads = record { is_word = record { some = some; inner = inner; plain = plain }; known = known; reads = reads }

begins : (kind : LineKind) → Begins kind
unfolding kind_of
begins (kinds.Setting settings.Node) = begun_by (kinds.Setting settings.Node) (omega arith) refl refl refl (λ tail. refl)
begins (kinds.Setting settings.Shards) = begun_by (kinds.Setting settings.Shards) (omega arith) refl refl refl (λ tail. refl)
begins (kinds.Setting settings.Keep) = begun_by (kinds.Setting settings.Keep) (omega arith) refl refl refl (λ tail. refl)
begins (kinds.Setting settings.Journal) = begun_by (kinds.Setting settings.Journal) (omega arith) refl refl refl (λ tail. refl)
begins kinds.Name = begun_by kinds.Name (omega arith) refl refl refl (λ tail. refl)
begins kinds.Role = begun_by kinds.Role (omega arith) refl refl refl (λ tail. refl)
begins kinds.Channel = begun_by kinds.Channel (omega arith) refl refl refl (λ tail. refl)
begins kinds.Anchor = begun_by kinds.Anchor (omega arith) refl refl refl (λ tail. refl)
begins kinds.Common = begun_by kinds.Common (omega arith) refl refl refl (λ tail. refl)
begins kinds.Object = begun_by kinds.Object (omega arith) refl refl refl (λ tail. refl)
begins kinds.Content = begun_by kinds.Content (omega arith) refl refl refl (λ tail. refl)
begins kinds.Allow = begun_by kinds.Allow (omega arith) refl refl refl (λ tail. refl)

pub word_is : (kind : LineKind) → IsWord (word_of kind)
word_is kind = (begins kind).is_word

-- ---- one line

step_is : (d : Draft) (kind : LineKind) (tail : List ℕ) → is_plain (word_of kind ++ 32 ∷ tail) ≡ true → node_step d (word_of kind ++ 32 ∷ tail) ≡ adds d kind (32 ∷ tail)
unfolding node_step
step_is d kind tail plain =
    let word = word_of kind in
    let line = word ++ 32 ∷ tail in
    ap (λ (w : List ℕ × List ℕ). some_or UnknownWord (kind_of w.0) >>= λ kind. if_plain line (adds d kind w.1)) (word_first word tail (word_is kind))
    ∙ ap (λ (k : Option LineKind). some_or UnknownWord k >>= λ kind. if_plain line (adds d kind (32 ∷ tail))) (begins kind).known
    ∙ plain_says line (adds d kind (32 ∷ tail)) plain

pub takes_line : (d more : Draft) (kind : LineKind) (tail : List ℕ) → is_plain tail ≡ true → adds d kind (32 ∷ tail) ≡ Ok more → Takes d (word_of kind ++ 32 ∷ tail) more
takes_line d more kind tail plain added =
    let whole = plain_append (word_of kind) (32 ∷ tail) (word_is kind).plain plain in
    record { read = (begins kind).reads tail; plain = whole; said = step_is d kind tail whole ∙ added }
