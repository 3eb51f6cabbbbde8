-- What is held of options that were given: one row for each, in their order.
use Rattle.std.proofs.Common.{◌≡◌, ◌||◌, Bool, true, false, List, [], ◌∷◌, ◌++◌, map, Option, Some, None, refl, sym, ap, ◌∙◌, slice_index_or}
use Rattle.std.specs.Prelude.{cond, find, slice_get}
use Rattle.std.specs.List.{All}
use Rattle.std.specs.Option.{option_and_then, option_map}
use Rattle.std.specs.Str.{bytes_eq}
use Rattle.std.proofs.lemmas.Bool.{false≢true}
use Rattle.std.proofs.lemmas.List.Elements.{All-nil, All-head, All-tail, All-cons}
use Rattle.clap.specs.Words.{Row, Text, first_of}
use Rattle.clap.specs.declared.parser.matches.ValueSource.{ValueSource}
use Rattle.clap.specs.declared.parser.matches.ValueSource.TheVariants.{CommandLine}
use Rattle.clap.specs.declared.builder.value_parser.Reading.{Reading}
use Rattle.clap.specs.Walk.{has_row, more_values, reading_by, used, with_values, without}
use Rattle.node_commands.specs.Words.{Argument, AreOnce, Given, HasValue, Way, Joined, Apart, Alone, argument_in, option_named, value_in, value_of, valued}
use Rattle.node_commands.proofs.Options.{rule_for, two_texts, other_text}

-- the row of an option, and those of all that are given
abbrev pub row_for : Given → Row
row_for g = record { id = g.name; values = value_in g.way ∷ []; count = None; source = Some CommandLine; reading = reading_by (rule_for (valued g.name)) }

abbrev pub rows_for : List Given → List Row
rows_for given = map row_for given

-- ---- whether a row is there

or_split : (a b : Bool) → (a || b) ≡ false → (a ≡ false) × (b ≡ false)
or_split true b e = absurd (false≢true (sym e))
or_split false b e = (refl, e)

or_both : (a b : Bool) → a ≡ false → b ≡ false → (a || b) ≡ false
or_both true b e f = absurd (false≢true (sym e))
or_both false b e f = f

new_before : (name : Text) (rows : List Row) (r : Row) → has_row name (rows ++ r ∷ []) ≡ false → (has_row name rows ≡ false) × (bytes_eq r.id name ≡ false)
new_before name [] r e = (refl, (or_split (bytes_eq r.id name) false e).0)
new_before name (x ∷ rows) r e =
    let both = or_split (bytes_eq x.id name) (has_row name (rows ++ r ∷ [])) e in
    let rest = new_before name rows r both.1 in
    (or_both (bytes_eq x.id name) (has_row name rows) both.0 rest.0, rest.1)

still_new : (name : Text) (rows : List Row) (r : Row) → has_row name rows ≡ false → bytes_eq r.id name ≡ false → has_row name (rows ++ r ∷ []) ≡ false
still_new name [] r e other = or_both (bytes_eq r.id name) false other refl
still_new name (x ∷ rows) r e other =
    let both = or_split (bytes_eq x.id name) (has_row name rows) e in
    or_both (bytes_eq x.id name) (has_row name (rows ++ r ∷ [])) both.0 (still_new name rows r both.1 other)

-- ---- one row more

without_new : (name : Text) (rows : List Row) → has_row name rows ≡ false → without name rows ≡ rows
without_new name [] e = refl
without_new name (x ∷ rows) e =
    let both = or_split (bytes_eq x.id name) (has_row name rows) e in
    ap (λ (b : Bool). cond b rows (x ∷ without name rows)) both.0 ∙ ap (λ (l : List Row). x ∷ l) (without_new name rows both.1)

abbrev new_row : Text → Reading → ValueSource → List Text → Row
new_row name how s values = record { id = name; values = values; count = None; source = Some s; reading = how }

with_new : (name : Text) (how : Reading) (s : ValueSource) (values : List Text) (rows : List Row) → has_row name rows ≡ false → with_values name how s values rows ≡ rows ++ new_row name how s values ∷ []
with_new name how s values [] e = refl
with_new name how s values (x ∷ rows) e =
    let both = or_split (bytes_eq x.id name) (has_row name rows) e in
    ap (λ (b : Bool). cond b (more_values s values x ++ rows) (x ∷ with_values name how s values rows)) both.0 ∙ ap (λ (l : List Row). x ∷ l) (with_new name how s values rows both.1)

-- the values of a use
abbrev pub values_for : Way → List Text
values_for (Joined v) = v ∷ []
values_for (Apart v) = v ∷ []
values_for Alone = []

used_at : (name v : Text) (rows : List Row) → has_row name rows ≡ false → with_values name (reading_by (rule_for (valued name))) CommandLine (v ∷ []) (without name rows) ≡ rows ++ new_row name (reading_by (rule_for (valued name))) CommandLine (v ∷ []) ∷ []
used_at name v rows e =
    ap (with_values name (reading_by (rule_for (valued name))) CommandLine (v ∷ [])) (without_new name rows e) ∙ with_new name (reading_by (rule_for (valued name))) CommandLine (v ∷ []) rows e

-- an option, as it is given
abbrev given_so : Text → Way → Given
given_so name way = record { name = name; way = way }

used_so : (name : Text) (way : Way) (rows : List Row) → has_row name rows ≡ false → used (rule_for (argument_in (given_so name way))) (values_for way) rows ≡ rows ++ row_for (given_so name way) ∷ []
used_so name (Joined v) rows e = used_at name v rows e
used_so name (Apart v) rows e = used_at name v rows e
used_so name Alone rows e = used_at name [] rows e

-- an option that was not there has its row at the end
pub used_new : (g : Given) (rows : List Row) → has_row g.name rows ≡ false → used (rule_for (argument_in g)) (values_for g.way) rows ≡ rows ++ row_for g ∷ []
used_new g rows e = used_so g.name g.way rows e

-- ---- options that may be given behind these

-- each is given as the command's option of its name is, with what may be a value, and has no row yet
abbrev pub AreNew : List Argument → List Row → List Given → Type 0
AreNew options rows [] = Unit {0}
AreNew options rows (g ∷ gs) = (option_named options g.name ≡ Some (argument_in g)) × (has_row g.name rows ≡ false) × HasValue g.way × AreNew options (rows ++ row_for g ∷ []) gs

all_new : (options : List Argument) (rows : List Row) (gs : List Given) → AreNew options rows gs → All (λ g. has_row g.name rows ≡ false) gs
all_new options rows [] h = All-nil (λ (g : Given). has_row g.name rows ≡ false)
all_new options rows (g ∷ gs) h =
    let rest = all_new options (rows ++ row_for g ∷ []) gs h.3 in
    All-cons (λ (x : Given). has_row x.name rows ≡ false) g gs h.1 (λ k d within. (new_before (slice_index_or gs k d).name rows (row_for g) (rest k d within)).0)

pub all_known : (options : List Argument) (rows : List Row) (gs : List Given) → AreNew options rows gs → All (λ g. option_named options g.name ≡ Some (argument_in g)) gs
all_known options rows [] h = All-nil (λ (g : Given). option_named options g.name ≡ Some (argument_in g))
all_known options rows (g ∷ gs) h = All-cons (λ (x : Given). option_named options x.name ≡ Some (argument_in x)) g gs h.0 (all_known options (rows ++ row_for g ∷ []) gs h.3)

pub are_once : (options : List Argument) (rows : List Row) (gs : List Given) → AreNew options rows gs → AreOnce gs
are_once options rows [] h = tt
are_once options rows (g ∷ gs) h =
    let rest = all_new options (rows ++ row_for g ∷ []) gs h.3 in (
      λ k d within same. two_texts g.name (slice_index_or gs k d).name (new_before (slice_index_or gs k d).name rows (row_for g) (rest k d within)).1 (sym same),
      are_once options (rows ++ row_for g ∷ []) gs h.3,
    )

pub have_values : (options : List Argument) (rows : List Row) (gs : List Given) → AreNew options rows gs → All (λ g. HasValue g.way) gs
have_values options rows [] h = All-nil (λ (g : Given). HasValue g.way)
have_values options rows (g ∷ gs) h = All-cons (λ (x : Given). HasValue x.way) g gs h.2 (have_values options (rows ++ row_for g ∷ []) gs h.3)

are_new : (options : List Argument) (rows : List Row) (gs : List Given) → All (λ g. option_named options g.name ≡ Some (argument_in g)) gs → AreOnce gs → All (λ g. HasValue g.way) gs → All (λ g. has_row g.name rows ≡ false) gs → AreNew options rows gs
are_new options rows [] known once values new = tt
are_new options rows (g ∷ gs) known once values new =
    let rest = All-tail (λ (x : Given). has_row x.name rows ≡ false) g gs new in (
      All-head (λ (x : Given). option_named options x.name ≡ Some (argument_in x)) g gs known,
      All-head (λ (x : Given). has_row x.name rows ≡ false) g gs new,
      All-head (λ (x : Given). HasValue x.way) g gs values,
      are_new options (rows ++ row_for g ∷ []) gs (All-tail (λ (x : Given). option_named options x.name ≡ Some (argument_in x)) g gs known) once.1 (All-tail (λ (x : Given). HasValue x.way) g gs values)
          (λ k d within. still_new (slice_index_or gs k d).name rows (row_for g) (rest k d within) (other_text g.name (slice_index_or gs k d).name (λ same. once.0 k d within (sym same)))),
    )

-- options that are each given once can be given from the start
pub all_are_new : (options : List Argument) (gs : List Given) → All (λ g. option_named options g.name ≡ Some (argument_in g)) gs → AreOnce gs → All (λ g. HasValue g.way) gs → AreNew options [] gs
all_are_new options gs known once values = are_new options [] gs known once values (λ k d within. refl)

-- ---- what is read of rows

abbrev first_in_rows : Given → List Given → Text → Bool → Option Text
first_in_rows g gs name b = option_and_then (λ (r : Row). slice_get r.values 0) (cond b (Some (row_for g)) (find (λ (r : Row). bytes_eq r.id name) (rows_for gs)))

abbrev first_in_given : Given → List Given → Text → Bool → Option Text
first_in_given g gs name b = option_map (λ (x : Given). value_in x.way) (cond b (Some g) (find (λ (x : Given). bytes_eq x.name name) gs))

first_is : (g : Given) (gs : List Given) (name : Text) (b : Bool) → bytes_eq g.name name ≡ b → first_of name (rows_for gs) ≡ value_of name gs → first_of name (rows_for (g ∷ gs)) ≡ value_of name (g ∷ gs)
first_is g gs name true is rest = ap (first_in_rows g gs name) is ∙ sym (ap (first_in_given g gs name) is)
first_is g gs name false is rest = ap (first_in_rows g gs name) is ∙ rest ∙ sym (ap (first_in_given g gs name) is)

pub first_of_rows : (name : Text) (gs : List Given) → first_of name (rows_for gs) ≡ value_of name gs
first_of_rows name [] = refl
first_of_rows name (g ∷ gs) = first_is g gs name (bytes_eq g.name name) refl (first_of_rows name gs)
