-- The lines of a page for Prometheus (its text format, version 0.0.4): of each family what it is, and then its samples.
use Rattle.std.specs.Prelude.{ℕ, codes, decimal, get_or, List, ◌++◌}
use Rattle.std.specs.List.{enumerate_from, flat_map}

-- what a family is: what it counts, in words, and of which kind it is
abbrev pub heading : (name help kind : List ℕ) → List ℕ
heading name help kind =
    codes "# HELP " ++ name ++ codes " " ++ help ++ codes "\n# TYPE " ++ name ++ codes " " ++ kind
    ++ codes "\n"

-- by what a sample is told from the others of its family
abbrev pub label : (key word : List ℕ) → List ℕ
label key word = codes "{" ++ key ++ codes "=\"" ++ word ++ codes "\"}"

-- the value of a sample, and the end of its line
abbrev pub valued : ℕ → List ℕ
valued value = codes " " ++ decimal value ++ codes "\n"

-- a sample that is alone in its family
abbrev pub plain : (name : List ℕ) → ℕ → List ℕ
plain name value = name ++ valued value

-- a sample among others: its name, its label and its value
abbrev pub sample : (name labels : List ℕ) → ℕ → List ℕ
sample name labels value = name ++ labels ++ valued value

-- a family of one sample
abbrev pub single : (name help kind : List ℕ) → ℕ → List ℕ
single name help kind value = heading name help kind ++ plain name value

-- one line for each of some things, in order, by its place from 0
abbrev pub each_line : {E : Type 0} → (ℕ → E → List ℕ) → List E → List ℕ
each_line line_at things = flat_map (λ x. line_at x.0 x.1) (enumerate_from 0 things)

-- a sample for each word, whose value is the count at its place
abbrev pub rows : (name key : List ℕ) → (words : List (List ℕ)) → (counts : List ℕ) → List ℕ
rows name key words counts =
    each_line (λ place word. sample name (label key word) (get_or counts place 0)) words
