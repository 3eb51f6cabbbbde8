-- Numbers by their texts, as a map that the program looks them up in.
use Rattle.std.specs.Prelude.{◌≡◌, ℕ, List, Option, Vec}
use Rattle.std.specs.BTreeMap.{BTreeMap, get_by}
use Rattle.std.specs.Cmp.Lexicographic.{slice_cmp}
use Rattle.std.specs.Ordering.{nat_cmp}
use Rattle.prin_text.specs.Labels.{Rows, number_of}

module _ {Y : Type 0} where
  -- the number that the map has at the text
  abbrev pub number_at_text : BTreeMap (Vec ℕ Y) ℕ → List ℕ → Option ℕ
  number_at_text map text = get_by (λ key. slice_cmp nat_cmp text key.items) map

  -- the map has the number of each text of the rows, and no other
  abbrev pub IsIndexOf : BTreeMap (Vec ℕ Y) ℕ → Rows → Type 0
  IsIndexOf map rows = (text : List ℕ) → number_at_text map text ≡ number_of rows text
