-- Lines that are printed one after another, of the elements of a list by their places.
use Rattle.std.proofs.Common.{◌≡◌, ℕ, suc, ◌+◌, ◌≤◌, List, [], ◌∷◌, ◌++◌, length, map, take, Some, None, refl, sym, ap, ◌∙◌, append_assoc, append-nil, arith, inl, inr}
use Rattle.std.specs.Prelude.{slice_get}
use Rattle.std.specs.List.{flat_map}
use Rattle.std.proofs.Math.Seq.{take-suc}
use Rattle.std.proofs.lemmas.Grind.{flat_map-append}
use Rattle.std.proofs.lemmas.List.{flat_map_more, take_all}
use Rattle.std.proofs.lemmas.List.Folds.{flat_map-map}
use Rattle.std.proofs.lemmas.Option.{get_or_from_slice_get, none-some, slice_get_cases, slice_get_within}
use Rattle.node_file.specs.FilePrinting.{ended, text_of_lines}

pub past : {A : Type 0} (xs : List A) (i : ℕ) → slice_get xs i ≡ None → length xs ≤ i
past xs i gone = elim (slice_get_cases xs i).1 [
  | inl there ↦ absurd (none-some there.0 (sym gone ∙ there.2))
  | inr beyond ↦ beyond.0
]

-- ---- elements by their places

-- what stood there, the elements before the place, and this one
pub more_of : {A : Type 0} (f : A → List ℕ) (xs : List A) (i : ℕ) (x : A) (old now later : List ℕ) → slice_get xs i ≡ Some x
    → now ≡ old ++ flat_map f (take i xs) → later ≡ now ++ f x → later ≡ old ++ flat_map f (take (i + 1) xs)
more_of f xs i x old now later here before pushed =
    let next : i + 1 ≡ suc i = omega arith in
    let longer : take (i + 1) xs ≡ take i xs ++ x ∷ [] = ap (λ n. take n xs) next ∙ take-suc xs i x (slice_get_within xs i x here) ∙ ap (λ y. take i xs ++ y ∷ []) (get_or_from_slice_get xs i x x here) in
    pushed ∙ ap (λ l. l ++ f x) before ∙ flat_map_more f old (take i xs) x ∙ ap (λ l. old ++ flat_map f l) (sym longer)

pub all_of : {A : Type 0} (f : A → List ℕ) (xs : List A) (i : ℕ) (old now : List ℕ) → length xs ≤ i
    → now ≡ old ++ flat_map f (take i xs) → now ≡ old ++ flat_map f xs
all_of f xs i old now gone before = before ∙ ap (λ l. old ++ flat_map f l) (take_all i xs gone)

-- where there is no element at the place, nothing is lacking
pub none_more : {A : Type 0} (f : A → List ℕ) (xs : List A) (i : ℕ) (old now : List ℕ) → slice_get xs i ≡ None
    → now ≡ old ++ flat_map f (take i xs) → now ≡ old ++ flat_map f (take (i + 1) xs)
none_more f xs i old now gone before =
    let end = past xs i gone in
    all_of f xs i old now end before ∙ ap (λ l. old ++ flat_map f l) (sym (take_all (i + 1) xs (omega (arith, end))))

-- ---- a line for each element

module _ {A : Type 0} (line : A → List ℕ) (xs : List A) (i : ℕ) (old : List ℕ) where
  pub more_lines : (x : A) (now later : List ℕ) → slice_get xs i ≡ Some x → now ≡ old ++ flat_map (λ y. ended (line y)) (take i xs)
      → later ≡ now ++ ended (line x) → later ≡ old ++ flat_map (λ y. ended (line y)) (take (i + 1) xs)
  more_lines x now later here before pushed = more_of (λ y. ended (line y)) xs i x old now later here before pushed

  pub all_lines : (now : List ℕ) → length xs ≤ i → now ≡ old ++ flat_map (λ y. ended (line y)) (take i xs) → now ≡ old ++ text_of_lines (map line xs)
  all_lines now gone before =
      all_of (λ y. ended (line y)) xs i old now gone before ∙ ap (λ l. old ++ l) (sym (flat_map-map ended line xs))

-- the same, of the elements that are gone over
module _ {A : Type 0} (line : A → List ℕ) (old : List ℕ) (before : List A) where
  pub next_line : (x : A) (now later : List ℕ) → now ≡ old ++ flat_map (λ y. ended (line y)) before → later ≡ now ++ ended (line x) → later ≡ old ++ flat_map (λ y. ended (line y)) (before ++ x ∷ [])
  next_line x now later printed pushed = pushed ∙ ap (λ l. l ++ ended (line x)) printed ∙ flat_map_more (λ y. ended (line y)) old before x

  pub last_line : (all rest : List A) (now : List ℕ) → before ++ rest ≡ all → rest ≡ [] → now ≡ old ++ flat_map (λ y. ended (line y)) before → now ≡ old ++ text_of_lines (map line all)
  last_line all rest now split done printed =
      printed ∙ ap (λ l. old ++ flat_map (λ y. ended (line y)) l) (sym (append-nil before) ∙ ap (λ r. before ++ r) (sym done) ∙ split) ∙ ap (λ l. old ++ l) (sym (flat_map-map ended line all))

-- lines of lines
pub lines_of_all : {A : Type 0} (lines : A → List (List ℕ)) (xs : List A) → flat_map (λ x. text_of_lines (lines x)) xs ≡ text_of_lines (flat_map lines xs)
lines_of_all lines [] = refl
lines_of_all lines (x ∷ xs) = ap (λ l. text_of_lines (lines x) ++ l) (lines_of_all lines xs) ∙ sym (flat_map-append ended (lines x) (flat_map lines xs))

-- ---- lines behind lines

pub behind : (xs ys : List (List ℕ)) (old now later : List ℕ) → now ≡ old ++ text_of_lines xs → later ≡ now ++ text_of_lines ys → later ≡ old ++ text_of_lines (xs ++ ys)
behind xs ys old now later first second =
    second ∙ ap (λ l. l ++ text_of_lines ys) first ∙ append_assoc old (text_of_lines xs) (text_of_lines ys) ∙ ap (λ l. old ++ l) (sym (flat_map-append ended xs ys))

pub line_behind : (x : List ℕ) (ys : List (List ℕ)) (old now later : List ℕ) → now ≡ old ++ ended x → later ≡ now ++ text_of_lines ys → later ≡ old ++ text_of_lines (x ∷ ys)
line_behind x ys old now later first second =
    second ∙ ap (λ l. l ++ text_of_lines ys) first ∙ append_assoc old (ended x) (text_of_lines ys)

pub one_line : (x now later : List ℕ) → later ≡ now ++ ended x → later ≡ now ++ text_of_lines (x ∷ [])
one_line x now later pushed = pushed ∙ ap (λ l. now ++ l) (sym (append-nil (ended x)))

pub four_lines : (w x y z : List ℕ) (old p q r s : List ℕ) → p ≡ old ++ ended w → q ≡ p ++ ended x → r ≡ q ++ ended y → s ≡ r ++ ended z → s ≡ old ++ text_of_lines (w ∷ x ∷ y ∷ z ∷ [])
four_lines w x y z old p q r s first second third fourth =
    line_behind w (x ∷ y ∷ z ∷ []) old p s first (line_behind x (y ∷ z ∷ []) p q s second (line_behind y (z ∷ []) q r s third (one_line z r s fourth)))

pub six_parts : (u v w x y z : List (List ℕ)) (old p q r s t l : List ℕ) → p ≡ old ++ text_of_lines u → q ≡ p ++ text_of_lines v → r ≡ q ++ text_of_lines w → s ≡ r ++ text_of_lines x → t ≡ s ++ text_of_lines y
    → l ≡ t ++ text_of_lines z → l ≡ old ++ text_of_lines (u ++ v ++ w ++ x ++ y ++ z)
six_parts u v w x y z old p q r s t l first second third fourth fifth sixth =
    behind (u ++ v ++ w ++ x ++ y) z old t l (behind (u ++ v ++ w ++ x) y old s t (behind (u ++ v ++ w) x old r s (behind (u ++ v) w old q r (behind u v old p q first second) third) fourth) fifth) sixth
