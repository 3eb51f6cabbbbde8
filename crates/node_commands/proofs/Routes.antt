-- A text spells one route, and what is read of its pieces is that.
use Rattle.std.proofs.Common.{◌≡◌, ℕ, ◌^◌, ◌<◌, ◌≤◌, List, [], ◌∷◌, ◌++◌, length, map, get_or, drop, Option, Some, None, decimal, refl, sym, ap, ap₂, ◌∙◌, subst, arith}
use Rattle.std.specs.List.{All}
use Rattle.std.proofs.lemmas.Fmt.{decimal_injective}
use Rattle.std.proofs.lemmas.List.Elements.{All-nil, All-head, All-tail, All-cons}
use Rattle.std.proofs.lemmas.List.{append-nil, append_assoc, length-append, length-take}
use Rattle.relay_path.specs.declared.limits.TheConstants.{MAX_ROUTE}
use Rattle.node_commands.specs.declared.words.wanted.Route.{Route}
use Rattle.node_commands.specs.Routes.{AreNumbers, GoesOn, IsRoute, numbers_in, pieces, pieces_behind}
use Rattle.node_commands.specs.Words.{IsNumber}
use Rattle.node_commands.specs.Table.{IsReadBy}

-- ---- one text, one route

same_numbers : (ms ns : List ℕ) → map decimal ms ≡ map decimal ns → All (λ n. n < 2 ^ 32) ms → All (λ n. n < 2 ^ 32) ns → ms ≡ ns
same_numbers [] [] same small others = refl
same_numbers [] (n ∷ ns) same small others = absurd (omega (arith, ap (λ (l : List (List ℕ)). length l) same))
same_numbers (m ∷ ms) [] same small others = absurd (omega (arith, ap (λ (l : List (List ℕ)). length l) same))
same_numbers (m ∷ ms) (n ∷ ns) same small others =
    let a : m < 2 ^ 32 = All-head (λ (k : ℕ). k < 2 ^ 32) m ms small in
    let b : n < 2 ^ 32 = All-head (λ (k : ℕ). k < 2 ^ 32) n ns others in
    let first : decimal m ≡ decimal n = ap (λ (l : List (List ℕ)). get_or l 0 []) same in
    let later = same_numbers ms ns (ap (λ (l : List (List ℕ)). drop 1 l) same) (All-tail (λ (k : ℕ). k < 2 ^ 32) m ms small) (All-tail (λ (k : ℕ). k < 2 ^ 32) n ns others) in
    ap₂ (λ (k : ℕ) (l : List ℕ). k ∷ l) (decimal_injective m n (omega (arith, a)) (omega (arith, b)) first) later

pub one_route : (text : List ℕ) (r s : List ℕ) → IsRoute text r → IsRoute text s → r ≡ s
one_route text r s a b = same_numbers r s (sym a.numbers.are ∙ b.numbers.are) a.numbers.fit b.numbers.fit

-- ---- piece by piece

module _ (parts rest : List (List ℕ)) (first : List ℕ) (is : parts ≡ first ∷ rest) where
  -- a number, and numbers behind it
  pub one_more : (n : ℕ) (more : List ℕ) → IsNumber (2 ^ 32) first n → AreNumbers rest more → AreNumbers parts (n ∷ more)
  one_more n more number later = record {
    are = is ∙ ap₂ (λ (t : List ℕ) (ts : List (List ℕ)). t ∷ ts) number.0 later.are;
    fit = All-cons (λ (k : ℕ). k < 2 ^ 32) n more number.1 later.fit;
  }

  -- and back
  pub one_less : (n : ℕ) (more : List ℕ) → AreNumbers parts (n ∷ more) → IsNumber (2 ^ 32) first n × AreNumbers rest more
  one_less n more all = (
    (ap (λ (l : List (List ℕ)). get_or l 0 []) (sym is ∙ all.are), All-head (λ (k : ℕ). k < 2 ^ 32) n more all.fit),
    record {
      are = ap (λ (l : List (List ℕ)). drop 1 l) (sym is ∙ all.are);
      fit = All-tail (λ (k : ℕ). k < 2 ^ 32) n more all.fit;
    },
  )

  -- there is one
  some_number : (numbers : List ℕ) → AreNumbers parts numbers → (n : ℕ) × (more : List ℕ) × (numbers ≡ n ∷ more)
  some_number [] all = absurd (omega (arith, ap (λ (l : List (List ℕ)). length l) (sym is ∙ all.are)))
  some_number (n ∷ more) all = (n, more, refl)

  -- the first number is the one that was read, and the others are those behind
  pub first_and_later : (m : ℕ) → IsNumber (2 ^ 32) first m → (numbers : List ℕ) → AreNumbers parts numbers → (more : List ℕ) × (numbers ≡ m ∷ more) × AreNumbers rest more
  first_and_later m number [] all = let s = some_number [] all in absurd (cc (s.2))
  first_and_later m number (n ∷ more) all =
      let one = one_less n more all in
      (more, ap (λ (k : ℕ). k ∷ more) (decimal_injective n m (omega (arith, one.0.1)) (omega (arith, number.1)) (sym one.0.0 ∙ number.0)), one.1)

-- ---- behind numbers that were read

-- a route has no more numbers than it may
short_route : (r : Route) → length (numbers_in r) ≤ MAX_ROUTE
short_route r = omega (arith, length-take r.count r.numbers, r.within)

-- nothing is behind what was read
pub nothing_behind : (r : Route) → GoesOn (numbers_in r) None (numbers_in r)
nothing_behind r = record {
  later = [];
  numbers = record { are = refl; fit = All-nil (λ (k : ℕ). k < 2 ^ 32) };
  are = sym (append-nil (numbers_in r));
  short = short_route r;
}

module _ (text : List ℕ) (behind : Option (List ℕ)) (first : List ℕ) (is : pieces text ≡ first ∷ pieces_behind behind) where
  -- none where the first piece is no number
  pub no_number : ((n : ℕ) → IsNumber (2 ^ 32) first n → ⊥) → (numbers : List ℕ) → AreNumbers (pieces text) numbers → ⊥
  no_number none numbers all =
      let some = some_number (pieces text) (pieces_behind behind) first is numbers all in
      none some.0 (one_less (pieces text) (pieces_behind behind) first is some.0 some.1 (subst (AreNumbers (pieces text)) some.2 all)).0

  -- none where there is no room for it
  pub no_room : (before : List ℕ) → MAX_ROUTE ≤ length before → (r : List ℕ) → GoesOn before (Some text) r → ⊥
  no_room before full r on =
      let some = some_number (pieces text) (pieces_behind behind) first is on.later on.numbers in
      omega (arith, full, on.short, ap (λ (l : List ℕ). length l) on.are, length-append before on.later, ap (λ (l : List ℕ). length l) some.2)

  module _ (before longer : List ℕ) (m : ℕ) (number : IsNumber (2 ^ 32) first m) (grown : longer ≡ before ++ m ∷ []) where
    same_route : (more : List ℕ) → longer ++ more ≡ before ++ m ∷ more
    same_route more = ap (λ (l : List ℕ). l ++ more) grown ∙ append_assoc before (m ∷ []) more

    -- what goes on behind the first number goes on before it
    goes_on : (r : List ℕ) → GoesOn longer behind r → GoesOn before (Some text) r
    goes_on r on = record {
      later = m ∷ on.later;
      numbers = one_more (pieces text) (pieces_behind behind) first is m on.later number on.numbers;
      are = on.are ∙ same_route on.later;
      short = on.short;
    }

    -- and back
    went_on : (r : List ℕ) → GoesOn before (Some text) r → GoesOn longer behind r
    went_on r on =
        let one = first_and_later (pieces text) (pieces_behind behind) first is m number on.later on.numbers in
        record {
          later = one.0;
          numbers = one.2;
          are = on.are ∙ ap (λ (l : List ℕ). before ++ l) one.1 ∙ sym (same_route one.0);
          short = on.short;
        }

    -- what is read behind the first number is read of the whole text
    pub read_on : (o : Option Route) → IsReadBy numbers_in (GoesOn longer behind) o → IsReadBy numbers_in (GoesOn before (Some text)) o
    read_on None none = λ r on. none r (went_on r on)
    read_on (Some route) on = goes_on (numbers_in route) on

-- ---- the whole text

-- a route that goes on from nothing is the route
is_route : (text : List ℕ) (r : List ℕ) → GoesOn [] (Some text) r → IsRoute text r
is_route text r on = record { numbers = subst (AreNumbers (pieces text)) (sym on.are) on.numbers; short = on.short }

from_nothing : (text : List ℕ) (r : List ℕ) → IsRoute text r → GoesOn [] (Some text) r
from_nothing text r is = record { later = r; numbers = is.numbers; are = refl; short = is.short }

pub read_whole : (text : List ℕ) (o : Option Route) → IsReadBy numbers_in (GoesOn [] (Some text)) o → IsReadBy numbers_in (IsRoute text) o
read_whole text None none = λ r is. none r (from_nothing text r is)
read_whole text (Some route) on = is_route text (numbers_in route) on
