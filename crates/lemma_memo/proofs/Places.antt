-- Commons by their numbers, and where they stand in a question.
use Rattle.std.proofs.Common.{◌≡◌, inl, inr, ⊎_elim, ℕ, ◌<◌, Bool, true, false, List, [], ◌∷◌, ◌++◌, length, Option, Some, None, slice_get, All, Contains, refl, sym, ap, subst, ◌∙◌, arith}
use Rattle.std.specs.Prelude.{◌↔◌}
use Rattle.std.specs.List.{AllZip, filter_map, cons_option}
use Rattle.std.specs.Option.{option_map, option_and_then}
use Rattle.std.proofs.lemmas.Bool.{cases_order}
use Rattle.std.proofs.lemmas.List.Elements.{All-nil, All-cons, All-head, All-tail}
use Rattle.std.proofs.lemmas.Option.{none-some, same_Some, slice_get-map, slice_get_within}
use Rattle.stmt_codec.specs.Certificates.{Certificate}
use Rattle.lemma_memo.specs.Memory.{IsChosen}
use Rattle.lemma_memo.specs.Kept.{IsFirst, HasFirst, IsNumberOf, IsMarked, AreMarks, AreFirst, commons_at}
use Rattle.lemma_memo.proofs.Lists.{there, contained, placed, pushed}

-- a certificate has one first number
pub one_number : (commons : List Certificate) (c : Certificate) (m n : ℕ) → IsFirst commons c m → IsFirst commons c n → m ≡ n
one_number commons c m n a b =
    ⊎_elim (λ (s : m ≡ n). s)
    (λ h. ⊎_elim (λ (lt : m < n). absurd (b.first m lt a.stands)) (λ (gt : n < m). absurd (a.first n gt b.stands)) h)
    (cases_order m n)

-- the certificates of numbers
abbrev pub cited : List Certificate → List ℕ → List Certificate
cited commons numbers = filter_map (slice_get commons) numbers

-- each of them is a common
pub all_common : (commons : List Certificate) (numbers : List ℕ) → All (Contains commons) (cited commons numbers)
all_common commons [] = All-nil (Contains commons)
all_common commons (n ∷ ns) = (elim (slice_get commons n) as (λ (o : Option Certificate). slice_get commons n ≡ o → All (Contains commons) (cons_option o (cited commons ns))) [
  | None ↦ λ e. all_common commons ns
  | Some c ↦ λ e. All-cons (Contains commons) c (cited commons ns) (contained commons n c e) (all_common commons ns)
]) refl

module _ (commons : List Certificate) (here : List (Option ℕ)) where
  -- the certificate stands at the place
  abbrev pub Stands : ℕ → Certificate → Type 0
  Stands place c = slice_get (commons_at commons here) place ≡ Some (Some c)

  pub stands : (place number : ℕ) (c : Certificate) → IsMarked here place number → slice_get commons number ≡ Some c → Stands place c
  stands place number c at is =
      slice_get-map (option_and_then (slice_get commons)) here place
      ∙ (ap (option_map (option_and_then (slice_get commons))) at ∙ ap (λ (o : Option Certificate). Some o) is)

  by_mark : (place : ℕ) (c : Certificate) (o : Option (Option ℕ)) → slice_get here place ≡ o → option_map (option_and_then (slice_get commons)) o ≡ Some (Some c) → (number : ℕ) × IsMarked here place number × (slice_get commons number ≡ Some c)
  by_mark place c None is e = absurd (none-some (Some c) e)
  by_mark place c (Some None) is e = absurd (none-some c (same_Some None (Some c) e))
  by_mark place c (Some (Some n)) is e = (n, is, same_Some (slice_get commons n) (Some c) e)

  pub marked : (place : ℕ) (c : Certificate) → Stands place c → (number : ℕ) × IsMarked here place number × (slice_get commons number ≡ Some c)
  marked place c e = by_mark place c (slice_get here place) refl (sym (slice_get-map (option_and_then (slice_get commons)) here place) ∙ e)

  module _ (first : AreFirst commons here) where
    -- the numbers that stand at places are those of commons
    pub numbers_first : (places numbers : List ℕ) → AllZip (IsMarked here) places numbers → All (HasFirst commons) numbers
    numbers_first [] [] z = All-nil (HasFirst commons)
    numbers_first [] (n ∷ ns) z = absurd z
    numbers_first (p ∷ ps) [] z = absurd z
    numbers_first (p ∷ ps) (n ∷ ns) z = All-cons (HasFirst commons) n ns (first p n z.0) (numbers_first ps ns z.1)

    cited_cons : (n : ℕ) (ns : List ℕ) (has : HasFirst commons n) → cited commons (n ∷ ns) ≡ has.0 ∷ cited commons ns
    cited_cons n ns has = ap (λ (o : Option Certificate). cons_option o (cited commons ns)) has.1.stands

    -- at the places of numbers stand their certificates
    pub stand_all : (places numbers : List ℕ) → AllZip (IsMarked here) places numbers → AllZip Stands places (cited commons numbers)
    stand_all [] [] z = tt
    stand_all [] (n ∷ ns) z = absurd z
    stand_all (p ∷ ps) [] z = absurd z
    stand_all (p ∷ ps) (n ∷ ns) z =
        let has = first p n z.0 in
        subst (AllZip Stands (p ∷ ps)) (sym (cited_cons n ns has)) (stands p n has.0 z.0 has.1.stands, stand_all ps ns z.1)

    -- where the certificate stands, its first number is marked
    number_there : (place n : ℕ) (c : Certificate) → IsFirst commons c n → Stands place c → IsMarked here place n
    number_there place n c is e =
        let (m, at, same) = marked place c e in
        let has = first place m at in
        let one : has.0 ≡ c = same_Some has.0 c (sym has.1.stands ∙ same) in
        let number : m ≡ n = one_number commons c m n (subst (λ (d : Certificate). IsFirst commons d m) one has.1) is in
        subst (IsMarked here place) number at

    -- where certificates of numbers stand, the numbers are marked
    pub marked_all : (places numbers : List ℕ) → All (HasFirst commons) numbers → AllZip Stands places (cited commons numbers) → AllZip (IsMarked here) places numbers
    marked_all [] [] f z = tt
    marked_all (p ∷ ps) [] f z = absurd z
    marked_all [] (n ∷ ns) f z = absurd (subst (AllZip Stands []) (cited_cons n ns (All-head (HasFirst commons) n ns f)) z)
    marked_all (p ∷ ps) (n ∷ ns) f z =
        let has = All-head (HasFirst commons) n ns f in
        let w = subst (AllZip Stands (p ∷ ps)) (cited_cons n ns has) z in
        (number_there p n has.0 has.1 w.0, marked_all ps ns (All-tail (HasFirst commons) n ns f) w.1)

module _ (commons certs : List Certificate) (chosen : List Bool) (here : List (Option ℕ)) (marks : AreMarks commons certs chosen here)
    (long : length here ≡ length certs) (fit : length chosen ≡ length certs) where
  -- at a marked place stands a chosen certificate, whose first number it is
  at_mark : (place number : ℕ) → IsMarked here place number → (c : Certificate) × IsChosen certs chosen place c × IsFirst commons c number
  at_mark place number at =
      let within : place < length here = slice_get_within here place (Some number) at in
      let (c, is) = there certs place (omega arith) in
      let (b, mark) = there chosen place (omega arith) in
      by_choice c is b mark
    where
      by_choice : (c : Certificate) → slice_get certs place ≡ Some c → (b : Bool) → slice_get chosen place ≡ Some b → (d : Certificate) × IsChosen certs chosen place d × IsFirst commons d number
      by_choice c is true mark = (c, record { stands = is; marked = mark }, marks.chosen_here place c (Some number) is mark at)
      by_choice c is false mark = absurd (marks.others place number mark at)

  pub marks_first : AreFirst commons here
  marks_first place number at = let (c, is, first) = at_mark place number at in (c, first)

  -- where a common stands, and is chosen
  pub chosen_stand : (place : ℕ) (c : Certificate) → Stands commons here place c ↔ (IsChosen certs chosen place c × Contains commons c)
  chosen_stand place c = (out, in')
    where
      out : Stands commons here place c → IsChosen certs chosen place c × Contains commons c
      out e =
          let (n, at, is) = marked commons here place c e in
          let (d, choice, first) = at_mark place n at in
          let one : d ≡ c = same_Some d c (sym first.stands ∙ is) in
          (subst (IsChosen certs chosen place) one choice, contained commons n c is)

      by_number : (k : ℕ) → slice_get commons k ≡ Some c → (o : Option ℕ) → slice_get here place ≡ Some o → IsNumberOf commons c o → Stands commons here place c
      by_number k is None at none = absurd (none k is)
      by_number k is (Some n) at first = stands commons here place n c at first.stands

      in' : IsChosen certs chosen place c × Contains commons c → Stands commons here place c
      in' (choice, common) =
          let within : place < length certs = slice_get_within certs place c choice.stands in
          let (o, at) = there here place (omega arith) in
          let (k, is) = placed commons c common in
          by_number k is o at (marks.chosen_here place c o choice.stands choice.marked at)

-- one more place was looked at
pub one_more_mark : (commons certs : List Certificate) (chosen : List Bool) (here : List (Option ℕ)) (c : Certificate) (b : Bool) (o : Option ℕ) → AreMarks commons certs chosen here → slice_get certs (length here) ≡ Some c → slice_get chosen (length here) ≡ Some b →
    (b ≡ true → IsNumberOf commons c o) → (b ≡ false → o ≡ None) → AreMarks commons certs chosen (here ++ o ∷ [])
one_more_mark commons certs chosen here c b o marks is mark if_chosen if_not = record {
  chosen_here = λ place d p at choice stands. elim (pushed here o place p stands) [
    | inl was ↦ marks.chosen_here place d p at choice was
    | inr (last, same) ↦
        let one : c ≡ d = same_Some c d (sym is ∙ (ap (slice_get certs) (sym last) ∙ at)) in
        let true_is : b ≡ true = same_Some b true (sym mark ∙ (ap (slice_get chosen) (sym last) ∙ choice)) in
        subst (IsNumberOf commons d) same (subst (λ (x : Certificate). IsNumberOf commons x o) one (if_chosen true_is))
  ];
  others = λ place n choice stands. elim (pushed here o place (Some n) stands) [
    | inl was ↦ marks.others place n choice was
    | inr (last, same) ↦
        let false_is : b ≡ false = same_Some b false (sym mark ∙ (ap (slice_get chosen) (sym last) ∙ choice)) in
        none-some n (sym (if_not false_is) ∙ same)
  ];
}

pub no_marks : (commons certs : List Certificate) (chosen : List Bool) → AreMarks commons certs chosen []
no_marks commons certs chosen = record {
  chosen_here = λ place c o at choice stands. absurd (none-some o stands);
  others = λ place n choice stands. none-some (Some n) stands;
}
