-- Numbers that are looked up by their texts, and one more of them.
use Rattle.std.proofs.Common.{◌≡◌, ℕ, Bool, true, false, cond, List, Option, Some, None, Vec, BTreeMap, sym, ap, ◌∙◌, inl, inr}
use Rattle.std.specs.Prelude.{bytes_eq}
use Rattle.std.specs.BTreeMap.{UpdatesBy, is_at}
use Rattle.std.specs.Cmp.{eq_by_cmp_equiv}
use Rattle.std.specs.Cmp.Lexicographic.{slice_cmp}
use Rattle.std.specs.List.{insert}
use Rattle.std.specs.Map.{AreApart, IsKeyTest, KeepsOthers, lookup}
use Rattle.std.specs.Ordering.{nat_cmp}
use Rattle.std.proofs.lemmas.Bool.{false≢true}
use Rattle.std.proofs.lemmas.Cmp.{nat_list_cmp_total}
use Rattle.std.proofs.lemmas.Map.Text.{is_eq-slice_cmp}
use Rattle.prin_text.specs.Labels.{Rows, number_of}
use Rattle.prin_text.specs.Numbers.{IsIndexOf, number_at_text}
use Rattle.prin_text.proofs.Texts.{number_of-insert, texts_tell}

-- what is not s is found elsewhere
apart : (s t k : List ℕ) → bytes_eq s t ≡ false → bytes_eq s k ≡ true → bytes_eq t k ≡ false
apart s t k differ same = elim (texts_tell t k) [
  | inl found ↦ absurd (false≢true (sym differ ∙ ap (λ x. bytes_eq s x) found.1 ∙ same))
  | inr other ↦ other.0
]

module _ {K X : Type 0} (eq : K → K → Bool) (test : K → Bool) (old new : List (K × X)) where
  kept : KeepsOthers eq test old new → (other : K → Bool) → IsKeyTest eq other → AreApart test other → lookup other new ≡ lookup other old
  unfolding KeepsOthers
  kept keeps = keeps

module _ {Y : Type 0} (old new : BTreeMap (Vec ℕ Y) ℕ) (key : List ℕ) (w : Option ℕ) (put : UpdatesBy (λ x y. slice_cmp nat_cmp x.items y.items) (λ k. slice_cmp nat_cmp key k.items) old new w) where
  -- other texts have the numbers that they had
  others_stay : (text : List ℕ) → bytes_eq key text ≡ false → number_at_text new text ≡ number_at_text old text
  others_stay text differ =
      kept _ _ _ _ put.3 (λ k. is_at (λ x. slice_cmp nat_cmp text x.items) k)
      (λ x y. (eq_by_cmp_equiv nat_list_cmp_total).congr text x.items y.items)
      (λ k found. is_eq-slice_cmp text k.items ∙ apart key text k.items differ (sym (is_eq-slice_cmp key k.items) ∙ found))

  -- the map has what was put at the text alone
  at_any : (text : List ℕ) → number_at_text new text ≡ cond (bytes_eq key text) w (number_at_text old text)
  at_any text = elim (texts_tell key text) [
    | inl same ↦ ap (number_at_text new) (sym same.1) ∙ put.1 ∙ sym (ap (λ b. cond b w (number_at_text old text)) same.0)
    | inr other ↦ others_stay text other.0 ∙ sym (ap (λ b. cond b w (number_at_text old text)) other.0)
  ]

module _ {Y : Type 0} (old new : BTreeMap (Vec ℕ Y) ℕ) (key : List ℕ) (n : ℕ) (put : UpdatesBy (λ x y. slice_cmp nat_cmp x.items y.items) (λ k. slice_cmp nat_cmp key k.items) old new (Some n)) where
  -- it is an index of the rows with the new one, wherever that stands
  pub index-insert : (rows : Rows) (i : ℕ) → number_of rows key ≡ None → IsIndexOf old rows → IsIndexOf new (insert rows i (n, key))
  index-insert rows i is_new index text =
      at_any old new key (Some n) put text ∙ ap (λ o. cond (bytes_eq key text) (Some n) o) (index text) ∙ sym (number_of-insert rows n key i is_new text)

  -- what was put and taken out leaves an index of the rows that do not have the text
  pub index-undone : (last : BTreeMap (Vec ℕ Y) ℕ) → UpdatesBy (λ x y. slice_cmp nat_cmp x.items y.items) (λ k. slice_cmp nat_cmp key k.items) new last None → (rows : Rows) → number_of rows key ≡ None → IsIndexOf old rows → IsIndexOf last rows
  index-undone last taken rows is_new index text = elim (texts_tell key text) [
    | inl same ↦ ap (number_at_text last) (sym same.1) ∙ taken.1 ∙ sym is_new ∙ ap (number_of rows) same.1
    | inr other ↦ others_stay new last key None taken text other.0 ∙ others_stay old new key (Some n) put text other.0 ∙ index text
  ]
