-- What `number_of` finds among rows, and what one more row does to it.
use Rattle.std.proofs.Common.{◌≡◌, ◌≢◌, ◌⊎◌, ℕ, zero, suc, Bool, true, false, cond, List, [], ◌∷◌, Some, None, refl, sym, ◌∙◌, ap, inl, inr, eqb}
use Rattle.std.specs.Prelude.{bytes_eq, if◌then◌else◌}
use Rattle.std.specs.Bool.{Decides}
use Rattle.std.specs.List.{insert}
use Rattle.std.proofs.lemmas.Bool.{false≢true}
use Rattle.std.proofs.lemmas.Bool.Decides.{Decides-eqb}
use Rattle.std.proofs.lemmas.Slice.Eq.{bytes_eq-Decides}
use Rattle.prin_text.specs.Labels.{Rows, number_of, text_of, TextsDiffer}

told : (b : Bool) (P : Type 0) → Decides b P → ((b ≡ true) × P) ⊎ ((b ≡ false) × (P → ⊥))
told true P d = inl (refl, d.0 refl)
told false P d = inr (refl, λ p. false≢true (d.1 p))

-- a test of two texts, with what it tells
pub texts_tell : (s t : List ℕ) → ((bytes_eq s t ≡ true) × (s ≡ t)) ⊎ ((bytes_eq s t ≡ false) × (s ≢ t))
texts_tell s t = told (bytes_eq s t) (s ≡ t) (bytes_eq-Decides s t)

-- a text is itself
pub same_text : (t : List ℕ) → bytes_eq t t ≡ true
same_text t = (bytes_eq-Decides t t).1 refl

-- the rest of a table has no text that the whole has not
pub absent_below : (m : ℕ) (t : List ℕ) (l : Rows) (text : List ℕ) → number_of ((m, t) ∷ l) text ≡ None → (bytes_eq t text ≡ false) × (number_of l text ≡ None)
absent_below m t l text e = elim (texts_tell t text) [
  | inl same ↦ (let f = rw same.0 at e in absurd cc)
  | inr other ↦ (other.0, rw other.0 at e)
]

-- a new row whose text is new has its number, and each other text its old one
pub number_of-insert : (l : Rows) (n : ℕ) (text : List ℕ) (i : ℕ) → number_of l text ≡ None → (q : List ℕ) → number_of (insert l i (n, text)) q ≡ (if bytes_eq text q then Some n else number_of l q)
number_of-insert l n text zero absent q = refl
number_of-insert [] n text (suc i) absent q = refl
number_of-insert ((m, t) ∷ l) n text (suc i) absent q =
    let below = absent_below m t l text absent in
    let ih = number_of-insert l n text i below.1 q in
    elim (texts_tell t q) [
      | inl same ↦ rw same.0 (elim (texts_tell text q) [
        | inl other ↦ absurd (false≢true (sym below.0 ∙ ap (λ x. bytes_eq t x) (other.1 ∙ sym same.1) ∙ same_text t))
        | inr other ↦ rw other.0 refl
      ])
      | inr other ↦ rw other.0 ih
    ]

module _ (l : Rows) (n : ℕ) (text : List ℕ) (i : ℕ) (absent : number_of l text ≡ None) where
  pub number_of-insert_here : number_of (insert l i (n, text)) text ≡ Some n
  number_of-insert_here = number_of-insert l n text i absent text ∙ ap (λ b. cond b (Some n) (number_of l text)) (same_text text)

  pub number_of-insert_else : (q : List ℕ) → q ≢ text → number_of (insert l i (n, text)) q ≡ number_of l q
  number_of-insert_else q differs = elim (texts_tell text q) [
    | inl same ↦ absurd (differs (sym same.1))
    | inr other ↦ number_of-insert l n text i absent q ∙ ap (λ b. cond b (Some n) (number_of l q)) other.0
  ]

-- texts that differ still do, with a new one among them
pub differ-insert : (l : Rows) (n : ℕ) (text : List ℕ) (i : ℕ) → number_of l text ≡ None → TextsDiffer l → TextsDiffer (insert l i (n, text))
differ-insert l n text zero absent differ = (absent, differ)
differ-insert [] n text (suc i) absent differ = (absent, tt)
differ-insert ((m, t) ∷ l) n text (suc i) absent differ =
    let below = absent_below m t l text absent in
    let others : number_of (insert l i (n, text)) t ≡ None = elim (texts_tell text t) [
      | inl same ↦ absurd (false≢true (sym below.0 ∙ ap (λ x. bytes_eq t x) same.1 ∙ same_text t))
      | inr other ↦ number_of-insert l n text i below.1 t ∙ ap (λ b. cond b (Some n) (number_of l t)) other.0 ∙ differ.0
    ] in
    (others, differ-insert l n text i below.1 differ.1)

pub some_is : (s t : List ℕ) → Some s ≡ Some t → s ≡ t
some_is s t e = cc

number_here : (m : ℕ) (t : List ℕ) (l : Rows) (n : ℕ) (text : List ℕ) → m ≡ n → t ≡ text → number_of ((m, t) ∷ l) text ≡ Some n
number_here m t l n text here same = ap (λ b. cond b (Some m) (number_of l text)) (ap (λ x. bytes_eq x text) same ∙ same_text text) ∙ ap (λ x. Some x) here

-- the number of a text is the one that the text is printed for
pub number_of-text_of : (l : Rows) (n : ℕ) (text : List ℕ) → TextsDiffer l → text_of l n ≡ Some text → number_of l text ≡ Some n
number_of-text_of [] n text differ e = absurd cc
number_of-text_of ((m, t) ∷ l) n text differ e = elim (told (eqb m n) (m ≡ n) (Decides-eqb m n)) [
  | inl here ↦ number_here m t l n text here.1 (some_is t text (sym (ap (λ b. cond b (Some t) (text_of l n)) here.0) ∙ e))
  | inr other ↦
      let below : text_of l n ≡ Some text = sym (ap (λ b. cond b (Some t) (text_of l n)) other.0) ∙ e in
      let ih = number_of-text_of l n text differ.1 below in
      elim (texts_tell t text) [
        | inl same ↦ absurd (cc (ih, differ.0, ap (number_of l) same.1))
        | inr apart ↦ ap (λ b. cond b (Some m) (number_of l text)) apart.0 ∙ ih
      ]
]
