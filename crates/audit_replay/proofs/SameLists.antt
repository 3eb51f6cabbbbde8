-- Lists that grant alike.
use Rattle.std.proofs.Common.{◌≡◌, inl, inr, ℕ, ◌+◌, ◌<◌, ◌≤◌, List, length, map, Some, slice_get, sym, ap, ap₂, ◌∙◌, arith}
use Rattle.std.specs.Option.{option_map}
use Rattle.std.proofs.lemmas.Bool.{cases_lt}
use Rattle.std.proofs.lemmas.List.{length-map, same_lists}
use Rattle.std.proofs.lemmas.Option.{get_or_from_slice_get, same_Some, slice_get-map}
use Rattle.prin_term.specs.declared.term.Entry.{Entry}
use Rattle.prin_term.specs.View.{Grant, grant, principal}
use Rattle.agent_core.proofs.Asks.{standing}

pub same_grant : (x y : Entry) → x.rights ≡ y.rights → principal x.who ≡ principal y.who → grant x ≡ grant y
same_grant x y rights who = ap₂ (λ r w. record { rights = r; who = w }) rights who

granted_at : (xs : List Entry) (k : ℕ) (x : Entry) → slice_get xs k ≡ Some x → slice_get (map grant xs) k ≡ Some (grant x)
granted_at xs k x at = slice_get-map grant xs k ∙ ap (option_map grant) at

module _ (xs ys : List Entry) where
  -- the first so many grant alike
  abbrev pub Agree : ℕ → Type 0
  Agree n = (k : ℕ) (x y : Entry) → k < n → slice_get xs k ≡ Some x → slice_get ys k ≡ Some y → grant x ≡ grant y

  pub agree_none : Agree 0
  agree_none k x y less at there = absurd (omega (arith, less))

  pub agree_more : (n : ℕ) (x y : Entry) → slice_get xs n ≡ Some x → slice_get ys n ≡ Some y → grant x ≡ grant y → Agree n → Agree (n + 1)
  agree_more n x y at there same agree k u v less p q =
      elim (cases_lt k n) [
        | inl lt ↦ agree k u v lt p q
        | inr ge ↦
            let here : k ≡ n = omega (arith, less, ge) in
            ap grant (same_Some u x (sym p ∙ ap (slice_get xs) here ∙ at)) ∙ same ∙ ap grant (same_Some y v (sym there ∙ ap (slice_get ys) (sym here) ∙ q))
      ]

  pub all_agree : (n : ℕ) → length xs ≤ n → length xs ≡ length ys → Agree n → map grant xs ≡ map grant ys
  all_agree n over long agree =
      same_lists (map grant xs) (map grant ys) (omega (arith, long, length-map xs grant, length-map ys grant)) (λ k d less.
      let within : k < length xs = omega (arith, less, length-map xs grant) in
      let (x, at) = standing xs k within in
      let (y, there) = standing ys k (omega (arith, within, long)) in
      get_or_from_slice_get (map grant xs) k (grant x) d (granted_at xs k x at) ∙ agree k x y (omega (arith, within, over)) at there ∙ sym (get_or_from_slice_get (map grant ys) k (grant y) d (granted_at ys k y there)))

  -- one that grants otherwise
  pub disagree : (n : ℕ) (x y : Entry) → slice_get xs n ≡ Some x → slice_get ys n ≡ Some y → (grant x ≡ grant y → ⊥) → map grant xs ≡ map grant ys → ⊥
  disagree n x y at there differs same =
      differs (same_Some (grant x) (grant y) (sym (granted_at xs n x at) ∙ ap (λ (l : List Grant). slice_get l n) same ∙ granted_at ys n y there))

  pub other_length : (length xs ≡ length ys → ⊥) → map grant xs ≡ map grant ys → ⊥
  other_length differs same = differs (omega (arith, ap (λ (l : List Grant). length l) same, length-map xs grant, length-map ys grant))
