-- One certificate more of a payload, after its length.
use Rattle.std.proofs.Common.{◌≡◌, ℕ, ◌+◌, ◌<◌, ◌≤◌, Bor, List, [], ◌++◌, length, map, take, get_or, All, ap, subst, ◌∙◌, append_assoc, arith}
use Rattle.std.specs.Int.{w16, to_be_bytes}
use Rattle.std.specs.List.{flat_map}
use Rattle.std.proofs.lemmas.List.{get_or-map, get_or_default, length-map}
use Rattle.byte_fields.specs.Steps.{counted}
use Rattle.byte_fields.proofs.Pieces.{one_more}

abbrev pub seen : Bor (List ℕ) → List ℕ
seen t = t.now

abbrev pub IsShort : List ℕ → Type 0
IsShort t = length t ≤ 1024

module _ (certs : List (Bor (List ℕ))) (i : ℕ) (d : Bor (List ℕ)) (lt : i < length certs) where
  abbrev here : List ℕ
  here = seen (get_or certs i d)

  pub laid_more : (front before first new : List ℕ) → before ≡ front ++ flat_map (counted w16) (take i (map seen certs)) → first ≡ before ++ to_be_bytes w16 (length here) → new ≡ first ++ here
      → new ≡ front ++ flat_map (counted w16) (take (i + 1) (map seen certs))
  laid_more front before first new is one two =
      let all = two ∙ ap (λ (l : List ℕ). l ++ here) one ∙ append_assoc before (to_be_bytes w16 (length here)) here in
      let more = one_more (counted w16) seen certs i front before (get_or certs i d) lt (get_or_default certs i d (get_or certs i d) lt) (record { is = is }) new all in
      more.is

  pub short_here : All IsShort (map seen certs) → length here ≤ 1024
  short_here short = subst IsShort (get_or-map seen certs i d [] lt) (short i [] (omega (arith, lt, length-map certs seen)))
