-- The piece that is read of a principal.
use Rattle.std.proofs.Common.{◌≡◌, ◌⊎◌, ℕ, ◌+◌, ◌<◌, ◌≤◌, max, true, false, cond, refl, sym, ap, ◌∙◌, inl, inr, arith}
use Rattle.std.specs.Prelude.{nat_le, nat_lt, if◌then◌else◌}
use Rattle.std.proofs.lemmas.Bool.Decides.{nat_tests, leb_tells}
use Rattle.prin_term.specs.declared.limits.TheConstants.{MAX_DEPTH}
use Rattle.prin_term.specs.Principal.{Principal, Key, Name, And, Quoting, InRole, For, node_count, depth}
use Rattle.prin_term.specs.Kind.{Kind, pair}
use Rattle.prin_term.proofs.Heads.{depth-pair}
use Rattle.prin_text.specs.Pieces.{Piece, Built, Deep, built, joined, in_role}

-- the principal with its depth, or that it is too deep
abbrev pub piece_of : Principal → Piece
piece_of p = if nat_le (depth p) MAX_DEPTH then Built p (depth p) else Deep

-- a compound is built exactly where it is not too deep
pub built-is : (p : Principal) (below : ℕ) → depth p ≡ 1 + below → built p below ≡ piece_of p
built-is p below deeper = elim (leb_tells (depth p) MAX_DEPTH) [
  | inl fits ↦
      let less : nat_lt below MAX_DEPTH ≡ true = grind (arith, nat_tests) in
      ap (λ b. cond b (Built p (below + 1)) Deep) less ∙ ap (λ d. Built p d) (omega arith) ∙ sym (ap (λ b. cond b (Built p (depth p)) Deep) fits.0)
  | inr over ↦
      let more : nat_lt below MAX_DEPTH ≡ false = grind (arith, nat_tests) in
      ap (λ b. cond b (Built p (below + 1)) Deep) more ∙ sym (ap (λ b. cond b (Built p (depth p)) Deep) over.0)
]

piece_fits : (p : Principal) → nat_le (depth p) MAX_DEPTH ≡ true → piece_of p ≡ Built p (depth p)
piece_fits p fits = ap (λ b. cond b (Built p (depth p)) Deep) fits

piece_over : (p : Principal) → nat_le (depth p) MAX_DEPTH ≡ false → piece_of p ≡ Deep
piece_over p over = ap (λ b. cond b (Built p (depth p)) Deep) over

-- what is too deep in one operand is too deep in the compound
over_pair : (kind : Kind) (a b : Principal) → (MAX_DEPTH < depth a) ⊎ (MAX_DEPTH < depth b) → piece_of (pair kind a b) ≡ Deep
over_pair kind a b over = piece_over (pair kind a b) (let deeper = depth-pair kind a b in grind (arith, nat_tests))

-- pieces are joined as the principals are
pub joined-piece_of : (kind : Kind) (a b : Principal) → joined kind (piece_of a) (piece_of b) ≡ piece_of (pair kind a b)
joined-piece_of kind a b = elim (leb_tells (depth a) MAX_DEPTH) [
  | inl first ↦ elim (leb_tells (depth b) MAX_DEPTH) [
    | inl second ↦ ap (λ x. joined kind x (piece_of b)) (piece_fits a first.0) ∙ ap (λ x. joined kind (Built a (depth a)) x) (piece_fits b second.0) ∙ built-is (pair kind a b) (max (depth a) (depth b)) (depth-pair kind a b)
    | inr over ↦ ap (λ x. joined kind x (piece_of b)) (piece_fits a first.0) ∙ ap (λ x. joined kind (Built a (depth a)) x) (piece_over b over.0) ∙ sym (over_pair kind a b (inr over.1))
  ]
  | inr over ↦ ap (λ x. joined kind x (piece_of b)) (piece_over a over.0) ∙ sym (over_pair kind a b (inl over.1))
]

pub in_role-piece_of : (a : Principal) (r : ℕ) → in_role (piece_of a) r ≡ piece_of (InRole a r)
in_role-piece_of a r = elim (leb_tells (depth a) MAX_DEPTH) [
  | inl fits ↦ ap (λ x. in_role x r) (piece_fits a fits.0) ∙ built-is (InRole a r) (depth a) refl
  | inr over ↦ ap (λ x. in_role x r) (piece_over a over.0) ∙ sym (piece_over (InRole a r) (grind (arith, nat_tests)))
]

-- no principal is deeper than it has nodes
pub depth-le-node_count : (p : Principal) → depth p ≤ node_count p
depth-le-node_count (Key k) = omega arith
depth-le-node_count (Name n) = omega arith
depth-le-node_count (And a b) = omega (arith, depth-le-node_count a, depth-le-node_count b)
depth-le-node_count (Quoting a b) = omega (arith, depth-le-node_count a, depth-le-node_count b)
depth-le-node_count (InRole a r) = omega (arith, depth-le-node_count a)
depth-le-node_count (For a b) = omega (arith, depth-le-node_count a, depth-le-node_count b)
