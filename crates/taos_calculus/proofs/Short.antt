-- How long a proof's bytes are at most.
use Rattle.std.proofs.Common.{◌*◌, ◌<◌, ◌≤◌, ◌^◌, ℕ, List, [], ◌∷◌, ◌++◌, length, arith}
use Rattle.std.specs.List.{flat_map}
use Rattle.std.specs.Int.{w16, w32, to_be_bytes}
use Rattle.std.proofs.lemmas.List.{length-append}
use Rattle.std.proofs.lemmas.List.Concat.{flat_map-cons}
use Rattle.std.proofs.Common.{ap}
use Rattle.taos_calculus.specs.declared.line.Node.{Node}
use Rattle.taos_calculus.specs.declared.line.Fact.{Fact}
use Rattle.taos_calculus.specs.declared.line.Step.{Step}
use Rattle.taos_calculus.specs.declared.line.Line.{Line}
use Rattle.taos_calculus.specs.Tables.{parts_of}
use Rattle.taos_calculus.specs.Spelling.{node_bytes, fact_bytes, premise_bytes, line_bytes, parts_spelling}

flat_map_short : {A : Type 0} (f : A → List ℕ) (c : ℕ) → ((x : A) → length (f x) ≤ c) → (xs : List A) → length (flat_map f xs) ≤ length xs * c
flat_map_short f c each [] = omega arith
flat_map_short f c each (x ∷ xs) =
    let step = ap length (flat_map-cons f x xs) in
    let sum = length-append (f x) (flat_map f xs) in
    let rest = flat_map_short f c each xs in
    let first = each x in
    omega (arith, step, sum, rest, first)

node_short : (n : Node) → length (node_bytes n) ≤ 7
node_short (Node.Key k) = omega arith
node_short (Node.Name k) = omega arith
node_short (Node.And a b) = omega arith
node_short (Node.Quote a b) = omega arith
node_short (Node.AsRole a r) = omega arith
node_short (Node.For a b) = omega arith

fact_short : (f : Fact) → length (fact_bytes f) ≤ 6
fact_short (Fact.Speaks l r) = omega arith
fact_short (Fact.Says w l r) = omega arith

premise_short : (s : Step) → length (premise_bytes s) ≤ 8
premise_short Step.Same = omega arith
premise_short (Step.Chain i j) = omega arith
premise_short Step.Left = omega arith
premise_short Step.Right = omega arith
premise_short (Step.Both i j) = omega arith
premise_short (Step.Quote i j) = omega arith
premise_short (Step.For i j) = omega arith
premise_short Step.Role = omega arith
premise_short (Step.RoleUnder i) = omega arith
premise_short (Step.Anchor i) = omega arith
premise_short (Step.Said i) = omega arith
premise_short (Step.Lift i j) = omega arith
premise_short (Step.Join i j) = omega arith
premise_short (Step.HandOff i) = omega arith
premise_short (Step.Delegate i) = omega arith

line_short : (l : Line) → length (line_bytes l) ≤ 15
line_short l = omega (arith, fact_short l.fact, premise_short l.step, length-append (fact_bytes l.fact) (premise_bytes l.step))

pub parts_short : (nodes : List Node) (lines : List Line) → length nodes ≤ 1296 → length lines ≤ 1762560 → length (parts_spelling (parts_of nodes lines)) < 2 ^ 25
parts_short nodes lines few_nodes few_lines =
    let n = flat_map_short node_bytes 7 node_short nodes in
    let l = flat_map_short line_bytes 15 line_short lines in
    let a = length-append (to_be_bytes w16 (length nodes)) (flat_map node_bytes nodes) in
    let b = length-append (to_be_bytes w16 (length nodes) ++ flat_map node_bytes nodes) (to_be_bytes w32 (length lines)) in
    let c = length-append (to_be_bytes w16 (length nodes) ++ flat_map node_bytes nodes ++ to_be_bytes w32 (length lines)) (flat_map line_bytes lines) in
    omega (arith, n, l, a, b, c, few_nodes, few_lines)
