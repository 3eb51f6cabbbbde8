-- What is read is spelled so, and what is spelled so is read.
use Rattle.std.proofs.Common.{◌≡◌, ℕ, zero, suc, ◌+◌, ◌-◌, ◌^◌, ◌<◌, ◌≤◌, Bool, true, false, cond, eqb, List, [], ◌∷◌, ◌++◌, length, Result, Ok, Err, refl, sym, ap, subst, ◌∙◌, append_assoc, arith}
use Rattle.std.specs.Int.{w32, to_be_bytes}
use Rattle.std.proofs.lemmas.Bool.{eqb-false, eqb-true}
use Rattle.prin_term.specs.declared.fault.TermFault.{TermFault}
use Rattle.prin_term.specs.declared.fault.TermFault.TheVariants.{Tag, TooDeep, TooLarge, Short}
use Rattle.prin_term.specs.Principal.{Principal, Key, Name, And, Quoting, InRole, For, node_count, depth, spelling, HasSpelling, is_tag}
use Rattle.prin_term.specs.Kind.{Kind, pair, tag_of}
use Rattle.prin_term.specs.Kind as kinds
use Rattle.byte_fields.specs.Steps.{◌>>=◌, front_number}
use Rattle.prin_term.specs.Reading.{Operand, front_pair, front_tagged, front_with, front_term}
use Rattle.byte_fields.proofs.Results.{bind_ok, ok_is}
use Rattle.byte_fields.proofs.FieldLaws.{IsBytes, IsBytes-rest, IsBytes-cons, IsBytes-append, IsBytes-number, Takes, Takes-then, Takes-cons, wide32, front_number_takes, front_number_again}
use Rattle.prin_term.proofs.Levels.{front_term-is}
use Rattle.prin_term.proofs.Heads.{IsHead, is_key, is_name, is_pair, is_role, heads, tag_is_tag, spelling-pair, node_count-pair, depth-pair, pair_has}

-- what reading a term took from the front, with so many levels and nodes left before
pub record TakesTerm (levels nodes : ℕ) (bytes : List ℕ) (x : Operand) : Type 0 where
  pub taken : Takes bytes (spelling x.0) x.2
  pub numbers : HasSpelling x.0
  pub depth_fits : depth x.0 ≤ levels
  pub nodes_are : x.1 + node_count x.0 ≡ nodes

abbrev pub OperandTakes : (ℕ → List ℕ → Result Operand TermFault) → ℕ → Type 0
OperandTakes operand levels = (nodes : ℕ) (bytes : List ℕ) (x : Operand) → IsBytes bytes → operand nodes bytes ≡ Ok x → TakesTerm levels nodes bytes x

key_takes : (end levels nodes : ℕ) (bytes : List ℕ) (x : Operand) → IsBytes bytes → (front_number (Short end) w32 bytes >>= λ n. Ok (Key n.0, nodes, n.1)) ≡ Ok x → TakesTerm (suc levels) (suc nodes) (1 ∷ bytes) x
key_takes end levels nodes bytes x fits e =
    let b = bind_ok _ _ x e in
    let t = front_number_takes (Short end) w32 (2 ^ 32) wide32 bytes b.0 fits b.1 in
    let made : Operand = (Key b.0.0, nodes, b.0.1) in
    subst (λ (y : Operand). TakesTerm (suc levels) (suc nodes) (1 ∷ bytes) y) (ok_is TermFault made x b.2)
    (record { taken = Takes-cons 1 bytes _ _ t.0; numbers = t.1; depth_fits = omega arith; nodes_are = omega arith })

name_takes : (end levels nodes : ℕ) (bytes : List ℕ) (x : Operand) → IsBytes bytes → (front_number (Short end) w32 bytes >>= λ n. Ok (Name n.0, nodes, n.1)) ≡ Ok x → TakesTerm (suc levels) (suc nodes) (2 ∷ bytes) x
name_takes end levels nodes bytes x fits e =
    let b = bind_ok _ _ x e in
    let t = front_number_takes (Short end) w32 (2 ^ 32) wide32 bytes b.0 fits b.1 in
    let made : Operand = (Name b.0.0, nodes, b.0.1) in
    subst (λ (y : Operand). TakesTerm (suc levels) (suc nodes) (2 ∷ bytes) y) (ok_is TermFault made x b.2)
    (record { taken = Takes-cons 2 bytes _ _ t.0; numbers = t.1; depth_fits = omega arith; nodes_are = omega arith })

pair_takes : (operand : ℕ → List ℕ → Result Operand TermFault) (levels : ℕ) (kind : Kind) (nodes : ℕ) (bytes : List ℕ) (x : Operand) → OperandTakes operand levels → IsBytes bytes → front_pair operand kind nodes bytes ≡ Ok x → TakesTerm (suc levels) (suc nodes) (tag_of kind ∷ bytes) x
unfolding front_pair
pair_takes operand levels kind nodes bytes x ih fits e =
    let a = bind_ok _ _ x e in
    let b = bind_ok _ _ x a.2 in
    let first = ih nodes bytes a.0 fits a.1 in
    let second = ih a.0.1 a.0.2 b.0 first.taken.rest_fits b.1 in
    let both = Takes-then bytes (spelling a.0.0) a.0.2 (spelling b.0.0) b.0.2 first.taken second.taken in
    let made : Operand = (pair kind a.0.0 b.0.0, b.0.1, b.0.2) in
    subst (λ (y : Operand). TakesTerm (suc levels) (suc nodes) (tag_of kind ∷ bytes) y) (ok_is TermFault made x b.2)
    (record {
      taken = subst (λ (l : List ℕ). Takes (tag_of kind ∷ bytes) l b.0.2) (sym (spelling-pair kind a.0.0 b.0.0)) (Takes-cons (tag_of kind) bytes _ _ both);
      numbers = pair_has kind a.0.0 b.0.0 first.numbers second.numbers;
      depth_fits = omega (arith, first.depth_fits, second.depth_fits, depth-pair kind a.0.0 b.0.0);
      nodes_are = omega (arith, first.nodes_are, second.nodes_are, node_count-pair kind a.0.0 b.0.0);
    })

role_takes : (operand : ℕ → List ℕ → Result Operand TermFault) (end levels nodes : ℕ) (bytes : List ℕ) (x : Operand) → OperandTakes operand levels → IsBytes bytes
    → (operand nodes bytes >>= λ a. front_number (Short end) w32 a.2 >>= λ r. Ok (InRole a.0 r.0, a.1, r.1)) ≡ Ok x → TakesTerm (suc levels) (suc nodes) (5 ∷ bytes) x
role_takes operand end levels nodes bytes x ih fits e =
    let a = bind_ok _ _ x e in
    let b = bind_ok _ _ x a.2 in
    let first = ih nodes bytes a.0 fits a.1 in
    let second = front_number_takes (Short end) w32 (2 ^ 32) wide32 a.0.2 b.0 first.taken.rest_fits b.1 in
    let both = Takes-then bytes (spelling a.0.0) a.0.2 (to_be_bytes w32 b.0.0) b.0.1 first.taken second.0 in
    let made : Operand = (InRole a.0.0 b.0.0, a.0.1, b.0.1) in
    subst (λ (y : Operand). TakesTerm (suc levels) (suc nodes) (5 ∷ bytes) y) (ok_is TermFault made x b.2)
    (record { taken = Takes-cons 5 bytes _ _ both; numbers = (first.numbers, second.1); depth_fits = omega (arith, first.depth_fits); nodes_are = omega (arith, first.nodes_are) })

tagged_takes : (operand : ℕ → List ℕ → Result Operand TermFault) (end levels nodes tag : ℕ) (bytes : List ℕ) (x : Operand) → OperandTakes operand levels → IsHead tag → IsBytes bytes → front_tagged operand end nodes tag bytes ≡ Ok x → TakesTerm (suc levels) (suc nodes) (tag ∷ bytes) x
unfolding front_tagged
tagged_takes operand end levels nodes tag bytes x ih (is_key t) fits e =
    subst (λ (k : ℕ). front_tagged operand end nodes k bytes ≡ Ok x → TakesTerm (suc levels) (suc nodes) (k ∷ bytes) x) (sym t) (key_takes end levels nodes bytes x fits) e
tagged_takes operand end levels nodes tag bytes x ih (is_name t) fits e =
    subst (λ (k : ℕ). front_tagged operand end nodes k bytes ≡ Ok x → TakesTerm (suc levels) (suc nodes) (k ∷ bytes) x) (sym t) (name_takes end levels nodes bytes x fits) e
tagged_takes operand end levels nodes tag bytes x ih (is_pair kinds.And t) fits e =
    subst (λ (k : ℕ). front_tagged operand end nodes k bytes ≡ Ok x → TakesTerm (suc levels) (suc nodes) (k ∷ bytes) x) (sym t) (pair_takes operand levels kinds.And nodes bytes x ih fits) e
tagged_takes operand end levels nodes tag bytes x ih (is_pair kinds.Quoting t) fits e =
    subst (λ (k : ℕ). front_tagged operand end nodes k bytes ≡ Ok x → TakesTerm (suc levels) (suc nodes) (k ∷ bytes) x) (sym t) (pair_takes operand levels kinds.Quoting nodes bytes x ih fits) e
tagged_takes operand end levels nodes tag bytes x ih (is_pair kinds.For t) fits e =
    subst (λ (k : ℕ). front_tagged operand end nodes k bytes ≡ Ok x → TakesTerm (suc levels) (suc nodes) (k ∷ bytes) x) (sym t) (pair_takes operand levels kinds.For nodes bytes x ih fits) e
tagged_takes operand end levels nodes tag bytes x ih (is_role t) fits e =
    subst (λ (k : ℕ). front_tagged operand end nodes k bytes ≡ Ok x → TakesTerm (suc levels) (suc nodes) (k ∷ bytes) x) (sym t) (role_takes operand end levels nodes bytes x ih fits) e

-- which of the tests at a tag went which way
pub data AtTag (operand : ℕ → List ℕ → Result Operand TermFault) (end levels nodes tag : ℕ) (rest : List ℕ) (r : Result Operand TermFault) : Type 0 where
  no_tag : is_tag tag ≡ false → r ≡ Err (Tag (end - length (tag ∷ rest))) → AtTag operand end levels nodes tag rest r
  no_level : is_tag tag ≡ true → levels ≡ 0 → r ≡ Err (TooDeep (end - length (tag ∷ rest))) → AtTag operand end levels nodes tag rest r
  no_node : is_tag tag ≡ true → 0 < levels → nodes ≡ 0 → r ≡ Err (TooLarge (end - length (tag ∷ rest))) → AtTag operand end levels nodes tag rest r
  goes_on : is_tag tag ≡ true → 0 < levels → 0 < nodes → r ≡ front_tagged operand end (nodes - 1) tag rest → AtTag operand end levels nodes tag rest r

at_tag_by : (operand : ℕ → List ℕ → Result Operand TermFault) (end levels nodes tag : ℕ) (rest : List ℕ) (b d n : Bool) → is_tag tag ≡ b → eqb levels 0 ≡ d → eqb nodes 0 ≡ n
    → AtTag operand end levels nodes tag rest (cond b (cond d (Err (TooDeep (end - length (tag ∷ rest)))) (cond n (Err (TooLarge (end - length (tag ∷ rest)))) (front_tagged operand end (nodes - 1) tag rest))) (Err (Tag (end - length (tag ∷ rest)))))
at_tag_by operand end levels nodes tag rest false d n is deep large = no_tag is refl
at_tag_by operand end levels nodes tag rest true true n is deep large = no_level is (eqb-true _ _ deep) refl
at_tag_by operand end levels nodes tag rest true false true is deep large =
    let above : levels ≡ 0 → ⊥ = eqb-false _ _ deep in no_node is (omega arith) (eqb-true _ _ large) refl
at_tag_by operand end levels nodes tag rest true false false is deep large =
    let above : levels ≡ 0 → ⊥ = eqb-false _ _ deep in
    let some : nodes ≡ 0 → ⊥ = eqb-false _ _ large in
    goes_on is (omega arith) (omega arith) refl

pub at_tag : (operand : ℕ → List ℕ → Result Operand TermFault) (end levels nodes tag : ℕ) (rest : List ℕ) → AtTag operand end levels nodes tag rest (front_with operand end levels nodes (tag ∷ rest))
unfolding front_with
at_tag operand end levels nodes tag rest = at_tag_by operand end levels nodes tag rest (is_tag tag) (eqb levels 0) (eqb nodes 0) refl refl refl

-- what is read is spelled so
step_takes : (operand : ℕ → List ℕ → Result Operand TermFault) (end levels nodes tag : ℕ) (rest : List ℕ) (x : Operand) (r : Result Operand TermFault) → ((d : ℕ) → levels ≡ suc d → OperandTakes operand d) → IsBytes (tag ∷ rest)
    → AtTag operand end levels nodes tag rest r → r ≡ Ok x → TakesTerm levels nodes (tag ∷ rest) x
step_takes operand end levels nodes tag rest x r ih fits (no_tag is e) ok = absurd (cc (e, ok))
step_takes operand end levels nodes tag rest x r ih fits (no_level is deep e) ok = absurd (cc (e, ok))
step_takes operand end levels nodes tag rest x r ih fits (no_node is above large e) ok = absurd (cc (e, ok))
step_takes operand end levels nodes tag rest x r ih fits (goes_on is above some e) ok =
    let d : levels ≡ suc (levels - 1) = omega arith in
    let n : nodes ≡ suc (nodes - 1) = omega arith in
    let taken = tagged_takes operand end (levels - 1) (nodes - 1) tag rest x (ih (levels - 1) d) (heads tag is) (IsBytes-rest tag rest fits) (sym e ∙ ok) in
    subst (λ (m : ℕ). TakesTerm levels m (tag ∷ rest) x) (sym n) (subst (λ (m : ℕ). TakesTerm m (suc (nodes - 1)) (tag ∷ rest) x) (sym d) taken)

pub nothing_read : (end levels nodes : ℕ) → front_term end levels nodes [] ≡ Err (Short end)
unfolding front_term front_with
nothing_read end zero nodes = refl
nothing_read end (suc levels) nodes = refl

pub term_takes : (end levels nodes : ℕ) (bytes : List ℕ) (x : Operand) → IsBytes bytes → front_term end levels nodes bytes ≡ Ok x → TakesTerm levels nodes bytes x
unfolding front_term
term_takes end levels nodes [] x fits e = absurd (cc (nothing_read end levels nodes, e))
term_takes end zero nodes (tag ∷ rest) x fits e =
    step_takes (λ nodes bytes. Err (Short end)) end 0 nodes tag rest x _ (λ d h. absurd (omega arith)) fits (at_tag (λ nodes bytes. Err (Short end)) end 0 nodes tag rest) e
term_takes end (suc levels) nodes (tag ∷ rest) x fits e =
    step_takes (front_term end levels) end (suc levels) nodes tag rest x _ (λ d h. subst (λ (m : ℕ). OperandTakes (front_term end levels) m) (omega (arith, h)) (λ n bytes y f g. term_takes end levels n bytes y f g)) fits (at_tag (front_term end levels) end (suc levels) nodes tag rest) e

-- ---- what is spelled so is read

goes : (operand : ℕ → List ℕ → Result Operand TermFault) (end levels nodes tag : ℕ) (rest : List ℕ) (r : Result Operand TermFault) → is_tag tag ≡ true → 0 < levels → 0 < nodes → AtTag operand end levels nodes tag rest r → r ≡ front_tagged operand end (nodes - 1) tag rest
goes operand end levels nodes tag rest r is above some (no_tag other e) = absurd (cc (is, other))
goes operand end levels nodes tag rest r is above some (no_level _ deep e) = absurd (omega arith)
goes operand end levels nodes tag rest r is above some (no_node _ _ large e) = absurd (omega arith)
goes operand end levels nodes tag rest r is above some (goes_on _ _ _ e) = e

-- reading goes on behind a tag within the limits
pub behind_tag : (end levels nodes tag : ℕ) (rest : List ℕ) → is_tag tag ≡ true → 0 < levels → 0 < nodes → front_term end levels nodes (tag ∷ rest) ≡ front_tagged (front_term end (levels - 1)) end (nodes - 1) tag rest
behind_tag end levels nodes tag rest is above some =
    front_term-is end levels nodes (tag ∷ rest) ∙ goes (front_term end (levels - 1)) end levels nodes tag rest _ is above some (at_tag (front_term end (levels - 1)) end levels nodes tag rest)

pub tagged-pair : (operand : ℕ → List ℕ → Result Operand TermFault) (end nodes : ℕ) (kind : Kind) (bytes : List ℕ) → front_tagged operand end nodes (tag_of kind) bytes ≡ front_pair operand kind nodes bytes
unfolding front_tagged
tagged-pair operand end nodes kinds.And bytes = refl
tagged-pair operand end nodes kinds.Quoting bytes = refl
tagged-pair operand end nodes kinds.For bytes = refl

key_again : (operand : ℕ → List ℕ → Result Operand TermFault) (end nodes k : ℕ) (rest : List ℕ) → k < 2 ^ 32 → front_tagged operand end nodes 1 (to_be_bytes w32 k ++ rest) ≡ Ok (Key k, nodes, rest)
unfolding front_tagged
key_again operand end nodes k rest lt = ap (λ r. r >>= λ n. Ok (Key n.0, nodes, n.1)) (front_number_again (Short end) w32 (2 ^ 32) wide32 k rest lt)

name_again : (operand : ℕ → List ℕ → Result Operand TermFault) (end nodes k : ℕ) (rest : List ℕ) → k < 2 ^ 32 → front_tagged operand end nodes 2 (to_be_bytes w32 k ++ rest) ≡ Ok (Name k, nodes, rest)
unfolding front_tagged
name_again operand end nodes k rest lt = ap (λ r. r >>= λ n. Ok (Name n.0, nodes, n.1)) (front_number_again (Short end) w32 (2 ^ 32) wide32 k rest lt)

pair_again : (operand : ℕ → List ℕ → Result Operand TermFault) (kind : Kind) (nodes mid left : ℕ) (a b : Principal) (bytes middle rest : List ℕ)
    → operand nodes bytes ≡ Ok (a, mid, middle) → operand mid middle ≡ Ok (b, left, rest) → front_pair operand kind nodes bytes ≡ Ok (pair kind a b, left, rest)
unfolding front_pair
pair_again operand kind nodes mid left a b bytes middle rest first second =
    ap (λ r. r >>= λ x. operand x.1 x.2 >>= λ y. Ok (pair kind x.0 y.0, y.1, y.2)) first ∙ ap (λ r. r >>= λ y. Ok (pair kind a y.0, y.1, y.2)) second

role_again : (operand : ℕ → List ℕ → Result Operand TermFault) (end nodes mid r : ℕ) (a : Principal) (bytes rest : List ℕ) → r < 2 ^ 32 → operand nodes bytes ≡ Ok (a, mid, to_be_bytes w32 r ++ rest) → front_tagged operand end nodes 5 bytes ≡ Ok (InRole a r, mid, rest)
unfolding front_tagged
role_again operand end nodes mid r a bytes rest lt first =
    ap (λ x. x >>= λ y. front_number (Short end) w32 y.2 >>= λ n. Ok (InRole y.0 n.0, y.1, n.1)) first ∙ ap (λ x. x >>= λ n. Ok (InRole a n.0, mid, n.1)) (front_number_again (Short end) w32 (2 ^ 32) wide32 r rest lt)

pub some_nodes : (t : Principal) → 0 < node_count t
some_nodes (Key k) = omega arith
some_nodes (Name n) = omega arith
some_nodes (And a b) = omega arith
some_nodes (Quoting a b) = omega arith
some_nodes (InRole a r) = omega arith
some_nodes (For a b) = omega arith

pub some_depth : (t : Principal) → 0 < depth t
some_depth (Key k) = omega arith
some_depth (Name n) = omega arith
some_depth (And a b) = omega arith
some_depth (Quoting a b) = omega arith
some_depth (InRole a r) = omega arith
some_depth (For a b) = omega arith

-- a compound of two is read where its operands are
pair_term : (end levels nodes mid left : ℕ) (kind : Kind) (a b : Principal) (rest : List ℕ) → 0 < levels → 0 < nodes
    → front_term end (levels - 1) (nodes - 1) (spelling a ++ (spelling b ++ rest)) ≡ Ok (a, mid, spelling b ++ rest)
    → front_term end (levels - 1) mid (spelling b ++ rest) ≡ Ok (b, left, rest)
    → front_term end levels nodes (tag_of kind ∷ ((spelling a ++ spelling b) ++ rest)) ≡ Ok (pair kind a b, left, rest)
pair_term end levels nodes mid left kind a b rest above some first second =
    let regrouped : (spelling a ++ spelling b) ++ rest ≡ spelling a ++ (spelling b ++ rest) = append_assoc (spelling a) (spelling b) rest in
    ap (λ (l : List ℕ). front_term end levels nodes (tag_of kind ∷ l)) regrouped
    ∙ behind_tag end levels nodes (tag_of kind) (spelling a ++ (spelling b ++ rest)) (tag_is_tag kind) above some
    ∙ tagged-pair (front_term end (levels - 1)) end (nodes - 1) kind (spelling a ++ (spelling b ++ rest))
    ∙ pair_again (front_term end (levels - 1)) kind (nodes - 1) mid left a b (spelling a ++ (spelling b ++ rest)) (spelling b ++ rest) rest first second

pub term_again : (end levels nodes left : ℕ) (t : Principal) (rest : List ℕ) → HasSpelling t → depth t ≤ levels → left + node_count t ≡ nodes → front_term end levels nodes (spelling t ++ rest) ≡ Ok (t, left, rest)
term_again end levels nodes left (Key k) rest numbers deep count =
    let n : nodes - 1 ≡ left = omega arith in
    behind_tag end levels nodes 1 (to_be_bytes w32 k ++ rest) refl (omega arith) (omega arith) ∙ ap (λ (m : ℕ). front_tagged (front_term end (levels - 1)) end m 1 (to_be_bytes w32 k ++ rest)) n ∙ key_again (front_term end (levels - 1)) end left k rest numbers
term_again end levels nodes left (Name k) rest numbers deep count =
    let n : nodes - 1 ≡ left = omega arith in
    behind_tag end levels nodes 2 (to_be_bytes w32 k ++ rest) refl (omega arith) (omega arith) ∙ ap (λ (m : ℕ). front_tagged (front_term end (levels - 1)) end m 2 (to_be_bytes w32 k ++ rest)) n ∙ name_again (front_term end (levels - 1)) end left k rest numbers
term_again end levels nodes left (And a b) rest numbers deep count =
    pair_term end levels nodes (left + node_count b) left kinds.And a b rest (omega arith) (omega arith)
    (term_again end (levels - 1) (nodes - 1) (left + node_count b) a (spelling b ++ rest) numbers.0 (omega arith) (omega arith))
    (term_again end (levels - 1) (left + node_count b) left b rest numbers.1 (omega arith) (omega arith))
term_again end levels nodes left (Quoting a b) rest numbers deep count =
    pair_term end levels nodes (left + node_count b) left kinds.Quoting a b rest (omega arith) (omega arith)
    (term_again end (levels - 1) (nodes - 1) (left + node_count b) a (spelling b ++ rest) numbers.0 (omega arith) (omega arith))
    (term_again end (levels - 1) (left + node_count b) left b rest numbers.1 (omega arith) (omega arith))
term_again end levels nodes left (InRole a r) rest numbers deep count =
    let first = term_again end (levels - 1) (nodes - 1) left a (to_be_bytes w32 r ++ rest) numbers.0 (omega arith) (omega arith) in
    let regrouped : (spelling a ++ to_be_bytes w32 r) ++ rest ≡ spelling a ++ (to_be_bytes w32 r ++ rest) = append_assoc (spelling a) (to_be_bytes w32 r) rest in
    ap (λ (l : List ℕ). front_term end levels nodes (5 ∷ l)) regrouped
    ∙ behind_tag end levels nodes 5 (spelling a ++ (to_be_bytes w32 r ++ rest)) refl (omega arith) (omega arith)
    ∙ role_again (front_term end (levels - 1)) end (nodes - 1) left r a (spelling a ++ (to_be_bytes w32 r ++ rest)) rest numbers.1 first
term_again end levels nodes left (For a b) rest numbers deep count =
    pair_term end levels nodes (left + node_count b) left kinds.For a b rest (omega arith) (omega arith)
    (term_again end (levels - 1) (nodes - 1) (left + node_count b) a (spelling b ++ rest) numbers.0 (omega arith) (omega arith))
    (term_again end (levels - 1) (left + node_count b) left b rest numbers.1 (omega arith) (omega arith))

-- a spelling is bytes
pub spelling_bytes : (t : Principal) → IsBytes (spelling t)
spelling_bytes (Key k) = IsBytes-cons 1 (to_be_bytes w32 k) (omega arith) (IsBytes-number w32 k)
spelling_bytes (Name n) = IsBytes-cons 2 (to_be_bytes w32 n) (omega arith) (IsBytes-number w32 n)
spelling_bytes (And a b) = IsBytes-cons 3 (spelling a ++ spelling b) (omega arith) (IsBytes-append (spelling a) (spelling b) (spelling_bytes a) (spelling_bytes b))
spelling_bytes (Quoting a b) = IsBytes-cons 4 (spelling a ++ spelling b) (omega arith) (IsBytes-append (spelling a) (spelling b) (spelling_bytes a) (spelling_bytes b))
spelling_bytes (InRole a r) = IsBytes-cons 5 (spelling a ++ to_be_bytes w32 r) (omega arith) (IsBytes-append (spelling a) (to_be_bytes w32 r) (spelling_bytes a) (IsBytes-number w32 r))
spelling_bytes (For a b) = IsBytes-cons 6 (spelling a ++ spelling b) (omega arith) (IsBytes-append (spelling a) (spelling b) (spelling_bytes a) (spelling_bytes b))
