-- Reading refuses bytes exactly where and how they are refused.
use Rattle.std.proofs.Common.{◌≡◌, ◌⊎◌, ℕ, zero, suc, ◌+◌, ◌-◌, ◌<◌, ◌≤◌, true, false, List, [], ◌∷◌, ◌++◌, length, Result, Ok, Err, refl, sym, ap, subst, ◌∙◌, append_assoc, arith, inl, inr, length-append}
use Rattle.prin_term.specs.declared.fault.TermFault.{TermFault}
use Rattle.prin_term.specs.declared.fault.TermFault.TheVariants.{Tag, TooDeep, TooLarge, Short, NoMemory}
use Rattle.prin_term.specs.Principal.{Principal, Key, Name, InRole, node_count, depth, spelling, HasSpelling, is_tag}
use Rattle.prin_term.specs.Kind.{Kind, And, Quoting, For, pair, tag_of}
use Rattle.byte_fields.specs.Steps.{◌>>=◌, front_number}
use Rattle.std.specs.Int.{w32}
use Rattle.prin_term.specs.Reading.{Operand, front_pair, front_tagged, front_term}
use Rattle.prin_term.specs.Refusal.{Beginning, Here, InFirst, InSecond, InBase, before, count_of, height_of, level_of, NumbersFit, EndsInTerm, at_tag, in_atom, in_role, IsWrongAt, IsRefused}
use Rattle.byte_fields.proofs.Results.{bind_err, err_is}
use Rattle.byte_fields.proofs.FieldLaws.{IsBytes, IsBytes-rest, front_number_refused, front_number_short}
use Rattle.prin_term.proofs.Heads.{IsHead, is_key, is_name, is_pair, is_role, heads, tag_is_tag}
use Rattle.prin_term.proofs.Levels.{front_term-is}
use Rattle.prin_term.proofs.Terms.{AtTag, no_tag, no_level, no_node, goes_on, at_tag as tests_at, OperandTakes, term_takes, term_again, behind_tag, tagged-pair, nothing_read}

-- what is wrong, under other names for the numbers
moved : (d d' n n' o o' : ℕ) (rest : List ℕ) (f : TermFault) → d ≡ d' → n ≡ n' → o ≡ o' → IsWrongAt d n rest o f → IsWrongAt d' n' rest o' f
moved d d' n n' o o' rest f de ne oe h =
    subst (λ (x : ℕ). IsWrongAt x n' rest o' f) de (subst (λ (x : ℕ). IsWrongAt d x rest o' f) ne (subst (λ (x : ℕ). IsWrongAt d n rest x f) oe h))

here : (levels nodes at : ℕ) (bytes : List ℕ) (f : TermFault) → IsWrongAt levels nodes bytes at f → IsRefused levels nodes bytes at f
here levels nodes at bytes f wrong = record {
  beginning = Here;
  rest = bytes;
  text = refl;
  numbers = tt;
  height_fits = omega arith;
  count_fits = omega arith;
  wrong = moved levels (levels - 0) nodes (nodes - 0) at (at + 0) bytes f (omega arith) (omega arith) (omega arith) wrong;
}

in_first : (levels nodes at : ℕ) (kind : Kind) (bytes : List ℕ) (f : TermFault) → IsRefused levels nodes bytes (at + 1) f → IsRefused (suc levels) (suc nodes) (tag_of kind ∷ bytes) at f
in_first levels nodes at kind bytes f r = record {
  beginning = InFirst kind r.beginning;
  rest = r.rest;
  text = ap (λ (l : List ℕ). tag_of kind ∷ l) r.text;
  numbers = r.numbers;
  height_fits = omega (arith, r.height_fits);
  count_fits = omega (arith, r.count_fits);
  wrong = moved (levels - level_of r.beginning) _ (nodes - count_of r.beginning) _ (at + 1 + length (before r.beginning)) _ r.rest f (omega arith) (omega arith) (omega arith) r.wrong;
}

in_base : (levels nodes at : ℕ) (bytes : List ℕ) (f : TermFault) → IsRefused levels nodes bytes (at + 1) f → IsRefused (suc levels) (suc nodes) (5 ∷ bytes) at f
in_base levels nodes at bytes f r = record {
  beginning = InBase r.beginning;
  rest = r.rest;
  text = ap (λ (l : List ℕ). 5 ∷ l) r.text;
  numbers = r.numbers;
  height_fits = omega (arith, r.height_fits);
  count_fits = omega (arith, r.count_fits);
  wrong = moved (levels - level_of r.beginning) _ (nodes - count_of r.beginning) _ (at + 1 + length (before r.beginning)) _ r.rest f (omega arith) (omega arith) (omega arith) r.wrong;
}

in_second : (levels nodes left at : ℕ) (kind : Kind) (a : Principal) (bytes : List ℕ) (f : TermFault) → HasSpelling a → depth a ≤ levels → left + node_count a ≡ nodes
    → IsRefused levels left bytes (at + 1 + length (spelling a)) f → IsRefused (suc levels) (suc nodes) (tag_of kind ∷ (spelling a ++ bytes)) at f
in_second levels nodes left at kind a bytes f numbers deep count r = record {
  beginning = InSecond kind a r.beginning;
  rest = r.rest;
  text = ap (λ (l : List ℕ). tag_of kind ∷ l) (ap (λ (l : List ℕ). spelling a ++ l) r.text ∙ sym (append_assoc (spelling a) (before r.beginning) r.rest));
  numbers = (numbers, r.numbers);
  height_fits = omega (arith, r.height_fits);
  count_fits = omega (arith, r.count_fits);
  wrong = moved (levels - level_of r.beginning) _ (left - count_of r.beginning) _ (at + 1 + length (spelling a) + length (before r.beginning)) _ r.rest f (omega arith) (omega arith) (omega (arith, length-append (spelling a) (before r.beginning))) r.wrong;
}

-- ---- a fault of reading is a refusal

abbrev OperandRefuses : (ℕ → List ℕ → Result Operand TermFault) → ℕ → ℕ → Type 0
OperandRefuses operand end levels = (nodes at : ℕ) (bytes : List ℕ) (f : TermFault) → IsBytes bytes → end ≡ at + length bytes → operand nodes bytes ≡ Err f → IsRefused levels nodes bytes at f

atom_refused : (end levels nodes at tag : ℕ) (bytes : List ℕ) (f : TermFault) (make : ℕ × List ℕ → Operand) → (tag ≡ 1) ⊎ (tag ≡ 2) → end ≡ at + length (tag ∷ bytes) → (front_number (Short end) w32 bytes >>= λ n. Ok (make n)) ≡ Err f → IsRefused (suc levels) (suc nodes) (tag ∷ bytes) at f
atom_refused end levels nodes at tag bytes f make is total e = elim (bind_err _ _ f e) [
  | inl short ↦
      let s = front_number_refused (Short end) w32 bytes f short in
      subst (λ (g : TermFault). IsRefused (suc levels) (suc nodes) (tag ∷ bytes) at g) (sym s.1)
      (here (suc levels) (suc nodes) at (tag ∷ bytes) (Short end) (in_atom tag bytes is (omega arith) (omega arith) s.0 refl, total))
  | inr other ↦ absurd (cc (other.2))
]

pair_refused : (operand : ℕ → List ℕ → Result Operand TermFault) (end levels nodes at : ℕ) (kind : Kind) (bytes : List ℕ) (f : TermFault) → OperandTakes operand levels
    → OperandRefuses operand end levels → IsBytes bytes → end ≡ at + length (tag_of kind ∷ bytes) → front_pair operand kind nodes bytes ≡ Err f
    → IsRefused (suc levels) (suc nodes) (tag_of kind ∷ bytes) at f
unfolding front_pair
pair_refused operand end levels nodes at kind bytes f takes ih fits total e = elim (bind_err _ _ f e) [
  | inl first ↦ in_first levels nodes at kind bytes f (ih nodes (at + 1) bytes f fits (omega (arith, total)) first)
  | inr read ↦ elim (bind_err _ _ f read.2) [
    | inl second ↦
        let t = takes nodes bytes read.0 fits read.1 in
        let len : length bytes ≡ length (spelling read.0.0) + length read.0.2 = ap length t.taken.parts ∙ length-append (spelling read.0.0) read.0.2 in
        let r = ih read.0.1 (at + 1 + length (spelling read.0.0)) read.0.2 f t.taken.rest_fits (omega (arith, total, len)) second in
        subst (λ (l : List ℕ). IsRefused (suc levels) (suc nodes) (tag_of kind ∷ l) at f) (sym t.taken.parts) (in_second levels nodes read.0.1 at kind read.0.0 read.0.2 f t.numbers t.depth_fits t.nodes_are r)
    | inr other ↦ absurd (cc (other.2))
  ]
]

role_refused : (operand : ℕ → List ℕ → Result Operand TermFault) (end levels nodes at : ℕ) (bytes : List ℕ) (f : TermFault) → OperandTakes operand levels
    → OperandRefuses operand end levels → IsBytes bytes → end ≡ at + length (5 ∷ bytes) → front_tagged operand end nodes 5 bytes ≡ Err f
    → IsRefused (suc levels) (suc nodes) (5 ∷ bytes) at f
unfolding front_tagged
role_refused operand end levels nodes at bytes f takes ih fits total e = elim (bind_err _ _ f e) [
  | inl first ↦ in_base levels nodes at bytes f (ih nodes (at + 1) bytes f fits (omega (arith, total)) first)
  | inr read ↦ elim (bind_err _ _ f read.2) [
    | inl short ↦
        let t = takes nodes bytes read.0 fits read.1 in
        let s = front_number_refused (Short end) w32 read.0.2 f short in
        let cut = in_role read.0.0 read.0.2 t.numbers (omega (arith, t.depth_fits)) (omega (arith, t.nodes_are)) s.0 (ap (λ (l : List ℕ). 5 ∷ l) t.taken.parts) in
        subst (λ (g : TermFault). IsRefused (suc levels) (suc nodes) (5 ∷ bytes) at g) (sym s.1) (here (suc levels) (suc nodes) at (5 ∷ bytes) (Short end) (cut, total))
    | inr other ↦ absurd (cc (other.2))
  ]
]

tagged_refused : (operand : ℕ → List ℕ → Result Operand TermFault) (end levels nodes at tag : ℕ) (bytes : List ℕ) (f : TermFault) → OperandTakes operand levels
    → OperandRefuses operand end levels → IsHead tag → IsBytes bytes → end ≡ at + length (tag ∷ bytes) → front_tagged operand end nodes tag bytes ≡ Err f
    → IsRefused (suc levels) (suc nodes) (tag ∷ bytes) at f
unfolding front_tagged
tagged_refused operand end levels nodes at tag bytes f takes ih (is_key t) fits total e =
    subst (λ (k : ℕ). end ≡ at + length (k ∷ bytes) → front_tagged operand end nodes k bytes ≡ Err f → IsRefused (suc levels) (suc nodes) (k ∷ bytes) at f) (sym t) (atom_refused end levels nodes at 1 bytes f (λ n. (Key n.0, nodes, n.1)) (inl refl)) total e
tagged_refused operand end levels nodes at tag bytes f takes ih (is_name t) fits total e =
    subst (λ (k : ℕ). end ≡ at + length (k ∷ bytes) → front_tagged operand end nodes k bytes ≡ Err f → IsRefused (suc levels) (suc nodes) (k ∷ bytes) at f) (sym t) (atom_refused end levels nodes at 2 bytes f (λ n. (Name n.0, nodes, n.1)) (inr refl)) total e
tagged_refused operand end levels nodes at tag bytes f takes ih (is_pair And t) fits total e =
    subst (λ (k : ℕ). end ≡ at + length (k ∷ bytes) → front_tagged operand end nodes k bytes ≡ Err f → IsRefused (suc levels) (suc nodes) (k ∷ bytes) at f) (sym t) (pair_refused operand end levels nodes at And bytes f takes ih fits) total e
tagged_refused operand end levels nodes at tag bytes f takes ih (is_pair Quoting t) fits total e =
    subst (λ (k : ℕ). end ≡ at + length (k ∷ bytes) → front_tagged operand end nodes k bytes ≡ Err f → IsRefused (suc levels) (suc nodes) (k ∷ bytes) at f) (sym t) (pair_refused operand end levels nodes at Quoting bytes f takes ih fits) total e
tagged_refused operand end levels nodes at tag bytes f takes ih (is_pair For t) fits total e =
    subst (λ (k : ℕ). end ≡ at + length (k ∷ bytes) → front_tagged operand end nodes k bytes ≡ Err f → IsRefused (suc levels) (suc nodes) (k ∷ bytes) at f) (sym t) (pair_refused operand end levels nodes at For bytes f takes ih fits) total e
tagged_refused operand end levels nodes at tag bytes f takes ih (is_role t) fits total e =
    subst (λ (k : ℕ). end ≡ at + length (k ∷ bytes) → front_tagged operand end nodes k bytes ≡ Err f → IsRefused (suc levels) (suc nodes) (k ∷ bytes) at f) (sym t) (role_refused operand end levels nodes at bytes f takes ih fits) total e

step_refused : (operand : ℕ → List ℕ → Result Operand TermFault) (end levels nodes at tag : ℕ) (rest : List ℕ) (f : TermFault) (r : Result Operand TermFault)
    → ((d : ℕ) → levels ≡ suc d → OperandTakes operand d) → ((d : ℕ) → levels ≡ suc d → OperandRefuses operand end d) → IsBytes (tag ∷ rest)
    → end ≡ at + length (tag ∷ rest)
    → AtTag operand end levels nodes tag rest r → r ≡ Err f → IsRefused levels nodes (tag ∷ rest) at f
step_refused operand end levels nodes at tag rest f r takes ih fits total (no_tag is e) err =
    subst (λ (g : TermFault). IsRefused levels nodes (tag ∷ rest) at g) (err_is Operand _ f (sym e ∙ err)) (here levels nodes at (tag ∷ rest) _ (is, omega (arith, total)))
step_refused operand end levels nodes at tag rest f r takes ih fits total (no_level is deep e) err =
    subst (λ (g : TermFault). IsRefused levels nodes (tag ∷ rest) at g) (err_is Operand _ f (sym e ∙ err)) (here levels nodes at (tag ∷ rest) _ (is, deep, omega (arith, total)))
step_refused operand end levels nodes at tag rest f r takes ih fits total (no_node is above large e) err =
    subst (λ (g : TermFault). IsRefused levels nodes (tag ∷ rest) at g) (err_is Operand _ f (sym e ∙ err)) (here levels nodes at (tag ∷ rest) _ (is, above, large, omega (arith, total)))
step_refused operand end levels nodes at tag rest f r takes ih fits total (goes_on is above some e) err =
    let d : levels ≡ suc (levels - 1) = omega arith in
    let n : nodes ≡ suc (nodes - 1) = omega arith in
    let refused = tagged_refused operand end (levels - 1) (nodes - 1) at tag rest f (takes (levels - 1) d) (ih (levels - 1) d) (heads tag is) (IsBytes-rest tag rest fits) total (sym e ∙ err) in
    subst (λ (m : ℕ). IsRefused levels m (tag ∷ rest) at f) (sym n) (subst (λ (m : ℕ). IsRefused m (suc (nodes - 1)) (tag ∷ rest) at f) (sym d) refused)

pub refused : (end levels nodes at : ℕ) (bytes : List ℕ) (f : TermFault) → IsBytes bytes → end ≡ at + length bytes → front_term end levels nodes bytes ≡ Err f → IsRefused levels nodes bytes at f
unfolding front_term
refused end levels nodes at [] f fits total e =
    subst (λ (g : TermFault). IsRefused levels nodes [] at g) (err_is Operand _ f (sym (nothing_read end levels nodes) ∙ e)) (here levels nodes at [] (Short end) (at_tag refl, total))
refused end zero nodes at (tag ∷ rest) f fits total e =
    step_refused (λ nodes bytes. Err (Short end)) end 0 nodes at tag rest f _ (λ d h. absurd (omega arith)) (λ d h. absurd (omega arith)) fits total (tests_at (λ nodes bytes. Err (Short end)) end 0 nodes tag rest) e
refused end (suc levels) nodes at (tag ∷ rest) f fits total e =
    step_refused (front_term end levels) end (suc levels) nodes at tag rest f _
    (λ d h. subst (λ (m : ℕ). OperandTakes (front_term end levels) m) (omega (arith, h)) (λ n bytes x g k. term_takes end levels n bytes x g k))
    (λ d h. subst (λ (m : ℕ). OperandRefuses (front_term end levels) end m) (omega (arith, h)) (λ n o bytes g i j k. refused end levels n o bytes g i j k))
    fits total (tests_at (front_term end levels) end (suc levels) nodes tag rest) e

-- ---- a refusal is the fault of reading

-- a byte that is no tag, a level too deep, a node too many
stops : (operand : ℕ → List ℕ → Result Operand TermFault) (end levels nodes at tag : ℕ) (rest : List ℕ) (f : TermFault) (r : Result Operand TermFault) → end ≡ at + length (tag ∷ rest) → AtTag operand end levels nodes tag rest r
    → ((is_tag tag ≡ false) × (f ≡ Tag at)) ⊎ (((is_tag tag ≡ true) × (levels ≡ 0) × (f ≡ TooDeep at)) ⊎ ((is_tag tag ≡ true) × (0 < levels) × (nodes ≡ 0) × (f ≡ TooLarge at))) → r ≡ Err f
stops operand end levels nodes at tag rest f r total (no_tag is e) (inl w) = let o : end - length (tag ∷ rest) ≡ at = omega (arith, total) in e ∙ ap (λ (x : ℕ). Err (Tag x)) o ∙ ap (λ (g : TermFault). Err g) (sym w.1)
stops operand end levels nodes at tag rest f r total (no_tag is e) (inr (inl w)) = absurd (cc (is, w.0))
stops operand end levels nodes at tag rest f r total (no_tag is e) (inr (inr w)) = absurd (cc (is, w.0))
stops operand end levels nodes at tag rest f r total (no_level is deep e) (inl w) = absurd (cc (is, w.0))
stops operand end levels nodes at tag rest f r total (no_level is deep e) (inr (inl w)) = let o : end - length (tag ∷ rest) ≡ at = omega (arith, total) in e ∙ ap (λ (x : ℕ). Err (TooDeep x)) o ∙ ap (λ (g : TermFault). Err g) (sym w.2)
stops operand end levels nodes at tag rest f r total (no_level is deep e) (inr (inr w)) = absurd (omega (arith, w.1, deep))
stops operand end levels nodes at tag rest f r total (no_node is above large e) (inl w) = absurd (cc (is, w.0))
stops operand end levels nodes at tag rest f r total (no_node is above large e) (inr (inl w)) = absurd (omega (arith, w.1, above))
stops operand end levels nodes at tag rest f r total (no_node is above large e) (inr (inr w)) = let o : end - length (tag ∷ rest) ≡ at = omega (arith, total) in e ∙ ap (λ (x : ℕ). Err (TooLarge x)) o ∙ ap (λ (g : TermFault). Err g) (sym w.3)
stops operand end levels nodes at tag rest f r total (goes_on is above some e) (inl w) = absurd (cc (is, w.0))
stops operand end levels nodes at tag rest f r total (goes_on is above some e) (inr (inl w)) = absurd (omega (arith, w.1, above))
stops operand end levels nodes at tag rest f r total (goes_on is above some e) (inr (inr w)) = absurd (omega (arith, w.2, some))

pair_fails_first : (operand : ℕ → List ℕ → Result Operand TermFault) (kind : Kind) (nodes : ℕ) (bytes : List ℕ) (f : TermFault) → operand nodes bytes ≡ Err f → front_pair operand kind nodes bytes ≡ Err f
unfolding front_pair
pair_fails_first operand kind nodes bytes f e = ap (λ r. r >>= λ x. operand x.1 x.2 >>= λ y. Ok (pair kind x.0 y.0, y.1, y.2)) e

pair_fails_second : (operand : ℕ → List ℕ → Result Operand TermFault) (kind : Kind) (nodes mid : ℕ) (a : Principal) (bytes middle : List ℕ) (f : TermFault) → operand nodes bytes ≡ Ok (a, mid, middle) → operand mid middle ≡ Err f → front_pair operand kind nodes bytes ≡ Err f
unfolding front_pair
pair_fails_second operand kind nodes mid a bytes middle f first e =
    ap (λ r. r >>= λ x. operand x.1 x.2 >>= λ y. Ok (pair kind x.0 y.0, y.1, y.2)) first ∙ ap (λ r. r >>= λ y. Ok (pair kind a y.0, y.1, y.2)) e

base_fails : (operand : ℕ → List ℕ → Result Operand TermFault) (end nodes : ℕ) (bytes : List ℕ) (f : TermFault) → operand nodes bytes ≡ Err f → front_tagged operand end nodes 5 bytes ≡ Err f
unfolding front_tagged
base_fails operand end nodes bytes f e = ap (λ x. x >>= λ y. front_number (Short end) w32 y.2 >>= λ n. Ok (InRole y.0 n.0, y.1, n.1)) e

role_fails : (operand : ℕ → List ℕ → Result Operand TermFault) (end nodes mid : ℕ) (a : Principal) (bytes rest : List ℕ) → length rest < 4 → operand nodes bytes ≡ Ok (a, mid, rest) → front_tagged operand end nodes 5 bytes ≡ Err (Short end)
unfolding front_tagged
role_fails operand end nodes mid a bytes rest short first =
    ap (λ x. x >>= λ y. front_number (Short end) w32 y.2 >>= λ n. Ok (InRole y.0 n.0, y.1, n.1)) first ∙ ap (λ x. x >>= λ n. Ok (InRole a n.0, mid, n.1)) (front_number_short (Short end) w32 rest short)

atom_fails : (operand : ℕ → List ℕ → Result Operand TermFault) (end nodes tag : ℕ) (rest : List ℕ) → (tag ≡ 1) ⊎ (tag ≡ 2) → length rest < 4 → front_tagged operand end nodes tag rest ≡ Err (Short end)
unfolding front_tagged
atom_fails operand end nodes tag rest (inl t) short =
    subst (λ (k : ℕ). front_tagged operand end nodes k rest ≡ Err (Short end)) (sym t) (ap (λ x. x >>= λ n. Ok (Key n.0, nodes, n.1)) (front_number_short (Short end) w32 rest short))
atom_fails operand end nodes tag rest (inr t) short =
    subst (λ (k : ℕ). front_tagged operand end nodes k rest ≡ Err (Short end)) (sym t) (ap (λ x. x >>= λ n. Ok (Name n.0, nodes, n.1)) (front_number_short (Short end) w32 rest short))

atom_is_tag : (tag : ℕ) → (tag ≡ 1) ⊎ (tag ≡ 2) → is_tag tag ≡ true
atom_is_tag tag (inl t) = ap is_tag t
atom_is_tag tag (inr t) = ap is_tag t

ends : (end levels nodes : ℕ) (bytes : List ℕ) → EndsInTerm levels nodes bytes → front_term end levels nodes bytes ≡ Err (Short end)
ends end levels nodes bytes (at_tag e) = ap (front_term end levels nodes) e ∙ nothing_read end levels nodes
ends end levels nodes bytes (in_atom tag front is above some short e) =
    ap (front_term end levels nodes) e ∙ behind_tag end levels nodes tag front (atom_is_tag tag is) above some ∙ atom_fails (front_term end (levels - 1)) end (nodes - 1) tag front is short
ends end levels nodes bytes (in_role base front numbers deep many short e) =
    let first = term_again end (levels - 1) (nodes - 1) (nodes - 1 - node_count base) base front numbers (omega arith) (omega arith) in
    ap (front_term end levels nodes) e ∙ behind_tag end levels nodes 5 (spelling base ++ front) refl (omega arith) (omega arith)
    ∙ role_fails (front_term end (levels - 1)) end (nodes - 1) (nodes - 1 - node_count base) base (spelling base ++ front) front short first

-- what is wrong where a tag is due is what reading finds there
wrong_here : (end levels nodes at : ℕ) (rest : List ℕ) (f : TermFault) → end ≡ at + length rest → IsWrongAt levels nodes rest at f → front_term end levels nodes rest ≡ Err f
wrong_here end levels nodes at [] (Tag o) total w = absurd w.0
wrong_here end levels nodes at (b ∷ rest) (Tag o) total w =
    front_term-is end levels nodes (b ∷ rest) ∙ stops (front_term end (levels - 1)) end levels nodes at b rest (Tag o) _ total (tests_at (front_term end (levels - 1)) end levels nodes b rest) (inl (w.0, ap Tag w.1))
wrong_here end levels nodes at [] (TooDeep o) total w = absurd w.0
wrong_here end levels nodes at (b ∷ rest) (TooDeep o) total w =
    front_term-is end levels nodes (b ∷ rest) ∙ stops (front_term end (levels - 1)) end levels nodes at b rest (TooDeep o) _ total (tests_at (front_term end (levels - 1)) end levels nodes b rest) (inr (inl (w.0, w.1, ap TooDeep w.2)))
wrong_here end levels nodes at [] (TooLarge o) total w = absurd w.0
wrong_here end levels nodes at (b ∷ rest) (TooLarge o) total w =
    front_term-is end levels nodes (b ∷ rest) ∙ stops (front_term end (levels - 1)) end levels nodes at b rest (TooLarge o) _ total (tests_at (front_term end (levels - 1)) end levels nodes b rest) (inr (inr (w.0, w.1, w.2, ap TooLarge w.3)))
wrong_here end levels nodes at rest (Short o) total w = ends end levels nodes rest w.0 ∙ ap (λ (x : ℕ). Err (Short x)) (total ∙ sym w.1)
wrong_here end levels nodes at rest NoMemory total w = absurd w

wrong_again : (p : Beginning) (end levels nodes at : ℕ) (rest : List ℕ) (f : TermFault) → NumbersFit p → height_of p ≤ levels → count_of p ≤ nodes → end ≡ at + length (before p ++ rest)
    → IsWrongAt (levels - level_of p) (nodes - count_of p) rest (at + length (before p)) f → front_term end levels nodes (before p ++ rest) ≡ Err f
wrong_again Here end levels nodes at rest f numbers deep many total w =
    wrong_here end levels nodes at rest f total (moved (levels - 0) levels (nodes - 0) nodes (at + 0) at rest f (omega arith) (omega arith) (omega arith) w)
wrong_again (InFirst kind p) end levels nodes at rest f numbers deep many total w =
    let e = wrong_again p end (levels - 1) (nodes - 1) (at + 1) rest f numbers (omega arith) (omega arith) (omega (arith, total))
    (moved (levels - level_of (InFirst kind p)) _ (nodes - count_of (InFirst kind p)) _ (at + length (before (InFirst kind p))) _ rest f (omega arith) (omega arith) (omega arith) w) in
    behind_tag end levels nodes (tag_of kind) (before p ++ rest) (tag_is_tag kind) (omega arith) (omega arith)
    ∙ tagged-pair (front_term end (levels - 1)) end (nodes - 1) kind (before p ++ rest) ∙ pair_fails_first (front_term end (levels - 1)) kind (nodes - 1) (before p ++ rest) f e
wrong_again (InSecond kind a p) end levels nodes at rest f numbers deep many total w =
    let regrouped : (spelling a ++ before p) ++ rest ≡ spelling a ++ (before p ++ rest) = append_assoc (spelling a) (before p) rest in
    let len : length ((spelling a ++ before p) ++ rest) ≡ length (spelling a) + length (before p ++ rest) = ap length regrouped ∙ length-append (spelling a) (before p ++ rest) in
    let left : ℕ = nodes - 1 - node_count a in
    let first = term_again end (levels - 1) (nodes - 1) left a (before p ++ rest) numbers.0 (omega arith) (omega arith) in
    let e = wrong_again p end (levels - 1) left (at + 1 + length (spelling a)) rest f numbers.1 (omega arith) (omega arith) (omega (arith, total, len))
    (moved (levels - level_of (InSecond kind a p)) _ (nodes - count_of (InSecond kind a p)) _ (at + length (before (InSecond kind a p))) _ rest f (omega arith) (omega arith) (omega (arith, length-append (spelling a) (before p))) w) in
    ap (λ (l : List ℕ). front_term end levels nodes (tag_of kind ∷ l)) regrouped
    ∙ behind_tag end levels nodes (tag_of kind) (spelling a ++ (before p ++ rest)) (tag_is_tag kind) (omega arith) (omega arith)
    ∙ tagged-pair (front_term end (levels - 1)) end (nodes - 1) kind (spelling a ++ (before p ++ rest))
    ∙ pair_fails_second (front_term end (levels - 1)) kind (nodes - 1) left a (spelling a ++ (before p ++ rest)) (before p ++ rest) f first e
wrong_again (InBase p) end levels nodes at rest f numbers deep many total w =
    let e = wrong_again p end (levels - 1) (nodes - 1) (at + 1) rest f numbers (omega arith) (omega arith) (omega (arith, total)) (moved (levels - level_of (InBase p)) _ (nodes - count_of (InBase p)) _ (at + length (before (InBase p))) _ rest f (omega arith) (omega arith) (omega arith) w) in
    behind_tag end levels nodes 5 (before p ++ rest) refl (omega arith) (omega arith) ∙ base_fails (front_term end (levels - 1)) end (nodes - 1) (before p ++ rest) f e

pub refused_again : (end levels nodes at : ℕ) (bytes : List ℕ) (f : TermFault) → end ≡ at + length bytes → IsRefused levels nodes bytes at f → front_term end levels nodes bytes ≡ Err f
refused_again end levels nodes at bytes f total r =
    ap (front_term end levels nodes) r.text ∙ wrong_again r.beginning end levels nodes at r.rest f r.numbers r.height_fits r.count_fits (total ∙ ap (λ (l : List ℕ). at + length l) r.text) r.wrong
