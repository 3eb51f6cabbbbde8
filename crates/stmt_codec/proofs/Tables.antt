-- Tables of principals without repetitions.
use Rattle.std.proofs.Common.{◌≡◌, ◌||◌, Bool, true, false, List, [], ◌∷◌, ◌++◌, refl, ap, map, length, ◌<◌, ◌≤◌, arith, sym, ◌∙◌, length-append}
use Rattle.std.specs.List.{list_any}
use Rattle.std.specs.Bool.{OnFalse}
use Rattle.prin_term.specs.Principal.{Principal, Key, Name, And, Quoting, InRole, For, subterms}
use Rattle.prin_term.specs.Kind.{Kind, pair}
use Rattle.prin_term.proofs.Parts.{subterms-pair}
use Rattle.stmt_codec.specs.Distinct.{same_principal, met}
use Rattle.stmt_codec.proofs.Firsts.{met-append, met-grows}

pub list_any-map : {X Y : Type 0} (f : X → Y) (test : Y → Bool) (xs : List X) → list_any (λ x. test (f x)) xs ≡ list_any test (map f xs)
list_any-map f test [] = refl
list_any-map f test (x ∷ xs) = ap (λ b. test (f x) || b) (list_any-map f test xs)

-- one principal that is there, and one that is not
pub met-one_there : (table : List Principal) (p : Principal) → list_any (same_principal p) table ≡ true → met table (p ∷ []) ≡ table
met-one_there table p e = rw e refl

pub met-one_new : (table : List Principal) (p : Principal) → list_any (same_principal p) table ≡ false → met table (p ∷ []) ≡ table ++ p ∷ []
met-one_new table p e = rw e refl

-- a table only grows
pub length-met : (table ps : List Principal) → length table ≤ length (met table ps)
length-met table ps = let g = met-grows table ps in omega (arith, ap length g.1, length-append table g.0)

-- a principal, then others
pub met-cons : (table : List Principal) (p : Principal) (ps : List Principal) → met table (p ∷ ps) ≡ met (met table (p ∷ [])) ps
met-cons table p ps = met-append table (p ∷ []) ps

-- ---- the parts of a term, the term first

pub over_more : (table ps qs : List Principal) → 16 < length (met table ps) → 16 < length (met table (ps ++ qs))
over_more table ps qs over = omega (arith, over, length-met (met table ps) qs, ap length (met-append table ps qs))

pub over_first : (table : List Principal) (p : Principal) → 16 < length (met table (p ∷ [])) → 16 < length (met table (subterms p))
over_first table (Key k) over = over
over_first table (Name n) over = over
over_first table (And a b) over = over_more table (And a b ∷ []) (subterms a ++ subterms b) over
over_first table (Quoting a b) over = over_more table (Quoting a b ∷ []) (subterms a ++ subterms b) over
over_first table (InRole a r) over = over_more table (InRole a r ∷ []) (subterms a) over
over_first table (For a b) over = over_more table (For a b ∷ []) (subterms a ++ subterms b) over

-- the term, the parts of its first operand, and those of the second
pub met-pair : (table first second : List Principal) (p : Principal) (kind : Kind) (a b : Principal) → p ≡ pair kind a b → first ≡ met table (p ∷ []) → second ≡ met first (subterms a) → met second (subterms b) ≡ met table (subterms p)
met-pair table first second p kind a b is one two =
    let parts : subterms p ≡ p ∷ (subterms a ++ subterms b) = ap subterms is ∙ subterms-pair kind a b ∙ ap (λ (t : Principal). t ∷ (subterms a ++ subterms b)) (sym is) in
    let start : met second (subterms b) ≡ met (met (met table (p ∷ [])) (subterms a)) (subterms b) = ap (λ (t : List Principal). met t (subterms b)) (two ∙ ap (λ (t : List Principal). met t (subterms a)) one) in
    start ∙ sym (met-append (met table (p ∷ [])) (subterms a) (subterms b)) ∙ sym (met-append table (p ∷ []) (subterms a ++ subterms b)) ∙ ap (met table) (sym parts)

pub over-pair : (table first : List Principal) (p : Principal) (kind : Kind) (a b : Principal) → p ≡ pair kind a b → first ≡ met table (p ∷ []) → 16 < length (met first (subterms a)) → 16 < length (met table (subterms p))
over-pair table first p kind a b is one over =
    omega (arith, over, length-met (met first (subterms a)) (subterms b), ap length (met-pair table first (met first (subterms a)) p kind a b is one refl))

pub OnFalse-weaker : (b : Bool) (P Q : Type 0) → (P → Q) → OnFalse b P → OnFalse b Q
OnFalse-weaker true P Q f h = tt
OnFalse-weaker false P Q f h = f h

-- one list behind another
pub met-both : (table first xs ys : List Principal) → first ≡ met table xs → met first ys ≡ met table (xs ++ ys)
met-both table first xs ys e = ap (λ (t : List Principal). met t ys) e ∙ sym (met-append table xs ys)
