-- One more thing has one more line.
use Rattle.std.proofs.Common.{◌≡◌, ℕ, ◌+◌, ◌<◌, List, [], ◌∷◌, ◌++◌, length, map, take, get_or, arith, ap, ◌∙◌, sym, add-zero, zero-add, append_assoc, append-nil}
use Rattle.std.specs.List.{enumerate_from}
use Rattle.std.proofs.lemmas.Grind.{flat_map-append}
use Rattle.std.proofs.lemmas.List.{length-map, length-take, map-append, take_more}
use Rattle.node_telling.specs.Samples.{each_line}

-- the last one is numbered after all others
enumerate_from-more : {E : Type 0} (n : ℕ) (es : List E) (e : E) →
    enumerate_from n (es ++ e ∷ []) ≡ enumerate_from n es ++ (n + length es, e) ∷ []
enumerate_from-more n [] e = rw add-zero
enumerate_from-more n (x ∷ es) e =
    let h : (n + 1) + length es ≡ n + length (x ∷ es) = omega arith in
    rw (enumerate_from-more (n + 1) es e, h)

-- the lines of those before, and the line of one more
each_line-more : {E : Type 0} (line_at : ℕ → E → List ℕ) (es : List E) (e : E) →
    each_line line_at (es ++ e ∷ []) ≡ each_line line_at es ++ line_at (length es) e
each_line-more line_at es e =
    rw (enumerate_from-more 0 es e, flat_map-append, zero-add, append-nil)

-- behind the lines of those before it, a thing has its own, as it is seen
pub told_view : {C E : Type 0} (line_at : ℕ → E → List ℕ) (view : C → E) (cs : List C) (i : ℕ) (d : C)
    (old before after : List ℕ) → i < length cs →
    before ≡ old ++ each_line line_at (map view (take i cs)) →
    after ≡ before ++ line_at i (view (get_or cs i d)) →
    after ≡ old ++ each_line line_at (map view (take (i + 1) cs))
told_view {C} {E} line_at view cs i d old before after lt told tells =
    let c : C = get_or cs i d in
    let es : List E = map view (take i cs) in
    let more : take (i + 1) cs ≡ take i cs ++ c ∷ [] = take_more cs i d lt in
    let placed : length es ≡ i = simp (length-map, length-take) (omega arith) in
    let next : each_line line_at (map view (take (i + 1) cs)) ≡ each_line line_at es ++ line_at i (view c) =
    ap (λ (l : List C). each_line line_at (map view l)) more
    ∙ ap (λ (l : List E). each_line line_at l) (map-append view (take i cs) (c ∷ []))
    ∙ each_line-more line_at es (view c)
    ∙ ap (λ (n : ℕ). each_line line_at es ++ line_at n (view c)) placed in
    tells ∙ ap (λ (l : List ℕ). l ++ line_at i (view c)) told
    ∙ append_assoc old (each_line line_at es) (line_at i (view c))
    ∙ ap (λ (l : List ℕ). old ++ l) (sym next)

-- the same, of things as they are
pub told_at : {E : Type 0} (line_at : ℕ → E → List ℕ) (es : List E) (i : ℕ) (d : E)
    (old before after : List ℕ) → i < length es →
    before ≡ old ++ each_line line_at (take i es) →
    after ≡ before ++ line_at i (get_or es i d) →
    after ≡ old ++ each_line line_at (take (i + 1) es)
told_at {E} line_at es i d old before after lt told tells =
    let e : E = get_or es i d in
    let placed : length (take i es) ≡ i = simp length-take (omega arith) in
    let next : each_line line_at (take (i + 1) es) ≡ each_line line_at (take i es) ++ line_at i e =
    ap (λ (l : List E). each_line line_at l) (take_more es i d lt)
    ∙ each_line-more line_at (take i es) e
    ∙ ap (λ (n : ℕ). each_line line_at (take i es) ++ line_at n e) placed in
    tells ∙ ap (λ (l : List ℕ). l ++ line_at i e) told
    ∙ append_assoc old (each_line line_at (take i es)) (line_at i e)
    ∙ ap (λ (l : List ℕ). old ++ l) (sym next)
