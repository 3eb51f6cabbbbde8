-- One more entry has one more line.
use Rattle.std.proofs.Common.{◌≡◌, ℕ, ◌+◌, ◌<◌, List, [], ◌∷◌, ◌++◌, length, map, take, get_or, arith, ap, ◌∙◌, sym, add-zero, zero-add, append_assoc, append-nil}
use Rattle.std.specs.List.{enumerate_from}
use Rattle.std.proofs.lemmas.Grind.{flat_map-append}
use Rattle.std.proofs.lemmas.List.{length-map, length-take, map-append, take_more}
use Rattle.audit_text.specs.Lines.{text_of}

-- the last one is numbered after all others
enumerate_from-more : {E : Type 0} (n : ℕ) (es : List E) (e : E) →
    enumerate_from n (es ++ e ∷ []) ≡ enumerate_from n es ++ (n + length es, e) ∷ []
enumerate_from-more n [] e = rw add-zero
enumerate_from-more n (x ∷ es) e =
    let h : (n + 1) + length es ≡ n + length (x ∷ es) = omega arith in
    rw (enumerate_from-more (n + 1) es e, h)

-- the text of the entries before, and the line of one more
text_of-more : {E : Type 0} (line_at : ℕ → E → List ℕ) (es : List E) (e : E) →
    text_of line_at (es ++ e ∷ []) ≡ text_of line_at es ++ line_at (length es) e
text_of-more line_at es e =
    rw (enumerate_from-more 0 es e, flat_map-append, zero-add, append-nil)

-- after the text of the entries before it, an entry was told
pub told_then : {C E : Type 0} (line_at : ℕ → E → List ℕ) (view : C → E) (cs : List C) (i : ℕ) (c : C)
    (old before after : List ℕ) → i < length cs → c ≡ get_or cs i c →
    before ≡ old ++ text_of line_at (map view (take i cs)) →
    after ≡ before ++ line_at i (view c) →
    after ≡ old ++ text_of line_at (map view (take (i + 1) cs))
told_then {C} {E} line_at view cs i c old before after lt is told tells =
    let es : List E = map view (take i cs) in
    let more : take (i + 1) cs ≡ take i cs ++ c ∷ [] =
    take_more cs i c lt ∙ ap (λ (y : C). take i cs ++ y ∷ []) (sym is) in
    let placed : length es ≡ i = simp (length-map, length-take) (omega arith) in
    let next : text_of line_at (map view (take (i + 1) cs)) ≡ text_of line_at es ++ line_at i (view c) =
    ap (λ (l : List C). text_of line_at (map view l)) more
    ∙ ap (λ (l : List E). text_of line_at l) (map-append view (take i cs) (c ∷ []))
    ∙ text_of-more line_at es (view c)
    ∙ ap (λ (n : ℕ). text_of line_at es ++ line_at n (view c)) placed in
    tells ∙ ap (λ (l : List ℕ). l ++ line_at i (view c)) told
    ∙ append_assoc old (text_of line_at es) (line_at i (view c))
    ∙ ap (λ (l : List ℕ). old ++ l) (sym next)
