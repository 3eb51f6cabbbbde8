-- Lists that are appended one after another.
use Rattle.std.proofs.Common.{◌≡◌, List, ◌++◌, ap, ◌∙◌, append_assoc, OnOk}
use Rattle.std.specs.Prelude.{Result, Ok, Err, is_ok, if◌then◌else◌}

-- one, and then another
pub appends_both : {T : Type 0} (a b c x y : List T) → b ≡ a ++ x → c ≡ b ++ y → c ≡ a ++ (x ++ y)
appends_both {T} a b c x y first second =
    second ∙ ap (λ (l : List T). l ++ y) first ∙ append_assoc a x y

-- the same, where the last may fail
pub appends_last : {T A E : Type 0} (a b c x y : List T) (r : Result A E) → b ≡ a ++ x →
    OnOk r (c ≡ b ++ y) → OnOk r (c ≡ a ++ (x ++ y))
appends_last a b c x y (Ok v) first second = appends_both a b c x y first second
appends_last a b c x y (Err e) first second = tt

-- the same, where the last leaves what it fails at
pub appends_or_leaves : {T A E : Type 0} (a b c x y : List T) (r : Result A E) → b ≡ a ++ x →
    c ≡ (if is_ok r then b ++ y else b) → OnOk r (c ≡ a ++ (x ++ y))
appends_or_leaves a b c x y (Ok v) first second = appends_both a b c x y first second
appends_or_leaves a b c x y (Err e) first second = tt
