-- Steps that may fail, at any fault.
use Rattle.std.proofs.Common.{◌≡◌, ◌≢◌, ◌⊎◌, Bool, true, false, cond, Result, Ok, Err, refl, sym, ◌∙◌, inl, inr}
use Rattle.std.specs.Prelude.{IfOk, IfErr, MatchResult}
use Rattle.byte_fields.specs.Steps.{◌>>=◌, Gives, with_fault, tested}

-- the value of a step that did not fail
pub bind_ok : {A B E : Type 0} (r : Result A E) (f : A → Result B E) (y : B) → (r >>= f) ≡ Ok y → (x : A) × (r ≡ Ok x) × (f x ≡ Ok y)
bind_ok (Ok x) f y e = (x, refl, e)
bind_ok (Err d) f y e = absurd cc

-- where a chain fails, its first step does, or the rest
pub bind_err : {A B E : Type 0} (r : Result A E) (f : A → Result B E) (d : E) → (r >>= f) ≡ Err d → (r ≡ Err d) ⊎ ((x : A) × (r ≡ Ok x) × (f x ≡ Err d))
bind_err (Ok x) f d e = inr (x, refl, e)
bind_err (Err c) f d e = inl cc

abbrev done : {A : Type 0} (E : Type 0) → A → Result A E
done E x = Ok x

pub ok_is : {A : Type 0} (E : Type 0) (x y : A) → done E x ≡ done E y → x ≡ y
ok_is E x y e = cc

abbrev failed : {E : Type 0} (A : Type 0) → E → Result A E
failed A e = Err e

pub err_is : {E : Type 0} (A : Type 0) (f g : E) → failed A f ≡ failed A g → f ≡ g
err_is A f g e = cc

-- which way a test went
pub chosen : {A : Type 0} (b : Bool) (x y z : A) → cond b x y ≡ z → ((b ≡ true) × (x ≡ z)) ⊎ ((b ≡ false) × (y ≡ z))
chosen true x y z e = inl (refl, e)
chosen false x y z e = inr (refl, e)

-- a test that refuses where it does not hold, and one that refuses where it does
pub chosen_ok : {A E : Type 0} (b : Bool) (d : E) (x y : A) → cond b (Ok x) (Err d) ≡ Ok y → (b ≡ true) × (x ≡ y)
chosen_ok true d x y e = (refl, cc)
chosen_ok false d x y e = absurd cc

pub refused_ok : {A E : Type 0} (b : Bool) (d : E) (x y : A) → cond b (Err d) (Ok x) ≡ Ok y → (b ≡ false) × (x ≡ y)
refused_ok true d x y e = absurd cc
refused_ok false d x y e = (refl, cc)

pub chosen_err : {A E : Type 0} (b : Bool) (d f : E) (x : A) → cond b (Ok x) (Err d) ≡ Err f → (b ≡ false) × (f ≡ d)
chosen_err true d f x e = absurd cc
chosen_err false d f x e = (refl, cc)

pub refused_err : {A E : Type 0} (b : Bool) (d f : E) (x : A) → cond b (Err d) (Ok x) ≡ Err f → (b ≡ true) × (f ≡ d)
refused_err true d f x e = (refl, cc)
refused_err false d f x e = absurd cc

pub tested_ok : {A E : Type 0} (test : A → Bool) (fault : E) (x y : A) → tested test fault x ≡ Ok y → (test x ≡ true) × (x ≡ y)
tested_ok test fault x y e = chosen_ok (test x) fault x y e

pub with_fault_ok : {A E F : Type 0} (f : E → F) (r : Result A E) (x : A) → with_fault f r ≡ Ok x → r ≡ Ok x
with_fault_ok f (Ok y) x e = cc
with_fault_ok f (Err d) x e = absurd cc

pub with_fault_err : {A E F : Type 0} (f : E → F) (r : Result A E) (d : F) → with_fault f r ≡ Err d → (e : E) × (r ≡ Err e) × (d ≡ f e)
with_fault_err f (Ok y) d e = absurd cc
with_fault_err f (Err c) d e = (c, refl, cc)

-- ---- from what reading gives to what a function returned

-- what holds of each value that is read holds of what was returned
pub gives_found : {X Y E : Type 0} (P : Y → Type 0) (lack : E) (view : X → Y) (r : Result X E) (read : Result Y E) → Gives lack view r read → ((y : Y) → read ≡ Ok y → P y) → IfOk r (λ x. P (view x))
gives_found P lack view (Ok x) read given holds = holds (view x) given
gives_found P lack view (Err e) read given holds = tt

-- where a value is read it is returned, unless memory ran out
pub gives_only : {X Y E : Type 0} (lack : E) (view : X → Y) (r : Result X E) (read : Result Y E) (y : Y) → Gives lack view r read → read ≡ Ok y → MatchResult r (λ x. view x ≡ y) (λ e. e ≡ lack)
gives_only {X} {Y} {E} lack view (Ok x) read y given is = ok_is E (view x) y (sym given ∙ is)
gives_only lack view (Err e) read y (inl want) is = want
gives_only lack view (Err e) read y (inr given) is = absurd (cc (given, is))

-- what holds of each fault that is read holds of a fault that was returned, want of memory aside
pub gives_refused : {X Y E : Type 0} (Q : E → Type 0) (lack : E) (view : X → Y) (r : Result X E) (read : Result Y E) → Gives lack view r read → ((f : E) → read ≡ Err f → Q f) → IfErr r (λ e. e ≢ lack → Q e)
gives_refused Q lack view (Ok x) read given holds = tt
gives_refused Q lack view (Err e) read (inl want) holds = λ other. absurd (other want)
gives_refused Q lack view (Err e) read (inr given) holds = λ other. holds e given

-- where a fault is read it is returned, unless memory ran out
pub gives_refused_only : {X Y E : Type 0} (lack : E) (view : X → Y) (r : Result X E) (read : Result Y E) (f : E) → Gives lack view r read → read ≡ Err f → MatchResult r (λ _. ⊥) (λ e. (e ≡ f) ⊎ (e ≡ lack))
gives_refused_only lack view (Ok x) read f given is = absurd (cc (given, is))
gives_refused_only lack view (Err e) read f (inl want) is = inr want
gives_refused_only {X} {Y} {E} lack view (Err e) read f (inr given) is = inl (err_is Y e f (sym given ∙ is))
