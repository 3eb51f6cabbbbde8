-- Fields: what is read there was spelled, and what is spelled there is read.
use Rattle.std.proofs.Common.{◌≡◌, ℕ, zero, suc, ◌+◌, ◌-◌, ◌/◌, ◌^◌, ◌<◌, ◌≤◌, true, false, cond, eqb, ltb, List, [], ◌∷◌, ◌++◌, length, get_or, take, drop}
use Rattle.std.proofs.Common.{Option, Some, None, Result, Ok, Err, refl, sym, ap, subst, ◌∙◌, append_assoc, arith, inl, inr, length-append, length-take, length-drop, drop-cons, All}
use Rattle.std.specs.Int.{Width, w16, w32, w64, byte_len, from_be_bytes, to_be_bytes, bytes_high_first, byte_at as byte_of}
use Rattle.std.proofs.lemmas.Bool.{cases_lt, eq-eqb, eqb-true, ltb-false, ltb-true, le-ltb, lt-ltb}
use Rattle.std.proofs.lemmas.List.{take_at, drop_at, drop-drop, take-append-drop, get_or-drop, get_or-take, get_or_past}
use Rattle.std.proofs.lemmas.List.Elements.{All-get_or}
use Rattle.std.proofs.lemmas.Nat.{mod_below, be_bytes_2, be_bytes_4, be_bytes_8, from_be_bytes-to_be_bytes_2, from_be_bytes-to_be_bytes_4, from_be_bytes-to_be_bytes_8}
use Rattle.byte_fields.specs.Steps.{◌>>=◌, front_number, byte_at, mark_at, bytes_at, number_at, counted, counted_at, optional, optional_at}
use Rattle.byte_fields.proofs.Results.{bind_ok, ok_is, chosen, chosen_ok, chosen_err, refused_ok, refused_err}

abbrev pub IsBytes : List ℕ → Type 0
IsBytes bytes = (i : ℕ) → get_or bytes i 0 < 256

pub bytes_are : (bytes : List ℕ) → All (λ b. b < 256) bytes → IsBytes bytes
bytes_are bytes all i = elim (cases_lt i (length bytes)) [
  | inl within ↦ All-get_or (λ b. b < 256) bytes i 0 within all
  | inr past ↦ omega (arith, get_or_past bytes i 0 past)
]

pub IsBytes-drop : (n : ℕ) (bytes : List ℕ) → IsBytes bytes → IsBytes (drop n bytes)
IsBytes-drop n bytes h i = rw get_or-drop (h (n + i))

pub IsBytes-take : (n : ℕ) (bytes : List ℕ) → IsBytes bytes → IsBytes (take n bytes)
IsBytes-take n bytes h i =
    elim (cases_lt i n) [
      | inl lt ↦ rw (get_or-take n bytes i 0 lt) (h i)
      | inr le ↦ rw (get_or_past (take n bytes) i 0 (omega (arith, length-take n bytes))) (omega arith)
    ]

pub IsBytes-rest : (b : ℕ) (bytes : List ℕ) → IsBytes (b ∷ bytes) → IsBytes bytes
IsBytes-rest b bytes h i = h (suc i)

pub IsBytes-cons : (b : ℕ) (bytes : List ℕ) → b < 256 → IsBytes bytes → IsBytes (b ∷ bytes)
IsBytes-cons b bytes lt h zero = lt
IsBytes-cons b bytes lt h (suc i) = h i

pub IsBytes-append : (xs ys : List ℕ) → IsBytes xs → IsBytes ys → IsBytes (xs ++ ys)
IsBytes-append [] ys hx hy = hy
IsBytes-append (x ∷ xs) ys hx hy = IsBytes-cons x (xs ++ ys) (hx 0) (IsBytes-append xs ys (IsBytes-rest x xs hx) hy)

pub IsBytes-front : (xs ys : List ℕ) → IsBytes (xs ++ ys) → IsBytes xs
IsBytes-front xs ys h = subst (λ (l : List ℕ). IsBytes l) (take_at xs ys (length xs) refl) (IsBytes-take (length xs) (xs ++ ys) h)

below_256 : (k n : ℕ) → byte_of k n < 256
below_256 zero n = mod_below n 256 (omega arith)
below_256 (suc k) n = mod_below (n / 256 ^ suc k) 256 (omega arith)

high_first : (k n : ℕ) → IsBytes (bytes_high_first k n)
high_first zero n = λ i. omega arith
high_first (suc k) n = IsBytes-cons (byte_of k n) (bytes_high_first k n) (below_256 k n) (high_first k n)

pub IsBytes-number : (w : Width) (n : ℕ) → IsBytes (to_be_bytes w n)
IsBytes-number w n = high_first (byte_len w) n

-- ---- the widths of numbers

pub record IsWide (w : Width) (limit : ℕ) : Type 0 where
  pub len : (n : ℕ) → length (to_be_bytes w n) ≡ byte_len w
  pub back : (bytes : List ℕ) → length bytes ≡ byte_len w → IsBytes bytes → to_be_bytes w (from_be_bytes w bytes) ≡ bytes
  pub again : (n : ℕ) → n < limit → from_be_bytes w (to_be_bytes w n) ≡ n
  pub below : (bytes : List ℕ) → IsBytes bytes → from_be_bytes w bytes < limit

pub wide16 : IsWide w16 (2 ^ 16)
wide16 = record {
  len = λ n. refl;
  back = λ bytes len fits. be_bytes_2 bytes _ len fits refl;
  again = λ n lt. from_be_bytes-to_be_bytes_2 n lt;
  below = λ bytes fits. omega (arith, fits 0, fits 1);
}

pub wide32 : IsWide w32 (2 ^ 32)
wide32 = record {
  len = λ n. refl;
  back = λ bytes len fits. be_bytes_4 bytes _ len fits refl;
  again = λ n lt. from_be_bytes-to_be_bytes_4 n lt;
  below = λ bytes fits. omega (arith, fits 0, fits 1, fits 2, fits 3);
}

pub wide64 : IsWide w64 (2 ^ 64)
wide64 = record {
  len = λ n. refl;
  back = λ bytes len fits. be_bytes_8 bytes _ len fits refl;
  again = λ n lt. from_be_bytes-to_be_bytes_8 n lt;
  below = λ bytes fits. omega (arith, fits 0, fits 1, fits 2, fits 3, fits 4, fits 5, fits 6, fits 7);
}

-- ---- at the front of a list

-- what a reader took from the front
pub record Takes (bytes text rest : List ℕ) : Type 0 where
  pub parts : bytes ≡ text ++ rest
  pub rest_fits : IsBytes rest

pub Takes-then : (a x b y c : List ℕ) → Takes a x b → Takes b y c → Takes a (x ++ y) c
Takes-then a x b y c p q = record { parts = p.parts ∙ ap (λ (t : List ℕ). x ++ t) q.parts ∙ sym (append_assoc x y c); rest_fits = q.rest_fits }

pub Takes-cons : (b : ℕ) (bytes text rest : List ℕ) → Takes bytes text rest → Takes (b ∷ bytes) (b ∷ text) rest
Takes-cons b bytes text rest t = record { parts = ap (λ (l : List ℕ). b ∷ l) t.parts; rest_fits = t.rest_fits }

pub front_number_takes : {E : Type 0} (short : E) (w : Width) (limit : ℕ) (wide : IsWide w limit) (bytes : List ℕ) (x : ℕ × List ℕ) → IsBytes bytes → front_number short w bytes ≡ Ok x → Takes bytes (to_be_bytes w x.0) x.1 × (x.0 < limit)
unfolding front_number
front_number_takes short w limit wide bytes x fits e =
    let g = refused_ok (ltb (length bytes) (byte_len w)) short (from_be_bytes w (take (byte_len w) bytes), drop (byte_len w) bytes) x e in
    let long : byte_len w ≤ length bytes = ltb-false _ _ g.0 in
    let front_fits : IsBytes (take (byte_len w) bytes) = IsBytes-take (byte_len w) bytes fits in
    let front : to_be_bytes w (from_be_bytes w (take (byte_len w) bytes)) ≡ take (byte_len w) bytes = wide.back (take (byte_len w) bytes) (omega (arith, length-take (byte_len w) bytes)) front_fits in
    let taken : Takes bytes (to_be_bytes w (from_be_bytes w (take (byte_len w) bytes))) (drop (byte_len w) bytes) = record { parts = sym (take-append-drop (byte_len w) bytes) ∙ ap (λ (t : List ℕ). t ++ drop (byte_len w) bytes) (sym front); rest_fits = IsBytes-drop (byte_len w) bytes fits } in
    subst (λ (y : ℕ × List ℕ). Takes bytes (to_be_bytes w y.0) y.1 × (y.0 < limit)) g.1 (taken, wide.below (take (byte_len w) bytes) front_fits)

pub front_number_again : {E : Type 0} (short : E) (w : Width) (limit : ℕ) (wide : IsWide w limit) (n : ℕ) (rest : List ℕ) → n < limit → front_number short w (to_be_bytes w n ++ rest) ≡ Ok (n, rest)
unfolding front_number
front_number_again short w limit wide n rest lt =
    let long : ltb (length (to_be_bytes w n ++ rest)) (byte_len w) ≡ false = le-ltb _ _ (omega (arith, length-append (to_be_bytes w n) rest, wide.len n)) in
    rw (long, take_at (to_be_bytes w n) rest (byte_len w) (wide.len n), drop_at (to_be_bytes w n) rest (byte_len w) (wide.len n), wide.again n lt) refl

-- it fails only where too few bytes are left
pub front_number_refused : {E : Type 0} (short : E) (w : Width) (bytes : List ℕ) (f : E) → front_number short w bytes ≡ Err f → (length bytes < byte_len w) × (f ≡ short)
unfolding front_number
front_number_refused short w bytes f e =
    let g = refused_err (ltb (length bytes) (byte_len w)) short f (from_be_bytes w (take (byte_len w) bytes), drop (byte_len w) bytes) e in
    (ltb-true _ _ g.0, g.1)

pub front_number_short : {E : Type 0} (short : E) (w : Width) (bytes : List ℕ) → length bytes < byte_len w → front_number short w bytes ≡ Err short
unfolding front_number
front_number_short short w bytes lt =
    let few : ltb (length bytes) (byte_len w) ≡ true = lt-ltb _ _ lt in
    rw few refl

-- ---- at an offset

-- a text stands between two offsets
pub record TakesAt (bytes : List ℕ) (at : ℕ) (text : List ℕ) (end : ℕ) : Type 0 where
  pub parts : drop at bytes ≡ text ++ drop end bytes
  pub end_is : end ≡ at + length text

pub TakesAt-then : (bytes : List ℕ) (a : ℕ) (x : List ℕ) (b : ℕ) (y : List ℕ) (c : ℕ) → TakesAt bytes a x b → TakesAt bytes b y c → TakesAt bytes a (x ++ y) c
TakesAt-then bytes a x b y c p q = record { parts = p.parts ∙ ap (λ (t : List ℕ). x ++ t) q.parts ∙ sym (append_assoc x y (drop c bytes)); end_is = omega (arith, p.end_is, q.end_is, length-append x y) }

-- nothing stands between an offset and itself
pub TakesAt-none : (bytes : List ℕ) (at : ℕ) → TakesAt bytes at [] at
TakesAt-none bytes at = record { parts = refl; end_is = omega arith }

-- what stands behind a text
pub behind : (bytes text rest : List ℕ) (at : ℕ) → drop at bytes ≡ text ++ rest → drop (at + length text) bytes ≡ rest
behind bytes text rest at e = sym (drop-drop (length text) at bytes) ∙ ap (drop (length text)) e ∙ drop_at text rest (length text) refl

pub took : (bytes text rest : List ℕ) (at end : ℕ) → drop at bytes ≡ text ++ rest → end ≡ at + length text → TakesAt bytes at text end
took bytes text rest at end e is = record { parts = e ∙ ap (λ (t : List ℕ). text ++ t) (sym (behind bytes text rest at e) ∙ ap (λ (k : ℕ). drop k bytes) (sym is)); end_is = is }

-- the offset behind a text is within the bytes
pub TakesAt-within : (bytes : List ℕ) (at : ℕ) (text : List ℕ) (end : ℕ) → at ≤ length bytes → TakesAt bytes at text end → end ≤ length bytes
TakesAt-within bytes at text end le t =
    let len : length bytes - at ≡ length text + length (drop end bytes) = sym (length-drop at bytes) ∙ ap length t.parts ∙ length-append text (drop end bytes) in
    omega (arith, len, length-drop end bytes, t.end_is)

-- ---- bytes

pub byte_takes : {E : Type 0} (short : E) (bytes : List ℕ) (at : ℕ) (x : ℕ × ℕ) → byte_at short bytes at ≡ Ok x → TakesAt bytes at (x.0 ∷ []) x.1
unfolding byte_at
byte_takes short bytes at x e =
    let g = chosen_ok (ltb at (length bytes)) short (get_or bytes at 0, at + 1) x e in
    let lt : at < length bytes = ltb-true _ _ g.0 in
    let front : drop at bytes ≡ (get_or bytes at 0 ∷ []) ++ drop (suc at) bytes = drop-cons bytes at 0 lt in
    subst (λ (y : ℕ × ℕ). TakesAt bytes at (y.0 ∷ []) y.1) g.1 (took bytes (get_or bytes at 0 ∷ []) (drop (suc at) bytes) at (at + 1) front refl)

pub byte_below : {E : Type 0} (short : E) (bytes : List ℕ) (at : ℕ) (x : ℕ × ℕ) → IsBytes bytes → byte_at short bytes at ≡ Ok x → x.0 < 256
unfolding byte_at
byte_below short bytes at x fits e =
    let g = chosen_ok (ltb at (length bytes)) short (get_or bytes at 0, at + 1) x e in
    subst (λ (y : ℕ × ℕ). y.0 < 256) g.1 (fits at)

pub byte_again : {E : Type 0} (short : E) (bytes rest : List ℕ) (at b : ℕ) → drop at bytes ≡ b ∷ rest → byte_at short bytes at ≡ Ok (b, at + 1)
unfolding byte_at
byte_again short bytes rest at b e =
    let len : length bytes - at ≡ suc (length rest) = sym (length-drop at bytes) ∙ ap length e in
    let lt : at < length bytes = omega (arith, len) in
    let test : ltb at (length bytes) ≡ true = lt-ltb _ _ lt in
    let front : get_or bytes at 0 ∷ drop (suc at) bytes ≡ b ∷ rest = sym (drop-cons bytes at 0 lt) ∙ e in
    let head : get_or bytes at 0 ≡ b = cc front in
    rw (test, head) refl

pub byte_refused : {E : Type 0} (short : E) (bytes : List ℕ) (at : ℕ) (f : E) → byte_at short bytes at ≡ Err f → (length bytes ≤ at) × (f ≡ short)
unfolding byte_at
byte_refused short bytes at f e =
    let g = chosen_err (ltb at (length bytes)) short f (get_or bytes at 0, at + 1) e in
    (ltb-false _ _ g.0, g.1)

pub mark_takes : {E : Type 0} (short bad : E) (b : ℕ) (bytes : List ℕ) (at end : ℕ) → mark_at short bad b bytes at ≡ Ok end → TakesAt bytes at (b ∷ []) end
unfolding mark_at
mark_takes short bad b bytes at end e =
    let a = bind_ok _ _ end e in
    let g = chosen_ok (eqb a.0.0 b) bad a.0.1 end a.2 in
    subst (λ (n : ℕ). TakesAt bytes at (b ∷ []) n) g.1 (subst (λ (y : ℕ). TakesAt bytes at (y ∷ []) a.0.1) (eqb-true _ _ g.0) (byte_takes short bytes at a.0 a.1))

pub mark_again : {E : Type 0} (short bad : E) (b : ℕ) (bytes rest : List ℕ) (at : ℕ) → drop at bytes ≡ b ∷ rest → mark_at short bad b bytes at ≡ Ok (at + 1)
unfolding mark_at
mark_again short bad b bytes rest at e = let same : eqb b b ≡ true = eq-eqb b b refl in rw (byte_again short bytes rest at b e, same) refl

pub bytes_takes : {E : Type 0} (short : E) (n : ℕ) (bytes : List ℕ) (at : ℕ) (x : List ℕ × ℕ) → bytes_at short n bytes at ≡ Ok x → TakesAt bytes at x.0 x.1 × (length x.0 ≡ n)
unfolding bytes_at
bytes_takes short n bytes at x e =
    let g = refused_ok (ltb (length bytes - at) n) short (take n (drop at bytes), at + n) x e in
    let long : n ≤ length bytes - at = ltb-false _ _ g.0 in
    let len : length (take n (drop at bytes)) ≡ n = omega (arith, length-take n (drop at bytes), length-drop at bytes) in
    subst (λ (y : List ℕ × ℕ). TakesAt bytes at y.0 y.1 × (length y.0 ≡ n)) g.1
    (took bytes (take n (drop at bytes)) (drop n (drop at bytes)) at (at + n) (sym (take-append-drop n (drop at bytes))) (omega (arith, len)), len)

pub bytes_again : {E : Type 0} (short : E) (n : ℕ) (bytes text rest : List ℕ) (at : ℕ) → length text ≡ n → drop at bytes ≡ text ++ rest → bytes_at short n bytes at ≡ Ok (text, at + n)
unfolding bytes_at
bytes_again short n bytes text rest at is e =
    let len : length bytes - at ≡ length text + length rest = sym (length-drop at bytes) ∙ ap length e ∙ length-append text rest in
    let long : ltb (length bytes - at) n ≡ false = le-ltb _ _ (omega (arith, len, is)) in
    let front : take n (drop at bytes) ≡ text = ap (take n) e ∙ take_at text rest n is in
    rw (long, front) refl

pub bytes_refused : {E : Type 0} (short : E) (n : ℕ) (bytes : List ℕ) (at : ℕ) (f : E) → bytes_at short n bytes at ≡ Err f → (length bytes - at < n) × (f ≡ short)
unfolding bytes_at
bytes_refused short n bytes at f e =
    let g = refused_err (ltb (length bytes - at) n) short f (take n (drop at bytes), at + n) e in
    (ltb-true _ _ g.0, g.1)

-- ---- numbers

pub number_takes : {E : Type 0} (short : E) (w : Width) (limit : ℕ) (wide : IsWide w limit) (bytes : List ℕ) (at : ℕ) (x : ℕ × ℕ) → IsBytes bytes → number_at short w bytes at ≡ Ok x → TakesAt bytes at (to_be_bytes w x.0) x.1 × (x.0 < limit)
unfolding number_at
number_takes short w limit wide bytes at x fits e =
    let g = refused_ok (ltb (length bytes - at) (byte_len w)) short (from_be_bytes w (take (byte_len w) (drop at bytes)), at + byte_len w) x e in
    let long : byte_len w ≤ length bytes - at = ltb-false _ _ g.0 in
    let front_fits : IsBytes (take (byte_len w) (drop at bytes)) = IsBytes-take (byte_len w) (drop at bytes) (IsBytes-drop at bytes fits) in
    let front : to_be_bytes w (from_be_bytes w (take (byte_len w) (drop at bytes))) ≡ take (byte_len w) (drop at bytes) = wide.back (take (byte_len w) (drop at bytes)) (omega (arith, length-take (byte_len w) (drop at bytes), length-drop at bytes)) front_fits in
    let n = from_be_bytes w (take (byte_len w) (drop at bytes)) in
    let text : drop at bytes ≡ to_be_bytes w n ++ drop (byte_len w) (drop at bytes) = sym (take-append-drop (byte_len w) (drop at bytes)) ∙ ap (λ (t : List ℕ). t ++ drop (byte_len w) (drop at bytes)) (sym front) in
    subst (λ (y : ℕ × ℕ). TakesAt bytes at (to_be_bytes w y.0) y.1 × (y.0 < limit)) g.1 (took bytes (to_be_bytes w n) (drop (byte_len w) (drop at bytes)) at (at + byte_len w) text (omega (arith, wide.len n)), wide.below (take (byte_len w) (drop at bytes)) front_fits)

pub number_again : {E : Type 0} (short : E) (w : Width) (limit : ℕ) (wide : IsWide w limit) (bytes rest : List ℕ) (at n : ℕ) → n < limit → drop at bytes ≡ to_be_bytes w n ++ rest → number_at short w bytes at ≡ Ok (n, at + byte_len w)
unfolding number_at
number_again short w limit wide bytes rest at n lt e =
    let len : length bytes - at ≡ byte_len w + length rest = sym (length-drop at bytes) ∙ ap length e ∙ length-append (to_be_bytes w n) rest ∙ ap (λ k. k + length rest) (wide.len n) in
    let long : ltb (length bytes - at) (byte_len w) ≡ false = le-ltb _ _ (omega (arith, len)) in
    let front : take (byte_len w) (drop at bytes) ≡ to_be_bytes w n = ap (take (byte_len w)) e ∙ take_at (to_be_bytes w n) rest (byte_len w) (wide.len n) in
    rw (long, front, wide.again n lt) refl

pub number_refused : {E : Type 0} (short : E) (w : Width) (bytes : List ℕ) (at : ℕ) (f : E) → number_at short w bytes at ≡ Err f → (length bytes - at < byte_len w) × (f ≡ short)
unfolding number_at
number_refused short w bytes at f e =
    let g = refused_err (ltb (length bytes - at) (byte_len w)) short f (from_be_bytes w (take (byte_len w) (drop at bytes)), at + byte_len w) e in
    (ltb-true _ _ g.0, g.1)

-- ---- a length and that many bytes

pub counted_takes : {E : Type 0} (short : E) (w : Width) (limit : ℕ) (wide : IsWide w limit) (bytes : List ℕ) (at : ℕ) (x : List ℕ × ℕ) → IsBytes bytes → counted_at short w bytes at ≡ Ok x → TakesAt bytes at (counted w x.0) x.1 × (length x.0 < limit)
unfolding counted_at
counted_takes short w limit wide bytes at x fits e =
    let a = bind_ok _ _ x e in
    let n = number_takes short w limit wide bytes at a.0 fits a.1 in
    let t = bytes_takes short a.0.0 bytes a.0.1 x a.2 in
    let first : TakesAt bytes at (to_be_bytes w (length x.0)) a.0.1 = subst (λ (k : ℕ). TakesAt bytes at (to_be_bytes w k) a.0.1) (sym t.1) n.0 in
    (TakesAt-then bytes at (to_be_bytes w (length x.0)) a.0.1 x.0 x.1 first t.0, omega (arith, t.1, n.1))

pub counted_again : {E : Type 0} (short : E) (w : Width) (limit : ℕ) (wide : IsWide w limit) (bytes text rest : List ℕ) (at : ℕ) → length text < limit → drop at bytes ≡ counted w text ++ rest → counted_at short w bytes at ≡ Ok (text, at + length (counted w text))
unfolding counted_at
counted_again short w limit wide bytes text rest at lt e =
    let regrouped : drop at bytes ≡ to_be_bytes w (length text) ++ (text ++ rest) = e ∙ append_assoc (to_be_bytes w (length text)) text rest in
    let first = number_again short w limit wide bytes (text ++ rest) at (length text) lt regrouped in
    let next : drop (at + byte_len w) bytes ≡ text ++ rest = ap (λ (k : ℕ). drop (at + k) bytes) (sym (wide.len (length text))) ∙ behind bytes (to_be_bytes w (length text)) (text ++ rest) at regrouped in
    let second = bytes_again short (length text) bytes text rest (at + byte_len w) refl next in
    let place : at + byte_len w + length text ≡ at + length (counted w text) = omega (arith, length-append (to_be_bytes w (length text)) text, wide.len (length text)) in
    rw (first, second, place) refl

-- ---- an item behind a flag

-- what reading takes, and what is read again
abbrev pub ItemTakes : {A E : Type 0} → (ℕ → Result (A × ℕ) E) → (A → List ℕ) → (A → Type 0) → List ℕ → Type 0
ItemTakes {A} {E} item spell Fits bytes = (at : ℕ) (x : A × ℕ) → at ≤ length bytes → item at ≡ Ok x → TakesAt bytes at (spell x.0) x.1 × Fits x.0

abbrev pub ItemAgain : {A E : Type 0} → (ℕ → Result (A × ℕ) E) → (A → List ℕ) → (A → Type 0) → List ℕ → Type 0
ItemAgain {A} {E} item spell Fits bytes = (at : ℕ) (x : A) (rest : List ℕ) → at ≤ length bytes → Fits x → drop at bytes ≡ spell x ++ rest → item at ≡ Ok (x, at + length (spell x))

-- the item, if there is one, fits
abbrev pub OptionFits : {A : Type 0} → (A → Type 0) → Option A → Type 0
OptionFits Fits None = Unit {0}
OptionFits Fits (Some x) = Fits x

pub optional_takes : {A E : Type 0} (short bad : E) (item : ℕ → Result (A × ℕ) E) (spell : A → List ℕ) (Fits : A → Type 0) (bytes : List ℕ) (at : ℕ) (x : Option A × ℕ)
    → ItemTakes item spell Fits bytes → at ≤ length bytes → optional_at short bad item bytes at ≡ Ok x → TakesAt bytes at (optional spell x.0) x.1 × OptionFits Fits x.0
unfolding optional_at
optional_takes {A} {E} short bad item spell Fits bytes at x takes le e =
    let a = bind_ok _ _ x e in
    let first = byte_takes short bytes at a.0 a.1 in
    elim (chosen (eqb a.0.0 0) (Ok (None, a.0.1)) (cond (eqb a.0.0 1) (item a.0.1 >>= λ y. Ok (Some y.0, y.1)) (Err bad)) (Ok x) a.2) [
      | inl none ↦
          let made : Option A × ℕ = (None, a.0.1) in
          let none_first = subst (λ (b : ℕ). TakesAt bytes at (b ∷ []) a.0.1) (eqb-true _ _ none.0) first in
          subst (λ (y : Option A × ℕ). TakesAt bytes at (optional spell y.0) y.1 × OptionFits Fits y.0) (ok_is E made x none.1) (none_first, tt)
      | inr some ↦ elim (chosen (eqb a.0.0 1) (item a.0.1 >>= λ y. Ok (Some y.0, y.1)) (Err bad) (Ok x) some.1) [
        | inl one ↦
            let b = bind_ok _ _ x one.1 in
            let t = takes a.0.1 b.0 (TakesAt-within bytes at (a.0.0 ∷ []) a.0.1 le first) b.1 in
            let made : Option A × ℕ = (Some b.0.0, b.0.1) in
            let one_first = subst (λ (f : ℕ). TakesAt bytes at (f ∷ []) a.0.1) (eqb-true _ _ one.0) first in
            subst (λ (y : Option A × ℕ). TakesAt bytes at (optional spell y.0) y.1 × OptionFits Fits y.0) (ok_is E made x b.2) (TakesAt-then bytes at (1 ∷ []) a.0.1 (spell b.0.0) b.0.1 one_first t.0, t.1)
        | inr other ↦ absurd (cc (other.1))
      ]
    ]

pub optional_again : {A E : Type 0} (short bad : E) (item : ℕ → Result (A × ℕ) E) (spell : A → List ℕ) (Fits : A → Type 0) (bytes rest : List ℕ) (at : ℕ) (o : Option A)
    → ItemAgain item spell Fits bytes → at ≤ length bytes → OptionFits Fits o → drop at bytes ≡ optional spell o ++ rest
    → optional_at short bad item bytes at ≡ Ok (o, at + length (optional spell o))
unfolding optional_at
optional_again short bad item spell Fits bytes rest at None again le fit e = rw (byte_again short bytes rest at 0 e) refl
optional_again short bad item spell Fits bytes rest at (Some x) again le fit e =
    let first = byte_again short bytes (spell x ++ rest) at 1 e in
    let taken = took bytes (1 ∷ []) (spell x ++ rest) at (at + 1) e refl in
    let next : drop (at + 1) bytes ≡ spell x ++ rest = behind bytes (1 ∷ []) (spell x ++ rest) at e in
    let second = again (at + 1) x rest (TakesAt-within bytes at (1 ∷ []) (at + 1) le taken) fit next in
    let place : at + 1 + length (spell x) ≡ at + length (optional spell (Some x)) = omega arith in
    rw (first, second, place) refl
