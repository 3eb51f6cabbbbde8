-- Readers: what they take is what they spell, and what is spelled is read.
use Rattle.std.proofs.Common.{◌≡◌, ℕ, zero, suc, ◌+◌, ◌<◌, ◌≤◌, Bool, true, false, cond, leb, not, ◌||◌, List, [], ◌∷◌, ◌++◌, length, get_or, drop, Ok, Err, refl, sym, ap, subst, ◌∙◌, append_assoc, append-nil, arith, length-append}
use Rattle.std.specs.Prelude.{All, AllPairs}
use Rattle.std.specs.List.{flat_map, list_any}
use Rattle.std.specs.Int.{Width, to_be_bytes}
use Rattle.std.proofs.lemmas.Bool.{le-leb, leb-true}
use Rattle.std.proofs.Math.Seq.{get_or-append_seam}
use Rattle.std.proofs.lemmas.List.{get_or_append_left}
use Rattle.std.proofs.lemmas.List.Elements.{All-nil, All-cons, All-head, All-tail}
use Rattle.std.proofs.lemmas.List.Quantifiers.{all_pairs_push}
use Rattle.byte_fields.specs.Steps.{◌>>=◌, with_fault, byte_at, bytes_at, number_at}
use Rattle.byte_fields.proofs.Results.{bind_ok, ok_is, chosen_ok, with_fault_ok}
use Rattle.byte_fields.proofs.FieldLaws.{IsBytes, IsBytes-drop, IsWide, TakesAt, TakesAt-then, TakesAt-none, TakesAt-within, behind, byte_takes, byte_below, byte_again, bytes_takes, bytes_again, number_takes, number_again}
use Rattle.byte_fields.specs.Readers.{Reader, followed, passing, made, items_behind, counted, is_new}

-- what a reader takes is what it spells, of the values that fit, and what is spelled is read
pub record Reads {A E : Type 0} (bytes : List ℕ) (r : Reader A E) (spell : A → List ℕ) (Fits : A → Type 0) : Type 0 where
  pub takes : IsBytes bytes → (at : ℕ) (x : A × ℕ) → at ≤ length bytes → r at ≡ Ok x → TakesAt bytes at (spell x.0) x.1 × Fits x.0
  pub again : (at : ℕ) (a : A) (rest : List ℕ) → Fits a → drop at bytes ≡ spell a ++ rest → r at ≡ Ok (a, at + length (spell a))

-- ---- fields

pub reads_byte : {E : Type 0} (short : E) (bytes : List ℕ) → Reads bytes (byte_at short bytes) (λ b. b ∷ []) (λ b. b < 256)
reads_byte short bytes = record {
  takes = λ ok at x le e. (byte_takes short bytes at x e, byte_below short bytes at x ok e);
  again = λ at b rest below e. byte_again short bytes rest at b e;
}

pub reads_number : {E : Type 0} (short : E) (w : Width) (limit : ℕ) → IsWide w limit → (bytes : List ℕ) → Reads bytes (number_at short w bytes) (to_be_bytes w) (λ n. n < limit)
reads_number short w limit wide bytes = record {
  takes = λ ok at x le e. number_takes short w limit wide bytes at x ok e;
  again = λ at n rest below e. number_again short w limit wide bytes rest at n below e ∙ ap (λ (k : ℕ). Ok (n, at + k)) (sym (wide.len n));
}

pub IsBytes-front : (text rest : List ℕ) → IsBytes (text ++ rest) → All (λ b. b < 256) text
IsBytes-front [] rest fits = All-nil (λ b. b < 256)
IsBytes-front (b ∷ text) rest fits = All-cons (λ b. b < 256) b text (fits 0) (IsBytes-front text rest (λ i. fits (suc i)))

pub reads_bytes : {E : Type 0} (short : E) (n : ℕ) (bytes : List ℕ) → Reads bytes (bytes_at short n bytes) (λ text. text) (λ text. (length text ≡ n) × All (λ b. b < 256) text)
reads_bytes short n bytes = record {
  takes = λ ok at x le e.
      let t = bytes_takes short n bytes at x e in
      (t.0, (t.1, IsBytes-front x.0 (drop x.1 bytes) (subst IsBytes t.0.parts (IsBytes-drop at bytes ok))));
  again = λ at text rest is e. bytes_again short n bytes text rest at is.0 e ∙ ap (λ (k : ℕ). Ok (text, at + k)) (sym is.0);
}

-- ---- one behind another

pub reads_followed : {A B E : Type 0} {bytes : List ℕ} {first : Reader A E} {second : A → Reader B E} {sa : A → List ℕ} {sb : B → List ℕ} {Fa : A → Type 0} {Fb : A → B → Type 0}
    → Reads bytes first sa Fa → ((a : A) → Fa a → Reads bytes (second a) sb (Fb a)) → Reads bytes (followed first second) (λ p. sa p.0 ++ sb p.1) (λ p. Fa p.0 × Fb p.0 p.1)
reads_followed {A} {B} {E} {bytes} {first} {second} {sa} {sb} {Fa} {Fb} one two = record {
  takes = λ ok at x le e.
      let a = bind_ok (first at) (λ a. second a.0 a.1 >>= λ b. Ok ((a.0, b.0), b.1)) x e in
      let b = bind_ok (second a.0.0 a.0.1) (λ b. Ok ((a.0.0, b.0), b.1)) x a.2 in
      let t = one.takes ok at a.0 le a.1 in
      let u = (two a.0.0 t.1).takes ok a.0.1 b.0 (TakesAt-within bytes at (sa a.0.0) a.0.1 le t.0) b.1 in
      let both : (A × B) × ℕ = ((a.0.0, b.0.0), b.0.1) in
      subst (λ (y : (A × B) × ℕ). TakesAt bytes at (sa y.0.0 ++ sb y.0.1) y.1 × (Fa y.0.0 × Fb y.0.0 y.0.1)) (ok_is E both x b.2)
      (TakesAt-then bytes at (sa a.0.0) a.0.1 (sb b.0.0) b.0.1 t.0 u.0, (t.1, u.1));
  again = λ at p rest fits e.
      let grouped : drop at bytes ≡ sa p.0 ++ (sb p.1 ++ rest) = e ∙ append_assoc (sa p.0) (sb p.1) rest in
      let first_is = one.again at p.0 (sb p.1 ++ rest) fits.0 grouped in
      let second_is = (two p.0 fits.0).again (at + length (sa p.0)) p.1 rest fits.1 (behind bytes (sa p.0) (sb p.1 ++ rest) at grouped) in
      let place : at + length (sa p.0) + length (sb p.1) ≡ at + length (sa p.0 ++ sb p.1) = omega (arith, length-append (sa p.0) (sb p.1)) in
      rw (first_is, second_is, place) refl;
}

-- ---- a test

pub reads_passing : {A E : Type 0} {bytes : List ℕ} (test : A → Bool) (fault : ℕ → E) {r : Reader A E} {spell : A → List ℕ} {Fits : A → Type 0}
    → Reads bytes r spell Fits → Reads bytes (passing test fault r) spell (λ a. Fits a × (test a ≡ true))
reads_passing {A} {E} {bytes} test fault {r} {spell} {Fits} reads = record {
  takes = λ ok at x le e.
      let a = bind_ok (r at) (λ a. cond (test a.0) (Ok a) (Err (fault at))) x e in
      let t = reads.takes ok at a.0 le a.1 in
      let g = chosen_ok (test a.0.0) (fault at) a.0 x a.2 in
      subst (λ (y : A × ℕ). TakesAt bytes at (spell y.0) y.1 × (Fits y.0 × (test y.0 ≡ true))) g.1 (t.0, (t.1, g.0));
  again = λ at a rest fits e.
      let is = reads.again at a rest fits.0 e in
      rw (is, fits.1) refl;
}

-- ---- another value

pub reads_made : {A B E : Type 0} {bytes : List ℕ} {r : Reader A E} {sa : A → List ℕ} {Fa : A → Type 0} (f : A → B) (g : B → A) (sb : B → List ℕ) (Fb : B → Type 0)
    → Reads bytes r sa Fa → ((a : A) → Fa a → Fb (f a) × (sa a ≡ sb (f a))) → ((b : B) → Fb b → Fa (g b) × (sb b ≡ sa (g b)) × (f (g b) ≡ b))
    → Reads bytes (made f r) sb Fb
reads_made {A} {B} {E} {bytes} {r} {sa} {Fa} f g sb Fb reads forth back = record {
  takes = λ ok at x le e.
      let a = bind_ok (r at) (λ a. Ok (f a.0, a.1)) x e in
      let t = reads.takes ok at a.0 le a.1 in
      let to = forth a.0.0 t.1 in
      let whole : B × ℕ = (f a.0.0, a.0.1) in
      subst (λ (y : B × ℕ). TakesAt bytes at (sb y.0) y.1 × Fb y.0) (ok_is E whole x a.2) (subst (λ (l : List ℕ). TakesAt bytes at l a.0.1) to.1 t.0, to.0);
  again = λ at b rest fits e.
      let from = back b fits in
      let is = reads.again at (g b) rest from.0 (e ∙ ap (λ (l : List ℕ). l ++ rest) from.1) in
      let place : length (sa (g b)) ≡ length (sb b) = ap length (sym from.1) in
      rw (is, place, from.2) refl;
}

-- the same values and bytes, said otherwise
pub reads_as : {A E : Type 0} {bytes : List ℕ} {r : Reader A E} {sa : A → List ℕ} {Fa : A → Type 0} (sb : A → List ℕ) (Fb : A → Type 0)
    → Reads bytes r sa Fa → ((a : A) → Fa a → Fb a × (sa a ≡ sb a)) → ((a : A) → Fb a → Fa a) → Reads bytes r sb Fb
reads_as {A} {E} {bytes} {r} {sa} {Fa} sb Fb reads forth back = record {
  takes = λ ok at x le e.
      let t = reads.takes ok at x le e in
      let to = forth x.0 t.1 in
      (subst (λ (l : List ℕ). TakesAt bytes at l x.1) to.1 t.0, to.0);
  again = λ at a rest fits e.
      let from = back a fits in
      let same : sb a ≡ sa a = sym (forth a from).1 in
      reads.again at a rest from (e ∙ ap (λ (l : List ℕ). l ++ rest) same) ∙ ap (λ (l : List ℕ). Ok (a, at + length l)) (sym same);
}

-- the same values, where a fault is seen as another's
pub reads_seen_as : {A E F : Type 0} {bytes : List ℕ} {r : Reader A E} {spell : A → List ℕ} {Fits : A → Type 0} (f : E → F)
    → Reads bytes r spell Fits → Reads bytes (λ at. with_fault f (r at)) spell Fits
reads_seen_as {A} {E} {F} {bytes} {r} {spell} {Fits} f reads = record {
  takes = λ ok at x le e. reads.takes ok at x le (with_fault_ok f (r at) x e);
  again = λ at a rest fits e. ap (with_fault f) (reads.again at a rest fits e);
}

-- ---- items, each of which is apart from those before it

-- no item passes the test exactly where the test fails at each
new_cons : {A : Type 0} (test : A → Bool) (b : A) (before : List A) (t : Bool) → test b ≡ t → (is_new test before ≡ true → All (λ b. test b ≡ false) before) → not (t || list_any test before) ≡ true → All (λ b. test b ≡ false) (b ∷ before)
new_cons test b before true is others e = absurd cc
new_cons test b before false is others e = All-cons (λ b. test b ≡ false) b before is (others e)

pub is_new-All : {A : Type 0} (test : A → Bool) (before : List A) → is_new test before ≡ true → All (λ b. test b ≡ false) before
is_new-All test [] e = All-nil (λ b. test b ≡ false)
is_new-All test (b ∷ before) e = new_cons test b before (test b) refl (is_new-All test before) e

pub is_new-from_All : {A : Type 0} (test : A → Bool) (before : List A) → All (λ b. test b ≡ false) before → is_new test before ≡ true
is_new-from_All test [] all = refl
is_new-from_All test (b ∷ before) all =
    let first : test b ≡ false = All-head (λ b. test b ≡ false) b before all in
    rw first (is_new-from_All test before (All-tail (λ b. test b ≡ false) b before all))

-- each of those before an item in a list is apart from it
pub AllPairs-before : {A : Type 0} (Apart : A → A → Type 0) (before : List A) (x : A) (more : List A) → AllPairs Apart (before ++ x ∷ more) → All (λ b. Apart b x) before
AllPairs-before {A} Apart before x more pairs k d below =
    let first : get_or (before ++ x ∷ more) k d ≡ get_or before k d = get_or_append_left before (x ∷ more) d k below in
    let second : get_or (before ++ x ∷ more) (length before) d ≡ x = get_or-append_seam before x more d in
    subst (λ (y : A). Apart (get_or before k d) y) second (subst (λ (y : A). Apart y (get_or (before ++ x ∷ more) (length before) d)) first
    (pairs k (length before) d below (omega (arith, length-append before (x ∷ more)))))

pub record TakesItems {A : Type 0} (bytes : List ℕ) (spell : A → List ℕ) (Fits : A → Type 0) (Apart : A → A → Type 0) (n : ℕ) (before : List A) (at : ℕ) (x : List A × ℕ) : Type 0 where
  pub more : List A
  pub whole : x.0 ≡ before ++ more
  pub count : length more ≡ n
  pub taken : TakesAt bytes at (flat_map spell more) x.1
  pub fit : All Fits more
  pub apart : AllPairs Apart x.0

-- each step, in view of those before it
abbrev pub StepReads : {A E : Type 0} → List ℕ → (List A → Reader A E) → (A → List ℕ) → (A → Type 0) → (A → A → Type 0) → Type 0
StepReads {A} {E} bytes item spell Fits Apart = (before : List A) → Reads bytes (item before) spell (λ a. Fits a × All (λ b. Apart b a) before)

items_take : {A E : Type 0} (bytes : List ℕ) (item : List A → Reader A E) (spell : A → List ℕ) (Fits : A → Type 0) (Apart : A → A → Type 0) → StepReads bytes item spell Fits Apart
    → (n : ℕ) (before : List A) (at : ℕ) (x : List A × ℕ) → AllPairs Apart before → IsBytes bytes → at ≤ length bytes → items_behind item n before at ≡ Ok x → TakesItems bytes spell Fits Apart n before at x
unfolding items_behind
items_take {A} {E} bytes item spell Fits Apart step zero before at x apart ok le e =
    let none : List A × ℕ = (before, at) in
    subst (λ (y : List A × ℕ). TakesItems bytes spell Fits Apart 0 before at y) (ok_is E none x e)
    (record { more = []; whole = sym (append-nil before); count = refl; taken = TakesAt-none bytes at; fit = All-nil Fits; apart = apart })
items_take {A} {E} bytes item spell Fits Apart step (suc n) before at x apart ok le e =
    let a = bind_ok (item before at) (λ next. items_behind item n (before ++ next.0 ∷ []) next.1) x e in
    let t = (step before).takes ok at a.0 le a.1 in
    let pairs = all_pairs_push Apart before a.0.0 apart t.1.1 in
    let others = items_take bytes item spell Fits Apart step n (before ++ a.0.0 ∷ []) a.0.1 x pairs ok (TakesAt-within bytes at (spell a.0.0) a.0.1 le t.0) a.2 in
    record {
      more = a.0.0 ∷ others.more;
      whole = others.whole ∙ append_assoc before (a.0.0 ∷ []) others.more;
      count = ap suc others.count;
      taken = TakesAt-then bytes at (spell a.0.0) a.0.1 (flat_map spell others.more) x.1 t.0 others.taken;
      fit = All-cons Fits a.0.0 others.more t.1.0 others.fit;
      apart = others.apart;
    }

items_again : {A E : Type 0} (bytes : List ℕ) (item : List A → Reader A E) (spell : A → List ℕ) (Fits : A → Type 0) (Apart : A → A → Type 0) → StepReads bytes item spell Fits Apart
    → (xs before : List A) (at : ℕ) (rest : List ℕ) → AllPairs Apart (before ++ xs) → All Fits xs → drop at bytes ≡ flat_map spell xs ++ rest → items_behind item (length xs) before at ≡ Ok (before ++ xs, at + length (flat_map spell xs))
unfolding items_behind
items_again bytes item spell Fits Apart step [] before at rest apart fit e =
    let place : at + 0 ≡ at = omega arith in
    rw (append-nil before, place) refl
items_again bytes item spell Fits Apart step (x ∷ xs) before at rest apart fit e =
    let grouped : drop at bytes ≡ spell x ++ (flat_map spell xs ++ rest) = e ∙ append_assoc (spell x) (flat_map spell xs) rest in
    let first = (step before).again at x (flat_map spell xs ++ rest) (All-head Fits x xs fit, AllPairs-before Apart before x xs apart) grouped in
    let joined : (before ++ x ∷ []) ++ xs ≡ before ++ x ∷ xs = append_assoc before (x ∷ []) xs in
    let others = items_again bytes item spell Fits Apart step xs (before ++ x ∷ []) (at + length (spell x)) rest (subst (AllPairs Apart) (sym joined) apart) (All-tail Fits x xs fit) (behind bytes (spell x) (flat_map spell xs ++ rest) at grouped) in
    let place : at + length (spell x) + length (flat_map spell xs) ≡ at + length (spell x ++ flat_map spell xs) = omega (arith, length-append (spell x) (flat_map spell xs)) in
    rw (first, others, joined, place) refl

AllPairs-nil : {A : Type 0} (Apart : A → A → Type 0) → AllPairs Apart []
AllPairs-nil Apart i j d below within = absurd (omega arith)

pub reads_items : {A E : Type 0} (bytes : List ℕ) (item : List A → Reader A E) (spell : A → List ℕ) (Fits : A → Type 0) (Apart : A → A → Type 0) → StepReads bytes item spell Fits Apart
    → (n : ℕ) → Reads bytes (items_behind item n []) (flat_map spell) (λ xs. (length xs ≡ n) × All Fits xs × AllPairs Apart xs)
reads_items {A} {E} bytes item spell Fits Apart step n = record {
  takes = λ ok at x le e.
      let t = items_take bytes item spell Fits Apart step n [] at x (AllPairs-nil Apart) ok le e in (
        subst (λ (l : List A). TakesAt bytes at (flat_map spell l) x.1) (sym t.whole) t.taken,
        (ap length t.whole ∙ t.count, subst (All Fits) (sym t.whole) t.fit, t.apart),
      );
  again = λ at xs rest fits e.
      ap (λ (k : ℕ). items_behind item k [] at) (sym fits.0) ∙ items_again bytes item spell Fits Apart step xs [] at rest fits.2 fits.1 e;
}

-- a count and that many items
pub reads_counted : {A E : Type 0} {bytes : List ℕ} {count : Reader ℕ E} {item : List A → Reader A E} {number : ℕ → List ℕ} (most limit : ℕ) (fault : ℕ → E) (spell : A → List ℕ) (Fits : A → Type 0) (Apart : A → A → Type 0) → most < limit
    → Reads bytes count number (λ n. n < limit) → StepReads bytes item spell Fits Apart
    → Reads bytes (counted most fault count item) (λ xs. number (length xs) ++ flat_map spell xs) (λ xs. (length xs ≤ most) × All Fits xs × AllPairs Apart xs)
reads_counted {A} {E} {bytes} {count} {item} {number} most limit fault spell Fits Apart few one step =
    reads_made (λ (p : ℕ × List A). p.1) (λ (xs : List A). (length xs, xs)) (λ xs. number (length xs) ++ flat_map spell xs) (λ xs. (length xs ≤ most) × All Fits xs × AllPairs Apart xs)
    (reads_followed (reads_passing (λ n. leb n most) fault one) (λ n _. reads_items bytes item spell Fits Apart step n))
    (λ p fits.
    let many : length p.1 ≤ most = subst (λ (k : ℕ). k ≤ most) (sym fits.1.0) (leb-true p.0 most fits.0.1) in
    ((many, fits.1.1, fits.1.2), ap (λ (k : ℕ). number k ++ flat_map spell p.1) (sym fits.1.0)))
    (λ xs fits.
    let below : length xs < limit = omega (arith, fits.0) in
    (((below, le-leb (length xs) most fits.0), (refl, fits.1, fits.2)), refl, refl))

-- no item is compared with another
abbrev Anyhow : {A : Type 0} → A → A → Type 0
Anyhow a b = Unit {0}

-- a count and that many items, each read whatever stands before it
pub reads_each : {A E : Type 0} {bytes : List ℕ} {count : Reader ℕ E} {item : Reader A E} {number : ℕ → List ℕ} (most limit : ℕ) (fault : ℕ → E) (spell : A → List ℕ) (Fits : A → Type 0) → most < limit
    → Reads bytes count number (λ n. n < limit) → Reads bytes item spell Fits
    → Reads bytes (counted most fault count (λ _. item)) (λ xs. number (length xs) ++ flat_map spell xs) (λ xs. (length xs ≤ most) × All Fits xs)
reads_each {A} {E} {bytes} {count} {item} {number} most limit fault spell Fits few one step =
    reads_as (λ xs. number (length xs) ++ flat_map spell xs) (λ xs. (length xs ≤ most) × All Fits xs)
    (reads_counted most limit fault spell Fits Anyhow few one (λ before. reads_as spell (λ x. Fits x × All (λ b. Anyhow b x) before) step (λ x is. ((is, λ k d below. tt), refl)) (λ x is. is.0)))
    (λ xs is. ((is.0, is.1), refl))
    (λ xs is. (is.0, is.1, λ i j d below within. tt))
