-- Readers that stay within the bytes: what is read ends there, and each fault is of one kind.
use Rattle.std.proofs.Common.{◌≡◌, ℕ, zero, suc, ◌+◌, ◌-◌, ◌≤◌, Bool, true, false, cond, eqb, ltb, List, [], ◌∷◌, ◌++◌, length, get_or, take, drop, Option, Some, None, Result, Ok, Err, sym, subst, arith, inl, inr}
use Rattle.std.specs.Int.{Width, byte_len, from_be_bytes}
use Rattle.std.proofs.lemmas.Bool.{ltb-true, ltb-false}
use Rattle.byte_fields.specs.Readers.{Reader, followed, passing, made, given, items_behind, counted}
use Rattle.byte_fields.specs.Steps.{◌>>=◌, with_fault, byte_at, bytes_at, number_at, counted_at, optional_at}
use Rattle.byte_fields.proofs.Results.{bind_ok, bind_err, ok_is, err_is, chosen, chosen_ok, chosen_err, refused_ok, refused_err, with_fault_ok, with_fault_err}

-- what r gives ends within the bytes, and its faults are of the kind
pub record Stays {A E : Type 0} (bytes : List ℕ) (Kind : E → Type 0) (r : Reader A E) : Type 0 where
  pub ends : (at : ℕ) (x : A × ℕ) → at ≤ length bytes → r at ≡ Ok x → x.1 ≤ length bytes
  pub refuses : (at : ℕ) (f : E) → at ≤ length bytes → r at ≡ Err f → Kind f

-- the faults at places of the bytes are of the kind
abbrev pub AtPlaces : {E : Type 0} → List ℕ → (ℕ → E) → (E → Type 0) → Type 0
AtPlaces bytes fault Kind = (o : ℕ) → o ≤ length bytes → Kind (fault o)

-- ---- one behind another, a test, another value

pub stays_followed : {A B E : Type 0} {bytes : List ℕ} {Kind : E → Type 0} {first : Reader A E} {second : A → Reader B E} → Stays bytes Kind first → ((a : A) → Stays bytes Kind (second a)) → Stays bytes Kind (followed first second)
stays_followed {A} {B} {E} {bytes} {Kind} {first} {second} one two = record {
  ends = λ at x le e.
      let a = bind_ok (first at) (λ a. second a.0 a.1 >>= λ b. Ok ((a.0, b.0), b.1)) x e in
      let b = bind_ok (second a.0.0 a.0.1) (λ b. Ok ((a.0.0, b.0), b.1)) x a.2 in
      let both : (A × B) × ℕ = ((a.0.0, b.0.0), b.0.1) in
      subst (λ (y : (A × B) × ℕ). y.1 ≤ length bytes) (ok_is E both x b.2) ((two a.0.0).ends a.0.1 b.0 (one.ends at a.0 le a.1) b.1);
  refuses = λ at f le e.
      elim (bind_err (first at) (λ a. second a.0 a.1 >>= λ b. Ok ((a.0, b.0), b.1)) f e) [
        | inl none ↦ one.refuses at f le none
        | inr a ↦ elim (bind_err (second a.0.0 a.0.1) (λ b. Ok ((a.0.0, b.0), b.1)) f a.2) [
          | inl none ↦ (two a.0.0).refuses a.0.1 f (one.ends at a.0 le a.1) none
          | inr b ↦ absurd (cc (b.2))
        ]
      ];
}

pub stays_passing : {A E : Type 0} {bytes : List ℕ} {Kind : E → Type 0} {r : Reader A E} (test : A → Bool) (fault : ℕ → E) → Stays bytes Kind r → AtPlaces bytes fault Kind → Stays bytes Kind (passing test fault r)
stays_passing {A} {E} {bytes} {Kind} {r} test fault one here = record {
  ends = λ at x le e.
      let a = bind_ok (r at) (λ a. cond (test a.0) (Ok a) (Err (fault at))) x e in
      let g = chosen_ok (test a.0.0) (fault at) a.0 x a.2 in
      subst (λ (y : A × ℕ). y.1 ≤ length bytes) g.1 (one.ends at a.0 le a.1);
  refuses = λ at f le e.
      elim (bind_err (r at) (λ a. cond (test a.0) (Ok a) (Err (fault at))) f e) [
        | inl none ↦ one.refuses at f le none
        | inr a ↦ subst Kind (sym (chosen_err (test a.0.0) (fault at) f a.0 a.2).1) (here at le)
      ];
}

pub stays_made : {A B E : Type 0} {bytes : List ℕ} {Kind : E → Type 0} {r : Reader A E} (f : A → B) → Stays bytes Kind r → Stays bytes Kind (made f r)
stays_made {A} {B} {E} {bytes} {Kind} {r} f one = record {
  ends = λ at x le e.
      let a = bind_ok (r at) (λ a. Ok (f a.0, a.1)) x e in
      let seen : B × ℕ = (f a.0.0, a.0.1) in
      subst (λ (y : B × ℕ). y.1 ≤ length bytes) (ok_is E seen x a.2) (one.ends at a.0 le a.1);
  refuses = λ at g le e.
      elim (bind_err (r at) (λ a. Ok (f a.0, a.1)) g e) [
        | inl none ↦ one.refuses at g le none
        | inr a ↦ absurd (cc (a.2))
      ];
}

pub stays_given : {A E : Type 0} {Kind : E → Type 0} (bytes : List ℕ) (x : A) → Stays bytes Kind (given x)
stays_given {A} {E} {Kind} bytes x = record {
  ends = λ at y le e.
      let here : A × ℕ = (x, at) in
      subst (λ (z : A × ℕ). z.1 ≤ length bytes) (ok_is E here y e) le;
  refuses = λ at f le e. absurd cc;
}

pub stays_if : {A E : Type 0} {bytes : List ℕ} {Kind : E → Type 0} (test : Bool) (r other : Reader A E) → Stays bytes Kind r → Stays bytes Kind other → Stays bytes Kind (λ at. cond test (r at) (other at))
stays_if true r other one two = one
stays_if false r other one two = two

-- the same with other faults
pub stays_seen : {A E F : Type 0} {bytes : List ℕ} {Kind : E → Type 0} {r : Reader A E} (Other : F → Type 0) (f : E → F) → Stays bytes Kind r → ((d : E) → Kind d → Other (f d)) → Stays bytes Other (λ at. with_fault f (r at))
stays_seen {A} {E} {F} {bytes} {Kind} {r} Other f one seen = record {
  ends = λ at x le e. one.ends at x le (with_fault_ok f (r at) x e);
  refuses = λ at d le e.
      let g = with_fault_err f (r at) d e in
      subst Other (sym g.2) (seen g.0 (one.refuses at g.0 le g.1));
}

-- ---- items

pub items_stay : {A E : Type 0} {bytes : List ℕ} {Kind : E → Type 0} (item : List A → Reader A E) → ((before : List A) → Stays bytes Kind (item before)) → (n : ℕ) (before : List A) → Stays bytes Kind (items_behind item n before)
unfolding items_behind
items_stay {A} {E} {bytes} {Kind} item step zero before = stays_given bytes before
items_stay {A} {E} {bytes} {Kind} item step (suc n) before = record {
  ends = λ at x le e.
      let a = bind_ok (item before at) (λ next. items_behind item n (before ++ next.0 ∷ []) next.1) x e in
      (items_stay item step n (before ++ a.0.0 ∷ [])).ends a.0.1 x ((step before).ends at a.0 le a.1) a.2;
  refuses = λ at f le e.
      elim (bind_err (item before at) (λ next. items_behind item n (before ++ next.0 ∷ []) next.1) f e) [
        | inl none ↦ (step before).refuses at f le none
        | inr a ↦ (items_stay item step n (before ++ a.0.0 ∷ [])).refuses a.0.1 f ((step before).ends at a.0 le a.1) a.2
      ];
}

pub stays_counted : {A E : Type 0} {bytes : List ℕ} {Kind : E → Type 0} {count : Reader ℕ E} {item : List A → Reader A E} (most : ℕ) (fault : ℕ → E)
    → Stays bytes Kind count → AtPlaces bytes fault Kind → ((before : List A) → Stays bytes Kind (item before)) → Stays bytes Kind (counted most fault count item)
stays_counted {A} {E} {bytes} {Kind} {count} {item} most fault one here step = stays_made _ (stays_followed (stays_passing _ fault one here) (λ n. items_stay item step n []))

-- ---- fields

module _ {E : Type 0} (Kind : E → Type 0) (short : E) (lacking : Kind short) (bytes : List ℕ) where
  pub byte_stays : Stays bytes Kind (byte_at short bytes)
  unfolding byte_at
  byte_stays = record {
    ends = λ at x le e.
        let g = chosen_ok (ltb at (length bytes)) short (get_or bytes at 0, at + 1) x e in
        subst (λ (y : ℕ × ℕ). y.1 ≤ length bytes) g.1 (omega (arith, ltb-true _ _ g.0));
    refuses = λ at f le e. subst Kind (sym (chosen_err (ltb at (length bytes)) short f (get_or bytes at 0, at + 1) e).1) lacking;
  }

  pub bytes_stay : (n : ℕ) → Stays bytes Kind (bytes_at short n bytes)
  unfolding bytes_at
  bytes_stay n = record {
    ends = λ at x le e.
        let g = refused_ok (ltb (length bytes - at) n) short (take n (drop at bytes), at + n) x e in
        subst (λ (y : List ℕ × ℕ). y.1 ≤ length bytes) g.1 (omega (arith, ltb-false _ _ g.0, le));
    refuses = λ at f le e. subst Kind (sym (refused_err (ltb (length bytes - at) n) short f (take n (drop at bytes), at + n) e).1) lacking;
  }

  pub number_stays : (w : Width) → Stays bytes Kind (number_at short w bytes)
  unfolding number_at
  number_stays w = record {
    ends = λ at x le e.
        let g = refused_ok (ltb (length bytes - at) (byte_len w)) short (from_be_bytes w (take (byte_len w) (drop at bytes)), at + byte_len w) x e in
        subst (λ (y : ℕ × ℕ). y.1 ≤ length bytes) g.1 (omega (arith, ltb-false _ _ g.0, le));
    refuses = λ at f le e. subst Kind (sym (refused_err (ltb (length bytes - at) (byte_len w)) short f (from_be_bytes w (take (byte_len w) (drop at bytes)), at + byte_len w) e).1) lacking;
  }

  pub counted_stays : (w : Width) → Stays bytes Kind (counted_at short w bytes)
  unfolding counted_at
  counted_stays w = record {
    ends = λ at x le e.
        let a = bind_ok (number_at short w bytes at) (λ n. bytes_at short n.0 bytes n.1) x e in
        (bytes_stay a.0.0).ends a.0.1 x ((number_stays w).ends at a.0 le a.1) a.2;
    refuses = λ at f le e.
        elim (bind_err (number_at short w bytes at) (λ n. bytes_at short n.0 bytes n.1) f e) [
          | inl none ↦ (number_stays w).refuses at f le none
          | inr a ↦ (bytes_stay a.0.0).refuses a.0.1 f ((number_stays w).ends at a.0 le a.1) a.2
        ];
  }

  pub optional_stays : {A : Type 0} (bad : ℕ → E) (item : Reader A E) → Stays bytes Kind item → AtPlaces bytes bad Kind → Stays bytes Kind (λ at. optional_at short (bad at) item bytes at)
  unfolding optional_at
  optional_stays {A} bad item one here = record {
    ends = λ at x le e.
        let a = bind_ok (byte_at short bytes at) (λ flag. cond (eqb flag.0 0) (Ok (None, flag.1)) (cond (eqb flag.0 1) (item flag.1 >>= λ x. Ok (Some x.0, x.1)) (Err (bad at)))) x e in
        let next = byte_stays.ends at a.0 le a.1 in
        elim (chosen (eqb a.0.0 0) (Ok (None, a.0.1)) (cond (eqb a.0.0 1) (item a.0.1 >>= λ x. Ok (Some x.0, x.1)) (Err (bad at))) (Ok x) a.2) [
          | inl none ↦
              let nothing : Option A × ℕ = (None, a.0.1) in
              subst (λ (y : Option A × ℕ). y.1 ≤ length bytes) (ok_is E nothing x none.1) next
          | inr some ↦
              let g = chosen_ok' (eqb a.0.0 1) (bad at) (item a.0.1 >>= λ x. Ok (Some x.0, x.1)) x some.1 in
              let b = bind_ok (item a.0.1) (λ x. Ok (Some x.0, x.1)) x g in
              let made : Option A × ℕ = (Some b.0.0, b.0.1) in
              subst (λ (y : Option A × ℕ). y.1 ≤ length bytes) (ok_is E made x b.2) (one.ends a.0.1 b.0 next b.1)
        ];
    refuses = λ at f le e.
        elim (bind_err (byte_at short bytes at) (λ flag. cond (eqb flag.0 0) (Ok (None, flag.1)) (cond (eqb flag.0 1) (item flag.1 >>= λ x. Ok (Some x.0, x.1)) (Err (bad at)))) f e) [
          | inl none ↦ byte_stays.refuses at f le none
          | inr a ↦
              let next = byte_stays.ends at a.0 le a.1 in
              elim (chosen (eqb a.0.0 0) (Ok (None, a.0.1)) (cond (eqb a.0.0 1) (item a.0.1 >>= λ x. Ok (Some x.0, x.1)) (Err (bad at))) (Err f) a.2) [
                | inl none ↦ absurd (cc (none.1))
                | inr some ↦ elim (chosen (eqb a.0.0 1) (item a.0.1 >>= λ x. Ok (Some x.0, x.1)) (Err (bad at)) (Err f) some.1) [
                  | inl is_one ↦ elim (bind_err (item a.0.1) (λ x. Ok (Some x.0, x.1)) f is_one.1) [
                    | inl none ↦ one.refuses a.0.1 f next none
                    | inr b ↦ absurd (cc (b.2))
                  ]
                  | inr other ↦ subst Kind (err_is (Option A × ℕ) (bad at) f other.1) (here at le)
                ]
              ]
        ];
  }
    where
      chosen_ok' : {X : Type 0} (b : Bool) (d : E) (r : Result X E) (y : X) → cond b r (Err d) ≡ Ok y → r ≡ Ok y
      chosen_ok' true d r y e = e
      chosen_ok' false d r y e = absurd cc
