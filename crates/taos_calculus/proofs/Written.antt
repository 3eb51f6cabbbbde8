-- Bytes of some of a list.
use Rattle.std.proofs.Common.{◌≡◌, ℕ, ◌+◌, ◌<◌, ◌≤◌, List, ◌++◌, length, take, drop, get_or, sym, ap, ◌∙◌, append_assoc, arith}
use Rattle.std.specs.Prelude.{Vec, vec_capacity, Err}
use Rattle.std.specs.List.{flat_map}
use Rattle.std.proofs.lemmas.List.{take-append-drop, drop_more, length-append}
use Rattle.std.proofs.lemmas.List.Concat.{flat_map-append}
use Rattle.byte_fields.specs.Appends.{Pushes}

-- the bytes of a front and of the next one are no more than all
pub length_next : {X : Type 0} (f : X → List ℕ) (xs : List X) (i : ℕ) (d : X) → i < length xs →
    length (flat_map f (take i xs)) + length (f (get_or xs i d)) ≤ length (flat_map f xs)
length_next f xs i d h =
    let cut : flat_map f xs ≡ flat_map f (take i xs) ++ flat_map f (drop i xs) = ap (flat_map f) (sym (take-append-drop i xs)) ∙ flat_map-append f (take i xs) (drop i xs) in
    let next : flat_map f (drop i xs) ≡ f (get_or xs i d) ++ flat_map f (drop (i + 1) xs) = ap (flat_map f) (drop_more xs i d h) in
    let a : length (flat_map f xs) ≡ length (flat_map f (take i xs)) + length (flat_map f (drop i xs)) = ap length cut ∙ length-append (flat_map f (take i xs)) (flat_map f (drop i xs)) in
    let b : length (flat_map f (drop i xs)) ≡ length (f (get_or xs i d)) + length (flat_map f (drop (i + 1) xs)) = ap length next ∙ length-append (f (get_or xs i d)) (flat_map f (drop (i + 1) xs)) in
    omega arith

-- less room than for the next one behind a front is less than for all
room_next : {X : Type 0} (f : X → List ℕ) (xs : List X) (i : ℕ) (d : X) (first now : ℕ) (old items : List ℕ) → i < length xs →
    items ≡ old ++ flat_map f (take i xs) → first ≤ now → now < length items + length (f (get_or xs i d)) → first < length old + length (flat_map f xs)
room_next f xs i d first now old items h is kept low =
    let len : length items ≡ length old + length (flat_map f (take i xs)) = ap length is ∙ length-append old (flat_map f (take i xs)) in
    omega (arith, length_next f xs i d h)

-- where the next one behind a front was not written, all were not
pub not_all : {X Z E F : Type 0} (f : X → List ℕ) (xs : List X) (i : ℕ) (d : X) (old now new : Vec ℕ Z) (e : E) (g : F) → i < length xs →
    now.items ≡ old.items ++ flat_map f (take i xs) → vec_capacity old ≤ vec_capacity now → Pushes {A = Unit {0}} now new (f (get_or xs i d)) (Err e)
    → Pushes {A = Unit {0}} old new (flat_map f xs) (Err g)
not_all f xs i d old now new e g h is kept failed =
    let front = flat_map f (take i xs) in
    let more = failed.err in
    record {
      ok = tt;
      err = (front ++ more.0, more.1 ∙ ap (λ (bytes : List ℕ). bytes ++ more.0) is ∙ append_assoc old.items front more.0);
      capacity = omega (arith, kept, failed.capacity);
      room = room_next f xs i d (vec_capacity old) (vec_capacity now) old.items now.items h is kept failed.room;
    }
