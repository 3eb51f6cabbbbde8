-- Appending piece by piece, in a loop too.
use Rattle.std.proofs.Common.{◌≡◌, ℕ, ◌+◌, ◌<◌, ◌≤◌, List, [], ◌∷◌, ◌++◌, length, get_or, take, map, Result, sym, ap, ◌∙◌, append_assoc, append-nil, arith, length-append, subst}
use Rattle.std.specs.Prelude.{All, Vec, vec_capacity, Ok, Err}
use Rattle.std.specs.List.{flat_map}
use Rattle.std.proofs.lemmas.List.{flat_map_more, get_or-map, length-map, take_more}
use Rattle.std.proofs.lemmas.List.Folds.{length-flat_map-take}
use Rattle.byte_fields.specs.Appends.{Appends, Pushes}

-- a call that left nothing where it failed
pub appended : {Z A E : Type 0} (old new : Vec ℕ Z) (text : List ℕ) (r : Result A E) → Appends old new text r → Pushes old new text r
appended old new text (Ok x) is = record { ok = is.ok; err = tt; capacity = is.capacity; room = tt }
appended old new text (Err e) is = record { ok = tt; err = ([], is.err ∙ sym (append-nil old.items)); capacity = is.capacity; room = is.room }

-- a piece that was written, and then another
pub pushes_then : {Z A B E F : Type 0} (old mid new : Vec ℕ Z) (a b : List ℕ) (x : A) (r : Result B F) → Pushes {E = E} old mid a (Ok x) → Pushes mid new b r → Pushes old new (a ++ b) r
pushes_then old mid new a b x (Ok y) first second = record {
  ok = second.ok ∙ ap (λ (l : List ℕ). l ++ b) first.ok ∙ append_assoc old.items a b;
  err = tt;
  capacity = omega (arith, first.capacity, second.capacity);
  room = tt;
}
pushes_then old mid new a b x (Err f) first second =
    let len : length mid.items ≡ length old.items + length a = ap length first.ok ∙ length-append old.items a in
    record {
      ok = tt;
      err = (a ++ second.err.0, second.err.1 ∙ ap (λ (l : List ℕ). l ++ second.err.0) first.ok ∙ append_assoc old.items a second.err.0);
      capacity = omega (arith, first.capacity, second.capacity);
      room = omega (arith, len, length-append a b, first.capacity, second.room);
    }

-- the pieces of the first i items are written
pub record AreWritten {A : Type 0} (spell : A → List ℕ) (items : List A) (i : ℕ) (old now : List ℕ) : Type 0 where
  pub is : now ≡ old ++ flat_map spell (take i items)

module _ {X A : Type 0} (spell : A → List ℕ) (view : X → A) (xs : List X) (i : ℕ) (old now : List ℕ) (x : X) (below : i < length xs) (item : x ≡ get_or xs i x) (so_far : AreWritten spell (map view xs) i old now) where
  within : i < length (map view xs)
  within = omega (arith, length-map xs view, below)

  seen : view x ≡ get_or (map view xs) i (view x)
  seen = ap view item ∙ sym (get_or-map view xs i x (view x) below)

  pub one_more : (new : List ℕ) → new ≡ now ++ spell (view x) → AreWritten spell (map view xs) (i + 1) old new
  one_more new is =
      let longer : take (i + 1) (map view xs) ≡ take i (map view xs) ++ view x ∷ [] = take_more (map view xs) i (view x) within ∙ ap (λ y. take i (map view xs) ++ y ∷ []) (sym seen) in
      record { is = is ∙ ap (λ (l : List ℕ). l ++ spell (view x)) so_far.is ∙ flat_map_more spell old (take i (map view xs)) (view x) ∙ ap (λ l. old ++ flat_map spell l) (sym longer) }

  -- there was no more room needed than for all
  pub room_for_all : length now + length (spell (view x)) ≤ length old + length (flat_map spell (map view xs))
  room_for_all =
      let len : length now ≡ length old + length (flat_map spell (take i (map view xs))) = ap length so_far.is ∙ length-append old (flat_map spell (take i (map view xs))) in
      let one : length (spell (view x)) ≡ length (spell (get_or (map view xs) i (view x))) = ap (λ y. length (spell y)) seen in
      omega (arith, len, one, length-flat_map-take spell (map view xs) i (view x) within)

  -- what was begun has the old bytes in front
  pub begun : (new : List ℕ) → (more : List ℕ) × (new ≡ now ++ more) → (more : List ℕ) × (new ≡ old ++ more)
  begun new is =
      (flat_map spell (take i (map view xs)) ++ is.0, is.1 ∙ ap (λ (l : List ℕ). l ++ is.0) so_far.is ∙ append_assoc old (flat_map spell (take i (map view xs))) is.0)

-- where one piece was not written, all were not
pub not_all : {X A Z E F : Type 0} (spell : A → List ℕ) (view : X → A) (xs : List X) (i : ℕ) (x : X) (old now new : Vec ℕ Z) (e : E) (g : F) → i < length xs → x ≡ get_or xs i x
    → AreWritten spell (map view xs) i old.items now.items → vec_capacity old ≤ vec_capacity now → Pushes {A = Unit {0}} now new (spell (view x)) (Err e)
    → Pushes {A = Unit {0}} old new (flat_map spell (map view xs)) (Err g)
not_all spell view xs i x old now new e g below item so_far kept failed =
    let all = room_for_all spell view xs i old.items now.items x below item so_far in
    record {
      ok = tt;
      err = begun spell view xs i old.items now.items x below item so_far new.items failed.err;
      capacity = omega (arith, kept, failed.capacity);
      room = omega (arith, failed.room, kept, all);
    }

-- what holds of each is true of this one
pub this_one : {X A : Type 0} (P : A → Type 0) (view : X → A) (xs : List X) (i : ℕ) (x : X) → i < length xs → x ≡ get_or xs i x → All P (map view xs) → P (view x)
this_one P view xs i x below item all =
    let seen : get_or (map view xs) i (view x) ≡ view x = get_or-map view xs i x (view x) below ∙ sym (ap view item) in
    subst P seen (all i (view x) (omega (arith, length-map xs view, below)))
