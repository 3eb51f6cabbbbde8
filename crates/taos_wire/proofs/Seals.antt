-- Bytes that end in their tag.
use Rattle.std.proofs.Common.{◌≡◌, ℕ, ◌+◌, ◌<◌, List, ◌++◌, length, take, drop, Option, Some, None, Result, Ok, refl, sym, ap, subst, ◌∙◌, arith, length-append}
use Rattle.std.specs.Prelude.{Vec}
use Rattle.std.proofs.lemmas.List.{take_at, drop_at, take-append-drop}
use Rattle.keyed_seal.specs.Tag.{tag_of}
use Rattle.keyed_seal.proofs.Tags.{length-tag_of}
use Rattle.byte_fields.specs.Appends.{Appends, Pushes}
use Rattle.byte_fields.proofs.Pieces.{appended, pushes_then}
use Rattle.taos_wire.specs.Request.{IsSealed}
use Rattle.taos_wire.specs.Reply.{seal_of}

module _ (key bytes : List ℕ) (end : ℕ) (len : end + 32 ≡ length bytes) where
  -- the tag of the bytes before the last 32
  pub is_sealed : drop end bytes ≡ tag_of key (take end bytes) → IsSealed key bytes
  is_sealed is = record { text = take end bytes; whole = sym (take-append-drop end bytes) ∙ ap (λ (t : List ℕ). take end bytes ++ t) is }

  pub tag_behind : IsSealed key bytes → drop end bytes ≡ tag_of key (take end bytes)
  tag_behind is =
      let parts : length bytes ≡ length is.text + length (tag_of key is.text) = ap length is.whole ∙ length-append is.text (tag_of key is.text) in
      let place : length is.text ≡ end = omega (arith, parts, len, length-tag_of key is.text) in
      let front : take end bytes ≡ is.text = ap (take end) is.whole ∙ take_at is.text (tag_of key is.text) end place in
      let back : drop end bytes ≡ tag_of key is.text = ap (drop end) is.whole ∙ drop_at is.text (tag_of key is.text) end place in
      back ∙ ap (tag_of key) (sym front)

-- fewer bytes are not sealed
pub too_short : (key bytes : List ℕ) → length bytes < 32 → IsSealed key bytes → ⊥
too_short key bytes short is =
    let parts : length bytes ≡ length is.text + length (tag_of key is.text) = ap length is.whole ∙ length-append is.text (tag_of key is.text) in
    omega (arith, parts, short, length-tag_of key is.text)

-- a text that was written, and then the seal of it
pub sealed_pushes : {Z A B E F : Type 0} (seal : List ℕ → List ℕ) (old mid new : Vec ℕ Z) (text : List ℕ) (start : ℕ) (x : A) (r : Result B F) → start ≡ length old.items → Pushes {E = E} old mid text (Ok x) → Appends mid new (seal (drop start mid.items)) r
    → Pushes old new (text ++ seal text) r
sealed_pushes seal old mid new text start x r place first second =
    let behind : drop start mid.items ≡ text = ap (drop start) first.ok ∙ drop_at old.items text start (sym place) in
    pushes_then old mid new text (seal text) x r first (subst (λ (t : List ℕ). Pushes mid new (seal t) r) behind (appended mid new (seal (drop start mid.items)) r second))

-- the seal of a reply
pub length-seal_of : (key : Option (List ℕ)) (t : List ℕ) → length (seal_of key t) ≡ 32
length-seal_of (Some key) t = length-tag_of key t
length-seal_of None t = refl
