-- The bytes that begin a term, one by one, and the compounds of two by their kind.
use Rattle.std.proofs.Common.{◌≡◌, ℕ, zero, suc, ◌+◌, ◌<◌, max, true, ltb, ◌∷◌, ◌++◌, refl, arith}
use Rattle.std.proofs.lemmas.Bool.{ltb-true, and_parts}
use Rattle.prin_term.specs.Principal.{Principal, node_count, depth, spelling, HasSpelling, is_tag}
use Rattle.prin_term.specs.Kind.{Kind, And, Quoting, For, pair, tag_of}

pub data IsHead (tag : ℕ) : Type 0 where
  is_key : tag ≡ 1 → IsHead tag
  is_name : tag ≡ 2 → IsHead tag
  is_pair : (kind : Kind) → tag ≡ tag_of kind → IsHead tag
  is_role : tag ≡ 5 → IsHead tag

pub heads : (tag : ℕ) → is_tag tag ≡ true → IsHead tag
heads zero e = absurd cc
heads (suc zero) e = is_key refl
heads (suc (suc zero)) e = is_name refl
heads (suc (suc (suc zero))) e = is_pair And refl
heads (suc (suc (suc (suc zero)))) e = is_pair Quoting refl
heads (suc (suc (suc (suc (suc zero))))) e = is_role refl
heads (suc (suc (suc (suc (suc (suc zero)))))) e = is_pair For refl
heads (suc (suc (suc (suc (suc (suc (suc n))))))) e =
    let parts = and_parts (ltb 0 (suc (suc (suc (suc (suc (suc (suc n)))))))) (ltb (suc (suc (suc (suc (suc (suc (suc n))))))) 7) e in
    let below : suc (suc (suc (suc (suc (suc (suc n)))))) < 7 = ltb-true _ _ parts.1 in
    absurd (omega arith)

pub tag_is_tag : (kind : Kind) → is_tag (tag_of kind) ≡ true
tag_is_tag And = refl
tag_is_tag Quoting = refl
tag_is_tag For = refl

-- ---- a compound of two, whichever it is

pub spelling-pair : (kind : Kind) (a b : Principal) → spelling (pair kind a b) ≡ tag_of kind ∷ (spelling a ++ spelling b)
spelling-pair And a b = refl
spelling-pair Quoting a b = refl
spelling-pair For a b = refl

pub node_count-pair : (kind : Kind) (a b : Principal) → node_count (pair kind a b) ≡ 1 + (node_count a + node_count b)
node_count-pair And a b = refl
node_count-pair Quoting a b = refl
node_count-pair For a b = refl

pub depth-pair : (kind : Kind) (a b : Principal) → depth (pair kind a b) ≡ 1 + max (depth a) (depth b)
depth-pair And a b = refl
depth-pair Quoting a b = refl
depth-pair For a b = refl

pub pair_has : (kind : Kind) (a b : Principal) → HasSpelling a → HasSpelling b → HasSpelling (pair kind a b)
pair_has And a b x y = (x, y)
pair_has Quoting a b x y = (x, y)
pair_has For a b x y = (x, y)
