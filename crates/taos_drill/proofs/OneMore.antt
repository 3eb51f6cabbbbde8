-- The channels and the objects of the opening, one at a time.
use Rattle.std.proofs.Common.{◌≡◌, ℕ, ◌+◌, ◌<◌, List, [], ◌∷◌, ◌++◌, length, map, None, refl, sym, ap, subst, ◌∙◌, append_assoc, arith}
use Rattle.std.specs.List.{range_with_len}
use Rattle.std.proofs.lemmas.List.FromFn.{map-range_with_len_more}
use Rattle.keyed_seal.specs.Keys.{AddsKey, Keys, key_of}
use Rattle.object_core.specs.Objects.{ObjectPlan}
use Rattle.prin_term.specs.View.{Grant}
use Rattle.prin_text.specs.Held.{HoldsKeys}
use Rattle.prin_text.proofs.KeyLookups.{adds_key}
use Rattle.taos_drill.specs.Opened.{drill_channels, empty_object}
use Rattle.taos_drill.specs.Words.{key_at}

-- a table without keys holds no channel
pub no_channels : (table : Keys) (seed : ℕ) → table.entries ≡ [] → HoldsKeys table (drill_channels seed 0)
no_channels table seed is = record { each = λ n. ap (λ l. key_of l n) is; count = ap length is }

module _ (old new : Keys) (lane : ℕ) (key : List ℕ) (adds : AddsKey old new (lane + 1) key) where
  -- the channel of a lane more
  pub channel_more : (seed : ℕ) → HoldsKeys old (drill_channels seed lane) → key_of old.entries (lane + 1) ≡ None → key ≡ key_at seed (lane + 1) → HoldsKeys new (drill_channels seed (lane + 1))
  channel_more seed held is_new is =
      let channel : ℕ → ℕ × List ℕ = λ n. (n, key_at seed n) in
      let one : 1 + lane ≡ lane + 1 = omega arith in
      let more : drill_channels seed (lane + 1) ≡ drill_channels seed lane ++ (lane + 1, key) ∷ [] =
      map-range_with_len_more channel 1 lane (lane + 1) one ∙ ap (λ k. drill_channels seed lane ++ (lane + 1, k) ∷ []) (sym is)
      in
      subst (HoldsKeys new) (sym more) (adds_key old new (drill_channels seed lane) (lane + 1) key held is_new adds)

  -- greater numbers are still free
  pub channels_above : ((n : ℕ) → lane < n → key_of old.entries n ≡ None) → (n : ℕ) → lane + 1 < n → key_of new.entries n ≡ None
  channels_above free n above = adds.other_keys n (omega (arith, above)) ∙ free n (omega (arith, above))

-- an object more
pub object_more : (list : List Grant) (first lane : ℕ) (before old new : List ObjectPlan) (p : ObjectPlan) → p ≡ empty_object list (first + lane)
    → old ≡ before ++ map (empty_object list) (range_with_len first lane) → new ≡ old ++ p ∷ [] → new ≡ before ++ map (empty_object list) (range_with_len first (lane + 1))
object_more list first lane before old new p is so_far pushed =
    let row = λ (n : ℕ). map (empty_object list) (range_with_len first n) in
    let more : row (lane + 1) ≡ row lane ++ p ∷ [] =
    map-range_with_len_more (empty_object list) first lane (first + lane) refl ∙ ap (λ q. row lane ++ q ∷ []) (sym is)
    in
    pushed ∙ ap (λ (l : List ObjectPlan). l ++ p ∷ []) so_far ∙ append_assoc before (row lane) (p ∷ []) ∙ ap (λ (l : List ObjectPlan). before ++ l) (sym more)
