-- The fields of an opening, its channels and its anchors: what is read is spelled so, and the other way.
use Rattle.std.proofs.Common.{◌≡◌, ◌≢◌, ℕ, ◌^◌, ◌<◌, ◌≤◌, Bool, true, false, eqb, ◌&&◌, List, [], ◌∷◌, ◌++◌, length, refl, ap, ◌∙◌, arith}
use Rattle.std.specs.Prelude.{All, AllPairs}
use Rattle.std.specs.List.{flat_map}
use Rattle.std.specs.Int.{w16, w32, w64, to_be_bytes}
use Rattle.std.proofs.lemmas.Bool.{eqb-true, eqb-false}
use Rattle.std.proofs.lemmas.Bool.Decides.{nat_tests}
use Rattle.std.proofs.lemmas.List.Elements.{All-weaker}
use Rattle.prin_term.specs.declared.term.Anchor.{Anchor}
use Rattle.byte_fields.specs.Formats.{ended, is_within}
use Rattle.byte_fields.specs.Steps.{bytes_at}
use Rattle.byte_fields.proofs.FormatFields.{reads_u8, reads_u16, reads_u32, reads_u64, within_is, is_within-true}
use Rattle.byte_fields.specs.declared.fault.FormatFault.TheVariants.{Malformed}
use Rattle.node_file.specs.declared.opening.head.Head.{Head}
use Rattle.node_file.specs.Opening.{channel_bytes, anchor_bytes, IsKey, IsChannel, IsAnchor}
use Rattle.byte_fields.specs.Readers.{is_new}
use Rattle.node_file.specs.OpeningReading.{same_anchor, mark_at, number_in, shards_at, head_at, new_channel_at, channel_at, channels_at, anchor_at, anchors_at}
use Rattle.byte_fields.proofs.ReaderLaws.{Reads, reads_bytes, reads_followed, reads_passing, reads_made, reads_as, reads_counted, is_new-All, is_new-from_All}

-- the bytes of the fields before the lists
abbrev pub head_bytes : Head → List ℕ
head_bytes h = (0 ∷ 1 ∷ []) ++ (to_be_bytes w32 h.node ++ (h.relay_key ++ (to_be_bytes w32 h.shards ++ (to_be_bytes w64 h.keep ++ to_be_bytes w64 h.limit))))

pub record IsHead (h : Head) : Type 0 where
  pub node : h.node < 2 ^ 32
  pub relay_key : IsKey h.relay_key
  pub shards : (1 ≤ h.shards) × (h.shards ≤ 64)
  pub keep : (1 ≤ h.keep) × (h.keep ≤ 31536000)
  pub limit : (1 ≤ h.limit) × (h.limit ≤ 1048576)

pub apart : (a b : Anchor) → same_anchor a b ≡ false → b ≢ a
apart a b e same =
    let keys : b.key ≡ a.key = ap (λ (x : Anchor). x.key) same in
    let names : b.name ≡ a.name = ap (λ (x : Anchor). x.name) same in
    grind (arith, nat_tests, keys, names, e)

pub same_anchor-false : (a b : Anchor) → b ≢ a → same_anchor a b ≡ false
same_anchor-false a b differ = by_tests (eqb b.key a.key) (eqb b.name a.name) refl refl
  where
    by_tests : (k n : Bool) → eqb b.key a.key ≡ k → eqb b.name a.name ≡ n → (k && n) ≡ false
    by_tests false n key name = refl
    by_tests true false key name = refl
    by_tests true true key name =
        let keys : b.key ≡ a.key = eqb-true _ _ key in
        let names : b.name ≡ a.name = eqb-true _ _ name in
        let anchor : ℕ → ℕ → Anchor = λ k n. record { key = k; name = n } in
        let same : b ≡ a = ap (λ k. anchor k b.name) keys ∙ ap (λ n. anchor a.key n) names in
        absurd (differ same)

module _ (bytes : List ℕ) where
  -- ---- the fields before the lists

  pub reads_key : Reads bytes (bytes_at (ended bytes) 32 bytes) (λ text. text) IsKey
  reads_key = reads_bytes (ended bytes) 32 bytes

  pub reads_mark : Reads bytes (mark_at bytes) (λ p. 0 ∷ 1 ∷ []) (λ p. (p.0 ≡ 0) × (p.1 ≡ 1))
  unfolding mark_at
  reads_mark =
      reads_as (λ (p : ℕ × ℕ). 0 ∷ 1 ∷ []) (λ (p : ℕ × ℕ). (p.0 ≡ 0) × (p.1 ≡ 1))
      (reads_followed (reads_passing (λ b. eqb b 0) Malformed (reads_u8 bytes)) (λ _ _. reads_passing (λ b. eqb b 1) Malformed (reads_u8 bytes)))
      (λ p is.
      let first : p.0 ≡ 0 = eqb-true _ _ is.0.1 in
      let second : p.1 ≡ 1 = eqb-true _ _ is.1.1 in
      ((first, second), cc))
      (λ p is. (((omega (arith, is.0), grind (arith, nat_tests, is.0)), (omega (arith, is.1), grind (arith, nat_tests, is.1)))))

  pub reads_in : (low high : ℕ) → high < 2 ^ 64 → Reads bytes (number_in low high bytes) (to_be_bytes w64) (λ n. (low ≤ n) × (n ≤ high))
  unfolding number_in
  reads_in low high lt =
      reads_as (to_be_bytes w64) (λ n. (low ≤ n) × (n ≤ high)) (reads_passing (is_within low high) Malformed (reads_u64 bytes))
      (λ n is. (within_is low high n is.1, refl))
      (λ n is. (omega (arith, is.1), is_within-true low high n is.0 is.1))

  pub reads_shards : Reads bytes (shards_at bytes) (to_be_bytes w32) (λ n. (1 ≤ n) × (n ≤ 64))
  unfolding shards_at
  reads_shards =
      reads_as (to_be_bytes w32) (λ n. (1 ≤ n) × (n ≤ 64)) (reads_passing (is_within 1 64) Malformed (reads_u32 bytes))
      (λ n is. (within_is 1 64 n is.1, refl))
      (λ n is. (omega (arith, is.1), is_within-true 1 64 n is.0 is.1))

  pub reads_head : Reads bytes (head_at bytes) head_bytes IsHead
  unfolding head_at
  reads_head =
      reads_made (λ x. record { node = x.1.0; relay_key = x.1.1.0; shards = x.1.1.1.0; keep = x.1.1.1.1.0; limit = x.1.1.1.1.1 })
      (λ (h : Head). ((0, 1), (h.node, (h.relay_key, (h.shards, (h.keep, h.limit))))))
      head_bytes IsHead
      (reads_followed reads_mark (λ _ _. reads_followed (reads_u32 bytes) (λ _ _. reads_followed reads_key (λ _ _. reads_followed reads_shards
      (λ _ _. reads_followed (reads_in 1 31536000 (omega arith)) (λ _ _. reads_in 1 1048576 (omega arith)))))))
      (λ x is. (record { node = is.1.0; relay_key = is.1.1.0; shards = is.1.1.1.0; keep = is.1.1.1.1.0; limit = is.1.1.1.1.1 }, refl))
      (λ h is. (((refl, refl), (is.node, (is.relay_key, (is.shards, (is.keep, is.limit))))), refl, refl))

  -- ---- channels

  pub reads_channel : (before : List (ℕ × List ℕ)) → Reads bytes (channel_at bytes before) channel_bytes (λ c. IsChannel c × All (λ b. b.0 ≢ c.0) before)
  unfolding channel_at new_channel_at
  reads_channel before =
      reads_as channel_bytes (λ c. IsChannel c × All (λ b. b.0 ≢ c.0) before)
      (reads_followed (reads_passing (λ n. is_new (λ (c : ℕ × List ℕ). eqb c.0 n) before) Malformed (reads_u32 bytes)) (λ _ _. reads_key))
      (λ c is. (((is.0.0, is.1), All-weaker (λ b. eqb b.0 c.0 ≡ false) (λ b. b.0 ≢ c.0) (λ b e. eqb-false _ _ e) before (is_new-All (λ (b : ℕ × List ℕ). eqb b.0 c.0) before is.0.1)), refl))
      (λ c is. ((is.0.0, is_new-from_All (λ (b : ℕ × List ℕ). eqb b.0 c.0) before (All-weaker (λ b. b.0 ≢ c.0) (λ b. eqb b.0 c.0 ≡ false) (λ b e. grind (arith, nat_tests, e)) before is.1)), is.0.1))

  pub reads_channels : Reads bytes (channels_at bytes) (λ xs. to_be_bytes w16 (length xs) ++ flat_map channel_bytes xs) (λ xs. (length xs ≤ 1024) × All IsChannel xs × AllPairs (λ c d. c.0 ≢ d.0) xs)
  unfolding channels_at
  reads_channels = reads_counted 1024 (2 ^ 16) Malformed channel_bytes IsChannel (λ c d. c.0 ≢ d.0) (omega arith) (reads_u16 bytes) reads_channel

  -- ---- anchors

  pub reads_anchor : (before : List Anchor) → Reads bytes (anchor_at bytes before) anchor_bytes (λ a. IsAnchor a × All (λ b. b ≢ a) before)
  unfolding anchor_at
  reads_anchor before =
      reads_as anchor_bytes (λ a. IsAnchor a × All (λ b. b ≢ a) before)
      (reads_passing (λ a. is_new (same_anchor a) before) Malformed
      (reads_made (λ x. record { key = x.0; name = x.1 }) (λ (a : Anchor). (a.key, a.name)) anchor_bytes IsAnchor
      (reads_followed (reads_u32 bytes) (λ _ _. (reads_u32 bytes)))
      (λ x is. (is, refl)) (λ a is. (is, refl, refl))))
      (λ a is. ((is.0, All-weaker (λ b. same_anchor a b ≡ false) (λ b. b ≢ a) (λ b e. apart a b e) before (is_new-All (same_anchor a) before is.1)), refl))
      (λ a is. (is.0, is_new-from_All (same_anchor a) before (All-weaker (λ b. b ≢ a) (λ b. same_anchor a b ≡ false) (λ b e. same_anchor-false a b e) before is.1)))

  pub reads_anchors : Reads bytes (anchors_at bytes) (λ xs. length xs ∷ flat_map anchor_bytes xs) (λ xs. (length xs ≤ 64) × All IsAnchor xs × AllPairs (λ a b. a ≢ b) xs)
  unfolding anchors_at
  reads_anchors = reads_counted 64 256 Malformed anchor_bytes IsAnchor (λ a b. a ≢ b) (omega arith) (reads_u8 bytes) reads_anchor
