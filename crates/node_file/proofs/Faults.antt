-- Where an opening is refused: at one of its bytes or right after the last, and never for memory.
use Rattle.std.proofs.Common.{◌≡◌, ℕ, ◌≤◌, cond, leb, ltb, List, length, Ok, Err, sym, subst, arith, inl, inr}
use Rattle.prin_term.specs.declared.term.Anchor.{Anchor}
use Rattle.byte_fields.specs.Steps.{◌>>=◌, bytes_at, with_fault}
use Rattle.byte_fields.proofs.FieldLaws.{IsBytes}
use Rattle.byte_fields.proofs.Results.{bind_err, bind_ok, ok_is, err_is, chosen, chosen_err, with_fault_err}
use Rattle.byte_fields.specs.Formats.{ended, IsFaultIn}
use Rattle.sealed_cert.specs.Refusals.{opened}
use Rattle.stmt_codec.specs.Certificates.{Certificate}
use Rattle.byte_fields.specs.declared.fault.FormatFault.{FormatFault}
use Rattle.byte_fields.specs.declared.fault.FormatFault.TheVariants.{Malformed}
use Rattle.node_file.specs.declared.limits.TheConstants.{MAX_KEEP, MAX_LIMIT, MAX_ROOM}
use Rattle.object_core.specs.Objects.{ObjectPlan}
use Rattle.node_file.specs.Opening.{Opening, journal_room}
use Rattle.node_file.specs.OpeningReading.{mark_at, number_in, shards_at, head_at, new_channel_at, channel_at, channels_at, anchor_at}
use Rattle.node_file.specs.OpeningReading.{anchors_at, opened_in, common_at, commons_at, new_object_at, object_at, objects_at, fields_at, opening_of}
use Rattle.byte_fields.proofs.Staying.{Stays, stays_followed, stays_passing, stays_made, stays_counted}
use Rattle.byte_fields.proofs.FormatPlaces.{here, lacking, u8_stays, u16_stays, u32_stays, u64_stays, text_stays}
use Rattle.object_core.proofs.ListForms.{form_content, form_list}

module _ (bytes : List ℕ) (ok : IsBytes bytes) where
  -- ---- the fields before the lists

  mark_stays : Stays bytes (IsFaultIn bytes) (mark_at bytes)
  unfolding mark_at
  mark_stays = stays_followed (stays_passing _ Malformed (u8_stays bytes) (here bytes)) (λ _. stays_passing _ Malformed (u8_stays bytes) (here bytes))

  between_stays : (low high : ℕ) → Stays bytes (IsFaultIn bytes) (number_in low high bytes)
  unfolding number_in
  between_stays low high = stays_passing _ Malformed (u64_stays bytes) (here bytes)

  shards_stay : Stays bytes (IsFaultIn bytes) (shards_at bytes)
  unfolding shards_at
  shards_stay = stays_passing _ Malformed (u32_stays bytes) (here bytes)

  head_stays : Stays bytes (IsFaultIn bytes) (head_at bytes)
  unfolding head_at
  head_stays =
      stays_made _ (stays_followed mark_stays
      (λ _. stays_followed (u32_stays bytes)
      (λ _. stays_followed (text_stays bytes 32)
      (λ _. stays_followed shards_stay
      (λ _. stays_followed (between_stays 1 MAX_KEEP) (λ _. between_stays 1 MAX_LIMIT))))))

  -- ---- channels and anchors

  channel_stays : (before : List (ℕ × List ℕ)) → Stays bytes (IsFaultIn bytes) (channel_at bytes before)
  unfolding channel_at new_channel_at
  channel_stays before = stays_followed (stays_passing _ Malformed (u32_stays bytes) (here bytes)) (λ _. text_stays bytes 32)

  channels_stay : Stays bytes (IsFaultIn bytes) (channels_at bytes)
  unfolding channels_at
  channels_stay = stays_counted _ Malformed (u16_stays bytes) (here bytes) channel_stays

  anchor_stays : (before : List Anchor) → Stays bytes (IsFaultIn bytes) (anchor_at bytes before)
  unfolding anchor_at
  anchor_stays before = stays_passing _ Malformed (stays_made _ (stays_followed (u32_stays bytes) (λ _. u32_stays bytes))) (here bytes)

  anchors_stay : Stays bytes (IsFaultIn bytes) (anchors_at bytes)
  unfolding anchors_at
  anchors_stay = stays_counted _ Malformed (u8_stays bytes) (here bytes) anchor_stays

  -- ---- the certificates held in common

  opened_stays : (relay_key : List ℕ) (count : ℕ) → Stays bytes (IsFaultIn bytes) (opened_in bytes relay_key count)
  unfolding opened_in
  opened_stays relay_key count = record {
    ends = λ at x le e.
        let text = bind_ok (bytes_at (ended bytes) count bytes at) (λ text. with_fault (λ _. Malformed at) (opened relay_key text.0) >>= λ c. Ok (c, text.1)) x e in
        let c = bind_ok (with_fault (λ _. Malformed at) (opened relay_key text.0.0)) (λ c. Ok (c, text.0.1)) x text.2 in
        let whole : Certificate × ℕ = (c.0, text.0.1) in
        subst (λ (y : Certificate × ℕ). y.1 ≤ length bytes) (ok_is FormatFault whole x c.2) ((text_stays bytes count).ends at text.0 le text.1);
    refuses = λ at f le e.
        elim (bind_err (bytes_at (ended bytes) count bytes at) (λ text. with_fault (λ _. Malformed at) (opened relay_key text.0) >>= λ c. Ok (c, text.1)) f e) [
          | inl none ↦ (text_stays bytes count).refuses at f le none
          | inr text ↦ elim (bind_err (with_fault (λ _. Malformed at) (opened relay_key text.0.0)) (λ c. Ok (c, text.0.1)) f text.2) [
            | inl refused ↦
                let g = with_fault_err (λ _. Malformed at) (opened relay_key text.0.0) f refused in
                subst (IsFaultIn bytes) (sym g.2) le
            | inr c ↦ absurd (cc (c.2))
          ]
        ];
  }

  common_stays : (relay_key : List ℕ) (before : List Certificate) → Stays bytes (IsFaultIn bytes) (common_at bytes relay_key before)
  unfolding common_at
  common_stays relay_key before = stays_made _ (stays_followed (u16_stays bytes) (λ count. stays_passing _ Malformed (opened_stays relay_key count) (here bytes)))

  commons_stay : (relay_key : List ℕ) → Stays bytes (IsFaultIn bytes) (commons_at bytes relay_key)
  unfolding commons_at
  commons_stay relay_key = stays_counted _ Malformed (u8_stays bytes) (here bytes) (common_stays relay_key)

  -- ---- objects

  object_stays : (before : List ObjectPlan) → Stays bytes (IsFaultIn bytes) (object_at bytes before)
  unfolding object_at new_object_at
  object_stays before = stays_made _ (stays_followed (stays_passing _ Malformed (u32_stays bytes) (here bytes)) (λ _. stays_followed (form_content.stays bytes ok) (λ _. form_list.stays bytes ok)))

  objects_stay : Stays bytes (IsFaultIn bytes) (objects_at bytes)
  unfolding objects_at
  objects_stay = stays_counted _ Malformed (u16_stays bytes) (here bytes) object_stays

  -- ---- the whole

  fields_stay : Stays bytes (IsFaultIn bytes) (fields_at bytes)
  unfolding fields_at
  fields_stay =
      stays_made _ (stays_followed head_stays
      (λ head. stays_followed channels_stay
      (λ _. stays_followed anchors_stay
      (λ _. stays_followed (commons_stay head.relay_key) (λ _. objects_stay)))))

  pub opening_refused : (f : FormatFault) → opening_of bytes ≡ Err f → IsFaultIn bytes f
  unfolding opening_of
  opening_refused f e =
      elim (bind_err (fields_at bytes 0) (λ x. cond (ltb x.1 (length bytes)) (Err (Malformed x.1)) (cond (leb (journal_room x.0) MAX_ROOM) (Ok x.0) (Err (ended bytes)))) f e) [
        | inl none ↦ fields_stay.refuses 0 f (omega arith) none
        | inr x ↦ elim (chosen (ltb x.0.1 (length bytes)) (Err (Malformed x.0.1)) (cond (leb (journal_room x.0.0) MAX_ROOM) (Ok x.0.0) (Err (ended bytes))) (Err f) x.2) [
          | inl left ↦ subst (IsFaultIn bytes) (err_is Opening (Malformed x.0.1) f left.1) (fields_stay.ends 0 x.0 (omega arith) x.1)
          | inr rest ↦ subst (IsFaultIn bytes) (sym (chosen_err (leb (journal_room x.0.0) MAX_ROOM) (ended bytes) f x.0.0 rest.1).1) (lacking bytes)
        ]
      ]
