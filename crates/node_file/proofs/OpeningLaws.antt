-- What is read as an opening is spelled so, and what is spelled so is read.
use Rattle.std.proofs.Common.{◌≡◌, ◌≢◌, ℕ, ◌+◌, ◌^◌, ◌<◌, ◌≤◌, true, false, cond, leb, ltb, List, [], ◌∷◌, ◌++◌, length, drop, Ok, Err, refl, sym, ap, subst, ◌∙◌, append_assoc, append-nil, arith, inl, inr}
use Rattle.std.specs.Prelude.{All, AllPairs}
use Rattle.std.specs.List.{flat_map}
use Rattle.std.specs.Int.{w16, w32, w64, to_be_bytes}
use Rattle.std.proofs.lemmas.Bool.{le-leb, leb-true, ltb-false, le-ltb}
use Rattle.std.proofs.lemmas.List.{drop_all}
use Rattle.byte_fields.proofs.Results.{bind_ok, ok_is, chosen}
use Rattle.byte_fields.proofs.FieldLaws.{IsBytes}
use Rattle.byte_fields.specs.declared.fault.FormatFault.{FormatFault}
use Rattle.byte_fields.specs.declared.fault.FormatFault.TheVariants.{Malformed}
use Rattle.node_file.specs.declared.opening.head.Head.{Head}
use Rattle.prin_term.specs.declared.term.Anchor.{Anchor}
use Rattle.stmt_codec.specs.Certificates.{Certificate}
use Rattle.object_core.specs.Objects.{ObjectPlan}
use Rattle.node_file.specs.Opening.{Opening, opening_bytes, channel_bytes, anchor_bytes, common_bytes, object_bytes, IsKey, IsChannel, IsAnchor, IsCommon, FitsObject, journal_room, FitsOpening, Spells, no_texts}
use Rattle.byte_fields.specs.Formats.{ended}
use Rattle.node_file.proofs.ByNumber.{no_texts_fit}
use Rattle.prin_text.specs.Labels.{AreLabels, Labels}
use Rattle.node_file.specs.OpeningReading.{fields_at, opening_of}
use Rattle.node_file.proofs.OpeningFields.{head_bytes, reads_head, reads_channels, reads_anchors}
use Rattle.node_file.proofs.OpeningCommons.{reads_followed_by, reads_commons}
use Rattle.node_file.proofs.OpeningObjects.{reads_objects}
use Rattle.byte_fields.proofs.ReaderLaws.{Reads, reads_followed, reads_made}

-- an opening within the limits, but for the room of its journals
record HasFields (o : Opening) : Type 0 where
  node : o.node < 2 ^ 32
  relay_key : IsKey o.relay_key
  shards : (1 ≤ o.shards) × (o.shards ≤ 64)
  keep : (1 ≤ o.keep) × (o.keep ≤ 31536000)
  limit : (1 ≤ o.limit) × (o.limit ≤ 1048576)
  names : o.names ≡ no_texts
  channels : (length o.channels ≤ 1024) × All IsChannel o.channels × AllPairs (λ c d. c.0 ≢ d.0) o.channels
  anchors : (length o.anchors ≤ 64) × All IsAnchor o.anchors × AllPairs (λ a b. a ≢ b) o.anchors
  commons : (length o.commons ≤ 32) × All IsCommon o.commons × AllPairs (λ c d. c ≢ d) o.commons
  objects : (length o.objects ≤ 256) × All FitsObject o.objects × AllPairs (λ p q. p.number ≢ q.number) o.objects

abbrev head_of : Opening → Head
head_of o = record { node = o.node; relay_key = o.relay_key; shards = o.shards; keep = o.keep; limit = o.limit }

-- the bytes behind those of the head
abbrev rest_bytes : List ℕ → List (ℕ × List ℕ) × (List Anchor × (List Certificate × List ObjectPlan)) → List ℕ
rest_bytes relay_key x =
    (to_be_bytes w16 (length x.0) ++ flat_map channel_bytes x.0) ++ ((length x.1.0 ∷ flat_map anchor_bytes x.1.0) ++ ((length x.1.1.0 ∷ flat_map (common_bytes relay_key) x.1.1.0) ++ (to_be_bytes w16 (length x.1.1.1) ++ flat_map object_bytes x.1.1.1)))

-- its bytes, from the left and in fields
in_fields : (mark node key shards keep limit cc cs an co oc os : List ℕ)
    → (mark ++ (node ++ (key ++ (shards ++ (keep ++ limit))))) ++ ((cc ++ cs) ++ (an ++ (co ++ (oc ++ os)))) ≡ mark ++ node ++ key ++ shards ++ keep ++ limit ++ cc ++ cs ++ an ++ co ++ oc ++ os
in_fields mark node key shards keep limit cc cs an co oc os = simp append_assoc

fields_bytes : (o : Opening) → head_bytes (head_of o) ++ rest_bytes o.relay_key (o.channels, (o.anchors, (o.commons, o.objects))) ≡ opening_bytes o
fields_bytes o =
    in_fields (0 ∷ 1 ∷ []) (to_be_bytes w32 o.node) o.relay_key (to_be_bytes w32 o.shards) (to_be_bytes w64 o.keep) (to_be_bytes w64 o.limit)
    (to_be_bytes w16 (length o.channels)) (flat_map channel_bytes o.channels) (length o.anchors ∷ flat_map anchor_bytes o.anchors)
    (length o.commons ∷ flat_map (common_bytes o.relay_key) o.commons) (to_be_bytes w16 (length o.objects)) (flat_map object_bytes o.objects)

fits : (o : Opening) → HasFields o → journal_room o ≤ 8388608 → FitsOpening o
fits o is room = record {
  node = is.node;
  relay_key = is.relay_key;
  shards = is.shards;
  keep = is.keep;
  limit = is.limit;
  names = subst AreLabels (sym is.names) no_texts_fit;
  few_channels = is.channels.0;
  channels = is.channels.1;
  each_channel_once = is.channels.2;
  few_anchors = is.anchors.0;
  anchors = is.anchors.1;
  each_anchor_once = is.anchors.2;
  few_commons = is.commons.0;
  commons = is.commons.1;
  each_common_once = is.commons.2;
  few_objects = is.objects.0;
  objects = is.objects.1;
  each_object_once = is.objects.2;
  room = room;
}

fields_of : (o : Opening) → FitsOpening o → o.names ≡ no_texts → HasFields o
fields_of o is none = record {
  node = is.node;
  relay_key = is.relay_key;
  shards = is.shards;
  keep = is.keep;
  limit = is.limit;
  names = none;
  channels = (is.few_channels, is.channels, is.each_channel_once);
  anchors = (is.few_anchors, is.anchors, is.each_anchor_once);
  commons = (is.few_commons, is.commons, is.each_common_once);
  objects = (is.few_objects, is.objects, is.each_object_once);
}

without_texts : (o : Opening) → o.names ≡ no_texts
    → (let p : Opening = record { node = o.node; relay_key = o.relay_key; shards = o.shards; keep = o.keep; limit = o.limit; names = no_texts; channels = o.channels; anchors = o.anchors; commons = o.commons; objects = o.objects } in p) ≡ o
without_texts o none =
    let with : Labels → Opening = λ names. record { node = o.node; relay_key = o.relay_key; shards = o.shards; keep = o.keep; limit = o.limit; names = names; channels = o.channels; anchors = o.anchors; commons = o.commons; objects = o.objects } in
    ap with (sym none)

module _ (bytes : List ℕ) where
  reads_fields : Reads bytes (fields_at bytes) opening_bytes HasFields
  unfolding fields_at
  reads_fields =
      reads_made (λ x. record { node = x.0.node; relay_key = x.0.relay_key; shards = x.0.shards; keep = x.0.keep; limit = x.0.limit; names = no_texts; channels = x.1.0; anchors = x.1.1.0; commons = x.1.1.1.0; objects = x.1.1.1.1 })
      (λ (o : Opening). (head_of o, (o.channels, (o.anchors, (o.commons, o.objects))))) opening_bytes HasFields
      (reads_followed_by (λ h rest. rest_bytes h.relay_key rest) (reads_head bytes) (λ h _. reads_followed (reads_channels bytes) (λ _ _. reads_followed (reads_anchors bytes) (λ _ _. reads_followed (reads_commons bytes h.relay_key) (λ _ _. reads_objects bytes)))))
      (λ x is.
      let o : Opening = record { node = x.0.node; relay_key = x.0.relay_key; shards = x.0.shards; keep = x.0.keep; limit = x.0.limit; names = no_texts; channels = x.1.0; anchors = x.1.1.0; commons = x.1.1.1.0; objects = x.1.1.1.1 } in
      (record { node = is.0.node; relay_key = is.0.relay_key; shards = is.0.shards; keep = is.0.keep; limit = is.0.limit; names = refl; channels = is.1.0; anchors = is.1.1.0; commons = is.1.1.1.0; objects = is.1.1.1.1 }, fields_bytes o))
      (λ o is. (
        (record { node = is.node; relay_key = is.relay_key; shards = is.shards; keep = is.keep; limit = is.limit }, (is.channels, (is.anchors, (is.commons, is.objects)))),
        sym (fields_bytes o),
        without_texts o is.names,
      ))

  -- what is read is spelled
  pub opening_takes : IsBytes bytes → (o : Opening) → opening_of bytes ≡ Ok o → Spells o bytes
  unfolding opening_of
  opening_takes ok o e =
      let x = bind_ok (fields_at bytes 0) (λ x. cond (ltb x.1 (length bytes)) (Err (Malformed x.1)) (cond (leb (journal_room x.0) 8388608) (Ok x.0) (Err (ended bytes)))) o e in
      let t = reads_fields.takes ok 0 x.0 (omega arith) x.1 in
      elim (chosen (ltb x.0.1 (length bytes)) (Err (Malformed x.0.1)) (cond (leb (journal_room x.0.0) 8388608) (Ok x.0.0) (Err (ended bytes))) (Ok o) x.2) [
        | inl more ↦ absurd (cc (more.1))
        | inr all ↦ elim (chosen (leb (journal_room x.0.0) 8388608) (Ok x.0.0) (Err (ended bytes)) (Ok o) all.1) [
          | inl room ↦
              let same : x.0.0 ≡ o = ok_is FormatFault x.0.0 o room.1 in
              let past : length bytes ≤ x.0.1 = ltb-false _ _ all.0 in
              let nothing : drop x.0.1 bytes ≡ [] = drop_all x.0.1 bytes past in
              let whole : bytes ≡ opening_bytes x.0.0 = t.0.parts ∙ ap (λ (l : List ℕ). opening_bytes x.0.0 ++ l) nothing ∙ append-nil (opening_bytes x.0.0) in
              subst (λ (o : Opening). Spells o bytes) same (fits x.0.0 t.1 (leb-true _ _ room.0), whole, t.1.names)
          | inr full ↦ absurd (cc (full.1))
        ]
      ]

  -- what is spelled is read
  pub opening_again : (o : Opening) → Spells o bytes → opening_of bytes ≡ Ok o
  unfolding opening_of
  opening_again o is =
      let text : drop 0 bytes ≡ opening_bytes o ++ [] = is.1 ∙ sym (append-nil (opening_bytes o)) in
      let read = reads_fields.again 0 o [] (fields_of o is.0 is.2) text in
      let len : length bytes ≡ length (opening_bytes o) = ap length is.1 in
      let end : ltb (0 + length (opening_bytes o)) (length bytes) ≡ false = le-ltb _ _ (omega (arith, len)) in
      let room : leb (journal_room o) 8388608 ≡ true = le-leb _ _ is.0.room in
      rw (read, end, room) refl

-- bytes spell one opening at most
pub spelled_once : (o p : Opening) (bytes : List ℕ) → Spells o bytes → Spells p bytes → o ≡ p
spelled_once o p bytes is_o is_p = ok_is FormatFault o p (sym (opening_again bytes o is_o) ∙ opening_again bytes p is_p)
