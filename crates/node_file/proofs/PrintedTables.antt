-- The printed lines of texts, of channels, of anchors and of certificates in common are taken.
use Rattle.std.proofs.Common.{◌≡◌, ◌≢◌, ℕ, ◌<◌, ◌≤◌, Bool, true, false, cond, eqb, leb, List, [], ◌∷◌, ◌++◌, length, map, drop, Option, None, Some, Ok, refl, sym, ap, subst, ◌∙◌, arith, inl, inr}
use Rattle.std.specs.Prelude.{All, AllPairs, codes}
use Rattle.std.specs.Fmt.{decimal}
use Rattle.std.proofs.lemmas.Bool.{false≢true}
use Rattle.std.proofs.lemmas.Bool.Decides.{nat_tests}
use Rattle.std.proofs.lemmas.List.Elements.{All-weaker}
use Rattle.hex.specs.Hex.{encode_lower}
use Rattle.keyed_seal.specs.Keys.{Entries, key_of}
use Rattle.prin_term.specs.Principal.{Name}
use Rattle.byte_fields.specs.Readers.{is_new}
use Rattle.byte_fields.specs.Steps.{◌>>=◌, with_fault, with_value}
use Rattle.prin_term.specs.declared.term.Anchor.{Anchor}
use Rattle.byte_fields.proofs.ReaderLaws.{AllPairs-before, is_new-from_All}
use Rattle.prin_text.specs.Labels.{AreLabels, IsRow, IsTable, Labels, Rows, is_label, number_of, text_of}
use Rattle.prin_text.specs.Meaning.{IsNamed}
use Rattle.prin_text.specs.Printing.{named}
use Rattle.prin_text.specs.Words.{begins}
use Rattle.prin_text.specs.declared.limits.TheConstants.{MAX_NAMES, MAX_ROLES}
use Rattle.prin_text.proofs.Printed.{proper-printing}
use Rattle.prin_text.proofs.Wording.{begins_true, name_is_no_label}
use Rattle.sealed_cert.specs.Refusals.{opened}
use Rattle.sealed_cert.specs.Seals.{sealed}
use Rattle.sealed_cert.proofs.Opened.{opened_again}
use Rattle.sealed_cert.proofs.SealedBytes.{relayed_bytes}
use Rattle.stmt_codec.specs.Certificates.{Certificate}
use Rattle.stmt_codec.specs.Equality.{same_certificate}
use Rattle.stmt_codec.proofs.Equal.{same_certificate-false}
use Rattle.prin_text.specs.declared.lines.fault.FileCause.TheVariants as causes
use Rattle.prin_text.specs.declared.lines.fault.FileCause.TheVariants.{Limit, Text, Twice, UnknownName}
use Rattle.node_file.specs.declared.limits.TheConstants.{MAX_ANCHORS, MAX_CHANNELS, MAX_COMMONS}
use Rattle.node_file.specs.declared.node_text.kind.LineKind.TheVariants as kinds
use Rattle.prin_text.specs.Fields.{number_up_to, numbered, some_or}
use Rattle.prin_text.specs.FileLines.{key_cause, keys_with, text_cause, texts_with, unless}
use Rattle.node_file.specs.FilePrinting.{anchor_line, bytes_line, common_line, text_line}
use Rattle.prin_text.specs.Lines.{is_plain}
use Rattle.node_file.specs.NodeFile.{Draft, anchors_in, channels_in, commons_in, names_in, roles_in}
use Rattle.node_file.specs.NodeLines.{anchor_said, anchors_and, anchors_with, commons_and, commons_of, commons_with, name_said}
use Rattle.node_file.specs.Opening.{IsAnchor, IsChannel, IsCommon}
use Rattle.node_file.specs.OpeningReading.{same_anchor}
use Rattle.node_file.proofs.OpeningFields.{same_anchor-false}
use Rattle.node_file.proofs.PrintedFields.{decimal_word, digits_again, hex_word, key_word, keyed_again, label_word, number_again, numbered_again, tail_plain, word_append}
use Rattle.node_file.proofs.PrintedParts.{each_taken, fewer, key_is_new, number_is_new, text_is_new, this_one}
use Rattle.node_file.proofs.PrintedSteps.{Goes, Takes, takes_line}
use Rattle.node_file.proofs.PrintedWords.{IsWord}

full : (n most : ℕ) → n < most → leb most n ≡ false
full n most room = grind (arith, nat_tests, room)

-- ---- texts of names and of roles

text_free : (most : ℕ) (rows : Rows) (n : ℕ) (text : List ℕ) → is_label text ≡ true → text_of rows n ≡ None → number_of rows text ≡ None → length rows < most → text_cause most rows n text ≡ None
unfolding text_cause
text_free most rows n text is new_number new_text room =
    let less : eqb (length rows) most ≡ false = grind (arith, nat_tests, room) in
    rw (is, new_number, new_text, less) refl

module _ (most : ℕ) (above rest : Rows) (row : ℕ × List ℕ) (table : IsTable most (above ++ row ∷ rest)) where
  is_row : IsRow row
  is_row = this_one IsRow above row rest table.whole

  number_small : row.0 ≤ 4294967295
  number_small = omega (arith, is_row.0)

  pub text_plain : is_plain (decimal row.0 ++ 32 ∷ row.1) ≡ true
  text_plain = tail_plain row.1 row.0 (label_word row.1 is_row.1) number_small

  pub texts_again : texts_with most above (32 ∷ (decimal row.0 ++ 32 ∷ row.1)) ≡ Ok (above ++ row ∷ [])
  texts_again =
      ap (λ r. r >>= λ x. unless (text_cause most above x.0 x.1) (above ++ (x.0, x.1) ∷ [])) (numbered_again row.1 row.0 (label_word row.1 is_row.1) number_small)
      ∙ ap (λ o. unless o (above ++ row ∷ []))
      (text_free most above row.0 row.1 is_row.1 (number_is_new above rest row table.ascending) (text_is_new above rest row table.differ) (fewer above row rest most table.within))

pub names_go : (d : Draft) (above rest : Rows) → IsTable MAX_NAMES (above ++ rest) → Goes (names_in d above) (map (text_line (codes "name")) rest) (names_in d (above ++ rest))
names_go d =
    each_taken (names_in d) (IsTable MAX_NAMES) (text_line (codes "name"))
    (λ above row rest table.
    takes_line (names_in d above) (names_in d (above ++ row ∷ [])) kinds.Name (decimal row.0 ++ 32 ∷ row.1)
    (text_plain MAX_NAMES above rest row table) (ap (with_value (names_in d)) (texts_again MAX_NAMES above rest row table)))

pub roles_go : (d : Draft) (above rest : Rows) → IsTable MAX_ROLES (above ++ rest) → Goes (roles_in d above) (map (text_line (codes "role")) rest) (roles_in d (above ++ rest))
roles_go d =
    each_taken (roles_in d) (IsTable MAX_ROLES) (text_line (codes "role"))
    (λ above row rest table.
    takes_line (roles_in d above) (roles_in d (above ++ row ∷ [])) kinds.Role (decimal row.0 ++ 32 ∷ row.1)
    (text_plain MAX_ROLES above rest row table) (ap (with_value (roles_in d)) (texts_again MAX_ROLES above rest row table)))

-- ---- lists with a limit

-- not too many, each of which fits, none twice
pub record AreFew {A : Type 0} (most : ℕ) (Fits : A → Type 0) (Apart : A → A → Type 0) (l : List A) : Type 0 where
  pub few : length l ≤ most
  pub fit : All Fits l
  pub apart : AllPairs Apart l

-- ---- channels

module _ (above rest : Entries) (x : ℕ × List ℕ) (are : AreFew MAX_CHANNELS IsChannel (λ c d. c.0 ≢ d.0) (above ++ x ∷ rest)) where
  is_channel : IsChannel x
  is_channel = this_one IsChannel above x rest are.fit

  channel_small : x.0 ≤ 4294967295
  channel_small = omega (arith, is_channel.0)

  key_free : key_cause MAX_CHANNELS above x.0 ≡ None
  unfolding key_cause
  key_free =
      let unknown : key_of above x.0 ≡ None = key_is_new above x.0 (AllPairs-before (λ (c : ℕ × List ℕ) (d : ℕ × List ℕ). c.0 ≢ d.0) above x rest are.apart) in
      let room : leb MAX_CHANNELS (length above) ≡ false = full (length above) MAX_CHANNELS (fewer above x rest MAX_CHANNELS are.few) in
      rw (unknown, room) refl

  keys_again : keys_with MAX_CHANNELS above (32 ∷ (decimal x.0 ++ 32 ∷ encode_lower x.1)) ≡ Ok (above ++ x ∷ [])
  keys_again =
      ap (λ r. r >>= λ x. unless (key_cause MAX_CHANNELS above x.0) (above ++ (x.0, x.1) ∷ [])) (keyed_again x.1 x.0 is_channel.1 channel_small)
      ∙ ap (λ o. unless o (above ++ x ∷ [])) key_free

  pub channel_taken : (d : Draft) → Takes (channels_in d above) (bytes_line (codes "channel") x) (channels_in d (above ++ x ∷ []))
  channel_taken d =
      takes_line (channels_in d above) (channels_in d (above ++ x ∷ [])) kinds.Channel (decimal x.0 ++ 32 ∷ encode_lower x.1)
      (tail_plain (encode_lower x.1) x.0 (key_word x.1 is_channel.1) channel_small) (ap (with_value (channels_in d)) keys_again)

pub channels_go : (d : Draft) (above rest : Entries) → AreFew MAX_CHANNELS IsChannel (λ c d. c.0 ≢ d.0) (above ++ rest) → Goes (channels_in d above) (map (bytes_line (codes "channel")) rest) (channels_in d (above ++ rest))
channels_go d =
    each_taken (channels_in d) (AreFew MAX_CHANNELS IsChannel (λ c d. c.0 ≢ d.0)) (bytes_line (codes "channel")) (λ above x rest are. channel_taken above rest x are d)

-- ---- anchors

pub name_mark : IsWord (codes "name:")
name_mark = record { some = omega arith; inner = refl; plain = refl }

pub named_word : (rows : Rows) (sort : List ℕ) (n : ℕ) (word : List ℕ) → IsWord sort → IsNamed rows sort n word → IsWord word
named_word rows sort n word is (inl numbered) = subst IsWord (sym numbered.1) (word_append sort (decimal n) is (decimal_word n (omega (arith, numbered.0))))
named_word rows sort n word is (inr known) = label_word word known.0

name_again : (rows : Rows) (n : ℕ) (word : List ℕ) → IsNamed rows (codes "name:") n word → name_said rows word ≡ Ok n
unfolding name_said
name_again rows n word (inl numbered) =
    subst (λ (w : List ℕ). cond (begins (codes "name:") w) (number_up_to 4294967295 (drop 5 w)) (some_or UnknownName (number_of rows w)) ≡ Ok n) (sym numbered.1) (number_again 4294967295 n (omega (arith, numbered.0)) (omega (arith, numbered.0)))
name_again rows n word (inr known) = by (begins (codes "name:") word) refl
  where
    by : (b : Bool) → begins (codes "name:") word ≡ b → cond b (number_up_to 4294967295 (drop 5 word)) (some_or UnknownName (number_of rows word)) ≡ Ok n
    by true e = absurd (false≢true (sym (name_is_no_label (drop 5 word)) ∙ ap is_label (sym (begins_true (codes "name:") word e)) ∙ known.0))
    by false e = ap (λ (o : Option ℕ). some_or UnknownName o) known.1

abbrev anchor_of : ℕ → ℕ → Anchor
anchor_of key name = record { key = key; name = name }

module _ (labels : Labels) (are_labels : AreLabels labels) (above rest : List Anchor) (a : Anchor) (are : AreFew MAX_ANCHORS IsAnchor (λ a b. a ≢ b) (above ++ a ∷ rest)) where
  is_anchor : IsAnchor a
  is_anchor = this_one IsAnchor above a rest are.fit

  anchor_small : a.key ≤ 4294967295
  anchor_small = omega (arith, is_anchor.0)

  abbrev text : List ℕ
  text = named (text_of labels.names a.name) (codes "name:") a.name

  is_named : IsNamed labels.names (codes "name:") a.name text
  is_named = proper-printing labels are_labels false (Name a.name) is_anchor.1

  text_word : IsWord text
  text_word = named_word labels.names (codes "name:") a.name text name_mark is_named

  anchor_again : anchor_said labels.names (32 ∷ (decimal a.key ++ 32 ∷ text)) ≡ Ok a
  unfolding anchor_said
  anchor_again =
      ap (λ r. r >>= λ x. name_said labels.names x.1 >>= λ n. Ok (anchor_of x.0 n)) (numbered_again text a.key text_word anchor_small)
      ∙ ap (λ r. r >>= λ n. Ok (anchor_of a.key n)) (name_again labels.names a.name text is_named)

  anchor_free : anchors_and above a ≡ Ok (above ++ a ∷ [])
  unfolding anchors_and
  anchor_free =
      let others = AllPairs-before (λ (a : Anchor) (b : Anchor). a ≢ b) above a rest are.apart in
      let fresh : is_new (same_anchor a) above ≡ true = is_new-from_All (same_anchor a) above (All-weaker (λ b. b ≢ a) (λ b. same_anchor a b ≡ false) (λ b e. same_anchor-false a b e) above others) in
      let room : leb MAX_ANCHORS (length above) ≡ false = full (length above) MAX_ANCHORS (fewer above a rest MAX_ANCHORS are.few) in
      rw (fresh, room) refl

  pub anchor_taken : (d : Draft) → d.labels ≡ labels → Takes (anchors_in d above) (anchor_line labels.names a) (anchors_in d (above ++ a ∷ []))
  anchor_taken d same =
      takes_line (anchors_in d above) (anchors_in d (above ++ a ∷ [])) kinds.Anchor (decimal a.key ++ 32 ∷ text)
      (tail_plain text a.key text_word anchor_small)
      (subst (λ (l : Labels). with_value (anchors_in d) (anchors_with l.names above (32 ∷ (decimal a.key ++ 32 ∷ text))) ≡ Ok (anchors_in d (above ++ a ∷ []))) (sym same)
      (ap (with_value (anchors_in d)) (ap (λ r. r >>= λ a. anchors_and above a) anchor_again ∙ anchor_free)))

pub anchors_go : (labels : Labels) → AreLabels labels → (d : Draft) → d.labels ≡ labels → (above rest : List Anchor) → AreFew MAX_ANCHORS IsAnchor (λ a b. a ≢ b) (above ++ rest)
    → Goes (anchors_in d above) (map (anchor_line labels.names) rest) (anchors_in d (above ++ rest))
anchors_go labels are_labels d same =
    each_taken (anchors_in d) (AreFew MAX_ANCHORS IsAnchor (λ a b. a ≢ b)) (anchor_line labels.names) (λ above a rest are. anchor_taken labels are_labels above rest a are d same)

-- ---- certificates in common

module _ (node : ℕ) (key : List ℕ) (above rest : List Certificate) (c : Certificate) (are : AreFew MAX_COMMONS IsCommon (λ c d. c ≢ d) (above ++ c ∷ rest)) where
  is_common : IsCommon c
  is_common = this_one IsCommon above c rest are.fit

  abbrev bytes : List ℕ
  bytes = sealed 2 key c

  some_bytes : 0 < length bytes
  some_bytes = omega arith

  common_free : commons_and above c ≡ Ok (above ++ c ∷ [])
  unfolding commons_and
  common_free =
      let others = AllPairs-before (λ (c : Certificate) (d : Certificate). c ≢ d) above c rest are.apart in
      let fresh : is_new (same_certificate c) above ≡ true = is_new-from_All (same_certificate c) above (All-weaker (λ d. d ≢ c) (λ d. same_certificate c d ≡ false) (λ d differ. same_certificate-false c d (λ same. differ (sym same))) above others) in
      let room : leb MAX_COMMONS (length above) ≡ false = full (length above) MAX_COMMONS (fewer above c rest MAX_COMMONS are.few) in
      rw (fresh, room) refl

  common_opens : opened key bytes ≡ Ok c
  common_opens = opened_again key bytes c (record { text = refl; numbers = is_common.0; limits = is_common.1 })

  commons_again : commons_with (Some (node, key)) above (32 ∷ encode_lower bytes) ≡ Ok (above ++ c ∷ [])
  commons_again =
      ap (λ r. r >>= λ bytes. commons_of (Some (node, key)) above bytes) (digits_again bytes (relayed_bytes key c) some_bytes)
      ∙ ap (λ r. with_fault (λ _. causes.Certificate) r >>= λ c. commons_and above c) common_opens ∙ common_free

  pub common_taken : (d : Draft) → d.settings.node ≡ Some (node, key) → Takes (commons_in d above) (common_line key c) (commons_in d (above ++ c ∷ []))
  common_taken d said =
      takes_line (commons_in d above) (commons_in d (above ++ c ∷ [])) kinds.Common (encode_lower bytes) (hex_word bytes (relayed_bytes key c) some_bytes).plain
      (subst (λ (o : Option (ℕ × List ℕ)). with_value (commons_in d) (commons_with o above (32 ∷ encode_lower bytes)) ≡ Ok (commons_in d (above ++ c ∷ []))) (sym said)
      (ap (with_value (commons_in d)) commons_again))

pub commons_go : (node : ℕ) (key : List ℕ) (d : Draft) → d.settings.node ≡ Some (node, key) → (above rest : List Certificate) → AreFew MAX_COMMONS IsCommon (λ c d. c ≢ d) (above ++ rest)
    → Goes (commons_in d above) (map (common_line key) rest) (commons_in d (above ++ rest))
commons_go node key d said =
    each_taken (commons_in d) (AreFew MAX_COMMONS IsCommon (λ c d. c ≢ d)) (common_line key) (λ above c rest are. common_taken node key above rest c are d said)
