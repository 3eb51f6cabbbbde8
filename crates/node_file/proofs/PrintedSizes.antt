-- What is printed of an opening within the limits is no longer than a file may be.
use Rattle.std.proofs.Common.{◌≡◌, ℕ, ◌+◌, ◌*◌, ◌/◌, ◌%◌, ◌^◌, ◌<◌, ◌≤◌, Bool, true, false, ◌&&◌, List, [], ◌∷◌, ◌++◌, length, map, refl, sym, ap, subst, arith, inl, inr, length-append}
use Rattle.std.specs.Prelude.{◌==◌, All, codes, nat_le, not}
use Rattle.std.specs.Fmt.{decimal}
use Rattle.std.specs.List.{flat_map, list_all}
use Rattle.std.proofs.lemmas.Bool.{false≢true}
use Rattle.std.proofs.lemmas.Bool.Decides.{nat_tests}
use Rattle.std.proofs.lemmas.Fmt.{length-decimal-le}
use Rattle.std.proofs.lemmas.Grind.{flat_map-append}
use Rattle.std.proofs.lemmas.List.Concat.{length-flat_map}
use Rattle.std.proofs.lemmas.List.Elements.{All-weaker}
use Rattle.std.proofs.lemmas.List.Folds.{flat_map-map}
use Rattle.std.proofs.lemmas.List.Sums.{sum_by-le}
use Rattle.hex.specs.Hex.{encode_lower, lower_digits}
use Rattle.hex.proofs.HexLemmas.{length-encode_with}
use Rattle.object_core.specs.Objects.{ObjectPlan}
use Rattle.object_core.specs.Operation.{FitsGrant}
use Rattle.prin_term.specs.Principal.{Principal, Key, Name, And, Quoting, InRole, For, HasSpelling, node_count}
use Rattle.prin_term.specs.View.{Grant}
use Rattle.prin_text.specs.Labels.{AreLabels, IsRow, Labels, Rows, begins_with_letter, is_label, is_label_byte, is_reserved, text_of}
use Rattle.prin_text.specs.Meaning.{IsNamed}
use Rattle.prin_text.specs.Printing.{closing, entry_text, letter_if, named, opening, principal_text, rights_text, text_within}
use Rattle.prin_text.specs.declared.limits.TheConstants.{MAX_TEXT}
use Rattle.prin_text.proofs.Printed.{proper-printing}
use Rattle.sealed_cert.specs.Seals.{sealed}
use Rattle.sealed_cert.proofs.Sizes.{short_sealed}
use Rattle.stmt_codec.specs.Certificates.{Certificate}
use Rattle.node_file.specs.declared.limits.TheConstants.{MAX_FILE}
use Rattle.node_file.specs.FilePrinting.{allow_line, anchor_line, bytes_line, common_line, content_lines, ended, number_line, numbered_line, object_lines, opening_text, settings_lines, text_line, text_of_lines}
use Rattle.node_file.specs.Opening.{FitsObject, FitsOpening, IsAnchor, IsChannel, IsCommon, Opening}
use Rattle.node_file.proofs.PrintedLists.{lines_of_all}

-- ---- lines for each element

lines_size : {A : Type 0} (lines : A → List (List ℕ)) (k : ℕ) (xs : List A) → All (λ x. length (text_of_lines (lines x)) ≤ k) xs → length (text_of_lines (flat_map lines xs)) ≤ length xs * k
lines_size lines k xs all =
    subst (λ (l : List ℕ). length l ≤ length xs * k) (lines_of_all lines xs)
    (subst (λ n. n ≤ length xs * k) (sym (length-flat_map (λ x. text_of_lines (lines x)) xs)) (sum_by-le (λ x. length (text_of_lines (lines x))) k xs all))

ended_size : (line : List ℕ) (k : ℕ) → length line < k → length (ended line) ≤ k
ended_size line k short = omega (arith, short, length-append line (10 ∷ []))

line_size : {A : Type 0} (line : A → List ℕ) (k : ℕ) (xs : List A) → All (λ x. length (line x) < k) xs → length (text_of_lines (map line xs)) ≤ length xs * k
line_size line k xs all =
    subst (λ (l : List ℕ). length l ≤ length xs * k) (sym (flat_map-map ended line xs))
    (subst (λ n. n ≤ length xs * k) (sym (length-flat_map (λ x. ended (line x)) xs))
    (sum_by-le (λ x. length (ended (line x))) k xs (All-weaker (λ x. length (line x) < k) (λ x. length (ended (line x)) ≤ k) (λ x short. ended_size (line x) k short) xs all)))

-- ---- fields

decimal_size : (n : ℕ) → n < 2 ^ 32 → length (decimal n) ≤ 10
decimal_size n small = length-decimal-le 10 n (omega arith) (omega (arith, small)) (omega (arith, small))

number_size : (word : List ℕ) (n : ℕ) → n < 2 ^ 32 → length (number_line word n) ≤ length word + 11
number_size word n small = omega (arith, length-append word (32 ∷ decimal n), decimal_size n small)

numbered_size : (word : List ℕ) (n : ℕ) (text : List ℕ) → n < 2 ^ 32 → length (numbered_line word n text) ≤ length word + 12 + length text
numbered_size word n text small =
    omega (arith, length-append word (32 ∷ (decimal n ++ 32 ∷ text)), length-append (decimal n) (32 ∷ text), decimal_size n small)

bytes_size : (word : List ℕ) (n : ℕ) (bytes : List ℕ) → n < 2 ^ 32 → length (bytes_line word (n, bytes)) ≤ length word + 12 + 2 * length bytes
bytes_size word n bytes small = omega (arith, numbered_size word n (encode_lower bytes) small, length-encode_with lower_digits bytes)

second : (a b c d : Bool) → (a && b && c && d) ≡ true → b ≡ true
second true true c d e = refl
second true false c d e = absurd (false≢true e)
second false b c d e = absurd (false≢true e)

label_size : (t : List ℕ) → is_label t ≡ true → length t ≤ 32
unfolding is_label
label_size t is =
    let short = second (begins_with_letter t) (nat_le (length t) MAX_TEXT) (list_all is_label_byte t) (not (is_reserved t)) is in
    grind (arith, nat_tests, short)

named_size : (rows : Rows) (sort : List ℕ) (n : ℕ) (word : List ℕ) → length sort ≡ 5 → IsNamed rows sort n word → length word ≤ 32
named_size rows sort n word five (inl numbered) =
    subst (λ (l : List ℕ). length l ≤ 32) (sym numbered.1) (omega (arith, five, length-append sort (decimal n), decimal_size n numbered.0))
named_size rows sort n word five (inr known) = label_size word known.0

-- ---- rights

letter_size : (b : Bool) (letter : List ℕ) → length (letter_if b letter) ≤ length letter
letter_size true letter = omega arith
letter_size false letter = omega arith

letters_size : (r w c m : Bool) → length (letter_if r (codes "r") ++ letter_if w (codes "w") ++ letter_if c (codes "c") ++ letter_if m (codes "m")) ≤ 4
letters_size r w c m =
    let first = letter_if r (codes "r") in
    let second = letter_if w (codes "w") in
    let third = letter_if c (codes "c") in
    let fourth = letter_if m (codes "m") in
    omega (arith, length-append (first ++ second ++ third) fourth, length-append (first ++ second) third, length-append first second, letter_size r (codes "r"), letter_size w (codes "w"), letter_size c (codes "c"), letter_size m (codes "m"))

rights_size : (n : ℕ) → length (rights_text n) ≤ 4
rights_size n = letters_size (n % 2 == 1) (n / 2 % 2 == 1) (n / 4 % 2 == 1) (n / 8 % 2 == 1)

-- ---- principals and entries

opening_size : (inside : Bool) → length (opening inside) ≤ 1
opening_size true = omega arith
opening_size false = omega arith

closing_size : (inside : Bool) → length (closing inside) ≤ 1
closing_size true = omega arith
closing_size false = omega arith

compound_size : (inside : Bool) (x between y : List ℕ) → length (opening inside ++ x ++ between ++ y ++ closing inside) ≤ 2 + length x + length between + length y
compound_size inside x between y =
    omega (arith, length-append (opening inside ++ x ++ between ++ y) (closing inside), length-append (opening inside ++ x ++ between) y, length-append (opening inside ++ x) between, length-append (opening inside) x, opening_size inside, closing_size inside)

module _ (labels : Labels) (are : AreLabels labels) where
  name_size : (n : ℕ) → n < 2 ^ 32 → length (named (text_of labels.names n) (codes "name:") n) ≤ 32
  name_size n small = named_size labels.names (codes "name:") n (named (text_of labels.names n) (codes "name:") n) refl (proper-printing labels are false (Name n) small)

  -- a node is written with at most 38 bytes: those of a role and of what stands around it
  text_size : (inside : Bool) (p : Principal) → HasSpelling p → length (text_within labels inside p) ≤ 38 * node_count p
  text_size inside (Key k) small = omega (arith, length-append (codes "key:") (decimal k), decimal_size k small)
  text_size inside (Name n) small = omega (arith, name_size n small)
  text_size inside (And a b) small = omega (arith, compound_size inside (text_within labels true a) (codes " and ") (text_within labels true b), text_size true a small.0, text_size true b small.1)
  text_size inside (Quoting a b) small = omega (arith, compound_size inside (text_within labels true a) (codes "|") (text_within labels true b), text_size true a small.0, text_size true b small.1)
  text_size inside (InRole a r) small =
      let role = named (text_of labels.roles r) (codes "role:") r in
      let proper = proper-printing labels are false (InRole a r) small in
      omega (arith, compound_size inside (text_within labels true a) (codes " as ") role, text_size true a small.0, named_size labels.roles (codes "role:") r role refl proper.2)
  text_size inside (For a b) small = omega (arith, compound_size inside (text_within labels true a) (codes " for ") (text_within labels true b), text_size true a small.0, text_size true b small.1)

  allow_size : (n : ℕ) (g : Grant) → n < 2 ^ 32 → FitsGrant g → length (allow_line labels n g) < 640
  allow_size n g small fits =
      let who = principal_text labels g.who in
      omega (arith, numbered_size (codes "allow") n (entry_text labels g) small, length-append (rights_text g.rights) (32 ∷ who), rights_size g.rights, text_size false g.who fits.who.numbers, fits.who.nodes_fit)

  -- ---- objects

  content_size : (n : ℕ) (content : List ℕ) → n < 2 ^ 32 → length content ≤ 4096 → length (text_of_lines (content_lines n content)) ≤ 8220
  content_size n [] small short = omega arith
  content_size n (b ∷ content) small short =
      let line = bytes_line (codes "content") (n, b ∷ content) in
      omega (arith, bytes_size (codes "content") n (b ∷ content) small, short, length-append (ended line) [], length-append line (10 ∷ []))

  object_size : (p : ObjectPlan) → FitsObject p → length (text_of_lines (object_lines labels p)) ≤ 13400
  object_size p fits =
      let line = number_line (codes "object") p.number in
      let contents = content_lines p.number p.content in
      let entries = map (allow_line labels p.number) p.list in
      let all = All-weaker FitsGrant (λ g. length (allow_line labels p.number g) < 640) (λ g fits_it. allow_size p.number g fits.number fits_it) p.list fits.list.1 in
      omega (
        arith,
        length-append (ended line) (text_of_lines (contents ++ entries)),
        length-append line (10 ∷ []),
        number_size (codes "object") p.number fits.number,
        ap length (flat_map-append ended contents entries),
        length-append (text_of_lines contents) (text_of_lines entries),
        content_size p.number p.content fits.number fits.content.0,
        line_size (allow_line labels p.number) 640 p.list all,
        fits.list.0,
      )

-- ---- the whole

parts_size : (u v : List (List ℕ)) (m n : ℕ) → length (text_of_lines u) ≤ m → length (text_of_lines v) ≤ n → length (text_of_lines (u ++ v)) ≤ m + n
parts_size u v m n first second = omega (arith, first, second, ap length (flat_map-append ended u v), length-append (text_of_lines u) (text_of_lines v))

-- a line adds its bytes and its end
line_more : (l : List ℕ) (rest : List (List ℕ)) → length (text_of_lines (l ∷ rest)) ≡ length l + 1 + length (text_of_lines rest)
line_more l rest = omega (arith, length-append (ended l) (text_of_lines rest), length-append l (10 ∷ []))

module _ (o : Opening) (fits : FitsOpening o) where
  four_lines_size : (w x y z : List ℕ) → length (text_of_lines (w ∷ x ∷ y ∷ z ∷ [])) ≤ length w + length x + length y + length z + 4
  four_lines_size w x y z =
      omega (
        arith,
        line_more w (x ∷ y ∷ z ∷ []),
        line_more x (y ∷ z ∷ []),
        line_more y (z ∷ []),
        line_more z [],
      )

  settings_size : length (text_of_lines (codes "taos 1" ∷ settings_lines o)) ≤ 200
  settings_size =
      omega (
        arith,
        four_lines_size (bytes_line (codes "node") (o.node, o.relay_key)) (number_line (codes "shards") o.shards) (number_line (codes "keep") o.keep) (number_line (codes "journal") o.limit),
        bytes_size (codes "node") o.node o.relay_key fits.node,
        fits.relay_key.0,
        number_size (codes "shards") o.shards (omega (arith, fits.shards.1)),
        number_size (codes "keep") o.keep (omega (arith, fits.keep.1)),
        number_size (codes "journal") o.limit (omega (arith, fits.limit.1)),
      )

  text_row_size : (word : List ℕ) (row : ℕ × List ℕ) → length word ≡ 4 → IsRow row → length (text_line word row) < 64
  text_row_size word row four is = omega (arith, numbered_size word row.0 row.1 is.0, label_size row.1 is.1, four)

  rows_size : (word : List ℕ) (rows : Rows) → length word ≡ 4 → All IsRow rows → length (text_of_lines (map (text_line word) rows)) ≤ length rows * 64
  rows_size word rows four all = line_size (text_line word) 64 rows (All-weaker IsRow (λ row. length (text_line word row) < 64) (λ row is. text_row_size word row four is) rows all)

  channels_size : length (text_of_lines (map (bytes_line (codes "channel")) o.channels)) ≤ length o.channels * 96
  channels_size =
      line_size (bytes_line (codes "channel")) 96 o.channels
      (All-weaker IsChannel (λ c. length (bytes_line (codes "channel") c) < 96) (λ c is. omega (arith, bytes_size (codes "channel") c.0 c.1 is.0, is.1.0)) o.channels fits.channels)

  anchors_size : length (text_of_lines (map (anchor_line o.names.names) o.anchors)) ≤ length o.anchors * 64
  anchors_size =
      line_size (anchor_line o.names.names) 64 o.anchors
      (All-weaker IsAnchor (λ a. length (anchor_line o.names.names a) < 64)
      (λ a is. omega (arith, numbered_size (codes "anchor") a.key (named (text_of o.names.names a.name) (codes "name:") a.name) is.0, name_size o.names fits.names a.name is.1)) o.anchors fits.anchors)

  common_size : (c : Certificate) → IsCommon c → length (common_line o.relay_key c) < 2064
  common_size c is =
      let bytes = sealed 2 o.relay_key c in
      omega (arith, length-append (codes "common ") (encode_lower bytes), length-encode_with lower_digits bytes, short_sealed 2 o.relay_key c is.1)

  commons_size : length (text_of_lines (map (common_line o.relay_key) o.commons)) ≤ length o.commons * 2064
  commons_size =
      line_size (common_line o.relay_key) 2064 o.commons (All-weaker IsCommon (λ c. length (common_line o.relay_key c) < 2064) (λ c is. common_size c is) o.commons fits.commons)

  objects_size : length (text_of_lines (flat_map (object_lines o.names) o.objects)) ≤ length o.objects * 13400
  objects_size =
      lines_size (object_lines o.names) 13400 o.objects
      (All-weaker FitsObject (λ p. length (text_of_lines (object_lines o.names p)) ≤ 13400) (λ p is. object_size o.names fits.names p is) o.objects fits.objects)

  pub printed_size : length (opening_text o) ≤ MAX_FILE
  printed_size =
      let first = codes "taos 1" ∷ settings_lines o in
      let names = map (text_line (codes "name")) o.names.names in
      let roles = map (text_line (codes "role")) o.names.roles in
      let channels = map (bytes_line (codes "channel")) o.channels in
      let anchors = map (anchor_line o.names.names) o.anchors in
      let commons = map (common_line o.relay_key) o.commons in
      let objects = flat_map (object_lines o.names) o.objects in
      let two = parts_size first names 200 65536 settings_size (omega (arith, rows_size (codes "name") o.names.names refl fits.names.names.whole, fits.names.names.within)) in
      let three = parts_size (first ++ names) roles 65736 16384 two (omega (arith, rows_size (codes "role") o.names.roles refl fits.names.roles.whole, fits.names.roles.within)) in
      let four = parts_size (first ++ names ++ roles) channels 82120 98304 three (omega (arith, channels_size, fits.few_channels)) in
      let five = parts_size (first ++ names ++ roles ++ channels) anchors 180424 4096 four (omega (arith, anchors_size, fits.few_anchors)) in
      let six = parts_size (first ++ names ++ roles ++ channels ++ anchors) commons 184520 66048 five (omega (arith, commons_size, fits.few_commons)) in
      let seven = parts_size (first ++ names ++ roles ++ channels ++ anchors ++ commons) objects 250568 3430400 six (omega (arith, objects_size, fits.few_objects)) in
      omega (arith, seven)
