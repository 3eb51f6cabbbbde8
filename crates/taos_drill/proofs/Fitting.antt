-- The opening of a drill is within the limits of openings.
use Rattle.std.proofs.Common.{◌≡◌, ◌≢◌, ℕ, zero, suc, ◌+◌, ◌*◌, ◌^◌, ◌<◌, ◌≤◌, List, [], ◌∷◌, length, map, Ok, refl, inl, ap, ◌∙◌, arith, length-append}
use Rattle.std.specs.Prelude.{All, AllPairs}
use Rattle.std.specs.Int.{byte_at, bytes_low_first, w32, to_le_bytes}
use Rattle.std.specs.List.{range_with_len}
use Rattle.std.proofs.lemmas.List.Elements.{All-append, All-cons, All-nil}
use Rattle.std.proofs.lemmas.List.FromFn.{length-map-range_with_len}
use Rattle.std.proofs.lemmas.Nat.{mul-le}
use Rattle.byte_fields.specs.Steps.{IsByte}
use Rattle.object_core.specs.Objects.{ObjectPlan}
use Rattle.object_core.specs.Operation.{FitsGrant}
use Rattle.prin_term.specs.View.{Grant}
use Rattle.node_file.proofs.ByNumber.{no_texts_fit}
use Rattle.node_file.proofs.Listed.{all_fit}
use Rattle.node_file.specs.declared.opening.Opening as code
use Rattle.node_file.specs.Meaning.{FitsByNumber, opening}
use Rattle.node_file.specs.OpeningView.{Represents}
use Rattle.node_file.specs.Opening.{FitsObject, FitsOpening, IsAnchor, IsChannel, IsCommon, IsKey, Opening, journal_room, no_texts, opening_bytes}
use Rattle.node_file.specs.Plans.{AreByNumber, nothing}
use Rattle.prin_term.specs.declared.term.Anchor.{Anchor}
use Rattle.taos_drill.specs.Opened.{drill_objects, drill_opening, empty_object, issuer_anchor, reader}
use Rattle.taos_drill.specs.Words.{drawn, key_at}
use Rattle.taos_drill.proofs.Rows.{flat_all, one_pair, row_all, row_pairs, row_pairs_then}

-- ---- keys

byte_small : (k n : ℕ) → byte_at k n < 256
byte_small zero n = omega arith
byte_small (suc k) n = omega arith

low_first : (i k n : ℕ) → All IsByte (bytes_low_first i k n)
low_first i zero n = All-nil IsByte
low_first i (suc k) n = All-cons IsByte (byte_at i n) (bytes_low_first (suc i) k n) (byte_small i n) (low_first (suc i) k n)

word_bytes : (n : ℕ) → All IsByte (to_le_bytes w32 n)
word_bytes n = low_first 0 4 n

length-key_at : (seed i : ℕ) → length (key_at seed i) ≡ 32
unfolding key_at
length-key_at seed i = refl

pub key_is : (seed i : ℕ) → IsKey (key_at seed i)
unfolding key_at
key_is seed i = (length-key_at seed i, flat_all IsByte (λ k. to_le_bytes w32 (drawn seed 1 (8 * i + k))) (range_with_len 0 8) (λ k. word_bytes (drawn seed 1 (8 * i + k))))

-- ---- objects

reader_fits : FitsGrant reader
reader_fits = record { rights = (omega arith, omega arith); who = record { numbers = omega arith; nodes_fit = omega arith; depth_fits = omega arith } }

object_fits : (list : List Grant) → length list ≤ 8 → All FitsGrant list → (number : ℕ) → number < 2 ^ 32 → FitsObject (empty_object list number)
object_fits list few fits number small = record { number = small; content = (omega arith, All-nil IsByte); list = (few, fits) }

abbrev open_list : List Grant
open_list = reader ∷ []

length-objects : (lanes : ℕ) → length (drill_objects lanes) ≡ lanes + lanes
length-objects lanes =
    length-append (map (empty_object open_list) (range_with_len 1 lanes)) (map (empty_object []) (range_with_len 101 lanes))
    ∙ ap (λ n. n + length (map (empty_object []) (range_with_len 101 lanes))) (length-map-range_with_len (empty_object open_list) 1 lanes)
    ∙ ap (λ n. lanes + n) (length-map-range_with_len (empty_object []) 101 lanes)

module _ (lanes : ℕ) (few : lanes ≤ 16) where
  objects_fit : All FitsObject (drill_objects lanes)
  objects_fit =
      All-append FitsObject (map (empty_object open_list) (range_with_len 1 lanes)) (map (empty_object []) (range_with_len 101 lanes))
      (row_all FitsObject (empty_object open_list) 1 lanes (λ n from below. object_fits open_list (omega arith) (All-cons FitsGrant reader [] reader_fits (All-nil FitsGrant)) n (omega (arith, below, few))))
      (row_all FitsObject (empty_object []) 101 lanes (λ n from below. object_fits [] (omega arith) (All-nil FitsGrant) n (omega (arith, below, few))))

  abbrev Rise : ObjectPlan → ObjectPlan → Type 0
  Rise p q = p.number < q.number

  objects_rise : AllPairs Rise (drill_objects lanes)
  objects_rise =
      row_pairs_then Rise (empty_object open_list) 1 lanes (map (empty_object []) (range_with_len 101 lanes)) (λ i j lt. lt)
      (λ i below. row_all (Rise (empty_object open_list i)) (empty_object []) 101 lanes (λ j from _. omega (arith, few, below, from)))
      (row_pairs Rise (empty_object []) 101 lanes (λ i j lt. lt))

  pub objects_by_number : AreByNumber (drill_objects lanes)
  objects_by_number = λ i j before within. objects_rise i j nothing before within

  objects_apart : AllPairs (λ (p : ObjectPlan) (q : ObjectPlan). p.number ≢ q.number) (drill_objects lanes)
  objects_apart i j d before within = λ same. omega (arith, same, objects_rise i j d before within)

  -- the opening of so many requests
  pub opening_fits : (seed requests : ℕ) → requests ≤ 10000 → FitsOpening (drill_opening seed requests lanes)
  opening_fits seed requests least =
      let channel : ℕ → ℕ × List ℕ = λ n. (n, key_at seed n) in
      let count : length (map channel (range_with_len 1 lanes)) ≡ lanes = length-map-range_with_len channel 1 lanes in
      record {
        node = omega arith;
        relay_key = key_is seed 0;
        shards = (omega arith, omega arith);
        keep = (omega arith, omega arith);
        limit = (omega arith, omega (arith, least));
        names = no_texts_fit;
        few_channels = omega (arith, count, few);
        channels = row_all IsChannel (λ n. (n, key_at seed n)) 1 lanes (λ n from below. (omega (arith, below, few), key_is seed n));
        each_channel_once = row_pairs (λ (c : ℕ × List ℕ) (d : ℕ × List ℕ). c.0 ≢ d.0) (λ n. (n, key_at seed n)) 1 lanes (λ i j lt same. omega (arith, lt, same));
        few_anchors = omega arith;
        anchors = All-cons IsAnchor issuer_anchor [] (omega arith, omega arith) (All-nil IsAnchor);
        each_anchor_once = one_pair (λ (a : Anchor) (b : Anchor). a ≢ b) issuer_anchor;
        few_commons = omega arith;
        commons = All-nil IsCommon;
        each_common_once = λ i j d before within. absurd (omega (arith, within));
        few_objects = omega (arith, length-objects lanes, few);
        objects = objects_fit;
        each_object_once = objects_apart;
        room = room_for;
      }
    where
      room_for : journal_room (drill_opening seed requests lanes) ≤ 8388608
      room_for =
          let factor : 4 + length (drill_objects lanes) ≤ 36 = omega (arith, length-objects lanes, few) in
          let entries : 2 * requests + 16 ≤ 20016 = omega (arith, least) in
          let most = mul-le (4 + length (drill_objects lanes)) (2 * requests + 16) 36 20016 factor entries in
          omega (arith, most)

-- what stands for an opening that is within the limits is looked up within them: a file may mean it
pub fits_by_number : (node : code.Opening) (o : Opening) → FitsOpening o → o.names ≡ no_texts → Represents node o → FitsByNumber (opening node)
fits_by_number node o fits plain is = all_fit (opening_bytes o) (Ok node) (o, inl (fits, refl, plain), is)
