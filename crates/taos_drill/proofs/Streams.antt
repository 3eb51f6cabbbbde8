-- What the lanes send, one request at a time.
use Rattle.std.proofs.Common.{◌≡◌, ℕ, ◌+◌, ◌/◌, ◌%◌, ◌<◌, true, false, cond, eqb, List, [], ◌∷◌, ◌++◌, length, get_or, map, sym, ap, ◌∙◌, append-nil, arith}
use Rattle.std.specs.Prelude.{filter}
use Rattle.std.specs.List.{range_with_len}
use Rattle.std.proofs.lemmas.Bool.Decides.{nat_tests}
use Rattle.std.proofs.lemmas.Grind.{flat_map-append}
use Rattle.std.proofs.lemmas.List.{map-append}
use Rattle.std.proofs.lemmas.List.Elements.{filter-append}
use Rattle.std.proofs.lemmas.List.FromFn.{get_or-map-range_with_len, length-map-range_with_len, map-range_with_len_more}
use Rattle.frame_link.specs.Frames.{frame, framed}
use Rattle.taos_wire.specs.Request.{sealed}
use Rattle.taos_drill.specs.Sent.{asked, drill_stream, object_for, payload_of, presented, requests_of}
use Rattle.taos_drill.specs.Words.{key_at, word_of, words_of}
use Rattle.taos_drill.proofs.Ranges.{range_more}

-- the requests of a lane, with one more among all
pub requests_more : (requests lanes lane : ℕ) → requests_of (requests + 1) lanes lane ≡ requests_of requests lanes lane ++ cond (eqb (requests % lanes) lane) (requests ∷ []) []
requests_more requests lanes lane =
    let own = λ (i : ℕ). eqb (i % lanes) lane in
    ap (filter own) (range_more requests) ∙ filter-append own (range_with_len 0 requests) (requests ∷ [])

more_frames : (seed lanes : ℕ) (is js : List ℕ) → framed (map (payload_of seed lanes) (is ++ js)) ≡ framed (map (payload_of seed lanes) is) ++ framed (map (payload_of seed lanes) js)
more_frames seed lanes is js =
    ap framed (map-append (payload_of seed lanes) is js) ∙ flat_map-append frame (map (payload_of seed lanes) is) (map (payload_of seed lanes) js)

module _ (seed requests lanes lane : ℕ) where
  -- a request of another lane is not sent
  pub other_lane : eqb (requests % lanes) lane ≡ false → drill_stream seed (requests + 1) lanes lane ≡ drill_stream seed requests lanes lane
  other_lane other =
      ap (λ (l : List ℕ). framed (map (payload_of seed lanes) l))
      (requests_more requests lanes lane ∙ ap (λ b. requests_of requests lanes lane ++ cond b (requests ∷ []) []) other ∙ append-nil (requests_of requests lanes lane))

  -- one of its own is
  pub own_lane : eqb (requests % lanes) lane ≡ true → drill_stream seed (requests + 1) lanes lane ≡ drill_stream seed requests lanes lane ++ frame (payload_of seed lanes requests)
  own_lane own =
      ap (λ (l : List ℕ). framed (map (payload_of seed lanes) l))
      (requests_more requests lanes lane ∙ ap (λ b. requests_of requests lanes lane ++ cond b (requests ∷ []) []) own)
      ∙ more_frames seed lanes (requests_of requests lanes lane) (requests ∷ [])
      ∙ ap (λ (t : List ℕ). drill_stream seed requests lanes lane ++ t) (append-nil (frame (payload_of seed lanes requests)))

-- the payload of a request, by its lane
pub payload_is : (seed lanes i lane channel word : ℕ) (key cert : List ℕ) → channel ≡ lane + 1 → i % lanes ≡ lane → word ≡ word_of seed i → key ≡ key_at seed (lane + 1) → cert ≡ presented seed (lane + 1)
    → sealed key (asked channel (i / lanes + 1) (object_for channel word) cert) ≡ payload_of seed lanes i
payload_is seed lanes i lane channel word key cert numbered of_lane drawn keyed shown =
    ap (λ n. sealed key (asked n (i / lanes + 1) (object_for n word) cert)) numbered
    ∙ ap (λ w. sealed key (asked (lane + 1) (i / lanes + 1) (object_for (lane + 1) w) cert)) drawn
    ∙ ap (λ k. sealed k (asked (lane + 1) (i / lanes + 1) (object_for (lane + 1) (word_of seed i)) cert)) keyed
    ∙ ap (λ t. sealed (key_at seed (lane + 1)) (asked (lane + 1) (i / lanes + 1) (object_for (lane + 1) (word_of seed i)) t)) shown
    ∙ ap (λ n. sealed (key_at seed (n + 1)) (asked (n + 1) (i / lanes + 1) (object_for (n + 1) (word_of seed i)) (presented seed (n + 1)))) (sym of_lane)

-- a lane's stream with the frame of a request that is its own
pub sends : (seed lanes i lane channel word : ℕ) (key cert old new : List ℕ) → channel ≡ lane + 1 → i % lanes ≡ lane → word ≡ word_of seed i → key ≡ key_at seed (lane + 1) → cert ≡ presented seed (lane + 1)
    → old ≡ drill_stream seed i lanes lane → new ≡ old ++ frame (sealed key (asked channel (i / lanes + 1) (object_for channel word) cert)) → new ≡ drill_stream seed (i + 1) lanes lane
sends seed lanes i lane channel word key cert old new numbered of_lane drawn keyed shown so_far is =
    let own : eqb (i % lanes) lane ≡ true = grind (arith, nat_tests, of_lane) in
    let payload = payload_is seed lanes i lane channel word key cert numbered of_lane drawn keyed shown in
    is ∙ ap (λ (l : List ℕ). l ++ frame (sealed key (asked channel (i / lanes + 1) (object_for channel word) cert))) so_far
    ∙ ap (λ p. drill_stream seed i lanes lane ++ frame p) payload ∙ sym (own_lane seed i lanes lane own)

-- and with none for a request of another lane
pub waits : (seed lanes i lane : ℕ) (old new : List ℕ) → (i % lanes ≡ lane → ⊥) → old ≡ drill_stream seed i lanes lane → new ≡ old → new ≡ drill_stream seed (i + 1) lanes lane
waits seed lanes i lane old new other so_far is =
    let not_own : eqb (i % lanes) lane ≡ false = grind (arith, nat_tests, other) in
    is ∙ so_far ∙ sym (other_lane seed i lanes lane not_own)

-- the word of a request, where the words are those that were drawn
pub word_is : (seed requests i : ℕ) (words : List ℕ) → words ≡ words_of seed requests → i < length words → get_or words i 0 ≡ word_of seed i
word_is seed requests i words is within =
    let count = length-map-range_with_len (word_of seed) 0 requests in
    rw is (get_or-map-range_with_len (word_of seed) 0 requests i i 0 (omega (arith, ap length is, within, count)) (omega arith))

-- how many words there are
pub count_of : (seed requests : ℕ) (words : List ℕ) → words ≡ words_of seed requests → length words ≡ requests
count_of seed requests words is = ap length is ∙ length-map-range_with_len (word_of seed) 0 requests

-- the streams of one lane more
pub lanes_more : (seed requests lanes lane : ℕ) (old new : List (List ℕ)) (stream : List ℕ) → old ≡ map (drill_stream seed requests lanes) (range_with_len 0 lane) → new ≡ old ++ stream ∷ [] → stream ≡ drill_stream seed requests lanes lane
    → new ≡ map (drill_stream seed requests lanes) (range_with_len 0 (lane + 1))
lanes_more seed requests lanes lane old new stream so_far pushed is =
    pushed ∙ ap (λ (l : List (List ℕ)). l ++ stream ∷ []) so_far ∙ ap (λ s. map (drill_stream seed requests lanes) (range_with_len 0 lane) ++ s ∷ []) is
    ∙ sym (map-range_with_len_more (drill_stream seed requests lanes) 0 lane lane (omega arith))
