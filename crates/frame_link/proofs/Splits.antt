-- A stream of bytes has one reading as frames.
use Rattle.std.proofs.Common.{◌≡◌, ◌⊎◌, ℕ, zero, suc, ◌+◌, ◌^◌, ◌<◌, ◌≤◌, List, [], ◌∷◌, ◌++◌, length, take, drop, All, refl, sym, ap, ◌∙◌, append_assoc, arith, inl, inr, get_or, length-append, length-take, length-drop}
use Rattle.std.specs.Int.{w32, to_be_bytes, from_be_bytes}
use Rattle.std.proofs.lemmas.Nat.{be_bytes_4, from_be_bytes-to_be_bytes_4}
use Rattle.std.proofs.lemmas.List.{take_at, drop_at, take-append-drop, get_or-drop, get_or-take, get_or_past}
use Rattle.std.proofs.lemmas.Bool.{cases_lt}
use Rattle.std.proofs.lemmas.List.Concat.{flat_map-cons}
use Rattle.std.proofs.lemmas.List.Elements.{All-nil, All-cons, All-head, All-tail, All-get_or}
use Rattle.frame_link.specs.Frames.{frame, framed, IsPart, in_word, in_payload, IsTooLong, Splits}

-- a number of four bytes is read in one way
pub word_once : (m n : ℕ) (a b : List ℕ) → m < 2 ^ 32 → n < 2 ^ 32 → to_be_bytes w32 m ++ a ≡ to_be_bytes w32 n ++ b → (m ≡ n) × (a ≡ b)
word_once m n a b lm ln e =
    let front : to_be_bytes w32 m ≡ to_be_bytes w32 n = ap (take 4) e in
    (sym (from_be_bytes-to_be_bytes_4 m lm) ∙ ap (from_be_bytes w32) front ∙ from_be_bytes-to_be_bytes_4 n ln, ap (drop 4) e)

pub same_front : (a b x y : List ℕ) → length a ≡ length b → a ++ x ≡ b ++ y → (a ≡ b) × (x ≡ y)
same_front a b x y len e =
    let front : a ≡ b = sym (take_at a x (length b) len) ∙ ap (take (length b)) e ∙ take_at b y (length b) refl in
    (front, sym (drop_at a x (length b) len) ∙ ap (drop (length b)) e ∙ drop_at b y (length b) refl)

-- what has no whole frame does not begin with one
pub no_frame : (limit : ℕ) (payload more rest : List ℕ) → limit < 2 ^ 32 → length payload ≤ limit → IsPart limit rest ⊎ IsTooLong limit rest → rest ≡ frame payload ++ more → ⊥
no_frame limit payload more rest small fits (inl (in_word short)) e =
    let len = ap length e ∙ length-append (frame payload) more ∙ ap (λ k. k + length more) (length-append (to_be_bytes w32 (length payload)) payload) in omega (arith, len)
no_frame limit payload more rest small fits (inl (in_payload n front le below short text)) e =
    let same = word_once n (length payload) front (payload ++ more) below (omega arith) (sym text ∙ e ∙ append_assoc (to_be_bytes w32 (length payload)) payload more) in
    let len = ap length same.1 ∙ length-append payload more in
    omega (arith, same.0, len)
no_frame limit payload more rest small fits (inr long) e =
    let same = word_once long.length_word (length payload) long.behind (payload ++ more) long.fits (omega arith) (sym long.text ∙ e ∙ append_assoc (to_be_bytes w32 (length payload)) payload more) in
    omega (arith, same.0, long.above)

framed-cons : (p : List ℕ) (ps : List (List ℕ)) (rest : List ℕ) → framed (p ∷ ps) ++ rest ≡ frame p ++ (framed ps ++ rest)
framed-cons p ps rest = ap (λ (l : List ℕ). l ++ rest) (flat_map-cons frame p ps) ∙ append_assoc (frame p) (framed ps) rest

frames_once : (limit : ℕ) (ps qs : List (List ℕ)) (a b : List ℕ) → limit < 2 ^ 32 → All (λ p. length p ≤ limit) ps → All (λ p. length p ≤ limit) qs → IsPart limit a ⊎ IsTooLong limit a → IsPart limit b ⊎ IsTooLong limit b
    → framed ps ++ a ≡ framed qs ++ b → (ps ≡ qs) × (a ≡ b)
frames_once limit [] [] a b small fp fq na nb e = (refl, e)
frames_once limit [] (q ∷ qs) a b small fp fq na nb e = absurd (no_frame limit q (framed qs ++ b) a small (All-head (λ p. length p ≤ limit) q qs fq) na (e ∙ framed-cons q qs b))
frames_once limit (p ∷ ps) [] a b small fp fq na nb e = absurd (no_frame limit p (framed ps ++ a) b small (All-head (λ p. length p ≤ limit) p ps fp) nb (sym e ∙ framed-cons p ps a))
frames_once limit (p ∷ ps) (q ∷ qs) a b small fp fq na nb e =
    let lp : length p ≤ limit = All-head (λ p. length p ≤ limit) p ps fp in
    let lq : length q ≤ limit = All-head (λ p. length p ≤ limit) q qs fq in
    let both : frame p ++ (framed ps ++ a) ≡ frame q ++ (framed qs ++ b) = sym (framed-cons p ps a) ∙ e ∙ framed-cons q qs b in
    let same = word_once (length p) (length q) (p ++ (framed ps ++ a)) (q ++ (framed qs ++ b)) (omega arith) (omega arith)
    (sym (append_assoc (to_be_bytes w32 (length p)) p (framed ps ++ a)) ∙ both ∙ append_assoc (to_be_bytes w32 (length q)) q (framed qs ++ b)) in
    let payload = same_front p q (framed ps ++ a) (framed qs ++ b) same.0 same.1 in
    let others = frames_once limit ps qs a b small (All-tail (λ p. length p ≤ limit) p ps fp) (All-tail (λ p. length p ≤ limit) q qs fq) na nb payload.1 in
    ((λ i. payload.0 i ∷ others.0 i), others.1)

pub split_once : (limit : ℕ) (bytes : List ℕ) (ps qs : List (List ℕ)) (a b : List ℕ) → limit < 2 ^ 32 → Splits limit bytes ps a → Splits limit bytes qs b → (ps ≡ qs) × (a ≡ b)
split_once limit bytes ps qs a b small s t = frames_once limit ps qs a b small s.each t.each s.no_more t.no_more (sym s.whole ∙ t.whole)

-- fewer frames are no longer than more
pub frames_all : (limit : ℕ) (ps qs : List (List ℕ)) (x : List ℕ) → limit < 2 ^ 32 → All (λ p. length p ≤ limit) ps → All (λ p. length p ≤ limit) qs → length ps ≤ length qs → framed ps ≡ framed qs ++ x → x ≡ []
frames_all limit [] [] x small fp fq fewer e = sym e
frames_all limit [] (q ∷ qs) x small fp fq fewer e =
    absurd (no_frame limit q (framed qs ++ x) [] small (All-head (λ p. length p ≤ limit) q qs fq) (inl (in_word (omega arith))) (e ∙ framed-cons q qs x))
frames_all limit (p ∷ ps) [] x small fp fq fewer e = absurd (omega arith)
frames_all limit (p ∷ ps) (q ∷ qs) x small fp fq fewer e =
    let lp : length p ≤ limit = All-head (λ p. length p ≤ limit) p ps fp in
    let lq : length q ≤ limit = All-head (λ p. length p ≤ limit) q qs fq in
    let both : frame p ++ framed ps ≡ frame q ++ (framed qs ++ x) = sym (flat_map-cons frame p ps) ∙ e ∙ framed-cons q qs x in
    let same = word_once (length p) (length q) (p ++ framed ps) (q ++ (framed qs ++ x)) (omega arith) (omega arith)
    (sym (append_assoc (to_be_bytes w32 (length p)) p (framed ps)) ∙ both ∙ append_assoc (to_be_bytes w32 (length q)) q (framed qs ++ x)) in
    let payload = same_front p q (framed ps) (framed qs ++ x) same.0 same.1 in
    frames_all limit ps qs x small (All-tail (λ p. length p ≤ limit) p ps fp) (All-tail (λ p. length p ≤ limit) q qs fq) (omega arith) payload.1

-- the bytes of a stream, each below 256
abbrev pub IsBytes : List ℕ → Type 0
IsBytes bytes = (i : ℕ) → get_or bytes i 0 < 256

IsBytes-drop : (n : ℕ) (bytes : List ℕ) → IsBytes bytes → IsBytes (drop n bytes)
IsBytes-drop n bytes h i = rw get_or-drop (h (n + i))

IsBytes-take : (n : ℕ) (bytes : List ℕ) → IsBytes bytes → IsBytes (take n bytes)
IsBytes-take n bytes h i =
    elim (cases_lt i n) [
      | inl lt ↦ rw (get_or-take n bytes i 0 lt) (h i)
      | inr le ↦ rw (get_or_past (take n bytes) i 0 (omega (arith, length-take n bytes))) (omega arith)
    ]

IsBytes-all : (bytes : List ℕ) → All (λ (b : ℕ). b < 256) bytes → IsBytes bytes
IsBytes-all bytes h i =
    elim (cases_lt i (length bytes)) [
      | inl lt ↦ All-get_or (λ (b : ℕ). b < 256) bytes i 0 lt h
      | inr le ↦ rw (get_or_past bytes i 0 le) (omega arith)
    ]

-- the four bytes at the front spell a number
word_of : (bytes : List ℕ) → IsBytes bytes → 4 ≤ length bytes → (n : ℕ) × (n < 2 ^ 32) × (bytes ≡ to_be_bytes w32 n ++ drop 4 bytes)
word_of bytes h long =
    let fits = IsBytes-take 4 bytes h in
    let front : to_be_bytes w32 (from_be_bytes w32 (take 4 bytes)) ≡ take 4 bytes = be_bytes_4 (take 4 bytes) _ (omega (arith, length-take 4 bytes)) fits refl in
    let below : from_be_bytes w32 (take 4 bytes) < 2 ^ 32 = omega (arith, fits 0, fits 1, fits 2, fits 3) in
    (from_be_bytes w32 (take 4 bytes), below, sym (take-append-drop 4 bytes) ∙ ap (λ (t : List ℕ). t ++ drop 4 bytes) (sym front))

-- a whole frame in front of what has a reading
framed_on : (n : ℕ) (bytes behind : List ℕ) (ps : List (List ℕ)) (rest : List ℕ) → length (take n behind) ≡ n → bytes ≡ to_be_bytes w32 n ++ behind → drop n behind ≡ framed ps ++ rest → bytes ≡ framed (take n behind ∷ ps) ++ rest
framed_on n bytes behind ps rest len text more =
    let payload = take n behind in
    let front : behind ≡ payload ++ (framed ps ++ rest) = sym (take-append-drop n behind) ∙ ap (λ (l : List ℕ). payload ++ l) more in
    text ∙ ap (λ (l : List ℕ). to_be_bytes w32 n ++ l) front
    ∙ sym (append_assoc (to_be_bytes w32 n) payload (framed ps ++ rest))
    ∙ ap (λ (m : ℕ). to_be_bytes w32 m ++ payload ++ (framed ps ++ rest)) (sym len)
    ∙ sym (framed-cons payload ps rest)

no_frames : (limit : ℕ) (bytes : List ℕ) → IsPart limit bytes ⊎ IsTooLong limit bytes → Splits limit bytes [] bytes
no_frames limit bytes is = record { whole = refl; each = All-nil (λ (p : List ℕ). length p ≤ limit); no_more = is }

-- a stream has a reading, by what is left of its length
split_within : (room limit : ℕ) (bytes : List ℕ) → IsBytes bytes → length bytes ≤ room → (ps : List (List ℕ)) × (rest : List ℕ) × Splits limit bytes ps rest
split_within zero limit bytes h le = ([], bytes, no_frames limit bytes (inl (in_word (omega arith))))
split_within (suc room) limit bytes h le =
    elim (cases_lt (length bytes) 4) [
      | inl short ↦ ([], bytes, no_frames limit bytes (inl (in_word short)))
      | inr long ↦
          let word = word_of bytes h long in
          let n = word.0 in
          let behind = drop 4 bytes in
          elim (cases_lt limit n) [
            | inl above ↦ ([], bytes, no_frames limit bytes (inr (record { length_word = n; behind = behind; above = above; fits = word.1; text = word.2 })))
            | inr within ↦
                elim (cases_lt (length behind) n) [
                  | inl cut ↦ ([], bytes, no_frames limit bytes (inl (in_payload n behind within word.1 cut word.2)))
                  | inr enough ↦
                      let len : length (take n behind) ≡ n = omega (arith, length-take n behind) in
                      let next = split_within room limit (drop n behind) (IsBytes-drop n behind (IsBytes-drop 4 bytes h)) (omega (arith, length-drop n behind, length-drop 4 bytes)) in (
                        take n behind ∷ next.0,
                        next.1,
                        record {
                          whole = framed_on n bytes behind next.0 next.1 len word.2 next.2.whole;
                          each = All-cons (λ (p : List ℕ). length p ≤ limit) (take n behind) next.0 (omega (arith, len)) next.2.each;
                          no_more = next.2.no_more;
                        },
                      )
                ]
          ]
    ]

pub split_found : (limit : ℕ) (bytes : List ℕ) → All (λ (b : ℕ). b < 256) bytes → (ps : List (List ℕ)) × (rest : List ℕ) × Splits limit bytes ps rest
split_found limit bytes h = split_within (length bytes) limit bytes (IsBytes-all bytes h) (omega arith)
