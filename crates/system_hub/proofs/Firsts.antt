-- What bytes begin with, by their first four.
use Rattle.std.proofs.Common.{◌≡◌, ◌⊎◌, length-append, lit<, ℕ, ◌-◌, ◌^◌, ◌<◌, ◌≤◌, List, ◌++◌, length, take, drop, sym, ap, ◌∙◌, arith, length-take, length-drop, append_assoc}
use Rattle.std.specs.Int.{w32, to_be_bytes}
use Rattle.std.proofs.lemmas.List.{take-append-drop}
use Rattle.frame_link.specs.Frames.{frame, IsPart, in_word, in_payload, IsTooLong}
use Rattle.frame_link.proofs.Splits.{word_once, no_frame}
use Rattle.frame_link.specs.declared.service.TheConstants.{MAX_PAYLOAD}
use Rattle.system_hub.specs.First.{IsFirst}
use Rattle.system_hub.specs.declared.machine.inbox.First.TheVariants.{Whole}

-- the number's four bytes, and what stands behind them
pub word_then : (n : ℕ) (bytes : List ℕ) → to_be_bytes w32 n ≡ take 4 bytes →
    bytes ≡ to_be_bytes w32 n ++ drop 4 bytes
word_then n bytes e =
    sym (take-append-drop 4 bytes) ∙ ap (λ (x : List ℕ). x ++ drop 4 bytes) (sym e)

-- fewer bytes stand behind the number than it says
pub begins_part : (n : ℕ) (bytes : List ℕ) → n ≤ MAX_PAYLOAD → n < 2 ^ 32 →
    to_be_bytes w32 n ≡ take 4 bytes → length bytes - 4 < n → IsPart MAX_PAYLOAD bytes
begins_part n bytes le below e short =
    in_payload n (drop 4 bytes) le below (omega (arith, length-drop 4 bytes)) (word_then n bytes e)

-- as many bytes stand behind it
pub begins_whole : (n : ℕ) (bytes : List ℕ) → n ≤ MAX_PAYLOAD → 4 ≤ length bytes →
    to_be_bytes w32 n ≡ take 4 bytes → n ≤ length bytes - 4 → IsFirst bytes (Whole n)
begins_whole n bytes le four e fits =
    let payload : List ℕ = take n (drop 4 bytes) in
    let rest : List ℕ = drop n (drop 4 bytes) in
    let len : length payload ≡ n = omega (arith, length-take n (drop 4 bytes), length-drop 4 bytes) in
    let word : bytes ≡ to_be_bytes w32 n ++ (payload ++ rest) =
    word_then n bytes e
    ∙ ap (λ (x : List ℕ). to_be_bytes w32 n ++ x) (sym (take-append-drop n (drop 4 bytes))) in
    let whole : bytes ≡ frame payload ++ rest =
    word
    ∙ sym (append_assoc (to_be_bytes w32 n) payload rest)
    ∙ ap (λ (m : ℕ). (to_be_bytes w32 m ++ payload) ++ rest) (sym len) in
    (payload, rest, whole, len, le)

-- less than a frame is not a length above the limit
pub part_not_long : (limit : ℕ) (bytes : List ℕ) → IsPart limit bytes → IsTooLong limit bytes → ⊥
part_not_long limit bytes (in_word short) long =
    absurd (omega (arith, short, ap (λ (x : List ℕ). length x) long.text, length-append (to_be_bytes w32 long.length_word) long.behind))
part_not_long limit bytes (in_payload n front le below short text) long =
    let same = word_once n long.length_word front long.behind below long.fits (sym text ∙ long.text) in
    absurd (omega (arith, same.0, le, long.above))

-- a whole frame is neither
pub whole_is_all : (bytes : List ℕ) (n : ℕ) → IsFirst bytes (Whole n) → IsPart MAX_PAYLOAD bytes ⊎ IsTooLong MAX_PAYLOAD bytes → ⊥
whole_is_all bytes n whole other =
    no_frame MAX_PAYLOAD whole.0 whole.1 bytes (lit< tt) (omega (arith, whole.3, whole.4)) other whole.2
