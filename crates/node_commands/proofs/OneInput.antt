-- An input that tells its bytes has one next frame, or none; so it shows one finding.
use Rattle.std.proofs.Common.{◌≡◌, ◌⊎◌, ℕ, ◌^◌, ◌<◌, List, [], ◌++◌, length, None, Some, refl, sym, ap, subst, ◌∙◌, append_assoc, arith, inl, inr}
use Rattle.std.specs.Prelude.{Option}
use Rattle.std.specs.Int.{w32, to_be_bytes}
use Rattle.frame_link.specs.declared.frame.Next.{Next}
use Rattle.frame_link.specs.declared.frame.Next.TheVariants as next
use Rattle.frame_link.specs.Frames.{frame, IsPart, IsTooLong, in_word}
use Rattle.frame_link.proofs.Splits.{word_once, same_front, no_frame}
use Rattle.node_file.specs.Opening.{Opening}
use Rattle.node_commands.specs.declared.finding.Finding.{Finding}
use Rattle.node_commands.specs.Checking.{Finds}
use Rattle.frame_link.specs.declared.service.TheConstants.{MAX_PAYLOAD}
use Rattle.node_commands.specs.Findings.{IsMissing, TakesNext, TakesOne, TakesFrames, Shows}
use Rattle.node_commands.specs.declared.check.TheConstants.{MAX_REPLY}
use Rattle.frame_link.proofs.Complete.{left_after, all_taken}
use Rattle.node_commands.proofs.OneFinding as law

missing_by : (limit : ℕ) (bytes : List ℕ) (x : Option (List ℕ)) (other : Next) → IsMissing other → TakesNext limit (Some bytes) x [] other → IsPart limit bytes ⊎ IsTooLong limit bytes
missing_by limit bytes x next.End is t = inl (in_word (omega (arith, ap length (all_taken bytes [] x t.0 t.1))))
missing_by limit bytes x (next.Truncated have) is t = inl (subst (IsPart limit) (sym (all_taken bytes t.0 x t.4 t.5)) t.1)
missing_by limit bytes x (next.TooLong n) is t =
    let rest = left_after bytes (to_be_bytes w32 n) x t.2 in
    inr (record { length_word = n; behind = rest.0; above = t.0; fits = t.1; text = rest.2 })
missing_by limit bytes x next.Frame is t = absurd is
missing_by limit bytes x next.ReadFault is t = absurd is

one_whole : (limit : ℕ) (bytes p q : List ℕ) (x y : Option (List ℕ)) → limit < 2 ^ 32 → TakesOne limit (Some bytes) x (Some p) → TakesOne limit (Some bytes) y (Some q) → (p ≡ q) × (x ≡ y)
one_whole limit bytes p q x y small t u =
    let r = left_after bytes (frame p) x t.1 in
    let s = left_after bytes (frame q) y u.1 in
    let same = word_once (length p) (length q) (p ++ r.0) (q ++ s.0) (omega (arith, t.0, small)) (omega (arith, u.0, small))
    (sym (append_assoc (to_be_bytes w32 (length p)) p r.0) ∙ sym r.2 ∙ s.2 ∙ append_assoc (to_be_bytes w32 (length q)) q s.0) in
    let payload = same_front p q r.0 s.0 same.0 same.1 in
    (payload.0, r.1 ∙ ap (λ (l : List ℕ). Some l) payload.1 ∙ sym s.1)

not_both : (limit : ℕ) (bytes p : List ℕ) (x y : Option (List ℕ)) → limit < 2 ^ 32 → TakesOne limit (Some bytes) x (Some p) → TakesOne limit (Some bytes) y None → ⊥
not_both limit bytes p x y small t u =
    let r = left_after bytes (frame p) x t.1 in
    no_frame limit p r.0 bytes small t.0 (missing_by limit bytes y u.0 u.1 u.2) r.2

one_frame : (limit : ℕ) (bytes : List ℕ) (x y p q : Option (List ℕ)) → limit < 2 ^ 32 → TakesOne limit (Some bytes) x p → TakesOne limit (Some bytes) y q → p ≡ q
one_frame limit bytes x y (Some p) (Some q) small t u = ap (λ (l : List ℕ). Some l) (one_whole limit bytes p q x y small t u).0
one_frame limit bytes x y (Some p) None small t u = absurd (not_both limit bytes p x y small t u)
one_frame limit bytes x y None (Some q) small t u = absurd (not_both limit bytes q y x small u t)
one_frame limit bytes x y None None small t u = refl

one_pair : (bytes : List ℕ) (x y q p r s : Option (List ℕ)) → TakesFrames (Some bytes) x q p → TakesFrames (Some bytes) y r s → (q ≡ r) × (p ≡ s)
one_pair bytes x y (Some q) p (Some r) s t u =
    let first = one_whole MAX_PAYLOAD bytes q r t.middle u.middle (omega arith) t.first u.first in
    let rest = left_after bytes (frame q) t.middle t.first.1 in
    let mine = subst (λ (m : Option (List ℕ)). TakesOne MAX_REPLY m x p) rest.1 t.behind in
    let other = subst (λ (m : Option (List ℕ)). TakesOne MAX_REPLY m y s) (sym first.1 ∙ rest.1) u.behind in
    (ap (λ (l : List ℕ). Some l) first.0, one_frame MAX_REPLY rest.0 x y p s (omega arith) mine other)
one_pair bytes x y (Some q) p None s t u = absurd (not_both MAX_PAYLOAD bytes q t.middle y (omega arith) t.first u.0)
one_pair bytes x y None p (Some r) s t u = absurd (not_both MAX_PAYLOAD bytes r u.middle x (omega arith) u.first t.0)
one_pair bytes x y None p None s t u = (refl, t.1 ∙ sym u.1)

pub one_check : (o : Opening) (bytes : List ℕ) (x y : Option (List ℕ)) (a b : Finding) → Shows o (Some bytes) x a → Shows o (Some bytes) y b → a ≡ b
one_check o bytes x y a b s t =
    let same = one_pair bytes x y s.request s.reply t.request t.reply s.taken t.taken in
    law.one_finding o s.request s.reply a b s.finds
    (subst (λ (q : Option (List ℕ)). Finds o q s.reply b) (sym same.0) (subst (λ (p : Option (List ℕ)). Finds o t.request p b) (sym same.1) t.finds))
