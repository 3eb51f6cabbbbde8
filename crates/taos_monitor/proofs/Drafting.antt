-- Replies that are sealed after they were drafted.
use Rattle.std.proofs.Common.{◌≡◌, ℕ, ◌<◌, ◌≤◌, ◌^◌, List, length, Some, None, replicate, sym, ap, subst, arith, length-append}
use Rattle.taos_wire.specs.Reply.{Reply, reply_text, under_seal}
use Rattle.taos_monitor.specs.Ruling.{Leaves, Drafts}

module _ (channel seq : ℕ) (bytes : List ℕ) (Holds : Reply → Type 0) (left : Drafts channel seq bytes Holds) where
  -- a draft ends in the room for its seal
  pub drafted_long : 32 ≤ length bytes
  drafted_long = omega (arith, ap (λ (b : List ℕ). length b) left.spelled, length-append (reply_text channel seq left.reply) (replicate 32 0))

  -- what is sealed is the same reply
  pub sealed_draft : (key new : List ℕ) → ((text : List ℕ) → bytes ≡ under_seal None text → new ≡ under_seal (Some key) text) → length new ≡ length bytes →
      Leaves channel seq (Some key) new Holds
  sealed_draft key new seals same = record {
    reply = left.reply;
    holds = left.holds;
    spelled = seals (reply_text channel seq left.reply) left.spelled;
    short = subst (λ (n : ℕ). n < 2 ^ 26) (sym same) left.short;
  }
