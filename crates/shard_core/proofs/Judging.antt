-- The three ends of an Ask at a state that was swept for it.
use Rattle.std.proofs.Common.{◌≡◌, ℕ, ◌+◌, ◌<◌, ◌≤◌, cond, ◌++◌, length, max, sym, ap, ◌∙◌, arith, nat_lt}
use Rattle.std.proofs.lemmas.Bool.{le-leb, lt-leb, lt-ltb, le-ltb}
use Rattle.agent_core.specs.declared.told.Told.{Told}
use Rattle.agent_core.specs.State.{Plan, State, Ask, Asks, Answer, Judged, Plain, asking, taking, brought, swept, next}
use Rattle.shard_core.specs.Looking.{IsTaken}

module _ (s : State) (a : Ask) where
  later : State × Answer
  later = cond (nat_lt 32 (length (s.own a.channel) + length (brought s a))) (s, Plain (Told.Full (length (s.own a.channel)))) (taking s a, Judged s.clock ((s.own a.channel ++ brought s a) ++ s.commons))

  pub replayed : (last : ℕ) → s.last a.channel ≡ last → a.seq ≤ last → asking s a ≡ (s, Plain (Told.Replayed last))
  unfolding later
  replayed last e le =
      ap (λ b. cond b (s, Plain (Told.Replayed (s.last a.channel))) later) (le-leb a.seq (s.last a.channel) (omega (arith, e, le))) ∙ ap (λ n. (s, Plain (Told.Replayed n))) e

  not_replayed : s.last a.channel < a.seq → asking s a ≡ later
  unfolding later
  not_replayed lt = ap (λ b. cond b (s, Plain (Told.Replayed (s.last a.channel))) later) (lt-leb a.seq (s.last a.channel) lt)

  pub full : (held : ℕ) → s.last a.channel < a.seq → length (s.own a.channel) ≡ held → 32 < held + length (brought s a) → asking s a ≡ (s, Plain (Told.Full held))
  unfolding later
  full held lt e more =
      not_replayed lt ∙
      ap (λ b. cond b (s, Plain (Told.Full (length (s.own a.channel)))) (taking s a, Judged s.clock ((s.own a.channel ++ brought s a) ++ s.commons))) (lt-ltb 32 (length (s.own a.channel) + length (brought s a)) (omega (arith, e, more))) ∙
      ap (λ n. (s, Plain (Told.Full n))) e

  pub taken : IsTaken s a → asking s a ≡ (taking s a, Judged s.clock ((s.own a.channel ++ brought s a) ++ s.commons))
  unfolding later
  taken is =
      not_replayed is.new ∙
      ap (λ b. cond b (s, Plain (Told.Full (length (s.own a.channel)))) (taking s a, Judged s.clock ((s.own a.channel ++ brought s a) ++ s.commons))) (le-ltb 32 (length (s.own a.channel) + length (brought s a)) is.fits)

-- an Ask is answered at the state that is swept at its moment
pub asked_at : (plan : Plan) (s : State) (a : Ask) (clock moment : ℕ) → clock ≡ s.clock → moment ≡ max clock a.reading → next plan s (Asks a) ≡ asking (swept plan.keep moment s) a
asked_at plan s a clock moment c m = ap (λ n. asking (swept plan.keep n s) a) (sym (m ∙ ap (λ n. max n a.reading) c))
