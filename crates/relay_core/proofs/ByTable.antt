-- A connection that is served by what holds a table is served by the table.
use Rattle.std.proofs.Common.{◌≡◌, ◌∙◌, ℕ, List, [], ◌∷◌, refl, subst}
use Rattle.std.specs.Prelude.{All}
use Rattle.std.proofs.lemmas.List.Elements.{All-nil, All-cons}
use Rattle.frame_link.specs.declared.outcome.Outcome.{Outcome}
use Rattle.frame_link.specs.declared.outcome.Outcome.TheVariants.{End, Truncated, TooLong, ReadFault, WriteFault, ClockFault, Spent, NoMemory}
use Rattle.frame_link.specs.Served.{Line, line, Turn, payloads_of, Chain, AreAnswered, IsServed}
use Rattle.frame_link.proofs.States.{served_as}
use Rattle.relay_core.specs.declared.resealing.RelayTable.{RelayTable}
use Rattle.relay_core.specs.Messages.{Replies}
use Rattle.relay_core.specs.Serving.{Answers, GivesUp, IsReply}

module _ {S : Type 0} (table_of : S → RelayTable) (table : RelayTable) where
  -- by what holds the table
  abbrev pub Answers_in : S → List ℕ → List ℕ → S → Type 0
  Answers_in s payload reply t = Answers (table_of s) payload reply (table_of t)

  abbrev pub GivesUp_in : S → List ℕ → S → Type 0
  GivesUp_in s payload t = GivesUp (table_of s) payload (table_of t)

  pub by_table : (limit : ℕ) (before after : Line S) (outcome : Outcome) → table_of before.service ≡ table → IsServed Answers_in GivesUp_in limit before after outcome →
      IsServed Answers GivesUp limit (line before.input before.output table) (line after.input after.output table) outcome
  by_table limit before after outcome is served =
      served_as Answers_in GivesUp_in Answers GivesUp (λ s. table_of s ≡ table) (λ _. table)
      (λ s payload reply t holds a. (a.0 ∙ holds, (refl, subst (λ (x : RelayTable). Replies x.issuers.entries x.nodes.entries payload reply) holds a.1)))
      (λ s payload t holds g. absurd g)
      limit before after outcome is served

-- ---- each turn by itself

each_of : (table s : RelayTable) (turns : List Turn) (t : RelayTable) → s ≡ table → Chain Answers s turns t → All (IsReply table) turns
each_of table s [] t is chain = All-nil (IsReply table)
each_of table s (turn ∷ turns) t is chain =
    All-cons (IsReply table) turn turns (subst (λ (x : RelayTable). IsReply x turn) is chain.1.1) (each_of table chain.0 turns t (chain.1.0 ∙ is) chain.2)

of_all : (s : RelayTable) (payloads : List (List ℕ)) (turns : List Turn) (t : RelayTable) (outcome : Outcome) → AreAnswered Answers GivesUp s payloads turns t outcome → (payloads ≡ payloads_of turns) × Chain Answers s turns t
of_all s payloads turns t (End n) a = a
of_all s payloads turns t (Truncated have) a = a
of_all s payloads turns t (TooLong n) a = a
of_all s payloads turns t ReadFault a = a
of_all s payloads turns t WriteFault a = a
of_all s payloads turns t ClockFault a = absurd a.given_up
of_all s payloads turns t (Spent n) a = a
of_all s payloads turns t NoMemory a = a

pub each_replies : (limit : ℕ) (before after : Line RelayTable) (outcome : Outcome) (served : IsServed Answers GivesUp limit before after outcome) → All (IsReply before.service) served.turns
each_replies limit before after outcome served =
    each_of before.service before.service served.turns after.service refl (of_all before.service served.payloads served.turns after.service outcome served.answered).1

pub each_has_turn : (limit : ℕ) (before after : Line RelayTable) (outcome : Outcome) (served : IsServed Answers GivesUp limit before after outcome) → served.payloads ≡ payloads_of served.turns
each_has_turn limit before after outcome served = (of_all before.service served.payloads served.turns after.service outcome served.answered).0
