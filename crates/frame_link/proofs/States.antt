-- What a service answered, told by other states.
use Rattle.std.proofs.Common.{ℕ, List, [], ◌∷◌, sym, ap, subst}
use Rattle.frame_link.specs.declared.outcome.Outcome.{Outcome}
use Rattle.frame_link.specs.declared.outcome.Outcome.TheVariants.{End, Truncated, TooLong, ReadFault, WriteFault, ClockFault, Spent, NoMemory}
use Rattle.frame_link.specs.Served.{Line, line, Turn, Chain, AreAnswered, IsServed}

-- what holds of each state from the first on, and what each is told by
module _ {S T : Type 0} (answers : S → List ℕ → List ℕ → S → Type 0) (gives_up : S → List ℕ → S → Type 0) (answers' : T → List ℕ → List ℕ → T → Type 0) (gives_up' : T → List ℕ → T → Type 0)
    (Holds : S → Type 0) (told : S → T)
    (answered : (s : S) (payload reply : List ℕ) (t : S) → Holds s → answers s payload reply t → Holds t × answers' (told s) payload reply (told t))
    (given_up : (s : S) (payload : List ℕ) (t : S) → Holds s → gives_up s payload t → gives_up' (told s) payload (told t)) where
  chain_as : (s : S) (turns : List Turn) (t : S) → Holds s → Chain answers s turns t → Holds t × Chain answers' (told s) turns (told t)
  chain_as s [] t holds chain = (subst Holds (sym chain) holds, ap told chain)
  chain_as s (turn ∷ turns) t holds chain =
      let first = answered s turn.payload turn.reply chain.0 holds chain.1 in
      let later = chain_as chain.0 turns t first.0 chain.2 in
      (later.0, (told chain.0, first.1, later.1))

  answered_as : (s : S) (payloads : List (List ℕ)) (turns : List Turn) (t : S) (outcome : Outcome) → Holds s → AreAnswered answers gives_up s payloads turns t outcome → AreAnswered answers' gives_up' (told s) payloads turns (told t) outcome
  answered_as s payloads turns t ClockFault holds a =
      let before = chain_as s turns a.middle holds a.chain in
      record { last = a.last; middle = told a.middle; all = a.all; chain = before.1; given_up = given_up a.middle a.last t before.0 a.given_up }
  answered_as s payloads turns t (End n) holds a = (a.0, (chain_as s turns t holds a.1).1)
  answered_as s payloads turns t (Truncated have) holds a = (a.0, (chain_as s turns t holds a.1).1)
  answered_as s payloads turns t (TooLong n) holds a = (a.0, (chain_as s turns t holds a.1).1)
  answered_as s payloads turns t ReadFault holds a = (a.0, (chain_as s turns t holds a.1).1)
  answered_as s payloads turns t WriteFault holds a = (a.0, (chain_as s turns t holds a.1).1)
  answered_as s payloads turns t (Spent n) holds a = (a.0, (chain_as s turns t holds a.1).1)
  answered_as s payloads turns t NoMemory holds a = (a.0, (chain_as s turns t holds a.1).1)

  pub served_as : (limit : ℕ) (before after : Line S) (outcome : Outcome) → Holds before.service → IsServed answers gives_up limit before after outcome →
      IsServed answers' gives_up' limit (line before.input before.output (told before.service)) (line after.input after.output (told after.service)) outcome
  served_as limit before after outcome holds c = record {
    taken = c.taken;
    payloads = c.payloads;
    rest = c.rest;
    turns = c.turns;
    written = c.written;
    took = c.took;
    splits = c.splits;
    few = c.few;
    ended = c.ended;
    answered = answered_as before.service c.payloads c.turns after.service outcome holds c.answered;
    went = c.went;
    wrote = c.wrote;
  }

-- what holds of the first state, and stays with each payload, holds of the last
module _ {S : Type 0} (answers : S → List ℕ → List ℕ → S → Type 0) (gives_up : S → List ℕ → S → Type 0) (Holds : S → Type 0)
    (answered : (s : S) (payload reply : List ℕ) (t : S) → Holds s → answers s payload reply t → Holds t)
    (given_up : (s : S) (payload : List ℕ) (t : S) → Holds s → gives_up s payload t → Holds t) where
  chain_holds : (s : S) (turns : List Turn) (t : S) → Holds s → Chain answers s turns t → Holds t
  chain_holds s [] t holds chain = subst Holds (sym chain) holds
  chain_holds s (turn ∷ turns) t holds chain = chain_holds chain.0 turns t (answered s turn.payload turn.reply chain.0 holds chain.1) chain.2

  all_hold : (s : S) (payloads : List (List ℕ)) (turns : List Turn) (t : S) (outcome : Outcome) → Holds s → AreAnswered answers gives_up s payloads turns t outcome → Holds t
  all_hold s payloads turns t ClockFault holds a = given_up a.middle a.last t (chain_holds s turns a.middle holds a.chain) a.given_up
  all_hold s payloads turns t (End n) holds a = chain_holds s turns t holds a.1
  all_hold s payloads turns t (Truncated have) holds a = chain_holds s turns t holds a.1
  all_hold s payloads turns t (TooLong n) holds a = chain_holds s turns t holds a.1
  all_hold s payloads turns t ReadFault holds a = chain_holds s turns t holds a.1
  all_hold s payloads turns t WriteFault holds a = chain_holds s turns t holds a.1
  all_hold s payloads turns t (Spent n) holds a = chain_holds s turns t holds a.1
  all_hold s payloads turns t NoMemory holds a = chain_holds s turns t holds a.1

  pub held_at_end : (limit : ℕ) (before after : Line S) (outcome : Outcome) → Holds before.service → IsServed answers gives_up limit before after outcome → Holds after.service
  held_at_end limit before after outcome holds c = all_hold before.service c.payloads c.turns after.service outcome holds c.answered
