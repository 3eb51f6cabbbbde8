-- A connection that is served by what holds a wallet is served by the wallet's rows.
use Rattle.std.proofs.Common.{◌≡◌, ◌∙◌, ℕ, List, refl, subst}
use Rattle.frame_link.specs.declared.outcome.Outcome.{Outcome}
use Rattle.frame_link.specs.Served.{Line, line, IsServed}
use Rattle.frame_link.proofs.States.{served_as}
use Rattle.cred_pull.specs.WalletFile.{WalletRow}
use Rattle.cred_pull.specs.WalletServing.{Answers, GivesUp, Replies}

module _ {S : Type 0} (rows_in : S → List WalletRow) (rows : List WalletRow) where
  -- by what holds the rows
  abbrev pub Answers_in : S → List ℕ → List ℕ → S → Type 0
  Answers_in s payload reply t = Answers (rows_in s) payload reply (rows_in t)

  abbrev pub GivesUp_in : S → List ℕ → S → Type 0
  GivesUp_in s payload t = GivesUp (rows_in s) payload (rows_in t)

  pub by_rows : (limit : ℕ) (before after : Line S) (outcome : Outcome) → rows_in before.service ≡ rows → IsServed Answers_in GivesUp_in limit before after outcome →
      IsServed Answers GivesUp limit (line before.input before.output rows) (line after.input after.output rows) outcome
  by_rows limit before after outcome is served =
      served_as Answers_in GivesUp_in Answers GivesUp (λ s. rows_in s ≡ rows) (λ _. rows)
      (λ s payload reply t holds a. (a.0 ∙ holds, (refl, subst (λ (x : List WalletRow). Replies x payload reply) holds a.1)))
      (λ s payload t holds g. absurd g)
      limit before after outcome is served
