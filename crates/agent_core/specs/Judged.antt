-- The verdict on an Ask, by certificates and a moment.
use Rattle.std.specs.Prelude.{ℕ, Bool, true, List, length, map, replicate, MatchOption, Option}
use Rattle.prin_term.specs.declared.term.Anchor.{Anchor}
use Rattle.prin_term.specs.Principal.{Principal}
use Rattle.prin_term.specs.View.{Grant}
use Rattle.stmt_codec.specs.Certificates.{Certificate, is_live, live}
use Rattle.stmt_codec.specs.View.{certificates}
use Rattle.taos_calculus.specs.Monitor.{FirstEntry, Grants, MaySpeak}
use Rattle.taos_calculus.specs.Question.{IsAskable, Question, question_of}
use Rattle.denial_link.specs.Revived.{claims}
use Rattle.denial_link.specs.Links.{IsFirstLink, NoEntryWith}
use Rattle.agent_core.specs.declared.told.Snapshot.{Snapshot}
use Rattle.agent_core.specs.declared.whole_ask.verdict.Decision.{Decision}
use Rattle.agent_core.specs.declared.whole_ask.verdict.Decision.TheVariants as finding
use Rattle.agent_core.specs.Journals.{Verdict, Granted, Denied}
use Rattle.agent_core.specs.State.{Ask}

-- for each certificate, whether it is live at the moment
abbrev pub live_marks : List Certificate → ℕ → List Bool
live_marks certs moment = map (is_live moment) certs

module _ (anchors : List Anchor) (certs : List Certificate) (moment : ℕ) (subject : Principal)
    (list : List Grant) (right : ℕ) where
  -- the subject speaks for the entry's principal, by the live certificates
  abbrev pub SpeaksNow : Grant → Type 0
  SpeaksNow g = MaySpeak anchors (claims (live certs moment)) subject g.who

  -- this is the place of the first entry with the right for which it speaks; or there is none
  abbrev pub IsFirstGranted : Option ℕ → Type 0
  IsFirstGranted found =
      MatchOption found (NoEntryWith list right SpeaksNow)
      (λ k. (e : Grant) × FirstEntry list right SpeaksNow k e)

-- an Ask may be judged by what it was handed out: both are within the limits of a question
abbrev pub MayBeJudged : List Anchor → Snapshot → Ask → Type 0
MayBeJudged anchors snapshot a =
    IsAskable anchors (certificates snapshot.certs.items)
    (replicate (length snapshot.certs.items) true) a.subject a.list

module _ (anchors : List Anchor) (certs : List Certificate) (moment : ℕ) (a : Ask) where
  -- this is the place of the first entry that grants the Ask by the live certificates; or there is
  -- none
  abbrev pub FindsGrant : Option ℕ → Type 0
  FindsGrant found = IsFirstGranted anchors certs moment a.subject a.list a.right found

  -- the Ask is granted by the live certificates
  abbrev pub GrantsNow : Type 0
  GrantsNow = Grants anchors (claims (live certs moment)) a.subject a.list a.right

  -- what a decider is asked for the Ask: about the live certificates
  abbrev pub live_question : Question
  live_question = question_of anchors certs (live_marks certs moment) a.subject a.list

-- what is found is the monitor's verdict: the first entry that grants; or the first link, where
-- nothing is granted
abbrev pub Judges : List Anchor → List Certificate → ℕ → Ask → Decision → Type 0
Judges anchors certs moment a (finding.Granted place) =
    (e : Grant) × FirstEntry a.list a.right
    (λ g. MaySpeak anchors (claims (live certs moment)) a.subject g.who) place e
Judges anchors certs moment a (finding.Denied link) =
    (GrantsNow anchors certs moment a → ⊥)
    × IsFirstLink anchors certs moment a.subject a.list a.right link

-- the verdict that a finding is
abbrev pub verdict_of : Decision → Verdict
verdict_of (finding.Granted place) = Granted
verdict_of (finding.Denied link) = Denied link

-- the finding grants
abbrev pub IsGrant : Decision → Type 0
IsGrant (finding.Granted place) = Unit {0}
IsGrant (finding.Denied link) = ⊥
