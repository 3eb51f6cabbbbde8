-- A decider that was asked about the live certificates decides by what they say.
use Rattle.std.proofs.Common.{◌≡◌, ℕ, ◌+◌, Bool, true, false, cond, List, [], ◌∷◌, map, length, replicate, All, Option, Some, None, MatchOption, refl, sym, ap, ap₂, ◌∙◌, subst}
use Rattle.std.proofs.lemmas.List.{length-map}
use Rattle.std.proofs.lemmas.List.Elements.{All-head, All-tail}
use Rattle.prin_term.specs.declared.term.Anchor.{Anchor}
use Rattle.prin_term.specs.Principal.{Principal}
use Rattle.prin_term.specs.View.{Grant}
use Rattle.stmt_codec.specs.Certificates.{Certificate, is_live, live, IsLive}
use Rattle.stmt_codec.proofs.Living.{live-is_live}
use Rattle.taos_calculus.specs.Rules.{Claim}
use Rattle.taos_calculus.specs.Monitor.{FirstEntry, Grants, MaySpeak}
use Rattle.taos_calculus.specs.Question.{Question, question_of, claim_of, picked, IsAskable, MayAnswer}
use Rattle.denial_link.specs.Revived.{claims}
use Rattle.denial_link.specs.declared.link.Link.TheVariants.{NoEntry}
use Rattle.denial_link.specs.Links.{NoEntryWith, no_entry}
use Rattle.agent_core.specs.declared.whole_ask.verdict.Decision.TheVariants as finding
use Rattle.agent_core.specs.Judged.{live_marks, Judges}
use Rattle.agent_core.specs.State.{Ask}

-- each is marked where all are live
pub all_marked : (certs : List Certificate) (moment : ℕ) → All (IsLive moment) certs → live_marks certs moment ≡ replicate (length certs) true
all_marked [] moment all = refl
all_marked (c ∷ certs) moment all =
    ap₂ (λ (b : Bool) (bs : List Bool). b ∷ bs) (live-is_live moment c (All-head (IsLive moment) c certs all)) (all_marked certs moment (All-tail (IsLive moment) c certs all))

picked_one : (at : ℕ) (c : Claim) (cs : List Claim) (marks : List Bool) (rest : List Claim) → map (λ (x : ℕ × Claim). x.1) (picked (at + 1) cs marks) ≡ rest →
    (b : Bool) → map (λ (x : ℕ × Claim). x.1) (picked at (c ∷ cs) (b ∷ marks)) ≡ cond b (c ∷ rest) rest
picked_one at c cs marks rest e true = ap (λ (zs : List Claim). c ∷ zs) e
picked_one at c cs marks rest e false = e

map_if : (c : Certificate) (cs : List Certificate) (b : Bool) → cond b (claim_of c ∷ map claim_of cs) (map claim_of cs) ≡ map claim_of (cond b (c ∷ cs) cs)
map_if c cs true = refl
map_if c cs false = refl

picked_live : (at : ℕ) (certs : List Certificate) (moment : ℕ) → map (λ (x : ℕ × Claim). x.1) (picked at (map claim_of certs) (live_marks certs moment)) ≡ claims (live certs moment)
picked_live at [] moment = refl
picked_live at (c ∷ certs) moment =
    picked_one at (claim_of c) (map claim_of certs) (live_marks certs moment) (claims (live certs moment)) (picked_live (at + 1) certs moment) (is_live moment c) ∙
    map_if c (live certs moment) (is_live moment c)

pub askable_live : (anchors : List Anchor) (certs : List Certificate) (marks : List Bool) (moment : ℕ) (subject : Principal) (list : List Grant) → IsAskable anchors certs marks subject list →
    IsAskable anchors certs (live_marks certs moment) subject list
askable_live anchors certs marks moment subject list is = record {
  anchors_fit = is.anchors_fit;
  certs_fit = is.certs_fit;
  chosen_fit = length-map certs (is_live moment);
  subject_fits = is.subject_fits;
  list_fits = is.list_fits;
  entries_fit = is.entries_fit;
}

module _ (anchors : List Anchor) (certs : List Certificate) (moment : ℕ) (subject : Principal) (list : List Grant) (right : ℕ) (q : Question)
    (asked : q ≡ question_of anchors certs (live_marks certs moment) subject list) where
  forth : (who : Principal) → MayAnswer q subject who → MaySpeak anchors (claims (live certs moment)) subject who
  forth who m = subst (λ (cs : List Claim). MaySpeak anchors cs subject who) (picked_live 0 certs moment) (subst (λ (x : Question). MayAnswer x subject who) asked m)

  pub backward : (who : Principal) → MaySpeak anchors (claims (live certs moment)) subject who → MayAnswer q subject who
  backward who m = subst (λ (x : Question). MayAnswer x subject who) (sym asked) (subst (λ (cs : List Claim). MaySpeak anchors cs subject who) (sym (picked_live 0 certs moment)) m)

  pub none_live : NoEntryWith list right (λ e. MayAnswer q subject e.who) → NoEntryWith list right (λ e. MaySpeak anchors (claims (live certs moment)) subject e.who)
  none_live none k e at has speaks = none k e at has (backward e.who speaks)

  pub first_live : (k : ℕ) (e : Grant) → FirstEntry list right (λ g. MayAnswer q subject g.who) k e → FirstEntry list right (λ g. MaySpeak anchors (claims (live certs moment)) subject g.who) k e
  first_live k e f = record {
    stands = f.stands;
    has_right = f.has_right;
    holds = forth e.who f.holds;
    first = λ i d lt at has m. f.first i d lt at has (backward d.who m);
  }

-- where no entry is derivable nothing is granted
pub none_granted : (anchors : List Anchor) (said : List Claim) (subject : Principal) (list : List Grant) (right : ℕ) → NoEntryWith list right (λ e. MaySpeak anchors said subject e.who) → Grants anchors said subject list right → ⊥
none_granted anchors said subject list right none g = none g.place g.entry g.stands g.has_right g.speaks

-- an entry that was found, or none
module _ (anchors : List Anchor) (certs : List Certificate) (moment : ℕ) (subject : Principal) (list : List Grant) (right : ℕ) (q : Question)
    (asked : q ≡ question_of anchors certs (live_marks certs moment) subject list) where
  pub found_live : (r : Option ℕ) → MatchOption r (NoEntryWith list right (λ e. MayAnswer q subject e.who)) (λ k. (e : Grant) × FirstEntry list right (λ g. MayAnswer q subject g.who) k e) →
      MatchOption r (NoEntryWith list right (λ e. MaySpeak anchors (claims (live certs moment)) subject e.who)) (λ k. (e : Grant) × FirstEntry list right (λ g. MaySpeak anchors (claims (live certs moment)) subject g.who) k e)
  found_live None h = none_live anchors certs moment subject list right q asked h
  found_live (Some k) h = (h.0, first_live anchors certs moment subject list right q asked k h.0 h.1)

-- with no such entry nothing is granted, and that is the first link
pub no_right : (anchors : List Anchor) (certs : List Certificate) (moment : ℕ) (a : Ask) → NoEntryWith a.list a.right (λ e. Unit {0}) →
    Judges anchors certs moment a (finding.Denied NoEntry)
no_right anchors certs moment a none = (λ g. none g.place g.entry g.stands g.has_right tt, no_entry none)
