-- Two openings in which each look-up finds the same show the same findings.
use Rattle.std.proofs.Common.{ℕ, List, map, sym, subst, ◌∙◌}
use Rattle.std.specs.Prelude.{Option}
use Rattle.prin_term.specs.declared.term.Anchor.{Anchor}
use Rattle.prin_term.specs.Principal.{Principal}
use Rattle.prin_term.specs.View.{Grant}
use Rattle.stmt_codec.specs.Certificates.{Certificate}
use Rattle.taos_calculus.specs.Question.{claim_of}
use Rattle.taos_calculus.specs.Rules.{Judgement, Line, SpeaksFor, Proves}
use Rattle.taos_wire.specs.Request.{Request, subject_of}
use Rattle.taos_wire.specs.Reply as answers
use Rattle.object_core.specs.Objects.{ObjectPlan}
use Rattle.node_file.specs.Opening.{Opening}
use Rattle.node_file.specs.Meaning.{SameNode}
use Rattle.node_commands.specs.declared.check.CheckEnd.{CheckEnd}
use Rattle.node_commands.specs.declared.check.CheckEnd.TheVariants as ends
use Rattle.node_commands.specs.declared.finding.Finding.{Finding}
use Rattle.node_commands.specs.Checking.{HasAsked, HasReplied, IsBelieved, IsGrant, IsForObject, IsForEntry, IsProved, ProveByFile, Finds, no_request, no_channel, no_request_seal, no_reply, no_echo, no_reply_seal, no_grant, no_object, no_entry, no_proof, other_conclusion, grants}
use Rattle.node_commands.specs.Findings.{Shows, Checks}

module _ (a b : Opening) (same : SameNode a b) (request reply : Option (List ℕ)) where
  asked : (r : Request) (key : List ℕ) → HasAsked a request r key → HasAsked b request r key
  asked r key h = record { payload = h.payload; there = h.there; asked = record { spelled = h.asked.spelled; keyed = sym (same.channels r.channel) ∙ h.asked.keyed; seal = h.asked.seal } }

  replied : (r : Request) (key bytes : List ℕ) (channel seq : ℕ) (x : answers.Reply) → HasReplied a request reply r key bytes channel seq x → HasReplied b request reply r key bytes channel seq x
  replied r key bytes channel seq x h = record { asked = asked r key h.asked; there = h.there; spelled = h.spelled }

  believed : (r : Request) (key : List ℕ) (x : answers.Reply) → IsBelieved a request reply r key x → IsBelieved b request reply r key x
  believed r key x h = record { bytes = h.bytes; replied = replied r key h.bytes r.channel r.seq x h.replied; seal = h.seal }

  module _ (r : Request) (entry : ℕ) (lines : List Line) (certs : List Certificate) where
    granted : IsGrant a request reply r entry lines certs → IsGrant b request reply r entry lines certs
    granted h = record { key = h.key; kept = h.kept; shard = h.shard; place = h.place; result = h.result; believed = believed r h.key (answers.Granted h.kept entry h.shard h.place lines certs h.result) h.believed }

    found : (object : ObjectPlan) → IsForObject a request reply r entry lines certs object → IsForObject b request reply r entry lines certs object
    found object h = record { grant = granted h.grant; there = sym (same.objects r.object) ∙ h.there }

    listed : (g : Grant) → IsForEntry a request reply r entry lines certs g → IsForEntry b request reply r entry lines certs g
    listed g h = record { object = h.object; found = found h.object h.found; listed = h.listed; has_right = h.has_right }

    gives : (fact : Judgement) → ProveByFile a request reply lines certs fact → ProveByFile b request reply lines certs fact
    gives fact h = subst (λ (l : List Anchor). Proves l (map claim_of certs) lines fact) same.anchors h

    gave : (fact : Judgement) → ProveByFile b request reply lines certs fact → ProveByFile a request reply lines certs fact
    gave fact h = subst (λ (l : List Anchor). Proves l (map claim_of certs) lines fact) (sym same.anchors) h

    proved : (g : Grant) (left right : Principal) → IsProved a request reply r entry lines certs g left right → IsProved b request reply r entry lines certs g left right
    proved g left right h = record { granted = listed g h.granted; proves = gives (SpeaksFor left right) h.proves }

  finds : (f : Finding) → Finds a request reply f → Finds b request reply f
  finds _ (no_request none) = no_request none
  finds _ (no_channel payload r there spelled none) = no_channel payload r there spelled (sym (same.channels r.channel) ∙ none)
  finds _ (no_request_seal payload r key there spelled keyed unsealed) = no_request_seal payload r key there spelled (sym (same.channels r.channel) ∙ keyed) unsealed
  finds _ (no_reply r key h none) = no_reply r key (asked r key h) none
  finds _ (no_echo r key bytes channel seq x h other) = no_echo r key bytes channel seq x (replied r key bytes channel seq x h) other
  finds _ (no_reply_seal r key bytes x h unsealed) = no_reply_seal r key bytes x (replied r key bytes r.channel r.seq x h) unsealed
  finds _ (no_grant r key x h other) = no_grant r key x (believed r key x h) other
  finds _ (no_object r e lines certs h none) = no_object r e lines certs (granted r e lines certs h) (sym (same.objects r.object) ∙ none)
  finds _ (no_entry r e lines certs object h none) = no_entry r e lines certs object (found r e lines certs object h) none
  finds _ (no_proof r e lines certs g h none) = no_proof r e lines certs g (listed r e lines certs g h) (λ left right p. none left right (gave r e lines certs (SpeaksFor left right) p))
  finds _ (other_conclusion r e lines certs g left right h other) = other_conclusion r e lines certs g left right (proved r e lines certs g left right h) other
  finds _ (grants r e lines certs g h) = grants r e lines certs g (proved r e lines certs g (subject_of r) g.who h)

shows : (a b : Opening) → SameNode a b → (in0 in1 : Option (List ℕ)) (f : Finding) → Shows a in0 in1 f → Shows b in0 in1 f
shows a b same in0 in1 f s = record { request = s.request; reply = s.reply; taken = s.taken; finds = finds a b same s.request s.reply f s.finds }

pub checks_at : (a b : Opening) → SameNode a b → (in0 in1 out0 out1 : Option (List ℕ)) (end : CheckEnd) → Checks a in0 in1 out0 out1 end → Checks b in0 in1 out0 out1 end
checks_at a b same in0 in1 out0 out1 (ends.Done f) c = (shows a b same in0 in1 f c.0, c.1)
checks_at a b same in0 in1 out0 out1 ends.WriteFault c = (c.0, shows a b same in0 in1 c.0 c.1, c.2)
checks_at a b same in0 in1 out0 out1 ends.ReadFault c = c
checks_at a b same in0 in1 out0 out1 ends.NoMemory c = c
