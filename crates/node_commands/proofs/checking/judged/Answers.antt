-- What the check of the proof tells, by the file's anchors and the reply's certificates.
use Rattle.std.proofs.Common.{◌≡◌, true, false, map, sym, ap, subst, ◌∙◌}
use Rattle.std.specs.declared.alloc.Global.{Global}
use Rattle.std.proofs.lemmas.Bool.{false≢true}
use Rattle.prin_term.specs.Principal.{Principal}
use Rattle.prin_term.specs.View.{grant, principal}
use Rattle.taos_calculus.specs.Rules.{SpeaksFor}
use Rattle.taos_calculus.specs.Tables.{lines_of, named}
use Rattle.taos_wire.specs.View.{cited}
use Rattle.node_file.specs.Meaning.{opening}
use Rattle.node_commands.specs.declared.finding.Finding.{Finding}
use Rattle.node_commands.specs.Checking.{Finds, ProveByFile, no_proof, other_conclusion, grants}
use Rattle.node_commands.proofs.Looked.{claims_are, moved_proof}
use Rattle.node_commands.proofs.checking.judged.Goals as goal

pub returns-in_default : goal.returns-in_default
returns-in_default c = λ q p r subject granted.
    no_proof r c.args.place (lines_of c.args.proof.now) (map (cited {Z = Global}) c.args.certs.now) (grant c.args.entry.now) granted
    (λ left right proves. false≢true (c.in_default.ensures.only left right (moved_proof _ _ _ _ (lines_of c.args.proof.now) (SpeaksFor left right) (sym (c.deref-2.ensures.value ∙ ap (λ v. v.items) c.deref.ensures)) (claims_are c.args.certs.now) proves)))

pub returns-then-not-concludes : goal.returns-then-not-concludes
returns-then-not-concludes c = λ q p r subject granted.
    let nodes = c.args.proof.now.nodes in
    let checked = c.in-Ok.ensures.checked in
    let left : Principal = named nodes c.in-Ok.conclusion.left in
    let right : Principal = named nodes c.in-Ok.conclusion.right in
    other_conclusion r c.args.place (lines_of c.args.proof.now) (map (cited {Z = Global}) c.args.certs.now) (grant c.args.entry.now) left right
    (record { granted = granted; proves = moved_proof _ _ _ _ (lines_of c.args.proof.now) (SpeaksFor left right) (c.deref-2.ensures.value ∙ ap (λ v. v.items) c.deref.ensures) (sym (claims_are c.args.certs.now)) checked.proves })
    (λ is_left is_right. let bad : true ≡ false = sym (c.concludes.ensures.no checked.below.0 checked.below.1 (is_left ∙ sym subject) is_right) ∙ c.if-not-concludes.true in absurd cc)

pub returns : goal.returns
returns c = λ q p r subject granted.
    let nodes = c.args.proof.now.nodes in
    let lines = lines_of c.args.proof.now in
    let certs = map (cited {Z = Global}) c.args.certs.now in
    let who : Principal = principal c.args.entry.now.who in
    let left : Principal = named nodes c.in-Ok.conclusion.left in
    let right : Principal = named nodes c.in-Ok.conclusion.right in
    let is = c.concludes.ensures.yes c.if-not-concludes.false in
    let proves : ProveByFile (opening c.args.node.now) q p lines certs (SpeaksFor left right) = moved_proof _ _ _ _ lines (SpeaksFor left right) (c.deref-2.ensures.value ∙ ap (λ v. v.items) c.deref.ensures) (sym (claims_are c.args.certs.now)) c.in-Ok.ensures.checked.proves in
    subst (λ (f : Finding). Finds (opening c.args.node.now) q p f) (sym c.granted.ensures)
    (grants r c.args.place lines certs (grant c.args.entry.now) (record {
      granted = granted;
      proves = subst (λ (x : Principal). ProveByFile (opening c.args.node.now) q p lines certs (SpeaksFor x who)) (is.0 ∙ subject) (subst (λ (y : Principal). ProveByFile (opening c.args.node.now) q p lines certs (SpeaksFor left y)) is.1 proves);
    }))
