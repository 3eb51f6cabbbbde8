-- the decider's proof cites live certificates alone, by their places
use Rattle.std.proofs.Common.{◌≡◌, map, refl, sym, ap, ◌∙◌, subst, arith}
use Rattle.std.proofs.lemmas.List.{length-map}
use Rattle.std.proofs.lemmas.Option.{slice_get_within, same_Some}
use Rattle.prin_term.specs.View.{Grant, grant, principal}
use Rattle.stmt_codec.specs.Certificates.{live}
use Rattle.stmt_codec.specs.View.{certificates}
use Rattle.taos_calculus.specs.Monitor.{MaySpeak}
use Rattle.taos_calculus.specs.Tables.{lines_of}
use Rattle.denial_link.specs.Revived.{claims}
use Rattle.proof_cache.specs.Cached.{cached}
use Rattle.denial_link.proofs.Entries.{part_of_subject, entry_is_term}
use Rattle.denial_link.proofs.Places.{certificate_count, entry_at}
use Rattle.denial_link.proofs.Reaching.{part_itself}
use Rattle.agent_core.specs.Views.{ask_of}
use Rattle.agent_core.proofs.Citing.{cites, proof_made}
use Rattle.agent_core.proofs.Marks.{backward}
use Rattle.agent_core.proofs.whole_ask.grant.proof_for.Goals as goal

pub take_proof-requires-clause-left : goal.take_proof-requires-clause-left
take_proof-requires-clause-left g c =
    part_of_subject c.args.anchors.now (certificates c.args.snapshot.now.certs.items) (principal c.args.asked.now.subject) (map grant c.args.asked.now.list.value.items) (g.D.Decide.question c.args.bench.now) _
    c.requires.asked _ (part_itself (principal c.args.asked.now.subject))

pub take_proof-requires-clause-right : goal.take_proof-requires-clause-right
take_proof-requires-clause-right g c =
    let within = slice_get_within (map grant c.args.asked.now.list.value.items) c.args.entry c.requires.granted.grant c.requires.granted.stands in
    let at = entry_at c.args.asked.now.list.value.items c.args.entry c.index.result.now (rw c.deref.ensures at c.index.ensures) (omega (arith, within, length-map c.args.asked.now.list.value.items grant)) in
    entry_is_term c.args.anchors.now (certificates c.args.snapshot.now.certs.items) (principal c.args.asked.now.subject) (map grant c.args.asked.now.list.value.items) (g.D.Decide.question c.args.bench.now) _
    c.requires.asked c.args.entry (grant c.index.result.now) at

pub take_proof-requires-clause-derivable : goal.take_proof-requires-clause-derivable
take_proof-requires-clause-derivable g c =
    let within = slice_get_within (map grant c.args.asked.now.list.value.items) c.args.entry c.requires.granted.grant c.requires.granted.stands in
    let at = entry_at c.args.asked.now.list.value.items c.args.entry c.index.result.now (rw c.deref.ensures at c.index.ensures) (omega (arith, within, length-map c.args.asked.now.list.value.items grant)) in
    let same : c.requires.granted.grant ≡ grant c.index.result.now = same_Some c.requires.granted.grant (grant c.index.result.now) (sym c.requires.granted.stands ∙ at) in
    backward c.args.anchors.now (certificates c.args.snapshot.now.certs.items) c.args.snapshot.now.moment (principal c.args.asked.now.subject) (map grant c.args.asked.now.list.value.items) 0 (g.D.Decide.question c.args.bench.now)
    c.requires.asked (principal c.index.result.now.who)
    (subst (λ (e : Grant). MaySpeak c.args.anchors.now (claims (live (certificates c.args.snapshot.now.certs.items) c.args.snapshot.now.moment)) (principal c.args.asked.now.subject) e.who) same c.requires.granted.speaks)

pub push_cited-requires : goal.push_cited-requires
push_cited-requires g c =
    let all = (cites c.args.anchors.now (certificates c.args.snapshot.now.certs.items) c.args.snapshot.now.moment (ask_of c.args.asked.now) (g.D.Decide.question c.args.bench.now)
    c.requires.asked (principal c.index.result.now.who) (lines_of c.in_ok-taken.taken.proof) c.in_ok-taken.taken.cites.items c.in_ok-taken.ensures.taken).inside in
    rw (c.deref-3.ensures.value, c.deref-2.ensures.value, sym (certificate_count c.args.snapshot.now.certs.items)) all

pub returns : goal.returns
returns g c =
    let within = slice_get_within (map grant c.args.asked.now.list.value.items) c.args.entry c.requires.granted.grant c.requires.granted.stands in
    let at = entry_at c.args.asked.now.list.value.items c.args.entry c.index.result.now (rw c.deref.ensures at c.index.ensures) (omega (arith, within, length-map c.args.asked.now.list.value.items grant)) in
    let gathered = rw (c.deref-2.ensures.value, c.deref-3.ensures.value, c.in_ok-cites.ensures.items) at c.in_ok-push_cited.ensures in
    let lease = rw c.deref-4.ensures.value at c.lease_of-lease.ensures in
    proof_made c.args.anchors.now (certificates c.args.snapshot.now.certs.items) c.args.snapshot.now.moment (ask_of c.args.asked.now) (g.D.Decide.question c.args.bench.now)
    c.requires.asked (principal c.index.result.now.who) (lines_of c.in_ok-taken.taken.proof) c.in_ok-taken.taken.cites.items c.in_ok-taken.ensures.taken
    c.args.entry (grant c.index.result.now) (cached (record { subject = c.in_ok-subject.subject; who = c.in_ok-who.who; proof = c.in_ok-proof.proof; cites = c.push_cited.new.out; lease = c.lease_of-lease.result; leased = lease })) at refl
    c.in_ok-subject.ensures c.in_ok-who.ensures (ap lines_of c.in_ok-proof.ensures.ok) gathered lease
