-- One that is too long is not sent; one that comes is sealed, and one that is refused is skipped.
use Rattle.std.proofs.Common.{arith}
use Rattle.std.specs.Arc.{arc_value}
use Rattle.stmt_codec.specs.Certificates.{certificate}
use Rattle.taos_wire.specs.View.{text_of}
use Rattle.cred_pull.proofs.Pulls.{comes_within, pulls_long, pulls_none, pulls_one, left_failed, left_lacking, left_unformed}
use Rattle.cred_pull.proofs.pulling.form_of.Goals as goal

pub returns-then-text-gt-MAX_CERT-clause-pulled : goal.returns-then-text-gt-MAX_CERT-clause-pulled
returns-then-text-gt-MAX_CERT-clause-pulled g c =
    pulls_long c.args.key.now c.args.text.now (g.O.Opens.shown c.args.by.now).node (g.O.Opens.shown c.args.by.now).link (omega (arith, c.if-text-gt-MAX_CERT.true))

pub sealed-requires : goal.sealed-requires
sealed-requires g c =
    let came = c.in-Ok.ensures.came in
    rw c.deref.ensures (comes_within (g.O.Opens.shown c.args.by.now).key c.args.text.now came.calls (certificate (arc_value c.in-Ok.cert).body) came.comes)

pub returns-in-Ok-sealed-clause-pulled : goal.returns-in-Ok-sealed-clause-pulled
returns-in-Ok-sealed-clause-pulled g c =
    let before = (g.O.Opens.shown c.args.by.now) in
    let now = (g.O.Opens.shown c.open.new.self) in
    let cert = certificate (arc_value c.in-Ok.cert).body in
    let came = rw c.requires.one_key at c.in-Ok.ensures.came in
    let form = rw c.deref.ensures at c.in-Ok-sealed.ensures in
    pulls_one c.args.key.now c.args.text.now before.node before.link now.link (omega (arith, c.if-text-gt-MAX_CERT.false)) cert (text_of c.in-Ok-sealed.form) came form

pub returns-in-Ok-clause-left_off : goal.returns-in-Ok-clause-left_off
returns-in-Ok-clause-left_off g c =
    left_unformed (g.O.Opens.shown c.args.by.now).key c.args.text.now (g.O.Opens.shown c.args.by.now).node (g.O.Opens.shown c.args.by.now).link (g.O.Opens.shown c.open.new.self).link (certificate (arc_value c.in-Ok.cert).body) c.in-Ok.ensures.came

pub returns-in-Err-Refused-clause-pulled : goal.returns-in-Err-Refused-clause-pulled
returns-in-Err-Refused-clause-pulled g c =
    let stops = rw (c.requires.one_key, c.in-Err-Refused.field-0-is) at c.in-Err-Refused.ensures.stopped in
    pulls_none c.args.key.now c.args.text.now (g.O.Opens.shown c.args.by.now).node (g.O.Opens.shown c.args.by.now).link (g.O.Opens.shown c.open.new.self).link (omega (arith, c.if-text-gt-MAX_CERT.false)) _ stops

pub returns-in-Err-LinkFailed-clause-left_off : goal.returns-in-Err-LinkFailed-clause-left_off
returns-in-Err-LinkFailed-clause-left_off g c =
    let stops = rw c.in-Err-LinkFailed.field-0-is at c.in-Err-LinkFailed.ensures.stopped in
    left_failed (g.O.Opens.shown c.args.by.now).key c.args.text.now (g.O.Opens.shown c.args.by.now).node (g.O.Opens.shown c.args.by.now).link (g.O.Opens.shown c.open.new.self).link (omega (arith, c.if-text-gt-MAX_CERT.false)) stops

pub returns-clause-left_off : goal.returns-clause-left_off
returns-clause-left_off g c =
    let stops = rw c.in-Err-NoMemory.field-0-is at c.in-Err-NoMemory.ensures.stopped in
    left_lacking (g.O.Opens.shown c.args.by.now).key c.args.text.now (g.O.Opens.shown c.args.by.now).node (g.O.Opens.shown c.args.by.now).link (g.O.Opens.shown c.open.new.self).link stops
