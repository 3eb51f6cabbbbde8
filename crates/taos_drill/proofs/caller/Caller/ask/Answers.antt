use Rattle.std.proofs.Common.{◌≡◌, ◌++◌, List, [], ℕ, length, sym, ap, subst, ◌∙◌, arith}
use Rattle.std.proofs.lemmas.Result.{on_ok_weaker}
use Rattle.frame_link.specs.Frames.{frame}
use Rattle.taos_wire.specs.Request.{FitsRequest, Request, sealed}
use Rattle.taos_wire.specs.View.{request}
use Rattle.taos_drill.specs.Sent.{asked, object_for}
use Rattle.taos_drill.proofs.Asking.{asked_fits, length-asked}
use Rattle.taos_drill.proofs.caller.Caller.ask.Goals as goal

pub write_request-requires : goal.write_request-requires
write_request-requires c = record {
  limits = subst FitsRequest (sym c.in_ok-request.ensures) (asked_fits c.args.self.now.channel c.args.seq c.args.word c.args.self.now.cert.items c.requires.channel c.ranges.seq.fits c.requires.cert);
}

-- the payload that was written, and read again as a slice
payload_is : (key now new started : List ℕ) (r q : Request) → now ≡ new → new ≡ started ++ sealed key r → started ≡ [] → r ≡ q → now ≡ sealed key q
payload_is key now new started r q read written empty same = read ∙ written ∙ ap (λ (l : List ℕ). l ++ sealed key r) empty ∙ ap (sealed key) same

pub push_frame-requires : goal.push_frame-requires
push_frame-requires c =
    let me = c.args.self.now in
    let q = asked me.channel c.args.seq (object_for me.channel c.args.word) me.cert.items in
    let is = payload_is me.key c.deref.result.now c.write_request.new.out.items c.new-payload.result.items (request c.in_ok-request.request) q c.deref.ensures.value c.in_ok-write_request.ensures.ok c.new-payload.ensures.items c.in_ok-request.ensures in
    omega (arith, ap length is, length-asked me.key me.channel c.args.seq (object_for me.channel c.args.word) me.cert.items, c.requires.cert.0)

pub returns : goal.returns
returns c =
    let me = c.args.self.now in
    let q = asked me.channel c.args.seq (object_for me.channel c.args.word) me.cert.items in
    let is = payload_is me.key c.deref.result.now c.write_request.new.out.items c.new-payload.result.items (request c.in_ok-request.request) q c.deref.ensures.value c.in_ok-write_request.ensures.ok c.new-payload.ensures.items c.in_ok-request.ensures in
    on_ok_weaker c.push_frame.result (λ e. e ∙ ap (λ p. c.args.out.now.items ++ frame p) is) c.push_frame.ensures
