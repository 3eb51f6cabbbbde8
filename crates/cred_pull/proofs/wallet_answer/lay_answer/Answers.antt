-- One certificate more is laid after its length, for which there is room.
use Rattle.std.proofs.Common.{◌++◌, ◌∷◌, Bor, List, ℕ, [], length, map, get_or, sym, ap, ◌∙◌, arith, length-append}
use Rattle.std.specs.Int.{w16}
use Rattle.std.specs.List.{flat_map}
use Rattle.std.proofs.lemmas.List.{length-map, take_all}
use Rattle.byte_fields.specs.Steps.{counted}
use Rattle.cred_pull.proofs.Laid.{laid_more, seen, short_here}
use Rattle.cred_pull.proofs.wallet_answer.lay_answer.Goals as goal

-- what stands for a certificate behind the last
abbrev past : Bor (List ℕ)
past = record { ref_ptr = (0, 0); now = [] }

pub overflow_cast-length : goal.overflow_cast-length
overflow_cast-length c = omega (arith, short_here c.args.certs.now c.loop-cert.cert-index past c.loop-cert-test.true c.requires.short)

pub unwrap-requires-in-loop-cert : goal.unwrap-requires-in-loop-cert
unwrap-requires-in-loop-cert c =
    let short = short_here c.args.certs.now c.loop-cert.cert-index past c.loop-cert-test.true c.requires.short in
    let one = rw c.unwrap.ensures at c.try_extend_from_slice.ensures.ok in
    c.try_extend_from_slice-in-loop-cert.ensures.variant.1
    (omega (arith, short, c.loop-cert.invariant.room, c.loop-cert-test.true, c.requires.few, ap length one, length-append c.loop-cert.reply.items c.to_be_bytes.result, ap length c.to_be_bytes.ensures))

pub loop-cert-preserved : goal.loop-cert-preserved
loop-cert-preserved c =
    let certs = c.args.certs.now in
    let i = c.loop-cert.cert-index in
    let short = short_here certs i past c.loop-cert-test.true c.requires.short in
    let reply = c.loop-cert.reply.items in
    let first = c.try_extend_from_slice.new.self.items in
    let new = c.try_extend_from_slice-in-loop-cert.new.self.items in
    let one = rw c.unwrap.ensures at c.try_extend_from_slice.ensures.ok in
    let two = rw c.unwrap-in-loop-cert.ensures at c.try_extend_from_slice-in-loop-cert.ensures.ok in
    record {
      index = omega (arith, c.loop-cert-test.true);
      laid = laid_more certs i past c.loop-cert-test.true (9 ∷ length certs ∷ []) reply first new c.loop-cert.invariant.laid (one ∙ ap (λ (b : List ℕ). reply ++ b) c.to_be_bytes.ensures) two;
      room = omega (arith, short, c.loop-cert.invariant.room, ap length one, length-append reply c.to_be_bytes.result, ap length c.to_be_bytes.ensures, ap length two, length-append first (seen (get_or certs i past)));
    }

pub returns-clause-short : goal.returns-clause-short
returns-clause-short c = omega (arith, c.loop-cert.invariant.room, c.loop-cert-test.false, c.loop-cert.invariant.index, c.requires.few)

pub returns-clause-reply : goal.returns-clause-reply
returns-clause-reply c =
    let now : Bor (List ℕ) → List ℕ = λ t. t.now in
    c.loop-cert.invariant.laid
    ∙ ap (λ (l : List (List ℕ)). 9 ∷ length c.args.certs.now ∷ flat_map (counted w16) l) (take_all c.loop-cert.cert-index (map now c.args.certs.now) (omega (arith, c.loop-cert-test.false, length-map c.args.certs.now now)))
    ∙ ap (λ (n : ℕ). 9 ∷ n ∷ flat_map (counted w16) (map now c.args.certs.now)) (sym (length-map c.args.certs.now now))
