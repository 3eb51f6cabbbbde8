use Rattle.std.proofs.Common.{Err, sym, ap, ◌∙◌, inr, arith}
use Rattle.prin_term.specs.declared.limits.TheConstants.{CERT_NODES}
use Rattle.prin_term.specs.View.{principal}
use Rattle.prin_text.specs.Reading.{measured, principal_in}
use Rattle.prin_text.specs.View.{piece}
use Rattle.prin_text.proofs.Entries.{gives_same}
use Rattle.prin_text.proofs.Stops.{left_over, none_left}
use Rattle.prin_text.proofs.reading.read_principal.Goals as goal

-- a `;` is left
pub returns-then-stop-bytes : goal.returns-then-stop-bytes
returns-then-stop-bytes c =
    let bytes = c.as_bytes-bytes.result.now in
    record { exact = inr (ap (principal_in c.args.names.now) (sym c.as_bytes-bytes.ensures.value) ∙ left_over c.args.names.now bytes c.in_ok-part.stop (piece c.in_ok-part.part) c.in_ok-part.ensures.value c.if-stop-bytes.true c.in_ok-part.ensures.stops ∙ ap (λ f. Err f) (sym c.bad.ensures)) }

pub returns : goal.returns
returns c =
    let bytes = c.as_bytes-bytes.result.now in
    let pc = piece c.in_ok-part.part in
    record {
      exact = gives_same principal c.measured.result (principal_in c.args.names.now c.args.text.now)
          (ap (principal_in c.args.names.now) (sym c.as_bytes-bytes.ensures.value)
          ∙ none_left c.args.names.now bytes c.in_ok-part.stop pc c.in_ok-part.ensures.value (omega (arith, c.if-stop-bytes.false))
          ∙ ap (λ n. measured CERT_NODES n pc) (sym c.skip_blanks.ensures.first)
          ∙ sym c.measured.ensures);
    }
