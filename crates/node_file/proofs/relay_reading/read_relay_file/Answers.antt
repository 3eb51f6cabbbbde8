-- What the whole relay file means.
use Rattle.std.proofs.Common.{◌≡◌, ◌⊎◌, false, cond, Result, Err, Some, None, sym, ap, subst, ◌∙◌, arith, inr, true}
use Rattle.std.specs.Prelude.{codes}
use Rattle.prin_text.specs.declared.lines.fault.FileFault.{FileFault}
use Rattle.prin_text.specs.declared.lines.fault.FileFault.TheVariants.{NoMemory}
use Rattle.prin_text.specs.FileLines.{is_first_line}
use Rattle.prin_text.specs.Lines.{is_skipped}
use Rattle.prin_text.specs.LineView.{IsReadFor}
use Rattle.node_file.specs.RelayFile.{RelayFile, no_relay, relay_in, relay_step}
use Rattle.node_file.specs.RelayView.{StandsFor, StandsSoFar}
use Rattle.prin_text.proofs.FileRead.{all_done, never_begun, stops_with}
use Rattle.node_file.proofs.RelayRead.{relay_long, relay_short, relay_stops}
use Rattle.node_file.proofs.relay_reading.read_relay_file.Goals as goal

pub returns-then-bytes-gt-MAX_FILE : goal.returns-then-bytes-gt-MAX_FILE
returns-then-bytes-gt-MAX_FILE c = record { exact = inr (relay_long c.args.bytes.now (omega arith) ∙ ap (λ (e : FileFault). Err e) (sym c.at.ensures)) }

pub returns-in-Err : goal.returns-in-Err
returns-in-Err c =
    let bytes = c.args.bytes.now in
    let so = c.loop-at.invariant in
    let line = c.line_at-next.result.0.now in
    let skipped : is_skipped line ≡ false = grind (arith, c.is_skipped.ensures, c.if-not-is_skipped.ensures, c.if-not-is_skipped.true) in
    record {
      exact = subst (λ (e : FileFault). (e ≡ NoMemory) ⊎ (relay_in bytes ≡ Err e)) (sym c.at-in-Err.ensures)
          (relay_stops bytes _ (omega (arith, c.if-bytes-gt-MAX_FILE.false))
          (stops_with (is_first_line (codes "taos-relay")) no_relay relay_step bytes c.loop-at.number c.loop-at.at so.so_far so.same (StandsSoFar true) c.take_any.new.file line _ c.in-Err.fault c.line_at-next.ensures.line skipped
          (c.in-Err.ensures.takes so.so_far so.stands)));
    }

pub returns-then-begun : goal.returns-then-begun
returns-then-begun c =
    let bytes = c.args.bytes.now in
    let so = c.loop-at.invariant in
    record {
      exact = subst (λ (r : Result RelayFile FileFault). IsReadFor StandsFor c.file_of.result r)
          (sym (relay_short bytes (omega (arith, c.if-bytes-gt-MAX_FILE.false))
          ∙ all_done (is_first_line (codes "taos-relay")) no_relay relay_step bytes c.loop-at.number c.loop-at.at so.so_far so.same so.stands.made (omega (arith, c.loop-at-test.false))
          (so.stands.is ∙ ap (λ b. cond b (Some so.stands.made) None) c.if-begun.true)))
          (c.file_of.ensures so.stands.made so.stands.stands);
    }

pub returns-else-begun : goal.returns-else-begun
returns-else-begun c =
    let bytes = c.args.bytes.now in
    let so = c.loop-at.invariant in
    record {
      exact = inr (relay_short bytes (omega (arith, c.if-bytes-gt-MAX_FILE.false))
          ∙ never_begun (is_first_line (codes "taos-relay")) no_relay relay_step bytes c.loop-at.number c.loop-at.at so.so_far so.same (omega (arith, c.loop-at-test.false))
          (so.stands.is ∙ ap (λ b. cond b (Some so.stands.made) None) c.if-begun.false) so.count ∙ ap (λ (e : FileFault). Err e) (sym c.at-else-begun.ensures));
    }
