-- What the whole wallet file means.
use Rattle.std.proofs.Common.{◌≡◌, ◌⊎◌, true, false, cond, [], Err, Some, None, sym, ap, subst, ◌∙◌, arith, inr}
use Rattle.std.specs.Prelude.{codes}
use Rattle.prin_text.specs.declared.lines.fault.FileFault.{FileFault}
use Rattle.prin_text.specs.declared.lines.fault.FileFault.TheVariants.{NoMemory}
use Rattle.prin_text.specs.FileLines.{is_first_line}
use Rattle.prin_text.specs.Lines.{is_skipped}
use Rattle.prin_text.proofs.FileRead.{all_done, never_begun, stops_with}
use Rattle.cred_pull.specs.WalletFile.{wallet_in, wallet_step}
use Rattle.cred_pull.specs.WalletView.{StandSoFar}
use Rattle.cred_pull.proofs.WalletRead.{wallet_long, wallet_short, wallet_stops}
use Rattle.cred_pull.proofs.wallet_reading.read_lines.Goals as goal

pub returns-then-bytes-gt-MAX_FILE-clause-exact : goal.returns-then-bytes-gt-MAX_FILE-clause-exact
returns-then-bytes-gt-MAX_FILE-clause-exact c = inr (wallet_long c.args.bytes.now (omega arith) ∙ ap (λ (e : FileFault). Err e) (sym c.at.ensures))

pub returns-in-Err-clause-exact : goal.returns-in-Err-clause-exact
returns-in-Err-clause-exact c =
    let bytes = c.args.bytes.now in
    let so = c.loop-at.invariant in
    let line = c.line_at-next.result.0.now in
    let skipped : is_skipped line ≡ false = grind (arith, c.is_skipped.ensures, c.if-not-is_skipped.ensures, c.if-not-is_skipped.true) in
    subst (λ (e : FileFault). (e ≡ NoMemory) ⊎ (wallet_in bytes ≡ Err e)) (sym c.at-in-Err.ensures)
    (wallet_stops bytes _ (omega (arith, c.if-bytes-gt-MAX_FILE.false))
    (stops_with (is_first_line (codes "taos-wallet")) [] wallet_step bytes c.loop-at.number c.loop-at.at so.so_far so.same (StandSoFar true) c.take_any.new.lines.items line _ c.in-Err.fault c.line_at-next.ensures.line skipped
    (c.in-Err.ensures.takes so.so_far so.stands)))

pub returns-else-begun-clause-exact : goal.returns-else-begun-clause-exact
returns-else-begun-clause-exact c =
    let bytes = c.args.bytes.now in
    let so = c.loop-at.invariant in
    inr (wallet_short bytes (omega (arith, c.if-bytes-gt-MAX_FILE.false))
    ∙ never_begun (is_first_line (codes "taos-wallet")) [] wallet_step bytes c.loop-at.number c.loop-at.at so.so_far so.same (omega (arith, c.loop-at-test.false))
    (so.stands.is ∙ ap (λ b. cond b (Some so.stands.made) None) c.if-begun.false) so.count ∙ ap (λ (e : FileFault). Err e) (sym c.at-else-begun.ensures))

pub returns-then-begun-clause-exact : goal.returns-then-begun-clause-exact
returns-then-begun-clause-exact c =
    let bytes = c.args.bytes.now in
    let so = c.loop-at.invariant in
    let made = so.stands.made in (
      made,
      wallet_short bytes (omega (arith, c.if-bytes-gt-MAX_FILE.false))
          ∙ all_done (is_first_line (codes "taos-wallet")) [] wallet_step bytes c.loop-at.number c.loop-at.at so.so_far so.same made (omega (arith, c.loop-at-test.false))
          (so.stands.is ∙ ap (λ b. cond b (Some made) None) c.if-begun.true),
      so.stands.stands,
    )
