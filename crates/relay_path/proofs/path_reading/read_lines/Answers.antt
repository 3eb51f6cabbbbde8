-- What the whole path file means.
use Rattle.std.proofs.Common.{◌≡◌, ◌⊎◌, false, cond, List, [], Result, Ok, Err, Some, None, Vec, sym, ap, subst, ◌∙◌, arith, inl, inr, true, refl}
use Rattle.std.specs.Prelude.{codes}
use Rattle.std.specs.declared.alloc.Global.{Global}
use Rattle.prin_text.specs.declared.lines.fault.FileFault.{FileFault}
use Rattle.prin_text.specs.declared.lines.fault.FileFault.TheVariants.{NoMemory}
use Rattle.prin_text.specs.FileLines.{is_first_line}
use Rattle.prin_text.specs.Lines.{is_skipped}
use Rattle.prin_text.specs.LineView.{IsReadFor}
use Rattle.prin_text.proofs.FileRead.{all_done, never_begun, stops_with}
use Rattle.relay_path.specs.declared.domain.Domain.{Domain}
use Rattle.relay_path.specs.declared.domain_draft.DomainDraft.{DomainDraft}
use Rattle.relay_path.specs.Domains.{DomainKnows}
use Rattle.relay_path.specs.PathFile.{path_in, path_step}
use Rattle.relay_path.specs.PathView.{AreDomainDrafts, StandForDomains, StandSoFar}
use Rattle.relay_path.proofs.PathRead.{path_long, path_short, path_stops}
use Rattle.relay_path.proofs.path_reading.read_lines.Goals as goal

pub returns-then-bytes-gt-MAX_FILE : goal.returns-then-bytes-gt-MAX_FILE
returns-then-bytes-gt-MAX_FILE c = inr (path_long c.args.bytes.now (omega arith) ∙ ap (λ (e : FileFault). Err e) (sym c.at.ensures))

pub returns-in-Err : goal.returns-in-Err
returns-in-Err c =
    let bytes = c.args.bytes.now in
    let so = c.loop-at.invariant in
    let line = c.line_at-next.result.0.now in
    let skipped : is_skipped line ≡ false = grind (arith, c.is_skipped.ensures, c.if-not-is_skipped.ensures, c.if-not-is_skipped.true) in
    subst (λ (e : FileFault). (e ≡ NoMemory) ⊎ (path_in bytes ≡ Err e)) (sym c.at-in-Err.ensures)
    (path_stops bytes _ (omega (arith, c.if-bytes-gt-MAX_FILE.false))
    (stops_with (is_first_line (codes "taos-path")) [] path_step bytes c.loop-at.number c.loop-at.at so.so_far so.same (StandSoFar true) c.take_any.new.drafts.items line _ c.in-Err.fault c.line_at-next.ensures.line skipped
    (c.in-Err.ensures.takes so.so_far so.stands)))

pub returns : goal.returns
returns c =
    let bytes = c.args.bytes.now in
    let so = c.loop-at.invariant in
    inr (path_short bytes (omega (arith, c.if-bytes-gt-MAX_FILE.false))
    ∙ never_begun (is_first_line (codes "taos-path")) [] path_step bytes c.loop-at.number c.loop-at.at so.so_far so.same (omega (arith, c.loop-at-test.false))
    (so.stands.is ∙ ap (λ b. cond b (Some so.stands.made) None) c.if-begun.false) so.count ∙ ap (λ (e : FileFault). Err e) (sym c.at-else-begun.ensures))

pub returns-then-begun : goal.returns-then-begun
returns-then-begun c =
    let bytes = c.args.bytes.now in
    let so = c.loop-at.invariant in
    let made = so.stands.made in (
      made,
      path_short bytes (omega (arith, c.if-bytes-gt-MAX_FILE.false))
          ∙ all_done (is_first_line (codes "taos-path")) [] path_step bytes c.loop-at.number c.loop-at.at so.so_far so.same made (omega (arith, c.loop-at-test.false))
          (so.stands.is ∙ ap (λ b. cond b (Some made) None) c.if-begun.true),
      c.in_ok-domains_of.ensures made (subst (λ (l : List DomainDraft). AreDomainDrafts l made) (sym c.deref.ensures.value) so.stands.stands),
    )
