-- the sample of this bound stands behind those before, and one count more is in the total
use Rattle.std.proofs.Common.{ℕ, ◌≡◌, ◌+◌, ◌++◌, List, get_or, ap, ◌∙◌, arith, take, string_bytes}
use Rattle.std.specs.Prelude.{codes, sum, decimal}
use Rattle.node_telling.specs.Page.{bucket}
use Rattle.node_telling.specs.Samples.{label, sample}
use Rattle.node_telling.proofs.Lines.{told_at}
use Rattle.node_telling.proofs.Sums.{sum_more}
use Rattle.node_telling.proofs.texts.page_parts.push_buckets.Goals as goal

pub loop-place-preserved : goal.loop-place-preserved
loop-place-preserved c =
    let so = c.loop-place.invariant in
    let counts = c.args.counts.now in
    let i = c.loop-place.place in
    let before = string_bytes c.loop-place.out in
    let name = codes "taosd_reply_microseconds_bucket" in
    let more : c.loop-place.total + c.from-total.result ≡ sum (take (i + 1) counts) =
    omega (arith, so.total, c.from-total.ensures, sum_more counts i (omega (arith, c.requires.counted))) in
    let told = c.in_ok-push_row.ensures
    ∙ ap (λ (w : List ℕ). before ++ sample name (label (codes "le") w) (c.loop-place.total + c.from-total.result)) c.format.ensures.text
    ∙ ap (λ (n : ℕ). before ++ sample name (label (codes "le") (decimal (get_or c.args.bounds.now i 0))) n) more in
    record {
      printed = told_at (bucket counts) c.args.bounds.now i 0 (string_bytes c.args.out.now) before (string_bytes c.push_row.new.out) (omega arith) so.printed told;
      total = more;
      small = omega (arith, so.small);
    }
