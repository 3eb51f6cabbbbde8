-- the last bucket has all, which is the sum
use Rattle.std.proofs.Common.{ℕ, ◌++◌, string_bytes, ◌≡◌, ◌+◌, ◌∙◌, ap, arith, rules, OnOk, subst}
use Rattle.std.specs.Prelude.{codes, sum}
use Rattle.node_telling.specs.Samples.{each_line, heading, label, plain, sample}
use Rattle.node_telling.specs.Page.{bucket}
use Rattle.node_telling.specs.declared.texts.timing.TheConstants.{BOUNDS}
use Rattle.node_telling.proofs.Sums.{sum_last}
use Rattle.node_telling.proofs.Appending.{appends_both, appends_last}
use Rattle.node_telling.proofs.texts.page_parts.push_times.Goals as goal

pub returns : goal.returns
returns c =
    let s = c.args.status.now in
    let total : c.in_ok-bounded.bounded + c.from.result ≡ sum s.times = omega (arith, c.in_ok-bounded.ensures.total, c.from.ensures, sum_last s.times 16 (search rules)) in
    let at_0 = string_bytes c.args.out.now in
    let at_1 = string_bytes c.push_heading.new.out in
    let at_2 = string_bytes c.push_buckets.new.out in
    let at_3 = string_bytes c.push_row.new.out in
    let at_4 = string_bytes c.push_plain.new.out in
    let at_5 = string_bytes c.push_plain-2.new.out in
    let part_1 = heading (codes "taosd_reply_microseconds") (codes "Microseconds from a frame's last byte to its reply's.") (codes "histogram") in
    let part_2 = each_line (bucket s.times) BOUNDS in
    let part_3 = sample (codes "taosd_reply_microseconds_bucket") (label (codes "le") (codes "+Inf")) (sum s.times) in
    let part_4 = plain (codes "taosd_reply_microseconds_sum") s.micros in
    let part_5 = plain (codes "taosd_reply_microseconds_count") (c.in_ok-bounded.bounded + c.from.result) in
    let by_2 = appends_both at_0 at_1 at_2 part_1 part_2 c.in_ok-push_heading.ensures (c.in_ok-bounded.ensures.printed) in
    let by_3 = appends_both at_0 at_2 at_3 (part_1 ++ part_2) part_3 by_2 (c.in_ok-push_row.ensures ∙ ap (λ (n : ℕ). at_2 ++ sample (codes "taosd_reply_microseconds_bucket") (label (codes "le") (codes "+Inf")) n) total) in
    let by_4 = appends_both at_0 at_3 at_4 (part_1 ++ part_2 ++ part_3) part_4 by_3 (c.in_ok-push_plain.ensures ∙ ap (λ (n : ℕ). at_3 ++ plain (codes "taosd_reply_microseconds_sum") n) c.from-2.ensures) in
    subst (λ (n : ℕ). OnOk c.push_plain-2.result (at_5 ≡ at_0 ++ ((part_1 ++ part_2 ++ part_3 ++ part_4) ++ plain (codes "taosd_reply_microseconds_count") n))) total (appends_last at_0 at_4 at_5 (part_1 ++ part_2 ++ part_3 ++ part_4) part_5 c.push_plain-2.result by_4 c.push_plain-2.ensures)
