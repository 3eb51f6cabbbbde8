-- the parts stand one after another, and the presented certificates are counted by their handles
use Rattle.std.proofs.Common.{◌++◌, ℕ, ap, ◌∙◌, string_bytes}
use Rattle.std.specs.Prelude.{codes}
use Rattle.audit_text.specs.Lines.{numbered}
use Rattle.audit_text.proofs.Appending.{appends_both, appends_last}
use Rattle.audit_text.proofs.shard.push_ask.Goals as goal

pub returns : goal.returns
returns c =
    let counted = c.in_ok-push_number-4.ensures ∙ ap (λ (n : ℕ). string_bytes c.push_number-3.new.out ++ numbered (codes " certificates") n) c.presented.ensures in
    let before = appends_both _ _ _ _ _ (appends_both _ _ _ _ _ c.in_ok-push_number.ensures c.in_ok-push_number-2.ensures) c.in_ok-push_number-3.ensures in
    appends_last _ _ _ _ _ c.push_right.result (appends_both _ _ _ _ _ (appends_both _ _ _ _ _ before counted) c.in_ok-push_str.ensures.bytes) c.push_right.ensures
