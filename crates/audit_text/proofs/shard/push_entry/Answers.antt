-- the parts of the line stand one after another
use Rattle.audit_text.proofs.Appending.{appends_both, appends_or_leaves}
use Rattle.audit_text.proofs.shard.push_entry.Goals as goal

pub returns : goal.returns
returns c =
    let happened = appends_both _ _ _ _ _ c.in_ok-push_front.ensures c.in_ok-push_event.ensures in
    let came = appends_both _ _ _ _ _ (appends_both _ _ _ _ _ happened c.in_ok-push_str.ensures.bytes) c.in_ok-push_told.ensures in
    appends_or_leaves _ _ _ _ _ c.push_str-2.result came c.push_str-2.ensures.bytes
