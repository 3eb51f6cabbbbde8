-- the closure gives a row's number
use Rattle.std.proofs.Common.{rules}
use Rattle.std.proofs.lemmas.List.Sorted.{answers_always}
use Rattle.object_core.proofs.FindingRows.{searched}
use Rattle.object_core.proofs.rows.find_row.Goals as goal

pub returns : goal.returns
returns c =
    let facts = c.binary_search_by_key.ensures in
    let by_number = facts.position (λ r. r.number) (answers_always _ _ _ (λ f a r g called. search rules)) in
    searched c.args.rows.now c.requires c.args.number c.binary_search_by_key.result facts.bound by_number
