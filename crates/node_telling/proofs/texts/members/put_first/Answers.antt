-- the members stand one after another
use Rattle.node_telling.proofs.Appending.{appends_both, appends_last}
use Rattle.node_telling.proofs.texts.members.put_first.Goals as goal

pub returns-clause-put : goal.returns-clause-put
returns-clause-put c =
    let by_1 = appends_both _ _ _ _ _ c.in_ok-put_some.ensures.put c.in_ok-put_text.ensures.put in
    appends_last _ _ _ _ _ c.put_text-2.result by_1 c.put_text-2.ensures.put
