-- the members stand one after another
use Rattle.std.proofs.Common.{ℕ, List, ◌++◌, ◌∙◌, ap}
use Rattle.std.specs.Prelude.{codes}
use Rattle.taos_wire.specs.View.{request as asked}
use Rattle.node_telling.specs.Asked.{asked_members}
use Rattle.node_telling.specs.Decisions.{ruled_word}
use Rattle.node_telling.specs.Members.{counted, first_members, peer_members}
use Rattle.node_telling.specs.NoticeLines.{reply_members}
use Rattle.node_telling.proofs.Appending.{appends_both, appends_last}
use Rattle.node_telling.proofs.texts.decision.put_decision.Goals as goal

pub returns-clause-put : goal.returns-clause-put
returns-clause-put c =
    let d = c.args.decision in
    let at_0 = c.args.out.now.tokens in
    let at_1 = c.put_first.new.out.tokens in
    let at_2 = c.put_number.new.out.tokens in
    let at_3 = c.put_peer.new.out.tokens in
    let at_4 = c.put_asked.new.out.tokens in
    let at_5 = c.put_reply.new.out.tokens in
    let part_1 = first_members d.seconds (codes "info") (ruled_word d.front) in
    let part_2 = counted (codes "lane") d.lane in
    let part_3 = peer_members d.peer in
    let part_4 = asked_members c.args.names.now (asked d.request.now) in
    let part_5 = reply_members d.front in
    let by_2 = appends_both at_0 at_1 at_2 part_1 part_2 (c.in_ok-put_first.ensures.put ∙ ap (λ (w : List ℕ). at_0 ++ first_members d.seconds (codes "info") w) c.ruled_of.ensures) c.in_ok-put_number.ensures.put in
    let by_3 = appends_both at_0 at_2 at_3 (part_1 ++ part_2) part_3 by_2 c.in_ok-put_peer.ensures.put in
    let by_4 = appends_both at_0 at_3 at_4 (part_1 ++ part_2 ++ part_3) part_4 by_3 c.in_ok-put_asked.ensures.put in
    appends_last at_0 at_4 at_5 (part_1 ++ part_2 ++ part_3 ++ part_4) part_5 c.put_reply.result by_4 c.put_reply.ensures.put
