-- the members stand one after another
use Rattle.std.proofs.Common.{ℕ, List, ◌++◌, ◌∙◌, ap}
use Rattle.std.specs.Prelude.{codes}
use Rattle.node_telling.specs.Members.{counted, first_members, peer_members}
use Rattle.node_telling.specs.NoticeLines.{happening_members, who_members}
use Rattle.node_telling.specs.Words.{level_of, word_of}
use Rattle.node_telling.proofs.Appending.{appends_both, appends_last}
use Rattle.node_telling.proofs.texts.notices.put_notice.Goals as goal

pub returns-clause-put : goal.returns-clause-put
returns-clause-put c =
    let n = c.args.notice.now in
    let at_0 = c.args.out.now.tokens in
    let at_1 = c.put_first.new.out.tokens in
    let at_2 = c.put_number.new.out.tokens in
    let at_3 = c.put_peer.new.out.tokens in
    let at_4 = c.put_who.new.out.tokens in
    let at_5 = c.put_happening.new.out.tokens in
    let part_1 = first_members n.seconds (level_of n.what) (word_of n.what) in
    let part_2 = counted (codes "lane") n.lane in
    let part_3 = peer_members n.peer in
    let part_4 = who_members c.args.names.now n.request n.what in
    let part_5 = happening_members n.what in
    let by_2 = appends_both at_0 at_1 at_2 part_1 part_2 (c.in_ok-put_first.ensures.put ∙ ap (λ (l : List ℕ). at_0 ++ first_members n.seconds l c.word.result.now) c.level.ensures ∙ ap (λ (w : List ℕ). at_0 ++ first_members n.seconds (level_of n.what) w) c.word.ensures) c.in_ok-put_number.ensures.put in
    let by_3 = appends_both at_0 at_2 at_3 (part_1 ++ part_2) part_3 by_2 c.in_ok-put_peer.ensures.put in
    let by_4 = appends_both at_0 at_3 at_4 (part_1 ++ part_2 ++ part_3) part_4 by_3 c.in_ok-put_who.ensures.put in
    appends_last at_0 at_4 at_5 (part_1 ++ part_2 ++ part_3 ++ part_4) part_5 c.put_happening.result by_4 c.put_happening.ensures.put
