use Rattle.agent_core.specs.Journals.{MayFollow}
use Rattle.agent_shards.specs.Room.{HasRoom}
use Rattle.agent_shards.proofs.Shares.{all_back}
use Rattle.lane_tests.proofs.seats.share_out.Goals as goal

-- what was divided adds up again
pub returns-clause-all : goal.returns-clause-all
returns-clause-all g c =
    let done = c.work_by_two-done.ensures in
    record {
      of_agent = all_back MayFollow 1 _ _ _ _ _ _ _ c.requires.all.of_agent c.in_ok-part.ensures.split done.first_shares.of_agent
          done.second_shares.of_agent c.unseat.ensures.joined;
      of_rack = all_back HasRoom 1 _ _ _ _ _ _ _ c.requires.all.of_rack c.in_ok-lent.ensures.split done.first_shares.of_rack
          done.second_shares.of_rack c.unseat-2.ensures.joined;
    }
