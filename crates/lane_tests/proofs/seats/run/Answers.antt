use Rattle.agent_shards.proofs.Shares.{all_by_shares}
use Rattle.lane_tests.proofs.seats.run.Goals as goal

pub close-requires-clause-shares : goal.close-requires-clause-shares
close-requires-clause-shares g c = all_by_shares c.work_at_seat-last.result.1.passes c.in_ok-first.whole.passes c.work_at_seat-last.ensures.shares.of_agent c.in_ok-first.ensures.all.of_agent

pub close-requires-2-clause-shares : goal.close-requires-2-clause-shares
close-requires-2-clause-shares g c = all_by_shares c.work_at_seat-last.result.1.objects c.in_ok-first.whole.objects c.work_at_seat-last.ensures.shares.of_rack c.in_ok-first.ensures.all.of_rack
