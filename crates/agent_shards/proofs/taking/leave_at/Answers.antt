-- the pass is back in its place, with at most one own place more
use Rattle.std.proofs.lemmas.Option.{slice_get_within}
use Rattle.agent_shards.proofs.Shelves.{given_back}
use Rattle.agent_shards.proofs.taking.leave_at.Goals as goal

pub returns : goal.returns
returns c = let is = c.requires.out in let e = c.leave-pass.ensures in record {
  was = is.pass;
  its_pass = is.its_pass;
  pass = c.leave-pass.result;
  put = c.put_back.ensures c.args.out.passes.value.items is.removed (slice_get_within c.args.out.passes.value.items c.args.out.place is.pass is.its_pass);
  given = given_back c.args.cell.now c.args.passes.now c.args.out is c.args.object c.requires.back c.new.result c.leave-pass.result c.new.ensures.object c.new.ensures.within e.cell e.seen e.shares e.kept e.added;
}
