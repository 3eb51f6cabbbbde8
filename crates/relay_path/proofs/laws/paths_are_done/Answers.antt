use Rattle.relay_path.proofs.Leading.{leads_or_stops, never_both, one_path, one_stop}
use Rattle.relay_path.proofs.laws.paths_are_done.Goals as goal

pub returns-clause-some : goal.returns-clause-some
returns-clause-some c = λ ds route bytes node is. leads_or_stops ds route bytes node is

pub returns-clause-apart : goal.returns-clause-apart
returns-clause-apart c = λ ds route bytes node hop code forms is path. never_both ds route bytes node is hop code forms path

pub returns-clause-one_path : goal.returns-clause-one_path
returns-clause-one_path c = λ ds route bytes node is forms others path other. one_path ds route bytes node is forms others path other

pub returns-clause-one_stop : goal.returns-clause-one_stop
returns-clause-one_stop c = λ ds route bytes node hop code h k is s t. one_stop ds route bytes node is hop code h k s t
