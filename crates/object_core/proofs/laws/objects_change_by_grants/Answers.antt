-- what was not granted brings nothing
use Rattle.object_core.proofs.Granting.{by_grants, stays_when_denied}
use Rattle.object_core.proofs.laws.objects_change_by_grants.Goals as goal

pub returns-clause-granted : goal.returns-clause-granted
returns-clause-granted c = by_grants

pub returns-clause-denied : goal.returns-clause-denied
returns-clause-denied c = stays_when_denied
