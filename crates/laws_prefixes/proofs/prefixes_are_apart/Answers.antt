use Rattle.laws_prefixes.proofs.Worlds.{prefixes_apart, runs_apart}
use Rattle.laws_prefixes.proofs.prefixes_are_apart.Goals as goal

pub returns-clause-requests : goal.returns-clause-requests
returns-clause-requests c = prefixes_apart

pub returns-clause-runs : goal.returns-clause-runs
returns-clause-runs c = runs_apart
