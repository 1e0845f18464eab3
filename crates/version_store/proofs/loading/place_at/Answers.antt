use Rattle.std.proofs.Common.{◌≡◌, subst}
use Rattle.version_store.specs.Chains.{chain_of}
use Rattle.version_store.specs.Loading.{first_chain, IsAlone}
use Rattle.version_store.proofs.Loads.{chain_of-placed, IsAlone-placed, IsAlone-stays}
use Rattle.version_store.proofs.loading.place_at.Goals as goal

pub returns-clause-chain : goal.returns-clause-chain
returns-clause-chain c =
    subst (λ place. chain_of c.insert.new.self.slots place ≡ first_chain c.args.value) c.if-newest-place.false
    (chain_of-placed c.insert.new.self.slots c.in_ok-newest.newest c.args.value c.in_ok-newest.ensures.updates.changed)

pub returns-clause-alone : goal.returns-clause-alone
returns-clause-alone c =
    subst (IsAlone c.insert.new.self.slots) c.if-newest-place.false
    (IsAlone-placed c.insert.new.self.slots c.in_ok-newest.newest c.args.value c.in_ok-newest.ensures.updates.changed)

pub returns-clause-others : goal.returns-clause-others
returns-clause-others c =
    let put = c.in_ok-newest.ensures in
    IsAlone-stays c.args.nodes.now.slots c.insert.new.self.slots c.in_ok-newest.newest put.was_vacant put.updates.others
