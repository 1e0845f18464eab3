use Rattle.std.proofs.Common.{sym, ◌∙◌, arith}
use Rattle.version_store.specs.Values.{given_of}
use Rattle.version_store.proofs.Trims.{holding-one, holding-one_later}
use Rattle.version_store.proofs.values.Given.at.Goals as goal

pub returns-then-self-version : goal.returns-then-self-version
returns-then-self-version c =
    c.as_ref.ensures.value ∙ sym (holding-one c.args.version (given_of c.args.self.now) c.if-self-version.true)

pub returns : goal.returns
returns c = sym (holding-one_later c.args.version (given_of c.args.self.now) (omega (arith, c.if-self-version.false)))
