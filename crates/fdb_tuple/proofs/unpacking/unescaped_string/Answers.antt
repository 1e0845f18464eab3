use Rattle.fdb_tuple.proofs.Strings.{string_plain}
use Rattle.fdb_tuple.proofs.unpacking.unescaped_string.Goals as goal

pub returns-in-None : goal.returns-in-None
returns-in-None c = λ whole.
    let split = c.in_ok-run.ensures in
    string_plain whole c.args.bytes.now c.in_ok-run.run'.now c.in_ok-run.after.now split.0 split.1 c.in-None.ensures
