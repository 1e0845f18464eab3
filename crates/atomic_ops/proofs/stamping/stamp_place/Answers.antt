use Rattle.std.proofs.Common.{◌∙◌, ap}
use Rattle.model_database.specs.Atomics.{offset_size}
use Rattle.atomic_ops.proofs.Stamps.{offset_is_place}
use Rattle.atomic_ops.proofs.stamping.stamp_place.Goals as goal

pub returns-in-Last4-clause-value : goal.returns-in-Last4-clause-value
returns-in-Last4-clause-value c =
    c.read_u32.ensures
    ∙ offset_is_place c.args.form 4 c.offset_size.result c.args.bytes.now c.offset_size.ensures (ap offset_size c.in-Last4.is) c.requires

pub returns-in-Last2-clause-value : goal.returns-in-Last2-clause-value
returns-in-Last2-clause-value c =
    c.from.ensures ∙ c.read_u16.ensures
    ∙ offset_is_place c.args.form 2 c.offset_size.result c.args.bytes.now c.offset_size.ensures (ap offset_size c.in-Last2.is) c.requires

pub returns-in-Front-clause-value : goal.returns-in-Front-clause-value
returns-in-Front-clause-value c =
    offset_is_place c.args.form 0 c.offset_size.result c.args.bytes.now c.offset_size.ensures (ap offset_size c.in-Front.is) c.requires
