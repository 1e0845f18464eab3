use Rattle.std.proofs.Common.{◌++◌, rules, append_assoc}
use Rattle.std.proofs.lemmas.Result.{err_from_is_err_and}
use Rattle.fdb_tuple.specs.Spelling.{spelling}
use Rattle.fdb_tuple.specs.Stamps.{stamp_packed}
use Rattle.fdb_tuple.proofs.StampPlaces.{gives_fault}
use Rattle.fdb_tuple.proofs.packing.pack_with_stamp.Goals as goal

pub returns-in_err-place : goal.returns-in_err-place
unfolding stamp_packed
returns-in_err-place c =
    let refused = err_from_is_err_and c.from_residual.result c.from_residual.ensures.1 in
    rw (refused.1, refused.2) (gives_fault c.in_err-place.field-0.0 _ (c.in_err-place.ensures.err (c.args.prefix.now ++ spelling c.args.tuple.now)))

pub returns : goal.returns
unfolding stamp_packed
returns c = rw c.in_ok-place.ensures.ok (search (rules, append_assoc))
