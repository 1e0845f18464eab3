use Rattle.std.proofs.Common.{rules, ◌≡◌, false, List, [], ◌∷◌, refl, sym, ap, ◌∙◌}
use Rattle.key_bytes.specs.declared.range.KeyRange.{KeyRange}
use Rattle.model_database.specs.Intervals.{any_meet}
use Rattle.write_map.proofs.Filled.{plain_readable}
use Rattle.txn_parts.proofs.resting.is_hidden.Goals as goal

-- nothing meets no range
none_meet : (ranges : List KeyRange) → any_meet ranges [] ≡ false
none_meet [] = refl
none_meet (range ∷ ranges) = none_meet ranges

pub returns-then-not-has_stamps : goal.returns-then-not-has_stamps
returns-then-not-has_stamps c =
    let plain : c.has_stamps.result ≡ false = search rules in
    sym (ap (any_meet c.args.interval.now) (plain_readable c.args.edits.now.mutations (sym c.has_stamps.ensures ∙ plain))
    ∙ none_meet c.args.interval.now)
