use Rattle.std.proofs.Common.{◌≡◌, ◌<◌, ◌≤◌, ◌++◌, false, length, Some}
use Rattle.std.specs.Option.{option_copied}
use Rattle.key_bytes.specs.Keys.{key_lt}
use Rattle.model_database.specs.Slices.{span}
use Rattle.ryw_view.specs.Segments.{AreBare}
use Rattle.ryw_view.specs.Views.{seen_of, stored_of}
use Rattle.ryw_view.specs.Walks.{from_of, stored_between}
use Rattle.ryw_view.proofs.near.NearView.run_up.Given as goal

-- what was taken, followed by what is left of the range, is the whole range; what is left begins with untouched keys
abbrev pub invariant-loop-key : goal.invariant-loop-key
invariant-loop-key l = record {
  stored : l.key-iterator ≡ stored_between (stored_of l.self.view) (from_of l.range.begin (option_copied l.last)) (Some l.until);
  whole : l.pairs ++ span (seen_of l.self.view) (from_of l.range.begin (option_copied l.last)) l.range.end false
      ≡ span (seen_of l.self.view) l.range.begin l.range.end false;
  bare : AreBare l.self.view.edits.now.mutations (from_of l.range.begin (option_copied l.last)) false l.self.high;
  low : key_lt l.until (from_of l.range.begin (option_copied l.last)) ≡ false;
  short : 0 < l.limit → length l.pairs ≤ l.limit;
}
