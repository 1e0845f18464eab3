use Rattle.std.proofs.Common.{◌-◌, true, length, sym, ap, ◌∙◌}
use Rattle.std.specs.List.{slice_get}
use Rattle.std.specs.Option.{option_map_or}
use Rattle.std.specs.Ordering.{is_lt}
use Rattle.key_bytes.specs.Keys.{key_lt}
use Rattle.version_store.specs.Changed.{is_above}
use Rattle.version_store.proofs.Rising.{last-changes_of}
use Rattle.version_store.proofs.changes.Changes.is_below.Goals as goal

pub returns-in-Some : goal.returns-in-Some
returns-in-Some c =
    c.is_lt.ensures ∙ ap is_lt c.cmp.ensures
    ∙ sym
    (ap (λ change. option_map_or (λ change. key_lt change.0 c.args.key.now) change true)
    (last-changes_of c.self.inside.items.items c.in-Some.change.now
    ((c.in-Some.ensures {u = tt}).value ∙ ap (λ items. slice_get items (length items - 1)) c.deref.ensures.value)))
    ∙ ap (λ changes. is_above changes c.args.key.now) c.self.view_is
