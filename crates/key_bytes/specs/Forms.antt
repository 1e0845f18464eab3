-- What the forms of a byte string hold.
use Rattle.std.specs.Prelude.{ℕ, List}
use Rattle.std.specs.Arc.{arc_slice_items}
use Rattle.key_bytes.specs.declared.form.Form.{Form}
use Rattle.key_bytes.specs.declared.form.Form.TheVariants.{InPlace, Shared, Growing}

abbrev pub items_of : Form → List ℕ
items_of (InPlace short) = short
items_of (Shared items) = arc_slice_items items
items_of (Growing items) = items.value.items
