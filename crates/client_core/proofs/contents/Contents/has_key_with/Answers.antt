use Rattle.std.proofs.Common.{ℕ, sym, ap, ◌∙◌}
use Rattle.std.specs.FinMap as finite
use Rattle.std.specs.List.{filter}
use Rattle.key_bytes.specs.Keys.{key_le}
use Rattle.key_map.specs.Ends.{first}
use Rattle.version_store.specs.Versions.{at, last_of}
use Rattle.client_core.specs.Contents.{first_begins}
use Rattle.client_core.proofs.Prefixes.{first_key_tells, last_readable}
use Rattle.client_core.proofs.contents.Contents.has_key_with.Goals as goal

pub unreachable-requires : goal.unreachable-requires
unreachable-requires c = last_readable c.args.self.now.store c.last.result c.in-Err.field-0 c.last.ensures.value c.last.ensures.readable c.in-Err.ensures.err

pub returns : goal.returns
returns c =
    let prefix = c.args.prefix.now in
    c.begins.ensures ∙ ap (first_begins prefix) c.in-Ok.ensures.ok.1
    ∙ ap (λ (version : ℕ). first_begins prefix (first (filter (λ e. key_le prefix e.0) (finite.entries (at c.args.self.now.store version)))))
    c.last.ensures.value
    ∙ sym (first_key_tells prefix (at c.args.self.now.store (last_of c.args.self.now.store)))
