use Rattle.std.proofs.Common.{◌++◌}
use Rattle.std.specs.Str.{IsUtf8}
use Rattle.std.proofs.lemmas.Str.{IsUtf8-append}
use Rattle.fdb_tuple.proofs.text.Text.append.Goals as goal

pub invariant_of-self-2 : goal.invariant_of-self-2
invariant_of-self-2 c =
    let whole : IsUtf8 (c.self.inside.content ++ c.as_bytes-bytes.result.now) =
    IsUtf8-append c.self.inside.content c.as_bytes-bytes.result.now c.self.invariant
    (rw c.as_bytes-bytes.ensures.value c.as_bytes-bytes.ensures.utf8) in
    rw c.in_ok-extend.ensures.ok whole
