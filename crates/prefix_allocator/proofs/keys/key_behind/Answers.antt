use Rattle.std.proofs.Common.{rules, ◌≡◌, ◌+◌, length, append_assoc, sym, ap, ◌∙◌, arith}
use Rattle.std.specs.Int.{w128, to_be_bytes}
use Rattle.fdb_tuple.specs.Spelling.{least_bytes}
use Rattle.prefix_allocator.proofs.Numbers.{number_packed}
use Rattle.prefix_allocator.proofs.keys.key_behind.Goals as goal

pub returns : goal.returns
returns c =
    let skipped = c.zero_bytes-zeros.result in
    let number : c.from-number.result ≡ c.args.number = c.from-number.ensures in
    let size = ap (λ number. skipped + length (least_bytes number)) (sym number) ∙ c.zero_bytes-zeros.ensures in
    let bytes = c.to_be_bytes.ensures ∙ ap (λ number. to_be_bytes w128 number) number in
    rw (number_packed c.args.number skipped c.to_be_bytes.result (omega arith) size bytes)
    (search (rules, append_assoc, c.in_ok-key.ensures, c.in_ok-extend.ensures.ok))
