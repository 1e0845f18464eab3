-- How far two texts are alike.
use Rattle.std.proofs.Common.{◌≡◌, ℕ, ◌+◌, ◌<◌, ◌≤◌, List, length, drop, refl, arith}
use Rattle.std.proofs.lemmas.List.{drop_more, drop_all}
use Rattle.instr_grammar.specs.Names.{alike}

pub bytes_end : (name bytes : List ℕ) (i total : ℕ) → i < length name → length bytes ≤ i → i + alike (drop i name) (drop i bytes) ≡ total → i ≡ total
bytes_end name bytes i total h k so_far =
    let none : alike (drop i name) (drop i bytes) ≡ 0 = rw (drop_more name i 0 h, drop_all i bytes k) refl in
    omega (arith, none, so_far)
