-- Walks over the names.
use Rattle.std.proofs.Common.{◌≡◌, ℕ, ◌<◌, ◌≤◌, true, false, List, [], length, drop, get_or, max, refl, sym, ap, ◌∙◌, arith}
use Rattle.std.specs.Prelude.{bytes_eq}
use Rattle.std.proofs.lemmas.List.{drop_more, drop_all}
use Rattle.instr_grammar.specs.Names.{names, is_among, longest}

names_len : length names ≡ 92
unfolding names
names_len = refl

pub none_left : (i : ℕ) (bytes : List ℕ) → 92 ≤ i → is_among bytes (drop i names) ≡ is_among bytes names → false ≡ is_among bytes names
none_left i bytes h all = ap (is_among bytes) (sym (drop_all i names (omega (arith, names_len)))) ∙ all

pub found_at : (i : ℕ) (bytes : List ℕ) → i < 92 → bytes_eq (get_or names i []) bytes ≡ true → is_among bytes (drop i names) ≡ is_among bytes names
    → true ≡ is_among bytes names
found_at i bytes h same all =
    let here : is_among bytes (drop i names) ≡ true = rw (drop_more names i [] (omega (arith, names_len)), same) refl in
    sym here ∙ all

pub walk_ends : (i walk total : ℕ) (bytes : List ℕ) → 92 ≤ i → max walk (longest (drop i names) bytes) ≡ total → walk ≡ total
walk_ends i walk total bytes h all =
    let none : longest (drop i names) bytes ≡ 0 = ap (λ (l : List (List ℕ)). longest l bytes) (drop_all i names (omega (arith, names_len))) in
    omega (arith, none, all)
