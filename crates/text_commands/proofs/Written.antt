-- Lines of pairs and of firings, written one after the other.
use Rattle.std.proofs.Common.{◌≡◌, ℕ, ◌+◌, ◌<◌, List, [], ◌∷◌, ◌++◌, length, map, take, get_or, Option, decimal, sym, ap, ◌∙◌, append_assoc, arith}
use Rattle.std.specs.Prelude.{codes}
use Rattle.std.proofs.lemmas.List.{append-nil, length-map, length-take-le, map-append, take_more}
use Rattle.std.proofs.lemmas.Grind.{flat_map-append}
use Rattle.key_bytes.specs.declared.pairs.Pair.{Pair}
use Rattle.key_bytes.specs.Entries.{entry_of, entries_of}
use Rattle.model_lines.specs.Inputs.{pair_lines}
use Rattle.model_lines.specs.Printing.{line, pair_line}
use Rattle.model_lines.specs.Reading.{Entry}
use Rattle.watch_core.specs.declared.ending.WatchEnd.{WatchEnd}
use Rattle.text_commands.specs.Firings.{firing_lines, firing_text}
use Rattle.text_commands.specs.Scenes.{firing_of}

pub pairs_more : (pairs : List Pair) (i : ℕ) (pair : Pair) → i < length pairs → pair ≡ get_or pairs i pair
    → pair_lines (entries_of (take (i + 1) pairs)) ≡ pair_lines (entries_of (take i pairs)) ++ pair_line pair.key pair.value
pairs_more pairs i pair within is =
    ap (λ (x : List Pair). pair_lines (entries_of x)) (take_more pairs i pair within ∙ ap (λ (p : Pair). take i pairs ++ p ∷ []) (sym is))
    ∙ ap pair_lines (map-append entry_of (take i pairs) (pair ∷ []))
    ∙ flat_map-append (λ (e : Entry). pair_line e.0 e.1) (entries_of (take i pairs)) (entry_of pair ∷ [])
    ∙ ap (λ (x : List ℕ). pair_lines (entries_of (take i pairs)) ++ x) (append-nil (pair_line pair.key pair.value))

-- one firing more
abbrev pub firing_line : ℕ → Option ℕ → List ℕ
firing_line number firing = line (codes "F" ∷ decimal number ∷ firing_text firing ∷ [])

pub firings_push : (number : ℕ) (firings : List (Option ℕ)) (firing : Option ℕ)
    → firing_lines number (firings ++ firing ∷ []) ≡ firing_lines number firings ++ firing_line (number + length firings) firing
firings_push number [] firing =
    append-nil (firing_line number firing) ∙ ap (λ (n : ℕ). firing_line n firing) (omega arith)
firings_push number (first ∷ firings) firing =
    ap (λ (x : List ℕ). firing_line number first ++ x) (firings_push (number + 1) firings firing)
    ∙ ap (λ (n : ℕ). firing_line number first ++ (firing_lines (number + 1) firings ++ firing_line n firing)) (omega arith)
    ∙ sym (append_assoc (firing_line number first) (firing_lines (number + 1) firings) (firing_line (number + length (first ∷ firings)) firing))

pub firings_more : (ends : List WatchEnd) (number : ℕ) (before after : List ℕ) (default : WatchEnd) → number < length ends
    → before ≡ firing_lines 0 (map firing_of (take number ends))
    → after ≡ before ++ firing_line number (firing_of (get_or ends number default))
    → after ≡ firing_lines 0 (map firing_of (take (number + 1) ends))
firings_more ends number before after default within so_far added =
    let front = map firing_of (take number ends) in
    let its_end = get_or ends number default in
    let long : length front ≡ number = length-map (take number ends) firing_of ∙ length-take-le number ends (omega arith) in
    let all : map firing_of (take (number + 1) ends) ≡ front ++ firing_of its_end ∷ [] =
    ap (map firing_of) (take_more ends number default within) ∙ map-append firing_of (take number ends) (its_end ∷ []) in
    added ∙ ap (λ (x : List ℕ). x ++ firing_line number (firing_of its_end)) so_far
    ∙ ap (λ (n : ℕ). firing_lines 0 front ++ firing_line n (firing_of its_end)) (omega (arith, long))
    ∙ sym (firings_push 0 front (firing_of its_end)) ∙ ap (firing_lines 0) (sym all)
