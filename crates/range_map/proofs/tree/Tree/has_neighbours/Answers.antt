use Rattle.std.proofs.Common.{◌≡◌, ℕ, Bool, true, false, not, List, ◌∷◌, bytes_eq, refl, sym, ap, ◌∙◌}
use Rattle.std.specs.List.{filter}
use Rattle.key_bytes.specs.Keys.{key_le}
use Rattle.range_map.specs.FirstTwo.{are_first_two}
use Rattle.range_map.proofs.Around.{same_text}
use Rattle.range_map.proofs.FirstTwo.{first_two-found, first_other, first_then}
use Rattle.range_map.proofs.tree.Tree.has_neighbours.Goals as goal

flipped : (t : Bool) → t ≡ not (not t)
flipped true = refl
flipped false = refl

pub returns-in_default : goal.returns-in_default
returns-in_default g c =
    let inside = c.self.inside in let begin = c.args.begin.now in let end = c.args.end.now in
    sym (ap (are_first_two begin end) (c.in_default.ensures {u = tt}).steps.0)
    ∙ first_two-found begin end inside.base inside.levels.items inside.places.entries c.range-span.result (c.range-span.ensures.between tt)
    ∙ ap (λ boundaries. are_first_two begin end (filter (λ e. key_le begin e.0) boundaries.entries)) c.self.view_is

pub returns-then-ne : goal.returns-then-ne
returns-then-ne g c =
    let inside = c.self.inside in let begin = c.args.begin.now in let end = c.args.end.now in
    let e : List ℕ × ℕ = (c.in-Some.boundary.now, c.in-Some.field-0-1.now) in
    let other = same_text begin e.0 ∙ flipped (bytes_eq e.0 begin) ∙ ap not (sym (c.if-ne.ensures {u = tt})) in
    sym (ap (are_first_two begin end) (c.in-Some.ensures {u = tt}).steps ∙ first_other begin end e c.next.new.self other)
    ∙ first_two-found begin end inside.base inside.levels.items inside.places.entries c.range-span.result (c.range-span.ensures.between tt)
    ∙ ap (λ boundaries. are_first_two begin end (filter (λ e. key_le begin e.0) boundaries.entries)) c.self.view_is

pub returns-in-Some-next : goal.returns-in-Some-next
returns-in-Some-next g c =
    let inside = c.self.inside in let begin = c.args.begin.now in let end = c.args.end.now in
    let e : List ℕ × ℕ = (c.in-Some.boundary.now, c.in-Some.field-0-1.now) in
    let d : List ℕ × ℕ = (c.in-Some-next.next.now, c.in-Some-next.field-0-1.now) in
    let same = same_text begin e.0 ∙ flipped (bytes_eq e.0 begin) ∙ ap not (sym (c.if-ne.ensures {u = tt})) in
    let both = (c.in-Some.ensures {u = tt}).steps ∙ ap (λ es. e ∷ es) (c.in-Some-next.ensures {u = tt}).steps in
    c.eq.ensures
    ∙ sym (same_text end d.0)
    ∙ sym (ap (are_first_two begin end) both ∙ first_then begin end e d c.next-2.new.self same)
    ∙ first_two-found begin end inside.base inside.levels.items inside.places.entries c.range-span.result (c.range-span.ensures.between tt)
    ∙ ap (λ boundaries. are_first_two begin end (filter (λ e. key_le begin e.0) boundaries.entries)) c.self.view_is

pub returns-in-None : goal.returns-in-None
returns-in-None g c =
    let inside = c.self.inside in let begin = c.args.begin.now in let end = c.args.end.now in
    let e : List ℕ × ℕ = (c.in-Some.boundary.now, c.in-Some.field-0-1.now) in
    let alone = (c.in-Some.ensures {u = tt}).steps ∙ ap (λ es. e ∷ es) (c.in-None.ensures {u = tt}).steps.0 in
    sym (ap (are_first_two begin end) alone)
    ∙ first_two-found begin end inside.base inside.levels.items inside.places.entries c.range-span.result (c.range-span.ensures.between tt)
    ∙ ap (λ boundaries. are_first_two begin end (filter (λ e. key_le begin e.0) boundaries.entries)) c.self.view_is
