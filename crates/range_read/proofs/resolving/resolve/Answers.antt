use Rattle.std.proofs.Common.{rules, ◌≡◌, true, false, [], get_or, ℤ, to_z, of_z, w32, sym, ap, ◌∙◌}
use Rattle.std.proofs.lemmas.Int.{to_z-of_z}
use mir.Val.{SFits}
use Rattle.std.proofs.lemmas.Result.{IfOk-weaker}
use Rattle.std.specs.Map.{keys_of}
use Rattle.key_bytes.specs.Keys.{top}
use Rattle.range_read.specs.Walks.{onward}
use Rattle.range_read.proofs.Selectors.{law_up, law_backward}
use Rattle.range_read.proofs.resolving.resolve.Goals as goal

-- an offset that is read is the offset
read_exact : (z y : ℤ) → SFits w32 z → to_z w32 (of_z w32 z) ≡ y → z ≡ y
read_exact z y fits is = sym (to_z-of_z w32 z fits) ∙ is

pub returns-in-Up : goal.returns-in-Up
returns-in-Up g c =
    let m = g.V.OrderedView.map c.args.view.now in
    IfOk-weaker c.key_or.result _ _ (λ _ is.
    is ∙ ap (λ k. get_or (keys_of (onward m k false)) c.in-Up.place top) (c.in_ok-start.ensures {u = tt})
    ∙ law_up m c.args.selector.now c.in-Up.place
    (read_exact c.args.selector.now.offset _ (search rules) (c.in-Up.ensures {u = tt}))) c.key_or.ensures

pub returns : goal.returns
returns g c =
    let m = g.V.OrderedView.map c.args.view.now in
    IfOk-weaker c.key_or-in-Down.result _ _ (λ _ is.
    is ∙ ap (λ k. get_or (keys_of (onward m k true)) c.in-Down.place []) (c.in_ok-start.ensures {u = tt})
    ∙ law_backward m c.args.selector.now c.in-Down.place
    (read_exact c.args.selector.now.offset _ (search rules) (c.in-Down.ensures {u = tt}))) c.key_or-in-Down.ensures
