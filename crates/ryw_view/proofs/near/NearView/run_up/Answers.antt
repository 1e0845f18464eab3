use Rattle.std.proofs.Common.{◌≡◌, ◌++◌, ◌∷◌, [], true, false, not, length, Some, sym, ap, subst, ◌∙◌, arith}
use Rattle.std.specs.Option.{option_copied}
use Rattle.key_bytes.proofs.Orders.{above_not_below, lt_after}
use Rattle.key_map.specs.Ends.{first}
use Rattle.model_database.specs.Slices.{span}
use Rattle.range_read.proofs.Taking.{pushed_length}
use Rattle.range_read.proofs.Walks.{Entry}
use Rattle.ryw_view.specs.Segments.{AreBare}
use Rattle.ryw_view.specs.Views.{seen_of, stored_of}
use Rattle.ryw_view.specs.Walks.{from_of, is_inside, stored_between}
use Rattle.ryw_view.proofs.Runs.{between_met, others_behind, run_whole, bare_behind, none_up_to}
use Rattle.ryw_view.proofs.near.NearView.run_up.Goals as goal

pub loop-key-init : goal.loop-key-init
loop-key-init c =
    let near = c.args.self.now in let range = c.args.range.now in
    record {
      stored = c.into_iter-key-iterator.ensures.into_iter_gives ∙ c.stored_from-key-items.ensures;
      whole = ap (λ taken. taken ++ span (seen_of near.view) range.begin range.end false) c.new-pairs.ensures;
      bare = c.requires.bare;
      low =
          above_not_below range.begin c.nearer-until.result.now
          (c.nearer-until.ensures.nearest range.begin c.requires.some
          (subst (λ high. is_inside high false range.begin ≡ true) (sym c.as_ref.ensures.value) c.requires.inside));
      short = λ some. let none = ap length c.new-pairs.ensures in omega (arith, none);
    }

pub loop-key-preserved : goal.loop-key-preserved
loop-key-preserved c =
    let near = c.args.self.now in let mutations = near.view.edits.now.mutations in let stored = stored_of near.view in
    let range = c.args.range.now in let until = c.nearer-until.result.now in
    let from = from_of range.begin (option_copied c.loop-key.last) in
    let pair : Entry = (c.in-Some.key.now, c.in-Some.value.now) in let rest = c.next.new.self in
    let before = c.loop-key.invariant in
    let is : stored_between stored from (Some until) ≡ pair ∷ rest = sym before.stored ∙ (c.in-Some.ensures {u = tt}).steps in
    let under = (between_met stored from (Some until) (Some pair) (ap first is)).1 in
    let below = c.nearer-until.ensures.below c.in-Some.key.now under in
    let inside : is_inside near.high false c.in-Some.key.now ≡ true =
    subst (λ high. is_inside high false c.in-Some.key.now ≡ true) c.as_ref.ensures.value below.1 in
    let pushed : c.push.new.self ≡ c.loop-key.pairs ++ pair ∷ [] =
    (c.in_ok-push.ensures {u = tt}).ok ∙ ap (λ taken. c.loop-key.pairs ++ taken ∷ []) (c.in_ok-pair_of.ensures {u = tt}) in
    let longer = pushed_length c.loop-key.pairs c.push.new.self pair pushed in
    record {
      stored = others_behind mutations stored from until range.end near.high before.bare pair rest is inside below.0;
      whole =
          run_whole mutations stored from until range.end near.high before.bare pair rest is inside below.0 c.loop-key.pairs
          c.push.new.self (span (seen_of near.view) range.begin range.end false) before.whole pushed;
      bare = bare_behind mutations stored from until range.end near.high before.bare pair rest is inside below.0;
      low = lt_after until c.in-Some.key.now ∙ ap not under;
      short = λ some. let room = c.is_full.ensures.room c.if-is_full.false some in omega (arith, room, longer, c.len.ensures);
    }

pub returns-clause-whole : goal.returns-clause-whole
returns-clause-whole c =
    let near = c.args.self.now in let mutations = near.view.edits.now.mutations in let stored = stored_of near.view in
    let range = c.args.range.now in let until = c.nearer-until.result.now in
    let from = from_of range.begin (option_copied c.loop-key.last) in
    let before = c.loop-key.invariant in let taken = c.in_ok-taken.ensures {u = tt} in
    let bare : AreBare mutations from false (Some until) = λ q is_on under.
    before.bare q is_on
    (subst (λ high. is_inside high false q ≡ true) c.as_ref.ensures.value (c.nearer-until.ensures.below q under).1) in
    let none : stored_between stored from (Some until) ≡ [] = sym before.stored ∙ (c.in-None.ensures {u = tt}).steps.0 in
    let past = none_up_to mutations stored from until range.end bare before.low none in
    (λ i. taken.pairs i ++ span (seen_of near.view) ((taken.begin ∙ c.in_ok-begin-2.ensures {u = tt}) i) (taken.end i) false)
    ∙ ap (λ rest. c.loop-key.pairs ++ rest) (sym past)
    ∙ before.whole
