use Rattle.std.proofs.Common.{sym, ap, ◌∙◌}
use Rattle.range_read.specs.Pages.{page_size}
use Rattle.model_database.specs.Slices.{cut, span}
use Rattle.range_read.specs.Walks.{has_more}
use Rattle.range_read.proofs.Pages.{IsSize-page, take_cut, more_is, page_rest}
use Rattle.range_read.proofs.reading.page.Goals as goal

pub returns-clause-pairs : goal.returns-clause-pairs
returns-clause-pairs g c =
    let all = span (g.V.OrderedView.map c.args.view.now) c.args.range.now.begin c.args.range.now.end c.args.options.reverse in
    (c.in_ok-taken.ensures {u = tt}).pairs ∙ ap (λ n. cut n all) c.size_of_page-size.ensures
    ∙ take_cut c.args.options.limit (page_size c.args.options.mode c.args.options.limit c.args.turn) all
    (IsSize-page c.args.options.mode c.args.options.limit c.args.turn (c.in_ok-check.ensures {u = tt}).ok)

pub returns-clause-more : goal.returns-clause-more
returns-clause-more g c =
    let m = g.V.OrderedView.map c.args.view.now in
    let n = page_size c.args.options.mode c.args.options.limit c.args.turn in
    let all = span m c.args.range.now.begin c.args.range.now.end c.args.options.reverse in
    let left = span m c.in_ok-taken.taken.left.begin c.in_ok-taken.taken.left.end c.args.options.reverse in
    (c.in_ok-more.ensures {u = tt}) ∙ ap (λ n. has_more c.args.options.limit n left) c.size_of_page-size.ensures
    ∙ more_is c.args.options.limit n c.in_ok-taken.taken.pairs left all
    (IsSize-page c.args.options.mode c.args.options.limit c.args.turn (c.in_ok-check.ensures {u = tt}).ok)
    (c.in_ok-taken.ensures {u = tt}).whole ((c.in_ok-taken.ensures {u = tt}).pairs ∙ ap (λ n. cut n all) c.size_of_page-size.ensures)

pub returns-clause-rest : goal.returns-clause-rest
returns-clause-rest g c more =
    let m = g.V.OrderedView.map c.args.view.now in
    let n = page_size c.args.options.mode c.args.options.limit c.args.turn in
    let b = c.args.range.now.begin in let e = c.args.range.now.end in
    let all = span m b e c.args.options.reverse in
    let left = span m c.in_ok-taken.taken.left.begin c.in_ok-taken.taken.left.end c.args.options.reverse in
    let is = IsSize-page c.args.options.mode c.args.options.limit c.args.turn (c.in_ok-check.ensures {u = tt}).ok in
    let page = (c.in_ok-taken.ensures {u = tt}).pairs ∙ ap (λ n. cut n all) c.size_of_page-size.ensures in
    page_rest m b e c.args.options.limit n c.args.options.reverse c.in_ok-taken.taken.pairs left is (c.in_ok-taken.ensures {u = tt}).whole page
    (sym (more_is c.args.options.limit n c.in_ok-taken.taken.pairs left all is (c.in_ok-taken.ensures {u = tt}).whole page)
    ∙ ap (λ n. has_more c.args.options.limit n left) (sym c.size_of_page-size.ensures) ∙ sym (c.in_ok-more.ensures {u = tt}) ∙ more)
