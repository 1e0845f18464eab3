-- The watches of the numbers under the key have looked, and the numbers of those that still are pending are kept.
use Rattle.std.proofs.Common.{◌≡◌, ℕ, ◌<◌, length, map, filter, sym, ap, subst, ◌∙◌}
use Rattle.std.specs.FinMap as finite
use Rattle.std.specs.List.{All}
use Rattle.std.specs.Option.{option_copied_mut}
use Rattle.version_store.specs.Versions.{at, last_of}
use Rattle.watch_core.specs.Watching.{is_pending_at}
use Rattle.watch_core.specs.Watches.{given, numbers_in, watched_of, HaveLookedAt}
use Rattle.watch_core.proofs.Commits.{key_looked, none_at}
use Rattle.watch_core.proofs.Keeping.{listed_commit}
use Rattle.watch_core.proofs.UnderKeys.{items_in, numbers_given}
use Rattle.watch_core.proofs.watches.commit_key.Goals as goal

pub commit_each-fired-requires-clause-within : goal.commit_each-fired-requires-clause-within
commit_each-fired-requires-clause-within g c =
    let found : numbers_in c.args.index.now c.args.key.now ≡ c.in-Some.numbers.now.items =
    ap items_in (sym c.get_mut.ensures.value ∙ ap option_copied_mut c.in-Some.is) in
    subst (All (λ (number : ℕ). number < length c.args.watches.now)) (found ∙ sym c.deref.ensures.value) (c.requires.within c.args.key.now)

pub returns-in-Some-clause-listed : goal.returns-in-Some-clause-listed
returns-in-Some-clause-listed g c =
    let index = c.args.index.now in
    let key = c.args.key.now in
    let last = last_of c.args.store.now in
    let database = at c.args.store.now last in
    let olds = c.args.watches.now in
    let news = c.commit_each-fired.new.watches in
    let found : numbers_in index key ≡ c.in-Some.numbers.now.items =
    ap items_in (sym c.get_mut.ensures.value ∙ ap option_copied_mut c.in-Some.is) in
    listed_commit olds news (numbers_in index) c.args.pending c.commit_each-fired.result c.requires key last database
    (subst (λ ns. HaveLookedAt last database ns olds news) (c.deref.ensures.value ∙ sym found) c.commit_each-fired.ensures.looked)
    c.commit_each-fired.ensures.whole c.commit_each-fired.ensures.fired
    (numbers_in (finite.insert index key c.keep_pending.new.numbers))
    (numbers_given index key c.keep_pending.new.numbers
    ∙ ap (given (numbers_in index) key) (c.keep_pending.ensures ∙ ap (filter (λ (number : ℕ). is_pending_at number (map watched_of news))) (sym found)))

pub returns-in-Some-clause-looked : goal.returns-in-Some-clause-looked
returns-in-Some-clause-looked g c =
    let index = c.args.index.now in
    let key = c.args.key.now in
    let last = last_of c.args.store.now in
    let database = at c.args.store.now last in
    let olds = c.args.watches.now in
    let news = c.commit_each-fired.new.watches in
    let found : numbers_in index key ≡ c.in-Some.numbers.now.items =
    ap items_in (sym c.get_mut.ensures.value ∙ ap option_copied_mut c.in-Some.is) in
    key_looked last database olds news (numbers_in index) c.args.pending c.requires key
    (subst (λ ns. HaveLookedAt last database ns olds news) (c.deref.ensures.value ∙ sym found) c.commit_each-fired.ensures.looked)

pub returns-in-None-clause-looked : goal.returns-in-None-clause-looked
returns-in-None-clause-looked g c =
    let index = c.args.index.now in
    let key = c.args.key.now in
    let last = last_of c.args.store.now in
    let database = at c.args.store.now last in
    let olds = c.args.watches.now in
    key_looked last database olds olds (numbers_in index) c.args.pending c.requires key
    (none_at last database olds (numbers_in index key) (ap items_in (sym c.get_mut.ensures.value ∙ ap option_copied_mut c.in-None.is)))
