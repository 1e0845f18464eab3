-- The watches on one key more have looked.
use Rattle.std.proofs.Common.{◌++◌, ◌∷◌, [], map, take, sym, ap, subst, arith, ◌∙◌}
use Rattle.std.proofs.lemmas.List.{take_more}
use Rattle.version_store.specs.Versions.{at, last_of}
use Rattle.watch_core.specs.Watching.{HaveLooked}
use Rattle.watch_core.specs.Watches.{watched_of}
use Rattle.watch_core.proofs.Commits.{none_looked, both_looked}
use Rattle.watch_core.proofs.watches.commit_keys.Goals as goal

pub loop-key-init : goal.loop-key-init
loop-key-init g c = record {
  listed = c.requires;
  looked = none_looked (last_of c.args.store.now) (at c.args.store.now (last_of c.args.store.now)) (map watched_of c.args.watches.now);
}

pub loop-key-preserved : goal.loop-key-preserved
loop-key-preserved g c =
    let last = last_of c.args.store.now in
    let database = at c.args.store.now last in
    let keys = c.args.keys.now in
    let i = c.loop-key.key-index in
    let key = c.key-item.result in
    let olds = map watched_of c.args.watches.now in
    let news = map watched_of c.commit_key-pending.new.watches in
    record {
      listed = c.commit_key-pending.ensures.listed;
      looked =
          subst (λ ks. HaveLooked last database ks olds news)
          (sym (take_more keys i key (omega arith) ∙ ap (λ k. take i keys ++ k ∷ []) (sym c.key-item.is)))
          (both_looked last database (take i keys) key olds (map watched_of c.loop-key.watches) news
          c.loop-key.invariant.looked c.commit_key-pending.ensures.looked);
    }
