use Rattle.std.proofs.Common.{◌≡◌, ◌++◌, ◌∷◌, [], sym, subst, rules}
use Rattle.std.proofs.lemmas.List.{map-append}
use Rattle.version_store.specs.Changed.{IsRising, changes_of, change_of}
use Rattle.version_store.proofs.Rising.{IsRising-push}
use Rattle.version_store.proofs.changes.Changes.push.Goals as goal

pub invariant_of-self-2 : goal.invariant_of-self-2
invariant_of-self-2 c =
    let items : changes_of c.push.new.self.items
    ≡ changes_of c.self.inside.items.items ++ change_of c.args.change ∷ [] = search (rules, map-append) in
    subst IsRising (sym items)
    (IsRising-push (changes_of c.self.inside.items.items) (change_of c.args.change) c.self.invariant (rw c.self.view_is c.requires))
