-- At any other key the store has what it had.
use Rattle.std.proofs.Common.{◌≡◌, ◌∷◌, ◌++◌, [], ℕ, List, Option, ap, sym, ◌∙◌}
use Rattle.std.specs.Map.{keys_of}
use Rattle.watch_core.proofs.Changing.{current_installed}
use Rattle.text_commands.proofs.scene.Scene.commit.Goals as goal

pub committed_keys-requires-clause-others : goal.committed_keys-requires-clause-others
committed_keys-requires-clause-others c =
    let key = c.args.change.key in
    let changes : c.push.new.self ≡ (key, c.args.change.value) ∷ [] =
    c.in_ok-push.ensures.ok ∙ ap (λ (x : List (List ℕ × Option (List ℕ))). x ++ (key, c.args.change.value) ∷ []) c.new-changes.ensures in
    current_installed c.push.new.self c.args.self.now.store c.reserve.new.self c.install.new.self c.args.self.now.watches.watches
    c.in_ok-reserve.ensures.last c.in_ok-reserve.ensures.reads c.install.ensures.last c.install.ensures.after c.requires.values
    c.from_ref.result.now
    (c.from_ref.ensures.value ∙ (ap (λ (k : List ℕ). k ∷ []) c.in_ok-key.ensures ∙ sym (ap keys_of changes)))
