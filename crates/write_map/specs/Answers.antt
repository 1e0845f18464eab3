-- What `at` answers of a key.
use Rattle.std.specs.Prelude.{◌≡◌, ℕ, true, false, List}
use Rattle.std.specs.Option.{option_map}
use Rattle.model_database.specs.Databases.{Mutation}
use Rattle.model_database.specs.States.{Unmodified, Decided, Depends, covers, state_under, unreadable}
use Rattle.write_map.specs.declared.state.KeyState.{KeyState as Shown}
use Rattle.write_map.specs.declared.state.KeyState.TheVariants as shown

-- Unreadable exactly where the key is unreadable under the mutations; else the state of the key under them
abbrev pub IsStateUnder : List Mutation → List ℕ → Shown → Type 0
IsStateUnder mutations key shown.Unmodified =
    (covers (unreadable mutations) key ≡ false) × (state_under mutations key ≡ Unmodified)
IsStateUnder mutations key (shown.Decided value) =
    (covers (unreadable mutations) key ≡ false) × (state_under mutations key ≡ Decided (option_map (λ bytes. bytes.now) value))
IsStateUnder mutations key (shown.Depends edits) =
    (covers (unreadable mutations) key ≡ false) × (state_under mutations key ≡ Depends edits.now)
IsStateUnder mutations key shown.Unreadable = covers (unreadable mutations) key ≡ true
