-- What became of lives.
use Rattle.std.proofs.Common.{◌≡◌, ℕ, List, Option, Some, None, ap, ◌∙◌}
use Rattle.std.specs.Prelude.{option_map, unwrap_or}
use Rattle.model_database.specs.Transactions.{Transaction, fresh}
use Rattle.fdb_calls.specs.declared.Outcome.{Outcome}
use Rattle.model_machine.specs.Worlds.{decide, with_lives, lives_after}
use Rattle.txn_core.specs.Stands as txn
use Rattle.client_core.specs.Stands.{AreAlike}
use Rattle.client_core.specs.Lives.{outcome_by}

-- the life of a transaction that is alike, or of the next one
pub life_found : (x : Option txn.Kept) (y : Option Transaction) (n m : ℕ) → AreAlike x y → n ≡ m
    → unwrap_or (option_map (λ (kept : txn.Kept). kept.life) x) n ≡ (unwrap_or y (fresh m)).life
life_found None None n m alike same = same
life_found None (Some transaction) n m alike same = absurd alike
life_found (Some kept) None n m alike same = absurd alike
life_found (Some kept) (Some transaction) n m alike same = alike.life

-- lives go on alike where one transaction comes after another
pub lives_agree : (kept_lives lives : List (Option Outcome)) (life drew count : ℕ) (outcome : Option Outcome) (kept : txn.Kept)
    (before after : Transaction)
    → kept_lives ≡ lives → drew ≡ count → life ≡ before.life → outcome ≡ outcome_by life kept.life kept.phase → txn.StandsFor kept after
    → decide life outcome (with_lives kept_lives drew) ≡ lives_after lives count before after
lives_agree kept_lives lives life drew count outcome kept before after same counted is becomes stands =
    ap (λ (o : Option Outcome). decide life o (with_lives kept_lives drew)) becomes
    ∙ (λ i. decide (is i) (outcome_by (is i) (stands.life i) (stands.phase i)) (with_lives (same i) (counted i)))
