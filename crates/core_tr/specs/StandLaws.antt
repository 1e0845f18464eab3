-- Laws of what calls on a named transaction leave.
use Rattle.std.specs.Prelude.{◌≡◌, ◌⊎◌, ℕ, zero, suc, Bool, true, false, cond, List, [], ◌∷◌, Option, Some, None, refl}
use Rattle.std.proofs.Common.{inl, inr, ap, sym, subst, ◌∙◌}
use Rattle.std.specs.Ordering.{is_eq, eq_by_cmp}
use Rattle.std.specs.declared.cmp.Ordering.{Ordering}
use Rattle.std.specs.declared.cmp.Ordering.TheVariants.{Less, Equal, Greater}
use Rattle.std.specs.Cmp.{eq_by_cmp_equiv}
use Rattle.std.specs.Cmp.Lexicographic.{nat_list_cmp_total}
use Rattle.std.specs.FinMap as finite
use Rattle.key_bytes.specs.Keys.{key_cmp}
use Rattle.model_database.specs.Histories.{Setting}
use Rattle.model_database.specs.Transactions.{Transaction, with_granted}
use Rattle.fdb_calls.specs.declared.Outcome.{Outcome}
use Rattle.fdb_calls.specs.Outcomes.{outcome_of}
use Rattle.model_machine.specs.Worlds.{World, Transactions, decide, first_of, with_transaction}
use Rattle.txn_core.specs.Stands as txn
use Rattle.txn_calls.specs.StandLaws as txn_laws
use Rattle.client_core.specs.Stands.{CoreModel, StandsFor, AreAlike}
use Rattle.core_tr.specs.Standing.{IsSettled, Stands, AreAlikeElse, Stays, KeepsRest}

-- ---- lives

first_again : (one other : Option Outcome) → first_of (first_of one other) other ≡ first_of one other
first_again (Some one) other = refl
first_again None None = refl
first_again None (Some other) = refl

-- what is decided once more so is as it was
pub decide_again : (life : ℕ) (outcome : Option Outcome) (lives : List (Option Outcome))
    → decide life outcome (decide life outcome lives) ≡ decide life outcome lives
decide_again life outcome [] = refl
decide_again zero outcome (one ∷ lives) = ap (λ (first : Option Outcome). first ∷ lives) (first_again one outcome)
decide_again (suc life) outcome (one ∷ lives) = ap (λ (others : List (Option Outcome)). one ∷ others) (decide_again life outcome lives)

-- ---- all else stays

pub settled_still : (t left : Transaction) (lives lives_after : List (Option Outcome)) → left.life ≡ t.life → left.phase ≡ t.phase
    → lives_after ≡ lives → IsSettled t lives → IsSettled left lives_after
settled_still t left lives lives_after life phase same settled =
    (λ i. decide (life i) (outcome_of (phase i)) (same i)) ∙ settled ∙ sym same

pub stays_itself : (core : CoreModel) (name : List ℕ) (world : World) (t : Transaction) → StandsFor core world
    → finite.get world.transactions name ≡ Some t → Stays world name t core
stays_itself core name world t stands there = record {
  after = world;
  left = t;
  stands = stands;
  there = there;
  life = refl;
  phase = refl;
  alike = record { setting = refl; lives = refl; started = refl; others = λ other differs. refl };
}

pub alike_still : (name : List ℕ) (one two three : World) → AreAlikeElse name one two → AreAlikeElse name two three → AreAlikeElse name one three
alike_still name one two three first second = record {
  setting = second.setting ∙ first.setting;
  lives = second.lives ∙ first.lives;
  started = second.started ∙ first.started;
  others = λ other differs. second.others other differs ∙ first.others other differs;
}

stays_still : (world : World) (name : List ℕ) (t : Transaction) (mid core : CoreModel) (first : Stays world name t mid)
    → Stays first.after name first.left core → Stays world name t core
stays_still world name t mid core first second = record {
  after = second.after;
  left = second.left;
  stands = second.stands;
  there = second.there;
  life = second.life ∙ first.life;
  phase = second.phase ∙ first.phase;
  alike = alike_still name world first.after second.after first.alike second.alike;
}

pub rest_itself : (is_spent : Bool) (core : CoreModel) (name : List ℕ) → KeepsRest is_spent is_spent core core name name
rest_itself is_spent core name = record {
  same_name = refl;
  spent = λ is. is;
  stays = λ world t stands there settled. inr (stays_itself core name world t stands there);
}

pub rest_still : {spent_one spent_two spent_three : Bool} {one two three : CoreModel} {name_one name_two name_three : List ℕ}
    → KeepsRest spent_one spent_two one two name_one name_two → KeepsRest spent_two spent_three two three name_two name_three
    → KeepsRest spent_one spent_three one three name_one name_three
rest_still {spent_two = spent_two} {spent_three = spent_three} {two = two} {three = three} {name_one = name_one} {name_two = name_two} first second = record {
  same_name = second.same_name ∙ first.same_name;
  spent = λ is. second.spent (first.spent is);
  stays = λ world t stands there settled. by world t settled (first.stays world t stands there settled);
}
  where
    on : (world : World) (t : Transaction) (stays : Stays world name_one t two)
        → (spent_three ≡ true) ⊎ Stays stays.after name_one stays.left three → (spent_three ≡ true) ⊎ Stays world name_one t three
    on world t stays (inl is) = inl is
    on world t stays (inr more) = inr (stays_still world name_one t two three stays more)

    by : (world : World) (t : Transaction) → IsSettled t world.lives → (spent_two ≡ true) ⊎ Stays world name_one t two
        → (spent_three ≡ true) ⊎ Stays world name_one t three
    by world t settled (inl is) = inl (second.spent is)
    by world t settled (inr stays) =
        on world t stays
        (subst (λ (name : List ℕ). (spent_three ≡ true) ⊎ Stays stays.after name stays.left three) first.same_name
        (second.stays stays.after stays.left stays.stands
        (subst (λ (name : List ℕ). finite.get stays.after.transactions name ≡ Some stays.left) (sym first.same_name) stays.there)
        (settled_still t stays.left world.lives stays.after.lives stays.life stays.phase stays.alike.lives settled)))

-- ---- the transaction of a name

same_key : (name : List ℕ) → eq_by_cmp key_cmp name name ≡ true
same_key name = (eq_by_cmp_equiv nat_list_cmp_total).refl name

tied : (order : Ordering) → is_eq order ≡ true → order ≡ Equal
tied Less is = absurd cc
tied Equal is = refl
tied Greater is = absurd cc

pub there_inserted : (transactions : Transactions) (name : List ℕ) (t : Transaction)
    → finite.get (finite.insert transactions name t) name ≡ Some t
there_inserted transactions name t =
    finite.get-insert nat_list_cmp_total transactions name t name
    ∙ ap (λ (b : Bool). cond b (Some t) (finite.get transactions name)) (same_key name)

-- that of another name
pub other_inserted : (transactions : Transactions) (name other : List ℕ) (t : Transaction) → eq_by_cmp key_cmp other name ≡ false
    → finite.get (finite.insert transactions name t) other ≡ finite.get transactions other
other_inserted transactions name other t differs =
    finite.get-insert nat_list_cmp_total transactions name t other
    ∙ ap (λ (b : Bool). cond b (Some t) (finite.get transactions other)) differs

-- A core stands for a world that is alike but for the transaction of a name, where what is kept of that name's stands for it.
pub stands_alike : (core : CoreModel) (name : List ℕ) (one two : World) (left : Transaction) → StandsFor core one → AreAlikeElse name one two
    → finite.get two.transactions name ≡ Some left → AreAlike (finite.get core.transactions name) (Some left) → StandsFor core two
stands_alike core name one two left stands alike there its = record {
  contents = record {
    options = stands.contents.options ∙ sym (ap (λ (setting : Setting). setting.options) alike.setting);
    keeps = subst (λ (setting : Setting). txn.Keeps core.store core.index setting) (sym alike.setting) stands.contents.keeps;
    transactions = λ asked. by asked (eq_by_cmp key_cmp asked name) refl;
    lives = stands.contents.lives ∙ sym alike.lives;
  };
  started = stands.started ∙ sym alike.started;
}
  where
    by : (asked : List ℕ) (b : Bool) → b ≡ eq_by_cmp key_cmp asked name
        → AreAlike (finite.get core.transactions asked) (finite.get two.transactions asked)
    by asked false is =
        subst (AreAlike (finite.get core.transactions asked)) (sym (alike.others asked (sym is))) (stands.contents.transactions asked)
    by asked true is =
        let same = tied (key_cmp asked name) (sym is) in
        subst (λ (kept : Option txn.Kept). AreAlike kept (finite.get two.transactions asked))
        (finite.get_tied nat_list_cmp_total core.transactions asked name same)
        (subst (AreAlike (finite.get core.transactions name)) (sym there ∙ finite.get_tied nat_list_cmp_total two.transactions asked name same) its)

-- what is kept of a transaction that stands in a world
pub kept_there : (core : CoreModel) (name : List ℕ) (world : World) (t : Transaction) → StandsFor core world
    → finite.get world.transactions name ≡ Some t → AreAlike (finite.get core.transactions name) (Some t)
kept_there core name world t stands there = subst (AreAlike (finite.get core.transactions name)) there (stands.contents.transactions name)

-- ---- the prefix allocator granted a number

alike_for : (kept : Option txn.Kept) (t other : Transaction) → ((its : txn.Kept) → txn.StandsFor its t → txn.StandsFor its other)
    → AreAlike kept (Some t) → AreAlike kept (Some other)
alike_for None t other for alike = absurd alike
alike_for (Some kept) t other for alike = for kept alike

alike_inserted : (name : List ℕ) (world : World) (t : Transaction) → AreAlikeElse name world (with_transaction world name t)
alike_inserted name world t = record {
  setting = refl;
  lives = refl;
  started = refl;
  others = λ other differs. other_inserted world.transactions name other t differs;
}

pub stands_granted : (is_spent : Bool) (core : CoreModel) (name : List ℕ) (setting : Setting) (t : Transaction) (space : List ℕ)
    (number from : ℕ) → Stands is_spent core name setting t → Stands is_spent core name setting (with_granted t space number from)
stands_granted is_spent core name setting t space number from (inl is) = inl is
stands_granted is_spent core name setting t space number from (inr stands) =
    let granted = with_granted t space number from in
    inr (record {
      world = with_transaction stands.world name granted;
      stands = stands_alike core name stands.world (with_transaction stands.world name granted) granted stands.stands
          (alike_inserted name stands.world granted) (there_inserted stands.world.transactions name granted)
          (alike_for (finite.get core.transactions name) t granted (λ kept. txn_laws.stands_granted kept t space number from)
          (kept_there core name stands.world t stands.stands stands.there));
      setting_is = stands.setting_is;
      there = there_inserted stands.world.transactions name granted;
      settled = stands.settled;
    })
