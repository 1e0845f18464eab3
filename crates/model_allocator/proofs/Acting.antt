-- Acts one after the other: a list of them in two parts, and how many words they draw.
use Rattle.std.proofs.Common.{◌≡◌, ℕ, ◌+◌, Bool, true, false, List, [], ◌∷◌, ◌++◌, Option, Some, None, refl, sym, ap, ◌∙◌, arith}
use Rattle.std.specs.List.{list_all}
use Rattle.std.proofs.lemmas.Bool.{and_parts}
use Rattle.model_database.specs.declared.Code.{Code}
use Rattle.model_database.specs.Histories.{Setting}
use Rattle.model_database.specs.Transactions.{Transaction}
use Rattle.fdb_calls.specs.Calling.{Called}
use Rattle.model_allocator.specs.Acts.{Act, Draws, Reads, Writes, DisablesWriteConflict, AddsWriteConflict, Acted, act_called, acted_by, all_acted, refusal, words_of}

-- ---- two parts

-- what these acts left, and then those behind them
abbrev pub followed : Acted → Acted → Acted
followed first second = acted_by first.refused first.transaction first.words second

unmoved : (acted : Acted) → acted ≡ followed (record { transaction = acted.transaction; refused = None; words = 0 }) acted
unmoved acted = ap (λ (words : ℕ). record acted { words = words }) (omega arith)

-- one act, and then two parts
one_more : (refused : Option Code) (t : Transaction) (words : ℕ) (first second : Acted)
    → acted_by refused t words (followed first second) ≡ followed (acted_by refused t words first) second
one_more (Some code) t words first second = refl
one_more None t words first second = by first.refused
  where
    by : (refused : Option Code) → acted_by None t words (acted_by refused first.transaction first.words second)
        ≡ acted_by refused first.transaction (words + first.words) second
    by (Some code) = refl
    by None = ap (λ (words : ℕ). record second { words = words }) (omega arith)

-- what the second part is made on: what the first left
pub all_acted-append : (setting : Setting) (first second : List Act) (t : Transaction)
    → all_acted setting (first ++ second) t ≡ followed (all_acted setting first t)
    (all_acted setting second (all_acted setting first t).transaction)
unfolding all_acted
all_acted-append setting [] second t = unmoved (all_acted setting second t)
all_acted-append setting (act ∷ first) second t =
    by (refusal called.reply) (all_acted-append setting first second called.transaction)
  where
    called : Called
    called = act_called setting t act

    others : Acted
    others = all_acted setting first called.transaction

    by : (refused : Option Code)
        → all_acted setting (first ++ second) called.transaction ≡ followed others (all_acted setting second others.transaction)
        → acted_by refused called.transaction (words_of act) (all_acted setting (first ++ second) called.transaction)
        ≡ followed (acted_by refused called.transaction (words_of act) others)
        (all_acted setting second (acted_by refused called.transaction (words_of act) others).transaction)
    by (Some code) parts = refl
    by None parts = ap (acted_by None called.transaction (words_of act)) parts
        ∙ one_more None called.transaction (words_of act) others (all_acted setting second others.transaction)

-- a first part that was let through
pub passed-append : (setting : Setting) (first second : List Act) (t : Transaction) → (all_acted setting first t).refused ≡ None
    → all_acted setting (first ++ second) t
    ≡ acted_by None (all_acted setting first t).transaction (all_acted setting first t).words
    (all_acted setting second (all_acted setting first t).transaction)
passed-append setting first second t passed =
    let acted = all_acted setting first t in
    all_acted-append setting first second t
    ∙ ap (λ refused. acted_by refused acted.transaction acted.words (all_acted setting second acted.transaction)) passed

-- a first part that was refused is all that was made
pub refused-append : (setting : Setting) (first second : List Act) (t : Transaction) (code : Code)
    → (all_acted setting first t).refused ≡ Some code → all_acted setting (first ++ second) t ≡ all_acted setting first t
refused-append setting first second t code refused =
    let acted = all_acted setting first t in
    all_acted-append setting first second t
    ∙ ap (λ refused. acted_by refused acted.transaction acted.words (all_acted setting second acted.transaction)) refused
    ∙ ap (λ (refused : Option Code). record acted { refused = refused }) (sym refused)

-- ---- what each act keeps, all of them keep

abbrev pub Keep : Setting → (P : Transaction → Type 0) → List Act → Type 0
Keep setting P [] = Unit {0}
Keep setting P (act ∷ acts) = ((t : Transaction) → P t → P (act_called setting t act).transaction) × Keep setting P acts

pub keep-append : (setting : Setting) (P : Transaction → Type 0) (first second : List Act)
    → Keep setting P first → Keep setting P second → Keep setting P (first ++ second)
keep-append setting P [] second one other = other
keep-append setting P (act ∷ first) second one other = (one.0, keep-append setting P first second one.1 other)

pub all_keep : (setting : Setting) (P : Transaction → Type 0) (acts : List Act) → Keep setting P acts → (t : Transaction) → P t
    → P (all_acted setting acts t).transaction
unfolding all_acted
all_keep setting P [] each t p = p
all_keep setting P (act ∷ acts) each t p =
    by (refusal called.reply) (each.0 t p) (all_keep setting P acts each.1 called.transaction (each.0 t p))
  where
    called : Called
    called = act_called setting t act

    by : (refused : Option Code) → P called.transaction → P (all_acted setting acts called.transaction).transaction
        → P (acted_by refused called.transaction (words_of act) (all_acted setting acts called.transaction)).transaction
    by (Some code) one all = one
    by None one all = all

-- ---- words

abbrev pub draws_none : Act → Bool
draws_none Draws = false
draws_none _ = true

-- acts without a draw draw no word
pub none_drawn : (setting : Setting) (acts : List Act) (t : Transaction) → list_all draws_none acts ≡ true
    → (all_acted setting acts t).words ≡ 0
unfolding all_acted
none_drawn setting [] t none = refl
none_drawn setting (act ∷ acts) t none =
    let parts = and_parts (draws_none act) _ none in
    by (refusal (act_called setting t act).reply) (words_of act) (zero_of act parts.0)
    (all_acted setting acts (act_called setting t act).transaction) (none_drawn setting acts (act_called setting t act).transaction parts.1)
  where
    zero_of : (act : Act) → draws_none act ≡ true → words_of act ≡ 0
    zero_of Draws none = absurd cc
    zero_of (Reads read snapshot) none = refl
    zero_of (Writes mutation) none = refl
    zero_of DisablesWriteConflict none = refl
    zero_of (AddsWriteConflict key) none = refl

    by : (refused : Option Code) (words : ℕ) → words ≡ 0 → (others : Acted) → others.words ≡ 0
        → (acted_by refused (act_called setting t act).transaction words others).words ≡ 0
    by (Some code) words zero others none = zero
    by None words zero others none = omega arith

-- acts without a draw behind others change nothing of it, whether they are made or not
pub quiet_behind : (setting : Setting) (first second : List Act) (t : Transaction) → list_all draws_none second ≡ true
    → (all_acted setting (first ++ second) t).words ≡ (all_acted setting first t).words
quiet_behind setting first second t none =
    ap (λ (acted : Acted). acted.words) (all_acted-append setting first second t) ∙ by acted.refused
  where
    acted : Acted
    acted = all_acted setting first t

    by : (refused : Option Code)
        → (acted_by refused acted.transaction acted.words (all_acted setting second acted.transaction)).words ≡ acted.words
    by (Some code) = refl
    by None = let zero = none_drawn setting second acted.transaction none in omega arith
