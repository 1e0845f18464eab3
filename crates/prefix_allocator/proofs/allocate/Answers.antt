use Rattle.std.proofs.Common.{◌≡◌, ℕ, [], ◌∷◌, Option, Some, None, Ok, Err, refl, sym, ap, ◌∙◌, subst}
use Rattle.std.proofs.lemmas.Result.{err_from_is_err_and}
use Rattle.model_database.specs.Transactions.{Transaction, view}
use Rattle.std.specs.Prelude.{⊤}
use Rattle.model_allocator.specs.Acts.{all_acted}
use Rattle.model_allocator.specs.Granting.{asks_greatest, claims}
use Rattle.prefix_allocator.specs.Allocates.{Leaves}
use Rattle.prefix_allocator.specs.Keyed.{Starts}
use Rattle.prefix_allocator.specs.Doing.{Done, Draws, start_in, tries_of, window_candidates}
use Rattle.prefix_allocator.proofs.Calls.{IsGreatest}
use Rattle.prefix_allocator.proofs.Finding.{InWindow}
use Rattle.prefix_allocator.proofs.Openings.{Opened, opening}
use Rattle.prefix_allocator.proofs.Planning.{start_small}
use Rattle.prefix_allocator.proofs.Allocating.{has_opened, out_of_memory, fault_greatest, fault_start, fault_opening, fault_finding, full_allocated, granted_allocated, fault_claiming}
use Rattle.prefix_allocator.proofs.allocate.Goals as goal

pub open_window-requires : goal.open_window-requires
open_window-requires g c = start_small c.in_ok-keys.keys.space c.in_ok-greatest.greatest c.in_ok-first.first c.in_ok-first.ensures

pub returns-in_err-keys-clause-allocates : goal.returns-in_err-keys-clause-allocates
returns-in_err-keys-clause-allocates g c setting t stands =
    let p = err_from_is_err_and c.from_residual.result c.from_residual.ensures.1 in
    rw (p.1, p.2) (out_of_memory setting (g.T.Tr.stands c.args.tr.now setting) (g.W.Words.words c.args.words.now) c.args.space.now.prefix
    t stands)

pub returns-in_err-greatest-clause-allocates : goal.returns-in_err-greatest-clause-allocates
returns-in_err-greatest-clause-allocates g c setting t stands =
    let p = err_from_is_err_and c.from_residual-in_err-greatest.result c.from_residual-in_err-greatest.ensures.1 in
    let after = g.T.Tr.stands c.greatest_key.new.tr setting in
    rw (p.1, p.2) (fault_greatest c.in_err-greatest.field-0.0 setting after (g.W.Words.words c.args.words.now) c.args.space.now.prefix t
    (subst (λ space. Done (IsGreatest setting t space) (Err c.in_err-greatest.field-0.0) setting after (asks_greatest space ∷ []) t)
    c.in_ok-keys.ensures
    (c.in_err-greatest.ensures.read setting t stands)))

pub returns-in_err-first-clause-allocates : goal.returns-in_err-first-clause-allocates
returns-in_err-first-clause-allocates g c setting t stands =
    let p = err_from_is_err_and c.from_residual-in_err-first.result c.from_residual-in_err-first.ensures.1 in
    let after = g.T.Tr.stands c.greatest_key.new.tr setting in
    rw (p.1, p.2) (fault_start c.in_err-first.field-0.0 c.in_ok-greatest.greatest setting after (g.W.Words.words c.args.words.now)
    c.args.space.now.prefix t
    (subst (λ space. Starts (Err c.in_err-first.field-0.0) space c.in_ok-greatest.greatest) c.in_ok-keys.ensures c.in_err-first.ensures)
    (subst (λ space. Done (IsGreatest setting t space) (Ok c.in_ok-greatest.greatest) setting after (asks_greatest space ∷ []) t)
    c.in_ok-keys.ensures
    (c.in_ok-greatest.ensures.read setting t stands)))

pub returns-in_err-start-clause-allocates : goal.returns-in_err-start-clause-allocates
returns-in_err-start-clause-allocates g c setting t stands =
    let p = err_from_is_err_and c.from_residual-in_err-start.result c.from_residual-in_err-start.ensures.1 in
    let words = g.W.Words.words c.args.words.now in
    let prefix = c.args.space.now.prefix in
    let asked = g.T.Tr.stands c.greatest_key.new.tr setting in
    let first = c.in_ok-first.first in
    let greatest = subst (λ space. Done (IsGreatest setting t space) (Ok c.in_ok-greatest.greatest) setting asked
    (asks_greatest space ∷ []) t) c.in_ok-keys.ensures
    (c.in_ok-greatest.ensures.read setting t stands) in
    let after = g.T.Tr.stands c.open_window.new.tr setting in
    let f = c.in_err-start.field-0.0 in
    rw (p.1, p.2) (fault_opening f c.in_ok-greatest.greatest setting asked after words prefix first t (ap (λ space. start_in space c.in_ok-greatest.greatest) (sym c.in_ok-keys.ensures) ∙ c.in_ok-first.ensures) greatest
    (λ u stands. subst (λ space. Done (Opened setting u space first) (Err f) setting after (opening setting u space first) u)
    c.in_ok-keys.ensures
    (c.in_err-start.ensures.opened setting u stands)))

pub find_number-requires : goal.find_number-requires
find_number-requires g c = c.in_ok-start.ensures.small

pub returns-in_err-number-clause-allocates : goal.returns-in_err-number-clause-allocates
returns-in_err-number-clause-allocates g c setting t stands =
    let p = err_from_is_err_and c.from_residual-in_err-number.result c.from_residual-in_err-number.ensures.1 in
    let words = g.W.Words.words c.args.words.now in
    let prefix = c.args.space.now.prefix in
    let asked = g.T.Tr.stands c.greatest_key.new.tr setting in
    let first = c.in_ok-first.first in
    let greatest = subst (λ space. Done (IsGreatest setting t space) (Ok c.in_ok-greatest.greatest) setting asked
    (asks_greatest space ∷ []) t) c.in_ok-keys.ensures
    (c.in_ok-greatest.ensures.read setting t stands) in
    let opened = g.T.Tr.stands c.open_window.new.tr setting in
    let start = c.in_ok-start.start in
    let left = g.W.Words.words c.find_number.new.words in
    let has = has_opened c.in_ok-greatest.greatest setting asked opened prefix first start t (ap (λ space. start_in space c.in_ok-greatest.greatest) (sym c.in_ok-keys.ensures) ∙ c.in_ok-first.ensures) greatest
    (λ u stands. subst (λ space. Done (Opened setting u space first) (Ok start) setting opened (opening setting u space first) u)
    c.in_ok-keys.ensures
    (c.in_ok-start.ensures.opened setting u stands)) in
    let after = g.T.Tr.stands c.find_number.new.tr setting in
    let f = c.in_err-number.field-0.0 in
    rw (p.1, p.2) (fault_finding f setting opened after words left prefix first start t has
    (λ u stands. subst (λ space. Done (InWindow space setting u start words) (Err f) setting after
    (tries_of space (view setting u) (window_candidates start words)) u)
    c.in_ok-keys.ensures (c.in_err-number.ensures.found setting u stands))
    (λ u stands. subst (λ space. Draws {A = Option ℕ} (Err f) words left
    (all_acted setting (tries_of space (view setting u) (window_candidates start words)) u).words)
    c.in_ok-keys.ensures (c.in_err-number.ensures.drew setting u stands)))

none_is : (found : Option ℕ) → ((number : ℕ) → found ≡ Some number → ⊥) → found ≡ None
none_is None none = refl
none_is (Some number) none = absurd (none number refl)

pub returns-in_default-clause-allocates : goal.returns-in_default-clause-allocates
returns-in_default-clause-allocates g c setting t stands =
    let words = g.W.Words.words c.args.words.now in
    let prefix = c.args.space.now.prefix in
    let asked = g.T.Tr.stands c.greatest_key.new.tr setting in
    let first = c.in_ok-first.first in
    let greatest = subst (λ space. Done (IsGreatest setting t space) (Ok c.in_ok-greatest.greatest) setting asked
    (asks_greatest space ∷ []) t) c.in_ok-keys.ensures
    (c.in_ok-greatest.ensures.read setting t stands) in
    let opened = g.T.Tr.stands c.open_window.new.tr setting in
    let start = c.in_ok-start.start in
    let left = g.W.Words.words c.find_number.new.words in
    let has = has_opened c.in_ok-greatest.greatest setting asked opened prefix first start t (ap (λ space. start_in space c.in_ok-greatest.greatest) (sym c.in_ok-keys.ensures) ∙ c.in_ok-first.ensures) greatest
    (λ u stands. subst (λ space. Done (Opened setting u space first) (Ok start) setting opened (opening setting u space first) u)
    c.in_ok-keys.ensures
    (c.in_ok-start.ensures.opened setting u stands)) in
    let tried = g.T.Tr.stands c.find_number.new.tr setting in
    let search : (u : Transaction) → opened u
    → Done (InWindow prefix setting u start words) (Ok None) setting tried
    (tries_of prefix (view setting u) (window_candidates start words)) u =
    λ u stands. subst (λ found. Done (InWindow prefix setting u start words) (Ok found) setting tried
    (tries_of prefix (view setting u) (window_candidates start words)) u) (none_is c.in_ok-number.field-0 c.in_default.not-Some)
    (subst (λ space. Done (InWindow space setting u start words) (Ok c.in_ok-number.field-0) setting tried
    (tries_of space (view setting u) (window_candidates start words)) u)
    c.in_ok-keys.ensures (c.in_ok-number.ensures.found setting u stands)) in
    let drew : (u : Transaction) → opened u
    → Leaves words left (all_acted setting (tries_of prefix (view setting u) (window_candidates start words)) u).words =
    λ u stands. subst (λ space. Leaves words left
    (all_acted setting (tries_of space (view setting u) (window_candidates start words)) u).words)
    c.in_ok-keys.ensures (c.in_ok-number.ensures.drew setting u stands) in
    full_allocated setting opened tried words left prefix first start t has search drew

pub returns-in_err-claim_number-clause-allocates : goal.returns-in_err-claim_number-clause-allocates
returns-in_err-claim_number-clause-allocates g c setting t stands =
    let p = err_from_is_err_and c.from_residual-in_err-claim_number.result c.from_residual-in_err-claim_number.ensures.1 in
    let words = g.W.Words.words c.args.words.now in
    let prefix = c.args.space.now.prefix in
    let asked = g.T.Tr.stands c.greatest_key.new.tr setting in
    let first = c.in_ok-first.first in
    let greatest = subst (λ space. Done (IsGreatest setting t space) (Ok c.in_ok-greatest.greatest) setting asked
    (asks_greatest space ∷ []) t) c.in_ok-keys.ensures
    (c.in_ok-greatest.ensures.read setting t stands) in
    let opened = g.T.Tr.stands c.open_window.new.tr setting in
    let start = c.in_ok-start.start in
    let left = g.W.Words.words c.find_number.new.words in
    let has = has_opened c.in_ok-greatest.greatest setting asked opened prefix first start t (ap (λ space. start_in space c.in_ok-greatest.greatest) (sym c.in_ok-keys.ensures) ∙ c.in_ok-first.ensures) greatest
    (λ u stands. subst (λ space. Done (Opened setting u space first) (Ok start) setting opened (opening setting u space first) u)
    c.in_ok-keys.ensures
    (c.in_ok-start.ensures.opened setting u stands)) in
    let tried = g.T.Tr.stands c.find_number.new.tr setting in
    let search : (u : Transaction) → opened u → Done (InWindow prefix setting u start words) (Ok (Some c.in-Some.number)) setting tried
    (tries_of prefix (view setting u) (window_candidates start words)) u =
    λ u stands. subst (λ found. Done (InWindow prefix setting u start words) (Ok found) setting tried
    (tries_of prefix (view setting u) (window_candidates start words)) u) c.in-Some.is
    (subst (λ space. Done (InWindow space setting u start words) (Ok c.in_ok-number.field-0) setting tried
    (tries_of space (view setting u) (window_candidates start words)) u)
    c.in_ok-keys.ensures (c.in_ok-number.ensures.found setting u stands)) in
    let drew : (u : Transaction) → opened u
    → Leaves words left (all_acted setting (tries_of prefix (view setting u) (window_candidates start words)) u).words =
    λ u stands. subst (λ space. Leaves words left
    (all_acted setting (tries_of space (view setting u) (window_candidates start words)) u).words)
    c.in_ok-keys.ensures (c.in_ok-number.ensures.drew setting u stands) in
    let after = g.T.Tr.stands c.claim_number.new.tr setting in
    let f = c.in_err-claim_number.field-0.0 in
    rw (p.1, p.2) (fault_claiming c.in-Some.number f setting opened tried after words left prefix first start t has search drew
    (λ v stands. subst (λ space. Done (λ (done : Unit {0}). ⊤) (Err f) setting after (claims space (Some c.in-Some.number)) v)
    c.in_ok-keys.ensures
    (c.in_err-claim_number.ensures.claimed setting v stands)))

pub returns-clause-allocates : goal.returns-clause-allocates
returns-clause-allocates g c setting t stands =
    let words = g.W.Words.words c.args.words.now in
    let prefix = c.args.space.now.prefix in
    let asked = g.T.Tr.stands c.greatest_key.new.tr setting in
    let first = c.in_ok-first.first in
    let greatest = subst (λ space. Done (IsGreatest setting t space) (Ok c.in_ok-greatest.greatest) setting asked
    (asks_greatest space ∷ []) t) c.in_ok-keys.ensures
    (c.in_ok-greatest.ensures.read setting t stands) in
    let opened = g.T.Tr.stands c.open_window.new.tr setting in
    let start = c.in_ok-start.start in
    let left = g.W.Words.words c.find_number.new.words in
    let has = has_opened c.in_ok-greatest.greatest setting asked opened prefix first start t (ap (λ space. start_in space c.in_ok-greatest.greatest) (sym c.in_ok-keys.ensures) ∙ c.in_ok-first.ensures) greatest
    (λ u stands. subst (λ space. Done (Opened setting u space first) (Ok start) setting opened (opening setting u space first) u)
    c.in_ok-keys.ensures
    (c.in_ok-start.ensures.opened setting u stands)) in
    let tried = g.T.Tr.stands c.find_number.new.tr setting in
    let search : (u : Transaction) → opened u → Done (InWindow prefix setting u start words) (Ok (Some c.in-Some.number)) setting tried
    (tries_of prefix (view setting u) (window_candidates start words)) u =
    λ u stands. subst (λ found. Done (InWindow prefix setting u start words) (Ok found) setting tried
    (tries_of prefix (view setting u) (window_candidates start words)) u) c.in-Some.is
    (subst (λ space. Done (InWindow space setting u start words) (Ok c.in_ok-number.field-0) setting tried
    (tries_of space (view setting u) (window_candidates start words)) u)
    c.in_ok-keys.ensures (c.in_ok-number.ensures.found setting u stands)) in
    let drew : (u : Transaction) → opened u
    → Leaves words left (all_acted setting (tries_of prefix (view setting u) (window_candidates start words)) u).words =
    λ u stands. subst (λ space. Leaves words left
    (all_acted setting (tries_of space (view setting u) (window_candidates start words)) u).words)
    c.in_ok-keys.ensures (c.in_ok-number.ensures.drew setting u stands) in
    let after = g.T.Tr.stands c.claim_number.new.tr setting in
    granted_allocated c.in-Some.number c.in_ok-claim_number.field-0 setting opened tried after words left prefix first start t has search
    drew
    (λ v stands. subst (λ space. Done (λ (done : Unit {0}). ⊤) (Ok c.in_ok-claim_number.field-0) setting after
    (claims space (Some c.in-Some.number)) v) c.in_ok-keys.ensures
    (c.in_ok-claim_number.ensures.claimed setting v stands))
    (λ u from stands. g.met.T.Tr.granted_still c.claim_number.new.tr setting u prefix c.in-Some.number from stands)
