use Rattle.std.proofs.Common.{◌≡◌, true, false, None, sym, ap, ◌∙◌, arith}
use Rattle.std.specs.Option.{option_map}
use Rattle.model_database.specs.Histories.{conflicts}
use Rattle.model_database.specs.Transactions.{number_of}
use Rattle.txn_calls.specs.Accesses.{version_code, version_of}
use Rattle.txn_calls.proofs.Judging.{checked, conflict_same}
use Rattle.txn_calls.proofs.Views.{not_behind}
use Rattle.txn_calls.proofs.txn.Txn.conflict_code.Goals as goal

pub returns-in-Some : goal.returns-in-Some
returns-in-Some c setting t stands keeps =
    let kept = c.args.self.now in let store = c.args.store.now in
    ap (λ code. checked code (conflicts setting.history (version_of kept store) kept.read_ranges))
    (ap (option_map number_of) (sym c.in-Some.is) ∙ c.version_code.ensures)
    ∙ conflict_same kept store c.args.index.now setting t stands keeps

-- where the version can be read, the conflicts decide
pub returns-then-has_conflict : goal.returns-then-has_conflict
returns-then-has_conflict c setting t stands keeps =
    let kept = c.args.self.now in let store = c.args.store.now in
    let readable : version_code kept store ≡ None = sym c.version_code.ensures ∙ ap (option_map number_of) c.in_default.is in
    let from = not_behind kept store c.args.index.now setting keeps readable in
    let met : conflicts setting.history (version_of kept store) kept.read_ranges ≡ true =
    ap (λ v. conflicts setting.history v kept.read_ranges) (sym c.version_over.ensures.version)
    ∙ sym (c.has_conflict.ensures store setting keeps (omega (arith, from, c.version_over.ensures.version))) ∙ c.if-has_conflict.true in
    sym (λ i. checked (readable i) (met i)) ∙ conflict_same kept store c.args.index.now setting t stands keeps

pub returns : goal.returns
returns c setting t stands keeps =
    let kept = c.args.self.now in let store = c.args.store.now in
    let readable : version_code kept store ≡ None = sym c.version_code.ensures ∙ ap (option_map number_of) c.in_default.is in
    let from = not_behind kept store c.args.index.now setting keeps readable in
    let met : conflicts setting.history (version_of kept store) kept.read_ranges ≡ false =
    ap (λ v. conflicts setting.history v kept.read_ranges) (sym c.version_over.ensures.version)
    ∙ sym (c.has_conflict.ensures store setting keeps (omega (arith, from, c.version_over.ensures.version))) ∙ c.if-has_conflict.false in
    sym (λ i. checked (readable i) (met i)) ∙ conflict_same kept store c.args.index.now setting t stands keeps
