use Rattle.std.proofs.Common.{◌≡◌, true, not, ◌&&◌, ◌||◌, length, nat_lt, sym, ap, ◌∙◌}
use Rattle.std.proofs.Math.Bool.{or-true}
use Rattle.std.proofs.lemmas.Bool.{not-true, not-false}
use Rattle.std.proofs.lemmas.Result.{on_ok_weaker}
use Rattle.key_bytes.specs.Keys.{key_lt}
use Rattle.key_bytes.proofs.Orders.{irreflexive}
use Rattle.model_database.specs.States.{covers}
use Rattle.model_database.proofs.Ranges.{none_within}
use Rattle.txn_parts.proofs.Units.{or_false, and_true, and_false}
use Rattle.txn_calls.proofs.Standing.{not_bare}
use Rattle.txn_calls.proofs.conflicts.add_filled.Goals as goal

pub returns-then-is_empty-clause-ok : goal.returns-then-is_empty-clause-ok
returns-then-is_empty-clause-ok c key =
    let range = c.args.range.now in
    sym (ap (λ b. covers c.args.ranges.now key || b)
    (none_within range.begin range.end key (not-true (key_lt range.begin range.end) (sym c.is_empty.ensures ∙ c.if-is_empty.true)))
    ∙ or_false (covers c.args.ranges.now key))

pub returns-then-is_empty-clause-bare : goal.returns-then-is_empty-clause-bare
returns-then-is_empty-clause-bare c =
    sym (ap (λ b. nat_lt (length c.args.ranges.now) 1 && b) (sym (c.if-is_empty.ensures {u = tt})) ∙ and_true (nat_lt (length c.args.ranges.now) 1))

pub returns-clause-bare : goal.returns-clause-bare
returns-clause-bare c =
    let range = c.args.range.now in
    let filled : key_lt range.begin range.end ≡ true = not-false (key_lt range.begin range.end) (sym c.is_empty.ensures ∙ c.if-is_empty.false) in
    on_ok_weaker c.add.result (λ added.
    not_bare c.add.new.self range.begin
    (added range.begin
    ∙ ap (λ b. covers c.args.ranges.now range.begin || b) (λ i. not (irreflexive range.begin i) && filled i)
    ∙ or-true (covers c.args.ranges.now range.begin))
    ∙ sym (ap (λ b. nat_lt (length c.args.ranges.now) 1 && not b) filled ∙ and_false (nat_lt (length c.args.ranges.now) 1)))
    c.add.ensures.ok
