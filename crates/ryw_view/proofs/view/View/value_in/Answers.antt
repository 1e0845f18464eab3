use Rattle.std.proofs.Common.{sym, ap, ◌∙◌}
use Rattle.std.proofs.lemmas.Result.{IfOk-weaker}
use Rattle.std.specs.FinMap as finite
use Rattle.std.specs.Option.{option_copied}
use Rattle.model_database.specs.States.{Unmodified, Decided, Depends, all_atoms}
use Rattle.write_map.specs.Edits.{edits_of}
use Rattle.ryw_view.specs.Views.{stored_of}
use Rattle.ryw_view.proofs.Seen.{seen_unreadable, seen_readable}
use Rattle.ryw_view.proofs.view.View.value_in.Goals as goal

pub returns-in-Unreadable : goal.returns-in-Unreadable
returns-in-Unreadable c =
    sym
    (seen_unreadable c.args.self.now.edits.now.mutations (stored_of c.args.self.now) c.args.key.now (rw c.in-Unreadable.is at c.requires))

pub returns-in-Decided : goal.returns-in-Decided
returns-in-Decided c =
    let under = rw c.in-Decided.is at c.requires in
    IfOk-weaker c.copied.result _ _
    (λ value same. same
    ∙ sym
    (seen_readable c.args.self.now.edits.now.mutations (stored_of c.args.self.now) c.args.key.now
    (Decided (option_copied c.in-Decided.value)) under.0 under.1))
    c.copied.ensures

pub returns-in-Unmodified : goal.returns-in-Unmodified
returns-in-Unmodified c =
    let under = rw c.in-Unmodified.is at c.requires in
    IfOk-weaker c.copied-in-Unmodified.result _ _
    (λ value same. same
    ∙ c.stored.ensures
    ∙ sym (seen_readable c.args.self.now.edits.now.mutations (stored_of c.args.self.now) c.args.key.now Unmodified under.0 under.1))
    c.copied-in-Unmodified.ensures

pub returns-in-Depends : goal.returns-in-Depends
returns-in-Depends c =
    let under = rw c.in-Depends.is at c.requires in
    let old = finite.get (stored_of c.args.self.now) c.args.key.now in
    IfOk-weaker c.applied.result _ _
    (λ value same. same
    ∙ ap (all_atoms (edits_of c.as_slice.result.now)) c.stored-in-Depends.ensures
    ∙ ap (λ edits. all_atoms edits old) c.as_slice.ensures
    ∙ sym
    (seen_readable c.args.self.now.edits.now.mutations (stored_of c.args.self.now) c.args.key.now (Depends c.in-Depends.edits.now) under.0
    under.1))
    c.applied.ensures
