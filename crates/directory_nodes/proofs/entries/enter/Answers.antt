use Rattle.std.proofs.Common.{◌≡◌, ℕ, List, Result, Ok, Err, ap, ◌∙◌}
use Rattle.std.specs.Prelude.{IsErrAnd}
use Rattle.model_database.specs.Databases.{Set}
use Rattle.model_database.specs.Histories.{Setting}
use Rattle.model_database.specs.Transactions.{Transaction}
use Rattle.directory_types.specs.declared.Layer.{Layer}
use Rattle.directory_types.specs.declared.fault.DirFault.{DirFault}
use Rattle.directory_types.specs.declared.fault.DirFault.TheVariants as fault
use Rattle.model_directory.specs.declared.Directory.{Directory}
use Rattle.model_directory.specs.Courses.{Course, Gives, ◌>>=◌, Done, done, does}
use Rattle.model_directory.specs.Nodes.{node_of, layer_key}
use Rattle.model_directory.specs.Steps.{directory, sets_entry}
use Rattle.model_directory.specs.Calls.{enters}
use Rattle.directory_nodes.specs.Runs.{Draws}
use Rattle.directory_nodes.proofs.Following.{then_drew, gave}
use Rattle.directory_nodes.proofs.Passing.{ended_so, ran_out}
use Rattle.directory_nodes.proofs.Values.{did_so}
use Rattle.directory_nodes.proofs.entries.enter.Goals as goal

-- its layer name is noted, behind its entry
abbrev names_layer : Layer → Directory → Done → Course Directory
names_layer layer found entry = do
  noted ← does (Set (layer_key (node_of layer found.prefix)) found.layer)
  Gives (directory found.prefix found.layer)

pub returns-in_err-set_entry-clause-follows : goal.returns-in_err-set_entry-clause-follows
unfolding enters
returns-in_err-set_entry-clause-follows g c words =
    let layer = c.args.layer.now in
    let found = c.args.found in
    ended_so c.in_err-set_entry.field-0.0 c.from_residual.result (g.T.Tr.stands c.args.tr.now)
    (g.T.Tr.stands c.set_entry.new.tr) words words
    (sets_entry layer c.args.parent.now.prefix c.args.name.now found.prefix) (names_layer layer found) c.from_residual.ensures.1
    (c.in_err-set_entry.ensures.follows words)

-- its entry was set, and what follows
entry_set : (layer : Layer) (parent : Directory) (name : List ℕ) (found : Directory) (result : Result Directory DirFault)
    (before middle after : Setting → Transaction → Type 0) (words : ℕ → ℕ)
    → Draws (Ok done) before middle words words (sets_entry layer parent.prefix name found.prefix)
    → Draws result middle after words words (names_layer layer found done) → Draws result before after words words (enters layer parent name found.prefix found.layer)
unfolding enters
entry_set layer parent name found result before middle after words drew later =
    then_drew done result before middle after words words words (sets_entry layer parent.prefix name found.prefix) (names_layer layer found) drew later

-- memory ran out behind its entry
entry_alone : (layer : Layer) (parent : Directory) (name : List ℕ) (found : Directory) (result : Result Directory DirFault)
    (before middle : Setting → Transaction → Type 0) (words : ℕ → ℕ) → IsErrAnd result (λ given. given ≡ fault.NoMemory)
    → Draws (Ok done) before middle words words (sets_entry layer parent.prefix name found.prefix)
    → Draws result before middle words words (enters layer parent name found.prefix found.layer)
entry_alone layer parent name found result before middle words is drew =
    entry_set layer parent name found result before middle middle words drew (ran_out result middle words words (names_layer layer found done) is)

pub returns-in_err-of-clause-follows : goal.returns-in_err-of-clause-follows
returns-in_err-of-clause-follows g c words =
    entry_alone c.args.layer.now c.args.parent.now c.args.name.now c.args.found c.from_residual-in_err-of.result (g.T.Tr.stands c.args.tr.now)
    (g.T.Tr.stands c.set_entry.new.tr) words c.from_residual-in_err-of.ensures.1 (c.in_ok-set_entry.ensures.follows words)

pub returns-in_err-key-clause-follows : goal.returns-in_err-key-clause-follows
returns-in_err-key-clause-follows g c words =
    entry_alone c.args.layer.now c.args.parent.now c.args.name.now c.args.found c.from_residual-in_err-key.result (g.T.Tr.stands c.args.tr.now)
    (g.T.Tr.stands c.set_entry.new.tr) words c.from_residual-in_err-key.ensures.1 (c.in_ok-set_entry.ensures.follows words)

pub returns-in_err-set-clause-follows : goal.returns-in_err-set-clause-follows
returns-in_err-set-clause-follows g c words =
    let middle = g.T.Tr.stands c.set_entry.new.tr in
    let after = g.T.Tr.stands c.set.new.tr in
    let ended = c.from_residual-in_err-set in
    let found = c.args.found in
    let noted = Set (layer_key (node_of c.args.layer.now found.prefix)) found.layer in
    let key : c.in_ok-key.key ≡ layer_key (node_of c.args.layer.now found.prefix) = c.in_ok-key.ensures ∙ ap layer_key c.in_ok-of.ensures in
    entry_set c.args.layer.now c.args.parent.now c.args.name.now found ended.result (g.T.Tr.stands c.args.tr.now) middle after words
    (c.in_ok-set_entry.ensures.follows words)
    (ended_so c.in_err-set.field-0.0 ended.result middle after words words (does noted)
    (λ (noted : Done). Gives (directory found.prefix found.layer)) ended.ensures.1
    (did_so (Err c.in_err-set.field-0.0) middle after words (Set c.in_ok-key.key c.as_slice.result.now) noted (λ i. Set (key i) (c.as_slice.ensures i))
    (c.in_err-set.ensures.follows words)))

pub returns-clause-follows : goal.returns-clause-follows
returns-clause-follows g c words =
    let middle = g.T.Tr.stands c.set_entry.new.tr in
    let after = g.T.Tr.stands c.set.new.tr in
    let found = c.args.found in
    let entered = directory found.prefix found.layer in
    let noted = Set (layer_key (node_of c.args.layer.now found.prefix)) found.layer in
    let key : c.in_ok-key.key ≡ layer_key (node_of c.args.layer.now found.prefix) = c.in_ok-key.ensures ∙ ap layer_key c.in_ok-of.ensures in
    entry_set c.args.layer.now c.args.parent.now c.args.name.now found (Ok entered) (g.T.Tr.stands c.args.tr.now) middle after words
    (c.in_ok-set_entry.ensures.follows words)
    (then_drew done (Ok entered) middle after after words words words (does noted) (λ (noted : Done). Gives entered)
    (did_so (Ok done) middle after words (Set c.in_ok-key.key c.as_slice.result.now) noted (λ i. Set (key i) (c.as_slice.ensures i))
    (c.in_ok-set.ensures.follows words))
    (gave entered after words))
