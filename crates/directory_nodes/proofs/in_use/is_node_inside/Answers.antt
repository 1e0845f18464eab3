use Rattle.std.proofs.Common.{◌≡◌, ℕ, Bool, true, cond, List, [], ◌∷◌, ◌++◌, Result, Ok, Err}
use Rattle.model_database.specs.Histories.{Setting}
use Rattle.model_database.specs.Slices.{Entries}
use Rattle.model_database.specs.Transactions.{Transaction}
use Rattle.directory_types.specs.declared.Layer.{Layer}
use Rattle.directory_types.specs.declared.fault.DirFault.{DirFault}
use Rattle.model_directory.specs.Courses.{Course, Gives, ◌>>=◌, given, pairs_of}
use Rattle.model_directory.specs.Nodes.{node_of}
use Rattle.model_directory.specs.Steps.{is_inside, has_inside, is_node_inside}
use Rattle.directory_nodes.specs.Runs.{Draws, Tells}
use Rattle.directory_nodes.proofs.Deciding.{where_true, where_false}
use Rattle.directory_nodes.proofs.Following.{then_drew, gave}
use Rattle.directory_nodes.proofs.Passing.{ended_so, ran_out}
use Rattle.directory_nodes.proofs.Ranges.{pairs_failed, pairs_then}
use Rattle.directory_nodes.proofs.Refusing.{told}
use Rattle.directory_nodes.proofs.in_use.is_node_inside.Goals as goal

abbrev or_within : (snapshot : Bool) → Layer → (prefix : List ℕ) → (inside : Bool) → Course Bool
or_within snapshot layer prefix inside = cond inside (Gives true) (has_inside snapshot layer prefix)

abbrev judges : (snapshot : Bool) → Layer → (prefix : List ℕ) → Entries → Course Bool
judges snapshot layer prefix entries = given (is_inside layer prefix entries) >>= or_within snapshot layer prefix

pub returns-in_err-nodes_up_to-clause-follows : goal.returns-in_err-nodes_up_to-clause-follows
returns-in_err-nodes_up_to-clause-follows g c words =
    ran_out c.from_residual.result (g.T.Tr.stands c.args.tr.now) words words
    (is_node_inside c.args.snapshot c.args.layer.now c.args.prefix.now)
    c.from_residual.ensures.1

-- the nodes up to that of the prefix, itself included, were read, and what they tell
nodes_told : (snapshot : Bool) (layer : Layer) (prefix begin end : List ℕ) (pairs : Entries) (result : Result Bool DirFault)
    (before middle after : Setting → Transaction → Type 0) (words : ℕ → ℕ) → begin ≡ layer.node ++ 0 ∷ [] → end ≡ node_of layer prefix ++ 0 ∷ []
    → Draws (Ok pairs) before middle words words (pairs_of snapshot begin end 1 true)
    → Draws result middle after words words (judges snapshot layer prefix pairs)
    → Draws result before after words words (is_node_inside snapshot layer prefix)
unfolding is_node_inside
nodes_told snapshot layer prefix begin end pairs result before middle after words begins ends drew later =
    pairs_then pairs result before middle after words snapshot true begin end (layer.node ++ 0 ∷ []) (node_of layer prefix ++ 0 ∷ []) 1
    (judges snapshot layer prefix) begins ends drew later

pub returns-in_err-pairs-clause-follows : goal.returns-in_err-pairs-clause-follows
unfolding is_node_inside
returns-in_err-pairs-clause-follows g c words =
    let layer = c.args.layer.now in
    let prefix = c.args.prefix.now in
    let range = c.in_ok-nodes_up_to in
    pairs_failed c.in_err-pairs.field-0.0 c.from_residual-in_err-pairs.result (g.T.Tr.stands c.args.tr.now) (g.T.Tr.stands c.pairs_of.new.tr) words
    c.args.snapshot true range.field-0.begin range.field-0.end (layer.node ++ 0 ∷ []) (node_of layer prefix ++ 0 ∷ []) 1
    (judges c.args.snapshot layer prefix) c.from_residual-in_err-pairs.ensures.1 range.ensures.begin range.ensures.end
    (c.in_err-pairs.ensures.follows words)

pub returns-in_err-is_inside-clause-follows : goal.returns-in_err-is_inside-clause-follows
returns-in_err-is_inside-clause-follows g c words =
    let ended = c.from_residual-in_err-is_inside in
    let after = g.T.Tr.stands c.pairs_of.new.tr in
    let layer = c.args.layer.now in
    let prefix = c.args.prefix.now in
    let range = c.in_ok-nodes_up_to in
    let pairs = c.in_ok-pairs.pairs in
    let failed = c.in_err-is_inside.field-0.0 in
    nodes_told c.args.snapshot layer prefix range.field-0.begin range.field-0.end pairs ended.result (g.T.Tr.stands c.args.tr.now) after after words
    range.ensures.begin range.ensures.end (c.in_ok-pairs.ensures.follows words)
    (ended_so failed ended.result after after words words (given (is_inside layer prefix pairs)) (or_within c.args.snapshot layer prefix)
    ended.ensures.1
    (told (Err failed) (is_inside layer prefix pairs) after words c.in_err-is_inside.ensures))

-- what they told was that one is inside, or not
nodes_judged : (snapshot : Bool) (layer : Layer) (prefix begin end : List ℕ) (pairs : Entries) (inside : Bool) (result : Result Bool DirFault)
    (before middle after : Setting → Transaction → Type 0) (words : ℕ → ℕ) → begin ≡ layer.node ++ 0 ∷ [] → end ≡ node_of layer prefix ++ 0 ∷ []
    → Draws (Ok pairs) before middle words words (pairs_of snapshot begin end 1 true) → Tells (Ok inside) (is_inside layer prefix pairs)
    → Draws result middle after words words (or_within snapshot layer prefix inside)
    → Draws result before after words words (is_node_inside snapshot layer prefix)
nodes_judged snapshot layer prefix begin end pairs inside result before middle after words begins ends drew judged later =
    nodes_told snapshot layer prefix begin end pairs result before middle after words begins ends drew
    (then_drew inside result middle middle after words words words (given (is_inside layer prefix pairs)) (or_within snapshot layer prefix)
    (told (Ok inside) (is_inside layer prefix pairs) middle words judged) later)

pub returns-then-branch-clause-follows : goal.returns-then-branch-clause-follows
returns-then-branch-clause-follows g c words =
    let after = g.T.Tr.stands c.pairs_of.new.tr in
    let layer = c.args.layer.now in
    let prefix = c.args.prefix.now in
    let range = c.in_ok-nodes_up_to in
    let inside = c.in_ok-is_inside.field-0 in
    nodes_judged c.args.snapshot layer prefix range.field-0.begin range.field-0.end c.in_ok-pairs.pairs inside (Ok true) (g.T.Tr.stands c.args.tr.now)
    after after words range.ensures.begin range.ensures.end (c.in_ok-pairs.ensures.follows words) c.in_ok-is_inside.ensures
    (where_true inside (Ok true) after after words words (Gives true) (has_inside c.args.snapshot layer prefix) c.if-branch.true
    (gave true after words))

pub returns-clause-follows : goal.returns-clause-follows
returns-clause-follows g c words =
    let middle = g.T.Tr.stands c.pairs_of.new.tr in
    let after = g.T.Tr.stands c.has_inside.new.tr in
    let layer = c.args.layer.now in
    let prefix = c.args.prefix.now in
    let range = c.in_ok-nodes_up_to in
    let result = c.has_inside.result in
    nodes_judged c.args.snapshot layer prefix range.field-0.begin range.field-0.end c.in_ok-pairs.pairs c.in_ok-is_inside.field-0 result
    (g.T.Tr.stands c.args.tr.now) middle after words range.ensures.begin range.ensures.end (c.in_ok-pairs.ensures.follows words)
    c.in_ok-is_inside.ensures
    (where_false c.in_ok-is_inside.field-0 result middle after words words (Gives true) (has_inside c.args.snapshot layer prefix) c.if-branch.false
    (c.has_inside.ensures.follows words))
