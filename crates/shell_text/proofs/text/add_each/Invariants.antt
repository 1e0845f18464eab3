use Rattle.std.proofs.Common.{◌≡◌, ◌++◌, take}
use Rattle.std.specs.List.{flat_map}
use Rattle.model_shell.specs.Requests.{pair_text}
use Rattle.shell_text.proofs.text.add_each.Given as goal

-- what was added is the lines of the pairs so far
abbrev pub invariant-loop-pair : goal.invariant-loop-pair
invariant-loop-pair l = l.to ≡ l.fn.to ++ flat_map (λ pair. pair_text pair.key pair.value) (take l.pair-index l.pairs)
