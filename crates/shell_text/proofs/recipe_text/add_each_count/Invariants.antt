use Rattle.std.proofs.Common.{◌≡◌, ◌++◌, take}
use Rattle.std.specs.List.{flat_map}
use Rattle.model_shell.specs.Recipes.{count_text}
use Rattle.shell_text.proofs.recipe_text.add_each_count.Given as goal

-- what was added is the lines of the counts so far
abbrev pub invariant-loop-count : goal.invariant-loop-count
invariant-loop-count l = l.to ≡ l.fn.to ++ flat_map count_text (take l.count-index l.counts)
