use Rattle.std.proofs.Common.{◌++◌, ap, ◌∙◌}
use Rattle.prefix_allocator.proofs.Numbers.{zero_packed, one_packed}
use Rattle.prefix_allocator.proofs.keys.AllocatorKeys.new.Goals as goal

pub invariant_of-result : goal.invariant_of-result
invariant_of-result c =
    let space = c.in_ok-space.space in
    record {
      counters_is = c.in_ok-counters.ensures ∙ ap (λ bytes. space ++ bytes) zero_packed;
      recents_is = c.in_ok-recents.ensures ∙ ap (λ bytes. space ++ bytes) one_packed;
    }
