-- A mutation is added at the end of the log.
use Rattle.std.proofs.Common.{◌≡◌, List, [], ◌∷◌, ◌++◌, Result, Ok, is_ok, if◌then◌else◌, ap, ◌∙◌}
use Rattle.std.proofs.lemmas.List.{map-append}
use Rattle.write_map.specs.declared.mutation.Mutation.{Mutation as Kept}
use Rattle.write_map.specs.Mutations.{mutation_of, mutations_of}

-- what a push on room that was reserved leaves
pub log_added : {A E : Type 0} (log room new : List Kept) (mutation : Kept) (pushed : Result A E) (done : A)
    → new ≡ (if is_ok pushed then room ++ mutation ∷ [] else room) → pushed ≡ Ok done → room ≡ log
    → mutations_of new ≡ mutations_of log ++ mutation_of mutation ∷ []
log_added log room new mutation pushed done items is same =
    ap mutations_of
    (items
    ∙ ap (λ r. if is_ok r then room ++ mutation ∷ [] else room) is
    ∙ ap (λ log. log ++ mutation ∷ []) same)
    ∙ map-append mutation_of log (mutation ∷ [])
