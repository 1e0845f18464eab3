-- Pages that are read one behind another, for callers.
use Rattle.std.proofs.Common.{◌≡◌, ℕ, ◌<◌, ◌-◌, Bool, true, false, List, ◌++◌, length, take, nat_lt, sym, ap, ◌∙◌, arith, ltb-true, append_assoc, length-append}
use Rattle.std.proofs.lemmas.List.{length-take}
use Rattle.model_database.specs.Databases.{Database}
use Rattle.model_database.specs.declared.mode.Mode.{Mode}
use Rattle.model_database.specs.Modes.{lacks_limit}
use Rattle.range_read.specs.Pages.{page_size}
use Rattle.model_database.specs.Slices.{Entries, slice}
use Rattle.range_read.specs.Left.{slice_behind, last_key}
use Rattle.range_read.specs.Walks.{begin_behind, end_behind}
use Rattle.range_read.proofs.Pages.{IsSize-page, behind_is}

module _ (database : Database) (b e : List ℕ) (limit : ℕ) (backward : Bool) (mode : Mode) (turn : ℕ) (got : Entries) (more : Bool)
    (limited : lacks_limit mode limit ≡ false)
    (page : got ≡ take (page_size mode limit turn) (slice database b e limit backward))
    (is : more ≡ nat_lt (page_size mode limit turn) (length (slice database b e limit backward)))
    (some : more ≡ true)
  where
    -- a page behind which more follow is not empty
    pub got_some : 0 < length got
    got_some =
        let size = IsSize-page mode limit turn limited in
        let long = ltb-true _ _ (sym is ∙ some) in
        let same = ap length page in
        let front = length-take (page_size mode limit turn) (slice database b e limit backward) in
        omega (arith, size.some, long, same, front)

    module _ (rest : slice database b e limit backward ≡ got ++ slice_behind database b e (limit - length got) backward (last_key got))
        (c d : List ℕ) (begin : c ≡ begin_behind b (last_key got) backward) (end : d ≡ end_behind e (last_key got) backward) (left : ℕ)
        (fewer : left ≡ limit - length got)
      where
        rest_is_slice : slice database b e limit backward ≡ got ++ slice database c d left backward
        rest_is_slice =
            rest ∙ ap (λ ys. got ++ ys) (sym (behind_is database b e (limit - length got) backward (last_key got))
            ∙ (λ i. slice database (sym begin i) (sym end i) (sym fewer i) backward))

        -- each page leaves less
        pub joined_smaller : length (slice database c d left backward) < length (slice database b e limit backward)
        joined_smaller =
            let same = ap length rest_is_slice in let both = length-append got (slice database c d left backward) in
            omega (arith, same, both, got_some)

        -- what was read, followed by what is left, stays the slice
        pub joined_whole : (ps now all : Entries) → ps ++ slice database b e limit backward ≡ all → now ≡ ps ++ got
            → now ++ slice database c d left backward ≡ all
        joined_whole ps now all whole added =
            ap (λ now. now ++ slice database c d left backward) added ∙ append_assoc ps got (slice database c d left backward)
            ∙ ap (λ ys. ps ++ ys) (sym rest_is_slice) ∙ whole
