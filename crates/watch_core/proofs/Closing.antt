-- A loop closes watches one after the other and lays down their endings.
use Rattle.std.proofs.Common.{◌≡◌, ℕ, ◌+◌, ◌≤◌, arith, List, [], ◌∷◌, ◌++◌, length, map, Option, Some, None, refl, sym, ap, ◌∙◌, append_assoc, length-append}
use Rattle.std.proofs.lemmas.List.{map-append}
use Rattle.std.proofs.lemmas.List.Elements.{All-tail}
use Rattle.std.specs.List.{All}
use Rattle.std.specs.Option.{option_map}
use Rattle.atomic_table.specs.Seated.{TableId}
use Rattle.future_cell.specs.Cells.{receipt_cell, value_set}
use Rattle.watch_core.specs.declared.ending.Ending.{Ending}
use Rattle.watch_core.specs.declared.ending.WatchEnd.{WatchEnd}
use Rattle.watch_core.specs.declared.ending.WatchEnd.TheVariants.{Cancelled}
use Rattle.watch_core.specs.declared.watch.Watch.{Watch}
use Rattle.watch_core.specs.Watching.{Ended, Watched, ended_as}
use Rattle.watch_core.specs.Watches.{Told, told_by, told_from, watched_of, IsWhole}
use Rattle.watch_core.proofs.Firings.{watch_of}

-- a watch that is cancelled keeps its cell
kept_cell_by : (seen : ℕ) (key : List ℕ) (made : ℕ) (value : Option (List ℕ)) (cell : TableId) (ended : Option Ended)
    → (ended_as Cancelled seen (watch_of key made value cell ended)).cell ≡ cell
kept_cell_by seen key made value cell None = refl
kept_cell_by seen key made value cell (Some ended) = refl

kept_cell : (seen : ℕ) (watch : Watched) → (ended_as Cancelled seen watch).cell ≡ watch.cell
kept_cell seen watch = kept_cell_by seen watch.key watch.made watch.value watch.cell watch.ended

-- the end of a watch, if it has ended
abbrev pub end_of : Watched → Option WatchEnd
end_of watch = option_map (λ (ended : Ended). ended.end) watch.ended

module _ {C : Type 0} (all : List Told) (seen : ℕ) where
  -- watches are left, and with the endings laid down so far they make up all
  pub record Closes (left : List (Watch C)) (endings : List (Ending C)) (room : ℕ) : Type 0 where
    pub whole : All IsWhole left
    pub roomy : length left + length endings ≤ room
    pub told : map told_by endings ++ told_from (length endings) (map (ended_as Cancelled seen) (map watched_of left)) ≡ all

  pub closes_next : (watch : Watch C) (left : List (Watch C)) (endings : List (Ending C)) (room : ℕ) → Closes (watch ∷ left) endings room
      → (ending : Ending C) → ending.number ≡ length endings → receipt_cell ending.receipt ≡ (watched_of watch).cell
      → value_set ending.receipt ≡ end_of (ended_as Cancelled seen (watched_of watch))
      → Closes left (endings ++ ending ∷ []) room
  closes_next watch left endings room closes ending number cell end =
      let w : Watched = ended_as Cancelled seen (watched_of watch) in
      let rest = map (ended_as Cancelled seen) (map watched_of left) in
      let long : length (endings ++ ending ∷ []) ≡ length endings + 1 = length-append endings (ending ∷ []) in
      let its : told_by ending ≡ (length endings, w.cell, end_of w) =
      ap (λ n. (n, receipt_cell ending.receipt, value_set ending.receipt)) number
      ∙ (ap (λ z. (length endings, z, value_set ending.receipt)) (cell ∙ sym (kept_cell seen (watched_of watch)))
      ∙ ap (λ e. (length endings, w.cell, e)) end) in
      let roomy : length (watch ∷ left) + length endings ≤ room = closes.roomy in
      record {
        whole = All-tail IsWhole watch left closes.whole;
        roomy = omega (arith, long, roomy);
        told =
            ap (λ t. t ++ told_from (length (endings ++ ending ∷ [])) rest) (map-append told_by endings (ending ∷ []))
            ∙ (append_assoc (map told_by endings) (told_by ending ∷ []) (told_from (length (endings ++ ending ∷ [])) rest)
            ∙ (ap (λ n. map told_by endings ++ told_by ending ∷ told_from n rest) long
            ∙ (ap (λ t. map told_by endings ++ t ∷ told_from (length endings + 1) rest) its
            ∙ closes.told)));
      }
