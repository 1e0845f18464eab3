-- What is served stays served when one more post is taken.
use Rattle.std.proofs.Common.{◌≡◌, ◌≢◌, ℕ, List, [], ◌∷◌, ◌++◌, ◌+◌, cond, map, length, drop, Option, Some, None, refl, sym, ap, ◌∙◌, subst, append_assoc}
use Rattle.std.specs.List.{All}
use Rattle.std.proofs.lemmas.List.{map-append}
use Rattle.std.proofs.lemmas.List.Elements.{All-append, All-cons, All-nil}
use Rattle.std.proofs.lemmas.List.Sums.{sum_by-append}
use Rattle.std.proofs.lemmas.Grind.{flat_map-append}
use Rattle.std.proofs.Math.Seq.{drop-append_seam}
use Rattle.fdb_calls.specs.declared.Request.{Request}
use Rattle.fdb_calls.specs.declared.Reply.{Reply}
use Rattle.fdb_calls.specs.declared.Reply.TheVariants.{NoMemory}
use Rattle.future_cell.specs.declared.setter.Receipt.{Receipt}
use Rattle.future_cell.specs.declared.setter.Setter.{Setter}
use Rattle.future_cell.specs.declared.wake.Wake.{Wake}
use Rattle.future_cell.specs.Cells.{receipt_cell, value_set}
use Rattle.network.specs.declared.post.Post.{Post}
use Rattle.network.specs.declared.post.Post.TheVariants.{Ask}
use Rattle.network.specs.Posts.{posts_of, asked_by, asked_in, cell_by, is_over, overs_in}
use Rattle.network.specs.Serving.{IsRun, Serves, replies_of}
use Rattle.network.specs.ServerStates.{AddsAnswer}

module _ {S : Type 0} (answers : S → ℕ → Request → Reply → S → Type 0) where
  -- a run goes on by one more answer
  pub IsRun-more : (start before after : S) (asked : List (ℕ × Request)) (replies : List (Option Reply)) (machine : ℕ) (request : Request) (reply : Reply)
      → IsRun answers start asked replies before → answers before machine request reply after
      → IsRun answers start (asked ++ (machine, request) ∷ []) (replies ++ Some reply ∷ []) after
  IsRun-more start before after [] [] machine request reply same gave =
      (after, subst (λ s. answers s machine request reply after) same gave, refl)
  IsRun-more start before after [] (r ∷ replies) machine request reply never gave = absurd never
  IsRun-more start before after (a ∷ asked) [] machine request reply never gave = absurd never
  IsRun-more start before after (a ∷ asked) (Some r ∷ replies) machine request reply run gave =
      (run.0, run.1, IsRun-more run.0 before after asked replies machine request reply run.2 gave)
  IsRun-more start before after (a ∷ asked) (None ∷ replies) machine request reply never gave = absurd never

  pub Serves-answer : (start before after : S) (posts : List Post) (order order_after : List ℕ) (receipts receipts_after : List (Receipt Reply Wake))
      (machine : ℕ) (request : Request) (setter : Setter Reply Wake)
      → Serves answers start before posts order receipts
      → AddsAnswer answers before after machine request setter order receipts order_after receipts_after
      → Serves answers start after (posts ++ Ask machine request setter ∷ []) order_after receipts_after
  Serves-answer start before after posts order order_after receipts receipts_after machine request setter served adds =
      subst (λ (w : List ℕ × List (Receipt Reply Wake)). Serves answers start after (posts ++ Ask machine request setter ∷ []) w.0 w.1)
      (λ i. (sym adds.4 i, sym adds.3.3 i)) (record {
        run = subst (λ (w : List (ℕ × Request) × List (Option Reply)). IsRun answers start w.0 w.1 after) (λ i. (asked i, sym replies i))
            (IsRun-more start before after (asked_in posts) (replies_of receipts) machine request reply served.run adds.1);
        cells = map-append receipt_cell receipts (receipt ∷ []) ∙ (λ i. served.cells i ++ adds.3.1 i ∷ []) ∙ sym (flat_map-append cell_by posts (Ask machine request setter ∷ []));
        has_memory = subst (All (λ given. given ≢ Some NoMemory)) (sym replies)
            (All-append (λ given. given ≢ Some NoMemory) (replies_of receipts) (Some reply ∷ []) served.has_memory
            (All-cons (λ given. given ≢ Some NoMemory) (Some reply) [] (λ e. adds.2 (some_same reply NoMemory e)) (All-nil (λ given. given ≢ Some NoMemory))));
        order_is = ap (λ l. l ++ machine ∷ []) served.order_is ∙ sym (map-append (λ (a : ℕ × Request). a.0) (asked_in posts) ((machine, request) ∷ []))
            ∙ ap (map (λ (a : ℕ × Request). a.0)) asked;
      })
    where
      reply : Reply
      reply = adds.0

      receipt : Receipt Reply Wake
      receipt = adds.3.0

      some_same : (a b : Reply) → Some a ≡ Some b → a ≡ b
      some_same a b e = cc

      asked : asked_in posts ++ (machine, request) ∷ [] ≡ asked_in (posts ++ Ask machine request setter ∷ [])
      asked = sym (flat_map-append asked_by posts (Ask machine request setter ∷ []))

      replies : replies_of (receipts ++ receipt ∷ []) ≡ replies_of receipts ++ Some reply ∷ []
      replies = map-append value_set receipts (receipt ∷ []) ∙ (λ i. replies_of receipts ++ adds.3.2 i ∷ [])

-- what a receiver took since an earlier moment, once it has taken one more post
pub posts-more : (before now after : List (ℕ × Post)) (mail : ℕ × Post) → now ≡ before ++ drop (length before) now → after ≡ now ++ mail ∷ []
    → (after ≡ before ++ drop (length before) after)
    × (posts_of (drop (length before) after) ≡ posts_of (drop (length before) now) ++ mail.1 ∷ [])
    × (overs_in (posts_of (drop (length before) after)) ≡ overs_in (posts_of (drop (length before) now)) + overs_in (mail.1 ∷ []))
posts-more before now after mail same more = (whole ∙ ap (λ l. before ++ l) (sym since), posts, ap overs_in posts ∙ sum_by-append (λ p. cond (is_over p) 1 0) (posts_of (drop (length before) now)) (mail.1 ∷ []))
  where
    whole : after ≡ before ++ (drop (length before) now ++ mail ∷ [])
    whole = more ∙ ap (λ l. l ++ mail ∷ []) same ∙ append_assoc before (drop (length before) now) (mail ∷ [])

    since : drop (length before) after ≡ drop (length before) now ++ mail ∷ []
    since = ap (drop (length before)) whole ∙ drop-append_seam before (drop (length before) now ++ mail ∷ [])

    posts : posts_of (drop (length before) after) ≡ posts_of (drop (length before) now) ++ mail.1 ∷ []
    posts = ap posts_of since ∙ map-append (λ (m : ℕ × Post). m.1) (drop (length before) now) (mail ∷ [])
