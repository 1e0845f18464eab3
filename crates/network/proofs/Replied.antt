-- What was replied to posts stays so when one more post is taken.
use Rattle.std.proofs.Common.{◌≡◌, ◌≢◌, ◌⊎◌, inl, inr, ℕ, Bool, true, false, true≢false, List, [], ◌∷◌, ◌++◌, map, Option, Some, refl, sym, ap, ◌∙◌, subst, append_assoc}
use Rattle.std.specs.List.{All}
use Rattle.std.proofs.lemmas.List.{append-nil, map-append, same_from_push}
use Rattle.std.proofs.lemmas.List.Elements.{All-nil, All-push}
use Rattle.std.proofs.lemmas.Grind.{flat_map-append}
use mathlib.Core.List.{cons≢nil}
use Rattle.fdb_calls.specs.declared.Request.{Request}
use Rattle.fdb_calls.specs.declared.Reply.{Reply}
use Rattle.fdb_calls.specs.declared.Reply.TheVariants.{NoMemory}
use Rattle.future_cell.specs.declared.setter.Receipt.{Receipt}
use Rattle.future_cell.specs.declared.setter.Setter.{Setter}
use Rattle.future_cell.specs.declared.wake.Wake.{Wake}
use Rattle.future_cell.specs.Cells.{setter_cell, receipt_cell, value_set}
use Rattle.network.specs.declared.post.Post.{Post}
use Rattle.network.specs.declared.post.Post.TheVariants.{Ask, Over}
use Rattle.network.specs.Posts.{asked_by, asked_in, cell_by, cells_in}
use Rattle.network.specs.Serving.{AreNoted, IsRun, Replies, Serves, cells_of, replies_of}
use Rattle.network.specs.ServerStates.{AddsReplyTo}
use Rattle.network.proofs.Runs.{IsRun-more}

push_is_some : {X : Type 0} (xs : List X) (x : X) → xs ++ x ∷ [] ≢ []
push_is_some [] x e = cons≢nil e
push_is_some (y ∷ xs) x e = cons≢nil e

some_same : {X : Type 0} (a b : X) → Some a ≡ Some b → a ≡ b
some_same a b e = cc

-- one more receipt was noted
AreNoted-more : {S : Type 0} (notes : S → Receipt Reply Wake → S → Type 0) (start before after : S) (receipts : List (Receipt Reply Wake))
    (receipt : Receipt Reply Wake) → AreNoted notes start receipts before → notes before receipt after
    → AreNoted notes start (receipts ++ receipt ∷ []) after
AreNoted-more notes start before after [] receipt same noted = (after, subst (λ s. notes s receipt after) same noted, refl)
AreNoted-more notes start before after (one ∷ receipts) receipt all noted =
    (all.0, all.1, AreNoted-more notes all.0 before after receipts receipt all.2 noted)

module _ {S : Type 0} (answers : S → ℕ → Request → Reply → S → Type 0) (notes : S → Receipt Reply Wake → S → Type 0) where
  pub Serves-nothing : (start : S) → Serves answers start start [] [] []
  Serves-nothing start = record {
    run = refl;
    cells = refl;
    has_memory = All-nil (λ reply. reply ≢ Some NoMemory);
    order_is = refl;
  }

  pub Replies-nothing : (start : S) → Replies answers notes start start [] false []
  Replies-nothing start = record {
    answered = [];
    refused = [];
    asked = refl;
    between = start;
    run = refl;
    further = [];
    noted = refl;
    cells = refl;
    are_no_memory = All-nil (λ reply. reply ≡ Some NoMemory);
    before_the_last = λ front last is. absurd (push_is_some front last (sym is));
    while_it_lasts = λ _. (refl, refl, All-nil (λ reply. reply ≢ Some NoMemory));
  }

  module _ (start before : S) (posts : List Post) (short : Bool) (receipts : List (Receipt Reply Wake))
      (so_far : Replies answers notes start before posts short receipts) where
    pub Replies-over : (over : ℕ) → Replies answers notes start before (posts ++ Over over ∷ []) short receipts
    Replies-over over = record {
      answered = so_far.answered;
      refused = so_far.refused;
      asked = flat_map-append asked_by posts (Over over ∷ []) ∙ append-nil (asked_in posts) ∙ so_far.asked;
      between = so_far.between;
      run = so_far.run;
      further = so_far.further;
      noted = so_far.noted;
      cells = so_far.cells ∙ sym (flat_map-append cell_by posts (Over over ∷ []) ∙ append-nil (cells_in posts));
      are_no_memory = so_far.are_no_memory;
      before_the_last = so_far.before_the_last;
      while_it_lasts = so_far.while_it_lasts;
    }

    module _ (after : S) (machine : ℕ) (request : Request) (setter : Setter Reply Wake) where
      asked_more : asked_in (posts ++ Ask machine request setter ∷ []) ≡ asked_in posts ++ (machine, request) ∷ []
      asked_more = flat_map-append asked_by posts (Ask machine request setter ∷ [])

      cells_more : cells_in (posts ++ Ask machine request setter ∷ []) ≡ cells_in posts ++ setter_cell setter ∷ []
      cells_more = flat_map-append cell_by posts (Ask machine request setter ∷ [])

      -- the service gave one more reply
      given : (short_after : Bool) (reply : Reply) (receipt : Receipt Reply Wake) → short ≡ false → answers before machine request reply after
          → (short_after ≡ false → reply ≢ NoMemory) → receipt_cell receipt ≡ setter_cell setter → value_set receipt ≡ Some reply
          → Replies answers notes start after (posts ++ Ask machine request setter ∷ []) short_after (receipts ++ receipt ∷ [])
      given short_after reply receipt lasts gave is_no cell value = record {
        answered = so_far.answered ++ (machine, request) ∷ [];
        refused = [];
        asked = asked_more ∙ ap (λ l. l ++ (machine, request) ∷ [])
            (so_far.asked ∙ ap (λ l. so_far.answered ++ l) none.0 ∙ append-nil so_far.answered) ∙ sym (append-nil (so_far.answered ++ (machine, request) ∷ []));
        between = after;
        run = subst (λ replies. IsRun answers start (so_far.answered ++ (machine, request) ∷ []) replies after) (sym replies)
            (IsRun-more answers start so_far.between after so_far.answered (replies_of receipts) machine request reply so_far.run
            (subst (λ s. answers s machine request reply after) same gave));
        further = [];
        noted = refl;
        cells = ap cells_of (append-nil (receipts ++ receipt ∷ [])) ∙ map-append receipt_cell receipts (receipt ∷ [])
            ∙ (λ i. old i ++ cell i ∷ []) ∙ sym cells_more;
        are_no_memory = All-nil (λ given. given ≡ Some NoMemory);
        before_the_last = λ front last is. subst (λ l. All (λ given. given ≢ Some NoMemory) (replies_of l))
            (same_from_push receipts front receipt last is).0 none.2;
        while_it_lasts = λ s. (
          refl,
          refl,
          subst (All (λ given. given ≢ Some NoMemory)) (sym replies)
              (All-push (λ given. given ≢ Some NoMemory) (replies_of receipts) (Some reply) none.2 (λ e. is_no s (some_same reply NoMemory e))),
        );
      }
        where
          none : (so_far.refused ≡ []) × (so_far.further ≡ []) × All (λ given. given ≢ Some NoMemory) (replies_of receipts)
          none = so_far.while_it_lasts lasts

          same : before ≡ so_far.between
          same = subst (λ l. AreNoted notes so_far.between l before) none.1 so_far.noted

          old : cells_of receipts ≡ cells_in posts
          old = ap cells_of (sym (append-nil receipts) ∙ ap (λ l. receipts ++ l) (sym none.1)) ∙ so_far.cells

          replies : replies_of (receipts ++ receipt ∷ []) ≡ replies_of receipts ++ Some reply ∷ []
          replies = map-append value_set receipts (receipt ∷ []) ∙ (λ i. replies_of receipts ++ value i ∷ [])

      -- one more request was refused
      refused_too : (receipt : Receipt Reply Wake) → notes before receipt after → receipt_cell receipt ≡ setter_cell setter
          → value_set receipt ≡ Some NoMemory → Replies answers notes start after (posts ++ Ask machine request setter ∷ []) true receipts
      refused_too receipt noted cell value = record {
        answered = so_far.answered;
        refused = so_far.refused ++ (machine, request) ∷ [];
        asked = asked_more ∙ ap (λ l. l ++ (machine, request) ∷ []) so_far.asked ∙ append_assoc so_far.answered so_far.refused ((machine, request) ∷ []);
        between = so_far.between;
        run = so_far.run;
        further = so_far.further ++ receipt ∷ [];
        noted = AreNoted-more notes so_far.between before after so_far.further receipt so_far.noted noted;
        cells = ap cells_of (sym (append_assoc receipts so_far.further (receipt ∷ []))) ∙ map-append receipt_cell (receipts ++ so_far.further) (receipt ∷ [])
            ∙ (λ i. so_far.cells i ++ cell i ∷ []) ∙ sym cells_more;
        are_no_memory = subst (All (λ given. given ≡ Some NoMemory)) (sym (map-append value_set so_far.further (receipt ∷ [])))
            (All-push (λ given. given ≡ Some NoMemory) (replies_of so_far.further) (value_set receipt) so_far.are_no_memory value);
        before_the_last = so_far.before_the_last;
        while_it_lasts = λ s. absurd (true≢false s);
      }

      pub Replies-ask : (short_after : Bool) (receipts_after : List (Receipt Reply Wake))
          → AddsReplyTo answers notes before after machine request setter short receipts short_after receipts_after
          → Replies answers notes start after (posts ++ Ask machine request setter ∷ []) short_after receipts_after
      Replies-ask short_after receipts_after (inl adds) =
          subst (Replies answers notes start after (posts ++ Ask machine request setter ∷ []) short_after) (sym adds.4.3)
          (given short_after adds.0 adds.4.0 adds.1 adds.2 adds.3 adds.4.1 adds.4.2)
      Replies-ask short_after receipts_after (inr adds) =
          subst (λ (w : Bool × List (Receipt Reply Wake)). Replies answers notes start after (posts ++ Ask machine request setter ∷ []) w.0 w.1)
          (λ i. (sym adds.1 i, sym adds.5 i)) (refused_too adds.0 adds.4 adds.2 adds.3)
