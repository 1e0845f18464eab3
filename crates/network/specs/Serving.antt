-- What a receiver took in a call, and what a service answered.
use Rattle.std.specs.Prelude.{◌≡◌, ◌≢◌, ℕ, Bool, true, false, List, [], ◌∷◌, ◌++◌, map, length, drop, Option, Some}
use Rattle.std.specs.List.{All, count_by}
use Rattle.atomic_table.specs.Seated.{TableId}
use Rattle.fdb_calls.specs.declared.Request.{Request}
use Rattle.fdb_calls.specs.declared.Reply.{Reply}
use Rattle.fdb_calls.specs.declared.Reply.TheVariants.{Started, NoMemory}
use Rattle.future_cell.specs.declared.setter.Receipt.{Receipt}
use Rattle.future_cell.specs.declared.wake.Wake.{Wake}
use Rattle.future_cell.specs.Cells.{receipt_cell, value_set}
use Rattle.request_line.specs.declared.ends.Receiver.{Receiver}
use Rattle.request_line.specs.Line.{taken}
use Rattle.network.specs.declared.post.Post.{Post}
use Rattle.network.specs.Posts.{posts_of, asked_in, asking_in, cells_in}

-- what a receiver took since an earlier moment, each post with its sender's number
abbrev pub taken_since : Receiver Post → Receiver Post → List (ℕ × Post)
taken_since before after = drop (length (taken before)) (taken after)

-- the same without the numbers
abbrev pub posts_since : Receiver Post → Receiver Post → List Post
posts_since before after = posts_of (taken_since before after)

-- To these requests of machines, one after the other, the service gave these replies; it came from one state to another.
abbrev pub IsRun : {S : Type 0} → (S → ℕ → Request → Reply → S → Type 0) → S → List (ℕ × Request) → List (Option Reply) → S → Type 0
IsRun answers before [] [] after = after ≡ before
IsRun {S} answers before (asked ∷ rest) (Some reply ∷ replies) after =
    (between : S) × answers before asked.0 asked.1 reply between × IsRun answers between rest replies after
IsRun answers before asked replies after = ⊥

-- the cells of receipts, and the replies that were set
abbrev pub cells_of : List (Receipt Reply Wake) → List TableId
cells_of receipts = map receipt_cell receipts

abbrev pub replies_of : List (Receipt Reply Wake) → List (Option Reply)
replies_of receipts = map value_set receipts

-- While memory lasts: to what these posts ask, in order, the service gave the replies that were set, each in the cell in which it is
-- awaited. None is NoMemory. The order names the machines that ask.
pub record Serves {S : Type 0} (answers : S → ℕ → Request → Reply → S → Type 0) (before after : S) (posts : List Post) (order : List ℕ)
    (receipts : List (Receipt Reply Wake)) : Type 0 where
  pub run : IsRun answers before (asked_in posts) (replies_of receipts) after
  pub cells : cells_of receipts ≡ cells_in posts
  pub has_memory : All (λ reply. reply ≢ Some NoMemory) (replies_of receipts)
  pub order_is : order ≡ asking_in posts

-- To these receipts, one after the other, a service came from one state to another.
abbrev pub AreNoted : {S : Type 0} → (S → Receipt Reply Wake → S → Type 0) → S → List (Receipt Reply Wake) → S → Type 0
AreNoted notes before [] after = after ≡ before
AreNoted {S} notes before (receipt ∷ rest) after = (between : S) × notes before receipt between × AreNoted notes between rest after

-- Whether memory lasts or not: each of these posts that asks was replied to, in order, in the cell in which its reply is awaited. The
-- service gave the first replies, of which these receipts came back, and none but the last of them is NoMemory. Each further reply is
-- NoMemory, and the service has its receipt.
pub record Replies {S : Type 0} (answers : S → ℕ → Request → Reply → S → Type 0) (notes : S → Receipt Reply Wake → S → Type 0)
    (before after : S) (posts : List Post) (short : Bool) (receipts : List (Receipt Reply Wake)) : Type 0 where
  pub answered : List (ℕ × Request)
  pub refused : List (ℕ × Request)
  pub asked : asked_in posts ≡ answered ++ refused
  pub between : S
  pub run : IsRun answers before answered (replies_of receipts) between
  pub further : List (Receipt Reply Wake)
  pub noted : AreNoted notes between further after
  pub cells : cells_of (receipts ++ further) ≡ cells_in posts
  pub are_no_memory : All (λ reply. reply ≡ Some NoMemory) (replies_of further)
  pub before_the_last : (front : List (Receipt Reply Wake)) (last : Receipt Reply Wake) → receipts ≡ front ++ last ∷ []
      → All (λ reply. reply ≢ Some NoMemory) (replies_of front)
  pub while_it_lasts : short ≡ false → (refused ≡ []) × (further ≡ []) × All (λ reply. reply ≢ Some NoMemory) (replies_of receipts)

-- whether a reply says that a machine was started
abbrev pub is_started : Option Reply → Bool
is_started (Some (Started machine instructions)) = true
is_started reply = false

-- how many machines the replies say were started
abbrev pub started_by : List (Option Reply) → ℕ
started_by replies = count_by is_started replies
