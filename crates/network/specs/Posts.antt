-- What posts ask, where the replies are awaited, and how many posts are Overs.
use Rattle.std.specs.Prelude.{ℕ, Bool, true, false, List, [], ◌∷◌, map}
use Rattle.std.specs.List.{flat_map, count_by}
use Rattle.atomic_table.specs.Seated.{TableId}
use Rattle.fdb_calls.specs.declared.Request.{Request}
use Rattle.future_cell.specs.Cells.{setter_cell}
use Rattle.network.specs.declared.post.Post.{Post}
use Rattle.network.specs.declared.post.Post.TheVariants.{Ask, Over}

-- the posts that were taken, each with its sender's number
abbrev pub posts_of : List (ℕ × Post) → List Post
posts_of mails = map (λ (mail : ℕ × Post). mail.1) mails

-- the machine and the request of an Ask; an Over asks nothing
abbrev pub asked_by : Post → List (ℕ × Request)
asked_by (Ask machine request setter) = (machine, request) ∷ []
asked_by (Over machine) = []

-- what these posts ask, in order
abbrev pub asked_in : List Post → List (ℕ × Request)
asked_in posts = flat_map asked_by posts

-- the machines that ask, in order, each as often as it asks
abbrev pub asking_in : List Post → List ℕ
asking_in posts = map (λ (asked : ℕ × Request). asked.0) (asked_in posts)

-- the cell in which the reply of an Ask is awaited
abbrev pub cell_by : Post → List TableId
cell_by (Ask machine request setter) = setter_cell setter ∷ []
cell_by (Over machine) = []

-- the cells in which the replies to these posts are awaited, in order
abbrev pub cells_in : List Post → List TableId
cells_in posts = flat_map cell_by posts

abbrev pub is_over : Post → Bool
is_over (Ask machine request setter) = false
is_over (Over machine) = true

-- how many of these posts are Overs
abbrev pub overs_in : List Post → ℕ
overs_in posts = count_by is_over posts
