-- What contracts see of the two ends of a line.
use Rattle.std.specs.Prelude.{ℕ, List, Option}
use Rattle.std.specs.declared.alloc.Global.{Global}
use Rattle.atomic_table.specs.declared.badge.Badge.{Badge}
use Rattle.crossbeam_channel.specs.declared.flavors.array.Key.{Key}
use Rattle.crossbeam_channel.specs.declared.flavors.array.Doing.{Doing}
use Rattle.crossbeam_channel.specs.declared.flavors.array.Rounds.{Rounds}
use Rattle.crossbeam_channel.specs.declared.flavors.array.Lockers.{Lockers}
use Rattle.crossbeam_channel.specs.declared.flavors.array.Whole.{Whole}
use Rattle.crossbeam_channel.specs.declared.flavors.array.Rows.{Rows}
use Rattle.crossbeam_channel.specs.Ends.{sends_on, receives_on, ruled_capacity}
use Rattle.crossbeam_channel.specs.Claims.{view}
use Rattle.request_line.specs.declared.history.History.{History}
use Rattle.request_line.specs.declared.view.View.{View}
use Rattle.request_line.specs.declared.view.OneOwner.{OneOwner}
use Rattle.request_line.specs.declared.ends.Sender.{Sender}
use Rattle.request_line.specs.declared.ends.Receiver.{Receiver}
use Rattle.request_line.specs.Spans.{told, taken_by, closed_by}

-- the channel under a line
abbrev pub Line : Type 0 → Type 0
Line T = Rows (Badge (Key (ℕ × T))) (Doing (ℕ × T) (View T)) (Rounds OneOwner) (Option (ℕ × T)) (Key (ℕ × T)) (Lockers Whole) Global

module _ {T : Type 0} where
  -- how many items may wait in a line
  abbrev pub capacity_of : Line T → ℕ
  capacity_of line = ruled_capacity line

  -- the line of a sender, and what is known of it
  abbrev pub sender_line : Sender T → Line T
  sender_line s = sends_on s.posting

  abbrev pub history : Sender T → History T
  history s = told (view s.pass)

  -- the line of the receiver; the items that it has taken, in order, each with its sender's number; and the senders that it has closed, in order
  abbrev pub receiver_line : Receiver T → Line T
  receiver_line r = receives_on r.taking

  abbrev pub taken : Receiver T → List (ℕ × T)
  taken r = taken_by (view r.pass)

  abbrev pub closed : Receiver T → List (History T)
  closed r = closed_by (view r.pass)
