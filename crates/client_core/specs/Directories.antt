-- Calls of directory layers, as the code makes them.
use Rattle.std.specs.Prelude.{◌≡◌, ℕ, ◌+◌, false, Result, Ok, Err}
use Rattle.directory_types.specs.declared.DirReply.{DirReply}
use Rattle.directory_types.specs.declared.fault.DirFault.{DirFault}
use Rattle.model_directory.specs.Courses.{Reached}
use Rattle.directory.specs.Runs.{is_short}
use Rattle.fdb_calls.specs.declared.Reply.{Reply}
use Rattle.fdb_calls.specs.declared.Reply.TheVariants as reply
use Rattle.model_machine.specs.Worlds.{directory_reply}
use Rattle.txn_core.specs.Stands as txn

-- a call is replied to as it was answered; want of memory has no reply
abbrev pub RepliesTo : Result DirReply DirFault → Reply → Type 0
RepliesTo (Ok answer) replied = replied ≡ reply.Dir answer
RepliesTo (Err fault) replied = (is_short fault ≡ false) × (replied ≡ reply.DirFault fault)

-- the reply is that of what a call reached, and the kept transaction and the words left are those that it reached
pub record Reaches (reply : Reply) (kept : txn.Kept) (words left : ℕ → ℕ) (reached : Reached DirReply) : Type 0 where
  pub reply_is : reply ≡ directory_reply reached.end
  pub stands : txn.StandsFor kept reached.transaction
  pub left_is : (place : ℕ) → left place ≡ words (reached.words + place)
