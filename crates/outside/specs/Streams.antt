-- What a call does to the bytes that a source has left, or that were written to a sink, where those are told.
use Rattle.std.specs.Prelude.{◌≡◌, ℕ, ◌<◌, ◌≤◌, List, length, take, ⊤, Option, IfSome, refl}
use Rattle.std.specs.Io.KnownBytes.{Keeps, Appends, Consumes, IsAtEnd}
use Rattle.std.proofs.KnownBytes.{Consumes-whole}
use Rattle.outside.specs.Counts.{risen}
use Rattle.outside.specs.declared.source.Taken.{Taken}
use Rattle.outside.specs.declared.source.Taken.TheVariants as taken
use Rattle.outside.specs.declared.sink.Put.{Put}
use Rattle.outside.specs.declared.sink.Put.TheVariants as put
use Rattle.outside.specs.declared.transfers.ReadOutcome.{ReadOutcome}
use Rattle.outside.specs.declared.transfers.ReadOutcome.TheVariants as outcome

-- a read gave at least one byte, and no more than there was room for
abbrev pub GotWithin : Taken → ℕ → Type 0
GotWithin (taken.Got n) room = (1 ≤ n) × (n ≤ room)
GotWithin taken.End room = ⊤
GotWithin taken.Failed room = ⊤

-- a read took what it gave, the front of `buf`, off the bytes that were left; the end comes only where none are left,
-- and a read that failed took none
abbrev pub Reads : Taken → Option (List ℕ) → Option (List ℕ) → List ℕ → Type 0
Reads (taken.Got n) before after buf = Consumes before after (take n buf)
Reads taken.End before after buf = Keeps before after × IsAtEnd after
Reads taken.Failed before after buf = Keeps before after

-- a count of faults after a read that counts itself where it fails
abbrev pub faults_after_read : Taken → ℕ → ℕ
faults_after_read (taken.Got n) before = before
faults_after_read taken.End before = before
faults_after_read taken.Failed before = risen before

-- a write took at least one byte, and no more than the piece has
abbrev pub TookWithin : Put → ℕ → Type 0
TookWithin (put.Took n) len = (1 ≤ n) × (n ≤ len)
TookWithin put.Failed len = ⊤

-- a write put what it took, the front of `piece`, behind the bytes that were written; one that failed put nothing there
abbrev pub Writes : Put → Option (List ℕ) → Option (List ℕ) → List ℕ → Type 0
Writes (put.Took n) before after piece = Appends before after (take n piece)
Writes put.Failed before after piece = Keeps before after

-- a count of faults after a write that counts itself where it fails
abbrev pub faults_after_write : Put → ℕ → ℕ
faults_after_write (put.Took n) before = before
faults_after_write put.Failed before = risen before

-- some front of `bytes`, not the whole, was put behind the bytes that were written
abbrev pub AppendsFront : Option (List ℕ) → Option (List ℕ) → List ℕ → Type 0
AppendsFront before after bytes = (n : ℕ) × (n < length bytes) × Appends before after (take n bytes)

-- `items` are all the bytes that were left, fewer than the limit, and none is left after them
pub record IsWhole (limit : ℕ) (before after : Option (List ℕ)) (items : List ℕ) : Type 0 where
  pub fewer : length items < limit
  pub consumed : Consumes before after items
  pub end : IsAtEnd after

-- `items` are as many bytes as the limit says, the front of those that were left
pub record IsFull (limit : ℕ) (before after : Option (List ℕ)) (items : List ℕ) : Type 0 where
  pub exact : length items ≡ limit
  pub consumed : Consumes before after items

-- some bytes, fewer than the limit, were taken off the bytes that were left
abbrev pub ConsumesFewer : ℕ → Option (List ℕ) → Option (List ℕ) → Type 0
ConsumesFewer limit before after = (bytes : List ℕ) × (length bytes < limit) × Consumes before after bytes

-- what was read of a source, up to a limit
abbrev pub IsReadOutcome : ReadOutcome → ℕ → Option (List ℕ) → Option (List ℕ) → Type 0
IsReadOutcome (outcome.Whole bytes) limit before after = IsWhole limit before after bytes.items
IsReadOutcome (outcome.Full bytes) limit before after = IsFull limit before after bytes.items
IsReadOutcome outcome.Failed limit before after = ConsumesFewer limit before after
IsReadOutcome outcome.NoMemory limit before after = ConsumesFewer limit before after

-- a reader or a writer, and how many of its calls failed so far
pub record Counted (T : Type 0) : Type 0 where
  pub inner : T
  pub faults : ℕ
