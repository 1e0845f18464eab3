-- What `gen N` runs: the pairs of main, of N workers, and of the keys that main waits for.
use Rattle.std.specs.Prelude.{ℕ, zero, suc, ◌+◌, nat_lt, if◌then◌else◌, List, [], ◌∷◌, ◌++◌, codes, decimal, map, pos, negsuc}
use Rattle.fdb_tuple.specs.declared.tuple.Elem.{Elem}
use Rattle.fdb_tuple.specs.declared.tuple.Elem.TheVariants.{Null, Bytes, Text, Int}
use Rattle.fdb_tuple.specs.Listed.{tuple_of}
use Rattle.fdb_tuple.specs.Spelling.{spelling}

-- ---- instructions

-- an instruction that pushes an element, and one that has its name alone
pub data Instruction : Type 0 where
  push : Elem → Instruction
  bare : List ℕ → Instruction

abbrev pub instruction_elements : Instruction → List Elem
instruction_elements (push element) = Text (codes "PUSH") ∷ element ∷ []
instruction_elements (bare name) = Text name ∷ []

abbrev pub packed_instruction : Instruction → List ℕ
packed_instruction instruction = spelling (tuple_of (instruction_elements instruction))

-- the key of instruction `place` under this prefix
abbrev pub instruction_key : List ℕ → ℕ → List ℕ
instruction_key prefix place = spelling (tuple_of (Bytes prefix ∷ Int (pos place) ∷ []))

-- the pairs of packed instructions under a prefix, from `place` on
abbrev pub placed : List ℕ → ℕ → List (List ℕ) → List (List ℕ × List ℕ)
placed prefix place [] = []
placed prefix place (packed ∷ more) = (instruction_key prefix place, packed) ∷ placed prefix (place + 1) more

-- ---- names and keys

abbrev pub main_prefix : List ℕ
main_prefix = codes "g"

abbrev pub worker_prefix : ℕ → List ℕ
worker_prefix worker = codes "w" ++ decimal worker

-- while it is there, the worker goes on
abbrev pub busy_key : ℕ → List ℕ
busy_key worker = codes "busy" ++ decimal worker

-- what the keys that a worker sets begin with
abbrev pub data_prefix : ℕ → List ℕ
data_prefix worker = codes "d" ++ decimal worker ++ codes "/"

abbrev pub two_digits : ℕ → List ℕ
two_digits number = if nat_lt number 10 then codes "0" ++ decimal number else decimal number

abbrev pub round_key : ℕ → ℕ → List ℕ
round_key worker round = data_prefix worker ++ two_digits round

-- 1 as 8 bytes, the least first
abbrev pub one : List ℕ
one = 1 ∷ 0 ∷ 0 ∷ 0 ∷ 0 ∷ 0 ∷ 0 ∷ 0 ∷ []

-- ---- a worker

-- it opens its directory on the database
abbrev pub opening : ℕ → List Instruction
opening worker =
    push Null ∷ push (Text (worker_prefix worker)) ∷ push (Int (pos 1)) ∷ bare (codes "DIRECTORY_CREATE_OR_OPEN_DATABASE") ∷ []

-- a round: a key is set, the sum grows by one, the keys that the worker set are read, and the transaction is committed
abbrev pub setting : ℕ → ℕ → List Instruction
setting worker number =
    push (Bytes (codes "v")) ∷ push (Bytes (round_key worker number)) ∷ bare (codes "SET") ∷ []

abbrev pub adding : List Instruction
adding = push (Bytes one) ∷ push (Bytes (codes "sum")) ∷ push (Text (codes "ADD")) ∷ bare (codes "ATOMIC_OP") ∷ []

abbrev pub reading : ℕ → List Instruction
reading worker =
    push (Int (negsuc 0)) ∷ push (Int (pos 0)) ∷ push (Int (pos 0)) ∷ push (Bytes (data_prefix worker))
    ∷ bare (codes "GET_RANGE_STARTS_WITH") ∷ bare (codes "POP") ∷ []

abbrev pub committing : List Instruction
committing = bare (codes "COMMIT") ∷ bare (codes "POP") ∷ bare (codes "RESET") ∷ []

abbrev pub round : ℕ → ℕ → List Instruction
round worker number = setting worker number ++ adding ++ reading worker ++ committing

-- the first rounds of a worker
abbrev pub rounds : ℕ → ℕ → List Instruction
rounds worker zero = []
rounds worker (suc count) = rounds worker count ++ round worker count

-- it is busy no more
abbrev pub closing : ℕ → List Instruction
closing worker = push (Bytes (busy_key worker)) ∷ bare (codes "CLEAR_DATABASE") ∷ []

abbrev pub worker_instructions : ℕ → List Instruction
worker_instructions worker = opening worker ++ rounds worker 20 ++ closing worker

-- ---- main

abbrev pub start : ℕ → List Instruction
start worker = push (Bytes (worker_prefix worker)) ∷ bare (codes "START_THREAD") ∷ []

-- workers 1 to `count` are started
abbrev pub starts : ℕ → List Instruction
starts zero = []
starts (suc count) = starts count ++ start (suc count)

abbrev pub main_instructions : ℕ → List Instruction
main_instructions count = starts count ++ push (Bytes (codes "busy")) ∷ bare (codes "WAIT_EMPTY") ∷ []

-- ---- all pairs

abbrev pub pairs_of : List ℕ → List Instruction → List (List ℕ × List ℕ)
pairs_of prefix instructions = placed prefix 0 (map packed_instruction instructions)

-- those of workers 1 to `count`
abbrev pub worker_pairs : ℕ → List (List ℕ × List ℕ)
worker_pairs zero = []
worker_pairs (suc count) = worker_pairs count ++ pairs_of (worker_prefix (suc count)) (worker_instructions (suc count))

abbrev pub busy_pairs : ℕ → List (List ℕ × List ℕ)
busy_pairs zero = []
busy_pairs (suc count) = busy_pairs count ++ (busy_key (suc count), []) ∷ []

-- what a run of `count` workers loads, in this order
abbrev pub gen_pairs : ℕ → List (List ℕ × List ℕ)
gen_pairs count = pairs_of main_prefix (main_instructions count) ++ worker_pairs count ++ busy_pairs count
