-- What each function did that makes a few calls, by how the last of them ended.
use Rattle.std.proofs.Common.{◌≡◌, ℕ, Bool, true, false, List, [], ◌∷◌, Option, Result, Ok, Err, refl, sym, ap, subst, ◌∙◌}
use Rattle.std.specs.Prelude.{not, is_some, unwrap_or, length, ⊤}
use Rattle.model_database.specs.declared.AtomicOp.TheVariants as atomic
use Rattle.model_database.specs.Atomics.{little_bytes}
use Rattle.model_database.specs.Databases.{Set, ClearRange, Atomic}
use Rattle.model_database.specs.Histories.{Setting}
use Rattle.model_database.specs.Reads.{Get, GetKeyRange}
use Rattle.model_database.specs.Slices.{Entries}
use Rattle.model_database.specs.Transactions.{Transaction, view}
use Rattle.fdb_calls.specs.declared.Reply.TheVariants as reply
use Rattle.fdb_calls.specs.declared.fault.TrFault.{TrFault}
use Rattle.fdb_calls.specs.Answers.{Answered}
use Rattle.fdb_calls.specs.Calling.{read_called}
use Rattle.model_allocator.specs.Acts.{Act, Reads, Writes, DisablesWriteConflict, act_called, refusal}
use Rattle.model_allocator.specs.Counters.{counter_key, recent_key, counters_begin, counters_end, greatest_counter, one_more, counts_half, is_recent}
use Rattle.model_allocator.specs.Granting.{asks_greatest, counts, tries}
use Rattle.model_allocator.proofs.Reading.{value_read, pairs_read}
use Rattle.model_allocator.proofs.Opening.{count_read, counted_length}
use Rattle.prefix_allocator.specs.Doing.{Done, first_key, fills_half}
use Rattle.prefix_allocator.proofs.Steps.{passed, refused, one_done, then_done, ended}

-- ---- a call that answers nothing

abbrev pub Quiet : Result (Unit {0}) TrFault → (stands : Transaction → Type 0) → Setting → Act → Transaction → Type 0
Quiet result stands setting act t = Answered (λ (done : Unit {0}). reply.Done) result stands t (act_called setting t act)

pub quiet_done : (result : Result (Unit {0}) TrFault) (setting : Setting) (stands : Transaction → Type 0) (act : Act) (t : Transaction)
    → Quiet result stands setting act t → Done (λ (done : Unit {0}). ⊤) result setting stands (act ∷ []) t
quiet_done result setting stands act t answered =
    one_done (λ done. ⊤) (λ done. reply.Done) result setting stands act t (λ value. refl) (λ value is. tt) answered

pub quiet_fault : {A : Type 0} (good : A → Type 0) (f : TrFault) (setting : Setting) (stands : Transaction → Type 0) (act : Act)
    (acts : List Act) (t : Transaction)
    → Quiet (Err f) stands setting act t → Done good (Err f) setting stands (act ∷ acts) t
quiet_fault good f setting stands act acts t answered = refused {B = Unit {0}} good (λ done. reply.Done) f setting stands act acts t
    answered

pub quiet_then : {A : Type 0} (good : A → Type 0) (value : Unit {0}) (result : Result A TrFault) (setting : Setting)
    (first stands : Transaction → Type 0) (act : Act)
    (acts : List Act) (t : Transaction) → Quiet (Ok value) first setting act t
    → ((u : Transaction) → first u → Done good result setting stands acts u) → Done good result setting stands (act ∷ acts) t
quiet_then good value result setting first stands act acts t answered others =
    then_done good (λ (done : Unit {0}). reply.Done) value result setting first stands act acts t (λ value. refl) answered others

-- ---- a value that is read

abbrev pub Read : Result (Option (List ℕ)) TrFault → (stands : Transaction → Type 0) → Setting → (key : List ℕ) → (snapshot : Bool)
    → Transaction → Type 0
Read result stands setting key snapshot t = Answered reply.Value result stands t (read_called setting t false snapshot (Get key))

pub read_fault : {A : Type 0} (good : A → Type 0) (f : TrFault) (setting : Setting) (stands : Transaction → Type 0) (key : List ℕ)
    (snapshot : Bool) (acts : List Act)
    (t : Transaction) → Read (Err f) stands setting key snapshot t → Done good (Err f) setting stands (Reads (Get key) snapshot ∷ acts) t
read_fault good f setting stands key snapshot acts t answered = refused good reply.Value f setting stands (Reads (Get key) snapshot) acts
    t answered

-- ---- a try

abbrev pub Present : Setting → Transaction → (space : List ℕ) → (number : ℕ) → (absent : Bool) → Type 0
Present setting t space number absent = absent ≡ not (is_recent space (view setting t) number)

pub tried : (setting : Setting) (t : Transaction) (space : List ℕ) (number : ℕ) (value : Option (List ℕ)) (result : Result Bool TrFault)
    (first stands : Transaction → Type 0)
    → Read (Ok value) first setting (recent_key space number) false t
    → ((u : Transaction) → first u
    → Done (Present setting t space number) result setting stands (DisablesWriteConflict ∷ Writes (Set (recent_key space number) []) ∷ []) u)
    → Done (Present setting t space number) result setting stands (tries space (record { number = number; is_drawn = false })) t
tried setting t space number value result first stands answered others =
    then_done (Present setting t space number) reply.Value value result setting first stands (Reads (Get (recent_key space number)) false)
    (DisablesWriteConflict ∷ Writes (Set (recent_key space number) []) ∷ []) t (λ value. refl) answered others

not_not : (one other : Bool) → not one ≡ other → one ≡ not other
not_not true other is = ap not is
not_not false other is = ap not is

-- the number was absent where no value was read
pub read_absent : (setting : Setting) (t : Transaction) (space : List ℕ) (number : ℕ) (value : Option (List ℕ)) (absent : Bool)
    (stands : Transaction → Type 0)
    → not absent ≡ is_some value → Read (Ok value) stands setting (recent_key space number) false t → Present setting t space number absent
read_absent setting t space number value absent stands is answered =
    not_not absent (is_some value) is
    ∙ ap (λ found. not (is_some found)) (value_read setting t false (recent_key space number) value answered.0)

-- ---- a range that is cleared

-- where its ends are these
pub cleared : (result : Result (Unit {0}) TrFault) (stands : Transaction → Type 0) (setting : Setting) (begin end from to : List ℕ)
    (t : Transaction)
    → begin ≡ from → end ≡ to → Quiet result stands setting (Writes (ClearRange begin end)) t
    → Quiet result stands setting (Writes (ClearRange from to)) t
cleared result stands setting begin end from to t begin_is end_is answered =
    subst (λ from. Quiet result stands setting (Writes (ClearRange from to)) t) begin_is
    (subst (λ to. Quiet result stands setting (Writes (ClearRange begin to)) t) end_is answered)

-- ---- a count

abbrev pub Halves : Setting → Transaction → (space : List ℕ) → (start : ℕ) → (is_half : Bool) → Type 0
Halves setting t space start is_half = is_half ≡ fills_half space (view setting t) start

-- whether it is half of the window, by the value that was read
pub counted_half : (setting : Setting) (t : Transaction) (space : List ℕ) (start : ℕ) (value : Option (List ℕ)) (is_half : Bool)
    (done : Unit {0})
    (first stands : Transaction → Type 0)
    → Quiet (Ok done) first setting (Writes (Atomic atomic.Add (counter_key space start) one_more)) t
    → Read (Ok value) stands setting (counter_key space start) true
    (act_called setting t (Writes (Atomic atomic.Add (counter_key space start) one_more))).transaction
    → (length (unwrap_or value []) ≡ 8 → is_half ≡ counts_half start (unwrap_or value [])) → Halves setting t space start is_half
unfolding fills_half
counted_half setting t space start value is_half done first stands added read is =
    let seen = count_read setting t space start value (ap refusal (sym added.0)) read.0 in
    let long : length (unwrap_or value []) ≡ 8 = ap (λ value. length (unwrap_or value [])) seen
    ∙ counted_length space (view setting t) start in
    is long ∙ ap (λ value. counts_half start (unwrap_or value [])) seen

one_is : (1 ∷ 0 ∷ 0 ∷ 0 ∷ 0 ∷ 0 ∷ 0 ∷ 0 ∷ []) ≡ one_more
unfolding little_bytes
one_is = refl

-- an addition of 1 to the value of a key
pub added : (result : Result (Unit {0}) TrFault) (stands : Transaction → Type 0) (setting : Setting) (key other : List ℕ) (t : Transaction)
    → key ≡ other → Quiet result stands setting (Writes (Atomic atomic.Add key (1 ∷ 0 ∷ 0 ∷ 0 ∷ 0 ∷ 0 ∷ 0 ∷ 0 ∷ []))) t
    → Quiet result stands setting (Writes (Atomic atomic.Add other one_more)) t
added result stands setting key other t is answered =
    subst (λ operand. Quiet result stands setting (Writes (Atomic atomic.Add other operand)) t) one_is
    (subst (λ key. Quiet result stands setting (Writes (Atomic atomic.Add key (1 ∷ 0 ∷ 0 ∷ 0 ∷ 0 ∷ 0 ∷ 0 ∷ 0 ∷ []))) t) is answered)

-- ---- the greatest counter

abbrev pub ReadRange : Result Entries TrFault → (stands : Transaction → Type 0) → Setting → (begin end : List ℕ) → Transaction → Type 0
ReadRange result stands setting begin end t = Answered reply.PairsAre result stands t
    (read_called setting t false true (GetKeyRange begin end 1 true))

abbrev pub IsGreatest : Setting → Transaction → (space : List ℕ) → (key : Option (List ℕ)) → Type 0
IsGreatest setting t space key = key ≡ first_key (greatest_counter space (view setting t))

at_counters : (result : Result Entries TrFault) (stands : Transaction → Type 0) (setting : Setting) (space begin end : List ℕ)
    (t : Transaction)
    → begin ≡ counters_begin space → end ≡ counters_end space → ReadRange result stands setting begin end t
    → ReadRange result stands setting (counters_begin space) (counters_end space) t
at_counters result stands setting space begin end t begin_is end_is answered =
    subst (λ begin. ReadRange result stands setting begin (counters_end space) t) begin_is
    (subst (λ end. ReadRange result stands setting begin end t) end_is answered)

pub greatest_fault : (f : TrFault) (stands : Transaction → Type 0) (setting : Setting) (space begin end : List ℕ) (t : Transaction)
    → begin ≡ counters_begin space → end ≡ counters_end space → ReadRange (Err f) stands setting begin end t
    → Done (IsGreatest setting t space) (Err f) setting stands (asks_greatest space ∷ []) t
greatest_fault f stands setting space begin end t begin_is end_is answered =
    refused (IsGreatest setting t space) reply.PairsAre f setting stands (asks_greatest space) [] t
    (at_counters (Err f) stands setting space begin end t begin_is end_is answered)

pub greatest_read : (pairs : Entries) (key : Option (List ℕ)) (stands : Transaction → Type 0) (setting : Setting)
    (space begin end : List ℕ) (t : Transaction)
    → begin ≡ counters_begin space → end ≡ counters_end space → key ≡ first_key pairs → ReadRange (Ok pairs) stands setting begin end t
    → Done (IsGreatest setting t space) (Ok key) setting stands (asks_greatest space ∷ []) t
greatest_read pairs key stands setting space begin end t begin_is end_is key_is answered =
    let read = at_counters (Ok pairs) stands setting space begin end t begin_is end_is answered in
    let seen = pairs_read setting t true true (counters_begin space) (counters_end space) 1 pairs read.0 in
    then_done (IsGreatest setting t space) reply.PairsAre pairs (Ok key) setting stands stands (asks_greatest space) [] t
    (λ pairs. refl) read
    (λ u after. ended (IsGreatest setting t space) key setting stands u (key_is ∙ ap first_key seen) after)

-- a count, and whether it is half of the window
pub counted : (setting : Setting) (t : Transaction) (space : List ℕ) (start : ℕ) (value : Option (List ℕ)) (is_half : Bool)
    (done : Unit {0})
    (first stands : Transaction → Type 0)
    → Quiet (Ok done) first setting (Writes (Atomic atomic.Add (counter_key space start) one_more)) t
    → Read (Ok value) stands setting (counter_key space start) true
    (act_called setting t (Writes (Atomic atomic.Add (counter_key space start) one_more))).transaction
    → (length (unwrap_or value []) ≡ 8 → is_half ≡ counts_half start (unwrap_or value []))
    → Done (Halves setting t space start) (Ok is_half) setting stands (counts space start) t
counted setting t space start value is_half done first stands add read is =
    let halves = counted_half setting t space start value is_half done first stands add read is in
    passed (Halves setting t space start) (Ok is_half) setting stands (Writes (Atomic atomic.Add (counter_key space start) one_more))
    (Reads (Get (counter_key space start)) true ∷ []) t (ap refusal (sym add.0))
    (then_done (Halves setting t space start) reply.Value value (Ok is_half) setting stands stands
    (Reads (Get (counter_key space start)) true) []
    (act_called setting t (Writes (Atomic atomic.Add (counter_key space start) one_more))).transaction (λ value. refl) read
    (λ v after. ended (Halves setting t space start) is_half setting stands v halves after))
