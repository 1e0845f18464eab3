-- A tuple as the list of its elements: as a key, and as an instruction.
use Rattle.std.proofs.Common.{◌≡◌, ◌≢◌, ℕ, Bool, true, false, cond, ◌&&◌, ◌||◌, List, ◌∷◌, ◌++◌, pos, negsuc, Option, Some, None, Result, Ok, Err, refl, sym, ap, ◌∙◌, append_assoc}
use Rattle.std.specs.Prelude.{bytes_eq, IfOk}
use Rattle.model_lines.specs.Reading.{Entry}
use Rattle.fdb_tuple.specs.declared.fault.UnpackFault.{UnpackFault}
use Rattle.fdb_tuple.specs.declared.fault.UnpackFault.TheVariants as fault
use Rattle.fdb_tuple.specs.declared.tuple.Elem.{Elem}
use Rattle.fdb_tuple.specs.declared.tuple.Elem.TheVariants as elem
use Rattle.fdb_tuple.specs.Tuples.{Null, Bytes, Text, Int, Boolean, Uuid, Stamp, Elements, Empty, Single, Nested}
use Rattle.fdb_tuple.specs.Listed.{before, element_of, elements_of, before-element_of}
use Rattle.fdb_tuple.specs.Reading.{Fails, read_tuple}
use Rattle.instr_grammar.specs.Names.{names, push, is_among}
use Rattle.instr_grammar.specs.Texts.{Instruction, instruction_line}
use Rattle.instr_grammar.specs.Taking.{place_of, instruction_in, in_tuple, Taken, follows, head_of, step_by, step}
use Rattle.instr_text.specs.Taken.{bytes_in, text_in, index_in, both_in, place_in, alone, with_element, instruction_of, tuple_found, Writes, HasHead, Steps}
use Rattle.instr_text.specs.declared.taking.Taker.{Taker}

-- ---- a key

no_bytes : (first : Elem) (rest : Elements) → bytes_in first ≡ None → place_in (first ∷ elements_of rest) ≡ None
no_bytes first Empty e = refl
no_bytes first (Single scalar Empty) e = ap (λ (p : Option (List ℕ)). both_in p (index_in (element_of scalar))) e
no_bytes first (Nested inner Empty) e = ap (λ (p : Option (List ℕ)). both_in p (index_in (elem.Nested inner))) e
no_bytes first (Single scalar (Single second rest)) e = refl
no_bytes first (Single scalar (Nested second rest)) e = refl
no_bytes first (Nested inner (Single second rest)) e = refl
no_bytes first (Nested inner (Nested second rest)) e = refl

no_index : (prefix : List ℕ) (second : Elem) (rest : Elements) → index_in second ≡ None → place_in (elem.Bytes prefix ∷ second ∷ elements_of rest) ≡ None
no_index prefix second Empty e = ap (λ (i : Option ℕ). both_in (Some prefix) i) e
no_index prefix second (Single scalar rest) e = refl
no_index prefix second (Nested inner rest) e = refl

pub place_by_list : (tuple : Elements) → place_in (elements_of tuple) ≡ place_of tuple
place_by_list Empty = refl
place_by_list (Nested inner rest) = no_bytes (elem.Nested inner) rest refl
place_by_list (Single Null rest) = no_bytes elem.Null rest refl
place_by_list (Single (Text text) rest) = no_bytes (elem.Text text) rest refl
place_by_list (Single (Int number) rest) = no_bytes (elem.Int number) rest refl
place_by_list (Single (Boolean value) rest) = no_bytes (elem.Bool value) rest refl
place_by_list (Single (Uuid uuid) rest) = no_bytes (elem.Uuid uuid) rest refl
place_by_list (Single (Stamp stamp user) rest) = no_bytes (elem.Stamp (record { stamp = stamp; user = user })) rest refl
place_by_list (Single (Bytes bytes) Empty) = refl
place_by_list (Single (Bytes bytes) (Nested inner rest)) = no_index bytes (elem.Nested inner) rest refl
place_by_list (Single (Bytes bytes) (Single Null rest)) = no_index bytes elem.Null rest refl
place_by_list (Single (Bytes bytes) (Single (Bytes other) rest)) = no_index bytes (elem.Bytes other) rest refl
place_by_list (Single (Bytes bytes) (Single (Text text) rest)) = no_index bytes (elem.Text text) rest refl
place_by_list (Single (Bytes bytes) (Single (Boolean value) rest)) = no_index bytes (elem.Bool value) rest refl
place_by_list (Single (Bytes bytes) (Single (Uuid uuid) rest)) = no_index bytes (elem.Uuid uuid) rest refl
place_by_list (Single (Bytes bytes) (Single (Stamp stamp user) rest)) = no_index bytes (elem.Stamp (record { stamp = stamp; user = user })) rest refl
place_by_list (Single (Bytes bytes) (Single (Int (negsuc n)) rest)) = no_index bytes (elem.Int (negsuc n)) rest refl
place_by_list (Single (Bytes bytes) (Single (Int (pos n)) Empty)) = refl
place_by_list (Single (Bytes bytes) (Single (Int (pos n)) (Single scalar rest))) = refl
place_by_list (Single (Bytes bytes) (Single (Int (pos n)) (Nested inner rest))) = refl

-- ---- an instruction

no_text : (first : Elem) (rest : Elements) → text_in first ≡ None → instruction_of (first ∷ elements_of rest) ≡ None
no_text first Empty e = ap alone e
no_text first (Single scalar Empty) e = ap (λ (t : Option (List ℕ)). with_element t (element_of scalar)) e
no_text first (Nested inner Empty) e = ap (λ (t : Option (List ℕ)). with_element t (elem.Nested inner)) e
no_text first (Single scalar (Single second rest)) e = refl
no_text first (Single scalar (Nested second rest)) e = refl
no_text first (Nested inner (Single second rest)) e = refl
no_text first (Nested inner (Nested second rest)) e = refl

by_name : (pushes named : Bool) → ((pushes && false) || (named && true)) ≡ named
by_name true true = refl
by_name true false = refl
by_name false true = refl
by_name false false = refl

by_push : (pushes named : Bool) → ((pushes && true) || (named && false)) ≡ pushes
by_push true true = refl
by_push true false = refl
by_push false true = refl
by_push false false = refl

by_none : (pushes named : Bool) → ((pushes && false) || (named && false)) ≡ false
by_none true true = refl
by_none true false = refl
by_none false true = refl
by_none false false = refl

abbrev made : List ℕ → Elements → Bool → Option Instruction
made name operand test = cond test (Some (record { name = name; operand = operand })) None

pub instruction_by_list : (tuple : Elements) → instruction_of (elements_of tuple) ≡ instruction_in tuple
instruction_by_list Empty = refl
instruction_by_list (Nested inner rest) = no_text (elem.Nested inner) rest refl
instruction_by_list (Single Null rest) = no_text elem.Null rest refl
instruction_by_list (Single (Bytes bytes) rest) = no_text (elem.Bytes bytes) rest refl
instruction_by_list (Single (Int number) rest) = no_text (elem.Int number) rest refl
instruction_by_list (Single (Boolean value) rest) = no_text (elem.Bool value) rest refl
instruction_by_list (Single (Uuid uuid) rest) = no_text (elem.Uuid uuid) rest refl
instruction_by_list (Single (Stamp stamp user) rest) = no_text (elem.Stamp (record { stamp = stamp; user = user })) rest refl
instruction_by_list (Single (Text name) Empty) = ap (made name Empty) (sym (by_name (bytes_eq name push) (is_among name names)))
instruction_by_list (Single (Text name) (Single scalar Empty)) =
    ap (λ (o : Elements). made name o (bytes_eq name push)) (before-element_of scalar Empty)
    ∙ ap (made name (Single scalar Empty)) (sym (by_push (bytes_eq name push) (is_among name names)))
instruction_by_list (Single (Text name) (Nested inner Empty)) = ap (made name (Nested inner Empty)) (sym (by_push (bytes_eq name push) (is_among name names)))
instruction_by_list (Single (Text name) (Single scalar (Single second rest))) =
    ap (made name (Single scalar (Single second rest))) (sym (by_none (bytes_eq name push) (is_among name names)))
instruction_by_list (Single (Text name) (Single scalar (Nested second rest))) =
    ap (made name (Single scalar (Nested second rest))) (sym (by_none (bytes_eq name push) (is_among name names)))
instruction_by_list (Single (Text name) (Nested inner (Single second rest))) =
    ap (made name (Nested inner (Single second rest))) (sym (by_none (bytes_eq name push) (is_among name names)))
instruction_by_list (Single (Text name) (Nested inner (Nested second rest))) =
    ap (made name (Nested inner (Nested second rest))) (sym (by_none (bytes_eq name push) (is_among name names)))

-- ---- what was read

pub place_found : (read : Result Elements UnpackFault) (tuple : Elements) → Some tuple ≡ tuple_found read → place_in (elements_of tuple) ≡ in_tuple place_of read
place_found (Ok other) tuple e =
    let same : tuple ≡ other = cc in
    place_by_list tuple ∙ ap place_of same
place_found (Err fault) tuple e = absurd cc

pub instruction_found : (read : Result Elements UnpackFault) (tuple : Elements) → Some tuple ≡ tuple_found read
    → instruction_of (elements_of tuple) ≡ in_tuple instruction_in read
instruction_found (Ok other) tuple e =
    let same : tuple ≡ other = cc in
    instruction_by_list tuple ∙ ap instruction_in same
instruction_found (Err fault) tuple e = absurd cc

module _ {A : Type 0} where
  pub none_found : (f : Elements → Option A) (read : Result Elements UnpackFault) → None ≡ tuple_found read → None ≡ in_tuple f read
  none_found f (Ok other) e = absurd cc
  none_found f (Err fault) e = refl

pub refused : (f : UnpackFault) (read : Result Elements UnpackFault) → f ≢ fault.NoMemory → Fails f read → None ≡ tuple_found read
refused (fault.Truncated place) read other e = rw e refl
refused (fault.BadCode place) read other e = rw e refl
refused (fault.NotMinimal place) read other e = rw e refl
refused (fault.TooBig place) read other e = rw e refl
refused (fault.BadUtf8 place) read other e = rw e refl
refused (fault.TooDeep place) read other e = rw e refl
refused fault.NoMemory read other e = absurd (other refl)

-- ---- a step

pub no_place : (taken : Taken) (pair : Entry) → None ≡ in_tuple place_of (read_tuple pair.0) → step taken pair ≡ None
unfolding step
no_place taken pair e = ap (λ (p : Option (List ℕ × ℕ)). step_by taken p (in_tuple instruction_in (read_tuple pair.1))) (sym e)

pub at_place : (taken : Taken) (pair : Entry) (place : List ℕ × ℕ) → Some place ≡ in_tuple place_of (read_tuple pair.0)
    → step_by taken (Some place) (in_tuple instruction_in (read_tuple pair.1)) ≡ step taken pair
unfolding step
at_place taken pair place e = ap (λ (p : Option (List ℕ × ℕ)). step_by taken p (in_tuple instruction_in (read_tuple pair.1))) e

pub not_following : (taken : Taken) (place : List ℕ × ℕ) (one : Option Instruction) → follows taken place ≡ false
    → step_by taken (Some place) one ≡ None
not_following taken place None e = refl
not_following taken place (Some one) e = rw e refl

pub following : (taker : Taker) (taken : Taken) (place : List ℕ × ℕ) (one : Option Instruction) (is : Bool) (before between after : List ℕ)
    → follows taken place ≡ true → HasHead taker before between taken place → Writes is between after one
    → Steps is taker before after (step_by taken (Some place) one)
following taker taken place None true before between after e head writes = absurd writes
following taker taken place None false before between after e head writes = tt
following taker taken place (Some one) false before between after e head writes = absurd writes
following taker taken place (Some one) true before between after e head writes =
    rw e (
      writes ∙ ap (λ (t : List ℕ). t ++ instruction_line one) head.text ∙ append_assoc before (head_of place) (instruction_line one),
      head.is_taken,
    )

pub if_ok_map : {A E : Type 0} {P Q : A → Type 0} (result : Result A E) → IfOk result P → ((x : A) → P x → Q x) → IfOk result Q
if_ok_map (Ok x) h f = f x h
if_ok_map (Err e) h f = tt
