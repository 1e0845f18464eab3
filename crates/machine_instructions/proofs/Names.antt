-- Values that pack a name alone, or PUSH and one element.
use Rattle.std.proofs.Common.{◌≡◌, ◌<◌, ◌-◌, ℕ, true, false, nat_eq, List, [], ◌∷◌, ◌++◌, length, take, drop, bytes_eq, Some, Ok, codes, refl, sym, ap, subst, ◌∙◌, true≢false, arith}
use Rattle.std.specs.Prelude.{Option, None, IfSome, IsUtf8}
use Rattle.std.specs.List.{list_any}
use Rattle.std.proofs.lemmas.Bool.{or_parts}
use Rattle.std.proofs.lemmas.List.{append-nil, take-append-drop}
use Rattle.std.proofs.lemmas.List.Elements.{All-drop, All-tail, All-take}
use Rattle.std.proofs.Math.Seq.{take-append_seam}
use Rattle.std.proofs.lemmas.Slice.Eq.{bytes_eq-Decides}
use Rattle.fdb_tuple.specs.Reading.{read_tuple}
use Rattle.fdb_tuple.specs.Spelling.{spelling}
use Rattle.key_bytes.specs.Keys.{IsByteString}
use Rattle.fdb_tuple.specs.Tuples.{Elements, Empty, Single, Bytes, Text, IsTuple}
use Rattle.fdb_tuple.specs.declared.tuple.Elem.{Elem}
use Rattle.fdb_tuple.specs.declared.tuple.Elem.TheVariants as elem
use Rattle.fdb_tuple.specs.Listed.{elements_of}
use Rattle.model_machine.specs.declared.Instruction.TheVariants as instruction
use Rattle.model_machine.specs.Instructions.{bare_instruction, named_instruction, instruction_of, instruction_read}
use Rattle.fdb_tuple.specs.Zeros.{HasNoZero}
use Rattle.fdb_tuple.proofs.ReadLaws.{read_tuple_again}
use Rattle.fdb_tuple.proofs.ZeroRuns.{escaped_last}

pub no_zero : (bytes : List ℕ) → list_any (λ byte. nat_eq byte 0) bytes ≡ false → HasNoZero bytes
no_zero [] none = tt
no_zero (byte ∷ bytes) none =
    let parts = or_parts (nat_eq byte 0) (list_any (λ byte. nat_eq byte 0) bytes) none in
    ((λ is. true≢false (ap (λ (byte : ℕ). nat_eq byte 0) (sym is) ∙ parts.0)), no_zero bytes parts.1)

-- what is left of a value between a code and the zero behind it
pub between : (value rest string : List ℕ) (code : ℕ) → bytes_eq (take 1 value) (code ∷ []) ≡ true → rest ≡ drop 1 value
    → bytes_eq (drop (length rest - 1) rest) (0 ∷ []) ≡ true → string ≡ take (length rest - 1) rest → value ≡ code ∷ string ++ 0 ∷ []
between value rest string code first rest_is last string_is =
    sym (take-append-drop 1 value)
    ∙ ap (λ (front : List ℕ). front ++ drop 1 value) ((bytes_eq-Decides (take 1 value) (code ∷ [])).0 first)
    ∙ ap (λ (bytes : List ℕ). code ∷ bytes)
    (sym rest_is ∙ sym (take-append-drop (length rest - 1) rest)
    ∙ ap (λ (front : List ℕ). front ++ drop (length rest - 1) rest) (sym string_is)
    ∙ ap (λ (end : List ℕ). string ++ end) ((bytes_eq-Decides (drop (length rest - 1) rest) (0 ∷ [])).0 last))

-- a Unicode string without a zero is packed as it stands, between two bytes
pub name_alone : (value name : List ℕ) → value ≡ 2 ∷ name ++ 0 ∷ [] → HasNoZero name → IsUtf8 name
    → read_tuple value ≡ Ok (Single (Text name) Empty)
name_alone value name is none utf8 = ap read_tuple (is ∙ sym spelled) ∙ read_tuple_again (Single (Text name) Empty) ((utf8, tt), omega arith)
  where
    spelled : spelling (Single (Text name) Empty) ≡ 2 ∷ name ++ 0 ∷ []
    spelled = append-nil _ ∙ ap (λ (bytes : List ℕ). 2 ∷ bytes ++ 0 ∷ []) (escaped_last name none)

-- a value that is such a name between these two bytes is the instruction of the name
pub packed_name : (value packed name : List ℕ) → packed ≡ 2 ∷ name ++ 0 ∷ [] → true ≡ bytes_eq value packed
    → list_any (λ byte. nat_eq byte 0) name ≡ false → IsUtf8 name → instruction_of value ≡ bare_instruction name
unfolding instruction_of
packed_name value packed name is same none utf8 =
    ap instruction_read (name_alone value name ((bytes_eq-Decides value packed).0 (sym same) ∙ is) (no_zero name none) utf8)

-- a value that packs PUSH and one element pushes it
push_alone : (value rest : List ℕ) (tuple : Elements) (elements : List Elem) (element : Elem)
    → bytes_eq (take 6 value) (2 ∷ codes "PUSH" ++ 0 ∷ []) ≡ true → rest ≡ drop 6 value → IsTuple tuple → rest ≡ spelling tuple
    → elements ≡ elements_of tuple → elements ≡ element ∷ [] → instruction_of value ≡ Some (instruction.Push element)
unfolding instruction_of lib.Utf8.encode
push_alone value rest tuple elements element first rest_is is spelled same only =
    ap instruction_read (ap read_tuple value_is ∙ read_tuple_again (Single (Text (codes "PUSH")) tuple) (((codes "PUSH", (refl, refl)), is.0), is.1))
    ∙ ap (λ (elements : List Elem). named_instruction (codes "PUSH") elements) (sym same ∙ only)
  where
    value_is : value ≡ spelling (Single (Text (codes "PUSH")) tuple)
    value_is = sym (take-append-drop 6 value)
        ∙ ap (λ (front : List ℕ). front ++ drop 6 value) ((bytes_eq-Decides (take 6 value) (2 ∷ codes "PUSH" ++ 0 ∷ [])).0 first)
        ∙ ap (λ (bytes : List ℕ). 2 ∷ codes "PUSH" ++ 0 ∷ bytes) (sym rest_is ∙ spelled)

pub push_found : (value rest : List ℕ) (tuple : Elements) (elements : List Elem) (found : Option Elem)
    → bytes_eq (take 6 value) (2 ∷ codes "PUSH" ++ 0 ∷ []) ≡ true → rest ≡ drop 6 value → IsTuple tuple → rest ≡ spelling tuple
    → elements ≡ elements_of tuple → IfSome found (λ element. elements ≡ element ∷ [])
    → IfSome found (λ element. instruction_of value ≡ Some (instruction.Push element))
push_found value rest tuple elements None first rest_is is spelled same only = tt
push_found value rest tuple elements (Some element) first rest_is is spelled same only =
    push_alone value rest tuple elements element first rest_is is spelled same only

-- the same of a byte string without a zero, which is packed as it stands
pub push_string : (value rest bytes copy : List ℕ) → IsByteString value → bytes_eq (take 6 value) (2 ∷ codes "PUSH" ++ 0 ∷ []) ≡ true
    → rest ≡ drop 6 value → rest ≡ 1 ∷ bytes ++ 0 ∷ [] → HasNoZero bytes → copy ≡ bytes → instruction_of value ≡ Some (instruction.Push (elem.Bytes copy))
push_string value rest bytes copy all first rest_is is none same =
    subst (λ (pushed : List ℕ). instruction_of value ≡ Some (instruction.Push (elem.Bytes pushed))) (sym same) (push_alone value rest (Single (Bytes bytes) Empty) (elem.Bytes bytes ∷ []) (elem.Bytes bytes) first rest_is ((are_bytes, tt), omega arith)
    (is ∙ sym spelled) refl refl)
  where
    are_bytes : IsByteString bytes
    are_bytes = subst IsByteString (take-append_seam bytes (0 ∷ [])) (All-take (λ b. b < 256) (length bytes) (bytes ++ 0 ∷ [])
        (All-tail (λ b. b < 256) 1 (bytes ++ 0 ∷ []) (subst IsByteString (sym rest_is ∙ is) (All-drop (λ b. b < 256) 6 value all))))

    spelled : spelling (Single (Bytes bytes) Empty) ≡ 1 ∷ bytes ++ 0 ∷ []
    spelled = append-nil _ ∙ ap (λ (bytes : List ℕ). 1 ∷ bytes ++ 0 ∷ []) (escaped_last bytes none)
