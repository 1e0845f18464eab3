-- A word is read as a token exactly where it is the printable form of bytes.
use Rattle.std.proofs.Common.{◌≡◌, ℕ, zero, suc, ◌<◌, ◌≤◌, List, [], ◌∷◌, ◌++◌, length, Option, Some, None, refl, sym, ap, subst, ◌∙◌, arith}
use Rattle.std.specs.Prelude.{option_map}
use Rattle.std.specs.List.{AllByRecursion}
use Rattle.std.proofs.lemmas.List.{length-append}
use Rattle.std.proofs.lemmas.List.Elements.{All-from_recursion, recursion_from_All}
use Rattle.key_bytes.specs.Keys.{IsByteString}
use Rattle.model_lines.specs.Printing.{space, printed_but, printable_but}
use Rattle.dump_reading.specs.declared.fault.PrintableFault.{PrintableFault}
use Rattle.dump_reading.specs.declared.fault.PrintableFault.TheVariants as printable
use Rattle.dump_reading.specs.Printable.{IsFaultOf}
use Rattle.dump_reading.specs.Spellings.{Front, byte_at, spelled}
use Rattle.dump_reading.proofs.Spellings.{byte_again, length-spelling}
use Rattle.dump_reading.proofs.Texts.{byte_was, not_bad}
use Rattle.model_shell.specs.Tokens.{with_byte, spelled_up_to}
use Rattle.shell_text.specs.Reading.{unread_is, Fails}

abbrev AreBytes : List ℕ → Type 0
AreBytes bytes = AllByRecursion (λ b. b < 256) bytes

-- the byte that is spelled at the front comes first
step_up : (more : ℕ) (bytes rest : List ℕ) (byte : ℕ) → byte_at (Some space) bytes ≡ spelled byte rest
    → spelled_up_to (suc more) bytes ≡ option_map (λ (x : List ℕ). byte ∷ x) (spelled_up_to more rest)
unfolding spelled_up_to byte_at
step_up more [] rest byte e = absurd cc
step_up more (first ∷ others) rest byte e = ap (λ (f : Option Front). with_byte f (spelled_up_to more)) e

-- what is spelled is read
pub spelled_again : (read : List ℕ) → AreBytes read → (more : ℕ) → length (printable_but (Some space) read) ≤ more
    → spelled_up_to more (printable_but (Some space) read) ≡ Some read
unfolding printable_but spelled_up_to
spelled_again [] h more enough = refl
spelled_again (byte ∷ read) h zero enough =
    absurd (omega (arith, length-append (printed_but (Some space) byte) (printable_but (Some space) read), length-spelling (Some space) byte))
spelled_again (byte ∷ read) h (suc more) enough =
    let rest = printable_but (Some space) read in
    let short : length rest ≤ more = omega (arith, length-append (printed_but (Some space) byte) rest, length-spelling (Some space) byte) in
    step_up more (printed_but (Some space) byte ++ rest) rest byte (byte_again (Some space) byte rest h.0)
    ∙ ap (option_map (λ (x : List ℕ). byte ∷ x)) (spelled_again read h.1 more short)

-- what was read was spelled so
pub record WasSpelled (word read : List ℕ) : Type 0 where
  pub is : word ≡ printable_but (Some space) read
  pub are_bytes : AreBytes read

inside : (byte : ℕ) (rest : Option (List ℕ)) (read : List ℕ) → option_map (λ (x : List ℕ). byte ∷ x) rest ≡ Some read
    → (later : List ℕ) × (rest ≡ Some later) × (byte ∷ later ≡ read)
inside byte None read e = absurd cc
inside byte (Some later) read e = (later, refl, cc)

was_with : (more : ℕ) (bytes read : List ℕ) (front : Option Front) → front ≡ byte_at (Some space) bytes
    → ((rest later : List ℕ) → spelled_up_to more rest ≡ Some later → WasSpelled rest later)
    → with_byte front (spelled_up_to more) ≡ Some read → WasSpelled bytes read
unfolding printable_but
was_with more bytes read None is later e = absurd cc
was_with more bytes read (Some front) is later e =
    let parts = inside front.0 (spelled_up_to more front.1) read e in
    let was = byte_was (Some space) bytes front.1 front.0 is in
    let rest = later front.1 parts.0 parts.1 in
    rw (← parts.2) (record {
      is = was.0 ∙ ap (λ (x : List ℕ). printed_but (Some space) front.0 ++ x) rest.is;
      are_bytes = (was.1, rest.are_bytes);
    })

pub spelled_was : (more : ℕ) (word read : List ℕ) → spelled_up_to more word ≡ Some read → WasSpelled word read
unfolding printable_but spelled_up_to
spelled_was zero [] read e = let is : [] ≡ read = cc in rw (← is) (record { is = refl; are_bytes = tt })
spelled_was (suc more) [] read e = let is : [] ≡ read = cc in rw (← is) (record { is = refl; are_bytes = tt })
spelled_was zero (byte ∷ rest) read e = absurd cc
spelled_was (suc more) (byte ∷ rest) read e =
    was_with more (byte ∷ rest) read (byte_at (Some space) (byte ∷ rest)) refl (λ rest later is. spelled_was more rest later is) e

-- ---- a word

pub whole_read : (word read : List ℕ) → (word ≡ printable_but (Some space) read) × IsByteString read
    → spelled_up_to (length word) word ≡ Some read
whole_read word read found =
    subst (λ (w : List ℕ). spelled_up_to (length w) w ≡ Some read) (sym found.0)
    (spelled_again read (recursion_from_All (λ b. b < 256) read found.1) (length (printable_but (Some space) read)) (omega arith))

none_of : (read : Option (List ℕ)) → ((bytes : List ℕ) → read ≡ Some bytes → ⊥) → read ≡ None
none_of None h = refl
none_of (Some bytes) h = absurd (h bytes refl)

pub whole_unread : (word : List ℕ) (fault : PrintableFault) → IsFaultOf (Some space) word fault
    → Fails (unread_is fault) (spelled_up_to (length word) word)
whole_unread word (printable.Bad place) bad =
    none_of (spelled_up_to (length word) word) (λ read e.
    let was = spelled_was (length word) word read e in
    not_bad (Some space) word read place bad (All-from_recursion (λ b. b < 256) read was.are_bytes) was.is)
whole_unread word printable.NoMemory bad = tt
