use Rattle.std.proofs.Common.{◌≡◌, ℕ, zero, suc, ◌≤◌, List, [], ◌∷◌, length, take, get_or, refl, subst, arith}
use Rattle.std.specs.Io.KnownBytes.{Consumes}
use Rattle.fdb_shell.proofs.reading.next_byte.Goals as goal

-- of one place at least one byte was taken
first_taken : (n : ℕ) (buf : List ℕ) → 1 ≤ n → n ≤ length buf → length buf ≡ 1 → take n buf ≡ get_or buf 0 0 ∷ []
first_taken zero buf some within one = absurd (omega arith)
first_taken (suc n) [] some within one = absurd (omega arith)
first_taken (suc zero) (byte ∷ []) some within one = refl
first_taken (suc (suc n)) (byte ∷ []) some within one = absurd (omega arith)
first_taken (suc n) (byte ∷ next ∷ buf) some within one = absurd (omega arith)

pub returns-in-Got-clause-read : goal.returns-in-Got-clause-read
returns-in-Got-clause-read g c =
    subst (λ (bytes : List ℕ). Consumes (g.S.Source.left c.args.source.now) (g.S.Source.left c.read.new.self) bytes)
    (first_taken c.in-Got.field-0 c.read.new.buf c.in-Got.ensures.bound.0 c.in-Got.ensures.bound.1 (omega arith)) c.in-Got.ensures.bytes

pub returns-in-Failed-clause-read : goal.returns-in-Failed-clause-read
returns-in-Failed-clause-read g c = (refl, c.in-Failed.ensures.bytes, c.in-Failed.ensures.cause refl)
