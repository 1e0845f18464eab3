use Rattle.std.proofs.Common.{◌≡◌, ◌+◌, suc, arith}
use Rattle.std.proofs.lemmas.List.{take_rest}
use Rattle.shell_text.proofs.FirstWords as words
use Rattle.shell_text.proofs.words.first_word.Goals as goal

pub returns-in-Some : goal.returns-in-Some
returns-in-Some c =
    let bytes = c.args.bytes.now in
    let n = c.in-Some.n in
    let found = c.in-Some.ensures in
    let next : n + 1 ≡ suc n = omega arith in
    let line = words.first_word n bytes (omega arith) (λ k l. found.0.before k (omega arith) l) found.1 in
    rw (take_rest bytes (n + 1)) (rw next line)

pub returns-in-None : goal.returns-in-None
returns-in-None c = words.only_word c.args.bytes.now (λ k l. c.in-None.ensures k (omega arith) l)
