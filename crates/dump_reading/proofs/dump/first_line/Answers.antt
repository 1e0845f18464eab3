use Rattle.std.proofs.Common.{◌≡◌, ◌+◌, length, suc, arith}
use Rattle.std.proofs.lemmas.List.{take_rest, drop_all}
use Rattle.model_lines.specs.Reading.{lines_of}
use Rattle.dump_text.proofs.Inputs.{whole_line, last_line}
use Rattle.dump_reading.proofs.PairLines.{whole_alone}
use Rattle.dump_reading.proofs.dump.first_line.Goals as goal

pub returns-in-Some-clause-lines : goal.returns-in-Some-clause-lines
returns-in-Some-clause-lines c =
    let bytes = c.args.bytes.now in
    let n = c.in-Some.n in
    let found = c.in-Some.ensures in
    let next : n + 1 ≡ suc n = omega arith in
    let line = whole_line n bytes (omega arith) (λ k l. found.0.before k (omega arith) l) found.1 in
    rw (take_rest bytes (n + 1)) (rw next line)

pub returns-in-Some-clause-stands : goal.returns-in-Some-clause-stands
returns-in-Some-clause-stands c =
    let bytes = c.args.bytes.now in
    let n = c.in-Some.n in
    let found = c.in-Some.ensures in
    let next : n + 1 ≡ suc n = omega arith in
    rw next (whole_alone n bytes (omega arith) (λ k l. found.0.before k (omega arith) l) found.1)

pub returns-in-None-clause-lines : goal.returns-in-None-clause-lines
returns-in-None-clause-lines c =
    let bytes = c.args.bytes.now in
    let line = last_line bytes c.requires (λ k l. c.in-None.ensures k (omega arith) l) in
    rw (take_rest bytes (length bytes), drop_all (length bytes) bytes (omega arith)) line

pub returns-in-None-clause-stands : goal.returns-in-None-clause-stands
unfolding lines_of
returns-in-None-clause-stands c = last_line c.args.bytes.now c.requires (λ k l. c.in-None.ensures k (omega arith) l)
