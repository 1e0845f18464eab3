use Rattle.std.proofs.Common.{◌∙◌, sym}
use Rattle.model_lines.specs.Reading.{pair_at}
use Rattle.dump_reading.specs.Seen.{line_is}
use Rattle.dump_reading.proofs.PairLines.{input_alone, pair_found, bad_where_it_stands, long_where_it_stands, never_too_many}
use Rattle.dump_reading.proofs.line.pair_of.Goals as goal

pub returns-in-Ok : goal.returns-in-Ok
returns-in-Ok c =
    let line = line_is c.args.line.now in
    let one = input_alone line c.args.line.now.spelled.now c.requires.stands c.requires.limit in
    let found = pair_found (pair_at line line.bytes) c.in-Ok.input (sym one ∙ c.in-Ok.ensures.exact) in
    rw found.1.0 (c.only_pair.ensures found.0.0 found.0.1 found.1.1)

pub returns-in-Err-BadLine : goal.returns-in-Err-BadLine
returns-in-Err-BadLine c =
    let line = line_is c.args.line.now in
    let one = input_alone line c.args.line.now.spelled.now c.requires.stands c.requires.limit in
    let fails = rw c.in-Err-BadLine.field-0-is at c.in-Err-BadLine.ensures.exact in
    bad_where_it_stands (pair_at line line.bytes) c.in-Err-BadLine.field-0-0 c.in-Err-BadLine.place c.args.line.now.number (sym one ∙ fails)

pub returns-in-Err-TooLong : goal.returns-in-Err-TooLong
returns-in-Err-TooLong c =
    let line = line_is c.args.line.now in
    let one = input_alone line c.args.line.now.spelled.now c.requires.stands c.requires.limit in
    let fails = rw c.in-Err-TooLong.field-0-is at c.in-Err-TooLong.ensures.exact in
    long_where_it_stands (pair_at line line.bytes) c.in-Err-TooLong.field-0-0 c.args.line.now.number (sym one ∙ fails)

pub returns-in-Err-TooMany : goal.returns-in-Err-TooMany
returns-in-Err-TooMany c =
    let line = line_is c.args.line.now in
    let one = input_alone line c.args.line.now.spelled.now c.requires.stands c.requires.limit in
    let fails = rw c.in-Err-TooMany.field-0-is at c.in-Err-TooMany.ensures.exact in
    absurd (never_too_many (pair_at line line.bytes) c.in-Err-TooMany.field-0-0 (sym one ∙ fails))
