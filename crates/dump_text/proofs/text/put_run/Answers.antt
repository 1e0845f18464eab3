use Rattle.std.proofs.Common.{take, arith}
use Rattle.std.proofs.lemmas.List.{take_rest, length-drop}
use Rattle.model_lines.specs.Reading.{text_of}
use Rattle.dump_text.specs.Texts.{with_front}
use Rattle.dump_text.proofs.Pieces.{read_run}
use Rattle.dump_text.proofs.text.put_run.Goals as goal

pub loop-count-preserved : goal.loop-count-preserved
loop-count-preserved c =
    let left = c.loop-count.left.now in
    let count = c.put_plain-count.result in
    let put = c.put_plain-count.ensures in
    let front = take c.loop-count.end c.loop-count.room in
    let total = with_front (take c.args.at c.args.room.now) (text_of c.args.bytes.now) in
    rw (take_rest left count)
    (record {
      read = read_run front left _ count total put.front put.read c.loop-count.invariant.read;
      place = omega (arith, put.within, length-drop count left, c.loop-count.invariant.place);
      within = omega (arith, length-drop count left, c.loop-count.invariant.within);
    })
