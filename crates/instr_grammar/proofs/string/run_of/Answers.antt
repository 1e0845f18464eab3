use Rattle.std.proofs.Common.{◌≡◌, ◌∷◌, ◌++◌, []}
use Rattle.instr_grammar.specs.Reading.{run_of}
use Rattle.dump_reading.proofs.Texts.{less_is_left}
use Rattle.instr_grammar.proofs.Runs.{run_goes_on, run_ends}
use Rattle.instr_grammar.proofs.string.run_of.Goals as goal

pub loop-byte-smaller : goal.loop-byte-smaller
loop-byte-smaller c = less_is_left c.args.escaped c.loop-byte.left.now c.in-Byte.rest.now c.in-Byte.byte c.in-Byte.ensures

pub loop-byte-preserved : goal.loop-byte-preserved
loop-byte-preserved c =
    let items_are : c.push.new.self.items ≡ c.loop-byte.read.items ++ c.in-Byte.byte ∷ [] = c.in_ok-push-in-Byte.ensures.items in
    rw items_are (run_goes_on c.args.escaped c.loop-byte.read.items c.loop-byte.left.now c.in-Byte.rest.now c.in-Byte.byte
    (run_of c.args.escaped c.args.bytes.now) c.in-Byte.ensures c.loop-byte.invariant)

pub returns-in-Unfit : goal.returns-in-Unfit
returns-in-Unfit c =
    rw c.in_ok-from_vec-in-Unfit.ensures (run_ends c.args.escaped c.loop-byte.read.items c.loop-byte.left.now (run_of c.args.escaped c.args.bytes.now)
    c.in-Unfit.ensures c.loop-byte.invariant)
