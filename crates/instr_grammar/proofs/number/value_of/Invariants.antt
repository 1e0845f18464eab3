use Rattle.std.proofs.Common.{◌≡◌, ◌<◌, ◌^◌, drop}
use Rattle.dump_reading.specs.Fields.{value_after}
use Rattle.instr_grammar.proofs.number.value_of.Given as goal

-- the number so far and the digits left write the whole number
abbrev pub invariant-loop-digit : goal.invariant-loop-digit
invariant-loop-digit l = record {
  all : value_after l.value (drop l.digit-index l.digits) ≡ value_after 0 l.digits;
  fits : l.value < 2 ^ 128;
}
