use Rattle.std.proofs.Common.{codes, refl}
use Rattle.machine_instructions.proofs.Names.{packed_name}
use Rattle.machine_instructions.proofs.instruction.usual_instruction.Goals as goal

pub returns-then-eq-clause-instruction : goal.returns-then-eq-clause-instruction
unfolding lib.Utf8.encode
returns-then-eq-clause-instruction c =
    packed_name c.args.value.now c.as_slice.result.now (codes "SET") c.as_slice.ensures c.if-eq.ensures refl (codes "SET", (refl, refl))

pub returns-then-eq-2-clause-instruction : goal.returns-then-eq-2-clause-instruction
unfolding lib.Utf8.encode
returns-then-eq-2-clause-instruction c =
    packed_name c.args.value.now c.as_slice-else-eq.result.now (codes "GET") c.as_slice-else-eq.ensures c.if-eq-2.ensures refl (codes "GET", (refl, refl))

pub returns-then-eq-3-clause-instruction : goal.returns-then-eq-3-clause-instruction
unfolding lib.Utf8.encode
returns-then-eq-3-clause-instruction c =
    packed_name c.args.value.now c.as_slice-else-eq-2.result.now (codes "COMMIT") c.as_slice-else-eq-2.ensures c.if-eq-3.ensures refl (codes "COMMIT", (refl, refl))

pub returns-then-eq-4-clause-instruction : goal.returns-then-eq-4-clause-instruction
unfolding lib.Utf8.encode
returns-then-eq-4-clause-instruction c =
    packed_name c.args.value.now c.as_slice-else-eq-3.result.now (codes "RESET") c.as_slice-else-eq-3.ensures c.if-eq-4.ensures refl (codes "RESET", (refl, refl))

pub returns-then-eq-5-clause-instruction : goal.returns-then-eq-5-clause-instruction
unfolding lib.Utf8.encode
returns-then-eq-5-clause-instruction c =
    packed_name c.args.value.now c.as_slice-else-eq-4.result.now (codes "NEW_TRANSACTION") c.as_slice-else-eq-4.ensures c.if-eq-5.ensures refl (codes "NEW_TRANSACTION", (refl, refl))

pub returns-then-eq-6-clause-instruction : goal.returns-then-eq-6-clause-instruction
unfolding lib.Utf8.encode
returns-then-eq-6-clause-instruction c =
    packed_name c.args.value.now c.as_slice-else-eq-5.result.now (codes "USE_TRANSACTION") c.as_slice-else-eq-5.ensures c.if-eq-6.ensures refl (codes "USE_TRANSACTION", (refl, refl))
