use Rattle.std.proofs.Common.{◌≡◌, ℕ, ◌+◌, ◌-◌, ◌≤◌, List, [], ◌∷◌, Ok, Err, sym, ap, ◌∙◌, subst, arith}
use Rattle.std.proofs.lemmas.Result.{err_from_is_err_and}
use Rattle.model_database.specs.Databases.{Mutation, Set}
use Rattle.model_database.specs.Histories.{Setting}
use Rattle.model_database.specs.Transactions.{Transaction}
use Rattle.fdb_calls.specs.declared.Reply.TheVariants as reply
use Rattle.fdb_calls.specs.Answers.{Answered}
use Rattle.model_allocator.specs.Acts.{Writes, act_called}
use Rattle.model_recipes.specs.declared.fault.RecipeFault.TheVariants as fault
use Rattle.model_recipes.specs.Faults.{fault_of}
use Rattle.model_recipes.specs.Turns.{written}
use Rattle.model_recipes.specs.Queues.{index_key}
use Rattle.model_recipes.specs.Blobs.{chunk, sets_chunks, first_chunk, chunk_end}
use Rattle.model_recipes.proofs.Writing.{end_above}
use Rattle.recipe_layers.specs.Steps.{IsWritten}
use Rattle.recipe_layers.proofs.Answering.{stops_first, one_written, none_written, written_more, first_refused}
use Rattle.recipe_layers.proofs.Chunks.{sets_next}
use Rattle.recipe_layers.proofs.Sets.{sets_none, sets_stopped, sets_total}
use Rattle.recipe_layers.proofs.blob.set_chunks.Goals as goal

pub loop-place-init : goal.loop-place-init
loop-place-init g c = record {
  written = λ setting t stands. sets_none setting (g.T.Tr.stands c.args.tr.now setting) c.args.s.now.prefix c.args.bytes.now c.first_chunk-first.result t stands;
  same = g.met.T.Tr.same_itself c.args.tr.now;
}

pub returns-in_err-key-clause-written : goal.returns-in_err-key-clause-written
returns-in_err-key-clause-written g c setting t stands =
    let p = err_from_is_err_and c.from_residual.result c.from_residual.ensures.1 in
    let space = c.args.s.now.prefix in
    let bytes = c.args.bytes.now in
    let from = c.first_chunk-first.result in
    let end = c.chunk_end-end.result in
    let place = c.loop-place.place in
    let before = g.T.Tr.stands c.loop-place.tr setting in
    subst (λ result. IsWritten result setting before (sets_chunks space bytes (first_chunk c.args.at) (chunk_end c.args.at c.args.size - first_chunk c.args.at)) t)
    (sym (p.1 ∙ ap Err p.2))
    (sets_total (Err fault.NoMemory) setting before space bytes from end (first_chunk c.args.at) (chunk_end c.args.at c.args.size) t
    c.first_chunk-first.ensures c.chunk_end-end.ensures.end
    (sets_stopped (Err fault.NoMemory) setting before before space bytes from place end t (omega arith) c.loop-place-test.true
    (c.loop-place.invariant.written setting t stands)
    (λ u is. stops_first setting before (written (Set (index_key space place) (chunk bytes place) ∷ sets_chunks space bytes (place + 1) (end - (place + 1)))) u is)))

pub returns-in_err-set-clause-written : goal.returns-in_err-set-clause-written
returns-in_err-set-clause-written g c setting t stands =
    let p = err_from_is_err_and c.from_residual-in_err-set.result c.from_residual-in_err-set.ensures.1 in
    let space = c.args.s.now.prefix in
    let bytes = c.args.bytes.now in
    let from = c.first_chunk-first.result in
    let end = c.chunk_end-end.result in
    let place = c.loop-place.place in
    let f = c.in_err-set.field-0.0 in
    let before = g.T.Tr.stands c.loop-place.tr setting in
    let after = g.T.Tr.stands c.set.new.self setting in
    let key_is : c.as_slice.result.now ≡ index_key space place = c.as_slice.ensures ∙ c.in_ok-key.ensures in
    subst (λ result. IsWritten result setting after (sets_chunks space bytes (first_chunk c.args.at) (chunk_end c.args.at c.args.size - first_chunk c.args.at)) t)
    (sym (p.1 ∙ ap Err p.2))
    (sets_total (Err (fault_of f)) setting after space bytes from end (first_chunk c.args.at) (chunk_end c.args.at c.args.size) t
    c.first_chunk-first.ensures c.chunk_end-end.ensures.end
    (sets_stopped (Err (fault_of f)) setting before after space bytes from place end t (omega arith) c.loop-place-test.true
    (c.loop-place.invariant.written setting t stands)
    (λ u is. first_refused f setting after (Set (index_key space place) (chunk bytes place)) (sets_chunks space bytes (place + 1) (end - (place + 1))) u
    (subst (λ key. Answered (λ (done : Unit {0}). reply.Done) (Err f) after u (act_called setting u (Writes (Set key (chunk bytes place))))) key_is
    (subst (λ value. Answered (λ (done : Unit {0}). reply.Done) (Err f) after u (act_called setting u (Writes (Set c.as_slice.result.now value))))
    c.chunk.ensures (c.in_err-set.ensures.answer setting u is))))))

pub loop-place-preserved : goal.loop-place-preserved
loop-place-preserved g c =
    let space = c.args.s.now.prefix in
    let bytes = c.args.bytes.now in
    let from = c.first_chunk-first.result in
    let place = c.loop-place.place in
    let key_is : c.as_slice.result.now ≡ index_key space place = c.as_slice.ensures ∙ c.in_ok-key.ensures in
    let low : from ≤ place = omega arith in
    record {
      written = λ setting t stands.
          let before = g.T.Tr.stands c.loop-place.tr setting in
          let after = g.T.Tr.stands c.set.new.self setting in
          subst (λ (mutations : List Mutation). IsWritten (Ok tt) setting after mutations t) (sym (sets_next space bytes from place low))
          (written_more (Ok tt) setting before after (sets_chunks space bytes from (place - from)) (Set (index_key space place) (chunk bytes place) ∷ []) t
          (c.loop-place.invariant.written setting t stands)
          (λ u is. one_written (Ok c.in_ok-set.field-0) setting after (Set (index_key space place) (chunk bytes place)) u
          (subst (λ key. Answered (λ (done : Unit {0}). reply.Done) (Ok c.in_ok-set.field-0) after u (act_called setting u (Writes (Set key (chunk bytes place))))) key_is
          (subst (λ value. Answered (λ (done : Unit {0}). reply.Done) (Ok c.in_ok-set.field-0) after u (act_called setting u (Writes (Set c.as_slice.result.now value))))
          c.chunk.ensures (c.in_ok-set.ensures.answer setting u is)))));
      same = g.met.T.Tr.same_still c.args.tr.now c.loop-place.tr c.set.new.self c.loop-place.invariant.same c.in_ok-set.ensures.same;
    }

pub returns-clause-written : goal.returns-clause-written
returns-clause-written g c setting t stands =
    let space = c.args.s.now.prefix in
    let bytes = c.args.bytes.now in
    let from = c.first_chunk-first.result in
    let end = c.chunk_end-end.result in
    let place = c.loop-place.place in
    let after = g.T.Tr.stands c.loop-place.tr setting in
    let up : from ≤ end = omega (arith, end_above c.args.at c.args.size, c.first_chunk-first.ensures, c.chunk_end-end.ensures.end) in
    let all : place - from ≡ end - from = omega (arith, up, c.loop-place-test.false, c.loop-place.auto.place-end) in
    sets_total (Ok tt) setting after space bytes from end (first_chunk c.args.at) (chunk_end c.args.at c.args.size) t
    c.first_chunk-first.ensures c.chunk_end-end.ensures.end
    (subst (λ (count : ℕ). IsWritten (Ok tt) setting after (sets_chunks space bytes from count) t) all (c.loop-place.invariant.written setting t stands))
