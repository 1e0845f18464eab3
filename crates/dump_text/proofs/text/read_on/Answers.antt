use Rattle.std.proofs.Common.{◌≡◌, take, ◌∙◌, arith, subst}
use Rattle.std.specs.Prelude.{IfOk}
use Rattle.std.proofs.lemmas.Result.{IfOk-weaker}
use Rattle.model_lines.specs.Reading.{text_of}
use Rattle.dump_text.specs.Texts.{text_is}
use Rattle.dump_text.proofs.Pieces.{read_one, spelled_within, separator_within, done_nothing, done_separator, done_unfit}
use Rattle.dump_text.proofs.text.read_on.Goals as goal

pub put-requires : goal.put-requires
put-requires c =
    let p = c.in-Spelled in
    let run = c.put_run-end in
    omega (arith, spelled_within run.result.1.now p.rest.now p.byte p.ensures, run.ensures.place, run.ensures.len, c.loop-byte.invariant.fits)

pub loop-byte-smaller : goal.loop-byte-smaller
loop-byte-smaller c =
    let p = c.in-Spelled in
    let run = c.put_run-end in
    omega (arith, spelled_within run.result.1.now p.rest.now p.byte p.ensures, run.ensures.within)

pub loop-byte-preserved : goal.loop-byte-preserved
loop-byte-preserved c =
    let p = c.in-Spelled in
    let run = c.put_run-end in
    let behind = run.result.1.now in
    let front = take run.result.0 run.new.room in
    let put = c.put.ensures in
    let less = spelled_within behind p.rest.now p.byte p.ensures in
    record {
      all = rw put.front
          (read_one front behind p.rest.now p.byte (text_of c.args.bytes.now) p.ensures (run.ensures.read ∙ c.loop-byte.invariant.all));
      within = omega (arith, less, run.ensures.within, c.loop-byte.invariant.within);
      fits = omega (arith, less, put.len, run.ensures.place, run.ensures.len, c.loop-byte.invariant.fits);
    }

pub returns-in-Nothing-clause-value : goal.returns-in-Nothing-clause-value
returns-in-Nothing-clause-value c =
    let run = c.put_run-end in
    let front = take run.result.0 run.new.room in
    let e = done_nothing front run.result.1.now (text_of c.args.bytes.now) c.in-Nothing.ensures (run.ensures.read ∙ c.loop-byte.invariant.all) in
    subst (λ read. IfOk c.copy_up_to.result (λ text. text_is text ≡ read)) e c.copy_up_to.ensures.value

pub returns-in-Separator-clause-value : goal.returns-in-Separator-clause-value
returns-in-Separator-clause-value c =
    let run = c.put_run-end in
    let front = take run.result.0 run.new.room in
    let p = c.in-Separator in
    let e = done_separator front run.result.1.now p.rest.now (text_of c.args.bytes.now) p.ensures (run.ensures.read ∙ c.loop-byte.invariant.all) in
    subst (λ read. IfOk c.copy_up_to-in-Separator.result (λ text. text_is text ≡ read)) e c.copy_up_to-in-Separator.ensures.value

pub returns-in-Separator-clause-within : goal.returns-in-Separator-clause-within
returns-in-Separator-clause-within c =
    let run = c.put_run-end in
    let less = separator_within run.result.1.now c.in-Separator.rest.now c.in-Separator.ensures in
    IfOk-weaker c.copy_up_to-in-Separator.result _ _ (λ text e. omega (arith, less, e, run.ensures.within, c.loop-byte.invariant.within))
    c.copy_up_to-in-Separator.ensures.place

pub returns-in-Unfit-clause-value : goal.returns-in-Unfit-clause-value
returns-in-Unfit-clause-value c =
    let run = c.put_run-end in
    let front = take run.result.0 run.new.room in
    let e = done_unfit front run.result.1.now (text_of c.args.bytes.now) c.in-Unfit.ensures (run.ensures.read ∙ c.loop-byte.invariant.all) in
    subst (λ read. IfOk c.copy_up_to-in-Unfit.result (λ text. text_is text ≡ read)) e c.copy_up_to-in-Unfit.ensures.value
