-- What a call of `tester` promises, by how it ended.
use Rattle.std.proofs.Common.{◌≡◌, ◌≢◌, ◌^◌, ◌<◌, ◌≤◌, ℕ, true, false, true≢false, List, [], length, Option, Some, None, refl, sym, subst, ◌∙◌, inl, inr, ◌⊎◌, ⊎_elim, arith}
use Rattle.std.specs.Prelude.{IfSome, codes}
use Rattle.std.specs.Io.KnownBytes.{Appends, IsAtEnd}
use Rattle.std.proofs.KnownBytes.{Consumes-nil}
use Rattle.std.proofs.lemmas.Option.{none-some}
use Rattle.outside.specs.Counts.{Rose}
use Rattle.outside.specs.Streams.{AppendsFront}
use Rattle.model_commands.specs.declared.args.Args.{Args}
use Rattle.model_commands.specs.declared.args.Args.TheVariants as args
use Rattle.command_words.specs.declared.fault.ArgFault.{ArgFault}
use Rattle.command_words.specs.declared.fault.ArgFault.TheVariants as arg
use Rattle.laws_history.specs.Whole.{AreRunsLegal}
use Rattle.laws_prefixes.specs.Prefixes.{RunsArePrefixesApart}
use Rattle.machine_runs.specs.declared.running.Rendered.{Rendered}
use Rattle.tester_run.specs.Answering.{IsMade, IsRefusedBy}
use Rattle.tester_run.specs.Arguments.{reads_input}
use Rattle.tester_run.specs.Faults.{InputFault, HasFault}
use Rattle.tester_run.specs.Inputs.{ReadsWithin}
use Rattle.tester_run.specs.Outcomes.{IsOutcome}
use Rattle.tester_run.specs.Refusals.{IsUnasked, Refuses}
use Rattle.tester_run.specs.Rendered.{Answers}
use Rattle.tester_run.specs.Statuses.{usage, bad_input, read_fault, write_fault, out_of_memory, IsFinal, IsSilent, IsGenStatus}
use Rattle.tester_run.specs.Tellings.{IsTold}
use Rattle.tester_run.specs.declared.fault.Refusal.{Refusal}
use Rattle.tester_run.proofs.Tellings.{other, refused_by, refused_short, tells_memory, tells_run, tells_words, told_by_words, IsRefused}
use Rattle.tester_run.proofs.Tops.{broken_off, delivered, delivered_lawful, kept_apart, kept_legal, made_final, not_write_fault}

-- a status that is one of three is no fourth
no_fourth : {A : Type 0} (status a b c n : ℕ) → (a ≡ n → ⊥) → (b ≡ n → ⊥) → (c ≡ n → ⊥)
    → (status ≡ a) ⊎ (status ≡ b) ⊎ (status ≡ c) → status ≡ n → A
no_fourth status a b c n not_a not_b not_c (inl is) e = other status a n not_a is e
no_fourth status a b c n not_a not_b not_c (inr (inl is)) e = other status b n not_b is e
no_fourth status a b c n not_a not_b not_c (inr (inr is)) e = other status c n not_c is e

not_final : {A : Type 0} (status n : ℕ) → (n ≡ 0 → ⊥) → (n ≡ 3 → ⊥) → status ≡ n → IsFinal status → A
not_final status n not_zero not_three is (inl e) = other status n 0 not_zero is e
not_final status n not_zero not_three is (inr e) = other status n 3 not_three is e

-- ---- no command was found

usage_outcome : {S K N : Type 0} (left : S → Option (List ℕ)) (read_faults : S → ℕ) (source : S)
    (written : K → Option (List ℕ)) (write_faults : K → ℕ) (out : K)
    (told_on : N → Option (List ℕ)) (tell_faults : N → ℕ) (err err_after : N)
    (asked : Option Args) (status : ℕ) (order : List ℕ) → asked ≡ None → order ≡ [] → status ≡ usage
    → IsTold (codes "usage") (told_on err) (told_on err_after) (tell_faults err) (tell_faults err_after)
    → IsOutcome asked status order left read_faults source source written write_faults out out told_on tell_faults err err_after
usage_outcome left read_faults source written write_faults out told_on tell_faults err err_after asked status order none no_order is text = record {
  usage = λ e. none;
  words = λ e. inl is;
  unread = λ e. refl;
  input = λ e. other status 1 2 (λ z. omega arith) is e;
  judged = λ e. other status 1 2 (λ z. omega arith) is e;
  finished = λ final. not_final status 1 (λ z. omega arith) (λ z. omega arith) is final;
  end = λ final. not_final status 1 (λ z. omega arith) (λ z. omega arith) is final;
  generated = subst (λ (words : Option Args). IfSome words (λ its. reads_input its ≡ false → (source ≡ source) × IsGenStatus status)) (sym none) tt;
  legal = λ final. not_final status 1 (λ z. omega arith) (λ z. omega arith) is final;
  apart = λ final. not_final status 1 (λ z. omega arith) (λ z. omega arith) is final;
  read = λ e. other status 1 4 (λ z. omega arith) is e;
  write = λ e. other status 1 5 (λ z. omega arith) is e;
  front = λ e. other status 1 5 (λ z. omega arith) is e;
  untouched = λ e. refl;
  no_order = λ e. no_order;
  statuses = omega (arith, is);
  complete = λ lawful. absurd (none-some lawful.its_args (sym none ∙ lawful.words));
  limit = λ e. absurd (e is);
  quiet = λ final. not_final status 1 (λ z. omega arith) (λ z. omega arith) is final;
  told = tells_words asked status (left source) (told_on err) (told_on err_after) (tell_faults err) (tell_faults err_after) is text;
}

generated_short : {X : Type 0} (asked : Option Args) (source : X) (status : ℕ) → status ≡ out_of_memory
    → IfSome asked (λ its. reads_input its ≡ false → (source ≡ source) × IsGenStatus status)
generated_short None source status is = tt
generated_short (Some its) source status is = λ alone. (refl, inr (inr is))

short_outcome : {S K N : Type 0} (left : S → Option (List ℕ)) (read_faults : S → ℕ) (source : S)
    (written : K → Option (List ℕ)) (write_faults : K → ℕ) (out : K)
    (told_on : N → Option (List ℕ)) (tell_faults : N → ℕ) (err err_after : N)
    (asked : Option Args) (status : ℕ) (order : List ℕ) → order ≡ [] → status ≡ out_of_memory
    → IsTold (codes "out of memory") (told_on err) (told_on err_after) (tell_faults err) (tell_faults err_after)
    → IsOutcome asked status order left read_faults source source written write_faults out out told_on tell_faults err err_after
short_outcome left read_faults source written write_faults out told_on tell_faults err err_after asked status order no_order is text = record {
  usage = λ e. other status 6 1 (λ z. omega arith) is e;
  words = λ e. inr is;
  unread = λ e. refl;
  input = λ e. other status 6 2 (λ z. omega arith) is e;
  judged = λ e. other status 6 2 (λ z. omega arith) is e;
  finished = λ final. not_final status 6 (λ z. omega arith) (λ z. omega arith) is final;
  end = λ final. not_final status 6 (λ z. omega arith) (λ z. omega arith) is final;
  generated = generated_short asked source status is;
  legal = λ final. not_final status 6 (λ z. omega arith) (λ z. omega arith) is final;
  apart = λ final. not_final status 6 (λ z. omega arith) (λ z. omega arith) is final;
  read = λ e. other status 6 4 (λ z. omega arith) is e;
  write = λ e. other status 6 5 (λ z. omega arith) is e;
  front = λ e. other status 6 5 (λ z. omega arith) is e;
  untouched = λ e. refl;
  no_order = λ e. no_order;
  statuses = omega (arith, is);
  complete = λ lawful. inr is;
  limit = λ e. ([], omega arith, Consumes-nil (left source));
  quiet = λ final. not_final status 6 (λ z. omega arith) (λ z. omega arith) is final;
  told = tells_memory asked status (left source) (told_on err) (told_on err_after) (tell_faults err) (tell_faults err_after) is text;
}

pub unasked_outcome : {S K N : Type 0} (left : S → Option (List ℕ)) (read_faults : S → ℕ) (source : S)
    (written : K → Option (List ℕ)) (write_faults : K → ℕ) (out : K)
    (told_on : N → Option (List ℕ)) (tell_faults : N → ℕ) (err err_after : N)
    (asked : Option Args) (status : ℕ) (order : List ℕ) (fault : ArgFault) → (fault ≡ arg.Usage → asked ≡ None) → order ≡ []
    → IsUnasked fault status (told_on err) (told_on err_after) (tell_faults err) (tell_faults err_after)
    → IsOutcome asked status order left read_faults source source written write_faults out out told_on tell_faults err err_after
unasked_outcome left read_faults source written write_faults out told_on tell_faults err err_after asked status order arg.Usage none no_order unasked =
    usage_outcome left read_faults source written write_faults out told_on tell_faults err err_after asked status order (none refl) no_order unasked.0 unasked.1
unasked_outcome left read_faults source written write_faults out told_on tell_faults err err_after asked status order arg.NoMemory none no_order unasked =
    short_outcome left read_faults source written write_faults out told_on tell_faults err err_after asked status order no_order unasked.is_status unasked.is_told

-- ---- nothing was rendered

-- the three statuses
plain : (its : Args) (status : ℕ) → ((status ≡ bad_input) × (reads_input its ≡ true)) ⊎ ((status ≡ read_fault) × (reads_input its ≡ true)) ⊎ (status ≡ out_of_memory)
    → (status ≡ bad_input) ⊎ (status ≡ read_fault) ⊎ (status ≡ out_of_memory)
plain its status (inl bad) = inl bad.0
plain its status (inr (inl failed)) = inr (inl failed.0)
plain its status (inr (inr short)) = inr (inr short)

generated_refused : (its : Args) (status : ℕ) → ((status ≡ bad_input) × (reads_input its ≡ true)) ⊎ ((status ≡ read_fault) × (reads_input its ≡ true)) ⊎ (status ≡ out_of_memory)
    → reads_input its ≡ false → IsGenStatus status
generated_refused its status (inl bad) alone = absurd (true≢false (sym bad.1 ∙ alone))
generated_refused its status (inr (inl failed)) alone = absurd (true≢false (sym failed.1 ∙ alone))
generated_refused its status (inr (inr short)) alone = inr (inr short)

no_final : {A : Type 0} (status : ℕ) → (status ≡ bad_input) ⊎ (status ≡ read_fault) ⊎ (status ≡ out_of_memory) → IsFinal status → A
no_final status three (inl e) = no_fourth status 2 4 6 0 (λ z. omega arith) (λ z. omega arith) (λ z. omega arith) three e
no_final status three (inr e) = no_fourth status 2 4 6 3 (λ z. omega arith) (λ z. omega arith) (λ z. omega arith) three e

at_most : (status a b c most : ℕ) → a ≤ most → b ≤ most → c ≤ most → (status ≡ a) ⊎ (status ≡ b) ⊎ (status ≡ c) → status ≤ most
at_most status a b c most a_most b_most c_most (inl is) = omega (arith, is, a_most)
at_most status a b c most a_most b_most c_most (inr (inl is)) = omega (arith, is, b_most)
at_most status a b c most a_most b_most c_most (inr (inr is)) = omega (arith, is, c_most)

pub refused_outcome : {S K N : Type 0} (left : S → Option (List ℕ)) (read_faults : S → ℕ) (source source_after : S)
    (written : K → Option (List ℕ)) (write_faults : K → ℕ) (out : K)
    (told_on : N → Option (List ℕ)) (tell_faults : N → ℕ) (err err_after : N)
    (asked : Option Args) (its : Args) (status : ℕ) (order : List ℕ) (given : Refusal) → asked ≡ Some its → order ≡ []
    → IsRefusedBy its given (left source) (left source_after) (read_faults source) (read_faults source_after)
    → Refuses given status (told_on err) (told_on err_after) (tell_faults err) (tell_faults err_after)
    → ReadsWithin (left source) (left source_after) → (reads_input its ≡ false → source_after ≡ source)
    → IsOutcome asked status order left read_faults source source_after written write_faults out out told_on tell_faults err err_after
refused_outcome left read_faults source source_after written write_faults out told_on tell_faults err err_after asked its status order given asked_is no_order cause text within kept = record {
  usage = λ e. no_fourth status 2 4 6 1 (λ z. omega arith) (λ z. omega arith) (λ z. omega arith) three e;
  words = λ none. absurd (none-some its (sym none ∙ asked_is));
  unread = λ e. no_fourth status 2 4 6 1 (λ z. omega arith) (λ z. omega arith) (λ z. omega arith) three e;
  input = λ bad.
      subst (λ (words : Option Args). IfSome words (λ one. IfSome (left source) (λ bytes. (fault : InputFault) × HasFault one bytes fault)))
      (sym asked_is) (refused.input bad);
  judged = refused.judged;
  finished = λ final. no_final status three final;
  end = λ final. no_final status three final;
  generated =
      subst (λ (words : Option Args). IfSome words (λ one. reads_input one ≡ false → (source_after ≡ source) × IsGenStatus status)) (sym asked_is)
      (λ alone. (kept alone, generated_refused its status refused.is_status alone));
  legal = λ final. no_final status three final;
  apart = λ final. no_final status three final;
  read = refused.read;
  write = λ e. no_fourth status 2 4 6 5 (λ z. omega arith) (λ z. omega arith) (λ z. omega arith) three e;
  front = λ e. no_fourth status 2 4 6 5 (λ z. omega arith) (λ z. omega arith) (λ z. omega arith) three e;
  untouched = λ e. refl;
  no_order = λ e. no_order;
  statuses = at_most status 2 4 6 6 (omega arith) (omega arith) (omega arith) three;
  complete = λ lawful. inr (refused_short asked its status _ _ _ _ _ _ _ _ _ _ asked_is refused lawful);
  limit = λ e. within;
  quiet = λ final. no_final status three final;
  told = told_by_words asked its status _ _ _ _ _ asked_is refused.tells;
}
  where
    refused : IsRefused its status (left source) (left source_after) (told_on err) (told_on err_after) (read_faults source) (read_faults source_after) (tell_faults err) (tell_faults err_after)
    refused = refused_by its given status (left source) (left source_after) (told_on err) (told_on err_after) (read_faults source) (read_faults source_after) (tell_faults err) (tell_faults err_after) cause text

    three : (status ≡ bad_input) ⊎ (status ≡ read_fault) ⊎ (status ≡ out_of_memory)
    three = plain its status refused.is_status

-- ---- what was rendered was delivered

-- the three statuses
ended_at : (status answered : ℕ) → IsFinal answered → (status ≡ answered) ⊎ (status ≡ write_fault) → (status ≡ 0) ⊎ (status ≡ 3) ⊎ (status ≡ write_fault)
ended_at status answered (inl zero) (inl is) = inl (is ∙ zero)
ended_at status answered (inr three) (inl is) = inr (inl (is ∙ three))
ended_at status answered final (inr failed) = inr (inr failed)

no_silent : {A : Type 0} (status : ℕ) → (status ≡ 0) ⊎ (status ≡ 3) ⊎ (status ≡ write_fault) → IsSilent status → A
no_silent status three (inl e) = no_fourth status 0 3 5 1 (λ z. omega arith) (λ z. omega arith) (λ z. omega arith) three e
no_silent status three (inr (inl e)) = no_fourth status 0 3 5 2 (λ z. omega arith) (λ z. omega arith) (λ z. omega arith) three e
no_silent status three (inr (inr (inl e))) = no_fourth status 0 3 5 4 (λ z. omega arith) (λ z. omega arith) (λ z. omega arith) three e
no_silent status three (inr (inr (inr e))) = no_fourth status 0 3 5 6 (λ z. omega arith) (λ z. omega arith) (λ z. omega arith) three e

-- what needs no input answers 0
answered_alone : (its : Args) (left : Option (List ℕ)) (order output : List ℕ) (status : ℕ) → reads_input its ≡ false
    → Answers left its order output status → status ≡ 0
answered_alone (args.Run arguments) left order output status alone is = absurd (true≢false alone)
answered_alone (args.Replay arguments) left order output status alone is = absurd (true≢false alone)
answered_alone (args.Gen workers) left order output status alone is = is.sums.status_is
answered_alone args.Watch left order output status alone is = absurd (true≢false alone)
answered_alone args.Asm left order output status alone is = absurd (true≢false alone)
answered_alone args.Disasm left order output status alone is = absurd (true≢false alone)

gen_status : (status answered : ℕ) → answered ≡ 0 → (status ≡ answered) ⊎ (status ≡ write_fault) → IsGenStatus status
gen_status status answered zero (inl is) = inl (is ∙ zero)
gen_status status answered zero (inr failed) = inr (inl failed)

pub delivered_outcome : {S K N : Type 0} (left : S → Option (List ℕ)) (read_faults : S → ℕ) (source source_after : S)
    (written : K → Option (List ℕ)) (write_faults : K → ℕ) (out out_after : K)
    (told_on : N → Option (List ℕ)) (tell_faults : N → ℕ) (err err_after : N)
    (asked : Option Args) (its : Args) (status : ℕ) (order : List ℕ) (rendered : Rendered) → asked ≡ Some its
    → IsMade its (left source) (left source_after) rendered → order ≡ rendered.order → (status ≡ rendered.status) ⊎ (status ≡ write_fault)
    → (status ≢ write_fault → Appends (written out) (written out_after) rendered.output.items)
    → (status ≡ write_fault → AppendsFront (written out) (written out_after) rendered.output.items)
    → (status ≡ write_fault → Rose (write_faults out) (write_faults out_after))
    → (status ≢ write_fault → err_after ≡ err)
    → (status ≡ write_fault → IsTold (codes "write fault") (told_on err) (told_on err_after) (tell_faults err) (tell_faults err_after))
    → ReadsWithin (left source) (left source_after) → (reads_input its ≡ false → source_after ≡ source)
    → length rendered.order < 2 ^ 62 → AreRunsLegal → RunsArePrefixesApart
    → IsOutcome asked status order left read_faults source source_after written write_faults out out_after told_on tell_faults err err_after
delivered_outcome left read_faults source source_after written write_faults out out_after told_on tell_faults err err_after asked its status order rendered asked_is made order_is status_is whole front cause quiet text within kept short runs_legal runs_apart = record {
  usage = λ e. no_fourth status 0 3 5 1 (λ z. omega arith) (λ z. omega arith) (λ z. omega arith) three e;
  words = λ none. absurd (none-some its (sym none ∙ asked_is));
  unread = λ e. no_fourth status 0 3 5 1 (λ z. omega arith) (λ z. omega arith) (λ z. omega arith) three e;
  input = λ e. no_fourth status 0 3 5 2 (λ z. omega arith) (λ z. omega arith) (λ z. omega arith) three e;
  judged = λ e. no_fourth status 0 3 5 2 (λ z. omega arith) (λ z. omega arith) (λ z. omega arith) three e;
  finished = λ final. delivered asked its _ _ _ _ rendered order status asked_is made order_is status_is whole final;
  end = λ final. subst (λ (words : Option Args). IfSome words (λ one. reads_input one ≡ true → IsAtEnd (left source_after))) (sym asked_is) made.end;
  generated =
      subst (λ (words : Option Args). IfSome words (λ one. reads_input one ≡ false → (source_after ≡ source) × IsGenStatus status)) (sym asked_is)
      (λ alone. (kept alone, gen_status status rendered.status (answered_alone its _ _ _ rendered.status alone made.answers) status_is));
  legal = λ final. kept_legal asked its rendered order asked_is order_is short runs_legal;
  apart = λ final. kept_apart asked order runs_apart;
  read = λ e. no_fourth status 0 3 5 4 (λ z. omega arith) (λ z. omega arith) (λ z. omega arith) three e;
  write = cause;
  front = λ failed. broken_off asked its _ _ _ _ rendered order asked_is made order_is (front failed);
  untouched = λ silent. no_silent status three silent;
  no_order = λ silent. no_silent status three silent;
  statuses = at_most status 0 3 5 6 (omega arith) (omega arith) (omega arith) three;
  complete = λ lawful. inl (delivered_lawful asked _ rendered.status status _ _ _ _ final_made status_is cause lawful);
  limit = λ e. within;
  quiet = λ final. quiet (not_write_fault status final);
  told = tells_run asked status rendered.status _ _ _ _ _ status_is final_made text;
}
  where
    final_made : IsFinal rendered.status
    final_made = made_final its (left source) (left source_after) rendered made

    three : (status ≡ 0) ⊎ (status ≡ 3) ⊎ (status ≡ write_fault)
    three = ended_at status rendered.status final_made status_is
