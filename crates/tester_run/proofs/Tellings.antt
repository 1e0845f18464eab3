-- What the parts of the top call tell on err.
use Rattle.std.proofs.Common.{◌≡◌, ℕ, true, false, ap, List, Option, Some, None, ◌++◌, refl, sym, append_assoc, ◌∙◌, subst, inl, inr, ◌⊎◌, ⊎_elim, arith}
use Rattle.std.specs.Prelude.{IfSome, codes}
use Rattle.outside.specs.Counts.{Rose}
use Rattle.std.proofs.lemmas.Option.{same_Some}
use Rattle.model_commands.specs.declared.args.Args.{Args}
use Rattle.command_words.specs.declared.fault.ArgFault.{ArgFault}
use Rattle.command_words.specs.declared.fault.ArgFault.TheVariants as arg
use Rattle.tester_run.specs.Arguments.{reads_input}
use Rattle.tester_run.specs.Faults.{InputFault, HasFault}
use Rattle.tester_run.specs.Answering.{IsFaulty, IsRefusedBy}
use Rattle.tester_run.specs.Inputs.{IsReadOut}
use Rattle.tester_run.specs.Outcomes.{IsLawful}
use Rattle.tester_run.specs.Refusals.{line_in, order_in, pair_in, IsFaultLine, IsLineOf, IsShort, IsUnasked, Refuses}
use Rattle.tester_run.specs.Statuses.{usage, bad_input, read_fault, write_fault, out_of_memory, IsFinal}
use Rattle.tester_run.specs.Tellings.{told, IsFaultTold, IsTold, IsWritten, Tells}
use Rattle.tester_run.specs.declared.fault.Refusal.{Refusal}
use Rattle.tester_run.specs.declared.fault.Refusal.TheVariants as refusal

-- a status is no other one
pub other : {A : Type 0} (status n m : ℕ) → (n ≡ m → ⊥) → status ≡ n → status ≡ m → A
other status n m apart is e = absurd (apart (sym is ∙ e))

pub tells_words : (asked : Option Args) (status : ℕ) (left before after : Option (List ℕ)) (faults faults_after : ℕ) → status ≡ usage
    → IsTold (codes "usage") before after faults faults_after → Tells asked status left before after faults faults_after
tells_words asked status left before after faults faults_after is text = record {
  words = λ e. text;
  input = λ e. other status 1 2 (λ h. omega arith) is e;
  read = λ e. other status 1 4 (λ h. omega arith) is e;
  write = λ e. other status 1 5 (λ h. omega arith) is e;
  memory = λ e. other status 1 6 (λ h. omega arith) is e;
}

pub tells_input : (asked : Option Args) (status : ℕ) (left before after : Option (List ℕ)) (faults faults_after : ℕ) → status ≡ bad_input
    → IfSome asked (λ its. IsFaultTold its left before after faults faults_after) → Tells asked status left before after faults faults_after
tells_input asked status left before after faults faults_after is text = record {
  words = λ e. other status 2 1 (λ h. omega arith) is e;
  input = λ e. text;
  read = λ e. other status 2 4 (λ h. omega arith) is e;
  write = λ e. other status 2 5 (λ h. omega arith) is e;
  memory = λ e. other status 2 6 (λ h. omega arith) is e;
}

pub tells_read : (asked : Option Args) (status : ℕ) (left before after : Option (List ℕ)) (faults faults_after : ℕ) → status ≡ read_fault
    → IsTold (codes "read fault") before after faults faults_after → Tells asked status left before after faults faults_after
tells_read asked status left before after faults faults_after is text = record {
  words = λ e. other status 4 1 (λ h. omega arith) is e;
  input = λ e. other status 4 2 (λ h. omega arith) is e;
  read = λ e. text;
  write = λ e. other status 4 5 (λ h. omega arith) is e;
  memory = λ e. other status 4 6 (λ h. omega arith) is e;
}

pub tells_memory : (asked : Option Args) (status : ℕ) (left before after : Option (List ℕ)) (faults faults_after : ℕ) → status ≡ out_of_memory
    → IsTold (codes "out of memory") before after faults faults_after → Tells asked status left before after faults faults_after
tells_memory asked status left before after faults faults_after is text = record {
  words = λ e. other status 6 1 (λ h. omega arith) is e;
  input = λ e. other status 6 2 (λ h. omega arith) is e;
  read = λ e. other status 6 4 (λ h. omega arith) is e;
  write = λ e. other status 6 5 (λ h. omega arith) is e;
  memory = λ e. text;
}

-- a run that was made: only the sink's fault is told
pub tells_run : (asked : Option Args) (status run_status : ℕ) (left before after : Option (List ℕ)) (faults faults_after : ℕ)
    → (status ≡ run_status) ⊎ (status ≡ write_fault) → IsFinal run_status
    → (status ≡ write_fault → IsTold (codes "write fault") before after faults faults_after)
    → Tells asked status left before after faults faults_after
tells_run asked status run_status left before after faults faults_after (inr is) final text = record {
  words = λ e. other status 5 1 (λ h. omega arith) is e;
  input = λ e. other status 5 2 (λ h. omega arith) is e;
  read = λ e. other status 5 4 (λ h. omega arith) is e;
  write = text;
  memory = λ e. other status 5 6 (λ h. omega arith) is e;
}
tells_run asked status run_status left before after faults faults_after (inl is) (inl zero) text = record {
  words = λ e. other status 0 1 (λ h. omega arith) (is ∙ zero) e;
  input = λ e. other status 0 2 (λ h. omega arith) (is ∙ zero) e;
  read = λ e. other status 0 4 (λ h. omega arith) (is ∙ zero) e;
  write = text;
  memory = λ e. other status 0 6 (λ h. omega arith) (is ∙ zero) e;
}
tells_run asked status run_status left before after faults faults_after (inl is) (inr three) text = record {
  words = λ e. other status 3 1 (λ h. omega arith) (is ∙ three) e;
  input = λ e. other status 3 2 (λ h. omega arith) (is ∙ three) e;
  read = λ e. other status 3 4 (λ h. omega arith) (is ∙ three) e;
  write = text;
  memory = λ e. other status 3 6 (λ h. omega arith) (is ∙ three) e;
}

-- what holds where nothing was rendered of what was asked
pub record IsRefused (its : Args) (status : ℕ) (left after before_err after_err : Option (List ℕ)) (at_first at_last faults faults_after : ℕ) : Type 0 where
  pub is_status : ((status ≡ bad_input) × (reads_input its ≡ true)) ⊎ ((status ≡ read_fault) × (reads_input its ≡ true)) ⊎ (status ≡ out_of_memory)
  pub input : status ≡ bad_input → IfSome left (λ bytes. (fault : InputFault) × HasFault its bytes fault)
  pub judged : status ≡ bad_input → IsReadOut left after
  pub read : status ≡ read_fault → Rose at_first at_last
  pub tells : Tells (Some its) status left before_err after_err faults faults_after

short_refused : (its : Args) (status : ℕ) (left after before_err after_err : Option (List ℕ)) (at_first at_last faults faults_after : ℕ)
    → IsShort status before_err after_err faults faults_after
    → IsRefused its status left after before_err after_err at_first at_last faults faults_after
short_refused its status left after before_err after_err at_first at_last faults faults_after h = record {
  is_status = inr (inr h.is_status);
  input = λ e. other status 6 2 (λ z. omega arith) h.is_status e;
  judged = λ e. other status 6 2 (λ z. omega arith) h.is_status e;
  read = λ e. other status 6 4 (λ z. omega arith) h.is_status e;
  tells = tells_memory (Some its) status left before_err after_err faults faults_after h.is_status h.is_told;
}

has_one : (its : Args) (fault : InputFault) (left : Option (List ℕ)) → IfSome left (λ bytes. HasFault its bytes fault)
    → IfSome left (λ bytes. (found : InputFault) × HasFault its bytes found)
has_one its fault None has = tt
has_one its fault (Some bytes) has = (fault, has)

no_fault : {A : Type 0} (its : Args) (bytes : List ℕ) → IsLineOf None bytes → A
no_fault its bytes is = absurd is

-- the line of a fault was told
fault_refused : (its : Args) (fault : Option InputFault) (status : ℕ) (left after before_err after_err : Option (List ℕ))
    (at_first at_last faults faults_after : ℕ)
    → reads_input its ≡ true → IsFaulty its fault left after → IsFaultLine fault status before_err after_err faults faults_after
    → IsRefused its status left after before_err after_err at_first at_last faults faults_after
fault_refused its None status left after before_err after_err at_first at_last faults faults_after reads faulty (inl h) =
    no_fault its h.1 h.2
fault_refused its (Some fault) status left after before_err after_err at_first at_last faults faults_after reads faulty (inl h) = record {
  is_status = inl (h.0, reads);
  input = λ e. has_one its fault left faulty.fault_is;
  judged = λ e. faulty.out;
  read = λ e. other status 2 4 (λ z. omega arith) h.0 e;
  tells =
      tells_input (Some its) status left before_err after_err faults faults_after h.0 (record {
        fault = fault;
        fault_is = faulty.fault_is;
        is_told = subst (λ (b : List ℕ). IsWritten b before_err after_err faults faults_after) h.2 h.3;
      });
}
fault_refused its fault status left after before_err after_err at_first at_last faults faults_after reads faulty (inr h) =
    short_refused its status left after before_err after_err at_first at_last faults faults_after h

pub refused_by : (its : Args) (given : Refusal) (status : ℕ) (left after before_err after_err : Option (List ℕ))
    (at_first at_last faults faults_after : ℕ)
    → IsRefusedBy its given left after at_first at_last → Refuses given status before_err after_err faults faults_after
    → IsRefused its status left after before_err after_err at_first at_last faults faults_after
refused_by its refusal.Source status left after before_err after_err at_first at_last faults faults_after given h = record {
  is_status = inr (inl (h.0, given.reads (λ e. cc)));
  input = λ e. other status 4 2 (λ z. omega arith) h.0 e;
  judged = λ e. other status 4 2 (λ z. omega arith) h.0 e;
  read = λ e. given.cause;
  tells = tells_read (Some its) status left before_err after_err faults faults_after h.0 h.1;
}
refused_by its (refusal.Line fault) status left after before_err after_err at_first at_last faults faults_after given h =
    fault_refused its (line_in fault) status left after before_err after_err at_first at_last faults faults_after (given.reads (λ e. cc)) given.cause h
refused_by its (refusal.Order fault) status left after before_err after_err at_first at_last faults faults_after given h =
    fault_refused its (order_in fault) status left after before_err after_err at_first at_last faults faults_after (given.reads (λ e. cc)) given.cause h
refused_by its (refusal.Pair fault) status left after before_err after_err at_first at_last faults faults_after given h =
    fault_refused its (pair_in fault) status left after before_err after_err at_first at_last faults faults_after (given.reads (λ e. cc)) given.cause h
refused_by its refusal.Memory status left after before_err after_err at_first at_last faults faults_after given h =
    short_refused its status left after before_err after_err at_first at_last faults faults_after h

-- lawful words and a lawful input are refused for want of memory alone
pub refused_short : (words : Option Args) (its : Args) (status : ℕ) (left after before_err after_err : Option (List ℕ))
    (at_first at_last faults faults_after written written_after : ℕ) → words ≡ Some its
    → IsRefused its status left after before_err after_err at_first at_last faults faults_after
    → IsLawful words left at_first at_last written written_after → status ≡ out_of_memory
refused_short words its status left after before_err after_err at_first at_last faults faults_after written written_after is refused lawful =
    ⊎_elim
    (λ bad.
    let whole = lawful.input (ap reads_input (sym same) ∙ bad.1) in
    let found = subst (λ (l : Option (List ℕ)). IfSome l (λ bytes. (fault : InputFault) × HasFault its bytes fault)) whole.told
    (refused.input bad.0) in
    absurd (whole.faultless found.0 (subst (λ (a : Args). HasFault a whole.bytes found.0) same found.1)))
    (⊎_elim (λ failed. absurd ((lawful.input (ap reads_input (sym same) ∙ failed.1)).read (refused.read failed.0))) (λ short. short))
    refused.is_status
  where
    same : its ≡ lawful.its_args
    same = same_Some its lawful.its_args (sym is ∙ lawful.words)

-- what was told by the words
pub told_by_words : (words : Option Args) (its : Args) (status : ℕ) (left before after : Option (List ℕ)) (faults faults_after : ℕ)
    → words ≡ Some its → Tells (Some its) status left before after faults faults_after
    → Tells words status left before after faults faults_after
told_by_words words its status left before after faults faults_after is tells =
    subst (λ (w : Option Args). Tells w status left before after faults faults_after) (sym is) tells

pub usage_told : (fault : ArgFault) (status : ℕ) (before after : Option (List ℕ)) (faults faults_after : ℕ) → fault ≡ arg.Usage
    → status ≡ usage → IsTold (codes "usage") before after faults faults_after → IsUnasked fault status before after faults faults_after
usage_told fault status before after faults faults_after is status_is text =
    subst (λ (f : ArgFault). IsUnasked f status before after faults faults_after) (sym is) (status_is, text)

-- ---- the text of a place of an order

pub order_text : (place machine : List ℕ)
    → codes "fdbtester: order place " ++ place ++ codes ": machine " ++ machine ++ codes " has no request\n"
    ≡ told (codes "order place " ++ place ++ codes ": machine " ++ machine ++ codes " has no request")
order_text place machine =
    sym (append_assoc (codes "fdbtester: order place " ++ place ++ codes ": machine " ++ machine) (codes " has no request") (codes "\n"))
