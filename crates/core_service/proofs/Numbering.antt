-- Machines are numbered in the order in which their starts were answered.
use Rattle.std.proofs.Common.{◌≡◌, ℕ, zero, suc, ◌+◌, ◌<◌, Bool, true, false, List, [], ◌∷◌, ◌++◌, length, Option, Some, None, refl, sym, ap, subst, ◌∙◌, append_assoc, length-append, arith}
use Rattle.std.specs.Prelude.{flat_map, nat_lt, slice_get}
use Rattle.std.proofs.lemmas.List.{append-nil}
use Rattle.std.proofs.lemmas.Grind.{flat_map-append}
use Rattle.directory_types.specs.declared.Layer.{Layer}
use Rattle.directory_types.specs.declared.DirArgs.{DirArgs}
use Rattle.directory_types.specs.declared.DirKind.{DirKind}
use Rattle.fdb_calls.specs.declared.Request.{Request}
use Rattle.fdb_calls.specs.declared.Request.TheVariants as request
use Rattle.fdb_calls.specs.declared.Reply.{Reply}
use Rattle.fdb_calls.specs.declared.Reply.TheVariants as reply
use Rattle.model_commands.specs.declared.args.RunArgs.{RunArgs}
use Rattle.client_core.proofs.Steps.{directory_started, step_started}
use Rattle.model_machine.specs.declared.MachineOptions.{MachineOptions}
use Rattle.model_machine.specs.declared.TheConstants.{MACHINES}
use Rattle.model_machine.specs.Worlds.{World, Stepped, begun, instruction_pairs, newest, start_by, step}
use Rattle.model_machine.specs.Machines.{Progress, silent}
use Rattle.model_machine.specs.Runs.{at_rest, machine_options, start, start_prefix, started, started_by}
use Rattle.laws_threads.specs.Weaving.{Place, AreSteps, all_begun, started_at}

-- the number of the machine that a reply says was started
abbrev number_in : Reply → ℕ
number_in (reply.Started number pairs) = number
number_in given = 0

-- ---- one place

none_more : (before after : List (List ℕ)) → after ≡ before → length after ≡ length before + 0
none_more before after same = omega (arith, ap length same)

-- one machine more, where a start was answered so, and else none
start_counts : (room : Bool) (world : World) (prefix : List ℕ) (options : MachineOptions) (given : Reply) → (start_by room world prefix).reply ≡ given
    → length (start_by room world prefix).world.started ≡ length world.started + length (started_by (Some prefix) options given)
start_counts true world prefix options given is =
    length-append world.started (prefix ∷ [])
    ∙ ap (λ (r : Reply). length world.started + length (started_by (Some prefix) options r)) is
start_counts false world prefix options given is =
    none_more world.started world.started refl
    ∙ ap (λ (r : Reply). length world.started + length (started_by (Some prefix) options r)) is

start_place : (world : World) (options : MachineOptions) (prefix : List ℕ) (given : Reply) → (step world (request.Start prefix)).reply ≡ given
    → length (step world (request.Start prefix)).world.started ≡ length world.started + length (started_by (Some prefix) options given)
unfolding step
start_place world options prefix given is = start_counts (nat_lt (length world.started) MACHINES) world prefix options given is

directory_place : (world : World) (name : Option (List ℕ)) (layer : Layer) (kind : DirKind) (args : DirArgs)
    → (step world (request.Directory name layer kind args)).world.started ≡ world.started
unfolding step
directory_place world name layer kind args = directory_started world name layer kind args

place_counts : (world : World) (options : MachineOptions) (asked : Request) (given : Reply) → (step world asked).reply ≡ given
    → length (step world asked).world.started ≡ length world.started + length (started_by (start_prefix asked) options given)
place_counts world options (request.Start prefix) given is = start_place world options prefix given is
place_counts world options (request.New name) given is = none_more world.started _ (step_started world (request.New name) tt)
place_counts world options (request.On name its_call) given is = none_more world.started _ (step_started world (request.On name its_call) tt)
place_counts world options (request.Database its_call) given is = none_more world.started _ (step_started world (request.Database its_call) tt)
place_counts world options (request.Directory name layer kind args) given is =
    none_more world.started _ (directory_place world name layer kind args)
place_counts world options (request.Log prefix entries) given is =
    none_more world.started _ (step_started world (request.Log prefix entries) tt)
place_counts world options (request.PollStamp life) given is = none_more world.started _ (step_started world (request.PollStamp life) tt)
place_counts world options (request.PollEmpty prefix) given is =
    none_more world.started _ (step_started world (request.PollEmpty prefix) tt)

-- ---- places

by_room : (room : Bool) (world : World) (prefix : List ℕ) (number : ℕ) (pairs : List (List ℕ × List ℕ))
    → (start_by room world prefix).reply ≡ reply.Started number pairs → number ≡ length world.started
by_room true world prefix number pairs is = sym (ap number_in is)
by_room false world prefix number pairs is = absurd cc

start_numbered : (world : World) (prefix : List ℕ) (number : ℕ) (pairs : List (List ℕ × List ℕ))
    → (step world (request.Start prefix)).reply ≡ reply.Started number pairs → number ≡ length world.started
unfolding step
start_numbered world prefix number pairs is = by_room (nat_lt (length world.started) MACHINES) world prefix number pairs is

-- a start that was answered so has the number of machines that were started before it
numbered_from : (front rest : List Place) (place : Place) (world last : World) (options : MachineOptions) (machines : List Progress) (prefix : List ℕ)
    (number : ℕ) (pairs : List (List ℕ × List ℕ)) → length machines ≡ length world.started → AreSteps world (front ++ place ∷ rest) last
    → place.request ≡ request.Start prefix → place.reply ≡ reply.Started number pairs
    → number ≡ length (machines ++ flat_map (started_at options) front)
numbered_from [] rest place world last options machines prefix number pairs as_many steps asks given =
    start_numbered world prefix number pairs (ap (λ (r : Request). (step world r).reply) (sym asks) ∙ steps.0 ∙ given)
    ∙ sym as_many ∙ ap length (sym (append-nil machines))
numbered_from (first ∷ front) rest place world last options machines prefix number pairs as_many steps asks given =
    numbered_from front rest place (step world first.request).world last options (machines ++ started_at options first) prefix number pairs
    (length-append machines (started_at options first) ∙ ap (λ n. n + length (started_at options first)) as_many
    ∙ sym (place_counts world options first.request first.reply steps.0))
    steps.1 asks given
    ∙ ap length (append_assoc machines (started_at options first) (flat_map (started_at options) front))

-- so it is the machine of that number
at_seam : (xs : List Progress) (x : Progress) (ys : List Progress) → slice_get (xs ++ x ∷ ys) (length xs) ≡ Some x
at_seam [] x ys = refl
at_seam (y ∷ xs) x ys = at_seam xs x ys

-- A machine that was started at one of these places, as its reply says, is the one of its number.
pub record IsNumbered (pairs : List (List ℕ × List ℕ)) (arguments : RunArgs) (front places : List Place) (prefix : List ℕ) (number : ℕ)
    (instructions : List (List ℕ × List ℕ)) : Type 0 where
  pub number_is : number ≡ length (all_begun pairs arguments front)
  pub there : slice_get (all_begun pairs arguments places) number
      ≡ Some (at_rest (silent (started number prefix (machine_options arguments) instructions)))

pub numbered : (pairs : List (List ℕ × List ℕ)) (arguments : RunArgs) (front rest : List Place) (place : Place) (last : World)
    (prefix : List ℕ) (number : ℕ) (instructions : List (List ℕ × List ℕ))
    → AreSteps (begun pairs arguments) (front ++ place ∷ rest) last → place.request ≡ request.Start prefix
    → place.reply ≡ reply.Started number instructions
    → IsNumbered pairs arguments front (front ++ place ∷ rest) prefix number instructions
numbered pairs arguments front rest place last prefix number instructions steps asks given =
    let machines = (start pairs arguments).machines in
    let options = machine_options arguments in
    let number_is = numbered_from front rest place (begun pairs arguments) last options machines prefix number instructions refl steps asks given in
    let its_machine = at_rest (silent (started number prefix options instructions)) in
    let later = flat_map (started_at options) rest in
    let parts : all_begun pairs arguments (front ++ place ∷ rest) ≡ all_begun pairs arguments front ++ its_machine ∷ later =
    ap (λ (more : List Progress). machines ++ more)
    (flat_map-append (started_at options) front (place ∷ rest)
    ∙ (λ i. flat_map (started_at options) front ++ (started_by (start_prefix (asks i)) options (given i) ++ later)))
    ∙ sym (append_assoc machines (flat_map (started_at options) front) (its_machine ∷ later)) in
    record {
      number_is = number_is;
      there = (λ i. slice_get (parts i) (number_is i)) ∙ at_seam (all_begun pairs arguments front) its_machine later;
    }
