-- The grammar, computed on command lines.
use Rattle.std.proofs.Common.{◌≡◌, [], ◌∷◌, Some, None, replicate, codes, refl, true}
use Rattle.clap.specs.Words.{is_simple_and_free}
use Rattle.model_database.specs.declared.Api.TheVariants.{V630, V500}
use Rattle.model_commands.specs.Grammar.{args_of}
use Rattle.laws_commands.specs.Program.{program}
use Rattle.model_commands.specs.declared.args.Args.TheVariants.{Run, Replay, Gen, Watch, Asm, Disasm}

run_plain : args_of (codes "run" ∷ codes "t" ∷ codes "630" ∷ []) ≡ Some (Run (record { prefix = codes "t"; api = V630; seed = 0; polls = 10000; window = None }))
run_plain = refl

replay_plain : args_of (codes "replay" ∷ codes "t" ∷ codes "630" ∷ []) ≡ Some (Replay (record { prefix = codes "t"; api = V630; seed = 0; polls = 10000; window = None }))
replay_plain = refl

options_joined : args_of (codes "run" ∷ codes "--seed=7" ∷ codes "t" ∷ codes "--polls=1" ∷ codes "630" ∷ []) ≡ Some (Run (record { prefix = codes "t"; api = V630; seed = 7; polls = 1; window = None }))
options_joined = refl

options_apart : args_of (codes "replay" ∷ codes "t" ∷ codes "630" ∷ codes "--polls" ∷ codes "100000" ∷ codes "--seed" ∷ codes "18446744073709551615" ∷ []) ≡ Some (Replay (record { prefix = codes "t"; api = V630; seed = 18446744073709551615; polls = 100000; window = None }))
options_apart = refl

hyphen_alone_is_a_prefix : args_of (codes "run" ∷ codes "-" ∷ codes "630" ∷ []) ≡ Some (Run (record { prefix = codes "-"; api = V630; seed = 0; polls = 10000; window = None }))
hyphen_alone_is_a_prefix = refl

empty_prefix : args_of (codes "run" ∷ codes "" ∷ codes "630" ∷ []) ≡ Some (Run (record { prefix = codes ""; api = V630; seed = 0; polls = 10000; window = None }))
empty_prefix = refl

separator_is_dropped : args_of (codes "run" ∷ codes "--seed" ∷ codes "0" ∷ codes "--" ∷ codes "t" ∷ codes "630" ∷ []) ≡ Some (Run (record { prefix = codes "t"; api = V630; seed = 0; polls = 10000; window = None }))
separator_is_dropped = refl

behind_the_separator_words_are_positional : args_of (codes "run" ∷ codes "--" ∷ codes "--seed=1" ∷ codes "630" ∷ []) ≡ Some (Run (record { prefix = codes "--seed=1"; api = V630; seed = 0; polls = 10000; window = None }))
behind_the_separator_words_are_positional = refl

second_separator_is_positional : args_of (codes "run" ∷ codes "--" ∷ codes "--" ∷ codes "630" ∷ []) ≡ Some (Run (record { prefix = codes "--"; api = V630; seed = 0; polls = 10000; window = None }))
second_separator_is_positional = refl

separator_last : args_of (codes "run" ∷ codes "t" ∷ codes "630" ∷ codes "--" ∷ []) ≡ Some (Run (record { prefix = codes "t"; api = V630; seed = 0; polls = 10000; window = None }))
separator_last = refl

no_words : args_of ([]) ≡ None
no_words = refl

no_command : args_of (codes "--" ∷ []) ≡ None
no_command = refl

unknown_command : args_of (codes "start" ∷ codes "t" ∷ codes "630" ∷ []) ≡ None
unknown_command = refl

gen_plain : args_of (codes "gen" ∷ codes "5" ∷ []) ≡ Some (Gen 5)
gen_plain = refl

gen_most : args_of (codes "gen" ∷ codes "--" ∷ codes "30" ∷ []) ≡ Some (Gen 30)
gen_most = refl

gen_separator_last : args_of (codes "gen" ∷ codes "1" ∷ codes "--" ∷ []) ≡ Some (Gen 1)
gen_separator_last = refl

gen_none : args_of (codes "gen" ∷ []) ≡ None
gen_none = refl

gen_too_few : args_of (codes "gen" ∷ codes "0" ∷ []) ≡ None
gen_too_few = refl

gen_too_many : args_of (codes "gen" ∷ codes "31" ∷ []) ≡ None
gen_too_many = refl

gen_leading_zero : args_of (codes "gen" ∷ codes "05" ∷ []) ≡ None
gen_leading_zero = refl

gen_two : args_of (codes "gen" ∷ codes "5" ∷ codes "5" ∷ []) ≡ None
gen_two = refl

gen_with_an_option : args_of (codes "gen" ∷ codes "--seed=1" ∷ codes "5" ∷ []) ≡ None
gen_with_an_option = refl

gen_with_an_option_behind : args_of (codes "gen" ∷ codes "5" ∷ codes "--seed" ∷ codes "1" ∷ []) ≡ None
gen_with_an_option_behind = refl

watch_plain : args_of (codes "watch" ∷ []) ≡ Some Watch
watch_plain = refl

watch_separator : args_of (codes "watch" ∷ codes "--" ∷ []) ≡ Some Watch
watch_separator = refl

watch_two_separators : args_of (codes "watch" ∷ codes "--" ∷ codes "--" ∷ []) ≡ None
watch_two_separators = refl

watch_with_a_word : args_of (codes "watch" ∷ codes "t" ∷ []) ≡ None
watch_with_a_word = refl

asm_plain : args_of (codes "asm" ∷ []) ≡ Some Asm
asm_plain = refl

asm_with_a_hyphen : args_of (codes "asm" ∷ codes "-" ∷ []) ≡ None
asm_with_a_hyphen = refl

disasm_plain : args_of (codes "disasm" ∷ []) ≡ Some Disasm
disasm_plain = refl

disasm_with_an_option : args_of (codes "disasm" ∷ codes "--seed=1" ∷ []) ≡ None
disasm_with_an_option = refl

disasm_waits_for_a_value : args_of (codes "disasm" ∷ codes "--polls" ∷ []) ≡ None
disasm_waits_for_a_value = refl

command_behind_the_separator : args_of (codes "--" ∷ codes "run" ∷ codes "t" ∷ codes "630" ∷ []) ≡ None
command_behind_the_separator = refl

option_before_the_command : args_of (codes "--seed=1" ∷ codes "run" ∷ codes "t" ∷ codes "630" ∷ []) ≡ None
option_before_the_command = refl

no_places : args_of (codes "run" ∷ []) ≡ None
no_places = refl

no_api : args_of (codes "run" ∷ codes "t" ∷ []) ≡ None
no_api = refl

run_500 : args_of (codes "run" ∷ codes "t" ∷ codes "500" ∷ []) ≡ Some (Run (record { prefix = codes "t"; api = V500; seed = 0; polls = 10000; window = None }))
run_500 = refl

replay_500 : args_of (codes "replay" ∷ codes "t" ∷ codes "--" ∷ codes "500" ∷ []) ≡ Some (Replay (record { prefix = codes "t"; api = V500; seed = 0; polls = 10000; window = None }))
replay_500 = refl

other_api : args_of (codes "run" ∷ codes "t" ∷ codes "510" ∷ []) ≡ None
other_api = refl

longer_api : args_of (codes "run" ∷ codes "t" ∷ codes "0500" ∷ []) ≡ None
longer_api = refl

third_place : args_of (codes "run" ∷ codes "t" ∷ codes "630" ∷ codes "x" ∷ []) ≡ None
third_place = refl

narrowest_window : args_of (codes "run" ∷ codes "t" ∷ codes "630" ∷ codes "--window=1" ∷ []) ≡ Some (Run (record { prefix = codes "t"; api = V630; seed = 0; polls = 10000; window = Some 1 }))
narrowest_window = refl

widest_window : args_of (codes "replay" ∷ codes "--window" ∷ codes "1000000" ∷ codes "t" ∷ codes "500" ∷ []) ≡ Some (Replay (record { prefix = codes "t"; api = V500; seed = 0; polls = 10000; window = Some 1000000 }))
widest_window = refl

no_window : args_of (codes "run" ∷ codes "t" ∷ codes "630" ∷ codes "--window=0" ∷ []) ≡ None
no_window = refl

too_wide : args_of (codes "run" ∷ codes "t" ∷ codes "630" ∷ codes "--window=1000001" ∷ []) ≡ None
too_wide = refl

two_windows : args_of (codes "run" ∷ codes "--window=1" ∷ codes "t" ∷ codes "630" ∷ codes "--window=1" ∷ []) ≡ None
two_windows = refl

window_is_a_hyphen : args_of (codes "run" ∷ codes "t" ∷ codes "630" ∷ codes "--window" ∷ codes "-" ∷ []) ≡ None
window_is_a_hyphen = refl

gen_with_a_window : args_of (codes "gen" ∷ codes "5" ∷ codes "--window=1" ∷ []) ≡ None
gen_with_a_window = refl

unknown_option : args_of (codes "run" ∷ codes "t" ∷ codes "630" ∷ codes "--windows=1" ∷ []) ≡ None
unknown_option = refl

beginning_of_an_option : args_of (codes "run" ∷ codes "t" ∷ codes "630" ∷ codes "--see=1" ∷ []) ≡ None
beginning_of_an_option = refl

longer_than_an_option : args_of (codes "run" ∷ codes "t" ∷ codes "630" ∷ codes "--seeds=1" ∷ []) ≡ None
longer_than_an_option = refl

short_option : args_of (codes "run" ∷ codes "t" ∷ codes "630" ∷ codes "-s" ∷ []) ≡ None
short_option = refl

help : args_of (codes "run" ∷ codes "--help" ∷ []) ≡ None
help = refl

help_word : args_of (codes "help" ∷ []) ≡ None
help_word = refl

version : args_of (codes "--version" ∷ []) ≡ None
version = refl

twice : args_of (codes "run" ∷ codes "--seed=1" ∷ codes "t" ∷ codes "630" ∷ codes "--seed" ∷ codes "1" ∷ []) ≡ None
twice = refl

value_missing : args_of (codes "run" ∷ codes "t" ∷ codes "630" ∷ codes "--polls" ∷ []) ≡ None
value_missing = refl

value_is_the_separator : args_of (codes "run" ∷ codes "t" ∷ codes "630" ∷ codes "--polls" ∷ codes "--" ∷ codes "1" ∷ []) ≡ None
value_is_the_separator = refl

value_is_a_hyphen : args_of (codes "run" ∷ codes "t" ∷ codes "630" ∷ codes "--seed" ∷ codes "-" ∷ []) ≡ None
value_is_a_hyphen = refl

value_is_an_option : args_of (codes "run" ∷ codes "t" ∷ codes "630" ∷ codes "--seed" ∷ codes "--polls=1" ∷ []) ≡ None
value_is_an_option = refl

value_is_empty : args_of (codes "run" ∷ codes "t" ∷ codes "630" ∷ codes "--seed=" ∷ []) ≡ None
value_is_empty = refl

value_has_a_sign : args_of (codes "run" ∷ codes "t" ∷ codes "630" ∷ codes "--seed=+1" ∷ []) ≡ None
value_has_a_sign = refl

value_is_negative : args_of (codes "run" ∷ codes "t" ∷ codes "630" ∷ codes "--seed=-1" ∷ []) ≡ None
value_is_negative = refl

value_has_a_leading_zero : args_of (codes "run" ∷ codes "t" ∷ codes "630" ∷ codes "--polls=01" ∷ []) ≡ None
value_has_a_leading_zero = refl

seed_too_big : args_of (codes "run" ∷ codes "t" ∷ codes "630" ∷ codes "--seed=18446744073709551616" ∷ []) ≡ None
seed_too_big = refl

no_polls : args_of (codes "run" ∷ codes "t" ∷ codes "630" ∷ codes "--polls=0" ∷ []) ≡ None
no_polls = refl

too_many_polls : args_of (codes "run" ∷ codes "t" ∷ codes "630" ∷ codes "--polls=100001" ∷ []) ≡ None
too_many_polls = refl

-- a prefix has at most 1,000 bytes
longest_prefix : args_of (codes "run" ∷ replicate 1000 97 ∷ codes "630" ∷ []) ≡ Some (Run (record { prefix = replicate 1000 97; api = V630; seed = 0; polls = 10000; window = None }))
longest_prefix = refl

longer_prefix : args_of (codes "run" ∷ replicate 1001 97 ∷ codes "630" ∷ []) ≡ None
longer_prefix = refl

-- the command is one of which `clap` states what it answers
program_is_simple : is_simple_and_free program ≡ true
program_is_simple = refl
