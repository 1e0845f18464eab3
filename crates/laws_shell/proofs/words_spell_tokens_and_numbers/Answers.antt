use Rattle.laws_shell.proofs.Reading.{numbers_told, spelled_once, tokens_told, words_told}
use Rattle.laws_shell.proofs.words_spell_tokens_and_numbers.Goals as goal

pub returns-clause-words : goal.returns-clause-words
returns-clause-words c = words_told

pub returns-clause-tokens : goal.returns-clause-tokens
returns-clause-tokens c = tokens_told

pub returns-clause-once : goal.returns-clause-once
returns-clause-once c = spelled_once

pub returns-clause-numbers : goal.returns-clause-numbers
returns-clause-numbers c = numbers_told
