use Rattle.std.proofs.Common.{◌≡◌, map, take}
use Rattle.laws_commands.specs.Found.{EachUtf8}
use Rattle.command_words.proofs.args.ArgWords.texts.Given as goal

abbrev pub invariant-loop-word : goal.invariant-loop-word
invariant-loop-word l = record {
  same : map (λ text. text.now) l.texts.items ≡ take l.word-index l.word-items;
  utf8 : EachUtf8 (take l.word-index l.word-items);
}
