use Rattle.std.proofs.Common.{◌∙◌, map, ap, subst, IsUtf8}
use Rattle.command_words.proofs.Texts.{same_more, utf8_more}
use Rattle.command_words.proofs.args.ArgWords.texts.Goals as goal

pub loop-word-preserved : goal.loop-word-preserved
loop-word-preserved c =
    let words = c.deref-word-items.result.now in
    record {
      same = ap (map (λ text. text.now)) c.in_ok-push.ensures.items
          ∙ same_more c.loop-word.texts.items c.as_str.result words c.loop-word.word-index c.word-item.result c.loop-word-test.true c.word-item.is c.as_str.ensures
          c.loop-word.invariant.same;
      utf8 = utf8_more words c.loop-word.word-index c.word-item.result c.loop-word-test.true c.word-item.is c.loop-word.invariant.utf8
          (subst IsUtf8 c.as_str.ensures c.as_str.utf8);
    }
