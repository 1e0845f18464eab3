use Rattle.std.proofs.Common.{sym, ◌∙◌}
use Rattle.key_bytes.proofs.Words.{HasWords, differs, first_words_decide}
use Rattle.key_bytes.proofs.short.Short.cmp.Goals as goal

pub returns-then-is_ne : goal.returns-then-is_ne
returns-then-is_ne c =
    let words : HasWords 0 c.word_at.result c.word_at-2.result c.self.inside.room c.other.inside.room = record {
      first_is = c.word_at.ensures.word;
      second_is = c.word_at-2.ensures.word;
      first_bytes = c.word_at.ensures.bytes;
      second_bytes = c.word_at-2.ensures.bytes;
      first_eight = c.word_at.ensures.eight;
      second_eight = c.word_at-2.ensures.eight;
    } in
    rw (sym c.self.view_is, sym c.other.view_is) (
    first_words_decide c.self.inside.len c.other.inside.len c.word_at.result c.word_at-2.result c.self.inside.room c.other.inside.room c.cmp-first.result
    (c.word_at.ensures.whole ∙ sym c.word_at-2.ensures.whole) c.self.invariant.zeros c.other.invariant.zeros words c.cmp-first.ensures
    (differs c.cmp-first.result (sym c.is_ne.ensures ∙ c.if-is_ne.true)))
