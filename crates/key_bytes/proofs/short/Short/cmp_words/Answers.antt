use Rattle.std.proofs.Common.{sym, ◌∙◌}
use Rattle.key_bytes.proofs.Words.{HasWords, differs, ties, first_words_decide, second_words_decide, sixteen_same, third_words_decide, lengths_decide}
use Rattle.key_bytes.proofs.short.Short.cmp_words.Goals as goal

pub returns-then-is_ne : goal.returns-then-is_ne
returns-then-is_ne c =
    let words : HasWords 0 c.word_at.result c.word_at-2.result c.self.inside.room c.other.inside.room = record {
      first_is = c.word_at.ensures.word;
      second_is = c.word_at-2.ensures.word;
      first_bytes = c.word_at.ensures.bytes;
      second_bytes = c.word_at-2.ensures.bytes;
      first_eight = c.word_at.ensures.eight;
      second_eight = c.word_at-2.ensures.eight;
    } in
    rw (sym c.self.view_is, sym c.other.view_is) (
    first_words_decide c.self.inside.len c.other.inside.len c.word_at.result c.word_at-2.result c.self.inside.room c.other.inside.room c.cmp-first.result
    (c.word_at.ensures.whole ∙ sym c.word_at-2.ensures.whole) c.self.invariant.zeros c.other.invariant.zeros words c.cmp-first.ensures
    (differs c.cmp-first.result (sym c.is_ne.ensures ∙ c.if-is_ne.true)))

pub returns-then-is_ne-2 : goal.returns-then-is_ne-2
returns-then-is_ne-2 c =
    let words : HasWords 0 c.word_at.result c.word_at-2.result c.self.inside.room c.other.inside.room = record {
      first_is = c.word_at.ensures.word;
      second_is = c.word_at-2.ensures.word;
      first_bytes = c.word_at.ensures.bytes;
      second_bytes = c.word_at-2.ensures.bytes;
      first_eight = c.word_at.ensures.eight;
      second_eight = c.word_at-2.ensures.eight;
    } in
    let later : HasWords 8 c.word_at-3.result c.word_at-4.result c.self.inside.room c.other.inside.room = record {
      first_is = c.word_at-3.ensures.word;
      second_is = c.word_at-4.ensures.word;
      first_bytes = c.word_at-3.ensures.bytes;
      second_bytes = c.word_at-4.ensures.bytes;
      first_eight = c.word_at-3.ensures.eight;
      second_eight = c.word_at-4.ensures.eight;
    } in
    let same = sym c.cmp-first.ensures ∙ ties c.cmp-first.result (sym c.is_ne.ensures ∙ c.if-is_ne.false) in
    rw (sym c.self.view_is, sym c.other.view_is) (
    second_words_decide c.self.inside.len c.other.inside.len c.word_at.result c.word_at-2.result c.word_at-3.result c.word_at-4.result
    c.self.inside.room c.other.inside.room c.cmp-second.result
    (c.word_at.ensures.whole ∙ sym c.word_at-2.ensures.whole) c.self.invariant.zeros c.other.invariant.zeros words same later c.cmp-second.ensures
    (differs c.cmp-second.result (sym c.is_ne-2.ensures ∙ c.if-is_ne-2.true)))

pub returns-then-is_ne-3 : goal.returns-then-is_ne-3
returns-then-is_ne-3 c =
    let words : HasWords 0 c.word_at.result c.word_at-2.result c.self.inside.room c.other.inside.room = record {
      first_is = c.word_at.ensures.word;
      second_is = c.word_at-2.ensures.word;
      first_bytes = c.word_at.ensures.bytes;
      second_bytes = c.word_at-2.ensures.bytes;
      first_eight = c.word_at.ensures.eight;
      second_eight = c.word_at-2.ensures.eight;
    } in
    let later : HasWords 8 c.word_at-3.result c.word_at-4.result c.self.inside.room c.other.inside.room = record {
      first_is = c.word_at-3.ensures.word;
      second_is = c.word_at-4.ensures.word;
      first_bytes = c.word_at-3.ensures.bytes;
      second_bytes = c.word_at-4.ensures.bytes;
      first_eight = c.word_at-3.ensures.eight;
      second_eight = c.word_at-4.ensures.eight;
    } in
    let last : HasWords 14 c.word_at-5.result c.word_at-6.result c.self.inside.room c.other.inside.room = record {
      first_is = c.word_at-5.ensures.word;
      second_is = c.word_at-6.ensures.word;
      first_bytes = c.word_at-5.ensures.bytes;
      second_bytes = c.word_at-6.ensures.bytes;
      first_eight = c.word_at-5.ensures.eight;
      second_eight = c.word_at-6.ensures.eight;
    } in
    let same = sym c.cmp-first.ensures ∙ ties c.cmp-first.result (sym c.is_ne.ensures ∙ c.if-is_ne.false) in
    let same_later = sym c.cmp-second.ensures ∙ ties c.cmp-second.result (sym c.is_ne-2.ensures ∙ c.if-is_ne-2.false) in
    let sixteen = sixteen_same c.word_at.result c.word_at-2.result c.word_at-3.result c.word_at-4.result
    c.self.inside.room c.other.inside.room words same later same_later in
    rw (sym c.self.view_is, sym c.other.view_is) (
    third_words_decide c.self.inside.len c.other.inside.len c.word_at-5.result c.word_at-6.result c.self.inside.room c.other.inside.room
    c.cmp-third.result
    (c.word_at.ensures.whole ∙ sym c.word_at-2.ensures.whole) c.self.invariant.zeros c.other.invariant.zeros sixteen last
    c.cmp-third.ensures (differs c.cmp-third.result (sym c.is_ne-3.ensures ∙ c.if-is_ne-3.true)))

pub returns : goal.returns
returns c =
    let words : HasWords 0 c.word_at.result c.word_at-2.result c.self.inside.room c.other.inside.room = record {
      first_is = c.word_at.ensures.word;
      second_is = c.word_at-2.ensures.word;
      first_bytes = c.word_at.ensures.bytes;
      second_bytes = c.word_at-2.ensures.bytes;
      first_eight = c.word_at.ensures.eight;
      second_eight = c.word_at-2.ensures.eight;
    } in
    let later : HasWords 8 c.word_at-3.result c.word_at-4.result c.self.inside.room c.other.inside.room = record {
      first_is = c.word_at-3.ensures.word;
      second_is = c.word_at-4.ensures.word;
      first_bytes = c.word_at-3.ensures.bytes;
      second_bytes = c.word_at-4.ensures.bytes;
      first_eight = c.word_at-3.ensures.eight;
      second_eight = c.word_at-4.ensures.eight;
    } in
    let last : HasWords 14 c.word_at-5.result c.word_at-6.result c.self.inside.room c.other.inside.room = record {
      first_is = c.word_at-5.ensures.word;
      second_is = c.word_at-6.ensures.word;
      first_bytes = c.word_at-5.ensures.bytes;
      second_bytes = c.word_at-6.ensures.bytes;
      first_eight = c.word_at-5.ensures.eight;
      second_eight = c.word_at-6.ensures.eight;
    } in
    let same = sym c.cmp-first.ensures ∙ ties c.cmp-first.result (sym c.is_ne.ensures ∙ c.if-is_ne.false) in
    let same_later = sym c.cmp-second.ensures ∙ ties c.cmp-second.result (sym c.is_ne-2.ensures ∙ c.if-is_ne-2.false) in
    let sixteen = sixteen_same c.word_at.result c.word_at-2.result c.word_at-3.result c.word_at-4.result
    c.self.inside.room c.other.inside.room words same later same_later in
    let same_last = sym c.cmp-third.ensures ∙ ties c.cmp-third.result (sym c.is_ne-3.ensures ∙ c.if-is_ne-3.false) in
    rw (sym c.self.view_is, sym c.other.view_is) (
    lengths_decide c.self.inside.len c.other.inside.len c.word_at-5.result c.word_at-6.result c.self.inside.room c.other.inside.room
    c.cmp.result c.word_at.ensures.whole c.word_at-2.ensures.whole c.self.invariant.within c.other.invariant.within
    sixteen last same_last c.cmp.ensures)
