use Rattle.std.proofs.Common.{◌≡◌, ℕ, suc, ◌+◌, sym, ap, ◌∙◌, arith}
use Rattle.outside.specs.Seeds.{words_from}
use Rattle.rand_pcg.specs.Lcg.{Lcg}
use Rattle.rand_pcg.specs.Pcg.{pcg32}
use Rattle.outside.proofs.pcg_words.PcgWordsWords.next.Goals as goal

-- the words behind the first one are those of the next state
behind_first : (generator : Lcg) (place : ℕ) → words_from (pcg32 generator).1 place ≡ words_from generator (place + 1)
unfolding words_from
behind_first generator place = let next : suc place ≡ place + 1 = omega arith in ap (words_from generator) next

pub returns-clause-word : goal.returns-clause-word
unfolding words_from
returns-clause-word c =
    ap (λ (given : ℕ × Lcg). given.0) c.next_word.ensures ∙ ap (λ (generator : Lcg). (pcg32 generator).0) c.self.view_is

pub returns-clause-rest : goal.returns-clause-rest
returns-clause-rest c = λ i.
    ap (λ (given : ℕ × Lcg). words_from given.1 i) c.next_word.ensures ∙ behind_first c.self.inside.generator i
    ∙ ap (λ (generator : Lcg). words_from generator (i + 1)) c.self.view_is
