-- The random words of a seed.
use Rattle.std.specs.Prelude.{ℕ, zero, suc}
use Rattle.rand_core.specs.Pcg32Seed.{pcg32_seed}
use Rattle.rand_pcg.specs.Lcg.{Lcg}
use Rattle.rand_pcg.specs.Pcg.{pcg32, pcg32_of_seed}

-- the words that a generator gives, by their places from 0
unfoldable pub words_from : Lcg → ℕ → ℕ
words_from generator zero = (pcg32 generator).0
words_from generator (suc place) = words_from (pcg32 generator).1 place

-- the generator of a number: that of the seed of 16 bytes that is made of it
abbrev pub generator_of : (seed : ℕ) → Lcg
generator_of seed = pcg32_of_seed (pcg32_seed 16 seed)

-- the random words of a seed
abbrev pub words_of_seed : (seed : ℕ) → ℕ → ℕ
words_of_seed seed place = words_from (generator_of seed) place
