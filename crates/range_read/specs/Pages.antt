-- How many pairs a page has.
use Rattle.std.specs.Prelude.{◌≡◌, ℕ, ◌-◌, ◌*◌, ◌^◌, ◌==◌, true, false, if◌then◌else◌, min}
use Rattle.model_database.specs.declared.mode.Mode.{Mode}
use Rattle.model_database.specs.declared.options.RangeOptions.{RangeOptions}
use Rattle.model_database.specs.declared.mode.Mode.TheVariants.{WantAll, Iterator, Exact, Small, Medium, Large, Serial}
use Rattle.model_database.specs.Modes.{lacks_limit}
use Rattle.range_read.specs.declared.fault.RangeFault.{RangeFault}
use Rattle.range_read.specs.declared.fault.RangeFault.TheVariants.{NoLimit, NoMemory}

-- never more than the limit, where there is one
abbrev pub capped : ℕ → ℕ → ℕ
capped limit size = if limit == 0 then size else min limit size

-- how many pairs a page of a mode has where there are enough and there is no limit; turns are counted from 1
abbrev pub full_size : Mode → ℕ → ℕ
full_size Small turn = 16
full_size Medium turn = 128
full_size Large turn = 1024
full_size Serial turn = 4096
full_size WantAll turn = 4096
full_size Iterator turn = min (16 * 2 ^ (turn - 1)) 4096
full_size Exact turn = 0

-- how many pairs a page has where there are enough
abbrev pub page_size : Mode → (limit turn : ℕ) → ℕ
page_size Exact limit turn = limit
page_size mode limit turn = capped limit (full_size mode turn)

-- why a range was not read: NoLimit exactly where the limit is lacking
abbrev pub IsRefused : RangeOptions → RangeFault → Type 0
IsRefused options NoLimit = lacks_limit options.mode options.limit ≡ true
IsRefused options NoMemory = lacks_limit options.mode options.limit ≡ false
