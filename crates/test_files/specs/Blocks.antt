-- The cases of a text, and what stands in one.
use Rattle.std.specs.Prelude.{ℕ, ◌+◌, ◌-◌, ◌==◌, Bool, ◌&&◌, ◌||◌, if◌then◌else◌, nat_le, List, [], Option, option_map, unwrap_or, length, drop, take, filter, find, codes, bytes_eq, slice_index, slice_index_or, slice_range}
use Rattle.std.specs.List.{slice_split, range_with_len}

-- what a line begins with where a case begins, before its name
abbrev pub case_tag : List ℕ
case_tag = codes "case "

-- whether a text begins with a tag
abbrev pub begins_with : List ℕ → List ℕ → Bool
begins_with tag text = bytes_eq (take (length tag) text) tag

-- whether a case begins at a place of a text: a line begins there, and it begins with the tag
abbrev pub begins_case : List ℕ → ℕ → Bool
begins_case text place = (place == 0 || slice_index text (place - 1) == 10) && begins_with case_tag (drop place text)

-- the places of a text at which cases begin, in order
abbrev pub starts_of : List ℕ → List ℕ
starts_of text = filter (begins_case text) (range_with_len 0 (length text))

-- the case of a number, where the cases begin at these places: it goes up to the next place, or to the end
abbrev pub block_of : List ℕ → List ℕ → ℕ → List ℕ
block_of text starts number =
    let end = slice_index_or starts (number + 1) (length text) in
    if nat_le end (length text) then slice_range text (slice_index starts number) end else []

-- what stands behind a tag in the first line that begins with it
abbrev pub value_behind : List ℕ → List ℕ → Option (List ℕ)
value_behind tag text = option_map (drop (length tag)) (find (begins_with tag) (slice_split (λ byte. byte == 10) text))

-- the name of a case, and nothing where no line has one
abbrev pub name_in : List ℕ → List ℕ
name_in block = unwrap_or (value_behind case_tag block) []
