-- One word more as a text.
use Rattle.std.proofs.Common.{◌≡◌, ◌∙◌, ◌<◌, ℕ, ◌+◌, List, [], ◌∷◌, ◌++◌, map, length, get_or, take, Bor, IsUtf8, ap, ap₂, sym, subst}
use Rattle.std.proofs.lemmas.List.{map-append, take_more}
use Rattle.laws_commands.specs.Found.{EachUtf8}

abbrev texts_of : List (Bor (List ℕ)) → List (List ℕ)
texts_of = map (λ text. text.now)

next_word : (words : List (List ℕ)) (i : ℕ) (word : List ℕ) → i < length words → word ≡ get_or words i word → take (i + 1) words ≡ take i words ++ word ∷ []
next_word words i word inside at = take_more words i word inside ∙ ap (λ w. take i words ++ w ∷ []) (sym at)

pub same_more : (texts : List (Bor (List ℕ))) (text : Bor (List ℕ)) (words : List (List ℕ)) (i : ℕ) (word : List ℕ) → i < length words
    → word ≡ get_or words i word → text.now ≡ word → texts_of texts ≡ take i words → texts_of (texts ++ text ∷ []) ≡ take (i + 1) words
same_more texts text words i word inside at is same =
    map-append (λ t. t.now) texts (text ∷ []) ∙ ap₂ (λ ws w. ws ++ w ∷ []) same is ∙ sym (next_word words i word inside at)

joins : (words : List (List ℕ)) (word : List ℕ) → EachUtf8 words → IsUtf8 word → EachUtf8 (words ++ word ∷ [])
joins [] word each utf8 = (utf8, tt)
joins (first ∷ words) word each utf8 = (each.0, joins words word each.1 utf8)

pub utf8_more : (words : List (List ℕ)) (i : ℕ) (word : List ℕ) → i < length words → word ≡ get_or words i word → EachUtf8 (take i words) → IsUtf8 word
    → EachUtf8 (take (i + 1) words)
utf8_more words i word inside at each utf8 = subst EachUtf8 (sym (next_word words i word inside at)) (joins (take i words) word each utf8)
