-- A text of a list of references.
use Rattle.std.proofs.Common.{◌≡◌, ℕ, ◌<◌, List, [], Bor, map, length, get_or, sym, ap, ◌∙◌}
use Rattle.std.proofs.lemmas.List.{get_or-map}

pub text_at : (texts : List (Bor (List ℕ))) (i j : ℕ) (d : Bor (List ℕ)) → i ≡ j → i < length texts → (get_or texts i d).now ≡ get_or (map (λ text. text.now) texts) j []
text_at texts i j d same h = sym (get_or-map (λ text. text.now) texts i d [] h) ∙ ap (λ n. get_or (map (λ (text : Bor (List ℕ)). text.now) texts) n []) same
