-- What is seen of a key after writes without a versionstamp: what they make of its value; and which keys are readable doesn't change.
use Rattle.std.proofs.Common.{◌≡◌, ℕ, Bool, true, false, cond, List, [], ◌∷◌, ◌++◌, length, drop, Option, None, refl, sym, ap, ◌∙◌}
use Rattle.std.specs.Prelude.{not, ◌&&◌, ◌||◌}
use Rattle.std.specs.FinMap as finite
use Rattle.std.specs.List.{list_all, list_any}
use Rattle.std.proofs.Math.Seq.{drop-append_seam}
use Rattle.std.proofs.Math.Bool.{or-false}
use Rattle.std.proofs.lemmas.Bool.{and_from, and_parts, not-true, or_parts}
use Rattle.model_database.specs.Databases.{Database, Mutation, do_all}
use Rattle.model_database.specs.Histories.{Setting, written, at}
use Rattle.model_database.specs.KeyByKey.{made_of, at_keys, is_plain}
use Rattle.model_database.specs.States.{touches, covers, unreadable, seen}
use Rattle.model_database.specs.Transactions.{Transaction, view, writes_of, map_below}
use Rattle.model_database.proofs.AddingConflicts.{written-append}
use Rattle.model_database.proofs.Filling.{plain_readable}
use Rattle.model_database.proofs.KeyByKey.{get-do_all, at_keys-append}
use Rattle.model_database.proofs.States.{covers-unreadable-append}
use Rattle.model_allocator.proofs.Viewing.{get-seen}
use Rattle.laws_directory.specs.Found.{written_since}
use Rattle.laws_directory.proofs.Growing.{Grown}

-- ---- many writes

hidden_more : (writes more : List Mutation) (q : List ℕ) → list_all is_plain more ≡ true
    → covers (unreadable (writes ++ more)) q ≡ covers (unreadable writes) q
hidden_more writes more q plain =
    covers-unreadable-append writes more q
    ∙ ap (λ ranges. covers (unreadable writes) q || covers ranges q) (plain_readable more plain)
    ∙ or-false (covers (unreadable writes) q)

seen_more : (writes more : List Mutation) (m : Database) (q : List ℕ) → list_all is_plain more ≡ true
    → finite.get (seen (writes ++ more) m) q
    ≡ cond (not (covers (unreadable writes) q)) (at_keys more q (finite.get (do_all writes m) q)) None
seen_more writes more m q plain =
    get-seen (writes ++ more) m q
    ∙ ap (λ hidden. cond (not hidden) (finite.get (do_all (writes ++ more) m) q) None) (hidden_more writes more q plain)
    ∙ ap (λ value. cond (not (covers (unreadable writes) q)) value None)
    (get-do_all (writes ++ more) m q ∙ at_keys-append writes more q (finite.get m q)
    ∙ ap (at_keys more q) (sym (get-do_all writes m q)))

untouched_same : (more : List Mutation) (q : List ℕ) (old : Option (List ℕ)) → list_any (λ mutation. touches mutation q) more ≡ false
    → at_keys more q old ≡ old
untouched_same [] q old untouched = refl
untouched_same (mutation ∷ more) q old untouched =
    let each = or_parts (touches mutation q) (list_any (λ mutation. touches mutation q) more) untouched in
    ap (λ (touched : Bool). at_keys more q (cond touched (made_of mutation old) old)) each.0 ∙ untouched_same more q old each.1

-- ---- a transaction that grew by such writes

writes_grown : (setting : Setting) (may : Mutation → Bool) (t u : Transaction) (grown : Grown setting may t u)
    → writes_of u ≡ writes_of t ++ written grown.more
writes_grown setting may t u grown = ap written grown.is ∙ written-append t.script grown.more

view_grown : (setting : Setting) (may : Mutation → Bool) (t u : Transaction) (grown : Grown setting may t u)
    → view setting u ≡ seen (writes_of t ++ written grown.more) (map_below setting t)
view_grown setting may t u grown =
    ap (λ writes. seen writes (map_below setting u)) (writes_grown setting may t u grown)
    ∙ ap (λ version. seen (writes_of t ++ written grown.more) (at setting.history version)) grown.version

-- what is seen of a key that none of them touches stays
pub untouched_seen : (setting : Setting) (t u : Transaction) (grown : Grown setting is_plain t u) (q : List ℕ)
    → list_any (λ mutation. touches mutation q) (written grown.more) ≡ false
    → finite.get (view setting u) q ≡ finite.get (view setting t) q
untouched_seen setting t u grown q untouched =
    ap (λ database. finite.get database q) (view_grown setting is_plain t u grown)
    ∙ seen_more (writes_of t) (written grown.more) (map_below setting t) q grown.all
    ∙ ap (λ value. cond (not (covers (unreadable (writes_of t)) q)) value None)
    (untouched_same (written grown.more) q (finite.get (do_all (writes_of t) (map_below setting t)) q) untouched)
    ∙ sym (get-seen (writes_of t) (map_below setting t) q)

-- by the entries that it has more than before
pub unwritten_seen : (setting : Setting) (t u : Transaction) (grown : Grown setting is_plain t u) (q : List ℕ)
    → list_any (λ mutation. touches mutation q) (written_since t u) ≡ false
    → finite.get (view setting u) q ≡ finite.get (view setting t) q
unwritten_seen setting t u grown q untouched =
    untouched_seen setting t u grown q
    (ap (λ script. list_any (λ mutation. touches mutation q) (written script))
    (sym (ap (drop (length t.script)) grown.is ∙ drop-append_seam t.script grown.more)) ∙ untouched)

-- ---- writes that don't touch a key

-- it has no versionstamp and doesn't touch the key
abbrev pub spares : (q : List ℕ) → Mutation → Bool
spares q mutation = is_plain mutation && not (touches mutation q)

pub all_spared : (q : List ℕ) (more : List Mutation) → list_all (spares q) more ≡ true
    → (list_all is_plain more ≡ true) × (list_any (λ mutation. touches mutation q) more ≡ false)
all_spared q [] all = (refl, refl)
all_spared q (mutation ∷ more) all =
    let each = and_parts (spares q mutation) (list_all (spares q) more) all in
    let one = and_parts (is_plain mutation) (not (touches mutation q)) each.0 in
    let others = all_spared q more each.1 in (
      and_from (is_plain mutation) (list_all is_plain more) one.0 others.0,
      ap (λ (touched : Bool). touched || list_any (λ mutation. touches mutation q) more) (not-true (touches mutation q) one.1) ∙ others.1,
    )

abbrev pub plainly : (setting : Setting) (q : List ℕ) (t u : Transaction) (grown : Grown setting (spares q) t u)
    → Grown setting is_plain t u
plainly setting q t u grown = record {
  more = grown.more;
  is = grown.is;
  all = (all_spared q (written grown.more) grown.all).0;
  version = grown.version;
}

pub spared_seen : (setting : Setting) (t u : Transaction) (q : List ℕ) → Grown setting (spares q) t u
    → finite.get (view setting u) q ≡ finite.get (view setting t) q
spared_seen setting t u q grown =
    untouched_seen setting t u (plainly setting q t u grown) q (all_spared q (written grown.more) grown.all).1

-- a key is as readable as before
pub hidden_same : (setting : Setting) (t u : Transaction) (q : List ℕ) → Grown setting is_plain t u
    → covers (unreadable (writes_of u)) q ≡ covers (unreadable (writes_of t)) q
hidden_same setting t u q grown =
    ap (λ writes. covers (unreadable writes) q) (writes_grown setting is_plain t u grown)
    ∙ hidden_more (writes_of t) (written grown.more) q grown.all
