-- What a machine asked and was answered, in all that was taken and answered, is what its sender posted and its waiters have shown.
use Rattle.std.proofs.Common.{◌≡◌, ℕ, Bool, true, false, true≢false, cond, eqb, List, [], ◌∷◌, ◌++◌, length, map, Some, refl, sym, ap, ◌∙◌, arith}
use Rattle.std.specs.List.{filter, zip}
use Rattle.std.proofs.lemmas.List.{append-nil}
use Rattle.std.proofs.lemmas.List.Elements.{All-head, All-tail}
use Rattle.std.proofs.lemmas.Grind.{flat_map-append}
use mathlib.Core.List.{cons≢nil, head-eq_of_cons-eq, tail-eq_of_cons-eq}
use native.Mathlib.Decide.{ℕ_discrete}
use Rattle.fdb_calls.specs.declared.Request.{Request}
use Rattle.fdb_calls.specs.declared.Reply.{Reply}
use Rattle.future_cell.specs.declared.setter.Receipt.{Receipt}
use Rattle.future_cell.specs.declared.setter.Setter.{Setter}
use Rattle.future_cell.specs.declared.wake.Wake.{Wake}
use Rattle.request_line.specs.Taking.{items_of}
use Rattle.network.specs.declared.post.Post.{Post}
use Rattle.network.specs.declared.post.Post.TheVariants.{Ask, Over}
use Rattle.network.specs.Posts.{posts_of, asked_by, asked_in}
use Rattle.network.specs.Serving.{replies_of}
use Rattle.network.specs.Pairing.{receipts_of, AsksAsOne, AsksBy}
use Rattle.network.proofs.Pairing.{same_test}
use Rattle.laws_threads.specs.Weaving.{places_of, places_over, replies_at}
use Rattle.threaded_machine.specs.Threaded.{requests_in}

-- an Ask is picked by its machine and by its sender, or by neither
picked_ask : (own its : Bool) (number asking : ℕ) (request : Request) (setter : Setter Reply Wake) (asked : List (ℕ × Request))
    (mails : List (ℕ × Post)) → own ≡ its
    → map (λ (it : ℕ × Request). it.1) asked ≡ requests_in (map (λ (mail : ℕ × Post). mail.1) mails)
    → map (λ (it : ℕ × Request). it.1) (cond own ((asking, request) ∷ asked) asked)
    ≡ requests_in (map (λ (mail : ℕ × Post). mail.1) (cond its ((number, Ask asking request setter) ∷ mails) mails))
picked_ask true true number asking request setter asked mails same rest = ap (λ l. request ∷ l) rest
picked_ask true false number asking request setter asked mails same rest = absurd (true≢false same)
picked_ask false true number asking request setter asked mails same rest = absurd (true≢false (sym same))
picked_ask false false number asking request setter asked mails same rest = rest

picked_over : (its : Bool) (number over : ℕ) (mails : List (ℕ × Post))
    → requests_in (map (λ (mail : ℕ × Post). mail.1) (cond its ((number, Over over) ∷ mails) mails))
    ≡ requests_in (map (λ (mail : ℕ × Post). mail.1) mails)
picked_over true number over mails = refl
picked_over false number over mails = refl

-- where a machine asks by one sender, and that sender for it alone, what it asked is what was taken of the sender
pub asked_by_sender : (machine sender : ℕ) (mails : List (ℕ × Post)) → AsksBy machine sender mails
    → items_of machine (asked_in (posts_of mails)) ≡ requests_in (items_of sender mails)
asked_by_sender machine sender [] one = refl
asked_by_sender machine sender ((number, Over over) ∷ mails) one =
    asked_by_sender machine sender mails (All-tail (AsksAsOne machine sender) (number, Over over) mails one)
    ∙ sym (picked_over (eqb number sender) number over (filter (λ (mail : ℕ × Post). eqb mail.0 sender) mails))
asked_by_sender machine sender ((number, Ask asking request setter) ∷ mails) one =
    picked_ask (eqb asking machine) (eqb number sender) number asking request setter
    (filter (λ (it : ℕ × Request). eqb it.0 machine) (asked_in (posts_of mails))) (filter (λ (mail : ℕ × Post). eqb mail.0 sender) mails)
    (same_test asking machine number sender (All-head (AsksAsOne machine sender) (number, Ask asking request setter) mails one)
    (ℕ_discrete asking machine))
    (asked_by_sender machine sender mails (All-tail (AsksAsOne machine sender) (number, Ask asking request setter) mails one))

-- what a machine was answered at its places is what was set by its receipts
pub answered_by_receipts : (machine : ℕ) (asked : List (ℕ × Request)) (receipts : List (Receipt Reply Wake)) (replies : List Reply)
    → length replies ≡ length asked → replies_of receipts ≡ map Some replies
    → map Some (replies_at (places_of machine (places_over asked replies)))
    ≡ replies_of (receipts_of machine (map (λ (it : ℕ × Request). it.0) asked) receipts)
answered_by_receipts machine [] receipts replies same set = refl
answered_by_receipts machine (first ∷ asked) receipts [] same set = absurd (omega (arith, same))
answered_by_receipts machine (first ∷ asked) [] (reply ∷ replies) same set = absurd (cons≢nil (sym set))
answered_by_receipts machine (first ∷ asked) (receipt ∷ receipts) (reply ∷ replies) same set =
    by (eqb first.0 machine) (answered_by_receipts machine asked receipts replies (omega (arith, same)) (tail-eq_of_cons-eq set))
  where
    by : (own : Bool)
        → map Some (replies_at (places_of machine (places_over asked replies)))
        ≡ replies_of (receipts_of machine (map (λ (it : ℕ × Request). it.0) asked) receipts)
        → map Some (replies_at (cond own (record { machine = first.0; request = first.1; reply = reply } ∷ places_of machine
        (places_over asked replies)) (places_of machine (places_over asked replies))))
        ≡ replies_of (map (λ (it : ℕ × Receipt Reply Wake). it.1) (cond own ((first.0, receipt)
        ∷ filter (λ (it : ℕ × Receipt Reply Wake). eqb it.0 machine) (zip (map (λ (it : ℕ × Request). it.0) asked) receipts))
        (filter (λ (it : ℕ × Receipt Reply Wake). eqb it.0 machine) (zip (map (λ (it : ℕ × Request). it.0) asked) receipts))))
    by true rest = λ i. sym (head-eq_of_cons-eq set) i ∷ rest i
    by false rest = rest

-- the Over at the end of a sender's posts asks nothing
pub requests_with_over : (asks : List Post) (number : ℕ) → requests_in (asks ++ Over number ∷ []) ≡ requests_in asks
requests_with_over asks number =
    ap (map (λ (it : ℕ × Request). it.1)) (flat_map-append asked_by asks (Over number ∷ []) ∙ append-nil (asked_in asks))
