-- What the rule tells the receiver of the senders that it closed.
use Rattle.std.proofs.Common.{◌≡◌, ◌≢◌, ℕ, ◌^◌, ◌<◌, ◌≤◌, List, [], ◌∷◌, ◌++◌, get_or, sym, ap, ◌∙◌, subst, append_assoc, arith, lt_of_not-le}
use Rattle.std.specs.List.{Any}
use mathlib.Core.Option.{some}
use mathlib.Core.List.{IsPrefix}
use native.Mathlib.Decide.{dec_le, ℕ_discrete}
use lib.ListN.{get_elem?}
use Rattle.crossbeam_channel.specs.Fifo.{Learns}
use Rattle.atomic_table.proofs.Lists.{at_index}
use Rattle.request_line.specs.declared.history.History.{History}
use Rattle.request_line.specs.declared.view.View.{View}
use Rattle.request_line.specs.declared.view.View.TheVariants.{Receives}
use Rattle.request_line.specs.History.{IsInSpan, CoverAllNumbers, AreAllApart}
use Rattle.request_line.specs.Taking.{items_of, TakesInOrder, TakesAfterSplit, IsOfThese, Agrees}
use Rattle.request_line.specs.Spans.{Owner, closed_at, Owns, Fits, Kept, taken_by, closed_by}
use Rattle.request_line.proofs.Items.{items_of-append, left_nil, whole_prefix, found, has_items, ends_before}

module _ {T : Type 0} (got items : List (ℕ × T)) (who : ℕ → Owner) where
  log : List (ℕ × T)
  log = got ++ items

  in_order : (o : Owner) (h : History T) → Owns (got ++ items) who o h → TakesInOrder got h
  in_order o h k = (items_of h.number items, sym (items_of-append h.number got items) ∙ k.posted)

  after_split : (o : Owner) (h : History T) → Owns (got ++ items) who o h → TakesAfterSplit got h
  after_split o h k front back x e =
      (items_of h.maker p.0, ap (λ l. l ++ items_of h.maker p.0) (sym k.follows.before) ∙ sym (items_of-append h.maker k.follows.front p.0) ∙ ap (items_of h.maker) p.1)
    where
      p : IsPrefix k.follows.front front
      p = ends_before h.number k.follows.front k.follows.back front x (back ++ items)
          (sym k.follows.parts ∙ ap (λ l. l ++ items) e ∙ append_assoc front ((h.number, x) ∷ back) items) k.follows.none_yet

  -- a number below 2 ^ 63 of which something was taken is that of a sender that was closed
  one_of_these : (h : History T) (p : ℕ) (o : Owner) → Owns (got ++ items) who o h → IsInSpan h p → items_of p got ≢ [] → Dec (h.number ≡ p)
      → h.number ≡ p
  one_of_these h p o k span some_taken (yes e) = e
  one_of_these h p o k span some_taken (no n) =
      absurd (some_taken (left_nil (items_of p got) (items_of p items) (sym (items_of-append p got items) ∙ k.unused p span (λ e. n (sym e)))))

  small : (p : ℕ) → ((q : ℕ) → 2 ^ 63 ≤ q → items_of q (got ++ items) ≡ []) → items_of p got ≢ [] → Dec (2 ^ 63 ≤ p) → p < 2 ^ 63
  small p bounded some_taken (yes big) =
      absurd (some_taken (left_nil (items_of p got) (items_of p items) (sym (items_of-append p got items) ∙ bounded p big)))
  small p bounded some_taken (no n) = lt_of_not-le n

  module _ (senders : List (History T)) (own : (k : ℕ) (h : History T) → get_elem? senders k ≡ some h → Owns (got ++ items) who (closed_at k) h) (bounded : (q : ℕ) → 2 ^ 63 ≤ q → items_of q (got ++ items) ≡ []) where
    of_these : CoverAllNumbers senders → IsOfThese got senders
    of_these cover k d h =
        (c.0, c.1, c.2, c.3, one_of_these c.1 m.0 (closed_at c.0) (own c.0 c.1 (at_index senders c.0 c.1 c.2 (sym c.3))) c.4 some_taken (ℕ_discrete c.1.number m.0))
      where
        m : ℕ × T
        m = get_or got k d

        some_taken : items_of m.0 got ≢ []
        some_taken = has_items got k d h

        c : Any (λ s. IsInSpan s m.0) senders
        c = cover m.0 (small m.0 bounded some_taken (dec_le (2 ^ 63) m.0))

    apart : AreAllApart senders
    apart i j d before in_list p a b =
        absurd (omega (arith, before, same i j (sym ((own i (get_or senders i d) (found senders i d (omega arith))).owned p a) ∙ (own j (get_or senders j d) (found senders j d in_list)).owned p b)))
      where
        same : (a b : ℕ) → closed_at a ≡ closed_at b → a ≡ b
        same a b e = cc

    pub agrees : Agrees got senders
    agrees = record {
      in_order = λ k d h. in_order (closed_at k) (get_or senders k d) (own k (get_or senders k d) (found senders k d h));
      all_where_as_many =
          λ k d h. whole_prefix (items_of (get_or senders k d).number got) (get_or senders k d).posted (in_order (closed_at k) (get_or senders k d) (own k (get_or senders k d) (found senders k d h)));
      after_split = λ k d h. after_split (closed_at k) (get_or senders k d) (own k (get_or senders k d) (found senders k d h));
      of_these = of_these;
      apart = apart;
    }

pub learns : {T : Type 0} (pass : ℕ) (taken : List (ℕ × T)) (senders : List (History T))
    → Learns Kept pass (Receives taken senders) (λ items. Agrees taken senders)
learns pass taken senders items views k at =
    let mine : Fits (k.got ++ items) k.got k.reader k.who pass (Receives taken senders) = k.each pass (Receives taken senders) at in
    subst (λ l. Agrees l senders) (sym mine.1) (agrees k.got items k.who senders mine.2 k.bounded)

pub learns_at : {T : Type 0} (pass : ℕ) (v : View T) → v ≡ Receives (taken_by v) (closed_by v)
    → Learns Kept pass v (λ items. Agrees (taken_by v) (closed_by v))
learns_at pass v e =
    subst (λ u. Learns Kept pass u (λ items. Agrees (taken_by v) (closed_by v))) (sym e) (learns pass (taken_by v) (closed_by v))
