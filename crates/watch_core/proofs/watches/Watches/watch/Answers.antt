-- A watch was added at the end.
use Rattle.std.proofs.Common.{◌≡◌, ℕ, List, ◌++◌, ◌∷◌, [], arith, Some, None, length, length-append, map, refl, sym, ap, subst, ◌∙◌}
use Rattle.std.proofs.lemmas.List.{map-append}
use Rattle.std.proofs.lemmas.List.Elements.{All-push}
use Rattle.std.specs.List.{All}
use Rattle.version_store.specs.Versions.{at, last_of}
use Rattle.watch_core.specs.declared.watch.Watch.{Watch}
use Rattle.watch_core.specs.Watching.{Watching, AreCurrent, AreRight, IsCurrent, IsRight}
use Rattle.watch_core.specs.Watches.{given, numbers_in, watched_of}
use Rattle.watch_core.proofs.Firings.{all_right_made}
use Rattle.watch_core.proofs.Keeping.{listed_push}
use Rattle.watch_core.proofs.watches.Watches.watch.Goals as goal

pub invariant_of-self-2 : goal.invariant_of-self-2
invariant_of-self-2 g c =
    let inside = c.self.inside in
    let w : Watch g.row.C.Denot = record {
      key = c.in_ok-key.key;
      made = c.last.result;
      value = c.in_ok-value.value;
      setter = Some c.in_ok-setter.setter;
      settlement = None;
    } in
    let number : c.len-number.result ≡ length inside.watches.items =
    c.len-number.ensures ∙ (c.reserve.ensures.len ∙ inside.watches.ok.0) in
    record {
      are_listed =
          listed_push inside.watches.items (numbers_in inside.index) inside.pending c.self.invariant.are_listed
          w refl refl
          c.push_reserved.new.self.items (c.push_reserved.ensures.items ∙ ap (λ s. s ++ w ∷ []) c.reserve.ensures.items)
          (numbers_in c.push_number.new.index)
          (c.push_number.ensures
          ∙ (ap (λ (ns : List ℕ → List ℕ). given ns w.key (ns w.key ++ c.len-number.result ∷ [])) c.in_ok-reserve_number.ensures.numbers
          ∙ ap (λ n. given (numbers_in inside.index) w.key (numbers_in inside.index w.key ++ n ∷ [])) number));
      roomy = omega (
        arith,
        c.in_ok-reserve-2.ensures.ok,
        c.len.ensures,
        c.reserve.ensures.len,
        inside.watches.ok.0,
        ap length c.push_reserved.ensures.items,
        ap length c.reserve.ensures.items,
        length-append inside.watches.items (w ∷ []),
      );
      none = c.reserve-2.ensures.items ∙ c.self.invariant.none;
    }

pub returns-clause-right : goal.returns-clause-right
returns-clause-right g c = λ history is right.
    let inside = c.self.inside in
    let w : Watch g.row.C.Denot = record {
      key = c.in_ok-key.key;
      made = c.last.result;
      value = c.in_ok-value.value;
      setter = Some c.in_ok-setter.setter;
      settlement = None;
    } in
    let e : map watched_of c.push_reserved.new.self.items ≡ map watched_of inside.watches.items ++ watched_of w ∷ [] =
    ap (map watched_of) (c.push_reserved.ensures.items ∙ ap (λ s. s ++ w ∷ []) c.reserve.ensures.items)
    ∙ map-append watched_of inside.watches.items (w ∷ []) in
    subst (All (IsRight history inside.seen)) (sym e)
    (all_right_made history inside.seen _ _ (ap (λ v. v.seen) c.self.view_is ∙ c.requires.current) is
    (map watched_of inside.watches.items) c.in_ok-key.key c.last.result c.in_ok-value.value (watched_of w).cell
    c.last.ensures.value c.in_ok-value.ensures (subst (AreRight history) (sym c.self.view_is) right))

pub returns-clause-current : goal.returns-clause-current
returns-clause-current g c = λ current.
    let inside = c.self.inside in
    let database = at c.args.store.now (last_of c.args.store.now) in
    let w : Watch g.row.C.Denot = record {
      key = c.in_ok-key.key;
      made = c.last.result;
      value = c.in_ok-value.value;
      setter = Some c.in_ok-setter.setter;
      settlement = None;
    } in
    let e : map watched_of c.push_reserved.new.self.items ≡ map watched_of inside.watches.items ++ watched_of w ∷ [] =
    ap (map watched_of) (c.push_reserved.ensures.items ∙ ap (λ s. s ++ w ∷ []) c.reserve.ensures.items)
    ∙ map-append watched_of inside.watches.items (w ∷ []) in
    subst (AreCurrent database) (sym e)
    (All-push (IsCurrent database) (map watched_of inside.watches.items) (watched_of w)
    (subst (λ (v : Watching). AreCurrent database v.watches) (sym c.self.view_is) current) (λ pending. c.in_ok-value.ensures))
