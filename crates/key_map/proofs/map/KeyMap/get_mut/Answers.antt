use Rattle.std.proofs.Common.{◌≡◌, Option, None, Some, is_some, IsSome, IsNone, refl, sym, ap, ◌∙◌, inl, inr}
use Rattle.std.specs.Borrow.{MutBor}
use Rattle.std.specs.Map.{lookup}
use Rattle.std.specs.Option.{ghost_name_of, option_copied_mut}
use borrow.Follows.Closed.{read_of}
use Rattle.key_map.proofs.Finite.{is_key, map_of, lookup-map_of, map_of-inserted}
use Rattle.key_map.proofs.map.KeyMap.get_mut.Goals as goal

-- two ways to tell what becomes of the lender say the same where they agree on what can come
read_of-same : {D E : Type 0} (r : Option (MutBor E)) (o : Option E) (F G : E → D) (v u : D) → option_copied_mut r ≡ o → (IsSome o → F ≡ G)
    → (IsNone r → v ≡ u)
    → read_of (ghost_name_of r) F v ≡ read_of (ghost_name_of r) G u
read_of-same None o F G v u value some none = λ i. inr (none refl i)
read_of-same (Some x) o F G v u value some none = λ i. inl (x.ghost_name, some (sym (ap is_some value)) i)

pub returns : goal.returns
returns g c =
    let es = c.self.inside.tree.entries in
    let value = c.get_mut.ensures.value in (
      read_of-same c.get_mut.result (lookup (is_key c.args.key.now) es) _ _ _ _ value
          (λ some i w. map_of-inserted es (c.get_mut.follows.lender w).entries _ c.self.view_is c.args.key.now w
          ((c.get_mut.follows.holds w).3 some).0 i)
          (λ none. ap (λ t. map_of t.entries) c.get_mut.follows.holds-at-none ∙ c.self.view_is),
      record { writes_back = tt; value = value ∙ lookup-map_of es _ c.self.view_is c.args.key.now },
    )
