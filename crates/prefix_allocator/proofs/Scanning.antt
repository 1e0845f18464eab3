-- The numbers of a window one after the other, until one is absent.
use Rattle.std.proofs.Common.{◌≡◌, ℕ, ◌+◌, Bool, true, false, List, [], ◌∷◌, ◌++◌, Option, Some, None, Result, Ok, Err, sym, ap, subst, ◌∙◌, arith}
use Rattle.std.specs.Prelude.{if◌then◌else◌, not}
use Rattle.model_database.specs.Databases.{Database}
use Rattle.model_database.specs.Histories.{Setting}
use Rattle.model_database.specs.Transactions.{Transaction, view}
use Rattle.fdb_calls.specs.declared.fault.TrFault.{TrFault}
use Rattle.model_allocator.specs.Counters.{is_recent}
use Rattle.model_allocator.specs.Granting.{above, tries}
use Rattle.prefix_allocator.specs.Doing.{Done, scans, tries_of, found_in}
use Rattle.prefix_allocator.proofs.Calls.{Present}
use Rattle.prefix_allocator.proofs.Steps.{stopped_done}
use Rattle.prefix_allocator.proofs.Search.{tries_one, found_one, tries_first, tries-append, found_first, Sofar, after_tries, none_yet, go_on, found_behind}
use Rattle.prefix_allocator.proofs.Draws.{scans-append, scans_one, scanned_one}

pub none_scanned : (setting : Setting) (stands : Transaction → Type 0) (space : List ℕ) (start last : ℕ) (t : Transaction) → stands t
    → Sofar setting stands space (scans start last 1 0) t
unfolding scans
none_scanned setting stands space start last t is = none_yet setting stands space t is

-- the next number, at this distance
next : (start last distance : ℕ) → scans start last 1 (distance + 1) ≡ scans start last 1 distance ++ scanned_one start last
    (distance + 1) ∷ []
next start last distance =
    let at : 1 + distance ≡ distance + 1 = omega arith in
    scans-append start last 1 distance 1
    ∙ ap (λ from. scans start last 1 distance ++ scans start last from 1) at
    ∙ ap (λ one. scans start last 1 distance ++ one) (scans_one start last (distance + 1))

others : (start last distance more total : ℕ) → distance + 1 + more ≡ total
    → scans start last 1 total ≡ scans start last 1 (distance + 1) ++ scans start last (1 + (distance + 1)) more
others start last distance more total is = ap (λ total. scans start last 1 total) (sym is) ∙ scans-append start last 1 (distance + 1) more

abbrev pub after_scans : Setting → Transaction → (space : List ℕ) → (start last distance : ℕ) → Transaction
after_scans setting t space start last distance = after_tries setting t space (scans start last 1 distance)

-- what the try of the next number did
abbrev pub Next : Result Bool TrFault → Setting → (stands : Transaction → Type 0) → (space : List ℕ) → (number : ℕ) → Transaction → Type 0
Next result setting stands space number u =
    Done (Present setting u space number) result setting stands (tries space (record { number = number; is_drawn = false })) u

with_next : (result : Result Bool TrFault) (setting : Setting) (first stands : Transaction → Type 0) (space : List ℕ)
    (start last distance : ℕ) (t : Transaction)
    → Sofar setting first space (scans start last 1 distance) t
    → Next result setting stands space (above start last (distance + 1)) (after_scans setting t space start last distance)
    → Done (Present setting (after_scans setting t space start last distance) space (above start last (distance + 1))) result setting stands
    (tries_of space (view setting t) (scans start last 1 (distance + 1))) t
with_next result setting first stands space start last distance t sofar done =
    let u = after_scans setting t space start last distance in
    let one = scanned_one start last (distance + 1) in
    let present = Present setting u space (above start last (distance + 1)) in
    subst (λ candidates. Done present result setting stands (tries_of space (view setting t) candidates) t) (sym (next start last distance))
    (go_on present result setting first stands space (scans start last 1 distance) (one ∷ []) t sofar
    (subst (λ acts. Done present result setting stands acts u) (sym (tries_one space (view setting u) one)) done))

abbrev pub Finds : (space : List ℕ) → Setting → Transaction → (start last total : ℕ) → Option ℕ → Type 0
Finds space setting t start last total found = found ≡ found_in space (view setting t) (scans start last 1 total)

-- a fault of the next try ends all
pub fault_scanned : (f : TrFault) (setting : Setting) (first stands : Transaction → Type 0) (space : List ℕ)
    (start last distance more total : ℕ) (t : Transaction)
    → distance + 1 + more ≡ total → Sofar setting first space (scans start last 1 distance) t
    → Next (Err f) setting stands space (above start last (distance + 1)) (after_scans setting t space start last distance)
    → Done (Finds space setting t start last total) (Err f) setting stands (tries_of space (view setting t) (scans start last 1 total)) t
fault_scanned f setting first stands space start last distance more total t is sofar done =
    let u = after_scans setting t space start last distance in
    let acts = ap (tries_of space (view setting t)) (others start last distance more total is)
    ∙ tries-append space (view setting t) (scans start last 1 (distance + 1)) (scans start last (1 + (distance + 1)) more) in
    subst (λ acts. Done (Finds space setting t start last total) (Err f) setting stands acts t) (sym acts)
    (stopped_done (Present setting u space (above start last (distance + 1))) (Finds space setting t start last total) f setting stands
    (tries_of space (view setting t) (scans start last 1 (distance + 1))) _ t
    (with_next (Err f) setting first stands space start last distance t sofar done))

-- what is found where the next number is absent, or present
found_of : (m : Database) (space : List ℕ) (number : ℕ) (absent : Bool) → absent ≡ not (is_recent space m number)
    → (if is_recent space m number then None else Some number) ≡ (if absent then Some number else None)
found_of m space number absent is = by (is_recent space m number) is
  where
    by : (here : Bool) → absent ≡ not here → (if here then None else Some number) ≡ (if absent then Some number else None)
    by true is = ap (λ (absent : Bool). if absent then Some number else None) (sym is)
    by false is = ap (λ (absent : Bool). if absent then Some number else None) (sym is)

found_next : (setting : Setting) (first : Transaction → Type 0) (space : List ℕ) (start last distance : ℕ) (t : Transaction) (absent : Bool)
    → Sofar setting first space (scans start last 1 distance) t
    → Present setting (after_scans setting t space start last distance) space (above start last (distance + 1)) absent
    → found_in space (view setting t) (scans start last 1 (distance + 1))
    ≡ (if absent then Some (above start last (distance + 1)) else None)
found_next setting first space start last distance t absent sofar is =
    let u = after_scans setting t space start last distance in
    let one = scanned_one start last (distance + 1) in
    ap (found_in space (view setting t)) (next start last distance)
    ∙ found_behind setting first space (scans start last 1 distance) (one ∷ []) t sofar
    ∙ found_one space (view setting u) one
    ∙ found_of (view setting u) space (above start last (distance + 1)) absent is

-- the next number was absent
pub found_scanned : (setting : Setting) (first stands : Transaction → Type 0) (space : List ℕ) (start last distance more total : ℕ)
    (t : Transaction) (absent : Bool)
    → distance + 1 + more ≡ total → absent ≡ true → Sofar setting first space (scans start last 1 distance) t
    → Next (Ok absent) setting stands space (above start last (distance + 1)) (after_scans setting t space start last distance)
    → Done (Finds space setting t start last total) (Ok (Some (above start last (distance + 1)))) setting stands
    (tries_of space (view setting t) (scans start last 1 total)) t
found_scanned setting first stands space start last distance more total t absent is found sofar done =
    let m = view setting t in
    let number = above start last (distance + 1) in
    let all = with_next (Ok absent) setting first stands space start last distance t sofar done in
    let here : found_in space m (scans start last 1 (distance + 1)) ≡ Some number =
    found_next setting first space start last distance t absent sofar done.1
    ∙ ap (λ (absent : Bool). if absent then Some number else None) found in
    let acts = ap (tries_of space m) (others start last distance more total is)
    ∙ tries_first space m (scans start last 1 (distance + 1)) (scans start last (1 + (distance + 1)) more) number here in
    let whole = ap (found_in space m) (others start last distance more total is)
    ∙ found_first space m (scans start last 1 (distance + 1)) (scans start last (1 + (distance + 1)) more) number here in
    subst (λ acts. Done (Finds space setting t start last total) (Ok (Some number)) setting stands acts t) (sym acts)
    (all.0, sym whole, all.2)

-- the next number was present
pub one_more_scanned : (setting : Setting) (first stands : Transaction → Type 0) (space : List ℕ) (start last distance : ℕ)
    (t : Transaction) (absent : Bool)
    → absent ≡ false → Sofar setting first space (scans start last 1 distance) t
    → Next (Ok absent) setting stands space (above start last (distance + 1)) (after_scans setting t space start last distance)
    → Sofar setting stands space (scans start last 1 (distance + 1)) t
one_more_scanned setting first stands space start last distance t absent present sofar done =
    let all = with_next (Ok absent) setting first stands space start last distance t sofar done in
    record {
      none = found_next setting first space start last distance t absent sofar done.1
          ∙ ap (λ (absent : Bool). if absent then Some (above start last (distance + 1)) else None) present;
      let_through = all.0;
      after = all.2;
    }

-- all were present
pub all_scanned : (setting : Setting) (stands : Transaction → Type 0) (space : List ℕ) (start last total : ℕ) (t : Transaction)
    → Sofar setting stands space (scans start last 1 total) t
    → Done (Finds space setting t start last total) (Ok None) setting stands (tries_of space (view setting t) (scans start last 1 total)) t
all_scanned setting stands space start last total t sofar = (sofar.let_through, sym sofar.none, sofar.after)
