-- The scope of a name, by what is left of it behind an operation's name.
use Rattle.std.proofs.Common.{◌≡◌, ℕ, Bool, true, false, ◌&&◌, List, [], ◌∷◌, ◌++◌, length, take, drop, nat_eq, bytes_eq, Some, None, codes, refl, sym, ap, ◌∙◌}
use Rattle.std.proofs.lemmas.List.{append-nil}
use Rattle.model_machine.specs.declared.Scope.TheVariants.{Snapshot}
use Rattle.model_machine.specs.Instructions.{read_scope, write_scope}

differs : (same front whole : Bool) → (front ≡ false → whole ≡ false) → (same && front) ≡ false → (same && whole) ≡ false
differs true front whole other e = other e
differs false front whole other e = refl

agrees : (same front whole end : Bool) → (front ≡ true → whole ≡ end) → (same && front) ≡ true → (same && whole) ≡ end
agrees true front whole end other e = other e
agrees false front whole end other e = absurd cc

-- a name that doesn't begin with a call's is none that does
other_name : (call name ending : List ℕ) → bytes_eq (take (length call) name) call ≡ false → bytes_eq name (call ++ ending) ≡ false
other_name [] name ending e = absurd cc
other_name (byte ∷ call) [] ending e = refl
other_name (byte ∷ call) (first ∷ name) ending e = differs (nat_eq first byte) _ _ (other_name call name ending) e

-- one that does is told by its ending
ending_tells : (call name ending : List ℕ) → bytes_eq (take (length call) name) call ≡ true
    → bytes_eq name (call ++ ending) ≡ bytes_eq (drop (length call) name) ending
ending_tells [] name ending e = refl
ending_tells (byte ∷ call) [] ending e = absurd cc
ending_tells (byte ∷ call) (first ∷ name) ending e = agrees (nat_eq first byte) _ _ _ (ending_tells call name ending) e

-- the same of the call's name alone
other_alone : (call name : List ℕ) → bytes_eq (take (length call) name) call ≡ false → bytes_eq name call ≡ false
other_alone call name e = ap (bytes_eq name) (sym (append-nil call)) ∙ other_name call name [] e

alone_tells : (call name : List ℕ) → bytes_eq (take (length call) name) call ≡ true → bytes_eq name call ≡ bytes_eq (drop (length call) name) []
alone_tells call name e = ap (bytes_eq name) (sym (append-nil call)) ∙ ending_tells call name [] e

pub read_scope-other : (call name : List ℕ) → bytes_eq (take (length call) name) call ≡ false → read_scope name call ≡ None
read_scope-other call name e =
    rw (other_alone call name e)
    rw (other_name call name (codes "_SNAPSHOT") e)
    rw (other_name call name (codes "_DATABASE") e)
    refl

pub write_scope-other : (call name : List ℕ) → bytes_eq (take (length call) name) call ≡ false → write_scope name call ≡ None
write_scope-other call name e =
    rw (other_alone call name e)
    rw (other_name call name (codes "_DATABASE") e)
    refl

pub read_scope-ending : (call name : List ℕ) → bytes_eq (take (length call) name) call ≡ true
    → read_scope name call ≡ read_scope (drop (length call) name) []
read_scope-ending call name e =
    rw (alone_tells call name e)
    rw (ending_tells call name (codes "_SNAPSHOT") e)
    rw (ending_tells call name (codes "_DATABASE") e)
    refl

pub write_scope-ending : (call name : List ℕ) → bytes_eq (take (length call) name) call ≡ true
    → write_scope name call ≡ write_scope (drop (length call) name) []
write_scope-ending call name e =
    rw (alone_tells call name e)
    rw (ending_tells call name (codes "_DATABASE") e)
    refl

-- the ending of a read by snapshot
snapshot_alone : (ending : List ℕ) → bytes_eq ending (codes "_SNAPSHOT") ≡ true → read_scope ending [] ≡ Some Snapshot
snapshot_alone [] e = absurd cc
snapshot_alone (first ∷ ending) e = rw e refl

pub read_scope-snapshot : (call name : List ℕ) → bytes_eq (take (length call) name) call ≡ true
    → bytes_eq (drop (length call) name) (codes "_SNAPSHOT") ≡ true → read_scope name call ≡ Some Snapshot
read_scope-snapshot call name e is = read_scope-ending call name e ∙ snapshot_alone (drop (length call) name) is

pub ruleset scopes = (read_scope-snapshot, read_scope-other, write_scope-other, read_scope-ending, write_scope-ending)
