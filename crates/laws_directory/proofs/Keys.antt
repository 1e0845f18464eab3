-- Keys of a layer that are of different kinds differ: entries, layer names, the version and those of the allocator.
use Rattle.std.proofs.Common.{◌≡◌, ℕ, pos, ◌≤◌, Bool, true, false, List, [], ◌∷◌, ◌++◌, Result, Ok, Err, refl, sym, ap, ◌∙◌, arith, append_assoc}
use Rattle.std.specs.Prelude.{not, ◌&&◌, bytes_eq, codes}
use Rattle.std.proofs.lemmas.Bool.{and_parts, not-true}
use Rattle.std.proofs.lemmas.List.{append-nil, append_cancel_left}
use Rattle.std.proofs.lemmas.Slice.Eq.{bytes_eq-Decides}
use Rattle.key_bytes.specs.Keys.{key_lt, within}
use Rattle.key_bytes.proofs.Orders.{head_ge, head_le, lt_rest}
use Rattle.fdb_tuple.specs.declared.fault.UnpackFault.{UnpackFault}
use Rattle.fdb_tuple.specs.Tuples.{Empty, Single, Text, Int}
use Rattle.fdb_tuple.specs.Zeros.{IsNoEscape}
use Rattle.fdb_tuple.specs.Spelling.{spelling, string_spelled, signed_spelled, least_bytes, low_first}
use Rattle.fdb_tuple.proofs.StringLaws.{string_again}
use Rattle.fdb_tuple.specs.Reading.{string_at}
use Rattle.model_database.specs.Databases.{Set}
use Rattle.model_allocator.specs.Counters.{counter_key, recent_key}
use Rattle.directory_types.specs.declared.Layer.{Layer}
use Rattle.model_directory.specs.Nodes.{packed_bytes, node_of, entry_of, layer_key, version_key, version_now, allocator_of}
use Rattle.laws_directory.proofs.Planning.{MayAllocate}
use Rattle.laws_directory.proofs.Seeing.{spares}

-- ---- what stands behind a packed byte string

abbrev rest_of : Result (List ℕ × List ℕ) UnpackFault → List ℕ
rest_of (Ok read) = read.1
rest_of (Err fault) = []

-- it is told by where the byte string ends
behind_string : (one other x y : List ℕ) → IsNoEscape x → IsNoEscape y → string_spelled one ++ x ≡ string_spelled other ++ y → x ≡ y
behind_string one other x y x_end y_end same =
    ap rest_of (sym (string_again 0 one x x_end) ∙ ap (string_at 0) same ∙ string_again 0 other y y_end)

pub node_bytes : (layer : Layer) (prefix x : List ℕ) → node_of layer prefix ++ x ≡ layer.node ++ (1 ∷ (string_spelled prefix ++ x))
node_bytes layer prefix x =
    append_assoc layer.node (packed_bytes prefix) x
    ∙ ap (λ packed. layer.node ++ (packed ++ x)) (append-nil (1 ∷ string_spelled prefix))

-- keys of nodes that are the same say the same behind their nodes
behind_node : (layer : Layer) (one other x y : List ℕ) → IsNoEscape x → IsNoEscape y → node_of layer one ++ x ≡ node_of layer other ++ y
    → x ≡ y
behind_node layer one other x y x_end y_end same =
    let bytes : 1 ∷ (string_spelled one ++ x) ≡ 1 ∷ (string_spelled other ++ y) =
    append_cancel_left layer.node _ _ (sym (node_bytes layer one x) ∙ same ∙ node_bytes layer other y) in
    let strings : string_spelled one ++ x ≡ string_spelled other ++ y = cc in
    behind_string one other x y x_end y_end strings

-- ---- what a key says behind its node

abbrev pub entry_tail : List ℕ → List ℕ
entry_tail name = spelling (Single (Int (pos 0)) (Single (Text name) Empty))

entry_begins : (name : List ℕ) → entry_tail name ≡ 20 ∷ spelling (Single (Text name) Empty)
unfolding signed_spelled least_bytes low_first
entry_begins name = refl

entry_no_escape : (name : List ℕ) → IsNoEscape (entry_tail name)
entry_no_escape name = rw (entry_begins name) (λ e. omega arith)

-- what a list that begins with 1 is not
not_entry : (name x : List ℕ) → entry_tail name ≡ 1 ∷ x → ⊥
not_entry name x same = let begins : 20 ∷ spelling (Single (Text name) Empty) ≡ 1 ∷ x = sym (entry_begins name) ∙ same in cc

differ : (one other : List ℕ) → (one ≡ other → ⊥) → bytes_eq one other ≡ false
differ one other apart = by (bytes_eq one other) refl
  where
    by : (same : Bool) → bytes_eq one other ≡ same → same ≡ false
    by true is = absurd (apart ((bytes_eq-Decides one other).0 is))
    by false is = refl

-- an entry is no key of a layer name
pub entry_is_no_layer : (layer : Layer) (one other name : List ℕ)
    → bytes_eq (entry_of (node_of layer one) name) (layer_key (node_of layer other)) ≡ false
entry_is_no_layer layer one other name =
    differ (entry_of (node_of layer one) name) (layer_key (node_of layer other))
    (λ same. not_entry name _
    (behind_node layer one other (entry_tail name) (packed_bytes (codes "layer")) (entry_no_escape name) (λ e. omega arith) same))

pub layer_is_no_entry : (layer : Layer) (one other name : List ℕ)
    → bytes_eq (layer_key (node_of layer other)) (entry_of (node_of layer one) name) ≡ false
layer_is_no_entry layer one other name =
    differ (layer_key (node_of layer other)) (entry_of (node_of layer one) name)
    (λ same. not_entry name _
    (behind_node layer one other (entry_tail name) (packed_bytes (codes "layer")) (entry_no_escape name) (λ e. omega arith) (sym same)))

-- ---- keys that neither the version nor the allocator is at

pub record IsOfNode (layer : Layer) (key : List ℕ) : Type 0 where
  pub no_version : bytes_eq key (version_key layer) ≡ false
  pub not_allocator : (rest : List ℕ) → key ≡ allocator_of layer ++ rest → ⊥

allocator_bytes : (layer : Layer) (rest : List ℕ)
    → allocator_of layer ++ rest ≡ node_of layer layer.node ++ (packed_bytes (codes "hca") ++ rest)
allocator_bytes layer rest = append_assoc (node_of layer layer.node) (packed_bytes (codes "hca")) rest

pub entry_of_node : (layer : Layer) (prefix name : List ℕ) → IsOfNode layer (entry_of (node_of layer prefix) name)
entry_of_node layer prefix name = record {
  no_version = differ (entry_of (node_of layer prefix) name) (version_key layer)
      (λ same. not_entry name _
      (behind_node layer prefix layer.node (entry_tail name) (packed_bytes (codes "version")) (entry_no_escape name)
      (λ e. omega arith) same));
  not_allocator = λ rest same. not_entry name _ (behind_node layer prefix layer.node (entry_tail name) (packed_bytes (codes "hca") ++ rest)
      (entry_no_escape name) (λ e. omega arith) (same ∙ allocator_bytes layer rest));
}

pub layer_of_node : (layer : Layer) (prefix : List ℕ) → IsOfNode layer (layer_key (node_of layer prefix))
layer_of_node layer prefix = record {
  no_version = differ (layer_key (node_of layer prefix)) (version_key layer)
      (λ same. others (behind_node layer prefix layer.node (packed_bytes (codes "layer")) (packed_bytes (codes "version"))
      (λ e. omega arith)
      (λ e. omega arith) same));
  not_allocator = λ rest same. allocators rest (behind_node layer prefix layer.node (packed_bytes (codes "layer"))
      (packed_bytes (codes "hca") ++ rest) (λ e. omega arith) (λ e. omega arith) (same ∙ allocator_bytes layer rest));
}
  where
    others : packed_bytes (codes "layer") ≡ packed_bytes (codes "version") → ⊥
    others same = cc

    allocators : (rest : List ℕ) → packed_bytes (codes "layer") ≡ packed_bytes (codes "hca") ++ rest → ⊥
    allocators rest same = cc

-- ---- ranges

-- a key between two that begin alike begins so
within_begins : (space x y key : List ℕ) → within (space ++ x) (space ++ y) key ≡ true → (rest : List ℕ) × (key ≡ space ++ rest)
within_begins [] x y key inside = (key, refl)
within_begins (b ∷ space) x y [] inside = absurd cc
within_begins (b ∷ space) x y (c ∷ key) inside =
    let both = and_parts (not (key_lt (c ∷ key) (b ∷ (space ++ x)))) (key_lt (c ∷ key) (b ∷ (space ++ y))) inside in
    let above : key_lt (c ∷ key) (b ∷ (space ++ x)) ≡ false = not-true (key_lt (c ∷ key) (b ∷ (space ++ x))) both.0 in
    let most : b ≤ c = head_ge c b key (space ++ x) above in
    let least : c ≤ b = head_le c b key (space ++ y) both.1 in
    let same : c ≡ b = omega arith in
    let rest = within_begins space x y key
    (within_from (key_lt key (space ++ x)) (key_lt key (space ++ y)) (sym (lt_rest c b key (space ++ x) same) ∙ above)
    (sym (lt_rest c b key (space ++ y) same) ∙ both.1)) in
    (rest.0, ap (λ first. first ∷ key) same ∙ ap (λ list. b ∷ list) rest.1)
  where
    within_from : (low high : Bool) → low ≡ false → high ≡ true → (not low && high) ≡ true
    within_from true high is other = absurd cc
    within_from false high is other = other

outside : (space x y key : List ℕ) → ((rest : List ℕ) → key ≡ space ++ rest → ⊥) → within (space ++ x) (space ++ y) key ≡ false
outside space x y key apart = by (within (space ++ x) (space ++ y) key) refl
  where
    by : (inside : Bool) → within (space ++ x) (space ++ y) key ≡ inside → inside ≡ false
    by true is = absurd (let begins = within_begins space x y key is in apart begins.0 begins.1)
    by false is = refl

-- so neither the version's write nor those of the allocator touch the key
pub version_spares : (layer : Layer) (key : List ℕ) → IsOfNode layer key → spares key (Set (version_key layer) version_now) ≡ true
version_spares layer key other = ap not other.no_version

pub allocator_spares : (layer : Layer) (key : List ℕ) → IsOfNode layer key → MayAllocate (spares key) (allocator_of layer)
allocator_spares layer key other = record {
  counted = λ start. ap not (differ key (counter_key (allocator_of layer) start) (other.not_allocator _));
  counters_cleared = λ start. ap not (outside (allocator_of layer) _ _ key other.not_allocator);
  numbers_cleared = λ start. ap not (outside (allocator_of layer) _ _ key other.not_allocator);
  tried = λ number. ap not (differ key (recent_key (allocator_of layer) number) (other.not_allocator _));
}
