-- The visible attributes of a message: ordinary ones, then MESSAGE-INTEGRITY, MESSAGE-INTEGRITY-SHA256,
-- MESSAGE-INTEGRITY-SHA512 and FINGERPRINT, each at most once (RFC 8489, sections 14.5 to 14.7). This order
-- of types is called the shape.
use Rattle.std.specs.Prelude.{◌≡◌, ◌⊎◌, ℕ, ◌≤◌, Bool, ◌||◌, ◌&&◌, ◌==◌, nat_lt, List, [], ◌∷◌, ◌++◌, map, length, drop, sum_by, if◌then◌else◌}
use Rattle.std.specs.List.{AllByRecursion}
use Rattle.stun_types_wire.specs.Attributes.{Attr, attr_size, attributes}
use Rattle.stun_types_wire.specs.Registry.{fingerprint_kind, integrity_kind, sha256_kind, sha512_kind}

-- The position of a type in the order of the four that end a message, from 1 to 4. It is 0 for any other
-- type.
abbrev pub rank : ℕ → ℕ
rank kind =
    if kind == integrity_kind then 1
    else if kind == sha256_kind then 2
    else if kind == sha512_kind then 3
    else if kind == fingerprint_kind then 4
    else 0

-- Whether a type of rank `next` may follow one of rank `before`.
abbrev pub may_follow : ℕ → ℕ → Bool
may_follow before next = (before == 0 && next == 0) || nat_lt before next

-- ---- the shape, as a pattern

-- The list has this type once and nothing else, or is empty.
abbrev pub IsOptional : ℕ → List ℕ → Type 0
IsOptional kind kinds = (kinds ≡ []) ⊎ (kinds ≡ kind ∷ [])

-- The types are in the shape: ordinary types, then each of the four ending ones at most once, in their order.
pub record IsShape (kinds : List ℕ) : Type 0 where
  pub ordinary : List ℕ
  pub integrity : List ℕ
  pub sha256 : List ℕ
  pub sha512 : List ℕ
  pub fingerprint : List ℕ
  pub parts : kinds ≡ ordinary ++ (integrity ++ (sha256 ++ (sha512 ++ fingerprint)))
  pub each : AllByRecursion (λ kind. rank kind ≡ 0) ordinary
  pub first : IsOptional integrity_kind integrity
  pub second : IsOptional sha256_kind sha256
  pub third : IsOptional sha512_kind sha512
  pub fourth : IsOptional fingerprint_kind fingerprint

-- The types of the attributes.
abbrev pub kinds_of : List Attr → List ℕ
kinds_of all = map (λ a. a.kind) all

-- `head` is the longest prefix of `all` that is in the shape.
pub record IsLongestPrefix (head all : List Attr) : Type 0 where
  pub following : List Attr
  pub parts : all ≡ head ++ following
  pub shape : IsShape (kinds_of head)
  pub longest : (other rest : List Attr) → all ≡ other ++ rest → IsShape (kinds_of other) → length other ≤ length head

-- ---- the head that is visible

-- The longest prefix in the shape, of a list that follows an attribute of rank `before`.
unfoldable pub shape_prefix : ℕ → List Attr → List Attr
shape_prefix before [] = []
shape_prefix before (a ∷ rest) = if may_follow before (rank a.kind) then a ∷ shape_prefix (rank a.kind) rest else []

-- The rank of the last attribute, or `before` if there is none.
unfoldable pub last_rank : ℕ → List Attr → ℕ
last_rank before [] = before
last_rank before (a ∷ rest) = last_rank (rank a.kind) rest

-- The visible attributes in bytes that follow an attribute of rank `before`.
unfoldable pub visible_after : ℕ → List ℕ → List Attr
visible_after before bytes = shape_prefix before (attributes bytes)

-- The bytes after the visible attributes.
unfoldable pub after_visible : ℕ → List ℕ → List ℕ
after_visible before bytes = drop (sum_by attr_size (visible_after before bytes)) bytes

-- The rank of the last visible attribute, or `before` if there is none.
unfoldable pub visible_rank : ℕ → List ℕ → ℕ
visible_rank before bytes = last_rank before (visible_after before bytes)
