-- The tree without regard to kinds, tidied: what it uses, its order, its records; and what the table says of it.
-- Assumes nothing: these are definitions.
use Rattle.std.specs.Prelude.{if◌then◌else◌}
use mathlib.Core.Path.{◌≡◌}
use mathlib.Core.List.{List, [], ◌∷◌, ◌++◌}
use mathlib.Core.Bool.{Bool, true, false, not}
use Prim.Native.Nat.{ℕ, ◌+◌, ◌≤◌, ◌<◌}
use lib.Dec.{eqb}
use Rattle.rules.specs.Bytes.{Bytes, ◌and◌, ◌or◌}
use Rattle.rules.specs.Kinds.{fields_of}
use Rattle.rules.specs.Layout.{nodes, kind_at, type_at, a_at, b_at, c_at, word_at}
use Rattle.rules.specs.Shape.{is_child}
use Rattle.written.specs.Parts.{Part, part, Slot}
use Rattle.tidy.specs.Twig.{Twig, twig, Limb, holds, child, held_in}
use Rattle.tidy.specs.Sweep.{gone_let}

unfoldable pub top_t : Twig → ℕ
top_t (twig n k t w a b c) = n

-- Whether it names a variable.
unfoldable mutual
  pub uses_t : Twig → ℕ → Bool
  uses_t (twig n k t w a b c) x = if eqb k 16 then eqb (held_in a) x else (uses_l a x or uses_l b x or uses_l c x)

  pub uses_l : Limb → ℕ → Bool
  uses_l (holds y) x = false
  uses_l (child y t) x = uses_t t x

-- A let goes whose tidied body does not name it.
unfoldable pub goes_by : ℕ → ℕ → Limb → Bool
goes_by n k b = eqb k 5 and not (uses_l b n)

unfoldable pub over_t : Twig → Limb → Bool → Twig
over_t t (holds x) gone = t
over_t t (child x b) gone = if gone then b else t

unfoldable mutual
  pub prune_t : Twig → Twig
  prune_t (twig n k t w a b c) = over_t (twig n k t w (prune_l a) (prune_l b) (prune_l c)) (prune_l b) (goes_by n k (prune_l b))

  pub prune_l : Limb → Limb
  prune_l (holds x) = holds x
  prune_l (child x t) = child x (prune_t t)

-- Its nodes, children first in field order.
unfoldable mutual
  pub order_t : Twig → List ℕ
  order_t (twig n k t w a b c) = order_l a ++ (order_l b ++ (order_l c ++ n ∷ []))

  pub order_l : Limb → List ℕ
  order_l (holds x) = []
  order_l (child x t) = order_t t

-- The list of the walk.
unfoldable pub listed : ℕ → Bool → List ℕ → List ℕ → List ℕ → List ℕ
listed n gone a b c = if gone then b ++ gone_let n ∷ [] else a ++ (b ++ (c ++ n ∷ []))

unfoldable mutual
  pub names_t : Twig → List ℕ
  names_t (twig n k t w a b c) = listed n (goes_by n k (prune_l b)) (names_l a) (names_l b) (names_l c)

  pub names_l : Limb → List ℕ
  names_l (holds x) = []
  names_l (child x t) = names_t t

-- Its records: binders and targets are given new numbers by φ.
unfoldable pub slot_by : Bool → (ℕ → ℕ) → ℕ → Slot
slot_by true φ x = Slot.holds (φ x)
slot_by false φ x = Slot.holds x

unfoldable mutual
  pub part_t : Twig → (ℕ → ℕ) → Part
  part_t (twig n k t w a b c) φ = part k t w (slot_l a φ (eqb k 16)) (slot_l b φ false) (slot_l c φ (eqb k 10))

  pub slot_l : Limb → (ℕ → ℕ) → Bool → Slot
  slot_l (holds x) φ name = slot_by name φ x
  slot_l (child x t) φ name = Slot.child (part_t t φ)

-- What the table says of it.
abbrev pub IsHeld : Limb → Type 0
IsHeld (holds x) = Unit {0}
IsHeld (child x t) = ⊥

abbrev pub IsChild : Limb → Type 0
IsChild (holds x) = ⊥
IsChild (child x t) = Unit {0}

-- A field that is for a child holds one, or a number that is none's.
abbrev pub Flagged : Bool → Limb → Type 0
Flagged yes₀ (holds x) = yes₀ ≡ true → 1024 ≤ x
Flagged yes₀ (child x t) = yes₀ ≡ true

pub record Here (p : Bytes) (n k t w : ℕ) (a b c : Limb) : Type 0 where
  pub inside : n < nodes p
  pub small : n < 1008
  pub kind_is : k ≡ kind_at p n
  pub type_is : t ≡ type_at p n
  pub word_is : w ≡ word_at p n
  pub a_is : held_in a ≡ a_at p n
  pub b_is : held_in b ≡ b_at p n
  pub c_is : held_in c ≡ c_at p n
  pub a_flag : Flagged (is_child (fields_of k).a) a
  pub b_flag : Flagged (is_child (fields_of k).b) b
  pub c_flag : Flagged (is_child (fields_of k).c) c
  pub variable : k ≡ 16 → IsHeld a × IsHeld b × IsHeld c
  pub body : k ≡ 5 → IsChild b × IsHeld c

abbrev mutual
  pub From : Twig → Bytes → Type 0
  From (twig n k t w a b c) p = Here p n k t w a b c × FromL a p n × FromL b p n × FromL c p n

  pub FromL : Limb → Bytes → ℕ → Type 0
  FromL (holds x) p n = Unit {0}
  FromL (child x t) p n = (x < n) × (top_t t ≡ x) × From t p
