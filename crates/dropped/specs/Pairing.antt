-- A pairing of a new program's nodes with an old one's, and which of its entries is wrong (request n).
-- Assumes nothing: these are definitions.
use Rattle.std.specs.Prelude.{ℕ, zero, suc, ◌-◌, List, Bool, false, not, get_or, eqb, ltb, if◌then◌else◌, Option}
use Rattle.rules.specs.Bytes.{Bytes, first, ◌and◌, ◌or◌}
use Rattle.rules.specs.Layout.{nodes, kind_at, type_at, a_at, b_at, c_at, word_at, no_next}
use Rattle.rules.specs.Kinds.{fields_of}
use Rattle.rules.specs.declared.Field.{Field}
use Rattle.rules.specs.declared.Field.TheVariants.{Unused, Channel, PresentByte, Signal, Expression, FirstBranch, NextBranch, FirstCase, NextCase, Binder, Target}

-- For each new node, its old one.
abbrev pub Pairing : Type 0
Pairing = List ℕ

unfoldable pub old_of : Pairing → ℕ → ℕ
old_of pairing i = get_or pairing i no_next

-- A node that is reached from another through the bodies of zero or more lets, of so many at most. (Since children's numbers fall, x + 1 are all.)
unfoldable pub reaches_f : ℕ → Bytes → ℕ → ℕ → Bool
reaches_f zero p x y = false
reaches_f (suc f) p x y = eqb x y or (eqb (kind_at p x) 5 and reaches_f f p (b_at p x) y)

unfoldable pub reaches : Bytes → ℕ → ℕ → Bool
reaches p x y = reaches_f (suc x) p x y

-- A field of a new node, x, beside the same field of its old one, y: a plain field is the same; a child is paired with a node reached from the old
-- child; there is a next exactly where the old one has one; binder and target are paired with the old binder and target.
-- (count is the number of new nodes: others have no entry.)
unfoldable pub field_right : Bytes → ℕ → (ℕ → ℕ) → Field → ℕ → ℕ → Bool
field_right p count π Unused x y = eqb x y
field_right p count π Channel x y = eqb x y
field_right p count π PresentByte x y = eqb x y
field_right p count π Signal x y = reaches p y (π x)
field_right p count π Expression x y = reaches p y (π x)
field_right p count π FirstBranch x y = reaches p y (π x)
field_right p count π NextBranch x y = if eqb x no_next then eqb y no_next else not (eqb y no_next) and reaches p y (π x)
field_right p count π FirstCase x y = reaches p y (π x)
field_right p count π NextCase x y = if eqb x no_next then eqb y no_next else not (eqb y no_next) and reaches p y (π x)
field_right p count π Binder x y = ltb x count and eqb (π x) y
field_right p count π Target x y = ltb x count and eqb (π x) y

-- Entry i is right: it names an old node with the same kind, type and fields; the last one is reached from the old root.
unfoldable pub entry_right : Bytes → Bytes → (ℕ → ℕ) → ℕ → Bool
entry_right p q π i =
    let f = fields_of (kind_at q i) in
    ltb (π i) (nodes p)
    and eqb (kind_at q i) (kind_at p (π i))
    and eqb (type_at q i) (type_at p (π i))
    and eqb (word_at q i) (word_at p (π i))
    and field_right p (nodes q) π f.a (a_at q i) (a_at p (π i))
    and field_right p (nodes q) π f.b (b_at q i) (b_at p (π i))
    and field_right p (nodes q) π f.c (c_at q i) (c_at p (π i))
    and (not (eqb (suc i) (nodes q)) or reaches p (nodes p - 1) (π i))

unfoldable pub entry_wrong : Bytes → Bytes → Pairing → ℕ → Bool
entry_wrong p q pairing i = not (entry_right p q (old_of pairing) i)

-- Code 28: the first wrong entry.
unfoldable pub pairing_fault : Bytes → Bytes → Pairing → Option ℕ
pairing_fault p q pairing = first (entry_wrong p q pairing) (nodes q)
