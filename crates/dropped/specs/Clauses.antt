-- Which clause of request n's sentence an entry breaks, in the order of its words; 0 where it is right:
-- 1 "it names an old node"; 2 "with the same kind, type and plain fields"; 3 "and a next exactly where that has one"; 4, 5, 6 "each new child", of
-- field a, b, c, "is paired with a node reached from the old child of that field through the bodies of zero or more lets"; 7 "binder and target are
-- paired with the old binder and target"; 8 "for the last entry, .. it is so reached from the old root".
-- Assumes nothing: these are definitions.
use Rattle.rules.specs.Verdicts.{Verdict}
use Rattle.std.specs.Prelude.{ℕ, suc, ◌-◌, Bool, not, eqb, ltb, if◌then◌else◌, Option, Some, None, Ok, Err}
use Rattle.rules.specs.Bytes.{Bytes, ◌and◌, ◌or◌}
use Rattle.rules.specs.Layout.{nodes, kind_at, type_at, a_at, b_at, c_at, word_at, no_next}
use Rattle.rules.specs.Kinds.{fields_of}
use Rattle.rules.specs.Calls.{program_verdict}
use Rattle.rules.specs.declared.Field.{Field}
use Rattle.rules.specs.declared.Field.TheVariants.{Unused, Channel, PresentByte, Signal, Expression, FirstBranch, NextBranch, FirstCase, NextCase, Binder, Target}
use Rattle.rules.specs.declared.Fields.{Fields}
use Rattle.dropped.specs.Pairing.{Pairing, old_of, reaches}
use Rattle.dropped.specs.declared.Clause.{Clause}
use Rattle.dropped.specs.declared.Clause.TheVariants.{OldNode, PlainFields, Next, ChildA, ChildB, ChildC, Named, Root}

-- The number of a clause; 0 of none.
abbrev pub number_of : Clause → ℕ
number_of OldNode = 1
number_of PlainFields = 2
number_of Next = 3
number_of ChildA = 4
number_of ChildB = 5
number_of ChildC = 6
number_of Named = 7
number_of Root = 8

abbrev pub number_in : Option Clause → ℕ
number_in None = 0
number_in (Some clause) = number_of clause

-- A clause, where its test fails; and the first of two clauses.
unfoldable pub unless : Bool → ℕ → ℕ
unless right clause = if right then 0 else clause

unfoldable pub earlier : ℕ → ℕ → ℕ
earlier a b = if eqb a 0 then b else if eqb b 0 then a else if ltb b a then b else a

-- A next, x of the new node and y of the old one.
unfoldable pub next_broken : Bytes → (ℕ → ℕ) → ℕ → ℕ → ℕ → ℕ
next_broken p π child x y =
    if eqb x no_next then unless (eqb y no_next) 3
    else if eqb y no_next then 3
    else unless (reaches p y (π x)) child

-- A field of a new node, x, beside the same field of its old one, y; child is the clause of a child in that field.
unfoldable pub field_broken : Bytes → ℕ → (ℕ → ℕ) → ℕ → Field → ℕ → ℕ → ℕ
field_broken p count π child Unused x y = unless (eqb x y) 2
field_broken p count π child Channel x y = unless (eqb x y) 2
field_broken p count π child PresentByte x y = unless (eqb x y) 2
field_broken p count π child Signal x y = unless (reaches p y (π x)) child
field_broken p count π child Expression x y = unless (reaches p y (π x)) child
field_broken p count π child FirstBranch x y = unless (reaches p y (π x)) child
field_broken p count π child NextBranch x y = next_broken p π child x y
field_broken p count π child FirstCase x y = unless (reaches p y (π x)) child
field_broken p count π child NextCase x y = next_broken p π child x y
field_broken p count π child Binder x y = unless (ltb x count and eqb (π x) y) 7
field_broken p count π child Target x y = unless (ltb x count and eqb (π x) y) 7

-- The three fields of a node: a, b and c of the new one, then those of the old one.
unfoldable pub fields_broken : Bytes → ℕ → (ℕ → ℕ) → Fields → ℕ → ℕ → ℕ → ℕ → ℕ → ℕ → ℕ
fields_broken p count π f a b c a' b' c' =
    earlier (field_broken p count π 4 f.a a a')
    (earlier (field_broken p count π 5 f.b b b') (field_broken p count π 6 f.c c c'))

-- A node of the kind of its old one, j.
unfoldable pub node_broken : Bytes → Bytes → (ℕ → ℕ) → ℕ → ℕ → ℕ
node_broken p q π i j =
    earlier (unless (eqb (type_at q i) (type_at p j) and eqb (word_at q i) (word_at p j)) 2)
    (earlier (fields_broken p (nodes q) π (fields_of (kind_at q i)) (a_at q i) (b_at q i) (c_at q i) (a_at p j) (b_at p j) (c_at p j))
    (unless (not (eqb (suc i) (nodes q)) or reaches p (nodes p - 1) j) 8))

-- Entry i.
unfoldable pub entry_broken : Bytes → Bytes → (ℕ → ℕ) → ℕ → ℕ
entry_broken p q π i =
    if ltb (π i) (nodes p) then (if eqb (kind_at q i) (kind_at p (π i)) then node_broken p q π i (π i) else 2)
    else 1

-- What is told of an entry: 0 also where there is none to judge, since a program is refused or there is no such new node.
unfoldable pub clause_of : Bytes → Bytes → Pairing → ℕ → Verdict → Verdict → ℕ
clause_of p q pairing i (Err r) w = 0
clause_of p q pairing i (Ok _) (Err r) = 0
clause_of p q pairing i (Ok _) (Ok _) = if ltb i (nodes q) then entry_broken p q (old_of pairing) i else 0

unfoldable pub clause_call : Bytes → Bytes → Pairing → ℕ → ℕ
clause_call p q pairing i = clause_of p q pairing i (program_verdict p) (program_verdict q)
