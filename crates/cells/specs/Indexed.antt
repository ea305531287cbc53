-- The table by node number that evaluation and update read: for a signal the number of its cell, for a branch the first of its list; and behind
-- the numbers of 1,008 nodes each node's fields, by columns, and values.
-- Assumes nothing: these are definitions.
use Rattle.std.specs.Prelude.{◌≡◌, List, ℕ, ◌+◌, ◌*◌, ◌≤◌, ◌<◌, length, get_or}
use Rattle.rules.specs.Bytes.{Bytes}
use Rattle.rules.specs.Layout.{nodes, kind_at, type_at, a_at, b_at, c_at, word_at, no_next, cells_before}
use Rattle.rules.specs.Values.{packed, value_from}
use Rattle.rules.specs.Kinds.{is_signal, is_branch}
use Rattle.rules.specs.Shape.{named}
use Rattle.rules.specs.Shaped.{NodeOf}

-- Each branch is named as a child exactly once: it stands in one list, once.
abbrev pub ListedOnce : Bytes → Type 0
ListedOnce p = (n : ℕ) → NodeOf is_branch p n → named p n ≡ 1

-- For each signal the number of cells before it, which is the number of its own cell where it has one.
abbrev pub Numbers : Bytes → List ℕ → Type 0
Numbers p index = (i : ℕ) → NodeOf is_signal p i → get_or index i 0 ≡ cells_before p i

-- A change that leaves what the table has for signals.
abbrev pub SignalsKept : Bytes → List ℕ → List ℕ → Type 0
SignalsKept p before index = (i : ℕ) → NodeOf is_signal p i → get_or index i 0 ≡ get_or before i 0

-- The lists that the nodes from low on name: a group's first branch has its own number, a branch's next one what the branch has.
pub record ListedFrom (low : ℕ) (p : Bytes) (index : List ℕ) : Type 0 where
  pub room : nodes p ≤ length index
  pub firsts : (i : ℕ) → low ≤ i → NodeOf is_signal p i → kind_at p i ≡ 7 → get_or index (b_at p i) 0 ≡ b_at p i
  pub follows : (i : ℕ) → low ≤ i → NodeOf is_branch p i → (b_at p i ≡ no_next → ⊥) → get_or index (b_at p i) 0 ≡ get_or index i 0

-- All lists.
pub record Listed (p : Bytes) (index : List ℕ) : Type 0 where
  pub once : ListedOnce p
  pub room : nodes p ≤ length index
  pub firsts : (i : ℕ) → NodeOf is_signal p i → kind_at p i ≡ 7 → get_or index (b_at p i) 0 ≡ b_at p i
  pub follows : (i : ℕ) → NodeOf is_branch p i → (b_at p i ≡ no_next → ⊥) → get_or index (b_at p i) 0 ≡ get_or index i 0

-- The numbers, five columns of fields and four of the values' 16-bit parts.
abbrev pub table_room : ℕ
table_room = 10080

-- Where the columns begin: the kinds, the types, the fields a, b and c, and the values, four places each.
abbrev pub kinds_from : ℕ
kinds_from = 1008

abbrev pub types_from : ℕ
types_from = 2016

abbrev pub a_from : ℕ
a_from = 3024

abbrev pub b_from : ℕ
b_from = 4032

abbrev pub c_from : ℕ
c_from = 5040

abbrev pub values_from : ℕ
values_from = 6048

-- The number of 8 bytes in four places.
abbrev pub value_at : List ℕ → ℕ → ℕ
value_at index at = (get_or index at 0 + 65536 * get_or index (at + 1) 0) + 4294967296 * (get_or index (at + 2) 0 + 65536 * get_or index (at + 3) 0)

-- The row of node i: its kind, type, a, b and c, each in a column, and in four places the 8 bytes of the value that a delay or a constant has.
pub record Row (p : Bytes) (index : List ℕ) (i : ℕ) : Type 0 where
  pub kind_is : get_or index (kinds_from + i) 0 ≡ kind_at p i
  pub type_is : get_or index (types_from + i) 0 ≡ type_at p i
  pub a_is : get_or index (a_from + i) 0 ≡ a_at p i
  pub b_is : get_or index (b_from + i) 0 ≡ b_at p i
  pub c_is : get_or index (c_from + i) 0 ≡ c_at p i
  pub value_is : value_at index (values_from + 4 * i) ≡ packed (value_from (type_at p i) (b_at p i) (word_at p i))
  pub small : (kind_at p i < 256) × (type_at p i < 256)

-- A number put at one place, and a value's 8 bytes at four.
pub record Stored (before : List ℕ) (at x : ℕ) (index : List ℕ) : Type 0 where
  pub long : length index ≡ length before
  pub here : get_or index at 0 ≡ x
  pub other : (q : ℕ) → (q ≡ at → ⊥) → get_or index q 0 ≡ get_or before q 0

pub record Spread (before : List ℕ) (at v : ℕ) (index : List ℕ) : Type 0 where
  pub long : length index ≡ length before
  pub here : value_at index at ≡ v
  pub other : (q : ℕ) → ((k : ℕ) → k < 4 → q ≡ at + k → ⊥) → get_or index q 0 ≡ get_or before q 0

-- A place that is none of row i's.
pub record Outside (i q : ℕ) : Type 0 where
  pub columns : (k : ℕ) → 1 ≤ k → k ≤ 5 → q ≡ 1008 * k + i → ⊥
  pub values : (k : ℕ) → k < 4 → q ≡ (values_from + 4 * i) + k → ⊥

-- A change of row i alone.
pub record Elsewhere (i : ℕ) (before index : List ℕ) : Type 0 where
  pub long : length index ≡ length before
  pub kept : (q : ℕ) → Outside i q → get_or index q 0 ≡ get_or before q 0

-- The whole table.
pub record Indexed (p : Bytes) (index : List ℕ) : Type 0 where
  pub once : ListedOnce p
  pub room : nodes p ≤ length index
  pub numbers : Numbers p index
  pub firsts : (i : ℕ) → NodeOf is_signal p i → kind_at p i ≡ 7 → get_or index (b_at p i) 0 ≡ b_at p i
  pub follows : (i : ℕ) → NodeOf is_branch p i → (b_at p i ≡ no_next → ⊥) → get_or index (b_at p i) 0 ≡ get_or index i 0
  pub far : table_room ≤ length index
  pub rows : (i : ℕ) → i < nodes p → Row p index i
