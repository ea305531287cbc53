-- Names to numbers: a printed name stands for the node that it was printed for, so each row is the table's record again.
-- Assumes nothing.
use mathlib.Core.Path.{◌≡◌, refl, sym, ap, ◌∙◌}
use mathlib.Core.Bool.{Bool, true, false}
use mathlib.Core.List.{List, [], ◌∷◌, ◌++◌, map, append_assoc}
use Prim.Native.Nat.{ℕ, zero, suc, ◌+◌, ◌<◌, ◌≤◌}
use native.Mathlib.Omega.{arith}
use lib.Dec.{eqb}
use borrow.Author.Tests.{eqb-true, eqb-false}
use Rattle.rules.specs.Bytes.{Bytes}
use Rattle.rules.specs.Layout.{kind_at, type_at, a_at, b_at, c_at, word_at}
use Rattle.rules.specs.Kinds.{row, fields_of}
use Rattle.rules.specs.declared.Node.{Node}
use Rattle.rules.specs.declared.TypeField.{TypeField}
use Rattle.rules.specs.declared.TypeField.TheVariants.{NoType, AnyType, PlainType, ValueType}
use Rattle.texts.specs.Spelled.{same}
use Rattle.texts.specs.Rows.{Row}
use Rattle.texts.specs.Resolved.{number_of, binder_of, branch_of, record_of}
use Rattle.texts.specs.Printer.{variable_name, branch_name}
use Rattle.texts.proofs.Gives.{same_refl}
use Rattle.texts.proofs.Decimals.{by_test}
use Rattle.texts.proofs.NameLaws.{names_differ, branches_differ}
use Rattle.texts.proofs.Laid.{inner_of, name_of}
use Rattle.texts.proofs.NodeLaws.{binds_of, own_of, row_as, row_of, first_rows}

-- A record by its fields; and the record of a node of a table.
abbrev pub node : ℕ → ℕ → ℕ → ℕ → ℕ → ℕ → Node
node k t x y z w = record { kind = k; ty = t; a = x; b = y; c = z; word = w }

unfoldable pub record_in : Bytes → ℕ → Node
record_in q n = node (kind_at q n) (type_at q n) (a_at q n) (b_at q n) (c_at q n) (word_at q n)

-- Records of rows one after another.
pub map_join : (g : Row → Node) (xs ys : List Row) → map g (xs ++ ys) ≡ map g xs ++ map g ys
map_join g [] ys = refl
map_join g (x ∷ xs) ys = ap {B = List Node} (λ zs. g x ∷ zs) (map_join g xs ys)

-- Rows that a test does not pick are passed.
skip_rows : (test : Row → Bool) (q : Bytes) (m k : ℕ) (ys : List Row) → ((j : ℕ) → j < m → test (row_of q j) ≡ false)
    → number_of test k (first_rows q m ++ ys) ≡ number_of test (k + m) ys
unfolding first_rows number_of
skip_rows test q zero k ys miss = ap (λ (x : ℕ). number_of test x ys) (omega arith)
skip_rows test q (suc m) k ys miss =
    ap (number_of test k) (append_assoc (first_rows q m) (row_of q m ∷ []) ys)
    ∙ skip_rows test q m k (row_of q m ∷ ys) (λ j l. miss j (omega arith))
    ∙ rw (miss m (omega arith), number_of) (ap (λ (x : ℕ). number_of test x ys) (omega arith))

below_last : (m N : ℕ) → m < suc N → (m ≡ N → ⊥) → m < N
below_last m N h d = omega arith

-- The row of node m among the first rows.
split_rows : (q : Bytes) (N m : ℕ) → m < N → (rest : List Row) × (first_rows q N ≡ first_rows q m ++ (row_of q m ∷ rest))
unfolding first_rows
split_rows q zero m h = absurd (omega arith)
split_rows q (suc N) m h =
    by_test (eqb m N)
    (λ t. ([], ap (λ (x : ℕ). first_rows q x ++ row_of q x ∷ []) (sym (eqb-true m N t))))
    (λ t. let p = split_rows q N m (below_last m N h (eqb-false m N t)) in
    (p.0 ++ row_of q N ∷ [], ap (λ (xs : List Row). xs ++ row_of q N ∷ []) p.1 ∙ append_assoc (first_rows q m) (row_of q m ∷ p.0) (row_of q N ∷ [])))

pub number_is : (test : Row → Bool) (q : Bytes) (N m : ℕ) → m < N → test (row_of q m) ≡ true → ((j : ℕ) → j < m → test (row_of q j) ≡ false)
    → number_of test 0 (first_rows q N) ≡ m
unfolding number_of
number_is test q N m h hit miss =
    let p = split_rows q N m h in
    ap (number_of test 0) p.1 ∙ skip_rows test q m 0 (row_of q m ∷ p.0) miss ∙ rw (hit, number_of) (omega arith)

-- A row binds its own name or none.
other_name : (m j : ℕ) (ty : TypeField) → m < 1008 → j < 1008 → (m ≡ j → ⊥) → same (variable_name m) (binds_of ty j) ≡ false
unfolding binds_of same variable_name
other_name m j NoType h l d = refl
other_name m j AnyType h l d = names_differ m j h l d
other_name m j PlainType h l d = names_differ m j h l d
other_name m j ValueType h l d = refl

other_row : (q : Bytes) (m j : ℕ) → m < 1008 → j < 1008 → (m ≡ j → ⊥) → same (variable_name m) (row_of q j).binds ≡ false
unfolding row_of row_as same variable_name
other_row q m j h l d =
    by_test (eqb (kind_at q j) 17)
    (λ t. ap (λ (b : Bool). same (variable_name m) (elim b [ true ↦ [] | false ↦ binds_of (fields_of (kind_at q j)).ty j ])) t)
    (λ t. ap (λ (b : Bool). same (variable_name m) (elim b [ true ↦ [] | false ↦ binds_of (fields_of (kind_at q j)).ty j ])) t ∙ other_name m j (fields_of (kind_at q j)).ty h l d)

pub binder_is : (q : Bytes) (N m : ℕ) → N ≤ 1008 → m < N → (row_of q m).binds ≡ variable_name m → binder_of (first_rows q N) (variable_name m) ≡ m
unfolding binder_of
binder_is q N m l h binds =
    number_is (λ r. same (variable_name m) r.binds) q N m h (ap (same (variable_name m)) binds ∙ same_refl (variable_name m))
    (λ j k. other_row q m j (omega arith) (omega arith) (λ e. omega arith))

-- The record of a node, as its row gives it.
pub variable_record : (q : Bytes) (N n : ℕ) → N ≤ 1008 → kind_at q n ≡ 16 → a_at q n < N → (row_of q (a_at q n)).binds ≡ variable_name (a_at q n)
    → record_of (first_rows q N) (row_of q n) ≡ node (kind_at q n) (type_at q n) (a_at q n) (b_at q n) (c_at q n) (word_at q n)
unfolding record_of row_of row_as fields_of row inner_of name_of
variable_record q N n l is h binds =
    ap (λ (k : ℕ). record_of (first_rows q N) (row_as k q n)) is
    ∙ ap (λ (x : ℕ). node 16 (type_at q n) x (b_at q n) (c_at q n) (word_at q n)) (binder_is q N (a_at q n) l h binds)
    ∙ ap (λ (k : ℕ). node k (type_at q n) (a_at q n) (b_at q n) (c_at q n) (word_at q n)) (sym is)

-- Other kinds: a and c are held as they are, unless c is a target.
row_a : (q : Bytes) (n k : ℕ) → eqb k 16 ≡ false → inner_of (fields_of k).a (a_at q n) ≡ a_at q n → (row_as k q n).a ≡ a_at q n
unfolding row_as
row_a q n k e u = ap (λ (b : Bool). elim b [ true ↦ 0 | false ↦ inner_of (fields_of k).a (a_at q n) ]) e ∙ u

as_record : (q : Bytes) (rows : List Row) (n k : ℕ) → eqb k 16 ≡ false → eqb k 10 ≡ false → inner_of (fields_of k).a (a_at q n) ≡ a_at q n → inner_of (fields_of k).c (c_at q n) ≡ c_at q n
    → record_of rows (row_as k q n) ≡ node k (type_at q n) (a_at q n) (b_at q n) (c_at q n) (word_at q n)
unfolding record_of row_as
as_record q rows n k e₁ e₂ u v =
    rw (e₁, e₂)
    (ap (λ (x : ℕ). node k (type_at q n) x (b_at q n) (inner_of (fields_of k).c (c_at q n)) (word_at q n)) (row_a q n k e₁ u)
    ∙ ap (λ (x : ℕ). node k (type_at q n) (a_at q n) (b_at q n) x (word_at q n)) v)

pub other_record : (q : Bytes) (rows : List Row) (n : ℕ) → eqb (kind_at q n) 16 ≡ false → eqb (kind_at q n) 10 ≡ false
    → inner_of (fields_of (kind_at q n)).a (a_at q n) ≡ a_at q n → inner_of (fields_of (kind_at q n)).c (c_at q n) ≡ c_at q n
    → record_of rows (row_of q n) ≡ node (kind_at q n) (type_at q n) (a_at q n) (b_at q n) (c_at q n) (word_at q n)
unfolding row_of
other_record q rows n e₁ e₂ u v = as_record q rows n (kind_at q n) e₁ e₂ u v

-- A case's target.
branch_row : (q : Bytes) (m j : ℕ) (b : Bool) → m < 1008 → j < 1008 → (m ≡ j → ⊥) → same (branch_name m) (own_of b j) ≡ false
unfolding same branch_name
branch_row q m j true h l d = branches_differ m j h l d
branch_row q m j false h l d = refl

pub target_is : (q : Bytes) (N m : ℕ) → N ≤ 1008 → m < N → eqb (kind_at q m) 9 ≡ true → branch_of (first_rows q N) (branch_name m) ≡ m
unfolding branch_of row_of row_as
target_is q N m l h is =
    number_is (λ r. same (branch_name m) r.label) q N m h (ap (λ (b : Bool). same (branch_name m) (own_of b m)) is ∙ same_refl (branch_name m))
    (λ j k. branch_row q m j (eqb (kind_at q j) 9) (omega arith) (omega arith) (λ e. omega arith))

pub case_record : (q : Bytes) (N n : ℕ) → N ≤ 1008 → kind_at q n ≡ 10 → c_at q n < N → eqb (kind_at q (c_at q n)) 9 ≡ true
    → record_of (first_rows q N) (row_of q n) ≡ node (kind_at q n) (type_at q n) (a_at q n) (b_at q n) (c_at q n) (word_at q n)
unfolding record_of row_of row_as fields_of row inner_of name_of
case_record q N n l is h binds =
    ap (λ (k : ℕ). record_of (first_rows q N) (row_as k q n)) is
    ∙ ap (λ (x : ℕ). node 10 (type_at q n) (a_at q n) (b_at q n) x (word_at q n)) (target_is q N (c_at q n) l h binds)
    ∙ ap (λ (k : ℕ). node k (type_at q n) (a_at q n) (b_at q n) (c_at q n) (word_at q n)) (sym is)
