-- What is needed of a table for its text to be read back: each node's record fits its kind, its children's sorts fit, its children's nodes
-- stand before it one part after another (numbered children first, in field order), and each variable's binder is open above it.
-- Assumes nothing: these are definitions.
use Rattle.std.specs.Prelude.{Some}
use mathlib.Core.Path.{◌≡◌}
use mathlib.Core.Bool.{Bool, true, false}
use mathlib.Core.List.{[]}
use Prim.Native.Nat.{ℕ, suc, ◌<◌}
use lib.Dec.{eqb}
use Rattle.rules.specs.Bytes.{Bytes, ◌or◌}
use Rattle.rules.specs.Values.{maybe_of, is_plain, is_type}
use Rattle.rules.specs.Layout.{kind_at, type_at, a_at, b_at, c_at, word_at, most_nodes, no_next}
use Rattle.rules.specs.Shape.{may_stop}
use Rattle.rules.specs.Kinds.{fields_of}
use Rattle.rules.specs.declared.Field.{Field}
use Rattle.rules.specs.declared.Field.TheVariants.{Unused, Channel, PresentByte, Signal, Expression, FirstBranch, NextBranch, FirstCase, NextCase, Binder, Target}
use Rattle.rules.specs.declared.TypeField.{TypeField}
use Rattle.rules.specs.declared.TypeField.TheVariants.{NoType, AnyType, PlainType, ValueType}
use Rattle.texts.specs.Tokens.{is_plain_word}
use Rattle.texts.specs.Printer.{branch_name, Pieces, field_pieces}
use Rattle.texts.specs.Spelling.{kind_word, kind_named, type_word, type_named}

-- Values that a record may hold.
pub data PlainFits : ℕ → ℕ → Type 0 where
  an_int : {w : ℕ} → w < 4294967296 → PlainFits 3 w
  a_truth : PlainFits 2 1
  a_falsehood : PlainFits 2 0
  a_unit : PlainFits 1 0

pub data PlainType₀ : ℕ → Type 0 where
  unit_type : PlainType₀ 1
  bool_type : PlainType₀ 2
  int_type : PlainType₀ 3

pub data Fits : ℕ → ℕ → ℕ → Type 0 where
  plain_fits : {t w : ℕ} → PlainFits t w → Fits t 1 w
  some_fits : {t w : ℕ} → PlainFits t w → Fits (maybe_of t) 1 w
  none_fits : {t : ℕ} → PlainType₀ t → Fits (maybe_of t) 0 0

-- What stands between a kind's word and its children.
pub data HeadFits : TypeField → ℕ → ℕ → ℕ → Type 0 where
  no_head : {b : ℕ} → HeadFits NoType 0 b 0
  any_head : {t b : ℕ} → type_named is_type (type_word t) ≡ Some t → is_plain_word (type_word t) ≡ true → HeadFits AnyType t b 0
  plain_head : {t b : ℕ} → type_named is_plain (type_word t) ≡ Some t → is_plain_word (type_word t) ≡ true → HeadFits PlainType t b 0
  value_head : {t b w : ℕ} → Fits t b w → HeadFits ValueType t b w

-- The binders above a node.
abbrev pub Opens : Type 0
Opens = ℕ → Bool

unfoldable pub opened_by : TypeField → ℕ → Opens → Opens
opened_by NoType n opens m = opens m
opened_by AnyType n opens m = eqb m n or opens m
opened_by PlainType n opens m = eqb m n or opens m
opened_by ValueType n opens m = opens m

-- The present byte that a value has brought.
unfoldable pub present_of : TypeField → ℕ → ℕ
present_of NoType b = 0
present_of AnyType b = 0
present_of PlainType b = 0
present_of ValueType b = b

-- Fields that begin a list of branches or cases, or go on with one.
unfoldable pub is_list : Field → Bool
is_list Unused = false
is_list Channel = false
is_list PresentByte = false
is_list Signal = false
is_list Expression = false
is_list FirstBranch = true
is_list NextBranch = true
is_list FirstCase = true
is_list NextCase = true
is_list Binder = false
is_list Target = false

-- What a field gives inside the parentheses: a next comes behind them, and a target as a name.
unfoldable pub inner_of : Field → ℕ → ℕ
inner_of Unused x = x
inner_of Channel x = x
inner_of PresentByte x = x
inner_of Signal x = x
inner_of Expression x = x
inner_of FirstBranch x = x
inner_of NextBranch x = no_next
inner_of FirstCase x = x
inner_of NextCase x = no_next
inner_of Binder x = x
inner_of Target x = 0

unfoldable pub name_of : Field → ℕ → Bytes
name_of Unused x = []
name_of Channel x = []
name_of PresentByte x = []
name_of Signal x = []
name_of Expression x = []
name_of FirstBranch x = []
name_of NextBranch x = []
name_of FirstCase x = []
name_of NextCase x = []
name_of Binder x = []
name_of Target x = branch_name x

-- A list stands last in its form.
pub record ListsLast (k : ℕ) : Type 0 where
  pub a_none : is_list (fields_of k).a ≡ false
  pub c_none : is_list (fields_of k).c ≡ false
  pub b_last : may_stop (fields_of k).b ≡ false → is_list (fields_of k).b ≡ true → (kid : Pieces) (x : ℕ) → field_pieces kid (fields_of k).c x ≡ []

-- Nodes i to n are the node n and what is below it. (targets are the branches of the table.)
mutual
  pub data Laid (q : Bytes) (targets : Opens) : Opens → Field → ℕ → ℕ → Type 0 where
    variable_laid : {opens : Opens} {n : ℕ} → kind_at q n ≡ 16 → opens (a_at q n) ≡ true → a_at q n < most_nodes
        → type_at q n ≡ 0 → b_at q n ≡ 0 → c_at q n ≡ 0 → word_at q n ≡ 0 → Laid q targets opens Expression n n
    constant_laid : {opens : Opens} {n : ℕ} → kind_at q n ≡ 17 → Fits (type_at q n) (b_at q n) (word_at q n)
        → a_at q n ≡ 0 → c_at q n ≡ 0 → Laid q targets opens Expression n n
    form_laid : {opens : Opens} {f : Field} {i i₁ i₂ i₃ n : ℕ} (k : ℕ) → kind_at q n ≡ k
        → eqb k 16 ≡ false → eqb k 17 ≡ false → kind_named f (kind_word k) ≡ Some k → is_plain_word (kind_word k) ≡ true → ListsLast k
        → (may_stop (fields_of k).b ≡ true → is_list f ≡ true)
        → HeadFits (fields_of k).ty (type_at q n) (b_at q n) (word_at q n)
        → Kid q targets (opened_by (fields_of k).ty n opens) (fields_of k).a n (a_at q n) (present_of (fields_of k).ty (b_at q n)) i i₁
        → Kid q targets (opened_by (fields_of k).ty n opens) (fields_of k).b n (b_at q n) (present_of (fields_of k).ty (b_at q n)) i₁ i₂
        → Kid q targets (opened_by (fields_of k).ty n opens) (fields_of k).c n (c_at q n) (present_of (fields_of k).ty (b_at q n)) i₂ i₃
        → After q targets opens (fields_of k).b n (b_at q n) i₃ n
        → Laid q targets opens f i n

  -- A field of node n that holds x, where the value before it has the present byte p: nodes i up to j are its child's.
  pub data Kid (q : Bytes) (targets : Opens) : Opens → Field → ℕ → ℕ → ℕ → ℕ → ℕ → Type 0 where
    unused_kid : {opens : Opens} {n x p i : ℕ} → x ≡ 0 → Kid q targets opens Unused n x p i i
    channel_kid : {opens : Opens} {n x p i : ℕ} → x < 8 → Kid q targets opens Channel n x p i i
    present_kid : {opens : Opens} {n x p i : ℕ} → x ≡ p → Kid q targets opens PresentByte n x p i i
    signal_kid : {opens : Opens} {n x p i : ℕ} → x < n → Laid q targets opens Signal i x → Kid q targets opens Signal n x p i (suc x)
    expression_kid : {opens : Opens} {n x p i : ℕ} → x < n → Laid q targets opens Expression i x → Kid q targets opens Expression n x p i (suc x)
    first_branch_kid : {opens : Opens} {n x p i : ℕ} → x < n → Laid q targets opens FirstBranch i x → Kid q targets opens FirstBranch n x p i (suc x)
    first_case_kid : {opens : Opens} {n x p i : ℕ} → x < n → Laid q targets opens FirstCase i x → Kid q targets opens FirstCase n x p i (suc x)
    next_branch_kid : {opens : Opens} {n x p i : ℕ} → Kid q targets opens NextBranch n x p i i
    next_case_kid : {opens : Opens} {n x p i : ℕ} → Kid q targets opens NextCase n x p i i
    target_kid : {opens : Opens} {n x p i : ℕ} → targets x ≡ true → Kid q targets opens Target n x p i i

  -- Behind the parentheses: the next of a list, if there is one.
  pub data After (q : Bytes) (targets : Opens) : Opens → Field → ℕ → ℕ → ℕ → ℕ → Type 0 where
    none_after : {opens : Opens} {f : Field} {n x i : ℕ} → may_stop f ≡ false → inner_of f x ≡ x → After q targets opens f n x i i
    last_after : {opens : Opens} {f : Field} {n x i : ℕ} → may_stop f ≡ true → x ≡ no_next → After q targets opens f n x i i
    next_after : {opens : Opens} {f : Field} {n x i : ℕ} → may_stop f ≡ true → x < n → Laid q targets opens f i x → After q targets opens f n x i (suc x)
