-- Trees of records that format and shape allow: kinds, types, values and fields are as the table of kinds has them.
-- Assumes nothing: these are definitions.
use Rattle.std.specs.Prelude.{ℕ, ◌+◌, ◌<◌, ◌≤◌, ◌≡◌, true, false}
use Rattle.rules.specs.Bytes.{Bytes}
use Rattle.rules.specs.Layout.{no_next, most_nodes}
use Rattle.rules.specs.Size.{size_s}
use Rattle.rules.specs.Node.{IsNode}
use Rattle.rules.specs.Kinds.{is_kind, is_expression, fields_of}
use Rattle.rules.specs.Values.{is_type, is_plain, type_of, value_from, value_fits}
use Rattle.rules.specs.Tree.{Expr, variable, constant, operation, negation, choice, just, taking, Signal, input, time, ext, delay, let_signal, switch, group, until, Branches, no_branch, branch, Cases, no_case, case}
use Rattle.rules.specs.declared.Value.{Value}
use Rattle.written.specs.Order.{order_s, In}
use Rattle.written.specs.Written.{present_of, word_of}
use Rattle.rules.specs.Format.{field_wrong, type_field_wrong}
use Rattle.rules.specs.Shape.{is_child, may_be, may_stop}
use Rattle.rules.specs.declared.Field.{Field}
use Rattle.written.specs.Parts.{Part, part, Slot, holds, child, size_k, last_p, field_k, row_p}

unfoldable pub kind_p : Part → ℕ
kind_p (part k t w a b c) = k

-- A number in a field that is not for a child; or none, in a next field.
pub data Fits (f : Field) (x : ℕ) : Type 0 where
  plain : is_child f ≡ false → field_wrong f x ≡ false → x < 65536 → Fits f x
  stops : is_child f ≡ true → may_stop f ≡ true → x ≡ no_next → Fits f x

-- A part whose record has the right kind, type and word.
pub record HeadRight (k t w : ℕ) (b : Slot) : Type 0 where
  pub kind_right : is_kind k ≡ true
  pub kind_small : k < 256
  pub type_right : (lo : ℕ) → type_field_wrong (fields_of k).ty t (field_k lo b) w ≡ false
  pub type_small : t < 256
  pub word_small : w < 4294967296

abbrev mutual
  pub RightP : Part → Type 0
  RightP (part k t w a b c) =
      HeadRight k t w b × RightK a (fields_of k).a × RightK b (fields_of k).b × RightK c (fields_of k).c

  pub RightK : Slot → Field → Type 0
  RightK (holds x) f = Fits f x
  RightK (child p) f = (is_child f ≡ true) × (may_be f (kind_p p) ≡ true) × RightP p

-- The records from lo on are those of a part.
abbrev mutual
  pub HoldsP : Part → Bytes → ℕ → Type 0
  HoldsP (part k t w a b c) q lo =
      HoldsK a q lo × HoldsK b q (lo + size_k a) × HoldsK c q (lo + size_k a + size_k b)
      × IsNode q (lo + (size_k a + size_k b + size_k c)) (row_p lo (part k t w a b c))

  pub HoldsK : Slot → Bytes → ℕ → Type 0
  HoldsK (holds x) q lo = Unit {0}
  HoldsK (child p) q lo = HoldsP p q lo

-- Trees whose records are right: channels, types and values, kinds of operations, lists that are not empty where a first is asked for; and
-- new numbers of binders and targets that fit two bytes.
pub record ValueRight (v : Value) : Type 0 where
  pub is_a_type : is_type (type_of v) ≡ true
  pub fits : value_fits (type_of v) (present_of v) (word_of v) ≡ true
  pub word_fits : word_of v < 4294967296
  pub again : value_from (type_of v) (present_of v) (word_of v) ≡ v

pub record Operates (k : ℕ) : Type 0 where
  pub expression : is_expression k ≡ true
  pub no16 : k ≡ 16 → ⊥
  pub no17 : k ≡ 17 → ⊥
  pub no24 : k ≡ 24 → ⊥
  pub no27 : k ≡ 27 → ⊥
  pub no28 : k ≡ 28 → ⊥
  pub no29 : k ≡ 29 → ⊥

abbrev pub RightE : (ℕ → ℕ) → Expr → Type 0
RightE φ (variable n b t) = φ b < 65536
RightE φ (constant n v) = ValueRight v
RightE φ (operation n k x y) = Operates k × RightE φ x × RightE φ y
RightE φ (negation n x) = RightE φ x
RightE φ (choice n test x y) = RightE φ test × RightE φ x × RightE φ y
RightE φ (just n x) = RightE φ x
RightE φ (taking n t m x y) = (is_plain t ≡ true) × RightE φ m × RightE φ x × RightE φ y

abbrev pub SomeB : Branches → Type 0
SomeB no_branch = ⊥
SomeB (branch n t body next) = Unit {0}

abbrev pub SomeC : Cases → Type 0
SomeC no_case = ⊥
SomeC (case n event target t next) = Unit {0}

abbrev mutual
  pub RightS : Signal → (ℕ → ℕ) → Type 0
  RightS (input n c) φ = c < 8
  RightS (time n) φ = Unit {0}
  RightS (ext n e) φ = RightE φ e
  RightS (delay n k v s) φ = ValueRight v × RightS s φ
  RightS (let_signal n t d b) φ = (is_type t ≡ true) × RightS d φ × RightS b φ
  RightS (switch n k t x e y) φ = (is_plain t ≡ true) × RightS x φ × RightS e φ × RightS y φ
  RightS (group n k body brs) φ = SomeB brs × RightS body φ × RightB brs φ
  RightS (until n s cs) φ = SomeC cs × RightS s φ × RightC cs φ

  pub RightB : Branches → (ℕ → ℕ) → Type 0
  RightB no_branch φ = Unit {0}
  RightB (branch n t body next) φ = (is_plain t ≡ true) × RightS body φ × RightB next φ

  pub RightC : Cases → (ℕ → ℕ) → Type 0
  RightC no_case φ = Unit {0}
  RightC (case n event target t next) φ = (φ target < 65536) × RightS event φ × RightC next φ

-- Variables and cases carry the type that stands at the new number of their binder and target.
abbrev pub KnowsE : (ℕ → ℕ) → Expr → Type 0
KnowsE τ (variable n b t) = τ b ≡ t
KnowsE τ (constant n v) = Unit {0}
KnowsE τ (operation n k x y) = KnowsE τ x × KnowsE τ y
KnowsE τ (negation n x) = KnowsE τ x
KnowsE τ (choice n test x y) = KnowsE τ test × KnowsE τ x × KnowsE τ y
KnowsE τ (just n x) = KnowsE τ x
KnowsE τ (taking n t m x y) = KnowsE τ m × KnowsE τ x × KnowsE τ y

abbrev mutual
  pub KnowsS : Signal → (ℕ → ℕ) → Type 0
  KnowsS (input n c) τ = Unit {0}
  KnowsS (time n) τ = Unit {0}
  KnowsS (ext n e) τ = KnowsE τ e
  KnowsS (delay n k v s) τ = KnowsS s τ
  KnowsS (let_signal n t d b) τ = KnowsS d τ × KnowsS b τ
  KnowsS (switch n k t x e y) τ = KnowsS x τ × KnowsS e τ × KnowsS y τ
  KnowsS (group n k body brs) τ = KnowsS body τ × KnowsB brs τ
  KnowsS (until n s cs) τ = KnowsS s τ × KnowsC cs τ

  pub KnowsB : Branches → (ℕ → ℕ) → Type 0
  KnowsB no_branch τ = Unit {0}
  KnowsB (branch n t body next) τ = KnowsS body τ × KnowsB next τ

  pub KnowsC : Cases → (ℕ → ℕ) → Type 0
  KnowsC no_case τ = Unit {0}
  KnowsC (case n event target t next) τ = (τ target ≡ t) × KnowsS event τ × KnowsC next τ

-- Each node's type byte is what τ gives its number. (Kinds without a type have 0.)
abbrev pub TypesE : (ℕ → ℕ) → Expr → Type 0
TypesE τ (variable n b t) = τ n ≡ 0
TypesE τ (constant n v) = τ n ≡ type_of v
TypesE τ (operation n k x y) = (τ n ≡ 0) × TypesE τ x × TypesE τ y
TypesE τ (negation n x) = (τ n ≡ 0) × TypesE τ x
TypesE τ (choice n test x y) = (τ n ≡ 0) × TypesE τ test × TypesE τ x × TypesE τ y
TypesE τ (just n x) = (τ n ≡ 0) × TypesE τ x
TypesE τ (taking n t m x y) = (τ n ≡ t) × TypesE τ m × TypesE τ x × TypesE τ y

abbrev mutual
  pub TypesS : Signal → (ℕ → ℕ) → Type 0
  TypesS (input n c) τ = τ n ≡ 0
  TypesS (time n) τ = τ n ≡ 0
  TypesS (ext n e) τ = (τ n ≡ 0) × TypesE τ e
  TypesS (delay n k v s) τ = (τ n ≡ type_of v) × TypesS s τ
  TypesS (let_signal n t d b) τ = (τ n ≡ t) × TypesS d τ × TypesS b τ
  TypesS (switch n k t x e y) τ = (τ n ≡ t) × TypesS x τ × TypesS e τ × TypesS y τ
  TypesS (group n k body brs) τ = (τ n ≡ 0) × TypesS body τ × TypesB brs τ
  TypesS (until n s cs) τ = (τ n ≡ 0) × TypesS s τ × TypesC cs τ

  pub TypesB : Branches → (ℕ → ℕ) → Type 0
  TypesB no_branch τ = Unit {0}
  TypesB (branch n t body next) τ = (τ n ≡ t) × TypesS body τ × TypesB next τ

  pub TypesC : Cases → (ℕ → ℕ) → Type 0
  TypesC no_case τ = Unit {0}
  TypesC (case n event target t next) τ = (τ n ≡ 0) × TypesS event τ × TypesC next τ

-- Each binder and target that a tree names has a property.
abbrev pub EachE : (ℕ → Type 0) → Expr → Type 0
EachE P (variable n b t) = P b
EachE P (constant n v) = Unit {0}
EachE P (operation n k x y) = EachE P x × EachE P y
EachE P (negation n x) = EachE P x
EachE P (choice n test x y) = EachE P test × EachE P x × EachE P y
EachE P (just n x) = EachE P x
EachE P (taking n t m x y) = EachE P m × EachE P x × EachE P y

abbrev mutual
  pub EachS : Signal → (ℕ → Type 0) → Type 0
  EachS (input n c) P = Unit {0}
  EachS (time n) P = Unit {0}
  EachS (ext n e) P = EachE P e
  EachS (delay n k v s) P = EachS s P
  EachS (let_signal n t d b) P = EachS d P × EachS b P
  EachS (switch n k t x e y) P = EachS x P × EachS e P × EachS y P
  EachS (group n k body brs) P = EachS body P × EachB brs P
  EachS (until n s cs) P = EachS s P × EachC cs P

  pub EachB : Branches → (ℕ → Type 0) → Type 0
  EachB no_branch P = Unit {0}
  EachB (branch n t body next) P = EachS body P × EachB next P

  pub EachC : Cases → (ℕ → Type 0) → Type 0
  EachC no_case P = Unit {0}
  EachC (case n event target t next) P = P target × EachS event P × EachC next P

-- A tree that can be written: at most 1,008 nodes, right records, types as τ gives them, and each binder and target one of its nodes.
pub record Sound (τ : ℕ → ℕ) (s : Signal) : Type 0 where
  pub few : size_s s ≤ most_nodes
  pub right : (φ : ℕ → ℕ) → ((b : ℕ) → φ b < 65536) → RightS s φ
  pub types : TypesS s τ
  pub knows : KnowsS s τ
  pub named : EachS s (λ b. In b (order_s s))
