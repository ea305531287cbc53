-- Rows that are read make a tree of records: how a field's and a node's rows are put together.
-- Assumes nothing.
use mathlib.Core.Path.{◌≡◌, refl, sym, ap, ◌∙◌}
use mathlib.Core.Bool.{Bool, true, false}
use mathlib.Core.List.{List, [], ◌∷◌, ◌++◌, map, append_assoc, append-nil}
use Prim.Native.Nat.{ℕ, suc, ◌+◌, ◌<◌, ◌≤◌}
use native.Mathlib.Omega.{arith}
use lib.ListN.{length, length-append}
use Rattle.rules.specs.Bytes.{Bytes}
use Rattle.rules.specs.Kinds.{fields_of}
use Rattle.rules.specs.Shape.{is_child, may_be}
use Rattle.rules.specs.declared.Field.{Field}
use Rattle.written.specs.Parts.{Part, part, Slot, holds, child, size_p, size_k, last_p, field_k, row_p, rows_p, rows_k}
use Rattle.written.specs.Right.{kind_p, Fits, HeadRight, RightP, RightK}
use Rattle.texts.specs.Tokens.{Token}
use Rattle.texts.specs.Rows.{Row, Sofar}
use Rattle.texts.specs.Resolved.{number_of, binder_of, branch_of, record_of}
use Rattle.texts.specs.Reader.{ends}
use Rattle.texts.proofs.Gives.{false≢true}
use Rattle.texts.proofs.Decimals.{by_test}
use Rattle.texts.proofs.Named.{node, map_join}
use Rattle.texts.proofs.Yields.{Yields, yields, Quiet}

-- The rows in which names are looked up are at most 1,008; so the numbers found fit.
abbrev pub Few : List Row → Type 0
Few rows = length rows ≤ 1008

number_most : (test : Row → Bool) (k : ℕ) (rs : List Row) → number_of test k rs ≤ k + length rs
unfolding number_of
number_most test k [] = omega arith
number_most test k (r ∷ rs) =
    let more = number_most test (k + 1) rs in
    by_test (test r) (λ t. rw (t, number_of) (omega arith)) (λ t. rw (t, number_of) (omega arith))

pub binder_small : (rows : List Row) (w : Bytes) → Few rows → binder_of rows w < 65536
unfolding binder_of
binder_small rows w l = omega (arith, number_most (λ r. Rattle.texts.specs.Spelled.same w r.binds) 0 rows)

pub branch_small : (rows : List Row) (w : Bytes) → Few rows → branch_of rows w < 65536
unfolding branch_of
branch_small rows w l = omega (arith, number_most (λ r. Rattle.texts.specs.Spelled.same w r.label) 0 rows)

-- A field's rows: a slot that is right for the field and has these records, wherever names are looked up.
pub record Slotted (f : Field) (so : Sofar) (v : List Row → ℕ) (so₁ : Sofar) : Type 0 where
  pub new : List Row
  pub rows_are : so₁.rows ≡ so.rows ++ new
  pub begun_is : so₁.begun ≡ so.begun + length new
  pub few : so.begun ≤ 1008 → so₁.begun ≤ 1008
  pub slot : List Row → Slot
  pub right : (R : List Row) → Few R → RightK (slot R) f
  pub size : (R : List Row) → size_k (slot R) ≡ length new
  pub records : (R : List Row) (lo : ℕ) → lo ≡ length so.rows → map (record_of R) new ≡ rows_k (slot R) lo
  pub value : (R : List Row) (lo : ℕ) → lo ≡ length so.rows → field_k lo (slot R) ≡ v R
  pub flat : is_child f ≡ false → (R : List Row) (lo : ℕ) → field_k lo (slot R) ≡ v R

-- A node's rows: a tree of records.
pub record Noded (f : Field) (so : Sofar) (x : ℕ) (so₁ : Sofar) : Type 0 where
  pub new : List Row
  pub rows_are : so₁.rows ≡ so.rows ++ new
  pub begun_is : so₁.begun ≡ so.begun + length new
  pub few : so₁.begun ≤ 1008
  pub tree : List Row → Part
  pub right : (R : List Row) → Few R → RightP (tree R)
  pub sorted : (R : List Row) → may_be f (kind_p (tree R)) ≡ true
  pub size : (R : List Row) → size_p (tree R) ≡ length new
  pub records : (R : List Row) (lo : ℕ) → lo ≡ length so.rows → map (record_of R) new ≡ rows_p (tree R) lo
  pub number : (R : List Row) (lo : ℕ) → lo ≡ length so.rows → last_p lo (tree R) ≡ x

-- A field without rows.
pub quiet_slot : {f : Field} {so so₁ : Sofar} {v : List Row → ℕ} → Quiet so so₁ → ((R : List Row) → Few R → Fits f (v R)) → Slotted f so v so₁
unfolding size_p rows_p field_k
quiet_slot {f} {so} {so₁} {v} q fits = record {
  new = [];
  rows_are = q.rows_same ∙ sym (append-nil so.rows);
  begun_is = q.begun_same ∙ omega arith;
  few = λ l. omega (arith, q.begun_same);
  slot = λ R. holds (v R);
  right = fits;
  size = λ R. refl;
  records = λ R lo e. refl;
  value = λ R lo e. refl;
  flat = λ e R lo. refl;
}

-- A child.
pub child_slot : {f : Field} {so so₁ : Sofar} {x : ℕ} → is_child f ≡ true → Noded f so x so₁ → Slotted f so (λ R. x) so₁
unfolding size_p rows_p field_k
child_slot {f} {so} {so₁} {x} e n = record {
  new = n.new;
  rows_are = n.rows_are;
  begun_is = n.begun_is;
  few = λ l. n.few;
  slot = λ R. child (n.tree R);
  right = λ R l. (e, n.sorted R, n.right R l);
  size = n.size;
  records = n.records;
  value = n.number;
  flat = λ u R lo. absurd (false≢true (sym u ∙ e));
}

-- Steps that leave the rows, before and behind.
pub slot_from : {f : Field} {so so₀ so₁ : Sofar} {v : List Row → ℕ} → Quiet so so₀ → Slotted f so₀ v so₁ → Slotted f so v so₁
slot_from {f} {so} {so₀} {so₁} {v} q s = record {
  new = s.new;
  rows_are = s.rows_are ∙ ap (λ (x : List Row). x ++ s.new) q.rows_same;
  begun_is = s.begun_is ∙ ap (λ (x : ℕ). x + length s.new) q.begun_same;
  few = λ l. s.few (omega (arith, q.begun_same));
  slot = s.slot;
  right = s.right;
  size = s.size;
  records = λ R lo e. s.records R lo (e ∙ ap length (sym q.rows_same));
  value = λ R lo e. s.value R lo (e ∙ ap length (sym q.rows_same));
  flat = s.flat;
}

pub slot_to : {f : Field} {so so₁ so₂ : Sofar} {v : List Row → ℕ} → Slotted f so v so₁ → Quiet so₁ so₂ → Slotted f so v so₂
slot_to {f} {so} {so₁} {so₂} {v} s q = record {
  new = s.new;
  rows_are = q.rows_same ∙ s.rows_are;
  begun_is = q.begun_same ∙ s.begun_is;
  few = λ l. omega (arith, q.begun_same, s.few l);
  slot = s.slot;
  right = s.right;
  size = s.size;
  records = s.records;
  value = s.value;
  flat = s.flat;
}

pub slot_as : {f : Field} {so so₁ : Sofar} {v w : List Row → ℕ} → Slotted f so v so₁ → ((R : List Row) → v R ≡ w R) → Slotted f so w so₁
slot_as {f} {so} {so₁} {v} {w} s e = record {
  new = s.new;
  rows_are = s.rows_are;
  begun_is = s.begun_is;
  few = s.few;
  slot = s.slot;
  right = s.right;
  size = s.size;
  records = s.records;
  value = λ R lo z. s.value R lo z ∙ e R;
  flat = λ u R lo. s.flat u R lo ∙ e R;
}

-- A node ends: its three fields and its row make a tree.
module _ (f : Field) (so so₀ so₁ so₂ so₃ : Sofar) (k at : ℕ) (r : Row) (va vb vc : List Row → ℕ)
    (begun : so₀.begun ≡ suc so.begun) (rows : so₀.rows ≡ so.rows) (least : so₀.begun ≤ 1008)
    (sa : Slotted (fields_of k).a so₀ va so₁) (sb : Slotted (fields_of k).b so₁ vb so₂) (sc : Slotted (fields_of k).c so₂ vc so₃)
    (head : (R : List Row) → Few R → HeadRight k r.type r.word (sb.slot R)) (may : may_be f k ≡ true)
    (is : (R : List Row) → record_of R r ≡ node k r.type (va R) (vb R) (vc R) r.word) where
  abbrev added : List Row
  added = sa.new ++ (sb.new ++ (sc.new ++ r ∷ []))

  abbrev tree : List Row → Part
  tree R = part k r.type r.word (sa.slot R) (sb.slot R) (sc.slot R)

  added_length : length added ≡ length sa.new + length sb.new + length sc.new + 1
  added_length =
      length-append sa.new _ ∙ ap (λ (x : ℕ). length sa.new + x) (length-append sb.new _)
      ∙ ap (λ (x : ℕ). length sa.new + (length sb.new + x)) (length-append sc.new (r ∷ [])) ∙ omega arith

  rows₁ : length so₁.rows ≡ length so.rows + length sa.new
  rows₁ = ap length sa.rows_are ∙ length-append so₀.rows sa.new ∙ ap (λ (x : List Row). length x + length sa.new) rows

  rows₂ : length so₂.rows ≡ length so.rows + length sa.new + length sb.new
  rows₂ = ap length sb.rows_are ∙ length-append so₁.rows sb.new ∙ ap (λ (x : ℕ). x + length sb.new) rows₁

  rows₃ : length so₃.rows ≡ length so.rows + length sa.new + length sb.new + length sc.new
  rows₃ = ap length sc.rows_are ∙ length-append so₂.rows sc.new ∙ ap (λ (x : ℕ). x + length sc.new) rows₂

  all_rows : so₃.rows ++ r ∷ [] ≡ so.rows ++ added
  all_rows =
      ap (λ (x : List Row). x ++ r ∷ []) sc.rows_are ∙ append_assoc so₂.rows sc.new (r ∷ [])
      ∙ ap (λ (x : List Row). x ++ (sc.new ++ r ∷ [])) sb.rows_are ∙ append_assoc so₁.rows sb.new (sc.new ++ r ∷ [])
      ∙ ap (λ (x : List Row). x ++ (sb.new ++ (sc.new ++ r ∷ []))) sa.rows_are ∙ append_assoc so₀.rows sa.new (sb.new ++ (sc.new ++ r ∷ []))
      ∙ ap (λ (x : List Row). x ++ added) rows

  module _ (R : List Row) (lo : ℕ) (e : lo ≡ length so.rows) where
    at_a : lo ≡ length so₀.rows
    at_a = e ∙ ap length (sym rows)

    at_b : lo + size_k (sa.slot R) ≡ length so₁.rows
    at_b = let z = sa.size R in let y = rows₁ in omega arith

    at_c : lo + size_k (sa.slot R) + size_k (sb.slot R) ≡ length so₂.rows
    at_c = let z = sa.size R in let y = sb.size R in let x = rows₂ in omega arith

    own_record : record_of R r ≡ row_p lo (tree R)
    unfolding row_p
    own_record =
        is R ∙ (λ j. record {
          kind = k;
          ty = r.type;
          a = sym (sa.value R lo at_a) j;
          b = sym (sb.value R (lo + size_k (sa.slot R)) at_b) j;
          c = sym (sc.value R (lo + size_k (sa.slot R) + size_k (sb.slot R)) at_c) j;
          word = r.word;
        })

    all_records : map (record_of R) added ≡ rows_p (tree R) lo
    unfolding rows_p
    all_records =
        map_join (record_of R) sa.new _
        ∙ (λ j. sa.records R lo at_a j ++ map_join (record_of R) sb.new (sc.new ++ r ∷ []) j)
        ∙ (λ j. rows_k (sa.slot R) lo ++ (sb.records R (lo + size_k (sa.slot R)) at_b j ++ map_join (record_of R) sc.new (r ∷ []) j))
        ∙ (λ j. rows_k (sa.slot R) lo ++ (rows_k (sb.slot R) (lo + size_k (sa.slot R))
        ++ (sc.records R (lo + size_k (sa.slot R) + size_k (sb.slot R)) at_c j ++ own_record j ∷ [])))

    own_number : last_p lo (tree R) ≡ length so₃.rows
    unfolding last_p
    own_number = let z = sa.size R in let y = sb.size R in let x = sc.size R in let w = rows₃ in omega arith

  pub node_grown : (ts : List Token) → Yields (λ x rest so₄. Noded f so x so₄) (ends at r ts so₃)
  unfolding ends size_p kind_p
  node_grown ts = yields (record {
    new = added;
    rows_are = all_rows;
    begun_is =
        (let x = sa.begun_is in let y = sb.begun_is in let z = sc.begun_is in let w = added_length in
        let v : so₃.begun ≡ so.begun + length added = omega arith in v);
    few = sc.few (sb.few (sa.few least));
    tree = tree;
    right = λ R l. (head R l, sa.right R l, sb.right R l, sc.right R l);
    sorted = λ R. may;
    size = λ R. (let x = sa.size R in let y = sb.size R in let z = sc.size R in let w = added_length in
        let v : suc (size_k (sa.slot R) + size_k (sb.slot R) + size_k (sc.slot R)) ≡ length added = omega arith in v);
    records = λ R lo e. all_records R lo e;
    number = λ R lo e. own_number R lo e;
  })
