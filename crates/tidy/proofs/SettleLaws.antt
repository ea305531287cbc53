-- One entry more of a walk's list.
-- Assumes nothing.
use Rattle.std.specs.Prelude.{if◌then◌else◌}
use mathlib.Core.Path.{◌≡◌, refl, sym, ap, ◌∙◌}
use mathlib.Core.List.{List, [], ◌∷◌, ◌++◌}
use Prim.Native.Nat.{ℕ, zero, suc, ◌+◌, ◌-◌, ◌%◌, ◌≤◌, ◌<◌}
use native.Mathlib.Omega.{arith}
use lib.Dec.{ltb}
use lib.ListN.{length, get_or, set, drop, length-set}
use borrow.Author.Tests.{lt-ltb, le-ltb}
use Rattle.rules.specs.Bytes.{write_at}
use Rattle.tidy.specs.Settle.{staying, renumber}

drop_suc : (l : List ℕ) (k : ℕ) → k < length l → drop k l ≡ get_or l k 0 ∷ drop (suc k) l
drop_suc [] k h = absurd (omega arith)
drop_suc (x ∷ l) zero h = refl
drop_suc (x ∷ l) (suc k) h = drop_suc l k (omega arith)

pub drop_next : (l : List ℕ) (k : ℕ) → k < length l → drop k l ≡ get_or l k 0 ∷ drop (k + 1) l
drop_next l k h = drop_suc l k h ∙ ap (λ (j : ℕ). get_or l k 0 ∷ drop j l) (let z : suc k ≡ k + 1 = omega arith in z)

drop_all : (l : List ℕ) (k : ℕ) → length l ≤ k → drop k l ≡ []
drop_all [] zero h = refl
drop_all [] (suc k) h = refl
drop_all (x ∷ l) zero h = absurd (omega arith)
drop_all (x ∷ l) (suc k) h = drop_all l k (omega arith)

-- What is left to settle gives what is asked for.
pub record Settling (names : List ℕ) (from : ℕ) (order₀ new₀ order new : List ℕ) (m last k : ℕ) : Type 0 where
  pub started : from ≤ k
  pub inside : k ≤ length names
  pub few : m + from ≤ k
  pub last_is : last ≡ m - 1
  pub order_long : length order ≡ length order₀
  pub order_is : write_at order m (staying (drop k names)) ≡ write_at order₀ 0 (staying (drop from names))
  pub new_is : renumber (drop k names) m new ≡ renumber (drop from names) 0 new₀
  pub count_is : m + length (staying (drop k names)) ≡ length (staying (drop from names))

pub settling_starts : (names : List ℕ) (from : ℕ) (order new : List ℕ) → from ≤ length names → Settling names from order new order new 0 0 from
settling_starts names from order new h = record {
  started = omega arith;
  inside = h;
  few = omega arith;
  last_is = omega arith;
  order_long = refl;
  order_is = refl;
  new_is = refl;
  count_is = omega arith;
}

module _ (names : List ℕ) (from : ℕ) (order₀ new₀ order new : List ℕ) (m last k : ℕ) (s : Settling names from order₀ new₀ order new m last k) where
  module _ (e n : ℕ) (there : e ≡ get_or names k 0) (h : k < length names) (n-is : n ≡ e % 1024) where
    next : drop k names ≡ e ∷ drop (k + 1) names
    next = drop_next names k h ∙ ap (λ (x : ℕ). x ∷ drop (k + 1) names) (sym there)

    pub stays : e < 1024 → Settling names from order₀ new₀ (set order m e) (set new n m) (m + 1) m (k + 1)
    unfolding staying renumber write_at
    stays l =
        let t = lt-ltb e 1024 l in
        let z : m + 1 ≡ suc m = omega arith in
        let st : staying (drop k names) ≡ e ∷ staying (drop (k + 1) names) = ap staying next ∙ simp t in
        record {
          started = omega (arith, s.started);
          inside = omega arith;
          few = omega (arith, s.few);
          last_is = omega arith;
          order_long = length-set order m e ∙ s.order_long;
          order_is =
              ap (λ (j : ℕ). write_at (set order m e) j (staying (drop (k + 1) names))) z
              ∙ ap (write_at order m) (sym st) ∙ s.order_is;
          new_is =
              (λ i. renumber (drop (k + 1) names) (z i) (set new (n-is i) m))
              ∙ sym (ap (λ (l : List ℕ). renumber l m new) next ∙ simp t) ∙ s.new_is;
          count_is = omega (arith, s.count_is, ap length st);
        }

    pub goes : 1024 ≤ e → Settling names from order₀ new₀ order (set new n last) m last (k + 1)
    unfolding staying renumber
    goes l =
        let t = le-ltb e 1024 l in
        let st : staying (drop k names) ≡ staying (drop (k + 1) names) = ap staying next ∙ simp t in
        record {
          started = omega (arith, s.started);
          inside = omega arith;
          few = omega (arith, s.few);
          last_is = s.last_is;
          order_long = s.order_long;
          order_is = ap (write_at order m) (sym st) ∙ s.order_is;
          new_is =
              (λ i. renumber (drop (k + 1) names) m (set new (n-is i) (s.last_is i)))
              ∙ sym (ap (λ (l : List ℕ). renumber l m new) next ∙ simp t) ∙ s.new_is;
          count_is = omega (arith, s.count_is, ap length st);
        }

  pub settled : length names ≤ k → (m ≡ length (staying (drop from names))) × (order ≡ write_at order₀ 0 (staying (drop from names))) × (new ≡ renumber (drop from names) 0 new₀)
  unfolding staying renumber write_at
  settled h =
      let d = drop_all names k h in (
        omega (arith, s.count_is, ap (λ (l : List ℕ). length (staying l)) d),
        ap (λ (l : List ℕ). write_at order m (staying l)) (sym d) ∙ s.order_is,
        ap (λ (l : List ℕ). renumber l m new) (sym d) ∙ s.new_is,
      )
