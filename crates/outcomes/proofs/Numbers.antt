-- The 8 bytes of a value: their parts, the value in them, and the values that are read back from theirs.
-- Assumes nothing.
use Rattle.std.specs.Prelude.{if◌then◌else◌}
use mathlib.Core.Path.{◌≡◌, refl, ap, sym, ◌∙◌}
use mathlib.Core.Bool.{Bool, true, false}
use Prim.Native.Nat.{ℕ, ◌+◌, ◌*◌, ◌<◌, ◌-◌}
use native.Mathlib.Omega.{arith}
use lib.Dec.{eqb, ltb}
use borrow.Author.Tests.{eq-eqb, ne_eqb}
use Rattle.rules.specs.Bytes.{Bytes}
use Rattle.rules.specs.Values.{int_t, bool_t, maybe_of, is_plain, value_from, packed, unpacked, type_in, present_in, middle_in, word_in}
use Rattle.rules.specs.Words.{quotient_of}
use Rattle.rules.specs.Layout.{channel_value, word_on, flag_on, event_on}
use Rattle.rules.specs.declared.Value.{Value}
use Rattle.rules.specs.declared.Value.TheVariants.{Plain, Absent, Present}
use Rattle.rules.proofs.Round.{plain_yes, plain_no}
use Rattle.outcomes.specs.Outcome.{IsValue, IsProper}

-- A type with present byte 1 and a word, and a type alone, read back.
full_back : (t w : ℕ) → t < 256 → unpacked (t + 256 + 4294967296 * w) ≡ value_from t 1 w
unfolding unpacked type_in present_in word_in
full_back t w h =
    let m : ℕ = t + 256 + 4294967296 * w in
    λ i. value_from
    ((let e : type_in m ≡ t = omega arith in e) i)
    ((let e : present_in m ≡ 1 = omega arith in e) i)
    ((let e : word_in m ≡ w = omega arith in e) i)

bare_back : (t : ℕ) → t < 256 → unpacked t ≡ value_from t 0 0
unfolding unpacked type_in present_in word_in
bare_back t h =
    λ i. value_from
    ((let e : type_in t ≡ t = omega arith in e) i)
    ((let e : present_in t ≡ 0 = omega arith in e) i)
    ((let e : word_in t ≡ 0 = omega arith in e) i)

module _ (t : ℕ) (h : t < 256) where
  pub proper_plain : (w : ℕ) → is_plain t ≡ true → IsProper (Plain t w)
  unfolding packed value_from
  proper_plain w e = full_back t w h ∙ simp e

  pub proper_absent : is_plain t ≡ false → IsProper (Absent t)
  unfolding packed value_from
  proper_absent e = bare_back t h ∙ simp e

  pub proper_present : (w : ℕ) → is_plain t ≡ false → IsProper (Present t w)
  unfolding packed value_from
  proper_present w e = full_back t w h ∙ simp e

  pub proper_from : (b w : ℕ) → IsProper (value_from t b w)
  unfolding value_from
  proper_from b w = go (is_plain t) refl (eqb b 0)
    where
      go : (p : Bool) → is_plain t ≡ p → (q : Bool) → IsProper (if p then Plain t w else if q then Absent t else Present t w)
      go true e q = proper_plain w e
      go false e true = proper_absent e
      go false e false = proper_present w e

  -- its bytes 2-3 are zero
  middle_from : (b w : ℕ) → middle_in (packed (value_from t b w)) ≡ 0
  unfolding value_from packed middle_in
  middle_from b w = go (is_plain t) (eqb b 0)
    where
      go : (p q : Bool) → middle_in (packed (if p then Plain t w else if q then Absent t else Present t w)) ≡ 0
      go true q = omega arith
      go false true = omega arith
      go false false = omega arith

pub type_small : (m : ℕ) → type_in m < 256
unfolding type_in
type_small m = omega arith

-- Which constructor made a value.
abbrev pub sort_of : Value → ℕ
sort_of (Plain t w) = 0
sort_of (Absent t) = 1
sort_of (Present t w) = 2

-- The value in a number, by its type and present byte.
module _ (m : ℕ) where
  pub plain_in : is_plain (type_in m) ≡ true → unpacked m ≡ Plain (type_in m) (word_in m)
  unfolding unpacked value_from
  plain_in e = simp e

  pub absent_in : is_plain (type_in m) ≡ false → present_in m ≡ 0 → unpacked m ≡ Absent (type_in m)
  unfolding unpacked value_from
  absent_in e z = simp (e, eq-eqb (present_in m) 0 z)

  pub present_in_lem : is_plain (type_in m) ≡ false → (present_in m ≡ 0 → ⊥) → unpacked m ≡ Present (type_in m) (word_in m)
  unfolding unpacked value_from
  present_in_lem e n = simp (e, ne_eqb (present_in m) 0 n)

-- The same from the value: what its constructor says of the type and the present byte.
module _ (m : ℕ) where
  pub plain_known : {t w : ℕ} → unpacked m ≡ Plain t w → (t ≡ type_in m) × (w ≡ word_in m) × (is_plain (type_in m) ≡ true)
  unfolding unpacked value_from
  plain_known {t} {w} e = go (is_plain (type_in m)) (eqb (present_in m) 0) refl e
    where
      go : (p q : Bool) → is_plain (type_in m) ≡ p
          → (if p then Plain (type_in m) (word_in m) else if q then Absent (type_in m) else Present (type_in m) (word_in m)) ≡ Plain t w
          → (t ≡ type_in m) × (w ≡ word_in m) × (is_plain (type_in m) ≡ true)
      go true q f e = (cc, cc, f)
      go false true f e = absurd (let z : ◌≡◌ {A = ℕ} _ 0 = ap sort_of e in omega arith)
      go false false f e = absurd (let z : ◌≡◌ {A = ℕ} _ 0 = ap sort_of e in omega arith)

  pub other_known : {v : Value} → unpacked m ≡ v → (sort_of v ≡ 0 → ⊥) → is_plain (type_in m) ≡ false
  unfolding unpacked value_from
  other_known {v} e n = go (is_plain (type_in m)) (eqb (present_in m) 0) refl e
    where
      go : (p q : Bool) → is_plain (type_in m) ≡ p
          → (if p then Plain (type_in m) (word_in m) else if q then Absent (type_in m) else Present (type_in m) (word_in m)) ≡ v
          → is_plain (type_in m) ≡ false
      go true q f e = absurd (n (sym (ap sort_of e)))
      go false q f e = f

-- the 8 bytes of it
module _ (m : ℕ) {r : ℕ} where
  pub exact_plain : is_plain (type_in m) ≡ true → r ≡ type_in m + 256 + 4294967296 * word_in m → r ≡ packed (unpacked m)
  unfolding packed
  exact_plain p e = rw (plain_in m p) e

  pub exact_present : is_plain (type_in m) ≡ false → (present_in m ≡ 0 → ⊥) → r ≡ type_in m + 256 + 4294967296 * word_in m
      → r ≡ packed (unpacked m)
  unfolding packed
  exact_present p n e = rw (present_in_lem m p n) e

-- What a cell's content stands for is read back from its own 8 bytes.
pub exact_same : (m : ℕ) → IsProper (unpacked m)
unfolding unpacked
exact_same m = proper_from (type_in m) (type_small m) (present_in m) (word_in m)

pub exact_value : (m : ℕ) → IsValue (packed (unpacked m))
exact_value m = ap packed (exact_same m)

pub proper_value : (v : Value) → IsProper v → IsValue (packed v)
proper_value v h = ap packed h

exact_middle : (m : ℕ) → middle_in (packed (unpacked m)) ≡ 0
unfolding unpacked
exact_middle m = middle_from (type_in m) (type_small m) (present_in m) (word_in m)

pub value_middle : (m : ℕ) → IsValue m → middle_in m ≡ 0
value_middle m h = sym (ap middle_in h) ∙ exact_middle m

-- The values that evaluation makes.
pub proper_int : (w : ℕ) → IsProper (Plain int_t w)
proper_int w = proper_plain 3 (omega arith) w (plain_yes 3 (omega arith) (omega arith))

pub proper_bool : (w : ℕ) → IsProper (Plain bool_t w)
proper_bool w = proper_plain 2 (omega arith) w (plain_yes 2 (omega arith) (omega arith))

pub proper_channel : (rec : Bytes) (c : ℕ) → IsProper (channel_value rec c)
unfolding channel_value maybe_of
proper_channel rec c = go (ltb c 4) (eqb (flag_on rec (c - 4)) 1)
  where
    go : (p q : Bool) → IsProper (if p then Plain int_t (word_on rec c) else if q then Present 7 (event_on rec (c - 4)) else Absent 7)
    go true q = proper_int _
    go false true = proper_present 7 (omega arith) _ (plain_no 7 (omega arith))
    go false false = proper_absent 7 (omega arith) (plain_no 7 (omega arith))

pub proper_quotient : (x y : ℕ) → IsProper (quotient_of x y)
unfolding quotient_of maybe_of
proper_quotient x y = go (eqb y 0) _
  where
    go : (p : Bool) (w : ℕ) → IsProper (if p then Absent 7 else Present 7 w)
    go true w = proper_absent 7 (omega arith) (plain_no 7 (omega arith))
    go false w = proper_present 7 (omega arith) w (plain_no 7 (omega arith))
