-- Valid values: they fit their bytes; a cell that holds one has a fitting content; and what a fitting content or a table's fields stand for
-- is valid.
-- Assumes nothing.
use Rattle.std.specs.Prelude.{if◌then◌else◌}
use mathlib.Core.Path.{◌≡◌, refl, ap, ◌∙◌}
use mathlib.Core.Logic.{◌⊎◌, inl, inr}
use mathlib.Core.Bool.{Bool, true, false, not}
use Prim.Native.Nat.{ℕ, ◌+◌, ◌-◌, ◌*◌, ◌<◌, ◌≤◌}
use native.Mathlib.Omega.{arith}
use lib.Dec.{eqb, leb}
use borrow.Author.Tests.{eq-eqb, eqb-true, le-leb, leb-true}
use Rattle.rules.specs.Bytes.{◌and◌, ◌or◌}
use Rattle.rules.specs.Values.{maybe_of, is_plain, is_maybe, is_type, type_of, value_from, value_fits, packed, unpacked, type_in, present_in, middle_in, word_in}
use Rattle.rules.specs.Operations.{truth}
use Rattle.rules.specs.WellFormed.{content_fits}
use Rattle.rules.specs.declared.Value.{Value}
use Rattle.rules.specs.declared.Value.TheVariants.{Plain, Absent, Present}
use Rattle.rules.proofs.Round.{Fits, plain_yes, plain_no, maybe_yes}
use Rattle.rules.proofs.Static.{and_both, or_left, or_right}
use Rattle.promises.specs.Valid.{WordOf, Valid}

-- Tests joined.
pub and_join : (a b : Bool) → a ≡ true → b ≡ true → (a and b) ≡ true
unfolding ◌and◌
and_join true b e h = h
and_join false b e h = e

-- One of two tests holds.
pub or_cases : (a b : Bool) → (a or b) ≡ true → (a ≡ true) ⊎ (b ≡ true)
unfolding ◌or◌
or_cases true b e = inl refl
or_cases false b e = inr e

-- A test that another implies.
implied : (a b : Bool) → (a or not b) ≡ true → b ≡ true → a ≡ true
unfolding ◌or◌
implied true b e h = refl
implied false true e h = e
implied false false e h = h

-- A test that implies another.
implies : (a b : Bool) → (b ≡ true → a ≡ true) → (a or not b) ≡ true
unfolding ◌or◌
implies true b f = refl
implies false true f = f refl
implies false false f = refl

-- A type.
pub data IsType (t : ℕ) : Type 0 where
  is_plain_lem : 1 ≤ t → t ≤ 3 → IsType t
  is_maybe_lem : 5 ≤ t → t ≤ 7 → IsType t

-- What the test of types says.
pub type_is : (t : ℕ) → is_type t ≡ true → IsType t
unfolding is_type is_plain is_maybe
type_is t e = go (or_cases _ _ e)
  where
    go : ((leb 1 t and leb t 3) ≡ true) ⊎ ((leb 5 t and leb t 7) ≡ true) → IsType t
    go (inl h) = let a = and_both _ _ h in is_plain_lem (leb-true 1 t a.0) (leb-true t 3 a.1)
    go (inr h) = let a = and_both _ _ h in is_maybe_lem (leb-true 5 t a.0) (leb-true t 7 a.1)

-- A valid value has a type.
pub valid_type : (v : Value) → Valid v → IsType (type_of v)
unfolding type_of
valid_type (Plain t w) h = is_plain_lem h.valid.0.0 h.valid.0.1
valid_type (Absent t) h = is_maybe_lem h.valid.0 h.valid.1
valid_type (Present t w) h = is_maybe_lem h.valid.0.0 h.valid.0.1

-- A valid value fits its bytes.
pub valid_fits : (v : Value) → Valid v → Fits v
valid_fits (Plain t w) h = record { fit = (h.valid.0, h.valid.1.0) }
valid_fits (Absent t) h = record { fit = h.valid }
valid_fits (Present t w) h = record { fit = (h.valid.0, h.valid.1.0) }

-- The word's rule as the definitions test it.
record Ruled (t present word : ℕ) : Type 0 where
  here : (eqb present 1 or (eqb present 0 and is_maybe t)) ≡ true
  empty : (eqb word 0 or eqb present 1) ≡ true
  unit : (eqb word 0 or not (eqb t 1 or eqb t 5)) ≡ true
  bool : (leb word 1 or not (eqb t 2 or eqb t 6)) ≡ true

-- The rules of a value that the definitions let pass.
ruled : (t present word : ℕ) → value_fits t present word ≡ true → Ruled t present word
unfolding value_fits maybe_of
ruled t present word e =
    let a = and_both _ _ e in
    let b = and_both _ _ a.0 in
    let c = and_both _ _ b.0 in
    record { here = c.0; empty = c.1; unit = b.1; bool = a.1 }

-- A value that keeps the rules is let pass.
fitting : (t present word : ℕ) → Ruled t present word → value_fits t present word ≡ true
unfolding value_fits maybe_of
fitting t present word r = and_join _ _ (and_join _ _ (and_join _ _ r.here r.empty) r.unit) r.bool

-- The word of a plain or of a present value.
unit_word : (t word : ℕ) → (eqb word 0 or not (eqb t 1 or eqb t 5)) ≡ true → (t ≡ 1) ⊎ (t ≡ 5) → word ≡ 0
unit_word t word e (inl h) = eqb-true word 0 (implied _ _ e (or_left _ _ (eq-eqb t 1 h)))
unit_word t word e (inr h) = eqb-true word 0 (implied _ _ e (or_right _ _ (eq-eqb t 5 h)))

-- The word of a bool is 0 or 1.
bool_word : (t word : ℕ) → (leb word 1 or not (eqb t 2 or eqb t 6)) ≡ true → (t ≡ 2) ⊎ (t ≡ 6) → word ≤ 1
bool_word t word e (inl h) = leb-true word 1 (implied _ _ e (or_left _ _ (eq-eqb t 2 h)))
bool_word t word e (inr h) = leb-true word 1 (implied _ _ e (or_right _ _ (eq-eqb t 6 h)))

-- One of two numbers.
either_is : (t a b : ℕ) → (eqb t a or eqb t b) ≡ true → (t ≡ a) ⊎ (t ≡ b)
either_is t a b e = go (or_cases _ _ e)
  where
    go : (eqb t a ≡ true) ⊎ (eqb t b ≡ true) → (t ≡ a) ⊎ (t ≡ b)
    go (inl h) = inl (eqb-true t a h)
    go (inr h) = inr (eqb-true t b h)

-- The rules of a value that is present.
here_ruled : (t word : ℕ) → ((t ≡ 1) ⊎ (t ≡ 5) → word ≡ 0) → ((t ≡ 2) ⊎ (t ≡ 6) → word ≤ 1) → Ruled t 1 word
here_ruled t word f g = record {
  here = or_left _ _ refl;
  empty = or_right _ _ refl;
  unit = implies _ _ λ e. eq-eqb word 0 (f (either_is t 1 5 e));
  bool = implies _ _ λ e. le-leb word 1 (g (either_is t 2 6 e));
}

-- The rules of a plain value.
plain_ruled : (t w : ℕ) → t ≤ 3 → WordOf t w → Ruled t 1 w
plain_ruled t w h o = here_ruled t w unit bool
  where
    unit : (t ≡ 1) ⊎ (t ≡ 5) → w ≡ 0
    unit (inl e) = o.1 e
    unit (inr e) = absurd (omega arith)

    bool : (t ≡ 2) ⊎ (t ≡ 6) → w ≤ 1
    bool (inl e) = o.2 e
    bool (inr e) = absurd (omega arith)

-- The rules of a present maybe.
present_ruled : (t w : ℕ) → 5 ≤ t → WordOf (t - 4) w → Ruled t 1 w
present_ruled t w h o = here_ruled t w unit bool
  where
    unit : (t ≡ 1) ⊎ (t ≡ 5) → w ≡ 0
    unit (inl e) = absurd (omega arith)
    unit (inr e) = o.1 (omega arith)

    bool : (t ≡ 2) ⊎ (t ≡ 6) → w ≤ 1
    bool (inl e) = absurd (omega arith)
    bool (inr e) = o.2 (omega arith)

-- The rules of an absent maybe.
absent_ruled : (t : ℕ) → 5 ≤ t → t ≤ 7 → Ruled t 0 0
unfolding ◌or◌ ◌and◌
absent_ruled t h g = record { here = maybe_yes t h g; empty = refl; unit = refl; bool = refl }

-- A cell with a value, and with a number in its bytes 2-3.
content_parts : (t present n word : ℕ) → t < 256 → present < 256 → n < 65536 → word < 4294967296 → Ruled t present word
    → content_fits t n (t + 256 * present + 65536 * n + 4294967296 * word) ≡ true
unfolding content_fits type_in middle_in present_in word_in
content_parts t b n w ht hb hn hw r =
    let m : ℕ = t + 256 * b + 65536 * n + 4294967296 * w in
    let p : present_in m ≡ b = omega arith in
    let q : word_in m ≡ w = omega arith in
    and_join _ _
    (and_join _ _ (eq-eqb (type_in m) t (omega arith)) (eq-eqb (middle_in m) n (omega arith)))
    (ap (λ (a : ℕ). value_fits t a (word_in m)) p ∙ ap (value_fits t b) q ∙ fitting t b w r)

-- A valid value with a number in bytes 2-3 is a fitting content.
pub content_fits_lem : (v : Value) (n : ℕ) → Valid v → n < 65536 → content_fits (type_of v) n (packed v + 65536 * n) ≡ true
unfolding packed type_of
content_fits_lem (Plain t w) n h l =
    let e : t + 256 + 4294967296 * w + 65536 * n ≡ t + 256 * 1 + 65536 * n + 4294967296 * w = omega arith in
    ap (content_fits t n) e
    ∙ content_parts t 1 n w (omega (arith, h.valid.0.1)) (omega arith) l h.valid.1.0 (plain_ruled t w h.valid.0.1 h.valid.1)
content_fits_lem (Absent t) n h l =
    let e : t + 65536 * n ≡ t + 256 * 0 + 65536 * n + 4294967296 * 0 = omega arith in
    ap (content_fits t n) e
    ∙ content_parts t 0 n 0 (omega (arith, h.valid.1)) (omega arith) l (omega arith) (absent_ruled t h.valid.0 h.valid.1)
content_fits_lem (Present t w) n h l =
    let e : t + 256 + 4294967296 * w + 65536 * n ≡ t + 256 * 1 + 65536 * n + 4294967296 * w = omega arith in
    ap (content_fits t n) e
    ∙ content_parts t 1 n w (omega (arith, h.valid.0.1)) (omega arith) l h.valid.1.0 (present_ruled t w h.valid.0.0 h.valid.1)

-- A valid value is a fitting content.
pub value_fits_lem : (v : Value) → Valid v → content_fits (type_of v) 0 (packed v) ≡ true
value_fits_lem v h = ap (content_fits (type_of v) 0) (let e : packed v ≡ packed v + 65536 * 0 = omega arith in e) ∙ content_fits_lem v 0 h (omega arith)

-- A value of a type.
pub record OfType (v : Value) (t : ℕ) : Type 0 where
  pub valid : Valid v
  pub typed : type_of v ≡ t

-- Ints, present ints and truths.
pub int_of : (w : ℕ) → w < 4294967296 → OfType (Plain 3 w) 3
unfolding type_of
int_of w h =
    record { valid = record { valid = ((omega arith, omega arith), (h, λ e. absurd (omega arith), λ e. absurd (omega arith))) }; typed = refl }

-- A present int.
pub some_of : (w : ℕ) → w < 4294967296 → OfType (Present 7 w) 7
unfolding type_of
some_of w h =
    record { valid = record { valid = ((omega arith, omega arith), (h, λ e. absurd (omega arith), λ e. absurd (omega arith))) }; typed = refl }

-- An absent int.
pub none_of : OfType (Absent 7) 7
unfolding type_of
none_of = record { valid = record { valid = (omega arith, omega arith) }; typed = refl }

-- A truth is a bool.
pub truth_of : (b : Bool) → OfType (truth b) 2
unfolding truth type_of
truth_of true =
    record { valid = record { valid = ((omega arith, omega arith), (omega arith, λ e. absurd (omega arith), λ e. omega arith)) }; typed = refl }
truth_of false =
    record { valid = record { valid = ((omega arith, omega arith), (omega arith, λ e. refl, λ e. omega arith)) }; typed = refl }

-- Just, and a present value taken apart.
pub just_valid : (t w : ℕ) → Valid (Plain t w) → Valid (Present (t + 4) w)
just_valid t w h =
    let o = h.valid.1 in
    record {
      valid = ((omega (arith, h.valid.0.0), omega (arith, h.valid.0.1)), (o.0, λ e. o.1 (omega arith), λ e. o.2 (omega arith)));
    }

-- A present value taken apart.
pub inner_valid : (t w : ℕ) → Valid (Present t w) → Valid (Plain (t - 4) w)
inner_valid t w h = record { valid = ((omega (arith, h.valid.0.0), omega (arith, h.valid.0.1)), h.valid.1) }

-- The value that a type, a present byte and a word stand for.
pub from_valid : (t b w : ℕ) → IsType t → w < 4294967296 → value_fits t b w ≡ true → OfType (value_from t b w) t
unfolding value_from type_of
from_valid t b w (is_plain_lem h g) s e =
    let r = ruled t b w e in
    rw (plain_yes t h g) (record {
      valid = record { valid = ((h, g), (s, λ q. unit_word t w r.unit (inl q), λ q. bool_word t w r.bool (inl q))) };
      typed = refl;
    })
from_valid t b w (is_maybe_lem h g) s e = rw (plain_no t h) (go (eqb b 0))
  where
    go : (q : Bool) → OfType (if q then Absent t else Present t w) t
    go true = record { valid = record { valid = (h, g) }; typed = refl }
    go false =
        let r = ruled t b w e in
        record {
          valid = record { valid = ((h, g), (s, λ q. unit_word t w r.unit (inr (omega arith)), λ q. bool_word t w r.bool (inr (omega arith)))) };
          typed = refl;
        }

-- The word of eight bytes is one of 32 bits.
word_small : (k : ℕ) → k < 18446744073709551616 → word_in k < 4294967296
unfolding word_in
word_small k l = omega arith

-- What a fitting content holds.
pub content_valid : (t middle m : ℕ) → IsType t → m < 18446744073709551616 → content_fits t middle m ≡ true → OfType (unpacked m) t
unfolding content_fits unpacked
content_valid t middle m is h e =
    let a = and_both _ _ e in
    let b = and_both _ _ a.0 in
    rw (eqb-true (type_in m) t b.0) (from_valid t (present_in m) (word_in m) is (word_small m h) a.1)

-- A packed value is not zero, and fits eight bytes, also with a number in bytes 2-3.
pub packed_some : (v : Value) → Valid v → 1 ≤ packed v
unfolding packed
packed_some (Plain t w) h = omega (arith, h.valid.0.0)
packed_some (Absent t) h = omega (arith, h.valid.0)
packed_some (Present t w) h = omega (arith, h.valid.0.0)

-- A packed value with a number in bytes 2-3 is eight bytes.
pub packed_small : (v : Value) (n : ℕ) → Valid v → n < 65536 → packed v + 65536 * n < 18446744073709551616
unfolding packed
packed_small (Plain t w) n h l = omega (arith, h.valid.0.1, h.valid.1.0)
packed_small (Absent t) n h l = omega (arith, h.valid.1)
packed_small (Present t w) n h l = omega (arith, h.valid.0.1, h.valid.1.0)

-- That number is read back.
pub packed_middle : (v : Value) (n : ℕ) → Valid v → n < 65536 → middle_in (packed v + 65536 * n) ≡ n
unfolding packed middle_in
packed_middle (Plain t w) n h l = omega (arith, h.valid.0.1, h.valid.1.0)
packed_middle (Absent t) n h l = omega (arith, h.valid.1)
packed_middle (Present t w) n h l = omega (arith, h.valid.0.1, h.valid.1.0)
