-- The operations, kinds 18-23, 25 and 26: what they take, what they give and what they mean.
-- Assumes nothing: these are definitions.
use Rattle.std.specs.Prelude.{ℕ, Bool, not, eqb, leb, ℤ, ◌+ℤ◌, ◌-ℤ◌, ◌*ℤ◌, if◌then◌else◌}
use Rattle.rules.specs.Bytes.{◌and◌, ◌or◌}
use Rattle.rules.specs.Values.{bool_t, int_t, maybe_of}
use Rattle.rules.specs.Words.{signed, outside, sum_of, difference_of, product_of, floor_z, quotient_of, is_less}
use Rattle.rules.specs.declared.Value.{Value}
use Rattle.rules.specs.declared.Value.TheVariants.{Plain}

-- A bool's word is 0 or 1.
unfoldable pub truth : Bool → Value
truth b = Plain bool_t (if b then 1 else 0)

unfoldable pub is_true : ℕ → Bool
is_true w = eqb w 1

-- Kinds 18-21 take ints, and so do 22 and 23; 25 and 26 take bools.
unfoldable pub operand_type : ℕ → ℕ
operand_type k = if leb k 23 then int_t else bool_t

-- 18-20 give int, divide (21) maybe int, the others bool.
unfoldable pub result_type : ℕ → ℕ
result_type k = if leb k 20 then int_t else if eqb k 21 then maybe_of int_t else bool_t

-- 18-20: add, subtract, multiply.
unfoldable pub number_of : ℕ → ℕ → ℕ → ℕ
number_of k x y = if eqb k 18 then sum_of x y else if eqb k 19 then difference_of x y else product_of x y

-- 22 less, 23 equal, on ints; 25 and, 26 or.
unfoldable pub truth_of : ℕ → ℕ → ℕ → Bool
truth_of k x y =
    if eqb k 22 then is_less x y
    else if eqb k 23 then eqb x y
    else if eqb k 25 then is_true x and is_true y
    else is_true x or is_true y

-- What an operation means on the words of its operands; 21 is divide.
unfoldable pub meaning : ℕ → ℕ → ℕ → Value
meaning k x y =
    if leb k 20 then Plain int_t (number_of k x y)
    else if eqb k 21 then quotient_of x y
    else truth (truth_of k x y)

-- The integer that a sum, a difference, a product or a quotient of the integers of two words is, before it wraps.
unfoldable pub exact_of : ℕ → ℕ → ℕ → ℤ
exact_of k x y =
    if eqb k 18 then signed x +ℤ signed y
    else if eqb k 19 then signed x -ℤ signed y
    else if leb k 20 then signed x *ℤ signed y
    else floor_z (signed x) (signed y)

-- Whether a sum, a difference or a product left the 32-bit range; a negative quotient does not count, and -2147483648 by -1 does. (Of quotients only
-- that one leaves it, and a zero divisor gives none.)
unfoldable pub leaves_range : ℕ → ℕ → ℕ → Bool
leaves_range k x y = leb k 21 and not (eqb k 21 and eqb y 0) and outside (exact_of k x y)
