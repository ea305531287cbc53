-- A row of the paper's table as one number: its digits are what the record and the shape are asked for.
-- Assumes nothing: these are definitions.
use Rattle.std.specs.Prelude.{ℕ, ◌+◌, ◌*◌, ◌/◌, ◌%◌, eqb, if◌then◌else◌}
use Rattle.rules.specs.Kinds.{is_kind, fields_of}
use Rattle.rules.specs.declared.Field.{Field}
use Rattle.rules.specs.declared.Field.TheVariants.{Unused, Channel, PresentByte, Signal, Expression, FirstBranch, NextBranch, FirstCase, NextCase, Binder, Target}
use Rattle.rules.specs.declared.TypeField.{TypeField}
use Rattle.rules.specs.declared.TypeField.TheVariants.{NoType, AnyType, PlainType, ValueType}
use Rattle.rules.specs.declared.Fields.{Fields}

-- The number of a field that names a child; 0 of one that names none.
unfoldable pub child_number : Field → ℕ
child_number Unused = 0
child_number Channel = 0
child_number PresentByte = 0
child_number Signal = 1
child_number Expression = 2
child_number FirstBranch = 3
child_number NextBranch = 4
child_number FirstCase = 5
child_number NextCase = 6
child_number Binder = 0
child_number Target = 0

unfoldable pub child_numbered : ℕ → Field
child_numbered d =
    if eqb d 1 then Signal
    else if eqb d 2 then Expression
    else if eqb d 3 then FirstBranch
    else if eqb d 4 then NextBranch
    else if eqb d 5 then FirstCase
    else if eqb d 6 then NextCase
    else Unused

-- A field as far as it names a child.
unfoldable pub as_child : Field → Field
as_child f = child_numbered (child_number f)

-- The number of what the type is.
unfoldable pub type_number : TypeField → ℕ
type_number NoType = 1
type_number AnyType = 2
type_number PlainType = 3
type_number ValueType = 4

unfoldable pub type_numbered : ℕ → TypeField
type_numbered d =
    if eqb d 1 then NoType
    else if eqb d 2 then AnyType
    else if eqb d 3 then PlainType
    else ValueType

-- How many bits a field may have: none where it is not named, 3 of a channel.
unfoldable pub width : Field → ℕ
width Unused = 0
width Channel = 3
width PresentByte = 16
width Signal = 16
width Expression = 16
width FirstBranch = 16
width NextBranch = 16
width FirstCase = 16
width NextCase = 16
width Binder = 16
width Target = 16

-- The fields a, b and c, one behind the other, have 48 bits. Those from this one on stand in no field that is named.
unfoldable pub named_bits : Fields → ℕ
named_bits f = if eqb (width f.c) 0 then if eqb (width f.b) 0 then width f.a else 32 else 48

unfoldable pub row_number : Fields → ℕ
row_number f =
    named_bits f + 64 * type_number f.ty + 512 * child_number f.a + 4096 * child_number f.b + 32768 * child_number f.c

-- The row of a kind; 0 of a number that is none.
unfoldable pub row_of : ℕ → ℕ
row_of k = if is_kind k then row_number (fields_of k) else 0

-- The digits of a row.
unfoldable pub named_in : ℕ → ℕ
named_in r = r % 64

unfoldable pub type_field_in : ℕ → TypeField
type_field_in r = type_numbered (r / 64 % 8)

unfoldable pub a_in : ℕ → Field
a_in r = child_numbered (r / 512 % 8)

unfoldable pub b_in : ℕ → Field
b_in r = child_numbered (r / 4096 % 8)

unfoldable pub c_in : ℕ → Field
c_in r = child_numbered (r / 32768 % 8)
