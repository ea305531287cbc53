-- A record of a kind, by the number of the kind's row: the first eight bytes, kind, type, a, b and c, are one number.
-- Assumes nothing: these are definitions.
use Rattle.std.specs.Prelude.{ℕ, ◌/◌, ◌%◌, ◌^◌, Bool, false, not, eqb}
use Rattle.rules.specs.Bytes.{◌or◌}
use Rattle.rules.specs.Shape.{is_child}
use Rattle.rules.specs.Format.{type_field_wrong}
use Rattle.rules.specs.declared.Field.{Field}
use Rattle.rules.specs.declared.TypeField.{TypeField}
use Rattle.rules.specs.declared.TypeField.TheVariants.{NoType, AnyType, PlainType, ValueType}
use Rattle.kinds.specs.Rows.{named_in, type_field_in, a_in}

-- What kinds name comes first among a, b and c, but that a value's field a may be left out: it names a child or is zero.
unfoldable pub left_out : TypeField → Field → ℕ → Bool
left_out NoType f a = false
left_out AnyType f a = false
left_out PlainType f a = false
left_out ValueType f a = not (is_child f or eqb a 0)

-- A bit is set that no named field has, or the type is not as named, or the field left out is not zero.
unfoldable pub row_wrong : ℕ → ℕ → ℕ → Bool
row_wrong row low w =
    not (eqb (low / 65536 / 2 ^ named_in row) 0)
    or (type_field_wrong (type_field_in row) (low / 256 % 256) (low / 4294967296 % 65536) w or left_out (type_field_in row) (a_in row) (low / 65536 % 65536))
