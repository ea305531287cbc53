use mathlib.Core.Path.{sym, ◌∙◌}
use Rattle.format.proofs.RowLaws.{no_type, any_type, plain_type_lem, value_type}
use Rattle.format.proofs.type_wrong.Goals as goal

pub returns-in-NoType : goal.returns-in-NoType
returns-in-NoType c = no_type _ _ _ _ _ (sym c.type_field_in-f.ensures ∙ c.in-NoType.is) c.both.ensures

pub returns-in-AnyType : goal.returns-in-AnyType
returns-in-AnyType c = any_type _ _ _ _ _ (sym c.type_field_in-f.ensures ∙ c.in-AnyType.is)
    c.is_type.ensures c.both-in-AnyType.ensures

pub returns-in-PlainType : goal.returns-in-PlainType
returns-in-PlainType c = plain_type_lem _ _ _ _ _ (sym c.type_field_in-f.ensures ∙ c.in-PlainType.is)
    c.is_plain.ensures c.both-in-PlainType.ensures

pub returns-in-ValueType : goal.returns-in-ValueType
returns-in-ValueType c = value_type _ _ _ _ _ (sym c.type_field_in-f.ensures ∙ c.in-ValueType.is)
    c.is_type-in-ValueType.ensures c.value_fits.ensures c.both-fits.ensures
    c.a_in.ensures c.is_child.ensures c.either.ensures c.both-in-ValueType.ensures
