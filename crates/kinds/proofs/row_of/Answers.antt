use mathlib.Core.Path.{refl}
use Rattle.rules.specs.Bytes.{◌and◌, ◌or◌}
use Rattle.rules.specs.Kinds.{row, is_signal, is_branch, is_case, is_expression, is_kind, fields_of}
use Rattle.kinds.specs.Rows.{child_number, type_number, width, named_bits, row_number, row_of}
use Rattle.kinds.proofs.RowLaws.{at, operates, none_low, none_high}
use Rattle.kinds.proofs.row_of.Goals as goal

pub returns-in-16-to-29 : goal.returns-in-16-to-29
returns-in-16-to-29 c = let r = c.in-16-to-29.in_default-own.rest.0 in
    operates c.row-in-16-to-29.ensures c.in-16-to-29.if-k-lt16-own.false c.in-16-to-29.if-k-lt27-own.true
    r.0.0.0.0.0.1 r.0.0.0.0.1 r.0.0.0.1

pub returns-in_default : goal.returns-in_default
returns-in_default c = let rest = c.in_default.in_default-own.rest in
    let r = rest.0.0.0.0.0.0.0 in
    none_low _ c.in_default.if-k-lt16-own.true r.0.0.0.0.0.0.0.0.1 rest.1
    r.0.0.0.0.0.0.0.1 r.0.0.0.0.0.0.1 r.0.0.0.0.0.1 r.0.0.0.0.1 r.0.0.0.1 r.0.0.1 r.0.1 r.1

pub returns-in_default-2 : goal.returns-in_default-2
returns-in_default-2 c = let r = c.in_default.in_default-own.rest.0 in
    none_high _ c.in_default.if-k-lt27-own.false r.0.0.1 r.0.1 r.1

pub returns-in-1 : goal.returns-in-1
unfolding row_of is_kind is_signal is_branch is_case is_expression ◌and◌ ◌or◌ fields_of row row_number named_bits width child_number type_number
returns-in-1 c = at c.row.ensures c.in-1.is refl

pub returns-in-3 : goal.returns-in-3
unfolding row_of is_kind is_signal is_branch is_case is_expression ◌and◌ ◌or◌ fields_of row row_number named_bits width child_number type_number
returns-in-3 c = at c.row-in-3.ensures c.in-3.is refl

pub returns-in-4 : goal.returns-in-4
unfolding row_of is_kind is_signal is_branch is_case is_expression ◌and◌ ◌or◌ fields_of row row_number named_bits width child_number type_number
returns-in-4 c = at c.row-in-4.ensures c.in-4.is refl

pub returns-in-5 : goal.returns-in-5
unfolding row_of is_kind is_signal is_branch is_case is_expression ◌and◌ ◌or◌ fields_of row row_number named_bits width child_number type_number
returns-in-5 c = at c.row-in-5.ensures c.in-5.is refl

pub returns-in-6 : goal.returns-in-6
unfolding row_of is_kind is_signal is_branch is_case is_expression ◌and◌ ◌or◌ fields_of row row_number named_bits width child_number type_number
returns-in-6 c = at c.row-in-6.ensures c.in-6.is refl

pub returns-in-7 : goal.returns-in-7
unfolding row_of is_kind is_signal is_branch is_case is_expression ◌and◌ ◌or◌ fields_of row row_number named_bits width child_number type_number
returns-in-7 c = at c.row-in-7.ensures c.in-7.is refl

pub returns-in-8 : goal.returns-in-8
unfolding row_of is_kind is_signal is_branch is_case is_expression ◌and◌ ◌or◌ fields_of row row_number named_bits width child_number type_number
returns-in-8 c = at c.row-in-8.ensures c.in-8.is refl

pub returns-in-9 : goal.returns-in-9
unfolding row_of is_kind is_signal is_branch is_case is_expression ◌and◌ ◌or◌ fields_of row row_number named_bits width child_number type_number
returns-in-9 c = at c.row-in-9.ensures c.in-9.is refl

pub returns-in-10 : goal.returns-in-10
unfolding row_of is_kind is_signal is_branch is_case is_expression ◌and◌ ◌or◌ fields_of row row_number named_bits width child_number type_number
returns-in-10 c = at c.row-in-10.ensures c.in-10.is refl

pub returns-in-16 : goal.returns-in-16
unfolding row_of is_kind is_signal is_branch is_case is_expression ◌and◌ ◌or◌ fields_of row row_number named_bits width child_number type_number
returns-in-16 c = at c.row-in-16.ensures c.in-16.is refl

pub returns-in-17 : goal.returns-in-17
unfolding row_of is_kind is_signal is_branch is_case is_expression ◌and◌ ◌or◌ fields_of row row_number named_bits width child_number type_number
returns-in-17 c = at c.row-in-17.ensures c.in-17.is refl

pub returns-in-24 : goal.returns-in-24
unfolding row_of is_kind is_signal is_branch is_case is_expression ◌and◌ ◌or◌ fields_of row row_number named_bits width child_number type_number
returns-in-24 c = at c.row-in-24.ensures c.in-24.is refl

pub returns-in-27 : goal.returns-in-27
unfolding row_of is_kind is_signal is_branch is_case is_expression ◌and◌ ◌or◌ fields_of row row_number named_bits width child_number type_number
returns-in-27 c = at c.row-in-27.ensures c.in-27.is refl

pub returns-in-28 : goal.returns-in-28
unfolding row_of is_kind is_signal is_branch is_case is_expression ◌and◌ ◌or◌ fields_of row row_number named_bits width child_number type_number
returns-in-28 c = at c.row-in-28.ensures c.in-28.is refl

pub returns-in-29 : goal.returns-in-29
unfolding row_of is_kind is_signal is_branch is_case is_expression ◌and◌ ◌or◌ fields_of row row_number named_bits width child_number type_number
returns-in-29 c = at c.row-in-29.ensures c.in-29.is refl

pub returns-in-1-to-8 : goal.returns-in-1-to-8
unfolding row_of is_kind is_signal is_branch is_case is_expression ◌and◌ ◌or◌ fields_of row row_number named_bits width child_number type_number
returns-in-1-to-8 c = at c.row-in-1-to-8.ensures c.in-1-to-8.in-1-to-8-own.keys16 refl
