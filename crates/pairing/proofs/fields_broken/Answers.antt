use Rattle.pairing.proofs.EntryLaws.{fields_are}
use Rattle.pairing.proofs.AskedLaws.{a_alike, b_alike, c_alike}
use Rattle.pairing.proofs.fields_broken.Goals as goal

pub field_broken-a-requires : goal.field_broken-a-requires
field_broken-a-requires c = (c.requires.0, (a_alike _ c.row_of-row.ensures c.a_of-fa.ensures).inside _ _ c.requires.1.in_a)

pub field_broken-b-requires : goal.field_broken-b-requires
field_broken-b-requires c = (c.requires.0, (b_alike _ c.row_of-row.ensures c.b_in-fb.ensures).inside _ _ c.requires.1.in_b)

pub field_broken-c-requires : goal.field_broken-c-requires
field_broken-c-requires c = (c.requires.0, (c_alike _ c.row_of-row.ensures c.c_of-fc.ensures).inside _ _ c.requires.1.in_c)

pub returns : goal.returns
returns c = fields_are _ _ _ _ _ _ _ _ _ _ (a_alike _ c.row_of-row.ensures c.a_of-fa.ensures) (b_alike _ c.row_of-row.ensures c.b_in-fb.ensures) (c_alike _ c.row_of-row.ensures c.c_of-fc.ensures) c.field_broken-a.ensures c.field_broken-b.ensures c.field_broken-c.ensures c.earlier.ensures c.earlier-2.ensures
