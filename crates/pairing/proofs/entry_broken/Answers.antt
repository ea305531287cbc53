use native.Mathlib.Omega.{arith}
use Rattle.pairing.proofs.EntryLaws.{in_fields, node_by, entry_far, entry_other, entry_same}
use mathlib.Core.Path.{sym, ◌∙◌}
use Rattle.pairing.proofs.entry_broken.Goals as goal

pub returns-then-olds-j : goal.returns-then-olds-j
returns-then-olds-j c = entry_far _ _ _ _ (omega (arith, c.old_of-j.ensures, c.if-olds-j.true, c.requires.2))

pub node-n-requires : goal.node-n-requires
node-n-requires c = (omega (arith, c.requires.1.within, c.requires.3, c.requires.4), omega (arith, c.requires.1.small, c.requires.3, c.requires.4))

pub node-o-requires : goal.node-o-requires
node-o-requires c = (omega (arith, c.requires.0.shaped.within, c.requires.2, c.if-olds-j.false), omega (arith, c.requires.0.shaped.small, c.requires.2, c.if-olds-j.false))

pub returns-then-n-o : goal.returns-then-n-o
returns-then-n-o c = entry_other _ _ _ _ (omega (arith, c.old_of-j.ensures, c.if-olds-j.false, c.requires.2)) (λ e. c.if-n-o.true (c.node-n.ensures.kind_is ∙ e ∙ sym (node_by c.old_of-j.ensures c.node-o.ensures).kind_is))

pub fields_broken-fields-requires : goal.fields_broken-fields-requires
fields_broken-fields-requires c = (c.requires.0, in_fields _ _ _ _ c.requires.0.shaped (omega (arith, c.if-olds-j.false, c.requires.2)) c.node-o.ensures c.if-n-o.false)

pub last_broken-last-requires : goal.last_broken-last-requires
last_broken-last-requires c = (c.requires.0, c.requires.2, omega (arith, c.if-olds-j.false), c.requires.4)

pub returns : goal.returns
returns c = entry_same _ _ _ _ _ _ _ _ _ c.requires.3 c.requires.2 c.old_of-j.ensures c.if-olds-j.false c.node-n.ensures c.node-o.ensures c.if-n-o.false c.both.ensures c.unless-plain.ensures c.fields_broken-fields.ensures c.last_broken-last.ensures c.earlier.ensures c.earlier-2.ensures
