use Rattle.pairing.proofs.EntryLaws.{four_bytes}
use Rattle.dropped.specs.PairedCall.{pairing_answer}
use borrow.Author.Tests.{eq-eqb, ne_eqb}
use mathlib.Core.Path.{sym, ◌∙◌}
use Rattle.pairing.proofs.pairing_answer.Goals as goal

pub editions_differ-requires : goal.editions_differ-requires
editions_differ-requires c = (four_bytes _ c.requires.0, four_bytes _ c.requires.1)

pub returns-then-editions_differ : goal.returns-then-editions_differ
unfolding pairing_answer
returns-then-editions_differ c = simp (sym c.editions_differ.ensures ∙ c.if-editions_differ.true)

pub entries-requires : goal.entries-requires
entries-requires c = c.requires

pub returns-then-pairing-count : goal.returns-then-pairing-count
unfolding pairing_answer
returns-then-pairing-count c = simp (sym c.editions_differ.ensures ∙ c.if-editions_differ.false, eq-eqb _ _ (c.if-pairing-count.true ∙ c.requires.3)) c.entries.ensures

pub returns : goal.returns
unfolding pairing_answer
returns c = simp (sym c.editions_differ.ensures ∙ c.if-editions_differ.false, ne_eqb _ _ (λ e. c.if-pairing-count.false (e ∙ sym c.requires.3)))
