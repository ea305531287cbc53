use Rattle.peeking.proofs.EntryLaws.{off_beyond, off_kind, on_first, on_above, off_above, not_yes, not_no}
use Rattle.rules.specs.Layout.{kind_at}
use Rattle.rules.specs.Kinds.{is_signal}
use native.Mathlib.Omega.{arith}
use mathlib.Core.Path.{sym, ap, ◌∙◌}
use Rattle.peeking.proofs.entry_off.Goals as goal

pub returns-then-x-count : goal.returns-then-x-count
returns-then-x-count c = off_beyond _ _ _ (omega (arith, c.number_of-x.ensures, c.if-x-count.true, c.requires.1))

pub kind_of-requires : goal.kind_of-requires
kind_of-requires c = let s = c.requires.0 in (omega (arith, s.within, c.if-x-count.false, c.requires.1), omega (arith, s.small, c.if-x-count.false, c.requires.1))

pub returns-then-not-is_signal : goal.returns-then-not-is_signal
returns-then-not-is_signal c = off_kind _ _ _ (omega (arith, c.number_of-x.ensures, c.if-x-count.false, c.requires.1)) (sym (c.is_signal.ensures ∙ ap is_signal (c.kind_of.ensures ∙ ap (kind_at c.args.p.now) c.number_of-x.ensures)) ∙ not_yes _ c.if-not-is_signal.true-raw)

pub returns-then-j-eq0 : goal.returns-then-j-eq0
returns-then-j-eq0 c = on_first _ _ _ (omega (arith, c.number_of-x.ensures, c.if-x-count.false, c.requires.1)) (sym (c.is_signal.ensures ∙ ap is_signal (c.kind_of.ensures ∙ ap (kind_at c.args.p.now) c.number_of-x.ensures)) ∙ not_no _ c.if-not-is_signal.false-raw) c.if-j-eq0.true

pub number_of-requires : goal.number_of-requires
number_of-requires c = omega (arith, c.requires.2)

pub returns-then-number_of-x : goal.returns-then-number_of-x
returns-then-number_of-x c = on_above _ _ _ (omega (arith, c.number_of-x.ensures, c.if-x-count.false, c.requires.1)) (sym (c.is_signal.ensures ∙ ap is_signal (c.kind_of.ensures ∙ ap (kind_at c.args.p.now) c.number_of-x.ensures)) ∙ not_no _ c.if-not-is_signal.false-raw) c.if-j-eq0.false (omega (arith, c.number_of-x.ensures, c.number_of.ensures, c.if-number_of-x.true))

pub returns : goal.returns
returns c = off_above _ _ _ (omega (arith, c.number_of-x.ensures, c.if-x-count.false, c.requires.1)) (sym (c.is_signal.ensures ∙ ap is_signal (c.kind_of.ensures ∙ ap (kind_at c.args.p.now) c.number_of-x.ensures)) ∙ not_no _ c.if-not-is_signal.false-raw) c.if-j-eq0.false (omega (arith, c.number_of-x.ensures, c.number_of.ensures, c.if-number_of-x.false))
