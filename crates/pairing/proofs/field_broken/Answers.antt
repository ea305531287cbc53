use Rattle.pairing.proofs.EntryLaws.{in_child, in_next}
use Rattle.dropped.specs.Clauses.{field_broken}
use Rattle.rules.specs.Shape.{is_child, may_stop}
use mathlib.Core.Path.{refl}
use Rattle.pairing.proofs.field_broken.Goals as goal

pub child_broken-requires : goal.child_broken-requires
unfolding is_child may_stop
child_broken-requires c = (c.requires.0, in_child _ _ c.in-Signal.is refl refl c.requires.1)

pub child_broken-requires-in-Expression : goal.child_broken-requires-in-Expression
unfolding is_child may_stop
child_broken-requires-in-Expression c = (c.requires.0, in_child _ _ c.in-Expression.is refl refl c.requires.1)

pub child_broken-requires-in-FirstBranch : goal.child_broken-requires-in-FirstBranch
unfolding is_child may_stop
child_broken-requires-in-FirstBranch c = (c.requires.0, in_child _ _ c.in-FirstBranch.is refl refl c.requires.1)

pub next_broken-requires : goal.next_broken-requires
unfolding is_child may_stop
next_broken-requires c = (c.requires.0, in_next _ _ c.in-NextBranch.is refl c.requires.1)

pub child_broken-requires-in-FirstCase : goal.child_broken-requires-in-FirstCase
unfolding is_child may_stop
child_broken-requires-in-FirstCase c = (c.requires.0, in_child _ _ c.in-FirstCase.is refl refl c.requires.1)

pub next_broken-requires-in-NextCase : goal.next_broken-requires-in-NextCase
unfolding is_child may_stop
next_broken-requires-in-NextCase c = (c.requires.0, in_next _ _ c.in-NextCase.is refl c.requires.1)

pub returns-in-Unused : goal.returns-in-Unused
unfolding field_broken
returns-in-Unused c = rw c.in-Unused.is c.unless.ensures

pub returns-in-Channel : goal.returns-in-Channel
unfolding field_broken
returns-in-Channel c = rw c.in-Channel.is c.unless-in-Channel.ensures

pub returns-in-PresentByte : goal.returns-in-PresentByte
unfolding field_broken
returns-in-PresentByte c = rw c.in-PresentByte.is c.unless-in-PresentByte.ensures

pub returns-in-Signal : goal.returns-in-Signal
unfolding field_broken
returns-in-Signal c = rw c.in-Signal.is c.child_broken.ensures

pub returns-in-Expression : goal.returns-in-Expression
unfolding field_broken
returns-in-Expression c = rw c.in-Expression.is c.child_broken-in-Expression.ensures

pub returns-in-FirstBranch : goal.returns-in-FirstBranch
unfolding field_broken
returns-in-FirstBranch c = rw c.in-FirstBranch.is c.child_broken-in-FirstBranch.ensures

pub returns-in-NextBranch : goal.returns-in-NextBranch
unfolding field_broken
returns-in-NextBranch c = rw c.in-NextBranch.is c.next_broken.ensures

pub returns-in-FirstCase : goal.returns-in-FirstCase
unfolding field_broken
returns-in-FirstCase c = rw c.in-FirstCase.is c.child_broken-in-FirstCase.ensures

pub returns-in-NextCase : goal.returns-in-NextCase
unfolding field_broken
returns-in-NextCase c = rw c.in-NextCase.is c.next_broken-in-NextCase.ensures

pub returns-in-Binder : goal.returns-in-Binder
unfolding field_broken
returns-in-Binder c = rw c.in-Binder.is c.named_broken.ensures

pub returns-in-Target : goal.returns-in-Target
unfolding field_broken
returns-in-Target c = rw c.in-Target.is c.named_broken-in-Target.ensures
