use mathlib.Core.Path.{refl}
use Rattle.reader.specs.Held.{is_inside}
use Rattle.phrases.proofs.StepLaws.{err_is}
use Rattle.reader.proofs.SimpleLaws as P
use Rattle.reader.proofs.simple.Goals as goal

pub returns-in-Unused : goal.returns-in-Unused
returns-in-Unused c = P.says_unused _ _ _ _ _ _ c.in-Unused.is

pub returns-in-Channel : goal.returns-in-Channel
returns-in-Channel c = P.says_channel _ _ _ _ _ _ c.in-Channel.is _ c.channel.ensures

pub returns-in-PresentByte : goal.returns-in-PresentByte
returns-in-PresentByte c = P.says_present _ _ _ _ _ _ c.in-PresentByte.is

pub returns-in-Signal : goal.returns-in-Signal
unfolding is_inside
returns-in-Signal c = λ node so. absurd (P.no_inside _ _ c.in-Signal.is refl c.requires.f_value)

pub returns-in-Expression : goal.returns-in-Expression
unfolding is_inside
returns-in-Expression c = λ node so. absurd (P.no_inside _ _ c.in-Expression.is refl c.requires.f_value)

pub returns-in-FirstBranch : goal.returns-in-FirstBranch
unfolding is_inside
returns-in-FirstBranch c = λ node so. absurd (P.no_inside _ _ c.in-FirstBranch.is refl c.requires.f_value)

pub returns-in-NextBranch : goal.returns-in-NextBranch
returns-in-NextBranch c = P.says_next_branch _ _ _ _ _ _ c.in-NextBranch.is

pub returns-in-FirstCase : goal.returns-in-FirstCase
unfolding is_inside
returns-in-FirstCase c = λ node so. absurd (P.no_inside _ _ c.in-FirstCase.is refl c.requires.f_value)

pub returns-in-NextCase : goal.returns-in-NextCase
returns-in-NextCase c = P.says_next_case _ _ _ _ _ _ c.in-NextCase.is

pub returns-in-Binder : goal.returns-in-Binder
returns-in-Binder c = P.says_binder _ _ _ _ _ _ c.in-Binder.is

pub returns-in_err-w-in-Target : goal.returns-in_err-w-in-Target
returns-in_err-w-in-Target c = P.says_no_target _ _ _ _ _ _ c.in-Target.is _ c.target.ensures.0 _ c.in_err-w-in-Target.was _ (err_is _ _ c.from_residual.ensures.1)

pub returns-in_ok-w-in-Target : goal.returns-in_ok-w-in-Target
returns-in_ok-w-in-Target c = P.says_target _ _ _ _ _ _ c.in-Target.is _ c.target.ensures.0 c.target.ensures.1 _ c.in_ok-w-in-Target.was
