use mathlib.Core.Path.{refl}
use native.Mathlib.Omega.{arith}
use Rattle.letters.proofs.WroteLaws.{byte_far, byte_in, byte_out}
use Rattle.letters.proofs.put_byte.Goals as goal

pub returns-then-at-ge-LONGEST : goal.returns-then-at-ge-LONGEST
returns-then-at-ge-LONGEST c = byte_far _ _ _ (omega arith)

pub returns-then-at-room : goal.returns-then-at-room
returns-then-at-room c = byte_in _ _ _ _ refl

pub returns : goal.returns
returns c = byte_out _ _ _ (omega arith)
