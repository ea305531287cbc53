use mathlib.Core.List.{[]}
use Rattle.reading.proofs.CallLaws as K
use lib.ListN.{length-replicate}
use native.Mathlib.Omega.{arith}
use Prim.Native.Nat.{ℕ}
use mathlib.Core.Path.{sym, ◌∙◌}
use Rattle.reading.proofs.read.Goals as goal

pub returns-then-room-n : goal.returns-then-room-n
returns-then-room-n c = K.call_short _ _ (K.built_of _ _ _ _ c.built.ensures _ c.in-Ok.is) c.if-room-n.true

pub slice_bounds-result-end : goal.slice_bounds-result-end
slice_bounds-result-end c = let w = (K.built_of _ _ _ _ c.built.ensures _ c.in-Ok.is) in omega (arith, w.fits)

pub slice_bounds-judged-end : goal.slice_bounds-judged-end
slice_bounds-judged-end c = sym (K.front_long _ [] (K.built_of _ _ _ _ c.built.ensures _ c.in-Ok.is) (length-replicate {A = ℕ} 12288 0))

pub judged-requires : goal.judged-requires
judged-requires c = K.front_fits _ c.args.room.now (K.built_of _ _ _ _ c.built.ensures _ c.in-Ok.is) (length-replicate {A = ℕ} 12288 0) c.if-room-n.false

pub returns-in-Err : goal.returns-in-Err
returns-in-Err c = let w = K.call_stopped _ _ (K.unbuilt_of _ _ _ _ c.built.ensures _ c.in-Err.is) in (c.unread.ensures ∙ w.0, w.1)

pub returns-else-room-n : goal.returns-else-room-n
returns-else-room-n c = K.call_judged _ _ (K.built_of _ _ _ _ c.built.ensures _ c.in-Ok.is) c.if-room-n.false (length-replicate {A = ℕ} 12288 0) c.judged.ensures
