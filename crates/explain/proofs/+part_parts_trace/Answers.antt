use Rattle.explain.proofs.TraceLaws.{none_entered, none_smaller, goes_on, by_first, by_second, by_third, use_test, stored_use, stored_none, stored_more, onward_short, then_next}
use Rattle.rules.specs.Bytes.{write_at}
use mathlib.Core.List.{List}
use lib.ListN.{length, set}
use borrow.Author.Tests.{not-true, not-false}
use native.Mathlib.Omega.{arith}
use mathlib.Core.Path.{sym, ap, ◌∙◌}
use Prim.Native.Nat.{ℕ, ◌+◌}
use Rattle.explain.proofs.+part_parts_trace.Goals as goal

pub part-returns-then-not-yes : goal.part-returns-then-not-yes
part-returns-then-not-yes t c = none_entered c.args.p.now.now c.args.x c.args.i c.args.m c.args.yes c.args.room.now c.args.at (not-true _ c.if-not-yes.true-raw)

pub part-returns-then-m-i : goal.part-returns-then-m-i
part-returns-then-m-i t c = none_smaller c.args.p.now.now c.args.x c.args.i c.args.m c.args.yes c.args.room.now c.args.at (not-false _ c.if-not-yes.false-raw) (omega (arith, c.if-m-i.true))

pub part-trace-requires : goal.part-trace-requires
part-trace-requires t c = (omega (arith, c.if-m-i.false, c.decreases), (c.requires.0, omega (arith, c.if-m-i.false, c.requires.1), omega (arith, c.if-m-i.false, c.requires.2), c.requires.3))

pub part-shape_of-room : goal.part-shape_of-room
part-shape_of-room t c = c.trace.auto.room

pub part-returns : goal.part-returns
part-returns t c = let e = goes_on c.args.p.now.now c.args.x c.args.i c.args.m c.args.yes (not-false _ c.if-not-yes.false-raw) (omega (arith, c.if-m-i.false)) in (c.trace.ensures.0 ∙ ap length (sym e), c.trace.ensures.1 ∙ ap (write_at c.args.room.now c.args.at) (sym e))

pub parts-enters_a-requires : goal.parts-enters_a-requires
parts-enters_a-requires t c = tt

pub parts-part-a-requires : goal.parts-part-a-requires
parts-part-a-requires t c = (omega (arith, c.decreases), (c.requires.0, c.requires.1, c.requires.2, c.requires.3))

pub parts-shape_of-room-then-a-gt0 : goal.parts-shape_of-room-then-a-gt0
parts-shape_of-room-then-a-gt0 t c = c.part-a.auto.room

pub parts-returns-then-a-gt0 : goal.parts-returns-then-a-gt0
parts-returns-then-a-gt0 t c = let e = by_first c.args.p.now.now c.args.x c.args.i c.args.n c.requires.4 c.enters_a.result c.enters_a.ensures (omega (arith, c.part-a.ensures.0, c.if-a-gt0.true)) in (c.part-a.ensures.0 ∙ ap length (sym e), c.part-a.ensures.1 ∙ ap (write_at c.args.room.now c.args.at) (sym e))

pub parts-enters_b-requires : goal.parts-enters_b-requires
parts-enters_b-requires t c = tt

pub parts-part-b-requires : goal.parts-part-b-requires
parts-part-b-requires t c = (omega (arith, c.decreases), (c.requires.0, c.requires.1, omega (arith, c.part-a.auto.room, c.requires.2), omega (arith, c.part-a.auto.room, c.requires.3)))

pub parts-shape_of-room-then-b-gt0 : goal.parts-shape_of-room-then-b-gt0
parts-shape_of-room-then-b-gt0 t c = c.part-b.auto.room ∙ c.part-a.auto.room

pub parts-returns-then-b-gt0 : goal.parts-returns-then-b-gt0
parts-returns-then-b-gt0 t c = let z = then_next _ _ _ _ _ _ _ c.part-a.ensures.0 (omega (arith, c.if-a-gt0.false)) c.part-a.ensures.1 c.part-b.ensures.1 in let e = by_second c.args.p.now.now c.args.x c.args.i c.args.n c.requires.4 c.enters_a.result c.enters_b.result c.enters_a.ensures c.enters_b.ensures z.0 (omega (arith, c.part-b.ensures.0, c.if-b-gt0.true)) in (c.part-b.ensures.0 ∙ ap length (sym e), z.1 ∙ ap (write_at c.args.room.now c.args.at) (sym e))

pub parts-enters_c-requires : goal.parts-enters_c-requires
parts-enters_c-requires t c = tt

pub parts-part-requires : goal.parts-part-requires
parts-part-requires t c = (omega (arith, c.decreases), (c.requires.0, c.requires.1, omega (arith, c.part-a.auto.room, c.part-b.auto.room, c.requires.2), omega (arith, c.part-a.auto.room, c.part-b.auto.room, c.requires.3)))

pub parts-shape_of-room : goal.parts-shape_of-room
parts-shape_of-room t c = c.part.auto.room ∙ c.part-b.auto.room ∙ c.part-a.auto.room

pub parts-returns : goal.parts-returns
parts-returns t c = let z = then_next _ _ _ _ _ _ _ c.part-a.ensures.0 (omega (arith, c.if-a-gt0.false)) c.part-a.ensures.1 c.part-b.ensures.1 in let y = then_next _ _ _ _ _ _ _ c.part-b.ensures.0 (omega (arith, c.if-b-gt0.false)) z.1 c.part.ensures.1 in let e = by_third c.args.p.now.now c.args.x c.args.i c.args.n c.requires.4 c.enters_a.result c.enters_b.result c.enters_c.result c.enters_a.ensures c.enters_b.ensures c.enters_c.ensures z.0 y.0 in (c.part.ensures.0 ∙ ap length (sym e), y.1 ∙ ap (write_at c.args.room.now c.args.at) (sym e))

pub trace-node-n-requires : goal.trace-node-n-requires
trace-node-n-requires t c = let s = c.requires.0 in (omega (arith, c.requires.1, s.within), omega (arith, c.requires.1, s.small))

pub trace-both-requires : goal.trace-both-requires
trace-both-requires t c = tt

pub trace-overflow_cast-room : goal.trace-overflow_cast-room
trace-overflow_cast-room t c = omega (arith, c.requires.2, c.requires.3)

pub trace-offset_bounds-room-at : goal.trace-offset_bounds-room-at
trace-offset_bounds-room-at t c = omega (arith, c.requires.2, c.requires.3)

pub trace-bounds-room-at : goal.trace-bounds-room-at
trace-bounds-room-at t c = omega (arith, c.requires.2)

pub trace-returns-then-both : goal.trace-returns-then-both
trace-returns-then-both t c = stored_use c.args.p.now.now c.args.x c.args.i c.args.at c.args.room.now (sym (use_test c.args.p.now.now c.args.x c.args.i c.node-n.result c.node-n.ensures) ∙ sym c.both.ensures ∙ c.if-both.true)

pub trace-overflow_add-at : goal.trace-overflow_add-at
trace-overflow_add-at t c = omega (arith, c.requires.2, c.requires.3)

pub trace-parts-found-requires : goal.trace-parts-found-requires
trace-parts-found-requires t c = (omega (arith, c.decreases), (c.requires.0, c.requires.1, omega (arith, c.requires.2), c.requires.3, c.node-n.ensures))

pub trace-shape_of-room-then-found-eq0 : goal.trace-shape_of-room-then-found-eq0
trace-shape_of-room-then-found-eq0 t c = c.parts-found.auto.room

pub trace-returns-then-found-eq0 : goal.trace-returns-then-found-eq0
trace-returns-then-found-eq0 t c = let e = stored_none c.args.p.now.now c.args.x c.args.i c.args.at c.args.room.now (sym (use_test c.args.p.now.now c.args.x c.args.i c.node-n.result c.node-n.ensures) ∙ sym c.both.ensures ∙ c.if-both.false) (sym c.parts-found.ensures.0 ∙ c.if-found-eq0.true) in (e.0, c.parts-found.ensures.1 ∙ e.1)

pub trace-overflow_cast-room-2 : goal.trace-overflow_cast-room-2
trace-overflow_cast-room-2 t c = omega (arith, c.requires.2, c.requires.3)

pub trace-offset_bounds-room-at-2 : goal.trace-offset_bounds-room-at-2
trace-offset_bounds-room-at-2 t c = omega (arith, c.requires.2, c.requires.3)

pub trace-bounds-room-at-2 : goal.trace-bounds-room-at-2
trace-bounds-room-at-2 t c = omega (arith, c.requires.2, c.parts-found.auto.room)

pub trace-overflow_add-result : goal.trace-overflow_add-result
trace-overflow_add-result t c = let u = sym (use_test c.args.p.now.now c.args.x c.args.i c.node-n.result c.node-n.ensures) ∙ sym c.both.ensures ∙ c.if-both.false in let l = onward_short c.args.p.now.now c.args.x c.args.i u (omega (arith, c.parts-found.ensures.0, c.if-found-eq0.false)) in omega (arith, l, c.parts-found.ensures.0, c.requires.2, c.requires.3)

pub trace-returns : goal.trace-returns
trace-returns t c = let u = sym (use_test c.args.p.now.now c.args.x c.args.i c.node-n.result c.node-n.ensures) ∙ sym c.both.ensures ∙ c.if-both.false in let e = stored_more c.args.p.now.now c.args.x c.args.i c.args.at c.args.room.now u (omega (arith, c.parts-found.ensures.0, c.if-found-eq0.false)) in (ap (λ (k : ℕ). k + 1) c.parts-found.ensures.0 ∙ e.0, ap (λ (r : List ℕ). set r c.args.at c.args.i) c.parts-found.ensures.1 ∙ e.1)
