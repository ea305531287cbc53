use native.Mathlib.Omega.{arith}
use Rattle.reader.specs.Held.{sofar_in}
use Rattle.reader.proofs.HeadingLaws as H
use Rattle.reader.proofs.put_heading.Goals as goal

pub returns-in-Err : goal.returns-in-Err
unfolding sofar_in
returns-in-Err c = (H.heading_stop _ c.requires.rows_len _ _ c.put_stop.ensures.1 _ _ _ _ _ c.put_stop.ensures.0 c.in-Err.is (c.heading.ensures.0 _), H.heading_stop_same _ c.requires.rows_len _ _ c.put_stop.ensures.1, c.heading.ensures.1, c.heading.ensures.2, c.heading.ensures.3, λ l. absurd (omega (arith, l, c.put_stop.ensures.0)))

pub returns-in-Ok : goal.returns-in-Ok
unfolding sofar_in
returns-in-Ok c = (H.heading_read _ _ _ c.requires.rows_len _ _ _ _ c.in-Ok.is (c.heading.ensures.0 _), H.put_same _ _ _ c.requires.rows_len _ c.in-Ok.is, c.heading.ensures.1, c.heading.ensures.2, c.heading.ensures.3, λ l. H.heading_fits c.args.rows.now _ _ c.requires.rows_len _ c.in-Ok.is (omega (arith, c.struct_known-1.given)) (omega (arith, c.struct_known-in-Ok-2-1.given)))
