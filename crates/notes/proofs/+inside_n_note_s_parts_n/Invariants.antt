use Prim.Native.Nat.{◌+◌, ◌*◌}
use Rattle.notes.proofs.+inside_n_note_s_parts_n.Given as goal

abbrev pub decreases-inside_n : goal.decreases-inside_n
decreases-inside_n l = 3 * l.k + 2

abbrev pub decreases-note_s : goal.decreases-note_s
decreases-note_s l = 3 * l.i + 1

abbrev pub decreases-parts_n : goal.decreases-parts_n
decreases-parts_n l = 3 * l.i
