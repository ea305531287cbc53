use Prim.Native.Nat.{◌+◌, ◌*◌}
use Rattle.reader.proofs.+behind_field_form_node.Given as goal

abbrev pub decreases-behind : goal.decreases-behind
decreases-behind l = 3 * l.level + 1

abbrev pub decreases-field : goal.decreases-field
decreases-field l = 3 * l.level + 1

abbrev pub decreases-form : goal.decreases-form
decreases-form l = 3 * l.level + 2

abbrev pub decreases-node : goal.decreases-node
decreases-node l = 3 * l.level
