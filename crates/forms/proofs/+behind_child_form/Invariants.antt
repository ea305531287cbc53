use Prim.Native.Nat.{◌+◌, ◌*◌}
use Rattle.forms.proofs.+behind_child_form.Given as goal

abbrev pub decreases-behind : goal.decreases-behind
decreases-behind l = 2 * l.level + 1

abbrev pub decreases-child : goal.decreases-child
decreases-child l = 2 * l.level + 1

abbrev pub decreases-form : goal.decreases-form
decreases-form l = 2 * l.level
