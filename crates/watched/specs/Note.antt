-- The same, noted in a room, as the code goes: the parts that a signal evaluates first, and then the signal itself.
-- Assumes nothing: these are definitions.
use Rattle.std.specs.Prelude.{ℕ, zero, suc, ◌+◌, ◌*◌, List, [], ◌∷◌, eqb, if◌then◌else◌}
use Rattle.rules.specs.Bytes.{Bytes, write_at}
use Rattle.rules.specs.Values.{value_bytes}
use Rattle.rules.specs.Layout.{held, is_clear, branch_in}
use Rattle.rules.specs.Tree.{Signal, input, time, ext, delay, let_signal, switch, group, until, Branches, no_branch, branch}
use Rattle.rules.specs.Evaluate.{Env, bind, eval_s}
use Rattle.rules.specs.declared.Value.{Value}
use Rattle.rules.specs.Evaluated.{Evaluated, Done, Stuck}

unfoldable pub put : Evaluated → Bytes → ℕ → Bytes
put (Done v u) room at = write_at room at (value_bytes v)
put Stuck room at = room

-- Node n gives r: written in the place of each entry that names it, the first of which stands at a position.
unfoldable pub keep : List ℕ → ℕ → ℕ → Evaluated → Bytes → Bytes
keep [] at n r room = room
keep (x ∷ xs) at n r room = keep xs (at + 8) n r (if eqb n x then put r room at else room)

unfoldable pub onceᵇ : Evaluated → (Value → Bytes → Bytes) → Bytes → Bytes
onceᵇ (Done v u) f room = f v room
onceᵇ Stuck f room = room

unfoldable mutual
  pub note_s : List ℕ → ℕ → Bytes → Bytes → Env → Signal → Bytes → Bytes
  note_s l at rec st env (input n c) room = keep l at n (eval_s rec st env (input n c)) room
  note_s l at rec st env (time n) room = keep l at n (eval_s rec st env (time n)) room
  note_s l at rec st env (ext n e) room = keep l at n (eval_s rec st env (ext n e)) room
  note_s l at rec st env (delay n k v s) room = keep l at n (eval_s rec st env (delay n k v s)) room
  note_s l at rec st env (let_signal n t d b) room =
      keep l at n (eval_s rec st env (let_signal n t d b))
      (onceᵇ (eval_s rec st env d) (λ v r. note_s l at rec st (bind env n v) b r) (note_s l at rec st env d room))
  note_s l at rec st env (switch n k t f e s) room =
      keep l at n (eval_s rec st env (switch n k t f e s))
      (if is_clear st k then note_s l at rec st env f room else note_s l at rec st (bind env n (held st k)) s room)
  note_s l at rec st env (group n k body brs) room =
      keep l at n (eval_s rec st env (group n k body brs))
      (if is_clear st k then note_s l at rec st env body room else note_b l at rec st env (branch_in st k) (held st k) brs room)
  note_s l at rec st env (until n s cs) room = keep l at n (eval_s rec st env (until n s cs)) (note_s l at rec st env s room)

  pub note_b : List ℕ → ℕ → Bytes → Bytes → Env → ℕ → Value → Branches → Bytes → Bytes
  note_b l at rec st env which v no_branch room = room
  note_b l at rec st env which v (branch n t body next) room =
      if eqb n which then note_s l at rec st (bind env n v) body room else note_b l at rec st env which v next room

-- The parts alone.
unfoldable pub parts_s : List ℕ → ℕ → Bytes → Bytes → Env → Signal → Bytes → Bytes
parts_s l at rec st env (input n c) room = room
parts_s l at rec st env (time n) room = room
parts_s l at rec st env (ext n e) room = room
parts_s l at rec st env (delay n k v s) room = room
parts_s l at rec st env (let_signal n t d b) room =
    onceᵇ (eval_s rec st env d) (λ v r. note_s l at rec st (bind env n v) b r) (note_s l at rec st env d room)
parts_s l at rec st env (switch n k t f e s) room =
    if is_clear st k then note_s l at rec st env f room else note_s l at rec st (bind env n (held st k)) s room
parts_s l at rec st env (group n k body brs) room =
    if is_clear st k then note_s l at rec st env body room else note_b l at rec st env (branch_in st k) (held st k) brs room
parts_s l at rec st env (until n s cs) room = note_s l at rec st env s room
