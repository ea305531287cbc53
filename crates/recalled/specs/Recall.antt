-- The update of crate current, but that no let's definition is evaluated again: an evaluation notes the outcome of each definition that it
-- comes to in a memory by the let's number, and the update that follows takes it from there. What an update itself evaluates (a delay's signal,
-- the events of switch and until) it evaluates once, noting, before it updates it. So no definition is evaluated twice in a step.
-- (proofs/SameRecall: after an evaluation that gave a value both updates are the same.)
-- Assumes nothing: these are definitions.
use Rattle.std.specs.Prelude.{ℕ, ◌+◌, eqb, if◌then◌else◌}
use Rattle.rules.specs.Bytes.{Bytes}
use Rattle.rules.specs.Layout.{held, hold, is_clear, branch_in}
use Rattle.rules.specs.Work.{Updated, Next, Jump, Halted, stays, leave, afterᵘ, ruleᵘ}
use Rattle.rules.specs.Tree.{Signal, input, time, ext, delay, let_signal, switch, group, until, Branches, no_branch, branch, Cases, no_case, case}
use Rattle.rules.specs.Evaluate.{Env, bind, opened, eval_s}
use Rattle.rules.specs.Size.{is_cell}
use Rattle.rules.specs.declared.Value.{Value}
use Rattle.rules.specs.declared.Tally.{Tally}
use Rattle.rules.specs.Opened.{Opened, Here, Gone, Amiss}
use Rattle.rules.specs.Evaluated.{Evaluated, Done, Stuck}
use Rattle.rules.specs.Occurrence.{Occurrence, Took, Quiet}
use Rattle.current.specs.Current.{soonest, leaves, swapped}

-- The outcomes of definitions, by the let's number.
abbrev pub Memory : Type 0
Memory = ℕ → Evaluated

unfoldable pub note : Memory → ℕ → Evaluated → Memory
note m n r j = if eqb n j then r else m j

-- The memory goes on with a value.
unfoldable pub noted : Evaluated → Memory → (Value → Memory) → Memory
noted (Done v u) m f = f v
noted Stuck m f = m

-- The memory goes on past an absent event.
unfoldable pub past_if : Opened → Memory → Memory → Memory
past_if (Here v) m q = m
past_if Gone m q = q
past_if Amiss m q = m

unfoldable pub past : Evaluated → Memory → Memory → Memory
past (Done v u) m q = past_if (opened v) m q
past Stuck m q = m

-- What an evaluation notes.
unfoldable mutual
  pub fill_s : Bytes → Bytes → Env → Signal → Memory → Memory
  fill_s rec st env (input n c) m = m
  fill_s rec st env (time n) m = m
  fill_s rec st env (ext n e) m = m
  fill_s rec st env (delay n k v s) m = m
  fill_s rec st env (let_signal n t d b) m =
      noted (eval_s rec st env d) (note (fill_s rec st env d m) n (eval_s rec st env d)) λ v.
      fill_s rec st (bind env n v) b (note (fill_s rec st env d m) n (eval_s rec st env d))
  fill_s rec st env (switch n k t x e y) m = if is_clear st k then fill_s rec st env x m else fill_s rec st (bind env n (held st k)) y m
  fill_s rec st env (group n k body brs) m =
      if is_clear st k then fill_s rec st env body m else fill_b rec st env (branch_in st k) (held st k) brs m
  fill_s rec st env (until n s cs) m = fill_s rec st env s m

  pub fill_b : Bytes → Bytes → Env → ℕ → Value → Branches → Memory → Memory
  fill_b rec st env which v no_branch m = m
  fill_b rec st env which v (branch n t body next) m =
      if eqb n which then fill_s rec st (bind env n v) body m else fill_b rec st env which v next m

-- What the events of an until note, in list order up to the first present one.
unfoldable pub fill_c : Bytes → Bytes → Env → Cases → Memory → Memory
fill_c rec st env no_case m = m
fill_c rec st env (case n event target t next) m =
    past (eval_s rec st env event) (fill_s rec st env event m) (fill_c rec st env next (fill_s rec st env event m))

-- An update's outcome with the memory that it leaves.
pub record Recalled : Type 0 where
  pub outcome : Updated
  pub memory : Memory

abbrev pub leaving : Updated → Memory → Recalled
leaving r m = record { outcome = r; memory = m }

unfoldable pub on_outcome : (Updated → Updated) → Recalled → Recalled
on_outcome f r = record { outcome = f r.outcome; memory = r.memory }

unfoldable pub withᵐ : Evaluated → Memory → (Value → Recalled) → Recalled
withᵐ (Done v u) m f = on_outcome (afterᵘ u) (f v)
withᵐ Stuck m f = leaving Halted m

unfoldable pub fromᵐ : Updated → Memory → (Bytes → Memory → Recalled) → Recalled
fromᵐ (Next st u) m f = on_outcome (afterᵘ u) (f st m)
fromᵐ (Jump target v st u) m f = leaving Halted m
fromᵐ Halted m f = leaving Halted m

unfoldable pub thenᵐ : Recalled → (Bytes → Memory → Recalled) → Recalled
thenᵐ r f = fromᵐ r.outcome r.memory f

-- An event is present or absent; on anything else an update is stuck before it updates the event.
unfoldable pub eventᵐ : Opened → Memory → Recalled → Recalled
eventᵐ (Here v) m r = r
eventᵐ Gone m r = r
eventᵐ Amiss m r = leaving Halted m

unfoldable pub on_eventᵐ : Opened → Memory → (Value → Updated) → Recalled → Recalled
on_eventᵐ (Here v) m caught quiet = leaving (caught v) m
on_eventᵐ Gone m caught quiet = quiet
on_eventᵐ Amiss m caught quiet = leaving Halted m

unfoldable pub on_occurrenceᵐ : Occurrence → Bytes → Memory → Recalled → Recalled
on_occurrenceᵐ (Took target v u) st m quiet = leaving (Jump target v st u) m
on_occurrenceᵐ (Quiet u) st m quiet = on_outcome (afterᵘ u) quiet
on_occurrenceᵐ Occurrence.Stuck st m quiet = leaving Halted m

unfoldable mutual
  pub recall_s : Bytes → Env → Signal → Bytes → Memory → Recalled
  recall_s rec env (input n c) st m = leaving (ruleᵘ (leave st)) m
  recall_s rec env (time n) st m = leaving (ruleᵘ (leave st)) m
  recall_s rec env (ext n e) st m = leaving (ruleᵘ (leave st)) m
  recall_s rec env (delay n k v s) st m =
      on_outcome ruleᵘ (withᵐ (eval_s rec st env s) (fill_s rec st env s m) λ w.
      thenᵐ (recall_s rec env s st (fill_s rec st env s m)) λ st₁ m₁. leaving (leave (hold st₁ k w)) m₁)
  recall_s rec env (let_signal n t d b) st m =
      on_outcome ruleᵘ (withᵐ (m n) m λ v.
      thenᵐ (recall_s rec (bind env n v) d st m) λ st₁ m₁.
      recall_s rec (bind env n v) b st₁ m₁)
  recall_s rec env (switch n k t x e y) st m =
      on_outcome ruleᵘ (withᵐ (eval_s rec st env e) (fill_s rec st env e m) λ event.
      eventᵐ (opened event) (fill_s rec st env e m)
      (thenᵐ (recall_s rec env e st (fill_s rec st env e m)) λ st₁ m₁.
      on_eventᵐ (opened event) m₁
      (λ v. leave (swapped k x y st₁ v))
      (on_outcome stays (if is_clear st₁ k then recall_s rec env x st₁ m₁ else recall_s rec (bind env n (held st₁ k)) y st₁ m₁))))
  recall_s rec env (group n k body brs) st m =
      on_outcome ruleᵘ (if is_clear st k then on_outcome (leaves k body brs) (recall_s rec env body st m)
      else recall_b rec env k (branch_in st k) (held st k) brs brs st m)
  recall_s rec env (until n s cs) st m =
      on_outcome ruleᵘ (on_occurrenceᵐ (soonest rec st env cs) st (fill_c rec st env cs m)
      (thenᵐ (recall_c rec env cs st (fill_c rec st env cs m)) λ st₁ m₁. on_outcome stays (recall_s rec env s st₁ m₁)))

  -- The branch that the group's cell k names, out of all of the group's.
  pub recall_b : Bytes → Env → ℕ → ℕ → Value → Branches → Branches → Bytes → Memory → Recalled
  recall_b rec env k which v all no_branch st m = leaving Halted m
  recall_b rec env k which v all (branch n t body next) st m =
      if eqb n which then on_outcome (leaves k body all) (recall_s rec (bind env n v) body st m) else recall_b rec env k which v all next st m

  -- The events of an until, the last of the list first.
  pub recall_c : Bytes → Env → Cases → Bytes → Memory → Recalled
  recall_c rec env no_case st m = leaving (leave st) m
  recall_c rec env (case n event target t next) st m =
      thenᵐ (recall_c rec env next st m) λ st₁ m₁. on_outcome stays (recall_s rec env event st₁ m₁)

-- How often the number n is a binder's in a tree: a let's, a switch's or a branch's.
unfoldable mutual
  pub binds_s : ℕ → Signal → ℕ
  binds_s n (input i c) = 0
  binds_s n (time i) = 0
  binds_s n (ext i e) = 0
  binds_s n (delay i k v s) = binds_s n s
  binds_s n (let_signal i t d b) = is_cell n i + binds_s n d + binds_s n b
  binds_s n (switch i k t x e y) = is_cell n i + binds_s n x + binds_s n e + binds_s n y
  binds_s n (group i k body brs) = binds_s n body + binds_b n brs
  binds_s n (until i s cs) = binds_s n s + binds_c n cs

  pub binds_b : ℕ → Branches → ℕ
  binds_b n no_branch = 0
  binds_b n (branch i t body next) = is_cell n i + binds_s n body + binds_b n next

  pub binds_c : ℕ → Cases → ℕ
  binds_c n no_case = 0
  binds_c n (case i event target t next) = binds_s n event + binds_c n next
