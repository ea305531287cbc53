-- What a step of an accepted program needs, and what it comes to.
-- Assumes nothing.
use Rattle.std.specs.Prelude.{Some, None}
use mathlib.Core.Path.{◌≡◌, refl, sym, ap, ◌∙◌, subst}
use mathlib.Core.Bool.{true, false, ◌||◌}
use mathlib.Core.List.{List}
use Prim.Native.Nat.{ℕ, ◌+◌, ◌-◌, ◌*◌, ◌<◌, ◌≤◌}
use native.Mathlib.Omega.{arith}
use lib.ListN.{length}
use Rattle.rules.specs.Bytes.{Bytes, write_at, bytes_of}
use Rattle.rules.specs.Values.{packed, value_bytes}
use Rattle.rules.specs.Layout.{nodes, most_nodes, cell_at, header_length, state_length, time_in, set_time}
use Rattle.rules.specs.Kinds.{is_signal}
use Rattle.rules.specs.Shaped.{NodeOf}
use Rattle.rules.specs.Tree.{root, signal_at}
use Rattle.rules.specs.Bound.{bound, bound_s, bound_u}
use Rattle.rules.specs.Work.{nothing, ◌plus◌, Updated, Next, Jump, Halted, moved}
use Rattle.rules.specs.Accepted.{Accepted}
use Rattle.rules.specs.WellFormed.{well_formed}
use Rattle.rules.specs.Evaluate.{Env, unbound, eval_s}
use Rattle.rules.specs.Update.{Made, NotMade, upd_s, updated, evaluated, step_of}
use Rattle.rules.specs.declared.Value.{Value}
use Rattle.rules.specs.declared.Tally.{Tally}
use Rattle.rules.specs.Evaluated.{Evaluated, Done, Stuck}
use Rattle.rules.specs.Moved.{Moved}
use Rattle.rules.proofs.Rooted.{some_node, root_of, shaped_of}
use Rattle.rules.proofs.Once.{bound_small, tree_small}
use Rattle.rules.proofs.Bounds.{bound_s≤, update_small}
use Rattle.rules.specs.Size.{size_s}
use Rattle.outcomes.specs.Outcome.{Slots}
use Rattle.evaluate.specs.Ready.{ReadyS}
use Rattle.moves.specs.Lent.{Ready}
use native.Mathlib.Nat.{mul-le-mul}
use Rattle.outcomes.specs.Combine.{count_of, work_of}
use Rattle.outcomes.proofs.Tallies.{same_tally}
use Rattle.moves.proofs.NumberLaws.{or_same}
use Rattle.outcomes.proofs.Outcomes.{work_within, slots_none}
use Rattle.rules.proofs.Within.{eval_s_within}
use Rattle.recalled.specs.Recall.{fill_s, recall_s}
use Rattle.recalled.proofs.RootRecall.{root_recalled}
use Rattle.noted.specs.Noted.{memory_in, Notes}
use Rattle.moves.specs.Outcomes.{calm_of}
use Rattle.promises.specs.Small.{Small}
use Rattle.promises.proofs.FromTable.{seated}
use Rattle.promises.proofs.Steps.{StepGoes, step_goes, well_parts}
use Rattle.steps.specs.Going.{Going, Held, Told, Taken, Displayed, Advanced, displayed_in, most_work}

-- a program of at most 1,008 nodes has a small bound
few : (n : ℕ) → n ≤ 1008 → n * (n + 1) ≤ most_work
few n h = omega (arith, mul-le-mul {n₁ = n} {m₁ = n + 1} {n₂ = 1008} {m₂ = 1009} h (omega arith))

pub small_bound : (p : Bytes) → Accepted p → bound p ≤ most_work
small_bound p a =
    omega (arith, bound_small p a.formed.length_right a.shape_right (some_node p a.formed), few (nodes p) (shaped_of p a).small)

-- the root, as the last node
root_at : (p : Bytes) (count : ℕ) → count ≡ nodes p → signal_at p (count - 1) ≡ root p
unfolding root
root_at p count e = rw e

rooted : (p : Bytes) (count : ℕ) → Accepted p → count ≡ nodes p → NodeOf is_signal p (count - 1)
rooted p count a e = rw e (root_of p a)

-- nothing is bound in the scratch
empty : (env : Env) → env ≡ unbound most_nodes → Slots env
unfolding unbound
empty env e = subst Slots (sym e) (slots_none most_nodes)

bound_parts : (p : Bytes) → (bound_s (root p) ≤ bound p) × (bound_u (root p) ≤ bound p)
unfolding bound
bound_parts p = (omega arith, omega arith)

module _ {p : Bytes} {index : List ℕ} {size : ℕ} {env : Env} {count : ℕ} (g : Held p index size env count) where
  -- its tree has no more nodes than its table
  sized : size_s (signal_at p (count - 1)) ≤ 1008
  sized = rw (root_at p count g.counted) (tree_small p g.accepted.formed.length_right g.accepted.shape_right (some_node p g.accepted.formed))

  -- what the root's evaluation and its update ask
  pub eval_ready : (st : Bytes) → size ≡ length st → ReadyS p index st env (count - 1)
  eval_ready st h = record {
    node = rooted p count g.accepted g.counted;
    indexed = g.indexed;
    state = omega (arith, g.cells);
    slots = empty env g.blank;
    small = omega (arith, bound_s≤ (signal_at p (count - 1)), sized);
  }

  pub update_ready : (s : ℕ) → s ≡ size → Ready p index s env (count - 1)
  update_ready s hs = record {
    node = rooted p count g.accepted g.counted;
    lent = record { table = g.indexed; cells = rw hs g.cells; slots = empty env g.blank };
    small = update_small (signal_at p (count - 1)) sized;
    few = sized;
  }

  pub some : 0 < count
  some = rw g.counted (some_node p g.accepted.formed)

  -- it has at least a header
  pub header : header_length ≤ size
  unfolding state_length cell_at
  header = omega (arith, g.cells)

  -- the same with memory that came back
  pub held_again : {s : ℕ} {env₁ : Env} → s ≡ size → env₁ ≡ env → Held p index s env₁ count
  held_again h q = record { accepted = g.accepted; indexed = g.indexed; counted = g.counted; cells = rw h g.cells; blank = q ∙ g.blank }

module _ {p : Bytes} {index : List ℕ} {st : Bytes} {env : Env} {count : ℕ} (g : Going p index st env count) where
  pub held : Held p index (length st) env count
  held = record { accepted = g.accepted; indexed = g.indexed; counted = g.counted; cells = omega (arith, (well_parts p st g.well).long); blank = g.blank }

  pub headed : header_length ≤ length st
  headed = header held

  -- the same after memory was lent and came back
  pub gone : {st₁ : Bytes} {env₁ : Env} → well_formed p st₁ ≡ true → env₁ ≡ env → Going p index st₁ env₁ count
  gone w q =
      record { accepted = g.accepted; indexed = g.indexed; counted = g.counted; well = w; blank = q ∙ g.blank }

-- a step goes by its two parts
module _ (p rec st : Bytes) where
  by_parts : {v : Value} {u w : Tally} {st₁ : Bytes} → eval_s rec st (unbound most_nodes) (root p) ≡ Done v u
      → upd_s rec (unbound most_nodes) (root p) st ≡ Next st₁ w → step_of p rec st ≡ Made v (set_time st₁ (time_in rec)) (u plus w)
  unfolding step_of evaluated updated
  by_parts e f = rw (e, f)

  stuck_eval : eval_s rec st (unbound most_nodes) (root p) ≡ Stuck → step_of p rec st ≡ NotMade
  unfolding step_of evaluated
  stuck_eval e = rw e

  stuck_update : {v : Value} {u : Tally} → eval_s rec st (unbound most_nodes) (root p) ≡ Done v u
      → upd_s rec (unbound most_nodes) (root p) st ≡ Halted → step_of p rec st ≡ NotMade
  unfolding step_of evaluated updated
  stuck_update e f = rw (e, f)

  jumped : {v x : Value} {u w : Tally} {k : ℕ} {st₁ : Bytes} → eval_s rec st (unbound most_nodes) (root p) ≡ Done v u
      → upd_s rec (unbound most_nodes) (root p) st ≡ Jump k x st₁ w → step_of p rec st ≡ NotMade
  unfolding step_of evaluated updated
  jumped e f = rw (e, f)

  not_made : StepGoes p rec st → step_of p rec st ≡ NotMade → ⊥
  not_made m e = let z : ◌≡◌ {A = ℕ} 0 1 = cc m.made in omega arith

  -- a step that is made: its evaluation and its update
  record Both : Type 0 where
    value : Value
    seen : Tally
    state : Bytes
    tally : Tally
    evaluates : eval_s rec st (unbound most_nodes) (root p) ≡ Done value seen
    updates : upd_s rec (unbound most_nodes) (root p) st ≡ Next state tally

  both : StepGoes p rec st → Both
  both m = go (eval_s rec st (unbound most_nodes) (root p)) (upd_s rec (unbound most_nodes) (root p) st) refl refl
    where
      go : (e : Evaluated) (x : Updated) → eval_s rec st (unbound most_nodes) (root p) ≡ e → upd_s rec (unbound most_nodes) (root p) st ≡ x → Both
      go Stuck x a b = absurd (not_made m (stuck_eval a))
      go (Done v u) Halted a b = absurd (not_made m (stuck_update a b))
      go (Done v u) (Jump k w s t) a b = absurd (not_made m (jumped a b))
      go (Done v u) (Next s t) a b = record { value = v; seen = u; state = s; tally = t; evaluates = a; updates = b }

-- in the terms of the code: a call at node count - 1 with the lent scratch
module _ {p : Bytes} {index : List ℕ} {size : ℕ} {env : Env} {count : ℕ} (g : Held p index size env count) where
  -- what it notes is told to the update
  pub told : (rec st : Bytes) {l l₁ : List ℕ} → Notes p l l₁ (fill_s rec st env (signal_at p (count - 1))) → Told p rec st l₁
  told rec st {l = l} h = record {
    before = memory_in l;
    filled = h.filled ∙ (λ i. fill_s rec st (g.blank i) (root_at p count g.counted i) (memory_in l));
    noted = h.noted;
  }

  module _ (rec st : Bytes) {r : Evaluated} (e : r ≡ eval_s rec st env (signal_at p (count - 1))) where
    evaluated_at : r ≡ eval_s rec st (unbound most_nodes) (root p)
    evaluated_at = e ∙ (λ i. eval_s rec st (g.blank i) (root_at p count g.counted i))

    -- it counts no more than any bound
    pub root_small : work_of r ≤ most_work
    root_small =
        omega (arith, (bound_parts p).0, small_bound p g.accepted, work_within _ (eval_s_within rec st (unbound most_nodes) (root p)), ap work_of evaluated_at)

    -- what is displayed of it is displayed of the root's evaluation
    pub displayed_root : {out out₁ : Bytes} {place : ℕ} {w : Tally} → Displayed r out out₁ place w
        → Displayed (eval_s rec st (unbound most_nodes) (root p)) out out₁ place w
    displayed_root {out} {out₁} {place} {w} d = subst (λ (x : Evaluated). Displayed x out out₁ place w) evaluated_at d

-- what is displayed of an evaluation: nothing where it is stuck, and its value
pub displays_none : {r : Evaluated} → r ≡ Stuck → (out : Bytes) (place : ℕ) → Displayed r out out place (record { work = 0; wrapped = false })
unfolding displayed_in nothing
displays_none f out place = rw f (record { written = refl; counted = refl; below = omega arith })

pub displays : {r : Evaluated} → work_of r ≤ most_work → {v : Value} {u : Tally} → r ≡ Done v u → {out out₁ : Bytes} {place m : ℕ}
    → out₁ ≡ write_at out place (bytes_of 8 m) → m ≡ packed v → Displayed r out out₁ place u
unfolding displayed_in value_bytes
displays h f {out} {out₁} {place} a b =
    rw f (record { written = a ∙ ap (λ (n : ℕ). write_at out place (bytes_of 8 n)) b; counted = refl; below = omega (arith, h, ap work_of f) })

-- an update that is calm stays
still_stay : (x : Moved) {t : Tally} → calm_of x ≡ Some t → x ≡ Moved.Stay t
unfolding calm_of
still_stay (Moved.Stay u) {t} e = let q : u ≡ t = cc in ap Moved.Stay q
still_stay (Moved.Jump j w u) e = cc
still_stay Moved.Stuck e = cc

-- the update neither halts nor jumps, and stays
module _ {p st : Bytes} {index : List ℕ} {env : Env} {count : ℕ} (g : Going p index st env count) where
  module _ {rec : Bytes} (hp : Small p) (hs : Small st) (hr : Small rec) where
    goes : StepGoes p rec st
    goes = step_goes p rec st g.accepted (seated p hp g.accepted) g.well hs hr

    module _ {memo : List ℕ} (told : Told p rec st memo) where
      updated_at : {u : Updated} → u ≡ (recall_s rec env (signal_at p (count - 1)) st (memory_in memo)).outcome → upd_s rec (unbound most_nodes) (root p) st ≡ u
      updated_at h =
          sym (h ∙ (λ i. (recall_s rec (g.blank i) (root_at p count g.counted i) st (told.filled i)).outcome)
          ∙ root_recalled p rec st g.accepted (seated p hp g.accepted) g.well hs hr told.before)

      module _ (x : Moved) (st₁ : Bytes) (h : moved x st₁ ≡ (recall_s rec env (signal_at p (count - 1)) st (memory_in memo)).outcome) where
        never_halted : x ≡ Moved.Stuck → ⊥
        unfolding moved
        never_halted k = let e = (both p rec st goes).updates in let z : ◌≡◌ {A = ℕ} 0 1 = cc (updated_at h ∙ ap (λ (y : Moved). moved y st₁) k) in omega arith

        never_jumps : {w : Value} {t : Tally} {j : ℕ} → x ≡ Moved.Jump j w t → ⊥
        unfolding moved
        never_jumps k = let e = (both p rec st goes).updates in let z : ◌≡◌ {A = ℕ} 0 1 = cc (updated_at h ∙ ap (λ (y : Moved). moved y st₁) k) in omega arith

        broken : (y : Moved) → x ≡ y → calm_of y ≡ None → ⊥
        unfolding calm_of
        broken (Moved.Stay t) k e = let z : ◌≡◌ {A = ℕ} 0 1 = cc in omega arith
        broken (Moved.Jump j w t) k e = never_jumps k
        broken Moved.Stuck k e = never_halted k

        pub never_broken : calm_of x ≡ None → ⊥
        never_broken e = broken x refl e

        pub advances : {t : Tally} → calm_of x ≡ Some t → {st₂ : Bytes} {moment : ℕ} → st₂ ≡ set_time st₁ moment → moment ≡ time_in rec
            → Advanced p rec st st₂ t
        unfolding moved ◌plus◌
        advances {t} c {st₂} a b =
            let m = goes in
            let k = still_stay x c in
            let e = (both p rec st m).evaluates in
            let q : step_of p rec st ≡ Made (both p rec st m).value st₂ ((both p rec st m).seen plus t) =
            by_parts p rec st e (updated_at h ∙ ap (λ (y : Moved). moved y st₁) k)
            ∙ ap (λ (s : Bytes). Made (both p rec st m).value s ((both p rec st m).seen plus t)) (sym (a ∙ ap (set_time st₁) b)) in
            let s : st₂ ≡ m.state = cc m.made in
            let w : ((both p rec st m).seen plus t) ≡ m.tally = cc m.made in
            record {
              output = (both p rec st m).value;
              seen = (both p rec st m).seen;
              evaluates = e;
              made = q;
              well = λ h. rw s (m.well h);
              within = omega (arith, m.within, ap (λ (x : Tally). x.work) w);
              below = omega (arith, small_bound p g.accepted, m.within, ap (λ (x : Tally). x.work) w);
            }

        pub calm_small : {t : Tally} → calm_of x ≡ Some t → t.work ≤ most_work
        calm_small k = (advances k {st₂ = set_time st₁ (time_in rec)} {moment = time_in rec} refl refl).below

-- shown and advanced, a step is taken
pub step_taken : {p rec st st₁ out out₁ : Bytes} {place : ℕ} {a b : Tally} → Displayed (eval_s rec st (unbound most_nodes) (root p)) out out₁ place a
    → Advanced p rec st st₁ b → Taken p rec st st₁ out out₁ place (record { work = a.work + b.work; wrapped = a.wrapped || b.wrapped })
unfolding ◌plus◌ displayed_in
step_taken {p = p} {rec = rec} {st = st} {st₁ = st₁} {out = out} {place = place} {a = a} {b = b} s m =
    let w : a ≡ m.seen = s.counted ∙ ap count_of m.evaluates in
    let sum : (m.seen plus b) ≡ record { work = a.work + b.work; wrapped = a.wrapped || b.wrapped }
    = ap (λ (x : Tally). x plus b) (sym w) ∙ same_tally refl (sym (or_same a.wrapped b.wrapped)) in
    record {
      output = m.output;
      made = m.made ∙ ap (λ (x : Tally). Made m.output st₁ x) sum;
      shown = s.written ∙ ap (λ (e : Evaluated). displayed_in e out place) m.evaluates;
      well = m.well;
      within = omega (arith, m.within, ap (λ (x : Tally). x.work) w);
    }
