-- A step of an accepted program in a well-formed state is made: never stuck, a valid value of the root's type, a well-formed next state, and
-- work of at most the bound.
-- Assumes nothing.
use mathlib.Core.Path.{◌≡◌, refl, sym, ap, ◌∙◌}
use mathlib.Core.List.{[]}
use mathlib.Core.Bool.{Bool, true, false}
use Prim.Native.Nat.{ℕ, zero, suc, ◌+◌, ◌≤◌}
use native.Mathlib.Omega.{arith}
use lib.Dec.{eqb, leb}
use lib.ListN.{length, replicate, length-replicate}
use borrow.Author.Tests.{eqb-true, eq-eqb, le-leb}
use Rattle.rules.specs.Bytes.{Bytes, byte_at, ◌or◌}
use Rattle.rules.specs.Layout.{edition, most_nodes, cells, type_at, cell_at, state_length, checks_of, last_time, sum_in, no_time, set_time, time_in}
use Rattle.rules.specs.Work.{◌plus◌, Updated, Next}
use Rattle.rules.specs.Tree.{root}
use Rattle.rules.specs.Scope.{unmarked, is_marked, is_offered, scope_fault}
use Rattle.rules.specs.Typing.{type_s, type_fault}
use Rattle.rules.specs.Values.{type_of}
use Rattle.rules.specs.Ready.{ready_fault}
use Rattle.rules.specs.WellFormed.{well_s, long_as_cells, knows_program, rest_well, well_formed, last_moment}
use Rattle.rules.specs.Bound.{bound, bound_s, bound_u}
use Rattle.rules.specs.Evaluate.{Env, unbound}
use Rattle.rules.specs.Update.{Made, upd_s, updated, evaluated, step_of}
use Rattle.rules.specs.Accepted.{Accepted}
use Rattle.rules.specs.declared.Tally.{Tally}
use Rattle.rules.specs.Evaluated.{Evaluated, Done}
use Rattle.rules.specs.declared.Value.{Value}
use Rattle.rules.proofs.Static.{and_both, or_right, not_both}
use Rattle.rules.proofs.Within.{Within, Withinᵘ, eval_s_within, upd_s_within}
use Rattle.promises.specs.Small.{Small}
use Rattle.promises.specs.Kept.{Kept}
use Rattle.promises.specs.Seated.{Seated}
use Rattle.promises.specs.Step.{StepMade}
use Rattle.promises.specs.Valid.{Valid}
use Rattle.promises.proofs.SmallLaws.{u32_small, small_set_time}
use Rattle.promises.proofs.ValidLaws.{and_join}
use Rattle.promises.proofs.SoundE.{Known}
use Rattle.promises.proofs.SoundS.{sound_s}
use Rattle.promises.proofs.Frames.{well_agree}
use Rattle.promises.proofs.Goes.{Goes, next, jump}
use Rattle.promises.proofs.UpdateS.{update_goes}
use Rattle.promises.proofs.Moment.{time_same, sum_after, cell_stays, length_set_time}

-- Where nothing is in scope everything in scope is bound.
none_there : (n b : ℕ) → byte_at (replicate n 0) b ≡ 0
unfolding byte_at
none_there zero b = refl
none_there (suc n) zero = refl
none_there (suc n) (suc b) = none_there n b

-- Nothing is in scope at the root.
none_marked : (count b : ℕ) → is_marked (unmarked count) b ≡ false
unfolding is_marked unmarked byte_at
none_marked count b = ap (λ (m : ℕ). eqb m 1) (none_there count b)

-- So whatever is in scope there is bound.
pub nothing_known : (count : ℕ) (τ : ℕ → ℕ) (env : Env) (needs : ℕ → Bool) → Known (unmarked count) τ env needs
nothing_known count τ env needs = record { known = λ b m s. absurd (not_both (sym (none_marked count b) ∙ m)) }

-- The environment has a place for each node.
pub unbound_length : (count : ℕ) → length (unbound count) ≡ count
unfolding unbound
unbound_length count = length-replicate count 0

-- An update where no branch is offered ends in a next state.
record Ended (own : ℕ → ℕ) (test : Bytes → Bool) (st : Bytes) (r : Updated) : Type 0 where
  state : Bytes
  tally : Tally
  is : r ≡ Next state tally
  kept : Kept own st state
  holds : test state ≡ true

-- No jump leaves the root.
ended : {τ own : ℕ → ℕ} {test : Bytes → Bool} {st : Bytes} {r : Updated} → Goes [] τ own test st r → Ended own test st r
unfolding is_offered
ended (next {st₁} {w} k e) = record { state = st₁; tally = w; is = refl; kept = k; holds = e }
ended (jump o v e k) = absurd (not_both o)

-- The parts of a well-formed state.
pub record Well (p st : Bytes) : Type 0 where
  pub long : length st ≡ state_length p
  pub stamped : sum_in st ≡ checks_of p
  pub moment : (eqb (last_time st) no_time or leb (last_time st) last_moment) ≡ true
  pub parts : well_s st (root p) ≡ true

-- A well-formed state taken apart.
pub well_parts : (p st : Bytes) → well_formed p st ≡ true → Well p st
unfolding well_formed long_as_cells knows_program rest_well
well_parts p st e =
    let a = and_both _ _ e in
    let b = and_both _ _ a.0 in
    let c = and_both _ _ a.1 in
    record { long = eqb-true _ _ b.0; stamped = eqb-true _ _ b.1; moment = c.0; parts = c.1 }

-- A well-formed state put together.
pub parts_well : (p st : Bytes) → Well p st → well_formed p st ≡ true
unfolding well_formed long_as_cells knows_program rest_well
parts_well p st w =
    and_join _ _ (and_join _ _ (eq-eqb _ _ w.long) (eq-eqb _ _ w.stamped)) (and_join _ _ w.moment w.parts)

-- A state has room for its time.
header_there : (p st : Bytes) → length st ≡ state_length p → 4 ≤ length st
unfolding state_length cell_at
header_there p st l = omega arith

-- The state's time becomes the record's.
timed : (p rec st : Bytes) → Small rec → length st ≡ state_length p → sum_in st ≡ checks_of p → well_s st (root p) ≡ true → time_in rec ≤ last_moment
    → Well p (set_time st (time_in rec))
unfolding time_in
timed p rec st s l q w h =
    let t : ℕ = time_in rec in
    let e : last_time (set_time st t) ≡ t = time_same st t (header_there p st l) (u32_small rec 0 s) in
    record {
      long = length_set_time st t ∙ l;
      stamped = sum_after st t ∙ q;
      moment = or_right _ _ (le-leb (last_time (set_time st t)) last_moment (omega arith));
      parts = well_agree (root p) st (set_time st t) (record { same = λ k g. cell_stays st t k }) ∙ w;
    }

-- The work of an evaluation that gave a value.
evaluated_work : (r : Evaluated) (v : Value) (u : Tally) {b : ℕ} → r ≡ Done v u → Within r b → u.work ≤ b
evaluated_work r v u {b} e h = (rw e at h).most

-- The work of an update that gave a state.
updated_work : (r : Updated) (st : Bytes) (u : Tally) {b : ℕ} → r ≡ Next st u → Withinᵘ r b → u.work ≤ b
updated_work r st u {b} e h = (rw e at h).most

-- The work of both.
total : (u v : Tally) (a b : ℕ) → u.work ≤ a → v.work ≤ b → (u plus v).work ≤ a + b
unfolding ◌plus◌
total u v a b h g = omega arith

-- The step is made, whatever the record's time is.
pub record StepGoes (p rec st : Bytes) : Type 0 where
  pub output : Value
  pub state : Bytes
  pub tally : Tally
  pub made : step_of p rec st ≡ Made output state tally
  pub valid : Valid output
  pub typed : type_of output ≡ type_s (root p)
  pub well : time_in rec ≤ last_moment → well_formed p state ≡ true
  pub bytes : Small state
  pub within : tally.work ≤ bound p

pub step_goes : (p rec st : Bytes) → Accepted p → Seated p → well_formed p st ≡ true → Small st → Small rec → StepGoes p rec st
unfolding step_of evaluated updated bound scope_fault type_fault ready_fault state_length
step_goes p rec st acc seat well hs hr =
    let env : Env = unbound most_nodes in
    let w = well_parts p st well in
    let g = sound_s (root p) (edition p) most_nodes (cells p) (type_at p) rec st hr hs seat.sits (unmarked most_nodes) [] env (unbound_length most_nodes)
    acc.scope_right acc.types_right acc.ready_right w.parts (nothing_known most_nodes (type_at p) env _) in
    let u = ended (update_goes (edition p) most_nodes (cells p) (type_at p) rec hr (root p) seat.sits seat.once (unmarked most_nodes) [] env (unbound_length most_nodes)
    acc.scope_right acc.types_right acc.ready_right (nothing_known most_nodes (type_at p) env _) st hs w.long w.parts) in
    record {
      output = g.value;
      state = set_time u.state (time_in rec);
      tally = g.tally plus u.tally;
      made = ap (λ r. evaluated r λ v t. updated v t rec (upd_s rec env (root p) st)) g.done ∙ ap (updated g.value g.tally rec) u.is;
      valid = g.valid;
      typed = g.typed;
      well = λ ht. parts_well p _ (timed p rec u.state hr (u.kept.long ∙ w.long) (u.kept.stamp ∙ w.stamped) u.holds ht);
      bytes = small_set_time u.state (time_in rec) u.kept.bytes;
      within = total g.tally u.tally (bound_s (root p)) (bound_u (root p))
          (evaluated_work _ g.value g.tally g.done (eval_s_within rec st env (root p)))
          (updated_work _ u.state u.tally u.is (upd_s_within rec env (root p) st));
    }

-- With a time that is not too large, the state that it leaves is well-formed.
pub step_goes_on : (p rec st : Bytes) → Accepted p → Seated p → well_formed p st ≡ true → Small st → Small rec → time_in rec ≤ last_moment
    → StepMade p rec st
step_goes_on p rec st acc seat well hs hr ht =
    let g = step_goes p rec st acc seat well hs hr in
    record {
      output = g.output;
      state = g.state;
      tally = g.tally;
      made = g.made;
      valid = g.valid;
      typed = g.typed;
      well = g.well ht;
      bytes = g.bytes;
      within = g.within;
    }
