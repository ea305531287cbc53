-- A step of the new program gives the old one's value, and leaves alike states.
-- Assumes nothing.
use mathlib.Core.Path.{◌≡◌, refl, sym, ap, ◌∙◌}
use mathlib.Core.List.{[]}
use mathlib.Core.Bool.{true}
use Prim.Native.Nat.{ℕ, zero, suc, ◌-◌, ◌<◌, ◌≤◌}
use native.Mathlib.Omega.{arith}
use lib.Dec.{eqb}
use lib.ListN.{length, get_or, replicate}
use Rattle.rules.specs.Bytes.{Bytes}
use Rattle.rules.specs.Layout.{edition, most_nodes, cells, type_at, nodes, cell_at, state_length, last_time, time_in}
use Rattle.rules.specs.Work.{Updated}
use Rattle.rules.specs.Tree.{root}
use Rattle.rules.specs.Scope.{unmarked, is_marked, is_offered, scope_fault}
use Rattle.rules.specs.Evaluate.{Env, unbound}
use Rattle.rules.specs.Update.{Stepped, Made, NotMade, updated, evaluated, step_of}
use Rattle.rules.specs.Accepted.{Accepted}
use Rattle.rules.specs.declared.Value.{Value}
use Rattle.rules.specs.declared.Tally.{Tally}
use Rattle.rules.specs.Evaluated.{Evaluated}
use Rattle.rules.proofs.Static.{not_both}
use Rattle.promises.specs.Small.{Small}
use Rattle.promises.specs.Seated.{Seated}
use Rattle.promises.proofs.SmallLaws.{u32_small, small_set_time}
use Rattle.promises.proofs.Steps.{unbound_length}
use Rattle.promises.proofs.Moment.{time_same, cell_stays, length_set_time}
use Rattle.written.proofs.Counted.{root_once}
use Rattle.dropped.specs.Less.{LessS}
use Rattle.dropped.specs.Alike.{AlikeS, Envs}
use Rattle.dropped.proofs.SameEval.{SameE, done, stuck, eval_s_same}
use Rattle.dropped.proofs.SameParts.{alike_agree}
use Rattle.dropped.proofs.SameUpdate.{SameU, next, jump, halted}
use Rattle.dropped.proofs.SameMoves.{upd_s_same}
use Rattle.dropped.proofs.FallsTable.{root_falls}

-- A pair of states: of the right lengths, with one time, and alike.
pub record Pair {π : ℕ → ℕ} (p q : Bytes) (x : LessS π (root p) (root q)) (st st' : Bytes) : Type 0 where
  pub bytes : Small st
  pub bytes' : Small st'
  pub long : length st ≡ state_length p
  pub long' : length st' ≡ state_length q
  pub moment : last_time st ≡ last_time st'
  pub alike : AlikeS st st' x

-- Wherever the old step is made the new one is, with the same value and alike states.
pub data SameStep {π : ℕ → ℕ} (p q : Bytes) (x : LessS π (root p) (root q)) : Stepped → Stepped → Type 0 where
  made : {v : Value} {st st' : Bytes} {w w' : Tally} → Pair p q x st st' → SameStep p q x (Made v st w) (Made v st' w')
  not_made : {s : Stepped} → SameStep p q x NotMade s

none_there : (n b : ℕ) → ◌≡◌ {A = ℕ} (get_or (replicate n 0) b 0) 0
none_there zero b = refl
none_there (suc n) zero = refl
none_there (suc n) (suc b) = none_there n b

pub none_marked : (count b : ℕ) → is_marked (unmarked count) b ≡ true → ⊥
unfolding is_marked unmarked
none_marked count b e = not_both (sym (ap (λ (m : ℕ). eqb m 1) (none_there count b)) ∙ e)

start_envs : (π : ℕ → ℕ) (m count : ℕ) → Envs π m (unmarked count) (unbound count) (unbound count)
unfolding unbound
start_envs π m count = record { fresh = λ j i. none_there count j; bound = λ x i. absurd (none_marked count x i) }

header_there : (p st : Bytes) → length st ≡ state_length p → 4 ≤ length st
unfolding state_length cell_at
header_there p st l = omega arith

module _ {π : ℕ → ℕ} (p q rec : Bytes) (x : LessS π (root p) (root q)) (hr : Small rec) where
  -- No jump leaves the root.
  updated_same : {own own' : ℕ → ℕ} {st st' : Bytes} → length st ≡ state_length p → length st' ≡ state_length q → (v : Value) (u w : Tally) {r z : Updated}
      → SameU π [] own own' (λ a b. AlikeS a b x) st st' r z → SameStep p q x (updated v u rec r) (updated v w rec z)
  unfolding updated is_offered time_in
  updated_same l l' v u w (next {st₁ = s₁} {st₁' = s₁'} a a' al) =
      let t : ℕ = time_in rec in
      let small : t < 4294967296 = u32_small rec 0 hr in
      made (record {
        bytes = small_set_time s₁ t a.bytes;
        bytes' = small_set_time s₁' t a'.bytes;
        long = length_set_time s₁ t ∙ a.long ∙ l;
        long' = length_set_time s₁' t ∙ a'.long ∙ l';
        moment = time_same s₁ t (header_there p s₁ (a.long ∙ l)) small ∙ sym (time_same s₁' t (header_there q s₁' (a'.long ∙ l')) small);
        alike = alike_agree s₁ s₁' _ _ x (record { same = λ k i. cell_stays s₁ t k }) (record { same = λ k i. cell_stays s₁' t k }) al;
      })
  updated_same l l' v u w (jump e o c a a') = absurd (not_both o)
  updated_same l l' v u w halted = not_made

  evaluated_same : {r z : Evaluated} (f g : Value → Tally → Stepped) → SameE r z → ((v : Value) (u w : Tally) → SameStep p q x (f v u) (g v w))
      → SameStep p q x (evaluated r f) (evaluated z g)
  unfolding evaluated
  evaluated_same f g (done {v} {u} {w}) h = h v u w
  evaluated_same f g stuck h = not_made

  pub step_same : Accepted p → Accepted q → Seated p → Seated q → (st st' : Bytes) → Pair p q x st st'
      → SameStep p q x (step_of p rec st) (step_of q rec st')
  unfolding step_of scope_fault state_length unbound is_offered
  step_same ap' aq sp sq st st' s =
      let env : Env = unbound most_nodes in
      let l : length env ≡ most_nodes = unbound_length most_nodes in
      let h = start_envs π (suc (nodes p - 1)) most_nodes in
      let f = root_falls p ap' in
      evaluated_same _ _
      (eval_s_same (edition q) most_nodes (cells p) (cells q) (type_at p) (type_at q) π rec st st' x s.alike _ f sp.sits sq.sits (unmarked most_nodes) []
      aq.scope_right env env l l h) λ v u w.
      updated_same s.long s.long' v u w
      (upd_s_same (edition q) most_nodes (cells p) (cells q) (type_at p) (type_at q) π rec x _ f sp.sits sq.sits sp.once sq.once (unmarked most_nodes) []
      aq.scope_right (record { once = root_once p ap'; others = λ y i. absurd (not_both i) }) env env l l h st st' s.bytes s.bytes' s.long s.long' s.alike)
