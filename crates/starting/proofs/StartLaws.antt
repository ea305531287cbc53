-- What an accepted program gives its start, and the start by the room's length.
-- Assumes nothing.
use Rattle.std.specs.Prelude.{Ok, Err}
use mathlib.Core.Path.{◌≡◌, sym, ap, ◌∙◌}
use mathlib.Core.Bool.{not}
use mathlib.Core.List.{List}
use Prim.Native.Nat.{ℕ, ◌-◌, ◌<◌, ◌≤◌}
use native.Mathlib.Omega.{arith}
use lib.Dec.{eqb}
use lib.ListN.{length}
use borrow.Author.Tests.{eq-eqb, ne_eqb}
use Rattle.rules.specs.Bytes.{Bytes}
use Rattle.rules.specs.Layout.{nodes, cells, cells_before, cell_at, state_length}
use Rattle.rules.specs.Kinds.{is_signal}
use Rattle.rules.specs.Shaped.{Shaped, NodeOf}
use Rattle.rules.specs.Size.{size_s}
use Rattle.rules.specs.Tree.{root}
use Rattle.rules.specs.Accepted.{Accepted}
use Rattle.rules.specs.Calls.{refuse_if, StartOutcome, start_outcome}
use Rattle.rules.specs.Reset.{start_state}
use Rattle.rules.specs.declared.Refusal.TheVariants.{StateFault}
use Rattle.rules.proofs.Rooted.{some_node, root_of, shaped_of}
use Rattle.rules.proofs.Once.{tree_small}
use Rattle.cells.specs.Indexed.{ListedOnce, Indexed}
use Rattle.cells.proofs.Listed.{listed_once}
use Rattle.promises.specs.Small.{Small}
use Rattle.promises.proofs.FromTable.{seated}
use Rattle.promises.proofs.Start.{start_well_formed}
use Rattle.starting.specs.Begun.{Begun}

-- the facts of an accepted program of so many nodes
pub record Counted (p : Bytes) (count : ℕ) : Type 0 where
  pub some : 0 < count
  pub most : count ≤ 1008
  pub rooted : NodeOf is_signal p (count - 1)
  pub shaped : Shaped p
  pub listed : ListedOnce p
  pub small : size_s (root p) ≤ 1008

pub counted : (p : Bytes) (count : ℕ) → Accepted p → count ≡ nodes p → Counted p count
counted p count a e =
    let h = some_node p a.formed in
    let s = shaped_of p a in
    record {
      some = rw e h;
      most = rw e s.small;
      rooted = rw e (root_of p a);
      shaped = s;
      listed = listed_once p a.shape_right (root_of p a);
      small = tree_small p a.formed.length_right a.shape_right h;
    }

pub all_cells : (p : Bytes) (count : ℕ) → count ≡ nodes p → cells_before p count ≡ cells p
unfolding cells
all_cells p count e = ap (cells_before p) e

-- a state of the right length, by its cells
pub right_length : (p : Bytes) (count held size : ℕ) → count ≡ nodes p → held ≡ cells_before p count → size ≡ cell_at held → size ≡ state_length p
unfolding state_length
right_length p count held size e f g = g ∙ ap cell_at (f ∙ all_cells p count e)

-- start, by the room's length
pub start_short : (p st : Bytes) → (length st ≡ state_length p → ⊥)
    → start_outcome p st (refuse_if (not (eqb (length st) (state_length p))) StateFault) ≡ record { answer = Err StateFault; state = st }
unfolding refuse_if start_outcome
start_short p st d = rw (ne_eqb _ _ d)

pub start_made : (p st : Bytes) → length st ≡ state_length p
    → start_outcome p st (refuse_if (not (eqb (length st) (state_length p))) StateFault) ≡ record { answer = Ok tt; state = start_state p }
unfolding refuse_if start_outcome
start_made p st e = rw (eq-eqb _ _ e)

-- what a start leaves: nothing changed but the table, or the start state, which is well-formed
pub begun_short : (p st : Bytes) {index : List ℕ} → Indexed p index → (length st ≡ state_length p → ⊥)
    → Begun p index st st (Err StateFault)
begun_short p st x d = record {
  answer_is = ap (λ (o : StartOutcome). o.answer) (sym (start_short p st d));
  state_is = ap (λ (o : StartOutcome). o.state) (sym (start_short p st d));
  indexed = x;
  well = λ e. absurd (let z : ◌≡◌ {A = ℕ} 0 1 = cc in omega arith);
}

pub begun_made : (p st st₁ : Bytes) {index : List ℕ} → Small p → Accepted p → Indexed p index → length st ≡ state_length p → st₁ ≡ start_state p
    → Begun p index st st₁ (Ok tt)
begun_made p st st₁ s a x l e = record {
  answer_is = ap (λ (o : StartOutcome). o.answer) (sym (start_made p st l));
  state_is = e ∙ ap (λ (o : StartOutcome). o.state) (sym (start_made p st l));
  indexed = x;
  well = λ _. rw e (start_well_formed p (seated p s a));
}
