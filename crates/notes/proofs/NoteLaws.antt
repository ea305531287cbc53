-- What the evaluation with a second room leaves at a node of each kind, by what its parts leave.
-- Assumes nothing.
use Rattle.std.specs.Prelude.{if◌then◌else◌}
use mathlib.Core.Path.{◌≡◌, refl, sym, ap, ◌∙◌, subst}
use mathlib.Core.Bool.{Bool, true, false}
use mathlib.Core.List.{List, [], ◌∷◌}
use Prim.Native.Nat.{ℕ, zero, suc, ◌+◌, ◌*◌, ◌≤◌, ◌<◌}
use native.Mathlib.Omega.{arith}
use native.Mathlib.Nat.{not-suc-le-zero}
use lib.Dec.{eqb}
use lib.ListN.{length, get_or}
use borrow.Author.Tests.{eq-eqb, ne_eqb, eqb-true, eqb-false}
use Rattle.rules.specs.Bytes.{Bytes, write_at, bytes_of}
use Rattle.rules.specs.Values.{packed, unpacked, value_bytes, middle_in}
use Rattle.rules.specs.Layout.{kind_at, a_at, b_at, c_at, cells_before, cell, held, is_clear, branch_in}
use Rattle.rules.specs.Kinds.{is_signal, is_branch}
use Rattle.rules.specs.Tree.{Signal, Branches, no_branch, branch, signal_at, branches_at}
use Rattle.rules.specs.Scope.{has_branch}
use Rattle.rules.specs.Evaluate.{Env, bind, eval_s}
use Rattle.rules.specs.Shaped.{NodeOf}
use Rattle.rules.specs.declared.Value.{Value}
use Rattle.rules.specs.declared.Tally.{Tally}
use Rattle.rules.specs.Evaluated.{Evaluated, Done, Stuck}
use Rattle.rules.proofs.Static.{not_both}
use Rattle.rules.proofs.Kids.{or_none}
use Rattle.rules.proofs.Nodes.{signal_input, signal_time}
use Rattle.rules.proofs.ByKind.{SignalKind, is_input, is_time, is_ext, is_delay, is_let, is_switch, is_group, is_until, signal_kind}
use Rattle.rules.proofs.Signals.{ext_tree, delay_tree, let_tree, switch_tree, group_kids, group_tree, until_tree, branch_next, branch_law, branch_on}
use Rattle.rules.proofs.Branches.{number_last, number_next}
use Rattle.outcomes.specs.Outcome.{Slots}
use Rattle.evaluate.specs.Ready.{ReadyS}
use Rattle.evaluate.proofs.SignalLaws.{PartS}
use Rattle.watched.specs.Note.{put, keep, onceᵇ, note_s, note_b, parts_s}

-- One value, by the number that the evaluator gives, if the entry names the node.
abbrev pub IfPut : ℕ → ℕ → Evaluated → Bytes → ℕ → Bytes
IfPut n entry e room at = if eqb n entry then put e room at else room

pub put_not : (n entry : ℕ) (e : Evaluated) (room : Bytes) (at : ℕ) → (entry ≡ n → ⊥) → room ≡ IfPut n entry e room at
put_not n entry e room at h = rw (ne_eqb n entry (λ q. h (sym q)))

pub put_none : (n entry : ℕ) {r e : Evaluated} (room : Bytes) (at : ℕ) → entry ≡ n → r ≡ e → r ≡ Stuck → room ≡ IfPut n entry e room at
unfolding put
put_none n entry room at h q f = rw (eq-eqb n entry (sym h), sym q ∙ f)

pub put_some : (n entry : ℕ) {r e : Evaluated} (room : Bytes) {room₁ : Bytes} (at : ℕ) {m : ℕ} {v : Value} {u : Tally} → entry ≡ n → r ≡ e → r ≡ Done v u
    → room₁ ≡ write_at room at (bytes_of 8 m) → m ≡ packed v → room₁ ≡ IfPut n entry e room at
unfolding put value_bytes
put_some n entry room at h q f a b = rw (eq-eqb n entry (sym h), sym q ∙ f) (a ∙ ap (λ (x : ℕ). write_at room at (bytes_of 8 x)) b)

-- The first k entries, one after the other.
abbrev one : List ℕ → ℕ → ℕ → Evaluated → ℕ → Bytes → Bytes
one l at n r k room = if eqb n (get_or l k 0) then put r room (at + 8 * k) else room

unfoldable pub keep_to : ℕ → List ℕ → ℕ → ℕ → Evaluated → Bytes → Bytes
keep_to zero l at n r room = room
keep_to (suc k) l at n r room = one l at n r k (keep_to k l at n r room)

keep_next : (k : ℕ) (x : ℕ) (xs : List ℕ) (at n : ℕ) (r : Evaluated) (room : Bytes)
    → keep_to (suc k) (x ∷ xs) at n r room ≡ keep_to k xs (at + 8) n r (if eqb n x then put r room at else room)
unfolding keep_to
keep_next zero x xs at n r room =
    let e : at + 8 * 0 ≡ at = omega arith in
    ap (λ (j : ℕ). if eqb n x then put r room j else room) e
keep_next (suc k) x xs at n r room =
    let e : at + 8 * suc k ≡ at + 8 + 8 * k = omega arith in
    ap (one (x ∷ xs) at n r (suc k)) (keep_next k x xs at n r room)
    ∙ ap (λ (j : ℕ). if eqb n (get_or xs k 0) then put r (keep_to k xs (at + 8) n r (if eqb n x then put r room at else room)) j
    else keep_to k xs (at + 8) n r (if eqb n x then put r room at else room)) e

keep_whole : (l : List ℕ) (at n : ℕ) (r : Evaluated) (room : Bytes) → keep_to (length l) l at n r room ≡ keep l at n r room
unfolding keep_to keep
keep_whole [] at n r room = refl
keep_whole (x ∷ xs) at n r room = keep_next (length xs) x xs at n r room ∙ keep_whole xs (at + 8) n r _

pub keep_start : (l : List ℕ) (at n : ℕ) (r : Evaluated) (room : Bytes) → room ≡ keep_to 0 l at n r room
unfolding keep_to
keep_start l at n r room = refl

pub keep_end : (l : List ℕ) (at n : ℕ) (r : Evaluated) (k : ℕ) {room : Bytes} (room₀ : Bytes) → k ≤ length l → length l ≤ k → room ≡ keep_to k l at n r room₀
    → room ≡ keep l at n r room₀
keep_end l at n r k room₀ h g e =
    let q : k ≡ length l = omega arith in
    e ∙ ap (λ (j : ℕ). keep_to j l at n r room₀) q ∙ keep_whole l at n r room₀

-- The next entry.
pub keep_on : (l : List ℕ) (at n : ℕ) (r e : Evaluated) (k : ℕ) {room room₁ : Bytes} (room₀ : Bytes) → room ≡ keep_to k l at n r room₀ → e ≡ r
    → room₁ ≡ IfPut n (get_or l k 0) e room (at + 8 * k) → room₁ ≡ keep_to (k + 1) l at n r room₀
unfolding keep_to
keep_on l at n r e k room₀ f g q =
    let s : k + 1 ≡ suc k = omega arith in
    q ∙ (λ i. IfPut n (get_or l k 0) (g i) (f i) (at + 8 * k)) ∙ sym (ap (λ (j : ℕ). keep_to j l at n r room₀) s)

-- A part is ready, with slots that came back.
pub part_ready : {p : Bytes} {ix : List ℕ} {st : Bytes} {env env₁ : Env} {n x : ℕ} → ReadyS p ix st env n → PartS p n x → env₁ ≡ env → ReadyS p ix st env₁ x
part_ready r k q = record { node = k.node; indexed = r.indexed; state = r.state; slots = subst Slots (sym q) r.slots; small = k.small }

-- The branch with the number, and none.
module _ (l : List ℕ) (at : ℕ) (rec st : Bytes) (env : Env) (v : Value) (room : Bytes) where
  branch_in_lem : (f : ℕ) (p : Bytes) (n k : ℕ) → n < f → NodeOf is_branch p n → has_branch k (branches_at p n) ≡ true
      → note_b l at rec st env k v (branches_at p n) room ≡ note_s l at rec st (bind env k v) (signal_at p (a_at p k)) room
  unfolding note_b
  branch_in_lem zero p n k h w e = absurd (not-suc-le-zero h)
  branch_in_lem (suc f) p n k h w e =
      go (eqb n k) (eqb (b_at p n) 65535) refl refl λ m. branch_in_lem f p (b_at p n) k (omega (arith, (branch_next p n w m).less)) (branch_next p n w m).node
    where
      go : (b d : Bool) → eqb n k ≡ b → eqb (b_at p n) 65535 ≡ d
          → ((b_at p n ≡ 65535 → ⊥) → has_branch k (branches_at p (b_at p n)) ≡ true
          → note_b l at rec st env k v (branches_at p (b_at p n)) room ≡ note_s l at rec st (bind env k v) (signal_at p (a_at p k)) room)
          → note_b l at rec st env k v (branches_at p n) room ≡ note_s l at rec st (bind env k v) (signal_at p (a_at p k)) room
      go true d q r more =
          ap (λ (brs : Branches). note_b l at rec st env k v brs room) (branch_law p n w refl) ∙ rw q
          (ap (λ (x : ℕ). note_s l at rec st (bind env x v) (signal_at p (a_at p x)) room) (eqb-true n k q))
      go false true q r more = absurd (not_both (sym (number_last p n w k (eqb-false n k q) (eqb-true _ _ r)) ∙ e))
      go false false q r more =
          let d = eqb-false n k q in
          let m = eqb-false _ _ r in
          ap (λ (brs : Branches). note_b l at rec st env k v brs room) (branch_on p n w m) ∙ rw q (more m (sym (number_next p n w k d m) ∙ e))

  branch_not : (k : ℕ) (brs : Branches) → has_branch k brs ≡ false → note_b l at rec st env k v brs room ≡ room
  unfolding note_b has_branch
  branch_not k no_branch e = refl
  branch_not k (branch n t body next) e = let o = or_none _ _ e in simp o.0 (branch_not k next o.1)

module _ (p : Bytes) (n : ℕ) (w : NodeOf is_signal p n) (l : List ℕ) (at : ℕ) (rec st : Bytes) (env : Env) (room : Bytes) where
  abbrev walk : ℕ → Bytes
  walk x = note_s l at rec st env (signal_at p x) room

  abbrev parts : Bytes
  parts = parts_s l at rec st env (signal_at p n) room

  -- The parts first, and then the node itself.
  abbrev Split : Signal → Type 0
  Split s = note_s l at rec st env s room ≡ keep l at n (eval_s rec st env s) (parts_s l at rec st env s room)

  split : Split (signal_at p n)
  unfolding note_s parts_s
  split = go (signal_kind (kind_at p n) w.sorted)
    where
      go : SignalKind (kind_at p n) → Split (signal_at p n)
      go (is_input e) = subst Split (sym (signal_input p n e)) refl
      go (is_time e) = subst Split (sym (signal_time p n e)) refl
      go (is_ext e) = subst Split (sym (ext_tree p n w e)) refl
      go (is_delay e) = subst Split (sym (delay_tree p n w e)) refl
      go (is_let e) = subst Split (sym (let_tree p n w e)) refl
      go (is_switch e) = subst Split (sym (switch_tree p n w e)) refl
      go (is_group e) = subst Split (sym (group_tree p n w e)) refl
      go (is_until e) = subst Split (sym (until_tree p n w e)) refl

  pub own_noted : {r : Evaluated} {room₁ room₂ : Bytes} → r ≡ eval_s rec st env (signal_at p n) → room₁ ≡ parts → room₂ ≡ keep l at n r room₁ → room₂ ≡ walk n
  own_noted er e f = f ∙ (λ i. keep l at n (er i) (e i)) ∙ sym split

  -- A leaf has no parts.
  abbrev Leaf : Signal → Type 0
  Leaf s = room ≡ parts_s l at rec st env s room

  pub leaf_noted : {A : Type 0} {m : ℕ} → m ≡ kind_at p n → ((((A × (m ≡ 5 → ⊥)) × (m ≡ 6 → ⊥)) × (m ≡ 7 → ⊥)) × (m ≡ 8 → ⊥)) → room ≡ parts
  unfolding parts_s
  leaf_noted {m = m} q r = go (signal_kind (kind_at p n) w.sorted)
    where
      go : SignalKind (kind_at p n) → Leaf (signal_at p n)
      go (is_input e) = subst Leaf (sym (signal_input p n e)) refl
      go (is_time e) = subst Leaf (sym (signal_time p n e)) refl
      go (is_ext e) = subst Leaf (sym (ext_tree p n w e)) refl
      go (is_delay e) = subst Leaf (sym (delay_tree p n w e)) refl
      go (is_let e) = absurd (r.0.0.0.1 (q ∙ e))
      go (is_switch e) = absurd (r.0.0.1 (q ∙ e))
      go (is_group e) = absurd (r.0.1 (q ∙ e))
      go (is_until e) = absurd (r.1 (q ∙ e))

  -- A part that is evaluated in the same environment, and one with a value bound, by the fields that were read.
  part : {a k : ℕ} {room₁ : Bytes} → a ≡ k → room₁ ≡ note_s l at rec st env (signal_at p a) room → room₁ ≡ walk k
  part ea e = e ∙ ap (λ (x : ℕ). walk x) ea

  bound : {b c a k : ℕ} {v u : Value} {room₁ : Bytes} → b ≡ c → a ≡ k → v ≡ u → room₁ ≡ note_s l at rec st (bind env b v) (signal_at p a) room
      → room₁ ≡ note_s l at rec st (bind env c u) (signal_at p k) room
  bound eb ea ev e = e ∙ (λ i. note_s l at rec st (bind env (eb i) (ev i)) (signal_at p (ea i)) room)

  pub until_noted : kind_at p n ≡ 8 → {a : ℕ} {room₁ : Bytes} → a ≡ a_at p n → room₁ ≡ note_s l at rec st env (signal_at p a) room → room₁ ≡ parts
  unfolding parts_s
  until_noted e ea f = part ea f ∙ sym (ap (λ (s : Signal). parts_s l at rec st env s room) (until_tree p n w e))

  module _ (e : kind_at p n ≡ 5) {a : ℕ} {room₁ : Bytes} (ea : a ≡ a_at p n) (f : room₁ ≡ note_s l at rec st env (signal_at p a) room) {r : Evaluated}
      (er : r ≡ eval_s rec st env (signal_at p a)) where
    defined : r ≡ eval_s rec st env (signal_at p (a_at p n))
    defined = er ∙ ap (λ (x : ℕ). eval_s rec st env (signal_at p x)) ea

    let_walk : parts ≡ onceᵇ (eval_s rec st env (signal_at p (a_at p n))) (λ v q. note_s l at rec st (bind env n v) (signal_at p (b_at p n)) q) (walk (a_at p n))
    unfolding parts_s
    let_walk = ap (λ (s : Signal). parts_s l at rec st env s room) (let_tree p n w e)

    pub let_stops : r ≡ Stuck → room₁ ≡ parts
    unfolding onceᵇ
    let_stops g = part ea f ∙ sym (let_walk ∙ rw (sym defined ∙ g))

    pub let_noted : {v : Value} {u : Tally} {env₁ : Env} {b : ℕ} {room₂ : Bytes} → r ≡ Done v u → env₁ ≡ env → b ≡ b_at p n
        → room₂ ≡ note_s l at rec st (bind env₁ n v) (signal_at p b) room₁ → room₂ ≡ parts
    unfolding onceᵇ
    let_noted {v} g q eb h =
        h ∙ (λ i. note_s l at rec st (bind (q i) n v) (signal_at p (eb i)) (part ea f i)) ∙ sym (let_walk ∙ rw (sym defined ∙ g))

  -- By the content m of the node's cell.
  module _ {k m : ℕ} (c : m ≡ cell st k) (x : k ≡ cells_before p n) where
    content_is : m ≡ cell st (cells_before p n)
    content_is = c ∙ ap (cell st) x

    clear : m ≡ 0 → is_clear st (cells_before p n) ≡ true
    unfolding is_clear
    clear z = rw (← content_is) (eq-eqb m 0 z)

    taken : (m ≡ 0 → ⊥) → is_clear st (cells_before p n) ≡ false
    unfolding is_clear
    taken z = rw (← content_is) (ne_eqb m 0 z)

    holds : unpacked m ≡ held st (cells_before p n)
    unfolding held
    holds = ap unpacked content_is

    names : middle_in m ≡ branch_in st (cells_before p n)
    unfolding branch_in
    names = ap middle_in content_is

    switch_walk : kind_at p n ≡ 6
        → parts ≡ (if is_clear st (cells_before p n) then walk (a_at p n) else note_s l at rec st (bind env n (held st (cells_before p n))) (signal_at p (c_at p n)) room)
    unfolding parts_s
    switch_walk e = ap (λ (s : Signal). parts_s l at rec st env s room) (switch_tree p n w e)

    pub switch_first_noted : kind_at p n ≡ 6 → m ≡ 0 → {a : ℕ} {room₁ : Bytes} → a ≡ a_at p n → room₁ ≡ note_s l at rec st env (signal_at p a) room
        → room₁ ≡ parts
    switch_first_noted e z ea f = part ea f ∙ sym (switch_walk e ∙ rw (clear z))

    pub switch_second_noted : kind_at p n ≡ 6 → (m ≡ 0 → ⊥) → {a : ℕ} {v : Value} {room₁ : Bytes} → a ≡ c_at p n → v ≡ unpacked m
        → room₁ ≡ note_s l at rec st (bind env n v) (signal_at p a) room → room₁ ≡ parts
    switch_second_noted e z ea ev f = bound refl ea (ev ∙ holds) f ∙ sym (switch_walk e ∙ rw (taken z))

    group_walk : kind_at p n ≡ 7
        → parts ≡ (if is_clear st (cells_before p n) then walk (a_at p n)
        else note_b l at rec st env (branch_in st (cells_before p n)) (held st (cells_before p n)) (branches_at p (b_at p n)) room)
    unfolding parts_s
    group_walk e = ap (λ (s : Signal). parts_s l at rec st env s room) (group_tree p n w e)

    pub group_body_noted : kind_at p n ≡ 7 → m ≡ 0 → {a : ℕ} {room₁ : Bytes} → a ≡ a_at p n → room₁ ≡ note_s l at rec st env (signal_at p a) room
        → room₁ ≡ parts
    group_body_noted e z ea f = part ea f ∙ sym (group_walk e ∙ rw (clear z))

    module _ (e : kind_at p n ≡ 7) (z : m ≡ 0 → ⊥) {b which : ℕ} {t : Bool} (eb : b ≡ b_at p n) (ew : which ≡ middle_in m)
        (h : t ≡ has_branch which (branches_at p b)) where
      has : {t' : Bool} → t ≡ t' → has_branch (branch_in st (cells_before p n)) (branches_at p (b_at p n)) ≡ t'
      has g = (λ i. has_branch (sym (ew ∙ names) i) (branches_at p (sym eb i))) ∙ sym h ∙ g

      pub group_branch_noted : t ≡ true → {a : ℕ} {v : Value} {room₁ : Bytes} → a ≡ a_at p which → v ≡ unpacked m
          → room₁ ≡ note_s l at rec st (bind env which v) (signal_at p a) room → room₁ ≡ parts
      group_branch_noted g ea ev f =
          bound (ew ∙ names) (ea ∙ ap (a_at p) (ew ∙ names)) (ev ∙ holds) f
          ∙ sym (group_walk e ∙ rw (taken z)
          (branch_in_lem l at rec st env (held st (cells_before p n)) room (suc (b_at p n)) p (b_at p n) (branch_in st (cells_before p n)) (omega arith)
          (group_kids p n w e).1.node (has g)))

      pub group_none_noted : t ≡ false → room ≡ parts
      group_none_noted g =
          sym (group_walk e ∙ rw (taken z)
          (branch_not l at rec st env (held st (cells_before p n)) room (branch_in st (cells_before p n)) (branches_at p (b_at p n)) (has g)))
