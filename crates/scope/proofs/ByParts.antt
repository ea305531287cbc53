-- The scope of a node from what the calls for its parts have answered, marks and doors as each of them has left them.
-- Assumes nothing.
use Rattle.std.specs.Prelude.{Option, None, ℕ}
use mathlib.Core.Path.{◌≡◌, sym, ◌∙◌}
use mathlib.Core.Bool.{Bool}
use mathlib.Core.List.{List}
use Prim.Native.Nat.{ℕ, suc}
use lib.ListN.{set}
use Rattle.rules.specs.Bytes.{Bytes}
use Rattle.rules.specs.Layout.{edition, kind_at, a_at, b_at, c_at}
use Rattle.rules.specs.Kinds.{is_signal, is_branch, is_case}
use Rattle.rules.specs.Shaped.{NodeOf}
use Rattle.rules.specs.Places.{sooner, wrong_unless}
use Rattle.rules.specs.Tree.{expr_at, signal_at, branches_at, cases_at}
use Rattle.rules.specs.Scope.{Marks, mark, is_offered, scope_e, scope_s, scope_b, scope_c}
use Rattle.scope.specs.Open.{offers_below, limit_below}
use Rattle.scope.specs.Doors.{Doors}
use Rattle.scope.proofs.SignalScope.{ext_scope, delay_scope, let_scope, switch_scope, group_scope, until_scope, branch_last_scope, branch_more_scope, case_last_scope, case_more_scope}
use Rattle.scope.proofs.DoorLaws.{ended, inside_offers}

module _ {p : Bytes} {homes doors : List ℕ} {limit i : ℕ} (Γ : Marks) (d : Doors p homes doors limit i) where
  module _ (w : NodeOf is_signal p i) where
    pub ext_part : {a : ℕ} {z : Option ℕ} → kind_at p i ≡ 3 → a ≡ a_at p i → z ≡ scope_e Γ (expr_at p a) → z ≡ scope_s (edition p) Γ (offers_below p doors limit) (signal_at p i)
    ext_part k ea hz = cc (ext_scope (edition p) p i w Γ (offers_below p doors limit) k)

    pub delay_part : {a : ℕ} {z : Option ℕ} → kind_at p i ≡ 4 → a ≡ a_at p i → z ≡ scope_s (edition p) Γ (offers_below p doors i) (signal_at p a)
        → z ≡ scope_s (edition p) Γ (offers_below p doors limit) (signal_at p i)
    delay_part k ea hz = cc (delay_scope (edition p) p i w Γ (offers_below p doors limit) k, ended d)

    pub let_parts : {a b : ℕ} {x y z : Option ℕ} {Γ' : Marks} {doors' : List ℕ} → kind_at p i ≡ 5 → a ≡ a_at p i → b ≡ b_at p i
        → x ≡ scope_s (edition p) (mark Γ i) (offers_below p doors i) (signal_at p a) → Γ' ≡ Γ → doors' ≡ doors
        → y ≡ scope_s (edition p) (mark Γ' i) (offers_below p doors' limit) (signal_at p b)
        → z ≡ sooner x y → z ≡ scope_s (edition p) Γ (offers_below p doors limit) (signal_at p i)
    let_parts k ea eb hx m o hy hz = cc (let_scope (edition p) p i w Γ (offers_below p doors limit) k, ended d)

    pub switch_parts : {a b c : ℕ} {x e y v z : Option ℕ} {Γ' Γ'' : Marks} {doors' doors'' : List ℕ} → kind_at p i ≡ 6 → a ≡ a_at p i → b ≡ b_at p i → c ≡ c_at p i
        → x ≡ scope_s (edition p) Γ (offers_below p doors i) (signal_at p a) → Γ' ≡ Γ → doors' ≡ doors
        → e ≡ scope_s (edition p) Γ' (offers_below p doors' i) (signal_at p b) → Γ'' ≡ Γ' → doors'' ≡ doors'
        → y ≡ scope_s (edition p) (mark Γ'' i) (offers_below p doors'' i) (signal_at p c)
        → v ≡ sooner e y → z ≡ sooner x v → z ≡ scope_s (edition p) Γ (offers_below p doors limit) (signal_at p i)
    switch_parts k ea eb ec hx m o he m' o' hy hv hz = cc (switch_scope (edition p) p i w Γ (offers_below p doors limit) k, ended d)

    pub group_parts : {a b v low low' : ℕ} {x y z : Option ℕ} {Γ' : Marks} {doors' : List ℕ} → kind_at p i ≡ 7 → a ≡ a_at p i → b ≡ b_at p i → v ≡ suc i
        → x ≡ scope_s (edition p) Γ (offers_below p (set doors b v) low) (signal_at p a) → low ≡ limit_below (edition p) i limit
        → Γ' ≡ Γ → doors' ≡ set doors b v
        → y ≡ scope_b (edition p) Γ' (offers_below p doors' low') (branches_at p b) → low' ≡ limit_below (edition p) i limit
        → z ≡ sooner x y → z ≡ scope_s (edition p) Γ (offers_below p doors limit) (signal_at p i)
    group_parts k ea eb ev hx el m o hy el' hz =
        let offers = inside_offers d w k eb ev el in
        cc (group_scope (edition p) p i w Γ (offers_below p doors limit) k, offers)

    pub until_parts : {a b : ℕ} {x y z : Option ℕ} {Γ' : Marks} {doors' : List ℕ} → kind_at p i ≡ 8 → a ≡ a_at p i → b ≡ b_at p i
        → x ≡ scope_s (edition p) Γ (offers_below p doors i) (signal_at p a) → Γ' ≡ Γ → doors' ≡ doors
        → y ≡ scope_c (edition p) Γ' (offers_below p doors' limit) (cases_at p b)
        → z ≡ sooner x y → z ≡ scope_s (edition p) Γ (offers_below p doors limit) (signal_at p i)
    until_parts k ea eb hx m o hy hz = cc (until_scope (edition p) p i w Γ (offers_below p doors limit) k, ended d)

  module _ (w : NodeOf is_branch p i) where
    pub last_branch_parts : {a : ℕ} {x n z : Option ℕ} → b_at p i ≡ 65535 → a ≡ a_at p i
        → x ≡ scope_s (edition p) (mark Γ i) (offers_below p doors limit) (signal_at p a) → n ≡ None
        → z ≡ sooner x n → z ≡ scope_b (edition p) Γ (offers_below p doors limit) (branches_at p i)
    last_branch_parts l ea hx hn hz = cc (branch_last_scope (edition p) p i w Γ (offers_below p doors limit) l)

    pub more_branch_parts : {a b : ℕ} {x y z : Option ℕ} {Γ' : Marks} {doors' : List ℕ} → (b_at p i ≡ 65535 → ⊥) → a ≡ a_at p i → b ≡ b_at p i
        → x ≡ scope_s (edition p) (mark Γ i) (offers_below p doors limit) (signal_at p a) → Γ' ≡ Γ → doors' ≡ doors
        → y ≡ scope_b (edition p) Γ' (offers_below p doors' limit) (branches_at p b)
        → z ≡ sooner x y → z ≡ scope_b (edition p) Γ (offers_below p doors limit) (branches_at p i)
    more_branch_parts l ea eb hx m o hy hz = cc (branch_more_scope (edition p) p i w Γ (offers_below p doors limit) l)

  module _ (w : NodeOf is_case p i) where
    pub last_case_parts : {a b c : ℕ} {t : Bool} {h e v z n : Option ℕ} → a ≡ a_at p i → b ≡ b_at p i → c ≡ c_at p i → b ≡ 65535
        → t ≡ is_offered c (offers_below p doors limit) → h ≡ wrong_unless t i
        → e ≡ scope_s (edition p) Γ (offers_below p doors i) (signal_at p a) → n ≡ None
        → v ≡ sooner e n → z ≡ sooner h v → z ≡ scope_c (edition p) Γ (offers_below p doors limit) (cases_at p i)
    last_case_parts ea eb ec l ht hh he hn hv hz = cc (case_last_scope (edition p) p i w Γ (offers_below p doors limit) (sym eb ∙ l), ended d)

    pub more_case_parts : {a b c : ℕ} {t : Bool} {h e r v z : Option ℕ} {Γ' : Marks} {doors' : List ℕ} → a ≡ a_at p i → b ≡ b_at p i → c ≡ c_at p i → (b ≡ 65535 → ⊥)
        → t ≡ is_offered c (offers_below p doors limit) → h ≡ wrong_unless t i
        → e ≡ scope_s (edition p) Γ (offers_below p doors i) (signal_at p a) → Γ' ≡ Γ → doors' ≡ doors
        → r ≡ scope_c (edition p) Γ' (offers_below p doors' limit) (cases_at p b)
        → v ≡ sooner e r → z ≡ sooner h v → z ≡ scope_c (edition p) Γ (offers_below p doors limit) (cases_at p i)
    more_case_parts ea eb ec l ht hh he m o hr hv hz =
        cc (case_more_scope (edition p) p i w Γ (offers_below p doors limit) (λ q. l (eb ∙ q)), ended d)
