-- An update of a signal that sits in its table, is in scope, typed and ready, in a well-formed state and with every variable in scope bound, is
-- never stuck: it ends in a well-formed state, or in a jump to a branch that is offered. It changes no cell but the signal's own.
-- Assumes nothing.
use Rattle.std.specs.Prelude.{if◌then◌else◌, None}
use mathlib.Core.Path.{◌≡◌, refl, sym, ap, ◌∙◌}
use mathlib.Core.List.{[], ◌∷◌}
use mathlib.Core.Bool.{Bool, true, false}
use Prim.Native.Nat.{ℕ, ◌+◌, ◌<◌, ◌≤◌}
use native.Mathlib.Omega.{arith}
use lib.Dec.{eqb}
use lib.ListN.{length}
use borrow.Author.Tests.{eqb-true}
use Rattle.rules.specs.Bytes.{Bytes, ◌and◌}
use Rattle.rules.specs.Values.{type_of, packed, middle_in}
use Rattle.rules.specs.Layout.{cell, cell_at, held, hold, is_clear, branch_in}
use Rattle.rules.specs.Tree.{Signal, input, time, ext, delay, let_signal, switch, group, until, Branches, no_branch, branch, Cases, no_case, case}
use Rattle.rules.specs.Scope.{Marks, mark, Offers, onward, scope_s, scope_b, scope_c}
use Rattle.rules.specs.Typing.{types_s, types_b, types_c, bodies_have}
use Rattle.rules.specs.Ready.{ready_s, ready_b, ready_c}
use Rattle.rules.specs.Reset.{rests_s}
use Rattle.rules.specs.WellFormed.{content_fits, well_s, well_b, well_c}
use Rattle.rules.specs.Size.{is_cell, times_s, times_b, times_c}
use Rattle.rules.specs.Evaluate.{Env, bind}
use Rattle.rules.specs.Update.{first_present, upd_s, upd_b, upd_c}
use Rattle.rules.specs.declared.Value.{Value}
use Rattle.rules.proofs.Static.{both, kept, holds, and_both, not_both}
use Rattle.promises.specs.Small.{Small}
use Rattle.promises.specs.Valid.{Valid}
use Rattle.promises.specs.Sits.{SitsS, SitsB, SitsC}
use Rattle.promises.specs.Kept.{Kept}
use Rattle.promises.proofs.ValidLaws.{is_plain_lem, and_join, value_fits_lem}
use Rattle.promises.proofs.SoundE.{Known, retype, known_part, known_bind, bind_length}
use Rattle.promises.proofs.SoundS.{definition_known, held_of, sound_s}
use Rattle.promises.proofs.Frames.{cell_itself, kept_self, kept_then, apart_agree, rests_agree, rests_b_agree, well_agree, well_c_agree}
use Rattle.promises.proofs.Rests.{hold_set, if_yes}
use Rattle.promises.proofs.Goes.{Goes, leave_goes, rule_goes, with_goes, then_goes, stays_goes, goes_from, goes_part, either_goes, on_event_goes, Happens, quiet, occurs_happens, on_occurrence_goes}
use Rattle.promises.proofs.Caught.{if_no, switched_kept, switched_well, caught_goes}

-- Every variable in scope is bound.
abbrev pub AllKnown : Marks → (ℕ → ℕ) → Env → Type 0
AllKnown Γ τ env = Known Γ τ env (λ b. true)

-- So are those that are needed at once.
needed : {Γ : Marks} {τ : ℕ → ℕ} {env : Env} (some : ℕ → Bool) → AllKnown Γ τ env → Known Γ τ env some
needed some k = known_part some k λ b p. refl

-- One variable more is in scope, and bound.
pub bound_more : (Γ : Marks) {τ : ℕ → ℕ} (env : Env) (n : ℕ) (v : Value) → n < length env → Valid v → type_of v ≡ τ n → AllKnown Γ τ env
    → AllKnown (mark Γ n) τ (bind env n v)
bound_more Γ env n v l f e k = known_bind Γ env n v _ l f e λ b m p ne. k.known b m refl

-- A value held by a delay.
held_well : (st : Bytes) (k : ℕ) (v w : Value) → Valid w → type_of w ≡ type_of v → eqb (cell st k) (packed w) ≡ true
    → content_fits (type_of v) 0 (cell st k) ≡ true
held_well st k v w f e h =
    ap (content_fits (type_of v) 0) (eqb-true _ _ h) ∙ ap (λ (t : ℕ). content_fits t 0 (packed w)) (sym e) ∙ value_fits_lem w f

-- A cell that stayed is clear if it was.
clear_same : (st st₁ : Bytes) (k : ℕ) (b : Bool) → cell st₁ k ≡ cell st k → is_clear st k ≡ b → is_clear st₁ k ≡ b
unfolding is_clear
clear_same st st₁ k b e h = ap (λ (c : ℕ). eqb c 0) e ∙ h

-- A switch's parts, where its cell and theirs stayed.
pub switch_stays : (k t : ℕ) (x y : Signal) (st st₁ : Bytes) (own : ℕ → ℕ) → Kept own st st₁ → ((j : ℕ) → own j + (is_cell j k + times_s j x + times_s j y) ≤ 1)
    → (if is_clear st k then well_s st x and rests_s st y else content_fits t 0 (cell st k) and rests_s st x and well_s st y) ≡ true
    → (if is_clear st₁ k then well_s st₁ x and rests_s st₁ y else content_fits t 0 (cell st₁ k) and rests_s st₁ x and well_s st₁ y) ≡ true
unfolding is_clear
switch_stays k t x y st st₁ own a once w =
    let c : cell st₁ k ≡ cell st k = a.others k (omega (arith, once k, cell_itself k)) in
    let ax = apart_agree {g = λ j. times_s j x} (λ j. omega (arith, once j)) a in
    let ay = apart_agree {g = λ j. times_s j y} (λ j. omega (arith, once j)) a in
    let wx = well_agree x st st₁ ax in
    let wy = well_agree y st st₁ ay in
    let rx = rests_agree x st st₁ ax in
    let ry = rests_agree y st st₁ ay in
    (λ i. if eqb (c i) 0 then wx i and ry i else content_fits t 0 (c i) and rx i and wy i) ∙ w

module _ (ed count cells : ℕ) (τ : ℕ → ℕ) (rec : Bytes) (hr : Small rec) where
  -- The events of an until, in list order up to the first present one.
  first_happens : (cs : Cases) → SitsC count cells τ cs → (Γ : Marks) (Δ : Offers) (env : Env) → length env ≡ count
      → scope_c ed Γ Δ cs ≡ None → types_c cs ≡ None → ready_c cs ≡ None → AllKnown Γ τ env
      → (st : Bytes) → Small st → well_c st cs ≡ true → Happens Δ τ (first_present rec st env cs)
  unfolding first_present scope_s types_s ready_s well_s
  first_happens no_case sits Γ Δ env l sc ty re kn st hs we = quiet
  first_happens (case n event target t more) sits Γ Δ env l sc ty re kn st hs we =
      let s = both _ _ sc in
      let s₁ = both _ _ s.1 in
      let q = both _ _ ty in
      let q₁ = both _ _ q.1 in
      let r = both _ _ re in
      let w = and_both _ _ we in
      occurs_happens t target
      (retype (eqb-true _ _ (holds _ n q.0))
      (sound_s event ed count cells τ rec st hr hs sits.1 Γ [] env l s₁.0 q₁.0 r.0 w.0 (needed _ kn)))
      (holds _ n s.0) sits.0
      (first_happens more sits.2 Γ Δ env l s₁.1 q₁.1 r.1 kn st hs w.1)

  mutual
    unfolding upd_s scope_s types_s bodies_have ready_s well_s times_s held branch_in

    -- A signal's update.
    pub update_goes : (s : Signal) → SitsS count cells τ s → ((k : ℕ) → times_s k s ≤ 1) → (Γ : Marks) (Δ : Offers) (env : Env) → length env ≡ count
        → scope_s ed Γ Δ s ≡ None → types_s s ≡ None → ready_s s ≡ None → AllKnown Γ τ env
        → (st : Bytes) → Small st → length st ≡ cell_at cells → well_s st s ≡ true
        → Goes Δ τ (λ k. times_s k s) (λ q. well_s q s) st (upd_s rec env s st)
    update_goes (input n c) sits once Γ Δ env l sc ty re kn st hs ls we = rule_goes (leave_goes (kept_self _ st hs) refl)
    update_goes (time n) sits once Γ Δ env l sc ty re kn st hs ls we = rule_goes (leave_goes (kept_self _ st hs) refl)
    update_goes (ext n e) sits once Γ Δ env l sc ty re kn st hs ls we = rule_goes (leave_goes (kept_self _ st hs) refl)
    update_goes (delay n k v s) sits once Γ Δ env l sc ty re kn st hs ls we =
        let q = both _ _ ty in
        let w = and_both _ _ we in
        rule_goes (with_goes _ (sound_s s ed count cells τ rec st hr hs sits.2 Γ [] env l sc q.1 re w.1 (needed _ kn)) λ u f e.
        then_goes _ (update_goes s sits.2 (λ j. omega (arith, once j)) Γ [] env l sc q.1 re kn st hs ls w.1) λ st₁ a e₁.
        let b = hold_set st₁ k cells u sits.0 a.bytes (a.long ∙ ls) f in
        leave_goes (kept_then (λ j z. omega arith) (λ j z. omega arith) a b.kept)
        (and_join _ _ (held_well (hold st₁ k u) k v u f (e ∙ eqb-true _ _ (holds _ n q.0)) b.holds)
        (well_agree s st₁ (hold st₁ k u) (apart_agree (λ j. once j) b.kept) ∙ e₁)))
    update_goes (let_signal n t d b) sits once Γ Δ env l sc ty re kn st hs ls we =
        let s = both _ _ sc in
        let q = both _ _ ty in
        let q₁ = both _ _ q.1 in
        let r = both _ _ re in
        let r₁ = both _ _ r.1 in
        let w = and_both _ _ we in
        rule_goes (with_goes _
        (retype (eqb-true _ _ (holds _ n q.0))
        (sound_s d ed count cells τ rec st hr hs sits.1 (mark Γ n) [] env l s.0 q₁.0 r₁.0 w.0
        (record { known = definition_known n d Γ τ env (kept _ n r.0) λ a m p. kn.known a m refl }))) λ v f e.
        let kn₁ = bound_more Γ env n v (rw l sits.0.below) f (e ∙ sits.0.declared) kn in
        then_goes _
        (update_goes d sits.1 (λ j. omega (arith, once j)) (mark Γ n) [] (bind env n v) (bind_length env n v ∙ l) s.0 q₁.0 r₁.0 kn₁ st hs ls w.0) λ st₁ a e₁.
        goes_from (λ j z. omega arith) (λ j z. omega arith) a
        (λ st₂ c e₂. and_join _ _ (well_agree d st₁ st₂ (apart_agree (λ j. omega (arith, once j)) c) ∙ e₁) e₂)
        (update_goes b sits.2 (λ j. omega (arith, once j)) (mark Γ n) Δ (bind env n v) (bind_length env n v ∙ l) s.1 q₁.1 r₁.1 kn₁ st₁ a.bytes (a.long ∙ ls)
        (well_agree b st st₁ (apart_agree (λ j. once j) a) ∙ w.1)))
    update_goes (switch n k t x e y) sits once Γ Δ env l sc ty re kn st hs ls we =
        let s = both _ _ sc in
        let s₁ = both _ _ s.1 in
        let q = both _ _ ty in
        let q₁ = both _ _ q.1 in
        let q₂ = both _ _ q₁.1 in
        let r = both _ _ re in
        let r₁ = both _ _ r.1 in
        let h = and_both _ _ (holds _ n q.0) in
        let w = and_both _ _ we in
        rule_goes (with_goes _
        (retype (eqb-true _ _ h.0) (sound_s e ed count cells τ rec st hr hs sits.3 Γ [] env l s₁.0 q₂.0 r₁.0 w.0 (needed _ kn))) λ event f ev.
        then_goes _ (update_goes e sits.3 (λ j. omega (arith, once j)) Γ [] env l s₁.0 q₂.0 r₁.0 kn st hs ls w.0) λ st₁ a e₁.
        on_event_goes t f ev
        (stays_goes (either_goes (is_clear st₁ k) (switch_stays k t x y st st₁ _ a (λ j. omega (arith, once j)) w.1)
        (λ c p.
        let p₁ = and_both _ _ p in
        goes_from (λ j z. omega arith) (λ j z. omega arith) a
        (λ st₂ b e₂. and_join _ _ (well_agree e st₁ st₂ (apart_agree (λ j. omega (arith, once j)) b) ∙ e₁)
        (if_yes (is_clear st₂ k) _ _ (clear_same st₁ st₂ k true (b.others k (omega (arith, once k, cell_itself k))) c)
        (and_join _ _ e₂ (rests_agree y st₁ st₂ (apart_agree (λ j. omega (arith, once j)) b) ∙ p₁.1))))
        (update_goes x sits.2 (λ j. omega (arith, once j)) Γ [] env l s.0 q₁.0 r.0 kn st₁ a.bytes (a.long ∙ ls) p₁.0))
        (λ c p.
        let p₁ = and_both _ _ p in
        let p₂ = and_both _ _ p₁.0 in
        let o = held_of st₁ k t 0 a.bytes (is_plain_lem sits.1.least sits.1.most) p₂.0 in
        let kn₁ = bound_more Γ env n (held st₁ k) (rw l sits.1.binds.below) o.valid (o.typed ∙ sits.1.binds.declared) kn in
        goes_from (λ j z. omega arith) (λ j z. omega arith) a
        (λ st₂ b e₂.
        let same : cell st₂ k ≡ cell st₁ k = b.others k (omega (arith, once k, cell_itself k)) in
        and_join _ _ (well_agree e st₁ st₂ (apart_agree (λ j. omega (arith, once j)) b) ∙ e₁)
        (if_no (is_clear st₂ k) _ _ (clear_same st₁ st₂ k false same c)
        (and_join _ _ (and_join _ _ (ap (content_fits t 0) same ∙ p₂.0) (rests_agree x st₁ st₂ (apart_agree (λ j. omega (arith, once j)) b) ∙ p₂.1)) e₂)))
        (update_goes y sits.4 (λ j. omega (arith, once j)) (mark Γ n) [] (bind env n (held st₁ k)) (bind_length env n _ ∙ l) s₁.1 q₂.1 r₁.1 kn₁ st₁ a.bytes (a.long ∙ ls) p₁.1))))
        λ v fv tv.
        leave_goes
        (kept_then (λ j z. omega arith) (λ j z. z) a (switched_kept count cells τ n k t x e y sits once st₁ a.bytes (a.long ∙ ls) v fv tv))
        (switched_well count cells τ n k t x e y sits once st₁ a.bytes (a.long ∙ ls) v fv tv e₁))
    update_goes (group n k body brs) sits once Γ Δ env l sc ty re kn st hs ls we =
        let s = both _ _ sc in
        let q = both _ _ ty in
        let q₁ = both _ _ q.1 in
        let r = both _ _ re in
        rule_goes (caught_goes ed count cells τ n k body brs sits once ls
        (either_goes (is_clear st k) we
        (λ c p.
        let p₁ = and_both _ _ p in
        goes_part (λ j z. omega arith)
        (λ st₁ a e₁. if_yes (is_clear st₁ k) _ _ (clear_same st st₁ k true (a.others k (omega (arith, once k, cell_itself k))) c)
        (and_join _ _ e₁ (rests_b_agree brs st st₁ (apart_agree (λ j. omega (arith, once j)) a) ∙ p₁.1)))
        (update_goes body sits.1 (λ j. omega (arith, once j)) Γ (brs ∷ onward ed Δ) env l s.0 q₁.0 r.0 kn st hs ls p₁.0))
        (λ c p.
        let p₁ = and_both _ _ p in
        goes_part (λ j z. omega arith)
        (λ st₁ a e₁.
        let same : cell st₁ k ≡ cell st k = a.others k (omega (arith, once k, cell_itself k)) in
        if_no (is_clear st₁ k) _ _ (clear_same st st₁ k false same c)
        (and_join _ _ (rests_agree body st st₁ (apart_agree (λ j. omega (arith, once j)) a) ∙ p₁.0) (ap (λ (m : ℕ). well_b st₁ m brs) same ∙ e₁)))
        (update_b_goes brs sits.2 (λ j. omega (arith, once j)) Γ (brs ∷ onward ed Δ) env l s.1 q₁.1 r.1 kn st hs ls k p₁.1))))
    update_goes (until n s cs) sits once Γ Δ env l sc ty re kn st hs ls we =
        let z = both _ _ sc in
        let q = both _ _ ty in
        let r = both _ _ re in
        let w = and_both _ _ we in
        rule_goes (on_occurrence_goes hs (first_happens cs sits.1 Γ Δ env l z.1 q.1 r.1 kn st hs w.1)
        (then_goes _ (update_c_goes cs sits.1 (λ j. omega (arith, once j)) Γ Δ env l z.1 q.1 r.1 kn st hs ls w.1) λ st₁ a e₁.
        goes_from (λ j o. omega arith) (λ j o. omega arith) a
        (λ st₂ b e₂. and_join _ _ e₂ (well_c_agree cs st₁ st₂ (apart_agree (λ j. omega (arith, once j)) b) ∙ e₁))
        (stays_goes (update_goes s sits.0 (λ j. omega (arith, once j)) Γ [] env l z.0 q.0 r.0 kn st₁ a.bytes (a.long ∙ ls)
        (well_agree s st st₁ (apart_agree (λ j. omega (arith, once j)) a) ∙ w.0)))))

    -- The branch that the content of cell k names.
    update_b_goes : (brs : Branches) → SitsB count cells τ brs → ((k : ℕ) → times_b k brs ≤ 1) → (Γ : Marks) (Δ : Offers) (env : Env) → length env ≡ count
        → scope_b ed Γ Δ brs ≡ None → types_b brs ≡ None → ready_b brs ≡ None → AllKnown Γ τ env
        → (st : Bytes) → Small st → length st ≡ cell_at cells → (k : ℕ) → well_b st (cell st k) brs ≡ true
        → Goes Δ τ (λ j. times_b j brs) (λ q. well_b q (cell st k) brs) st (upd_b rec env (branch_in st k) (held st k) brs st)
    update_b_goes no_branch sits once Γ Δ env l sc ty re kn st hs ls k we = absurd (not_both we)
    update_b_goes (branch n t body more) sits once Γ Δ env l sc ty re kn st hs ls k we =
        let s = both _ _ sc in
        let q = both _ _ ty in
        let r = both _ _ re in
        either_goes (eqb n (middle_in (cell st k))) we
        (λ c p.
        let p₁ = and_both _ _ p in
        let p₂ = and_both _ _ p₁.0 in
        let o = held_of st k t n hs (is_plain_lem sits.1.least sits.1.most) p₂.0 in
        let kn₁ = bound_more Γ env n (held st k) (rw l sits.1.binds.below) o.valid (o.typed ∙ sits.1.binds.declared) kn in
        goes_part (λ j z. omega arith)
        (λ st₁ a e₁. if_yes (eqb n (middle_in (cell st k))) _ _ c
        (and_join _ _ (and_join _ _ p₂.0 e₁) (rests_b_agree more st st₁ (apart_agree (λ j. omega (arith, once j)) a) ∙ p₁.1)))
        (update_goes body sits.2 (λ j. omega (arith, once j)) (mark Γ n) Δ (bind env n (held st k)) (bind_length env n _ ∙ l) s.0 q.0 r.0 kn₁ st hs ls p₂.1))
        (λ c p.
        let p₁ = and_both _ _ p in
        goes_part (λ j z. omega arith)
        (λ st₁ a e₁. if_no (eqb n (middle_in (cell st k))) _ _ c
        (and_join _ _ (rests_agree body st st₁ (apart_agree (λ j. omega (arith, once j)) a) ∙ p₁.0) e₁))
        (update_b_goes more sits.3 (λ j. omega (arith, once j)) Γ Δ env l s.1 q.1 r.1 kn st hs ls k p₁.1))

    -- The events of an until: no jump leaves them.
    pub update_c_goes : (cs : Cases) → SitsC count cells τ cs → ((k : ℕ) → times_c k cs ≤ 1) → (Γ : Marks) (Δ : Offers) (env : Env) → length env ≡ count
        → scope_c ed Γ Δ cs ≡ None → types_c cs ≡ None → ready_c cs ≡ None → AllKnown Γ τ env
        → (st : Bytes) → Small st → length st ≡ cell_at cells → well_c st cs ≡ true
        → Goes [] τ (λ j. times_c j cs) (λ q. well_c q cs) st (upd_c rec env cs st)
    update_c_goes no_case sits once Γ Δ env l sc ty re kn st hs ls we = leave_goes (kept_self _ st hs) refl
    update_c_goes (case n event target t more) sits once Γ Δ env l sc ty re kn st hs ls we =
        let s = both _ _ sc in
        let s₁ = both _ _ s.1 in
        let q = both _ _ ty in
        let q₁ = both _ _ q.1 in
        let r = both _ _ re in
        let w = and_both _ _ we in
        then_goes _ (update_c_goes more sits.2 (λ j. omega (arith, once j)) Γ Δ env l s₁.1 q₁.1 r.1 kn st hs ls w.1) λ st₁ a e₁.
        goes_from (λ j o. omega arith) (λ j o. omega arith) a
        (λ st₂ b e₂. and_join _ _ e₂ (well_c_agree more st₁ st₂ (apart_agree (λ j. omega (arith, once j)) b) ∙ e₁))
        (stays_goes (update_goes event sits.1 (λ j. omega (arith, once j)) Γ [] env l s₁.0 q₁.0 r.0 kn st₁ a.bytes (a.long ∙ ls)
        (well_agree event st st₁ (apart_agree (λ j. omega (arith, once j)) a) ∙ w.0)))
