-- In a well-formed state the update that puts only the current part to start is the update of the rules, of a signal that sits in its table of
-- at most 1,023 nodes, is in scope, typed and ready, with every variable in scope bound.
-- Assumes nothing.
use Rattle.std.specs.Prelude.{if◌then◌else◌, None}
use mathlib.Core.Path.{◌≡◌, refl, ap, ◌∙◌}
use mathlib.Core.List.{[], ◌∷◌}
use mathlib.Core.Bool.{Bool, true}
use Prim.Native.Nat.{ℕ, ◌+◌, ◌≤◌}
use native.Mathlib.Omega.{arith}
use lib.Dec.{eqb}
use lib.ListN.{length}
use borrow.Author.Tests.{eqb-true}
use Rattle.rules.specs.Bytes.{Bytes, ◌and◌}
use Rattle.rules.specs.Values.{type_of, middle_in}
use Rattle.rules.specs.Layout.{edition, most_nodes, cells, type_at, cell, cell_at, state_length, held, hold, is_clear, branch_in}
use Rattle.rules.specs.Work.{Updated, stays, leave, afterᵘ, ruleᵘ, ◌with◌, ◌thenᵘ◌}
use Rattle.rules.specs.Tree.{Signal, input, time, ext, delay, let_signal, switch, group, until, Branches, no_branch, branch, Cases, no_case, case, root}
use Rattle.rules.specs.Scope.{Marks, mark, unmarked, Offers, onward, is_offered, scope_s, scope_b, scope_c, scope_fault}
use Rattle.rules.specs.Typing.{types_s, types_b, types_c, type_fault}
use Rattle.rules.specs.Ready.{ready_s, ready_b, ready_c, ready_fault}
use Rattle.rules.specs.Reset.{reset_s, reset_b}
use Rattle.rules.specs.WellFormed.{well_s, well_b, well_c, well_formed}
use Rattle.rules.specs.Size.{is_cell, times_s, times_b, times_c}
use Rattle.rules.specs.Evaluate.{Env, bind, unbound, opened, eval_s}
use Rattle.rules.specs.Update.{on_occurrence, on_event, caught, upd_s, upd_b, upd_c}
use Rattle.rules.specs.Accepted.{Accepted}
use Rattle.rules.specs.declared.Value.{Value}
use Rattle.rules.specs.Evaluated.{Evaluated}
use Rattle.rules.proofs.Static.{both, kept, holds, and_both, not_both}
use Rattle.promises.specs.Small.{Small}
use Rattle.promises.specs.Valid.{Valid}
use Rattle.promises.specs.Sits.{SitsS, SitsB, SitsC}
use Rattle.promises.specs.Kept.{Kept, Agree}
use Rattle.promises.specs.Seated.{Seated}
use Rattle.promises.proofs.ValidLaws.{is_plain_lem}
use Rattle.promises.proofs.SoundE.{Gives, retype, bind_length}
use Rattle.promises.proofs.SoundS.{definition_known, held_of, sound_s}
use Rattle.promises.proofs.Frames.{kept_then, apart_agree, agree_part, rests_agree, rests_b_agree, well_agree}
use Rattle.promises.proofs.Rests.{reset_rests}
use Rattle.promises.proofs.Goes.{Goes, next, jump}
use Rattle.promises.proofs.UpdateS.{AllKnown, bound_more, switch_stays, update_goes, update_c_goes}
use Rattle.promises.proofs.Steps.{well_parts, nothing_known, unbound_length}
use Rattle.current.specs.Current.{leaves, go_s, go_b, go_c}
use Rattle.current.proofs.Resting.{rests_reset, rests_b_reset}
use Rattle.current.proofs.Leaving.{either, swapped_same, leaves_same}
use Rattle.current.proofs.Targets.{Short, short_none, short_onward, short_group, soonest_same}

-- First an evaluation that gives a value of a type.
with_same : {r : Evaluated} {t : ℕ} {f g : Value → Updated} → Gives r t → ((v : Value) → Valid v → type_of v ≡ t → f v ≡ g v)
    → (r with f) ≡ (r with g)
unfolding ◌with◌
with_same {f = f} {g} gives h = rw gives.done (ap (afterᵘ gives.tally) (h gives.value gives.valid gives.typed))

-- First an update that no jump leaves.
then_next : {τ part : ℕ → ℕ} {test : Bytes → Bool} {st : Bytes} {r : Updated} (f g : Bytes → Updated) → Goes [] τ part test st r
    → ((st₁ : Bytes) → Kept part st st₁ → test st₁ ≡ true → f st₁ ≡ g st₁) → (r thenᵘ f) ≡ (r thenᵘ g)
unfolding ◌thenᵘ◌ is_offered
then_next f g (next {st₁} {w} a e) h = ap (afterᵘ w) (h st₁ a e)
then_next f g (jump o v e a) h = absurd (not_both o)

-- The same, by either update.
then_same : {τ part : ℕ → ℕ} {test : Bytes → Bool} {st : Bytes} {q r : Updated} {f g : Bytes → Updated} → Goes [] τ part test st r → q ≡ r
    → ((st₁ : Bytes) → Kept part st st₁ → test st₁ ≡ true → f st₁ ≡ g st₁) → (q thenᵘ f) ≡ (r thenᵘ g)
then_same {f = f} {g} a e h = ap (λ u. u thenᵘ f) e ∙ then_next f g a h

module _ (ed count cells : ℕ) (τ : ℕ → ℕ) (rec : Bytes) (hr : Small rec) (few : count ≤ 1023) where
  mutual
    unfolding go_s upd_s reset_s scope_s types_s ready_s well_s times_s held branch_in

    -- A signal's update.
    pub go_same : (s : Signal) → SitsS count cells τ s → ((k : ℕ) → times_s k s ≤ 1) → (Γ : Marks) (Δ : Offers) → Short Δ → (env : Env) → length env ≡ count
        → scope_s ed Γ Δ s ≡ None → types_s s ≡ None → ready_s s ≡ None → AllKnown Γ τ env
        → (st : Bytes) → Small st → length st ≡ cell_at cells → well_s st s ≡ true → go_s rec env s st ≡ upd_s rec env s st
    go_same (input n c) sits once Γ Δ short env l sc ty re kn st hs ls we = refl
    go_same (time n) sits once Γ Δ short env l sc ty re kn st hs ls we = refl
    go_same (ext n e) sits once Γ Δ short env l sc ty re kn st hs ls we = refl
    go_same (delay n k v s) sits once Γ Δ short env l sc ty re kn st hs ls we =
        let e = go_same s sits.2 (λ j. omega (arith, once j)) Γ [] short_none env l sc (both _ _ ty).1 re kn st hs ls (and_both _ _ we).1 in
        λ i. ruleᵘ (eval_s rec st env s with λ w. e i thenᵘ λ st₁. leave (hold st₁ k w))
    go_same (let_signal n t d b) sits once Γ Δ short env l sc ty re kn st hs ls we =
        let s = both _ _ sc in
        let q = both _ _ ty in
        let q₁ = both _ _ q.1 in
        let r = both _ _ re in
        let r₁ = both _ _ r.1 in
        let w = and_both _ _ we in
        let once-d : (j : ℕ) → times_s j d ≤ 1 = λ j. omega (arith, once j) in
        ap ruleᵘ (with_same
        (retype (eqb-true _ _ (holds _ n q.0))
        (sound_s d ed count cells τ rec st hr hs sits.1 (mark Γ n) [] env l s.0 q₁.0 r₁.0 w.0
        (record { known = definition_known n d Γ τ env (kept _ n r.0) λ a m p. kn.known a m refl }))) λ v f e.
        let env₁ : Env = bind env n v in
        let l₁ : length env₁ ≡ count = bind_length env n v ∙ l in
        let kn₁ = bound_more Γ env n v (rw l sits.0.below) f (e ∙ sits.0.declared) kn in
        then_same
        (update_goes ed count cells τ rec hr d sits.1 once-d (mark Γ n) [] env₁ l₁ s.0 q₁.0 r₁.0 kn₁ st hs ls w.0)
        (go_same d sits.1 once-d (mark Γ n) [] short_none env₁ l₁ s.0 q₁.0 r₁.0 kn₁ st hs ls w.0) λ st₁ a e₁.
        go_same b sits.2 (λ j. omega (arith, once j)) (mark Γ n) Δ short env₁ l₁ s.1 q₁.1 r₁.1 kn₁ st₁ a.bytes (a.long ∙ ls)
        (well_agree b st st₁ (apart_agree (λ j. once j) a) ∙ w.1))
    go_same (switch n k t x e y) sits once Γ Δ short env l sc ty re kn st hs ls we =
        let s = both _ _ sc in
        let s₁ = both _ _ s.1 in
        let q₁ = both _ _ (both _ _ ty).1 in
        let q₂ = both _ _ q₁.1 in
        let r = both _ _ re in
        let r₁ = both _ _ r.1 in
        let w = and_both _ _ we in
        let once-e : (j : ℕ) → times_s j e ≤ 1 = λ j. omega (arith, once j) in
        let goes = update_goes ed count cells τ rec hr e sits.3 once-e Γ [] env l s₁.0 q₂.0 r₁.0 kn st hs ls w.0 in
        let same = go_same e sits.3 once-e Γ [] short_none env l s₁.0 q₂.0 r₁.0 kn st hs ls w.0 in
        λ i. ruleᵘ (eval_s rec st env e with λ event.
        then_same goes same (λ st₁ a e₁.
        let w₁ = switch_stays k t x y st st₁ _ a (λ j. omega (arith, once j)) w.1 in
        let caught-so = swapped_same count cells τ n k t x e y sits once st₁ a.bytes (a.long ∙ ls) w₁ in
        let current = either
        (λ c. (if c then go_s rec env x st₁ else go_s rec (bind env n (held st₁ k)) y st₁) ≡ (if c then upd_s rec env x st₁ else upd_s rec (bind env n (held st₁ k)) y st₁))
        (is_clear st₁ k) _ _ w₁
        (λ p. go_same x sits.2 (λ j. omega (arith, once j)) Γ [] short_none env l s.0 q₁.0 r.0 kn st₁ a.bytes (a.long ∙ ls) (and_both _ _ p).0)
        (λ p.
        let p₁ = and_both _ _ p in
        let o = held_of st₁ k t 0 a.bytes (is_plain_lem sits.1.least sits.1.most) (and_both _ _ p₁.0).0 in
        let kn₁ = bound_more Γ env n (held st₁ k) (rw l sits.1.binds.below) o.valid (o.typed ∙ sits.1.binds.declared) kn in
        go_same y sits.4 (λ j. omega (arith, once j)) (mark Γ n) [] short_none (bind env n (held st₁ k)) (bind_length env n _ ∙ l) s₁.1 q₂.1 r₁.1 kn₁ st₁ a.bytes (a.long ∙ ls) p₁.1) in
        λ j. on_event (opened event) (λ v. leave (caught-so v j)) (stays (current j))) i)
    go_same (group n k body brs) sits once Γ Δ short env l sc ty re kn st hs ls we =
        let s = both _ _ sc in
        let q = both _ _ (both _ _ ty).1 in
        let r = both _ _ re in
        let once-b : (j : ℕ) → times_s j body ≤ 1 = λ j. omega (arith, once j) in
        let short-b : Short (brs ∷ onward ed Δ) = short_group count cells τ few brs sits.2 (onward ed Δ) (short_onward ed Δ short) in
        ap ruleᵘ (either
        (λ c. (if c then leaves k body brs (go_s rec env body st) else go_b rec env k (branch_in st k) (held st k) brs brs st)
        ≡ caught k body brs (if c then upd_s rec env body st else upd_b rec env (branch_in st k) (held st k) brs st))
        (is_clear st k) _ _ we
        (λ p.
        let p₁ = and_both _ _ p in
        ap (leaves k body brs) (go_same body sits.1 once-b Γ (brs ∷ onward ed Δ) short-b env l s.0 q.0 r.0 kn st hs ls p₁.0)
        ∙ leaves_same k body body brs
        (update_goes ed count cells τ rec hr body sits.1 once-b Γ (brs ∷ onward ed Δ) env l s.0 q.0 r.0 kn st hs ls p₁.0) λ st₁ a.
        let b = (reset_rests body count cells τ st₁ sits.1 once-b a.bytes (a.long ∙ ls)).kept in
        let far = kept_then {own = λ j. is_cell j k + times_s j body} (λ j z. z) (λ j z. omega arith) a b in
        rests_b_reset brs (reset_s body st₁) b.bytes (rests_b_agree brs st _ (apart_agree (λ j. omega (arith, once j)) far) ∙ p₁.1))
        (λ p.
        let p₁ = and_both _ _ p in
        go_b_same brs sits.2 Γ (brs ∷ onward ed Δ) short-b env l s.1 q.1 r.1 kn st hs ls k body brs (λ j. times_s j body) (λ j. omega (arith, once j))
        (λ st₁ h a. ap (reset_b brs) (rests_reset body st₁ h (rests_agree body st st₁ a ∙ p₁.0))) p₁.1))
    go_same (until n s cs) sits once Γ Δ short env l sc ty re kn st hs ls we =
        let z = both _ _ sc in
        let q = both _ _ ty in
        let r = both _ _ re in
        let w = and_both _ _ we in
        let once_c : (j : ℕ) → times_c j cs ≤ 1 = λ j. omega (arith, once j) in
        let first = soonest_same ed rec st env Γ Δ cs short z.1 in
        let rest = then_same (update_c_goes ed count cells τ rec hr cs sits.1 once_c Γ Δ env l z.1 q.1 r.1 kn st hs ls w.1)
        (go_c_same cs sits.1 once_c Γ Δ short env l z.1 q.1 r.1 kn st hs ls w.1) λ st₁ a e₁.
        ap stays (go_same s sits.0 (λ j. omega (arith, once j)) Γ [] short_none env l z.0 q.0 r.0 kn st₁ a.bytes (a.long ∙ ls)
        (well_agree s st st₁ (apart_agree (λ j. omega (arith, once j)) a) ∙ w.0)) in
        λ i. ruleᵘ (on_occurrence (first i) st (rest i))

    -- The branch that the content of cell k names, out of the rest of a group's: the group's other parts, with cells before, are at start.
    go_b_same : (brs : Branches) → SitsB count cells τ brs → (Γ : Marks) (Δ : Offers) → Short Δ → (env : Env) → length env ≡ count
        → scope_b ed Γ Δ brs ≡ None → types_b brs ≡ None → ready_b brs ≡ None → AllKnown Γ τ env
        → (st : Bytes) → Small st → length st ≡ cell_at cells → (k : ℕ) (first : Signal) (all : Branches) (before : ℕ → ℕ)
        → ((j : ℕ) → is_cell j k + before j + times_b j brs ≤ 1)
        → ((st₁ : Bytes) → Small st₁ → Agree before st st₁ → reset_b all (reset_s first st₁) ≡ reset_b brs st₁)
        → well_b st (cell st k) brs ≡ true
        → go_b rec env k (branch_in st k) (held st k) all brs st ≡ caught k first all (upd_b rec env (branch_in st k) (held st k) brs st)
    go_b_same no_branch sits Γ Δ short env l sc ty re kn st hs ls k first all before once skip we = absurd (not_both we)
    go_b_same (branch n t body more) sits Γ Δ short env l sc ty re kn st hs ls k first all before once skip we =
        let s = both _ _ sc in
        let q = both _ _ ty in
        let r = both _ _ re in
        let once-b : (j : ℕ) → times_s j body ≤ 1 = λ j. omega (arith, once j) in
        let env₁ : Env = bind env n (held st k) in
        let l₁ : length env₁ ≡ count = bind_length env n _ ∙ l in
        either
        (λ c. (if c then leaves k body all (go_s rec env₁ body st) else go_b rec env k (branch_in st k) (held st k) all more st)
        ≡ caught k first all (if c then upd_s rec env₁ body st else upd_b rec env (branch_in st k) (held st k) more st))
        (eqb n (middle_in (cell st k))) _ _ we
        (λ p.
        let p₁ = and_both _ _ p in
        let p₂ = and_both _ _ p₁.0 in
        let o = held_of st k t n hs (is_plain_lem sits.1.least sits.1.most) p₂.0 in
        let kn₁ = bound_more Γ env n (held st k) (rw l sits.1.binds.below) o.valid (o.typed ∙ sits.1.binds.declared) kn in
        ap (leaves k body all) (go_same body sits.2 once-b (mark Γ n) Δ short env₁ l₁ s.0 q.0 r.0 kn₁ st hs ls p₂.1)
        ∙ leaves_same k body first all
        (update_goes ed count cells τ rec hr body sits.2 once-b (mark Γ n) Δ env₁ l₁ s.0 q.0 r.0 kn₁ st hs ls p₂.1) λ st₁ a.
        let b = (reset_rests body count cells τ st₁ sits.2 once-b a.bytes (a.long ∙ ls)).kept in
        let far = kept_then {own = λ j. is_cell j k + times_s j body} (λ j z. z) (λ j z. omega arith) a b in
        skip st₁ a.bytes (apart_agree (λ j. omega (arith, once j)) a)
        ∙ rests_b_reset more (reset_s body st₁) b.bytes (rests_b_agree more st _ (apart_agree (λ j. omega (arith, once j)) far) ∙ p₁.1))
        (λ p.
        let p₁ = and_both _ _ p in
        go_b_same more sits.3 Γ Δ short env l s.1 q.1 r.1 kn st hs ls k first all (λ j. before j + times_s j body) (λ j. omega (arith, once j))
        (λ st₁ h a.
        skip st₁ h (agree_part (λ j. omega arith) a)
        ∙ ap (reset_b more) (rests_reset body st₁ h (rests_agree body st st₁ (agree_part (λ j. omega arith) a) ∙ p₁.0))) p₁.1)

    -- The events of an until.
    go_c_same : (cs : Cases) → SitsC count cells τ cs → ((k : ℕ) → times_c k cs ≤ 1) → (Γ : Marks) (Δ : Offers) → Short Δ → (env : Env) → length env ≡ count
        → scope_c ed Γ Δ cs ≡ None → types_c cs ≡ None → ready_c cs ≡ None → AllKnown Γ τ env
        → (st : Bytes) → Small st → length st ≡ cell_at cells → well_c st cs ≡ true → go_c rec env cs st ≡ upd_c rec env cs st
    go_c_same no_case sits once Γ Δ short env l sc ty re kn st hs ls we = refl
    go_c_same (case n event target t more) sits once Γ Δ short env l sc ty re kn st hs ls we =
        let s = both _ _ (both _ _ sc).1 in
        let q = both _ _ (both _ _ ty).1 in
        let r = both _ _ re in
        let w = and_both _ _ we in
        let once-m : (j : ℕ) → times_c j more ≤ 1 = λ j. omega (arith, once j) in
        then_same (update_c_goes ed count cells τ rec hr more sits.2 once-m Γ Δ env l s.1 q.1 r.1 kn st hs ls w.1)
        (go_c_same more sits.2 once-m Γ Δ short env l s.1 q.1 r.1 kn st hs ls w.1) λ st₁ a e₁.
        ap stays (go_same event sits.1 (λ j. omega (arith, once j)) Γ [] short_none env l s.0 q.0 r.0 kn st₁ a.bytes (a.long ∙ ls)
        (well_agree event st st₁ (apart_agree (λ j. omega (arith, once j)) a) ∙ w.0))

-- The update of an accepted program's root in a well-formed state.
pub root_same : (p rec st : Bytes) → Accepted p → Seated p → well_formed p st ≡ true → Small st → Small rec
    → go_s rec (unbound most_nodes) (root p) st ≡ upd_s rec (unbound most_nodes) (root p) st
unfolding scope_fault type_fault ready_fault state_length unbound
root_same p rec st acc seat well hs hr =
    let w = well_parts p st well in
    go_same (edition p) most_nodes (cells p) (type_at p) rec hr (omega arith) (root p) seat.sits seat.once (unmarked most_nodes) [] short_none (unbound most_nodes) (unbound_length most_nodes)
    acc.scope_right acc.types_right acc.ready_right (nothing_known most_nodes (type_at p) (unbound most_nodes) _) st hs w.long w.parts
