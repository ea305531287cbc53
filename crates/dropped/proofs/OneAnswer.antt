-- The definition keeps the promise, and nothing else does: two calls that keep it answer alike at every input.
-- Assumes nothing.
use Rattle.rules.specs.Verdicts.{Verdict}
use Rattle.std.specs.Prelude.{if◌then◌else◌, Result, Ok, Err, Option, Some, None}
use mathlib.Core.Path.{◌≡◌, refl, sym, ap, ◌∙◌}
use mathlib.Core.Bool.{Bool, true, false, not}
use Prim.Native.Nat.{ℕ, zero, suc, ◌+◌, ◌<◌, ◌≤◌}
use native.Mathlib.Omega.{arith}
use lib.Dec.{eqb}
use lib.ListN.{length}
use borrow.Author.Tests.{eqb-true, eqb-false, eq-eqb, ne_eqb, not-true, not-false}
use Rattle.rules.specs.Bytes.{Bytes, first_from, first}
use Rattle.rules.specs.Layout.{edition, nodes, place_or}
use Rattle.rules.specs.Accepted.{Accepted}
use Rattle.rules.specs.Calls.{program_verdict}
use Rattle.rules.proofs.ByKind.{choose}
use Rattle.rules.proofs.Verdicts.{accepted, fine_verdict}
use Rattle.promises.specs.Small.{Small}
use Rattle.dropped.specs.Pairing.{Pairing, old_of, entry_right, entry_wrong, pairing_fault}
use Rattle.dropped.specs.Rule.{Rule}
use Rattle.dropped.proofs.Exactly.{paired_exactly, paired_alike, Tidier}
use Rattle.dropped.specs.declared.Unpaired.{Unpaired}
use Rattle.dropped.specs.declared.Unpaired.TheVariants.{OldRefused, NewRefused, EditionsDiffer, PairingLength, EntryWrong}
use Rattle.dropped.specs.PairedCall.{editions_differ, entries_answer, pairing_answer, new_answer, old_answer, paired_call}
use Rattle.dropped.specs.PairedSays.{Fit, Says, old_wrong, new_wrong, editions, not_long, first_wrong, by_rule, Pairs}

-- A first place: the test holds there and at no place before.
record Found (test : ℕ → Bool) (k left i : ℕ) : Type 0 where
  from : k ≤ i
  to : i < k + left
  holds : test i ≡ true
  before : (j : ℕ) → k ≤ j → j < i → test j ≡ false

none_at : {i : ℕ} → None ≡ Some i → ⊥
none_at e = let z : ◌≡◌ {A = ℕ} 0 1 = cc in omega arith

found : (test : ℕ → Bool) (left k i : ℕ) → first_from test k left ≡ Some i → Found test k left i
unfolding first_from place_or
found test zero k i e = absurd (none_at e)
found test (suc left) k i e = go (test k) refl e (λ f. found test left (suc k) i f)
  where
    go : (b : Bool) → test k ≡ b → elim b [ true ↦ Some k | false ↦ first_from test (suc k) left ] ≡ Some i
        → (first_from test (suc k) left ≡ Some i → Found test (suc k) left i) → Found test k (suc left) i
    go true h f more =
        let s : k ≡ i = ap (λ (x : Option ℕ). place_or x 0) f in
        record { from = omega (arith, s); to = omega (arith, s); holds = ap test (sym s) ∙ h; before = λ j a b. absurd (omega (arith, s)) }
    go false h f more =
        let r = more f in
        record {
          from = omega (arith, r.from);
          to = omega (arith, r.to);
          holds = r.holds;
          before = λ j a b. choose k j (λ s. ap test (sym s) ∙ h) (λ d. r.before j (omega (arith, d)) b);
        }

first_is : (test : ℕ → Bool) (left k i : ℕ) → k ≤ i → i < k + left → test i ≡ true → ((j : ℕ) → k ≤ j → j < i → test j ≡ false) → first_from test k left ≡ Some i
unfolding first_from
first_is test zero k i a b h f = absurd (omega arith)
first_is test (suc left) k i a b h f =
    choose k i (λ s. here s) (λ d. there (f k (omega arith) (omega (arith, d))) (first_is test left (suc k) i (omega (arith, d)) (omega arith) h (λ j x y. f j (omega arith) y)))
  where
    here : k ≡ i → elim (test k) [ true ↦ Some k | false ↦ first_from test (suc k) left ] ≡ Some i
    here s = rw (ap test s ∙ h) (ap Some s)

    there : test k ≡ false → first_from test (suc k) left ≡ Some i → elim (test k) [ true ↦ Some k | false ↦ first_from test (suc k) left ] ≡ Some i
    there e g = rw e g

-- The place in an answer.
place_in : Result (Unit {0}) Unpaired → ℕ
place_in (Ok _) = 0
place_in (Err (OldRefused r)) = 0
place_in (Err (NewRefused r)) = 0
place_in (Err EditionsDiffer) = 0
place_in (Err PairingLength) = 0
place_in (Err (EntryWrong i)) = i

-- Code 29, and none.
differ : (p q : Bytes) → editions_differ p q ≡ true → edition p ≡ edition q → ⊥
unfolding editions_differ
differ p q e = eqb-false _ _ (not-true _ e)

alike : (p q : Bytes) → editions_differ p q ≡ false → edition p ≡ edition q
unfolding editions_differ
alike p q e = eqb-true _ _ (not-false _ e)

other_editions : (p q : Bytes) → (edition p ≡ edition q → ⊥) → editions_differ p q ≡ true
unfolding editions_differ
other_editions p q d = ap not (ne_eqb _ _ d)

one_edition : (p q : Bytes) → edition p ≡ edition q → editions_differ p q ≡ false
unfolding editions_differ
one_edition p q e = ap not (eq-eqb _ _ e)

-- The definition keeps the promise.
module _ (p q : Bytes) (l : Pairing) where
  entries_say : Fit p q l → (x : Option ℕ) → pairing_fault p q l ≡ x → Says p q l (entries_answer x)
  unfolding entries_answer pairing_fault first entry_wrong
  entries_say f (Some i) e =
      let r = found (entry_wrong p q l) (nodes q) 0 i e in
      first_wrong i f (omega (arith, r.to)) (not-true _ r.holds) (λ j u. not-false _ (r.before j (omega arith) u))
  entries_say f None e = by_rule f ((paired_exactly p q l f.old_accepted f.new_accepted).only_if e)

  pairing_says : Accepted p → Accepted q → Says p q l (pairing_answer p q l)
  unfolding pairing_answer
  pairing_says a b = go (editions_differ p q) refl (eqb (length l) (nodes q)) refl
    where
      go : (d : Bool) → editions_differ p q ≡ d → (s : Bool) → eqb (length l) (nodes q) ≡ s
          → Says p q l (if d then Err EditionsDiffer else if s then entries_answer (pairing_fault p q l) else Err PairingLength)
      go true e s f = editions a b (differ p q e)
      go false e true f = entries_say (record { old_accepted = a; new_accepted = b; one_edition = alike p q e; long = eqb-true _ _ f }) (pairing_fault p q l) refl
      go false e false f = not_long a b (alike p q e) (eqb-false _ _ f)

  new_says : Accepted p → (v : Verdict) → program_verdict q ≡ v → Says p q l (new_answer p q l v)
  unfolding new_answer
  new_says a (Ok _) e = pairing_says a (accepted q e)
  new_says a (Err r) e = new_wrong r a e

  old_says : (v : Verdict) → program_verdict p ≡ v → Says p q l (old_answer p q l v)
  unfolding old_answer
  old_says (Ok _) e = new_says (accepted p e) (program_verdict q) refl
  old_says (Err r) e = old_wrong r e

  pub call_says : Says p q l (paired_call p q l)
  unfolding paired_call
  call_says = old_says (program_verdict p) refl

  -- Where all is accepted and long enough, the entries decide.
  fitted : Fit p q l → paired_call p q l ≡ entries_answer (pairing_fault p q l)
  unfolding paired_call old_answer new_answer pairing_answer
  fitted f =
      rw (fine_verdict p f.old_accepted, fine_verdict q f.new_accepted, one_edition p q f.one_edition, eq-eqb (length l) (nodes q) f.long) refl

  -- Whatever keeps the promise is the definition's answer.
  pub says_call : {a : Result (Unit {0}) Unpaired} → Says p q l a → a ≡ paired_call p q l
  unfolding paired_call old_answer new_answer pairing_answer entries_answer pairing_fault first entry_wrong
  says_call (old_wrong r e) = rw e refl
  says_call (new_wrong r a e) = rw (fine_verdict p a, e) refl
  says_call (editions a b d) = rw (fine_verdict p a, fine_verdict q b, other_editions p q d) refl
  says_call (not_long a b e d) = rw (fine_verdict p a, fine_verdict q b, one_edition p q e, ne_eqb (length l) (nodes q) d) refl
  says_call (first_wrong i f u w h) =
      let z : pairing_fault p q l ≡ Some i = first_is (entry_wrong p q l) (nodes q) 0 i (omega arith) (omega arith) (ap not w) (λ j x y. ap not (h j y)) in
      sym (fitted f ∙ ap entries_answer z)
  says_call (by_rule f r) = sym (fitted f ∙ ap entries_answer ((paired_exactly p q l f.old_accepted f.new_accepted).if₀ r))

  -- What accepted says.
  pub record Good : Type 0 where
    pub fit : Fit p q l
    pub rule : Rule p q (old_of l)

  clash : {a : Result (Unit {0}) Unpaired} → Says p q l a → a ≡ Ok tt → Good
  clash (old_wrong r e) h = absurd (let z : ◌≡◌ {A = ℕ} 0 1 = cc in omega arith)
  clash (new_wrong r a e) h = absurd (let z : ◌≡◌ {A = ℕ} 0 1 = cc in omega arith)
  clash (editions a b e) h = absurd (let z : ◌≡◌ {A = ℕ} 0 1 = cc in omega arith)
  clash (not_long a b e d) h = absurd (let z : ◌≡◌ {A = ℕ} 0 1 = cc in omega arith)
  clash (first_wrong i f u w g) h = absurd (let z : ◌≡◌ {A = ℕ} 0 1 = cc in omega arith)
  clash (by_rule f r) h = record { fit = f; rule = r }

  -- The call accepts exactly where both programs are accepted, the pairing is long enough and the rule holds.
  pub accepted_good : paired_call p q l ≡ Ok tt → Good
  accepted_good e = clash call_says e

  pub good_accepted : Good → paired_call p q l ≡ Ok tt
  good_accepted g = sym (says_call (by_rule g.fit g.rule))

  -- What code 28 says.
  pub record Wrong (i : ℕ) : Type 0 where
    pub fit : Fit p q l
    pub inside : i < nodes q
    pub wrong : entry_right p q (old_of l) i ≡ false
    pub right : (j : ℕ) → j < i → entry_right p q (old_of l) j ≡ true

  wrong_at : {a : Result (Unit {0}) Unpaired} (i : ℕ) → Says p q l a → a ≡ Err (EntryWrong i) → Wrong i
  unfolding place_in
  wrong_at i (old_wrong r e) h = absurd (let z : ◌≡◌ {A = ℕ} 0 1 = cc in omega arith)
  wrong_at i (new_wrong r a e) h = absurd (let z : ◌≡◌ {A = ℕ} 0 1 = cc in omega arith)
  wrong_at i (editions a b e) h = absurd (let z : ◌≡◌ {A = ℕ} 0 1 = cc in omega arith)
  wrong_at i (not_long a b e d) h = absurd (let z : ◌≡◌ {A = ℕ} 0 1 = cc in omega arith)
  wrong_at i (first_wrong k f u w g) h =
      let s : k ≡ i = ap place_in h in
      record {
        fit = f;
        inside = omega (arith, s, u);
        wrong = ap (entry_right p q (old_of l)) (sym s) ∙ w;
        right = λ j b. g j (omega (arith, s, b));
      }
  wrong_at i (by_rule f r) h = absurd (let z : ◌≡◌ {A = ℕ} 0 1 = cc in omega arith)

  pub wrong_entry : (i : ℕ) → paired_call p q l ≡ Err (EntryWrong i) → Wrong i
  wrong_entry i e = wrong_at i call_says e

  -- And then old and new answer alike, and N and the bound are no larger.
  pub accepted_alike : Small p → Small q → paired_call p q l ≡ Ok tt → Tidier p q
  accepted_alike sp sq e =
      let g = accepted_good e in
      let a = g.fit.old_accepted in
      let b = g.fit.new_accepted in
      paired_alike p q l sp sq a b ((paired_exactly p q l a b).if₀ g.rule)

-- The definition is a call that keeps the promise.
pub call_pairs : Pairs paired_call
call_pairs = record { as_promised = call_says }

-- Two calls that keep it are equal at every input.
pub one_paired : {f g : Bytes → Bytes → Pairing → Result (Unit {0}) Unpaired} → Pairs f → Pairs g → (p q : Bytes) (l : Pairing) → f p q l ≡ g p q l
one_paired a b p q l = says_call p q l (a.as_promised p q l) ∙ sym (says_call p q l (b.as_promised p q l))
