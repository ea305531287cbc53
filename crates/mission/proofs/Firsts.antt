-- Demand 1 of check and start: a refusal has the first code that the rules give.
-- Assumes nothing.
use Rattle.std.specs.Prelude.{if◌then◌else◌, Option, Some, None, Ok, Err, ℕ}
use Rattle.rules.specs.Verdicts.{Verdict}
use mathlib.Core.Path.{◌≡◌, refl, sym, ap, subst, ◌∙◌}
use mathlib.Core.Bool.{Bool, true, false, not}
use mathlib.Core.List.{List, [], ◌∷◌}
use Prim.Native.Nat.{ℕ, zero, suc, ◌≤◌}
use native.Mathlib.Omega.{arith}
use lib.Dec.{eqb}
use lib.ListN.{length}
use borrow.Author.Tests.{eq-eqb, eqb-true}
use Rattle.rules.specs.Bytes.{Bytes, first}
use Rattle.rules.specs.Layout.{blocks, records, nodes, state_length}
use Rattle.rules.specs.Answers.{code_of}
use Rattle.rules.specs.Format.{length_wrong, sum_wrong, number_wrong, record_wrong}
use Rattle.rules.specs.Shape.{shape_wrong}
use Rattle.rules.specs.Scope.{scope_fault}
use Rattle.rules.specs.Typing.{type_fault}
use Rattle.rules.specs.Ready.{ready_fault}
use Rattle.rules.specs.Calls.{◌otherwise◌, refuse_if, refuse_at, program_verdict}
use Rattle.rules.specs.declared.Refusal.{Refusal}
use Rattle.rules.specs.declared.Refusal.TheVariants.{ProgramLength, CheckSum, BlockNumber, RecordFault, ShapeFault, ScopeFault, TypeFault, NotReady, StateFault}
use Rattle.rules.proofs.Verdicts.{not_fine}
use Rattle.mission.specs.Faults.{Fault, of_length, of_sum, of_number, of_record, of_shape, of_scope, of_type, of_ready, StartFault, of_program, of_room, FirstOf}

-- Verdicts tried one after the other, and one of them that refuses.
unfoldable chain : List Verdict → Verdict
chain [] = Ok tt
chain (v ∷ vs) = v otherwise chain vs

data Among : List Verdict → Refusal → Type 0 where
  here : {v : Verdict} {vs : List Verdict} {r : Refusal} → v ≡ Err r → Among (v ∷ vs) r
  there : {v : Verdict} {vs : List Verdict} {r : Refusal} → Among vs r → Among (v ∷ vs) r

-- Each refuses with its own code, and these rise.
abbrev Coded : ℕ → List Verdict → Type 0
Coded c [] = Unit {0}
Coded c (v ∷ vs) = ((r : Refusal) → v ≡ Err r → code_of r ≡ c) × Coded (suc c) vs

least_code : (c : ℕ) (vs : List Verdict) (q : Refusal) → Coded c vs → Among vs q → c ≤ code_of q
least_code c (v ∷ vs) q k (here e) = omega (arith, k.0 q e)
least_code c (v ∷ vs) q k (there a) = omega (arith, least_code (suc c) vs q k.1 a)
least_code c [] q k x'' = elim x'' [ ]

-- The first that refuses has the lowest code; and where the chain is fine none refuses.
chain_first : (c : ℕ) (vs : List Verdict) (r : Refusal) → Coded c vs → chain vs ≡ Err r → FirstOf (Among vs) r
unfolding chain ◌otherwise◌
chain_first c [] r k e = absurd (not_fine (sym e))
chain_first c ((Ok _) ∷ vs) r k e =
    let f = chain_first (suc c) vs r k.1 e in
    record { given₀ = there f.given₀; first₀ = later f }
  where
    later : FirstOf (Among vs) r → (q : Refusal) → Among ((Ok tt) ∷ vs) q → code_of r ≤ code_of q
    later f q (here z) = absurd (not_fine (sym z))
    later f q (there a) = f.first₀ q a
chain_first c (Err s ∷ vs) r k e =
    record { given₀ = here e; first₀ = λ q a. omega (arith, k.0 r e, least_code c (Err s ∷ vs) q k a) }

chain_none : (vs : List Verdict) (r : Refusal) → chain vs ≡ Ok tt → Among vs r → ⊥
unfolding chain ◌otherwise◌
chain_none ((Ok _) ∷ vs) r e (here z) = not_fine (sym z)
chain_none ((Ok _) ∷ vs) r e (there a) = chain_none vs r e a
chain_none (Err s ∷ vs) r e a = not_fine e
chain_none [] r e a = elim a [ ]

-- Two that refuse with one code are one.
among_same : (c : ℕ) (vs : List Verdict) (r q : Refusal) → Coded c vs → code_of r ≡ code_of q → Among vs r → Among vs q → r ≡ q
among_same c (v ∷ vs) r q k h (here e) (here f) = refuse_same (sym e ∙ f)
  where
    refuse_same : {a b : Refusal} → ◌≡◌ {A = Verdict} (Err a) (Err b) → a ≡ b
    refuse_same z = cc
among_same c (v ∷ vs) r q k h (here e) (there b) = absurd (omega (arith, k.0 r e, least_code (suc c) vs q k.1 b))
among_same c (v ∷ vs) r q k h (there a) (here f) = absurd (omega (arith, k.0 q f, least_code (suc c) vs r k.1 a))
among_same c (v ∷ vs) r q k h (there a) (there b) = among_same (suc c) vs r q k.1 h a b
among_same c [] r q k h x4 _ = elim x4 [ ]

-- Codes 1-8.
unfoldable verdicts : Bytes → List Verdict
verdicts p =
    refuse_if (length_wrong p) ProgramLength
    ∷ refuse_at CheckSum (first (sum_wrong p) (blocks p))
    ∷ refuse_at BlockNumber (first (number_wrong p) (blocks p))
    ∷ refuse_at RecordFault (first (record_wrong p) (records p))
    ∷ refuse_at ShapeFault (first (shape_wrong p) (nodes p))
    ∷ refuse_at ScopeFault (scope_fault p)
    ∷ refuse_at TypeFault (type_fault p)
    ∷ refuse_at NotReady (ready_fault p)
    ∷ []

otherwise_fine : (v : Verdict) → (v otherwise (Ok tt)) ≡ v
unfolding ◌otherwise◌
otherwise_fine (Ok _) = refl
otherwise_fine (Err r) = refl

chained : (p : Bytes) → chain (verdicts p) ≡ program_verdict p
unfolding chain verdicts program_verdict
chained p = rw (otherwise_fine (refuse_at NotReady (ready_fault p)))

-- What a test and a place refuse.
if_given : (b : Bool) (s r : Refusal) → refuse_if b s ≡ Err r → (b ≡ true) × (s ≡ r)
unfolding refuse_if
if_given true s r e = (refl, cc)
if_given false s r e = absurd (not_fine (sym e))

record AtGiven (reason : ℕ → Refusal) (q : Option ℕ) (r : Refusal) : Type 0 where
  place : ℕ
  is : q ≡ Some place
  reason_is : reason place ≡ r

at_given : (reason : ℕ → Refusal) (q : Option ℕ) (r : Refusal) → refuse_at reason q ≡ Err r → AtGiven reason q r
unfolding refuse_at
at_given reason (Some n) r e = record { place = n; is = refl; reason_is = cc }
at_given reason None r e = absurd (not_fine (sym e))

at_coded : (c : ℕ) (reason : ℕ → Refusal) → ((n : ℕ) → code_of (reason n) ≡ c) → (q : Option ℕ) (r : Refusal) → refuse_at reason q ≡ Err r → code_of r ≡ c
at_coded c reason h q r e = let g = at_given reason q r e in sym (ap code_of g.reason_is) ∙ h g.place

coded : (p : Bytes) → Coded 1 (verdicts p)
unfolding verdicts
coded p = (
  λ r e. sym (ap code_of (if_given _ _ r e).1),
  (
    λ r e. at_coded 2 CheckSum (λ n. refl) _ r e,
    (
      λ r e. at_coded 3 BlockNumber (λ n. refl) _ r e,
      (
        λ r e. at_coded 4 RecordFault (λ n. refl) _ r e,
        (
          λ r e. at_coded 5 ShapeFault (λ n. refl) _ r e,
          (
            λ r e. at_coded 6 ScopeFault (λ n. refl) _ r e,
            (
              λ r e. at_coded 7 TypeFault (λ n. refl) _ r e,
              (λ r e. at_coded 8 NotReady (λ n. refl) _ r e, tt),
            ),
          ),
        ),
      ),
    ),
  ),
)

-- A fault is one of these that refuses.
at_refuses : (reason : ℕ → Refusal) (q : Option ℕ) (n : ℕ) → q ≡ Some n → refuse_at reason q ≡ Err (reason n)
unfolding refuse_at
at_refuses reason q n e = rw e

if_refuses : (b : Bool) (s : Refusal) → b ≡ true → refuse_if b s ≡ Err s
unfolding refuse_if
if_refuses b s e = rw e

fault_among : (p : Bytes) (q : Refusal) → Fault p q → Among (verdicts p) q
unfolding verdicts
fault_among p _ (of_length e) = here (if_refuses _ _ e)
fault_among p _ (of_sum j e) = there (here (at_refuses CheckSum _ j e))
fault_among p _ (of_number j e) = there (there (here (at_refuses BlockNumber _ j e)))
fault_among p _ (of_record r e) = there (there (there (here (at_refuses RecordFault _ r e))))
fault_among p _ (of_shape n e) = there (there (there (there (here (at_refuses ShapeFault _ n e)))))
fault_among p _ (of_scope n e) = there (there (there (there (there (here (at_refuses ScopeFault _ n e))))))
fault_among p _ (of_type n e) = there (there (there (there (there (there (here (at_refuses TypeFault _ n e)))))))
fault_among p _ (of_ready n e) = there (there (there (there (there (there (there (here (at_refuses NotReady _ n e))))))))

as_fault : (p : Bytes) (reason : ℕ → Refusal) (q : Option ℕ) (r : Refusal) → ((n : ℕ) → q ≡ Some n → Fault p (reason n)) → refuse_at reason q ≡ Err r → Fault p r
as_fault p reason q r f e = let g = at_given reason q r e in subst (Fault p) g.reason_is (f g.place g.is)

among_fault : (p : Bytes) (r : Refusal) → Among (verdicts p) r → Fault p r
unfolding verdicts
among_fault p r (here e) = let g = if_given _ _ r e in subst (Fault p) g.1 (of_length g.0)
among_fault p r (there (here e)) = as_fault p CheckSum _ r of_sum e
among_fault p r (there (there (here e))) = as_fault p BlockNumber _ r of_number e
among_fault p r (there (there (there (here e)))) = as_fault p RecordFault _ r of_record e
among_fault p r (there (there (there (there (here e))))) = as_fault p ShapeFault _ r of_shape e
among_fault p r (there (there (there (there (there (here e)))))) = as_fault p ScopeFault _ r of_scope e
among_fault p r (there (there (there (there (there (there (here e))))))) = as_fault p TypeFault _ r of_type e
among_fault p r (there (there (there (there (there (there (there (here e)))))))) = as_fault p NotReady _ r of_ready e
among_fault p r (there (there (there (there (there (there (there (there x32)))))))) = elim x32 [ ]

-- Check.
pub first_fault : (p : Bytes) (r : Refusal) → program_verdict p ≡ Err r → FirstOf (Fault p) r
first_fault p r e =
    let f = chain_first 1 (verdicts p) r (coded p) (chained p ∙ e) in
    record { given₀ = among_fault p r f.given₀; first₀ = λ q a. f.first₀ q (fault_among p q a) }

pub no_fault : (p : Bytes) → program_verdict p ≡ Ok tt → (r : Refusal) → Fault p r → ⊥
no_fault p e r f = chain_none (verdicts p) r (chained p ∙ e) (fault_among p r f)

fault_same : {p : Bytes} {r q : Refusal} → code_of r ≡ code_of q → Fault p r → Fault p q → r ≡ q
fault_same {p} {r} {q} h a b = among_same 1 (verdicts p) r q (coded p) h (fault_among p r a) (fault_among p q b)

-- The first of a kind is one, where those of one code are.
first_one : {G : Refusal → Type 0} {r q : Refusal} → ((a b : Refusal) → code_of a ≡ code_of b → G a → G b → a ≡ b) → FirstOf G r → FirstOf G q → r ≡ q
first_one {r = r} {q = q} same a b = same r q (omega (arith, a.first₀ q b.given₀, b.first₀ r a.given₀)) a.given₀ b.given₀

pub one_fault : {p : Bytes} {r q : Refusal} → FirstOf (Fault p) r → FirstOf (Fault p) q → r ≡ q
one_fault a b = first_one (λ r q h. fault_same h) a b

-- Start.
fault_low : {p : Bytes} {r : Refusal} → Fault p r → code_of r ≤ 8
fault_low (of_length e) = omega arith
fault_low (of_sum j e) = omega arith
fault_low (of_number j e) = omega arith
fault_low (of_record r e) = omega arith
fault_low (of_shape n e) = omega arith
fault_low (of_scope n e) = omega arith
fault_low (of_type n e) = omega arith
fault_low (of_ready n e) = omega arith

-- Codes 1-9 of start.
unfoldable pub start_verdict : Bytes → Bytes → Verdict
start_verdict p st = program_verdict p otherwise refuse_if (not (eqb (length st) (state_length p))) StateFault

long_wrong : (a b : ℕ) → not (eqb a b) ≡ true → a ≡ b → ⊥
long_wrong a b e f = no_both (sym (ap not (eq-eqb a b f)) ∙ e)
  where
    no_both : false ≡ true → ⊥
    no_both z = let n : ◌≡◌ {A = ℕ} 0 1 = ap (λ (b : Bool). if b then 1 else 0) z in omega arith

pub first_start : (p st : Bytes) (r : Refusal) → start_verdict p st ≡ Err r → FirstOf (StartFault p st) r
unfolding start_verdict ◌otherwise◌
first_start p st r = go (program_verdict p) refl
  where
    low : FirstOf (Fault p) r → (q : Refusal) → StartFault p st q → code_of r ≤ code_of q
    low f q (of_program a) = f.first₀ q a
    low f q (of_room h) = omega (arith, fault_low f.given₀)

    ninth : program_verdict p ≡ Ok tt → StateFault ≡ r → (q : Refusal) → StartFault p st q → code_of r ≤ code_of q
    ninth f s q (of_program a) = absurd (no_fault p f q a)
    ninth f s q (of_room h) = omega (arith, ap code_of s)

    go : (v : Verdict) → program_verdict p ≡ v → (v otherwise refuse_if (not (eqb (length st) (state_length p))) StateFault) ≡ Err r
        → FirstOf (StartFault p st) r
    go (Err s) f e =
        let a = first_fault p r (f ∙ e) in
        record { given₀ = of_program a.given₀; first₀ = low a }
    go (Ok _) f e =
        let g = if_given _ _ r e in
        record { given₀ = subst (StartFault p st) g.1 (of_room (long_wrong _ _ g.0)); first₀ = ninth f g.1 }

pub no_start_fault : (p st : Bytes) → program_verdict p ≡ Ok tt → length st ≡ state_length p → (r : Refusal) → StartFault p st r → ⊥
no_start_fault p st e l r (of_program f) = no_fault p e r f
no_start_fault p st e l r (of_room h) = h l

start_same : {p st : Bytes} (r q : Refusal) → code_of r ≡ code_of q → StartFault p st r → StartFault p st q → r ≡ q
start_same r q h (of_program a) (of_program b) = fault_same h a b
start_same r q h (of_program a) (of_room b) = absurd (omega (arith, fault_low a))
start_same r q h (of_room a) (of_program b) = absurd (omega (arith, fault_low b))
start_same r q h (of_room a) (of_room b) = refl

pub one_start_fault : {p st : Bytes} {r q : Refusal} → FirstOf (StartFault p st) r → FirstOf (StartFault p st) q → r ≡ q
one_start_fault a b = first_one start_same a b
