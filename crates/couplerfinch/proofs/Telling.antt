-- What the numbers of an answer are, once it is known which answer it is. Assumes nothing.
use Rattle.std.specs.Prelude.{if◌then◌else◌}
use Prim.Native.Nat.{ℕ, ◌+◌}
use native.Mathlib.Omega.{arith}
use borrow.Author.Tests.{ne_eqb}
use mathlib.Core.Path.{◌≡◌, refl, sym, ap, ◌∙◌}
use mathlib.Core.Bool.{Bool, false}
use mathlib.Core.List.{List, [], ◌∷◌}
use lib.Dec.{eqb}
use Rattle.rules.specs.Answers.{code_of, place_of}
use Rattle.rules.specs.declared.Refusal.{Refusal}
use Rattle.rules.specs.declared.Refusal.TheVariants.{ProgramLength, CheckSum, BlockNumber, RecordFault, ShapeFault, ScopeFault, TypeFault, NotReady, StateFault, RecordsLength, OutputLength, InputFault, TimeBack, OtherProgram}
use Rattle.couplerfinch.specs.Room.{refused_room, laid_out}

-- A call that writes an answer's numbers and answers its code does so for what that answer is known to be.
pub told_as : {A : Type 0} {a b : A} {res : ℕ} {exit : List ℕ} (code : A → ℕ) (numbers : A → List ℕ) → a ≡ b → (res ≡ code a) × (exit ≡ numbers a) → (res ≡ code b) × (exit ≡ numbers b)
told_as code numbers same (c, n) = (c ∙ ap code same, n ∙ ap numbers same)

-- No refusal's code is 0.
coded : (r : Refusal) → eqb (code_of r) 0 ≡ false
coded ProgramLength = refl
coded (CheckSum j) = refl
coded (BlockNumber j) = refl
coded (RecordFault j) = refl
coded (ShapeFault j) = refl
coded (ScopeFault j) = refl
coded (TypeFault j) = refl
coded (NotReady j) = refl
coded StateFault = refl
coded RecordsLength = refl
coded OutputLength = refl
coded (InputFault j) = refl
coded (TimeBack j) = refl
coded OtherProgram = refl

-- The numbers of a refusal, from those that its code and place were found to be.
pub refused_at : {res code place : ℕ} {exit : List ℕ} (c p : ℕ) (rest : List ℕ) (done : List ℕ → List ℕ) → eqb c 0 ≡ false → code ≡ c → place ≡ p
    → (res ≡ code) × (exit ≡ refused_room (code ∷ place ∷ rest)) → (res ≡ c) × (exit ≡ laid_out done (c ∷ p ∷ rest))
refused_at {place = place} c p rest done some ec ep (n, e) =
    let ns : List ℕ = c ∷ p ∷ rest in
    (n ∙ ec, e ∙ ap (λ (x : ℕ). refused_room (x ∷ place ∷ rest)) ec ∙ ap (λ (x : ℕ). refused_room (c ∷ x ∷ rest)) ep ∙ sym (ap (λ (b : Bool). if b then done ns else refused_room ns) some))

pub refused_room_lem : {res code place : ℕ} {exit : List ℕ} (r : Refusal) (work : ℕ) (done : List ℕ → List ℕ) → code ≡ code_of r → place ≡ place_of r
    → (res ≡ code) × (exit ≡ refused_room (code ∷ place ∷ work ∷ []))
    → (res ≡ code_of r) × (exit ≡ laid_out done (code_of r ∷ place_of r ∷ work ∷ []))
refused_room_lem r work done = refused_at (code_of r) (place_of r) (work ∷ []) done (coded r)

-- Of a run: with the first wrapped step.
pub stopped_room : {res code place : ℕ} {exit : List ℕ} (r : Refusal) (work wrapped : ℕ) (done : List ℕ → List ℕ) → code ≡ code_of r → place ≡ place_of r
    → (res ≡ code) × (exit ≡ refused_room (code ∷ place ∷ work ∷ wrapped ∷ []))
    → (res ≡ code_of r) × (exit ≡ laid_out done (code_of r ∷ place_of r ∷ work ∷ wrapped ∷ []))
stopped_room r work wrapped done = refused_at (code_of r) (place_of r) (work ∷ wrapped ∷ []) done (coded r)

-- The same of a new program's, with 32 added.
pub new_refused_room : {res code place : ℕ} {exit : List ℕ} (r : Refusal) (done : List ℕ → List ℕ) → code ≡ code_of r → place ≡ place_of r
    → (res ≡ 32 + code) × (exit ≡ refused_room ((32 + code) ∷ place ∷ 0 ∷ []))
    → (res ≡ 32 + code_of r) × (exit ≡ laid_out done ((32 + code_of r) ∷ place_of r ∷ 0 ∷ []))
new_refused_room r done e p h = refused_at (32 + code_of r) (place_of r) (0 ∷ []) done (ne_eqb (32 + code_of r) 0 (λ z. omega arith)) (ap (λ (x : ℕ). 32 + x) e) p h
