-- Check's refusal is of the lowest code that has a fault, at the smallest place of one.
-- Assumes nothing.
use Rattle.std.specs.Prelude.{Option, Some, None, Ok, Err, ℕ}
use Rattle.rules.specs.Verdicts.{Verdict, refused_after}
use mathlib.Core.Path.{◌≡◌, refl, sym, ap, subst, ◌∙◌}
use mathlib.Core.Logic.{◌⊎◌, inl, inr}
use mathlib.Core.Bool.{Bool, true, false}
use Prim.Native.Nat.{ℕ, ◌-◌}
use native.Mathlib.Omega.{arith}
use Rattle.rules.specs.Bytes.{Bytes, ◌and◌, first}
use Rattle.rules.specs.Layout.{blocks, records, nodes, kind_at, a_at}
use Rattle.rules.specs.Kinds.{is_signal}
use Rattle.rules.specs.Format.{length_wrong, sum_wrong, number_wrong, record_wrong}
use Rattle.rules.specs.Shape.{shape_wrong}
use Rattle.rules.specs.Shaped.{NodeOf}
use Rattle.rules.specs.Tree.{signal_at}
use Rattle.rules.specs.Scope.{scope_fault}
use Rattle.rules.specs.Typing.{type_fault}
use Rattle.rules.specs.Ready.{needs_s, ready_fault}
use Rattle.rules.specs.Accepted.{Formed}
use Rattle.rules.specs.Calls.{◌otherwise◌, refuse_if, refuse_at, program_verdict, check_answer, check_call, start_outcome, start_call, lent_verdict, run_outcome, run_call, no_step}
use Rattle.rules.specs.declared.Refusal.{Refusal}
use Rattle.rules.specs.declared.Refusal.TheVariants.{ProgramLength, CheckSum, BlockNumber, RecordFault, ShapeFault, ScopeFault, TypeFault, NotReady, StateFault, RecordsLength, OutputLength, InputFault, TimeBack, OtherProgram}
use Rattle.rules.proofs.Static.{not_both}
use Rattle.rules.proofs.Established.{root_signal}
use Rattle.rules.proofs.Verdicts.{fine_verdict}
use Rattle.rules.proofs.Rooted.{some_node}
use Rattle.rules.proofs.Signals.{let_kids}
use Rattle.rules.proofs.ByKind.{choose}
use Rattle.declarative.specs.WayUp.{InScope}
use Rattle.declarative.specs.HasType.{TypesRight}
use Rattle.declarative.specs.NeedsAt.{NeedsAt}
use Rattle.declarative.specs.Smallest.{SaysOf, Says, SmallestPlaces}
use Rattle.declarative.proofs.Free.{nowhere_right, right_nowhere, found_smallest, smallest_found}
use Rattle.declarative.proofs.EachFormat.{whole_blocks, blocks_whole, finds_sum, finds_number}
use Rattle.declarative.proofs.EachRecord.{finds_record, each_format, format_each}
use Rattle.declarative.proofs.EachShape.{finds_shape, each_shape, shape_each}
use Rattle.declarative.proofs.NeedsTable.{needs_signal, signal_needs}
use Rattle.declarative.proofs.ScopeExactly.{table, finds_scope}
use Rattle.declarative.proofs.TypesExactly.{finds_types, finds_ready}
use Rattle.declarative.proofs.AcceptedExactly.{meets_table, table_accepts}

-- What a verdict says is so.
record Told (p : Bytes) (v : Verdict) : Type 0 where
  told : Says p v

-- One code after the other: its fault, or what comes after it.
stage_if : (p : Bytes) (wrong : Bool) (r : Refusal) (next : Verdict) → (wrong ≡ true → SaysOf p r) → (wrong ≡ false → Told p next)
    → Told p (refuse_if wrong r otherwise next)
unfolding ◌otherwise◌ refuse_if
stage_if p true r next f g = record { told = f refl }
stage_if p false r next f g = g refl

-- The same of a fault that has a place.
stage : (p : Bytes) (q : Option ℕ) (reason : ℕ → Refusal) (next : Verdict) → ((n : ℕ) → q ≡ Some n → SaysOf p (reason n)) → (q ≡ None → Told p next)
    → Told p (refuse_at reason q otherwise next)
unfolding ◌otherwise◌ refuse_at
stage p (Some n) reason next f g = record { told = f n refl }
stage p None reason next f g = g refl

-- The last.
stage_last : (p : Bytes) (q : Option ℕ) (reason : ℕ → Refusal) → ((n : ℕ) → q ≡ Some n → SaysOf p (reason n)) → (q ≡ None → Told p (Ok tt))
    → Told p (refuse_at reason q)
unfolding refuse_at
stage_last p (Some n) reason f g = record { told = f n refl }
stage_last p None reason f g = g refl

-- The root of a program whose format and shape are right.
root_is : (p : Bytes) → Formed p → first (shape_wrong p) (nodes p) ≡ None → NodeOf is_signal p (nodes p - 1)
root_is p f e = root_signal p f.length_right e (some_node p f)

-- The verdict says what is so.
verdict_told : (p : Bytes) → Told p (program_verdict p)
unfolding program_verdict
verdict_told p =
    stage_if p (length_wrong p) ProgramLength _ (λ e w. not_both (sym (blocks_whole p w) ∙ e)) λ e₁.
    let whole = whole_blocks p e₁ in
    stage p (first (sum_wrong p) (blocks p)) CheckSum _ (λ j e. record { whole = whole; smallest = found_smallest _ _ _ (finds_sum p) j e }) λ e₂.
    let sums = nowhere_right _ _ _ (finds_sum p) e₂ in
    stage p (first (number_wrong p) (blocks p)) BlockNumber _
    (λ j e. record { whole = whole; sums = sums; smallest = found_smallest _ _ _ (finds_number p) j e }) λ e₃.
    let numbers = nowhere_right _ _ _ (finds_number p) e₃ in
    stage p (first (record_wrong p) (records p)) RecordFault _
    (λ r e. record { whole = whole; sums = sums; numbers = numbers; smallest = found_smallest _ _ _ (finds_record p) r e }) λ e₄.
    let formed : Formed p = record { length_right = e₁; sums_right = e₂; numbers_right = e₃; records_right = e₄ } in
    let formatted = each_format p formed in
    stage p (first (shape_wrong p) (nodes p)) ShapeFault _
    (λ n e. record { formatted = formatted; smallest = found_smallest _ _ _ (finds_shape p) n e }) λ e₅.
    let s = each_shape p e₅ in
    let w = root_is p formed e₅ in
    stage p (scope_fault p) ScopeFault _
    (λ n e. record { formatted = formatted; shaped = s; smallest = found_smallest _ _ _ (finds_scope p w s) n e }) λ e₆.
    let scoped : InScope p = record { each = nowhere_right _ _ _ (finds_scope p w s) e₆ } in
    stage p (type_fault p) TypeFault _
    (λ n e. record { formatted = formatted; shaped = s; scoped = scoped; smallest = found_smallest _ _ _ (finds_types p w s) n e }) λ e₇.
    let typed : TypesRight p = record { each = nowhere_right _ _ _ (finds_types p w s) e₇ } in
    stage_last p (ready_fault p) NotReady
    (λ n e. record {
      formatted = formatted;
      shaped = s;
      scoped = scoped;
      typed = typed;
      smallest = found_smallest _ _ _ (finds_ready p w s) n e;
    }) λ e₈.
    record {
      told = meets_table p (fine_verdict p (record {
        formed = formed;
        shape_right = e₅;
        scope_right = e₆;
        types_right = e₇;
        ready_right = e₈;
      }));
    }

-- A length that is not whole blocks is wrong.
length_wrong_lem : (p : Bytes) → (SaysOf p ProgramLength) → length_wrong p ≡ true
length_wrong_lem p h = go (length_wrong p) refl
  where
    go : (b : Bool) → length_wrong p ≡ b → b ≡ true
    go true e = refl
    go false e = absurd (h (whole_blocks p e))

-- And what a verdict says is so of no other program: it is the program's verdict.
told_verdict : (p : Bytes) (v : Verdict) → Says p v → program_verdict p ≡ v
unfolding program_verdict ◌otherwise◌ refuse_if refuse_at
told_verdict p (Ok _) m = table_accepts p m
told_verdict p (Err ProgramLength) h = rw (length_wrong_lem p h)
told_verdict p (Err (CheckSum j)) f = rw (blocks_whole p f.whole, smallest_found _ _ _ (finds_sum p) j f.smallest)
told_verdict p (Err (BlockNumber j)) f =
    rw (
      blocks_whole p f.whole,
      right_nowhere _ _ _ (finds_sum p) f.sums,
      smallest_found _ _ _ (finds_number p) j f.smallest,
    )
told_verdict p (Err (RecordFault r)) f =
    rw (
      blocks_whole p f.whole,
      right_nowhere _ _ _ (finds_sum p) f.sums,
      right_nowhere _ _ _ (finds_number p) f.numbers,
      smallest_found _ _ _ (finds_record p) r f.smallest,
    )
told_verdict p (Err (ShapeFault n)) f =
    let g = format_each p f.formatted in
    rw (g.length_right, g.sums_right, g.numbers_right, g.records_right, smallest_found _ _ _ (finds_shape p) n f.smallest)
told_verdict p (Err (ScopeFault n)) f =
    let g = format_each p f.formatted in
    let s = f.shaped in
    let w = root_is p g (shape_each p s) in
    rw (
      g.length_right,
      g.sums_right,
      g.numbers_right,
      g.records_right,
      shape_each p s,
      smallest_found _ _ _ (finds_scope p w s) n f.smallest,
    )
told_verdict p (Err (TypeFault n)) f =
    let g = format_each p f.formatted in
    let s = f.shaped in
    let w = root_is p g (shape_each p s) in
    rw (
      g.length_right,
      g.sums_right,
      g.numbers_right,
      g.records_right,
      shape_each p s,
      right_nowhere _ _ _ (finds_scope p w s) f.scoped.each,
      smallest_found _ _ _ (finds_types p w s) n f.smallest,
    )
told_verdict p (Err (NotReady n)) f =
    let g = format_each p f.formatted in
    let s = f.shaped in
    let w = root_is p g (shape_each p s) in
    rw (
      g.length_right,
      g.sums_right,
      g.numbers_right,
      g.records_right,
      shape_each p s,
      right_nowhere _ _ _ (finds_scope p w s) f.scoped.each,
      right_nowhere _ _ _ (finds_types p w s) f.typed.each,
      smallest_found _ _ _ (finds_ready p w s) n f.smallest,
    )
told_verdict p (Err StateFault) f = absurd f
told_verdict p (Err RecordsLength) f = absurd f
told_verdict p (Err OutputLength) f = absurd f
told_verdict p (Err (InputFault k)) f = absurd f
told_verdict p (Err (TimeBack k)) f = absurd f
told_verdict p (Err OtherProgram) f = absurd f

-- Check's refusal says what is so.
refusal_says : (p : Bytes) (r : Refusal) → check_call p ≡ Err r → SaysOf p r
unfolding check_call check_answer
refusal_says p r e = go (program_verdict p) (verdict_told p).told e
  where
    go : (v : Verdict) → Says p v → check_answer p v ≡ Err r → SaysOf p r
    go (Ok _) m f = absurd (let z : ◌≡◌ {A = ℕ} 0 1 = cc in omega arith)
    go (Err q) m f = let z : q ≡ r = cc in subst (SaysOf p) z m

-- And the other way.
says_refusal : (p : Bytes) (r : Refusal) → SaysOf p r → check_call p ≡ Err r
unfolding check_call check_answer
says_refusal p r s = ap (check_answer p) (told_verdict p (Err r) s)

-- A scope fault is at a variable or a case.
scope_place : (p : Bytes) (n : ℕ) → SaysOf p (ScopeFault n) → (kind_at p n ≡ 16) ⊎ (kind_at p n ≡ 10)
scope_place p n f =
    choose (kind_at p n) 16 (λ e. inl e) λ d.
    choose (kind_at p n) 10 (λ e. inr e) λ d'.
    absurd (f.smallest.at_fault (record { variable = λ e. absurd (d e); case = λ e. absurd (d' e) }))

-- A fault of readiness is at a let whose definition needs its variable at once.
let_place : (p : Bytes) (n : ℕ) → SaysOf p (NotReady n) → (kind_at p n ≡ 5) × NeedsAt p n (a_at p n)
unfolding is_signal ◌and◌
let_place p n f =
    choose (kind_at p n) 5 (λ e. (e, needs e (needs_s n (signal_at p (a_at p n))) refl)) λ d.
    absurd (f.smallest.at_fault (record { ready = λ e. absurd (d e) }))
  where
    root₀ : NodeOf is_signal p (nodes p - 1)
    root₀ = root_is p (format_each p f.formatted) (shape_each p f.shaped)

    here : kind_at p n ≡ 5 → NodeOf is_signal p n
    here e = record { shaped = root₀.shaped; inside = f.smallest.inside; sorted = ap is_signal e }

    needs : (e : kind_at p n ≡ 5) (b : Bool) → needs_s n (signal_at p (a_at p n)) ≡ b → NeedsAt p n (a_at p n)
    needs e true h = signal_needs p (table p root₀ f.shaped) n (a_at p n) (let_kids p n (here e) e).0.node h
    needs e false h =
        absurd (f.smallest.at_fault (record {
          ready = λ k q. not_both (sym h ∙ needs_signal p n (a_at p n) (let_kids p n (here e) e).0.node q);
        }))

-- What check refuses, start refuses,
start_refuses : (p st : Bytes) (r : Refusal) → program_verdict p ≡ Err r → start_call p st ≡ record { answer = Err r; state = st }
unfolding start_call start_outcome ◌otherwise◌
start_refuses p st r e = rw e

-- and run.
run_refuses : (p st recs out : Bytes) (r : Refusal) → program_verdict p ≡ Err r
    → run_call p st recs out ≡ record { answer = refused_after r 0 no_step; state = st; output = out }
unfolding run_call run_outcome lent_verdict ◌otherwise◌
run_refuses p st recs out r e = rw e

-- Lowest code first, then smallest place.
pub smallest_places : (p : Bytes) → SmallestPlaces p
smallest_places p = record {
  refused = λ r. record { only_if = refusal_says p r; if₀ = says_refusal p r };
  variable_or_case = λ n e. scope_place p n (refusal_says p (ScopeFault n) e);
  a_let = λ n e. let_place p n (refusal_says p (NotReady n) e);
  start = λ r e st. start_refuses p st r (told_verdict p (Err r) (refusal_says p r e));
  run = λ r e st recs out. run_refuses p st recs out r (told_verdict p (Err r) (refusal_says p r e));
}
