-- Demand 3, h) and j) joined to the contracts of the calls.
-- Assumes nothing.
use Rattle.rules.specs.Verdicts.{CheckAnswer, RunAnswer}
use mathlib.Core.Path.{◌≡◌, refl, sym, ap, ◌∙◌}
use mathlib.Core.List.{◌++◌}
use Prim.Native.Nat.{ℕ}
use lib.ListN.{length}
use Rattle.rules.specs.Bytes.{Bytes}
use Rattle.rules.specs.Calls.{check_call, RunOutcome, run_call}
use Rattle.promises.specs.Small.{Small}
use Rattle.unplugged.specs.Alike.{AllAlike, SameRuns}
use Rattle.unplugged.proofs.Unplugged.{unplugged}
use Rattle.cut.specs.Parts.{CutAt, SameParts}
use Rattle.cut.proofs.Cut.{cut}
use Rattle.mission.proofs.Demands.{run_demands}
use Rattle.demands.specs.Third.{ThirdDemand}
use Rattle.demands.specs.Unplugged.{UnpluggedDemand}
use Rattle.demands.specs.Parts.{left, PartsDemand}

-- What a run answered and left is the definition's.
pub record Ran₁ (p st recs out : Bytes) (answer : RunAnswer) (st₁ out₁ : Bytes) : Type 0 where
  pub answer_is : answer ≡ (run_call p st recs out).answer
  pub state_is : st₁ ≡ (run_call p st recs out).state
  pub output_is : out₁ ≡ (run_call p st recs out).output

is_call : {p st recs out : Bytes} {answer : RunAnswer} {st₁ out₁ : Bytes} → Ran₁ p st recs out answer st₁ out₁ → left answer st₁ out₁ ≡ run_call p st recs out
is_call r = λ i. record { answer = r.answer_is i; state = r.state_is i; output = r.output_is i }

pub third_demand : (p st recs out : Bytes) {checked : CheckAnswer} {answer : RunAnswer} {st₁ out₁ : Bytes} → Small p → Small st → Small recs
    → checked ≡ check_call p → Ran₁ p st recs out answer st₁ out₁ → ThirdDemand p st recs out checked answer st₁ out₁
third_demand p st recs out hp hs hr e r =
    let d = run_demands p st recs out hp hs hr r.answer_is r.state_is r.output_is in
    record {
      answers = λ count cells most type a. d.answers count cells most type (sym e ∙ a);
      finishes = λ count cells most type n a. d.finishes count cells most type n (sym e ∙ a);
    }

pub both_alike : (p st recs out st' recs' out' : Bytes) {answer : RunAnswer} {st₁ out₁ : Bytes} {answer' : RunAnswer} {st₁' out₁' : Bytes}
    → Ran₁ p st recs out answer st₁ out₁ → Ran₁ p st' recs' out' answer' st₁' out₁'
    → UnpluggedDemand p st recs out st' recs' out' answer st₁ out₁ answer' st₁' out₁'
both_alike p st recs out st' recs' out' a b e l all =
    rw (is_call a, is_call b ∙ ap (λ (s : Bytes). run_call p s recs' out') (sym e)) (unplugged p st recs recs' out out' l all)

-- The first part's outcome is looked at for its output only.
any_between : {out₁ out₂ out : Bytes} {steps work mark : ℕ} {answer : RunAnswer} {o : Bytes} {b c : RunOutcome} (st between : Bytes)
    → SameParts out₁ out₂ out steps work mark (left answer st o) b c → SameParts out₁ out₂ out steps work mark (left answer between o) b c
any_between st between s = record {
  state = s.state;
  answer = s.answer;
  written = s.written;
  counted = s.counted;
  into₂ = s.into₂;
  into = s.into;
  finished = s.finished;
  one_room = s.one_room;
}

pub parts_same : (p st copy recs₁ recs₂ recs out₁ out₂ out : Bytes) {first second whole : RunAnswer} {mid st' copy' out₁' out₂' out' : Bytes}
    → Small p → Small st → Small recs₁ → Small recs₂
    → Ran₁ p st recs₁ out₁ first mid out₁' → Ran₁ p mid recs₂ out₂ second st' out₂' → Ran₁ p copy recs out whole copy' out'
    → PartsDemand st copy recs₁ recs₂ recs out₁ out₂ out first second whole st' copy' out₁' out₂' out'
parts_same p st copy recs₁ recs₂ recs out₁ out₂ out {mid = mid} hp hs h₁ h₂ a b c e f steps work mark at between =
    let at₁ : CutAt recs₁ recs₂ out₁ out₂ out (run_call p st recs₁ out₁).answer steps work mark = rw a.answer_is at at in
    any_between mid between
    (rw (
      is_call a,
      is_call b ∙ ap (λ (s : Bytes). run_call p s recs₂ out₂) a.state_is,
      is_call c ∙ (λ i. run_call p (e i) (f i) out),
    )
    (cut p st recs₁ recs₂ out₁ out₂ out steps work mark hp hs h₁ h₂ at₁))
