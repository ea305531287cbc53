-- l) joined to the contracts of the calls.
-- Assumes nothing.
use Rattle.std.specs.Prelude.{Result, Ok}
use Rattle.rules.specs.Verdicts.{RunAnswer}
use mathlib.Core.Path.{◌≡◌, refl, sym, ap, ◌∙◌}
use Rattle.rules.specs.Bytes.{Bytes}
use Rattle.rules.specs.Calls.{RunOutcome, run_call}
use Rattle.watched.specs.declared.ListFault.{ListFault}
use Rattle.watched.specs.Watch.{List16, WatchOutcome, watch_call}
use Rattle.beside.proofs.AsPlain.{as_plain}
use Rattle.beside.proofs.Loose.{loose}
use Rattle.beside.proofs.OneWatch.{as_said}
use Rattle.beheld.specs.Beheld.{SaysDemand, PlainDemand, LooseDemand}

-- What a watched run answered and left is the definition's.
pub record Seen₁ (p st recs : Bytes) (l : List16) (out room : Bytes) (answer : Result RunAnswer ListFault) (st₁ out₁ room₁ : Bytes) : Type 0 where
  pub answer_is : answer ≡ (watch_call p st recs l out room).answer
  pub state_is : st₁ ≡ (watch_call p st recs l out room).state
  pub output_is : out₁ ≡ (watch_call p st recs l out room).output
  pub room_is : room₁ ≡ (watch_call p st recs l out room).room

is_call : {p st recs : Bytes} {l : List16} {out room : Bytes} {answer : Result RunAnswer ListFault} {st₁ out₁ room₁ : Bytes} → Seen₁ p st recs l out room answer st₁ out₁ room₁
    → record { answer = answer; state = st₁; output = out₁; room = room₁ } ≡ watch_call p st recs l out room
is_call r = λ i. record { answer = r.answer_is i; state = r.state_is i; output = r.output_is i; room = r.room_is i }

pub says_demand : (p st recs : Bytes) (l : List16) (out room : Bytes) {watched : Result RunAnswer ListFault} {st₁ out₁ room₁ : Bytes}
    → Seen₁ p st recs l out room watched st₁ out₁ room₁ → SaysDemand p st recs l out room watched st₁ out₁ room₁
says_demand p st recs l out room w = rw (is_call w) (as_said p st recs l out room)

pub plain_demand : (p recs : Bytes) (l : List16) (room st out st' out' : Bytes) {watched : Result RunAnswer ListFault} {st₁ out₁ room₁ : Bytes} {ran : RunAnswer} {st₁' out₁' : Bytes}
    → Seen₁ p st recs l out room watched st₁ out₁ room₁ → ran ≡ (run_call p st' recs out').answer → st₁' ≡ (run_call p st' recs out').state
    → out₁' ≡ (run_call p st' recs out').output → PlainDemand p recs l room st out st' out' watched st₁ out₁ ran st₁' out₁'
plain_demand p recs l room st out st' out' w a b c es eo f g h =
    let s = as_plain p st recs l out room f g h in
    let same : run_call p st recs out ≡ run_call p st' recs out' = λ i. run_call p (es i) recs (eo i) in
    record {
      answers = w.answer_is ∙ s.answers ∙ ap Ok (ap (λ (o : RunOutcome). o.answer) same ∙ sym a);
      states = w.state_is ∙ s.states ∙ ap (λ (o : RunOutcome). o.state) same ∙ sym b;
      outputs = w.output_is ∙ s.outputs ∙ ap (λ (o : RunOutcome). o.output) same ∙ sym c;
    }

pub loose_demand : (p : Bytes) (l : List16) (st recs out room st' recs' out' room' : Bytes) {one : Result RunAnswer ListFault} {st₁ out₁ room₁ : Bytes} {other : Result RunAnswer ListFault}
    {st₁' out₁' room₁' : Bytes} → Seen₁ p st recs l out room one st₁ out₁ room₁ → Seen₁ p st' recs' l out' room' other st₁' out₁' room₁'
    → LooseDemand p l st recs out room st' recs' out' room' one st₁ out₁ room₁ other st₁' out₁' room₁'
loose_demand p l st recs out room st' recs' out' room' a b es lo lw all =
    rw (is_call a, is_call b ∙ ap (λ (s : Bytes). watch_call p s recs' l out' room') (sym es)) (loose p st recs recs' l out out' room room' lo lw all)
