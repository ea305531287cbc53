-- Steps by the published rules, one after the other.
-- Assumes nothing: these are definitions.
use Rattle.std.specs.Prelude.{◌≡◌, Bool, true, [], ◌++◌, ℕ, zero, suc, ◌+◌, ◌≤◌, eqb, length, if◌then◌else◌, Ok, Err}
use Rattle.rules.specs.Verdicts.{RunAnswer}
use Rattle.rules.specs.Bytes.{Bytes, ◌and◌}
use Rattle.rules.specs.Values.{type_of, value_bytes}
use Rattle.rules.specs.Layout.{input_at}
use Rattle.rules.specs.WellFormed.{well_formed}
use Rattle.rules.specs.Calls.{record_verdict, no_step}
use Rattle.rules.specs.declared.Value.{Value}
use Rattle.promises.specs.Valid.{Valid}
use Rattle.published.specs.Steps.{Steps, size_of}
use Rattle.published.specs.Marks.{left_of}

-- One step: a valid value of the declared type; a well-formed state as long as before; the derivation of both by the published rules, and no
-- other value, state, size or mark has one; the work is its size, the number of rules used, at most the bound; the mark is that some operation in
-- it left the 32-bit range.
pub record ByRules (p rec st : Bytes) (most type : ℕ) (value : Value) (st₁ : Bytes) (work : ℕ) (left : Bool) : Type 0 where
  pub valid : Valid value
  pub typed : type_of value ≡ type
  pub well : well_formed p st₁ ≡ true
  pub long : length st₁ ≡ length st
  pub derived : Steps p rec st value st₁ work
  pub counted : size_of derived ≡ work
  pub marked : left_of derived ≡ left
  pub only : (v : Value) (s : Bytes) (n : ℕ) (d : Steps p rec st v s n) → (v ≡ value) × (s ≡ st₁) × (n ≡ work) × (left_of d ≡ left)
  pub within : work ≤ most

-- "A run .. answers the number of the first such step, from 0, or 65535 if none": the one before, if there is one, else this step's, if a number
-- wrapped in it.
abbrev pub mark_after : ℕ → ℕ → Bool → ℕ
mark_after mark k left = if eqb mark no_step and left then k else mark

-- The first wrapped step that an answer names.
unfoldable pub mark_in : RunAnswer → ℕ
mark_in (Ok end) = end.wrapped
mark_in (Err stop) = stop.wrapped

-- So many steps from the record numbered k on, none of them refused: from a state, what they show, 8 bytes each, their work summed, the first
-- wrapped step before and after them, and the state after them.
pub data Through (p recs : Bytes) (most type : ℕ) : ℕ → ℕ → Bytes → Bytes → ℕ → ℕ → ℕ → Bytes → Type 0 where
  at_end : {k mark : ℕ} {st : Bytes} → Through p recs most type zero k st [] 0 mark mark st
  one_step : {n k : ℕ} {st st₁ st₂ shown : Bytes} {value : Value} {work total mark mark₁ : ℕ} {left : Bool} → record_verdict k st (input_at recs k) ≡ Ok tt
      → ByRules p (input_at recs k) st most type value st₁ work left
      → Through p recs most type n (suc k) st₁ shown total (mark_after mark k left) mark₁ st₂
      → Through p recs most type (suc n) k st (value_bytes value ++ shown) (work + total) mark mark₁ st₂
