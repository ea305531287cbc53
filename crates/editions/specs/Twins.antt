-- One table in both editions, and calls that cannot tell them apart.
-- Assumes nothing: these are definitions.
use Rattle.std.specs.Prelude.{◌≡◌, false, ℕ, suc, ◌*◌, ◌<◌, ◌++◌, length, replicate, Err}
use Rattle.rules.specs.Bytes.{Bytes}
use Rattle.rules.specs.Layout.{blocks, records, cells, start_header, edition, kind_at, type_at, a_at, b_at, c_at, word_at}
use Rattle.rules.specs.Format.{sum_wrong, number_wrong}
use Rattle.rules.specs.Tree.{root}
use Rattle.rules.specs.Reset.{reset_s, start_state}
use Rattle.rules.specs.WellFormed.{long_as_cells, rest_well}
use Rattle.rules.specs.Update.{step_of}
use Rattle.rules.specs.Calls.{program_verdict, check_call, start_call, run_from}
use Rattle.rules.specs.declared.Refusal.TheVariants.{CheckSum, ScopeFault}

-- Record r is the same in both: kind, type, a, b, c and word.
pub record SameRecord (p q : Bytes) (r : ℕ) : Type 0 where
  pub kinds : kind_at p r ≡ kind_at q r
  pub types : type_at p r ≡ type_at q r
  pub firsts : a_at p r ≡ a_at q r
  pub seconds : b_at p r ≡ b_at q r
  pub thirds : c_at p r ≡ c_at q r
  pub words : word_at p r ≡ word_at q r

-- A file of an edition (0 for edition one, 1 for edition two) whose blocks have right checks, numbers and counts: codes 2 and 3 pass.
pub record InEdition (e : ℕ) (p : Bytes) : Type 0 where
  pub of_edition : edition p ≡ e
  pub sums : (j : ℕ) → j < blocks p → sum_wrong p j ≡ false
  pub numbers : (j : ℕ) → j < blocks p → number_wrong p j ≡ false

-- One table in edition one and in edition two: as many blocks, and the same records. (So only byte 3 of the blocks, and with it their checks, differ.)
pub record Twins (p q : Bytes) : Type 0 where
  pub as_long : length p ≡ length q
  pub table : (r : ℕ) → r < records p → SameRecord p q r
  pub one : InEdition 0 p
  pub two : InEdition 1 q

-- No case or variable is out of scope: the check does not refuse by code 6.
abbrev pub NotOutOfScope : Bytes → Type 0
NotOutOfScope p = (n : ℕ) → program_verdict p ≡ Err (ScopeFault n) → ⊥

-- Both answer alike: check (nodes, cells, bound and type, or the refusal with its place) and start; one start state but for the sum in its header,
-- and of any state the same tests of length, time and cells. From any state, with whatever sum it carries, a step gives the same output, next
-- state and work, and so does a run of records, with every refusal and its place. (By the sum a state of one edition is refused under the other.)
pub record SameCalls (p q : Bytes) : Type 0 where
  pub checks : check_call q ≡ check_call p
  pub starts : (st : Bytes) → (start_call q st).answer ≡ (start_call p st).answer
  pub start_states : start_state p ≡ reset_s (root q) (start_header p ++ replicate (8 * cells q) 0)
  pub states : (st : Bytes) → (long_as_cells q st ≡ long_as_cells p st) × (rest_well q st ≡ rest_well p st)
  pub steps : (rec st : Bytes) → step_of q rec st ≡ step_of p rec st
  pub runs : (recs : Bytes) (left done work mark : ℕ) (st out : Bytes) → run_from q recs left done work mark st out ≡ run_from p recs left done work mark st out
