-- The twelve numbers of the room that a caller lends for an answer: code, place, steps, work, nodes, cells, bound, type, wrapped, length,
-- entries, node. Each call's are laid out from the paper's numbers of its answer (crates rules, chains, mends, rewritten, dropped, beside, texts),
-- and those that an answer does not give are 0. Assumes nothing: these are definitions.
use Rattle.rules.specs.Verdicts.{CheckAnswer, StartAnswer, RunAnswer}
use Rattle.std.specs.Prelude.{ℕ, List, [], ◌∷◌, eqb, get_or, if◌then◌else◌, Result}
use Rattle.rules.specs.Bytes.{◌or◌}
use Rattle.rules.specs.Answers.{checked_numbers, started_numbers, ran_numbers}
use Rattle.chains.specs.Explain.{explained_numbers}
use Rattle.chains.specs.declared.Chain.{Chain}
use Rattle.chains.specs.declared.NoChain.{NoChain}
use Rattle.mends.specs.MendCall.{mended_numbers}
use Rattle.mends.specs.declared.Unmended.{Unmended}
use Rattle.rewritten.specs.TidyCall.{tidied_numbers}
use Rattle.written.specs.declared.TableSize.{TableSize}
use Rattle.rewritten.specs.declared.Untidied.{Untidied}
use Rattle.dropped.specs.PairedCall.{paired_numbers}
use Rattle.dropped.specs.declared.Unpaired.{Unpaired}
use Rattle.beside.specs.Numbers.{watched_numbers}
use Rattle.watched.specs.declared.ListFault.{ListFault}
use Rattle.texts.specs.Answers.{read_numbers, printed_numbers}
use Rattle.texts.specs.declared.NoTable.{NoTable}
use Rattle.texts.specs.declared.NoText.{NoText}

-- Number k of an answer's numbers. Number 0 is the code, 0 where the call went through.
abbrev pub number : List ℕ → ℕ → ℕ
number ns k = get_or ns k 0

abbrev pub code : List ℕ → ℕ
code ns = number ns 0

-- The header's order.
abbrev pub twelve : ℕ → ℕ → ℕ → ℕ → ℕ → ℕ → ℕ → ℕ → ℕ → ℕ → ℕ → ℕ → List ℕ
twelve code place steps work nodes cells bound type wrapped long entries node =
    code ∷ place ∷ steps ∷ work ∷ nodes ∷ cells ∷ bound ∷ type ∷ wrapped ∷ long ∷ entries ∷ node ∷ []

-- Whole steps done before a refusal: a run refuses a record, whose place is their number, with codes 12 and 13; before it none is done, and the
-- other calls make none.
abbrev pub steps_done : ℕ → ℕ → ℕ
steps_done code place = if eqb code 12 or eqb code 13 then place else 0

-- A refusal: its code, place and work, the steps done, and of a run the first of them in which a number wrapped.
abbrev pub refused_room : List ℕ → List ℕ
refused_room ns = twelve (code ns) (number ns 1) (steps_done (code ns) (number ns 1)) (number ns 2) 0 0 0 0 (number ns 3) 0 0 0

-- An answer's numbers, laid out in one way where the call went through and as a refusal's where not.
abbrev pub laid_out : (List ℕ → List ℕ) → List ℕ → List ℕ
laid_out done ns = if eqb (code ns) 0 then done ns else refused_room ns

-- What the numbers of a call that went through are: a check's nodes, cells, bound and type; a start has none; a run's, watched or not, steps, work
-- and first wrapped step; the let that explain names and how many entries its chain has; how many entries mend lists; the new table's nodes and
-- length, of tidy and of read; a pairing that is accepted has none; the length of a printed text.
abbrev pub checked_done : List ℕ → List ℕ
checked_done ns = twelve 0 0 0 0 (number ns 1) (number ns 2) (number ns 3) (number ns 4) 0 0 0 0

abbrev pub started_done : List ℕ → List ℕ
started_done ns = twelve 0 0 0 0 0 0 0 0 0 0 0 0

abbrev pub ran_done : List ℕ → List ℕ
ran_done ns = twelve 0 0 (number ns 1) (number ns 2) 0 0 0 0 (number ns 3) 0 0 0

abbrev pub explained_done : List ℕ → List ℕ
explained_done ns = twelve 0 0 0 0 0 0 0 0 0 0 (number ns 2) (number ns 1)

abbrev pub mended_done : List ℕ → List ℕ
mended_done ns = twelve 0 0 0 0 0 0 0 0 0 0 (number ns 1) 0

abbrev pub tidied_done : List ℕ → List ℕ
tidied_done ns = twelve 0 0 0 0 (number ns 1) 0 0 0 0 (number ns 2) 0 0

abbrev pub paired_done : List ℕ → List ℕ
paired_done ns = twelve 0 0 0 0 0 0 0 0 0 0 0 0

abbrev pub read_done : List ℕ → List ℕ
read_done ns = twelve 0 0 0 0 (number ns 1) 0 0 0 0 (number ns 2) 0 0

abbrev pub printed_done : List ℕ → List ℕ
printed_done ns = twelve 0 0 0 0 0 0 0 0 0 (number ns 1) 0 0

-- The room after each call.
abbrev pub checked_room : CheckAnswer → List ℕ
checked_room a = laid_out checked_done (checked_numbers a)

abbrev pub started_room : StartAnswer → List ℕ
started_room a = laid_out started_done (started_numbers a)

abbrev pub ran_room : RunAnswer → List ℕ
ran_room a = laid_out ran_done (ran_numbers a)

abbrev pub explained_room : Result Chain NoChain → List ℕ
explained_room a = laid_out explained_done (explained_numbers a)

abbrev pub mended_room : Result ℕ Unmended → List ℕ
mended_room a = laid_out mended_done (mended_numbers a)

abbrev pub tidied_room : Result TableSize Untidied → List ℕ
tidied_room a = laid_out tidied_done (tidied_numbers a)

abbrev pub paired_room : Result (Unit {0}) Unpaired → List ℕ
paired_room a = laid_out paired_done (paired_numbers a)

abbrev pub watched_room : Result RunAnswer ListFault → List ℕ
watched_room a = laid_out ran_done (watched_numbers a)

abbrev pub read_room : Result TableSize NoTable → List ℕ
read_room a = laid_out read_done (read_numbers a)

abbrev pub printed_room : Result ℕ NoText → List ℕ
printed_room a = laid_out printed_done (printed_numbers a)

-- The code that a call answers besides.
abbrev pub checked_code : CheckAnswer → ℕ
checked_code a = code (checked_numbers a)

abbrev pub started_code : StartAnswer → ℕ
started_code a = code (started_numbers a)

abbrev pub ran_code : RunAnswer → ℕ
ran_code a = code (ran_numbers a)

abbrev pub explained_code : Result Chain NoChain → ℕ
explained_code a = code (explained_numbers a)

abbrev pub mended_code : Result ℕ Unmended → ℕ
mended_code a = code (mended_numbers a)

abbrev pub tidied_code : Result TableSize Untidied → ℕ
tidied_code a = code (tidied_numbers a)

abbrev pub paired_code : Result (Unit {0}) Unpaired → ℕ
paired_code a = code (paired_numbers a)

abbrev pub watched_code : Result RunAnswer ListFault → ℕ
watched_code a = code (watched_numbers a)

abbrev pub read_code : Result TableSize NoTable → ℕ
read_code a = code (read_numbers a)

abbrev pub printed_code : Result ℕ NoText → ℕ
printed_code a = code (printed_numbers a)
