-- Programs and records written by names, for the readings: nodes of each kind, blocks around them, records with events.
-- Assumes nothing: these are definitions.
use Rattle.std.specs.Prelude.{ℕ, zero, suc, ◌+◌, ◌-◌, ◌*◌, ◌/◌, List, [], ◌∷◌, ◌++◌, length, take, drop, replicate}
use Rattle.std.proofs.Math.Option.{Option, none, some}
use Rattle.rules.specs.Bytes.{Bytes, bytes_of}
use Rattle.rules.specs.Values.{bool_t, int_t}
use Rattle.rules.specs.Format.{check_of}

-- The word of a negative number.
abbrev pub minus : ℕ → ℕ
minus k = 4294967296 - k

-- A node: kind, type, a, b, c, word.
abbrev pub node : ℕ → ℕ → ℕ → ℕ → ℕ → ℕ → Bytes
node k t a b c w = k ∷ t ∷ bytes_of 2 a ++ bytes_of 2 b ++ bytes_of 2 c ++ bytes_of 4 w

-- A node of each kind that the readings use, by the paper's words; children, binders and targets are given by their node numbers.
abbrev pub input : ℕ → Bytes
input channel = node 1 0 channel 0 0 0

abbrev pub ext : ℕ → Bytes
ext e = node 3 0 e 0 0 0

-- A delay of a signal whose first value is an int.
abbrev pub delay : ℕ → ℕ → Bytes
delay s first = node 4 int_t s 1 0 first

-- A let, a switch and a branch whose variable is an int.
abbrev pub let_signal : ℕ → ℕ → Bytes
let_signal definition body = node 5 int_t definition body 0 0

abbrev pub switch : ℕ → ℕ → ℕ → Bytes
switch first event₀ second = node 6 int_t first event₀ second 0

abbrev pub let_continue : ℕ → ℕ → Bytes
let_continue body firstBranch = node 7 0 body firstBranch 0 0

abbrev pub until : ℕ → ℕ → Bytes
until s firstCase = node 8 0 s firstCase 0 0

abbrev pub branch : ℕ → ℕ → Bytes
branch body next = node 9 int_t body next 0 0

-- On an event, to a target branch.
abbrev pub case : ℕ → ℕ → ℕ → Bytes
case event₀ next target = node 10 0 event₀ next target 0

abbrev pub variable : ℕ → Bytes
variable binder = node 16 0 binder 0 0 0

abbrev pub constant : ℕ → Bytes
constant w = node 17 int_t 0 1 0 w

-- A constant bool: 1 is true.
abbrev pub truth : ℕ → Bytes
truth w = node 17 bool_t 0 1 0 w

-- An operation of two operands, by its kind; not, and if.
abbrev pub operation : ℕ → ℕ → ℕ → Bytes
operation kind x y = node kind 0 x y 0 0

abbrev pub add : ℕ → ℕ → Bytes
add x y = operation 18 x y

abbrev pub divide : ℕ → ℕ → Bytes
divide x y = operation 21 x y

abbrev pub negation : ℕ → Bytes
negation x = node 24 0 x 0 0 0

abbrev pub choice : ℕ → ℕ → ℕ → Bytes
choice test x y = node 27 0 test x y 0

abbrev pub just : ℕ → Bytes
just x = node 28 0 x 0 0 0

abbrev pub joined : List Bytes → Bytes
joined [] = []
joined (x ∷ xs) = x ++ joined xs

-- Blocks of 42 nodes each, with number, count, edition and check.
abbrev pub padded : ℕ → Bytes → Bytes
padded n s = s ++ replicate (n - length s) 0

abbrev pub checked : Bytes → Bytes
checked s = s ++ bytes_of 4 (check_of s)

abbrev pub blocks_from : ℕ → ℕ → ℕ → ℕ → Bytes → Bytes
blocks_from zero j count e s = []
blocks_from (suc left) j count e s =
    checked (bytes_of 2 j ++ count ∷ e ∷ padded 504 (take 504 s)) ++ blocks_from left (suc j) count e (drop 504 s)

abbrev pub program_in : ℕ → List Bytes → Bytes
program_in e rows = let count = (length rows + 41) / 42 in blocks_from count 0 count e (joined rows)

-- In edition one, and in edition two.
abbrev pub program : List Bytes → Bytes
program rows = program_in 0 rows

abbrev pub program_two : List Bytes → Bytes
program_two rows = program_in 1 rows

-- A record: time, channels 0-3, and channels 4-7, each absent or present.
abbrev pub words : List ℕ → Bytes
words [] = []
words (w ∷ ws) = bytes_of 4 w ++ words ws

abbrev pub flags : List (Option ℕ) → ℕ
flags [] = 0
flags (none ∷ es) = 2 * flags es
flags (some w ∷ es) = 1 + 2 * flags es

abbrev pub event_words : List (Option ℕ) → Bytes
event_words [] = []
event_words (none ∷ es) = bytes_of 4 0 ++ event_words es
event_words (some w ∷ es) = bytes_of 4 w ++ event_words es

abbrev pub reading : ℕ → List ℕ → List (Option ℕ) → Bytes
reading t channels events = bytes_of 4 t ++ words channels ++ flags events ∷ 0 ∷ 0 ∷ 0 ∷ event_words events

-- A record at a time whose channels 0-3 are zero, but for a word on channel 0 where one is measured: with no event, with one on channel 4, with one
-- on channel 5, with one each on channels 4 and 5.
abbrev pub quiet : ℕ → Bytes
quiet t = reading t (0 ∷ 0 ∷ 0 ∷ 0 ∷ []) (none ∷ none ∷ none ∷ none ∷ [])

abbrev pub measured : ℕ → ℕ → Bytes
measured t x = reading t (x ∷ 0 ∷ 0 ∷ 0 ∷ []) (none ∷ none ∷ none ∷ none ∷ [])

abbrev pub event : ℕ → ℕ → Bytes
event t x = reading t (0 ∷ 0 ∷ 0 ∷ 0 ∷ []) (some x ∷ none ∷ none ∷ none ∷ [])

abbrev pub event_five : ℕ → ℕ → Bytes
event_five t x = reading t (0 ∷ 0 ∷ 0 ∷ 0 ∷ []) (none ∷ some x ∷ none ∷ none ∷ [])

abbrev pub two_events : ℕ → ℕ → ℕ → Bytes
two_events t x y = reading t (0 ∷ 0 ∷ 0 ∷ 0 ∷ []) (some x ∷ some y ∷ none ∷ none ∷ [])

-- A record with no event whose channels 4-7 have these words all the same.
abbrev pub stray : List ℕ → Bytes
stray absent = bytes_of 4 0 ++ words (0 ∷ 0 ∷ 0 ∷ 0 ∷ []) ++ 0 ∷ 0 ∷ 0 ∷ 0 ∷ words absent
