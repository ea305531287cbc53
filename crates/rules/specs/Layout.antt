-- Where things stand: blocks and nodes in a program, cells in a state, channels in a record.
-- Assumes nothing: these are definitions.
use Rattle.std.specs.Prelude.{ℕ, zero, suc, ◌+◌, ◌-◌, ◌*◌, ◌/◌, ◌%◌, ◌^◌, ◌++◌, Bool, length, take, drop, eqb, ltb, if◌then◌else◌, Option, Some, None}
use Rattle.rules.specs.Bytes.{Bytes, byte_at, u16_at, u32_at, u64_at, bytes_of, write_at, first, how_many, ◌or◌}
use Rattle.rules.specs.Values.{int_t, maybe_of, packed, unpacked, middle_in}
use Rattle.rules.specs.declared.Value.{Value}
use Rattle.rules.specs.declared.Value.TheVariants.{Plain, Absent, Present}

-- A program file is blocks of 512 bytes.
unfoldable pub blocks : Bytes → ℕ
blocks p = length p / 512

unfoldable pub block_at : ℕ → ℕ
block_at j = 512 * j

-- Bytes 0-1: block number. Byte 2: count of blocks. Byte 3: the edition, 0 for edition one and 1 for edition two. Bytes 508-511: the check.
-- (Edition one names bytes 2-3 as the count, which is at most 24: byte 3 is zero.)
unfoldable pub number_in : Bytes → ℕ → ℕ
number_in p j = u16_at p (block_at j)

unfoldable pub count_in : Bytes → ℕ → ℕ
count_in p j = byte_at p (block_at j + 2)

unfoldable pub edition_in : Bytes → ℕ → ℕ
edition_in p j = byte_at p (block_at j + 3)

-- A program's edition is its first block's.
unfoldable pub edition : Bytes → ℕ
edition p = edition_in p 0

unfoldable pub check_in : Bytes → ℕ → ℕ
check_in p j = u32_at p (block_at j + 508)

-- The sum of the checks of so many blocks, and of all blocks of a program. (In an accepted one a check is at most 32,967,930, and the sum at most
-- 791,230,320.)
unfoldable pub checks_below : Bytes → ℕ → ℕ
checks_below p zero = 0
checks_below p (suc j) = checks_below p j + check_in p j

unfoldable pub checks_of : Bytes → ℕ
checks_of p = checks_below p (blocks p)

-- Bytes 4-507 of a block: 42 records of 12 bytes, counted across blocks.
unfoldable pub records : Bytes → ℕ
records p = 42 * blocks p

unfoldable pub record_at : ℕ → ℕ
record_at r = block_at (r / 42) + 4 + 12 * (r % 42)

-- A record: kind (1 byte), type (1), a, b, c (2 each), word (4).
unfoldable pub kind_at : Bytes → ℕ → ℕ
kind_at p r = byte_at p (record_at r)

unfoldable pub type_at : Bytes → ℕ → ℕ
type_at p r = byte_at p (record_at r + 1)

unfoldable pub a_at : Bytes → ℕ → ℕ
a_at p r = u16_at p (record_at r + 2)

unfoldable pub b_at : Bytes → ℕ → ℕ
b_at p r = u16_at p (record_at r + 4)

unfoldable pub c_at : Bytes → ℕ → ℕ
c_at p r = u16_at p (record_at r + 6)

unfoldable pub word_at : Bytes → ℕ → ℕ
word_at p r = u32_at p (record_at r + 8)

-- A next field of 65535 means no next.
abbrev pub no_next : ℕ
no_next = 65535

-- A count of nodes: up to the first record of kind 0.
unfoldable pub place_or : Option ℕ → ℕ → ℕ
place_or (Some k) n = k
place_or None n = n

unfoldable pub nodes : Bytes → ℕ
nodes p = place_or (first (λ r. eqb (kind_at p r) 0) (records p)) (records p)

-- N is at most 1,008: 24 blocks of 42.
abbrev pub most_nodes : ℕ
most_nodes = 1008

-- A cell for each node of kind 4, 6 and 7, in node order: the cells of the nodes before n.
unfoldable pub has_cell : ℕ → Bool
has_cell k = eqb k 4 or eqb k 6 or eqb k 7

unfoldable pub cells_before : Bytes → ℕ → ℕ
cells_before p n = how_many (λ m. has_cell (kind_at p m)) n

unfoldable pub cells : Bytes → ℕ
cells p = cells_before p (nodes p)

-- A state is the last time (4 bytes, all ones if none), the sum of its program's checks (4 bytes), and then the cells, 8 bytes each.
abbrev pub no_time : ℕ
no_time = 4294967295

abbrev pub header_length : ℕ
header_length = 8

unfoldable pub start_header : Bytes → Bytes
start_header p = bytes_of 4 no_time ++ bytes_of 4 (checks_of p)

unfoldable pub cell_at : ℕ → ℕ
cell_at k = header_length + 8 * k

unfoldable pub state_length : Bytes → ℕ
state_length p = cell_at (cells p)

unfoldable pub last_time : Bytes → ℕ
last_time st = u32_at st 0

-- The sum that a state carries.
unfoldable pub sum_in : Bytes → ℕ
sum_in st = u32_at st 4

unfoldable pub set_time : Bytes → ℕ → Bytes
set_time st t = write_at st 0 (bytes_of 4 t)

-- A cell's content as one number; what it holds; and storing a value.
unfoldable pub cell : Bytes → ℕ → ℕ
cell st k = u64_at st (cell_at k)

unfoldable pub set_cell : Bytes → ℕ → ℕ → Bytes
set_cell st k m = write_at st (cell_at k) (bytes_of 8 m)

unfoldable pub held : Bytes → ℕ → Value
held st k = unpacked (cell st k)

unfoldable pub hold : Bytes → ℕ → Value → Bytes
hold st k v = set_cell st k (packed v)

-- Zeros: a switch that has not switched, a group in its body.
unfoldable pub is_clear : Bytes → ℕ → Bool
is_clear st k = eqb (cell st k) 0

unfoldable pub clear : Bytes → ℕ → Bytes
clear st k = set_cell st k 0

-- A group in a branch holds the argument, with the branch's node number in bytes 2-3.
unfoldable pub branch_in : Bytes → ℕ → ℕ
branch_in st k = middle_in (cell st k)

unfoldable pub hold_branch : Bytes → ℕ → ℕ → Value → Bytes
hold_branch st k branch v = set_cell st k (packed v + 65536 * branch)

-- A record is 40 bytes: time (4), channels 0-3 (4 each), present flags (byte 20), three zero bytes, channels 4-7 (4 each).
abbrev pub input_length : ℕ
input_length = 40

unfoldable pub input_at : Bytes → ℕ → Bytes
input_at recs k = take input_length (drop (input_length * k) recs)

unfoldable pub time_in : Bytes → ℕ
time_in rec = u32_at rec 0

-- The word of a channel 0-3; of channels 4-7, counted from 0, the flag (a bit of byte 20) and the word.
unfoldable pub word_on : Bytes → ℕ → ℕ
word_on rec c = u32_at rec (4 + 4 * c)

unfoldable pub flag_on : Bytes → ℕ → ℕ
flag_on rec c = byte_at rec 20 / 2 ^ c % 2

unfoldable pub event_on : Bytes → ℕ → ℕ
event_on rec c = u32_at rec (24 + 4 * c)

-- Channels 0-3 give int, 4-7 maybe int.
unfoldable pub channel_type : ℕ → ℕ
channel_type c = if ltb c 4 then int_t else maybe_of int_t

unfoldable pub channel_value : Bytes → ℕ → Value
channel_value rec c =
    if ltb c 4 then Plain int_t (word_on rec c)
    else if eqb (flag_on rec (c - 4)) 1 then Present (maybe_of int_t) (event_on rec (c - 4))
    else Absent (maybe_of int_t)
