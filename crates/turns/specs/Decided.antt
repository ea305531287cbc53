-- What watchrun decides by numbers alone: document 01, 'What watchrun prints'.
-- Assumes nothing: these are definitions.
use Rattle.std.specs.Prelude.{Bool, ℕ, ◌-◌, ◌*◌, eqb, leb, ltb, if◌then◌else◌}
use Rattle.rules.specs.Bytes.{Bytes, ◌and◌}
use Rattle.rules.specs.Layout.{edition, count_in, input_length}
use Rattle.rules.specs.Answers.{code_of}
use Rattle.rules.specs.declared.Refusal.{Refusal}
use Rattle.rules.specs.declared.Refusal.TheVariants.{InputFault, TimeBack}

-- Standard input: the blocks (as many as block 0 says, if 1 to 24, else just one), .. The count is byte 2; with a byte 3 above 1, which is no
-- edition, bytes 2-3 say more than 24.
unfoldable pub blocks_taken : Bytes → ℕ
blocks_taken input =
    if leb (edition input) 1 and (leb 1 (count_in input 0) and leb (count_in input 0) 24) then count_in input 0 else 1

-- How many bytes are still to be read of the blocks, when so many bytes were got of block 0: none after a part of it.
unfoldable pub blocks_left : Bytes → ℕ → ℕ
blocks_left head got = if ltb got 512 then 0 else 512 * (blocks_taken head - 1)

-- A run has at most 4,096 records.
abbrev pub most_records : ℕ
most_records = 4096

-- How many bytes are read after so many steps: a record; behind 4,096 one byte tells whether there is more.
unfoldable pub wanted : ℕ → ℕ
wanted steps = if ltb steps most_records then input_length else 1

-- So many bytes after so many steps are a record to take: it is whole, and no 4,097th.
unfoldable pub is_record : ℕ → ℕ → Bool
is_record got steps = ltb steps most_records and leb input_length got

-- A refusal of a run of one record has the steps printed before it for its place, where its code is 12 or 13.
unfoldable pub placed_at : ℕ → Refusal → Refusal
placed_at steps r = if eqb (code_of r) 12 then InputFault steps else if eqb (code_of r) 13 then TimeBack steps else r
