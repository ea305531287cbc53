-- How many lets a table has. Assumes nothing: these are definitions.
use Rattle.std.specs.Prelude.{ℕ, zero, suc, ◌+◌, eqb, ltb, length, if◌then◌else◌}
use Rattle.rules.specs.Bytes.{Bytes}
use Rattle.rules.specs.Layout.{records, kind_at}

-- Kind 5 is a let.
unfoldable pub one_let : ℕ → ℕ
one_let kind = if eqb kind 5 then 1 else 0

-- Of the first n records.
unfoldable pub lets_before : Bytes → ℕ → ℕ
lets_before p zero = 0
lets_before p (suc n) = lets_before p n + one_let (kind_at p n)

-- Of all records; what is longer than 24 blocks is no table.
unfoldable pub lets_of : Bytes → ℕ
lets_of p = if ltb 12288 (length p) then 0 else lets_before p (records p)
