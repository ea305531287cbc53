-- States of a small program with faults in them: what they are brought back to, and what is listed.
-- Assumes nothing: these are definitions.
use Rattle.std.specs.Prelude.{ℕ, ◌+◌, ◌*◌, List, [], ◌∷◌, ◌++◌}
use Rattle.rules.specs.Bytes.{Bytes, bytes_of}
use Rattle.rules.specs.Layout.{no_next, no_time}
use Rattle.rules.specs.Samples.{program, input, delay, let_continue, branch}
use Rattle.rules.specs.Readings.{int, state_of, holding, in_branch}
use Rattle.rules.specs.declared.Value.TheVariants.{Plain}
use Rattle.mends.specs.Mend.{mended}
use Rattle.mends.specs.Changes.{changes}

-- A group whose body is a delay (cell 2, first 10), with branches 5 and 2, each a delay (cells 1 and 0, first 20 and 30); its own cell is 3.
abbrev pub berths : Bytes
berths =
    program (input 0 ∷ delay 0 30 ∷ branch 1 no_next ∷ input 1 ∷ delay 3 20 ∷ branch 4 2 ∷ input 2 ∷ delay 6 10 ∷ let_continue 7 5 ∷ [])

abbrev pub zeros : Bytes
zeros = bytes_of 8 0

-- A content as it stands.
abbrev pub raw : ℕ → ℕ → ℕ → ℕ → Bytes
raw t present middle w = t ∷ present ∷ bytes_of 2 middle ++ bytes_of 4 w

pub record Row : Type 0 where
  pub bad : Bytes
  pub good : Bytes
  pub listed : List ℕ

abbrev pub rows : List Row
rows =
    -- in branch 2 with 7: its delay is kept, the other branch's is put to start; the time is one too large.
    record {
      bad = state_of berths 2147483648 (holding (int 31) ∷ holding (int 21) ∷ holding (int 10) ∷ in_branch 2 7 ∷ []);
      good = state_of berths no_time (holding (int 31) ∷ holding (int 20) ∷ holding (int 10) ∷ in_branch 2 7 ∷ []);
      listed = no_next ∷ 1 ∷ [];
    }
    -- the group names node 1, which is none of its branches: it is put to start, and its body, now current, is kept.
    ∷ record {
      bad = state_of berths 5 (holding (int 31) ∷ holding (int 20) ∷ holding (int 11) ∷ in_branch 1 7 ∷ []);
      good = state_of berths 5 (holding (int 30) ∷ holding (int 20) ∷ holding (int 11) ∷ zeros ∷ []);
      listed = 0 ∷ 3 ∷ [];
    }
    -- a branch with a value of another type, and a delay with a content of a maybe type.
    ∷ record {
      bad = state_of berths 5 (holding (int 30) ∷ holding (int 20) ∷ raw 7 1 0 4 ∷ raw 2 1 5 1 ∷ []);
      good = state_of berths 5 (holding (int 30) ∷ holding (int 20) ∷ holding (int 10) ∷ zeros ∷ []);
      listed = 2 ∷ 3 ∷ [];
    }
    -- well-formed: untouched.
    ∷ record {
      bad = state_of berths no_time (holding (int 30) ∷ holding (int 99) ∷ holding (int 10) ∷ in_branch 5 0 ∷ []);
      good = state_of berths no_time (holding (int 30) ∷ holding (int 99) ∷ holding (int 10) ∷ in_branch 5 0 ∷ []);
      listed = [];
    }
    ∷ []

abbrev pub brought : List Row → List Row
brought [] = []
brought (r ∷ rs) =
    record { bad = r.bad; good = mended berths r.bad; listed = changes berths r.bad (mended berths r.bad) } ∷ brought rs
