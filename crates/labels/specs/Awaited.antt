-- The branch names that stand anywhere in a text, word by word: what is awaited behind the words read so far.
-- Assumes nothing: these are definitions.
use Rattle.std.specs.Prelude.{ℕ, List, eqb, if◌then◌else◌}
use Rattle.rules.specs.Bytes.{Bytes, ◌and◌}
use Rattle.texts.specs.Tokens.{Token}
use Rattle.texts.specs.Spelled.{same}
use Rattle.texts.specs.Spelling.{open₀, kind_word}
use Rattle.texts.specs.Reader.{branch_names, opened, named}

-- Behind a parenthesis (1) the word branch may stand, behind (branch (2) a name; else (0) neither.
unfoldable pub awaited : ℕ → Bytes → ℕ
awaited state w = if eqb state 1 and same w (kind_word 9) then 2 else if same w open₀ then 1 else 0

-- The branch names in the words left.
unfoldable pub names_ahead : ℕ → List Token → List Bytes
names_ahead state ts = if eqb state 1 then opened ts else if eqb state 2 then named ts else branch_names ts
