-- The request's numbers for the two answers.
-- Assumes nothing: these are definitions.
use Rattle.std.specs.Prelude.{ℕ, List, [], ◌∷◌, Result, Ok, Err}
use Rattle.rules.specs.Answers.{code_of, place_of}
use Rattle.written.specs.declared.TableSize.{TableSize}
use Rattle.texts.specs.declared.NoTable.{NoTable}
use Rattle.texts.specs.declared.NoTable.TheVariants.{BadWord, BadName, BadNumber}
use Rattle.texts.specs.declared.NoText.{NoText}

-- "Text codes 21 (word or parenthesis), 22 (name unknown or bound twice), 23 (constant or channel out of range) .. then 24 .. before 01's
-- codes": 0, nodes and length; or a code, its place and 0. The place of a text code is a position in the text; 24 has none.
abbrev pub read_numbers : Result TableSize NoTable → List ℕ
read_numbers (Ok size) = 0 ∷ size.nodes ∷ size.bytes ∷ []
read_numbers (Err (BadWord at)) = 21 ∷ at ∷ 0 ∷ []
read_numbers (Err (BadName at)) = 22 ∷ at ∷ 0 ∷ []
read_numbers (Err (BadNumber at)) = 23 ∷ at ∷ 0 ∷ []
read_numbers (Err NoTable.RoomShort) = 24 ∷ 0 ∷ 0 ∷ []
read_numbers (Err (NoTable.Refused r)) = code_of r ∷ place_of r ∷ 0 ∷ []

-- "The printer refuses by 01's codes 1-8, then 24": 0 and the length; or a code, its place and 0.
abbrev pub printed_numbers : Result ℕ NoText → List ℕ
printed_numbers (Ok size) = 0 ∷ size ∷ []
printed_numbers (Err (NoText.Refused r)) = code_of r ∷ place_of r ∷ 0 ∷ []
printed_numbers (Err NoText.RoomShort) = 24 ∷ 0 ∷ 0 ∷ []
