-- Names as they are noted while a text is read: where in the text each begins and ends.
-- Assumes nothing: these are definitions.
use Rattle.std.specs.Prelude.{ℕ, zero, suc, ◌+◌, ◌*◌, ◌≤◌, ◌<◌, ◌≡◌, List, [], ◌∷◌, Bool, length, get_or, set, ltb, leb, if◌then◌else◌}
use Rattle.rules.specs.Bytes.{Bytes, ◌and◌}
use Rattle.texts.specs.Tokens.{part, tokens}
use Rattle.texts.specs.Spelled.{is_among}
use Rattle.texts.specs.Reader.{branch_names}

-- The name between two numbers, if they are a part of the text; else none.
unfoldable pub named_by : Bytes → ℕ → ℕ → Bytes
named_by text s e = if leb s e and leb e (length text) then part text s e else []

-- A table of names begins at a place with how many there are. Name j of it:
unfoldable pub name_at : Bytes → List ℕ → ℕ → ℕ → Bytes
name_at text t base j = named_by text (get_or t (base + 2 * j + 1) 0) (get_or t (base + 2 * j + 2) 0)

-- The first so many names, the last of them first.
unfoldable pub noted_names : Bytes → List ℕ → ℕ → ℕ → List Bytes
noted_names text t base zero = []
noted_names text t base (suc n) = name_at text t base n ∷ noted_names text t base n

unfoldable pub names_in : Bytes → List ℕ → ℕ → List Bytes
names_in text t base = noted_names text t base (get_or t base 0)

-- One name more, of a number.
unfoldable pub put_name : List ℕ → ℕ → ℕ → ℕ → ℕ → List ℕ
put_name t base n s e = set (set (set t (base + 2 * n + 1) s) (base + 2 * n + 2) e) base (n + 1)

unfoldable pub noted : List ℕ → ℕ → ℕ → ℕ → List ℕ
noted t base s e = put_name t base (get_or t base 0) s e

-- One name more, if it is one; 1,009 is for more than can be noted.
unfoldable pub noted_if : Bool → List ℕ → ℕ → ℕ → List ℕ
noted_if wanted t s e = if wanted then if ltb (get_or t 0 0) 1008 then noted t 0 s e else set t 0 1009 else t

-- A table of the branch names of a text, unless there are more than can be noted.
pub record Known (text : Bytes) (t : List ℕ) : Type 0 where
  pub long : 2017 ≤ length t
  pub known : get_or t 0 0 < 1009 → (w : Bytes) → is_among w (names_in text t 0) ≡ is_among w (branch_names (tokens text))
