-- Where a node begins: what the call says, and that two calls that keep the promise are equal at every text and number.
-- Assumes nothing.
use Rattle.std.specs.Prelude.{Option, Some, None, ℕ}
use mathlib.Core.Path.{◌≡◌, refl, sym, ap, ◌∙◌}
use mathlib.Core.List.{List}
use Prim.Native.Nat.{ℕ, min, ◌≤◌, ◌<◌}
use native.Mathlib.Omega.{arith}
use lib.ListN.{length}
use borrow.Author.Tests.{lt-ltb, le-ltb}
use Rattle.rules.specs.Bytes.{Bytes}
use Rattle.texts.specs.Tokens.{Token}
use Rattle.texts.specs.Rows.{Sofar, Got, got}
use Rattle.texts.specs.Reader.{read_text, places_in, node_place}
use Rattle.texts.specs.Calls.{last_position}
use Rattle.texts.proofs.Placed.{begins_there, places_long}
use Rattle.reading.specs.Position.{node_position, Here, Placing}
use Rattle.reading.proofs.CallLaws.{place_none}

module _ (text : Bytes) (n : ℕ) where
  -- As many places as rows.
  many : (e : ℕ) (rest : List Token) (so : Sofar) → read_text text ≡ got e rest so → length (places_in (read_text text)) ≡ length so.rows
  unfolding places_in
  many e rest so z = ap (λ (g : Got ℕ). length (places_in g)) z ∙ places_long text e rest so z

  inside : n < length (places_in (read_text text)) → node_position text n ≡ Some (min (node_place text n) last_position)
  unfolding node_position
  inside l = rw (lt-ltb n (length (places_in (read_text text))) l, node_position) refl

  outside : length (places_in (read_text text)) ≤ n → node_position text n ≡ None
  unfolding node_position
  outside l = rw (le-ltb n (length (places_in (read_text text))) l, node_position) refl

  pub here : Here text n
  here = record {
    begins = λ e rest so z l. (inside (let m = many e rest so z in omega arith), begins_there text e rest so z n l);
    no_node = λ e rest so z l. outside (let m = many e rest so z in omega arith);
    not_read = λ why z. sym (place_none text n z);
  }

pub one_placing : {f g : Bytes → ℕ → Option ℕ} → Placing f → Placing g → (text : Bytes) (n : ℕ) → f text n ≡ g text n
one_placing a b text n = a.as_ruled text n ∙ sym (b.as_ruled text n)
