-- The text of an accepted program, by the table that it is renumbered to; and the call, by the verdict.
-- Assumes nothing.
use Rattle.rules.specs.Verdicts.{Verdict}
use Rattle.std.specs.Prelude.{Result, Ok, Err}
use mathlib.Core.Path.{◌≡◌, sym, ap, ◌∙◌}
use mathlib.Core.Bool.{Bool, true, false}
use Prim.Native.Nat.{ℕ, ◌+◌, ◌-◌, ◌*◌, ◌/◌, ◌≤◌, ◌<◌}
use native.Mathlib.Omega.{arith}
use lib.Dec.{ltb}
use lib.ListN.{length, take}
use borrow.Author.Tests.{lt-ltb, le-ltb}
use Rattle.rules.specs.Bytes.{Bytes, write_at}
use Rattle.rules.specs.Layout.{nodes}
use Rattle.rules.specs.Accepted.{Accepted}
use Rattle.rules.specs.Calls.{program_verdict}
use Rattle.rules.specs.Tree.{root}
use Rattle.rules.specs.declared.Refusal.{Refusal}
use Rattle.rules.specs.Layout.{edition, type_at}
use Rattle.rules.proofs.Once.{tree_size}
use Rattle.rules.proofs.Rooted.{root_of, some_node}
use Rattle.promises.specs.Small.{Small}
use Rattle.declarative.proofs.EachRecord.{each_format}
use Rattle.written.specs.Table.{blocks_for}
use Rattle.written.proofs.Sounded.{accepted_sound, sound_nodes}
use Rattle.texts.specs.Numbering.{renumbered}
use Rattle.texts.specs.Printer.{printed, print_text}
use Rattle.texts.specs.Calls.{PrintOutcome, print_fitted, print_outcome, print_call}
use Rattle.texts.specs.declared.NoText.{NoText}
use Rattle.texts.specs.declared.NoText.TheVariants.{RoomShort}
use Rattle.retold.proofs.Fronts.{written_front}
use Rattle.retold.proofs.There.{text_most}
use Rattle.letters.specs.Wrote.{Wrote}
use Rattle.forms.specs.Laying.{Blocks}
use Rattle.inorder.proofs.Renumbers.{renumbered_long}

module _ (p : Bytes) (small : Small p) (a : Accepted p) where
  pub program_fits : length p ≤ 12288
  program_fits = let f = each_format p a.formed in omega (arith, f.whole.long)

  few : nodes p ≤ 1008
  few = let w = root_of p a in w.shaped.small

  some : 1 ≤ nodes p
  some = let w = root_of p a in omega (arith, w.inside)

  same_nodes : nodes (renumbered p) ≡ nodes p
  unfolding renumbered
  same_nodes = sound_nodes (type_at p) (root p) (accepted_sound p a small.small) (edition p) ∙ tree_size p a.formed.length_right a.shape_right (some_node p a.formed)

  module _ (count : ℕ) (counted : count ≡ nodes p) where
    pub table_long : 512 * ((count + 41) / 42) ≡ length (renumbered p)
    unfolding blocks_for
    table_long = ap (λ (n : ℕ). 512 * ((n + 41) / 42)) counted ∙ sym (renumbered_long p small a)

    pub count_few : count ≤ 1008
    count_few = omega (arith, few)

    -- The table stands at the front of what it was written to.
    pub front : (table table' : Bytes) → length table ≡ 12288 → table' ≡ write_at table 0 (renumbered p) → take (512 * ((count + 41) / 42) - 0) table' ≡ renumbered p
    front table table' l e =
        ap (λ (n : ℕ). take n table') (let z : 512 * ((count + 41) / 42) - 0 ≡ 512 * ((count + 41) / 42) = omega arith in z)
        ∙ (λ i. take (table_long i) (e i)) ∙ written_front table (renumbered p) (omega (arith, table_long, count_few))

    module _ (q : Bytes) (is : q ≡ renumbered p) where
      pub text_asked : Blocks q × (4 ≤ length q) × (count ≡ nodes q) × (1 ≤ count) × (count ≤ 1008)
      text_asked =
          let l : length q ≡ 512 * ((count + 41) / 42) = ap length is ∙ sym table_long in (
            record { whole = omega arith; few = omega (arith, count_few) },
            omega (arith, some),
            counted ∙ sym (ap nodes is ∙ same_nodes),
            omega (arith, some),
            count_few,
          )

      text_is : printed q ≡ print_text p
      unfolding print_text
      text_is = ap printed is

      module _ {room room' : Bytes} {r : ℕ} (w : Wrote room 0 (printed q) room' r) where
        written : (r ≡ 0 + length (printed q)) × (room' ≡ write_at room 0 (printed q))
        written = w.done (omega (arith, ap length text_is, text_most p small a))

        pub long_is : r ≡ length (print_text p)
        long_is = omega (arith, written.0, ap length text_is)

        pub room_is : room' ≡ write_at room 0 (print_text p)
        room_is = written.1 ∙ ap (write_at room 0) text_is

  pub text_short : length (print_text p) < 4294967296
  text_short = omega (arith, text_most p small a)

-- A room that is too short, and one that is not.
module _ (text room : Bytes) where
  abbrev fitted : Bool → PrintOutcome
  fitted b = elim b [ true ↦ record { answer = Err RoomShort; room = room } | false ↦ record { answer = Ok (length text); room = write_at room 0 text } ]

  pub short : (r : ℕ) → r ≡ length text → length room < r → (Err RoomShort ≡ (print_fitted text room).answer) × (room ≡ (print_fitted text room).room)
  unfolding print_fitted
  short r e h =
      let z : ltb (length room) (length text) ≡ true = lt-ltb (length room) (length text) (omega arith) in
      (sym (ap (λ (b : Bool). (fitted b).answer) z), sym (ap (λ (b : Bool). (fitted b).room) z))

  pub long : (r : ℕ) (room' : Bytes) → r ≡ length text → r ≤ length room → room' ≡ write_at room 0 text
      → (Ok r ≡ (print_fitted text room).answer) × (room' ≡ (print_fitted text room).room)
  unfolding print_fitted
  long r room' e h f =
      let z : ltb (length room) (length text) ≡ false = le-ltb (length room) (length text) (omega arith) in
      (ap Ok e ∙ sym (ap (λ (b : Bool). (fitted b).answer) z), f ∙ sym (ap (λ (b : Bool). (fitted b).room) z))

-- The call.
module _ (p room : Bytes) where
  pub call_refused : (r : Refusal) → program_verdict p ≡ Err r → (Err (NoText.Refused r) ≡ (print_call p room).answer) × (room ≡ (print_call p room).room)
  unfolding print_call print_outcome
  call_refused r e = (sym (ap (λ (v : Verdict). (print_outcome v p room).answer) e), sym (ap (λ (v : Verdict). (print_outcome v p room).room) e))

  pub call_fine : (x : Result ℕ NoText) (room' : Bytes) → program_verdict p ≡ Ok tt → (x ≡ (print_fitted (print_text p) room).answer) × (room' ≡ (print_fitted (print_text p) room).room)
      → (x ≡ (print_call p room).answer) × (room' ≡ (print_call p room).room)
  unfolding print_call print_outcome
  call_fine x room' e f = (f.0 ∙ sym (ap (λ (v : Verdict). (print_outcome v p room).answer) e), f.1 ∙ sym (ap (λ (v : Verdict). (print_outcome v p room).room) e))
