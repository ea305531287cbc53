-- An accepted program printed is read as itself, numbered children first; and printed again it is the same text.
-- Assumes nothing.
use Rattle.std.specs.Prelude.{Ok, None}
use mathlib.Core.Path.{◌≡◌, refl, sym, ap, ◌∙◌}
use mathlib.Core.Bool.{true, false}
use mathlib.Core.List.{[]}
use Prim.Native.Nat.{ℕ, suc, ◌<◌, ◌≤◌}
use native.Mathlib.Omega.{arith}
use lib.Dec.{eqb, ltb}
use lib.ListN.{length}
use borrow.Author.Tests.{ltb-true, lt-ltb, le-ltb, eq-eqb}
use Rattle.rules.specs.Bytes.{Bytes, write_at, ◌and◌}
use Rattle.rules.specs.Layout.{nodes, kind_at, type_at, edition, most_nodes, cells_before}
use Rattle.rules.specs.Kinds.{is_kind, is_signal}
use Rattle.rules.specs.Shape.{is_child, may_be}
use Rattle.rules.specs.Tree.{Signal, root}
use Rattle.rules.specs.Scope.{scope_s, scope_fault, unmarked, is_offered}
use Rattle.rules.specs.Accepted.{Accepted}
use Rattle.rules.specs.declared.Field.{Field}
use Rattle.rules.proofs.Static.{and_both, not_both}
use Rattle.rules.proofs.Verdicts.{fine_verdict}
use Rattle.promises.specs.Small.{Small}
use Rattle.written.specs.Parts.{Part, size_p, last_p}
use Rattle.written.specs.Written.{part_s, new_number, written, placed_s, renamed}
use Rattle.written.specs.Right.{RightS, HoldsP, Sound}
use Rattle.written.proofs.Rows.{last_size}
use Rattle.written.proofs.Parted.{PartOf, part_s_right, part_s_size}
use Rattle.written.proofs.Read.{written_held}
use Rattle.written.proofs.Tabled.{table_fine}
use Rattle.written.proofs.Scoped.{none_marked}
use Rattle.written.proofs.Sounded.{accepted_sound, sound_right, sound_nodes, sound_edition, sound_root}
use Rattle.rewritten.specs.Rewritten as R
use Rattle.rewritten.proofs.Renumbered.{known, renumbered_accepted, renumbered_again}
use Rattle.texts.specs.Rows.{Got}
use Rattle.texts.specs.Resolved.{blocks_of}
use Rattle.texts.specs.Numbering.{renumbered}
use Rattle.texts.specs.Printer.{printed, print_text, longest_text}
use Rattle.texts.specs.Reader.{read_text}
use Rattle.texts.specs.Calls.{read_checked, read_fitted, read_outcome, read_call}
use Rattle.texts.proofs.Laid.{Opens, Laid}
use Rattle.texts.proofs.Gives.{Gives, gives}
use Rattle.texts.proofs.NodeLaws.{first_rows}
use Rattle.texts.proofs.Core.{ReadBack, text_reads}
use Rattle.texts.proofs.Aimed.{all_aimed}
use Rattle.texts.proofs.FromParts.{OpenP, part_laid}
use Rattle.texts.proofs.InScope.{open_s}
use Rattle.texts.proofs.Blocked.{blocks_again}
use Rattle.texts.proofs.LongText.{text_long}

-- What the reader gives of a printed table, as the call takes it.
outcome_is : (q room : Bytes) (n : ℕ) {r : Got ℕ} → Gives (ReadBack q n) r → blocks_of (edition q) (first_rows q (suc n)) ≡ q → read_outcome r room ≡ read_fitted q room
unfolding read_outcome
outcome_is q room n (gives {x = x} {ts = ts} {so = so} d) e =
    ap (λ (b : Bytes). read_fitted b room) (ap (λ (y : ℕ). blocks_of y so.rows) d.edition_is ∙ ap (blocks_of (edition q)) d.rows ∙ e)

module _ (p : Bytes) (small : Small p) (a : Accepted p) where
  abbrev s : Signal
  s = root p

  abbrev e₀ : ℕ
  e₀ = edition p

  abbrev q : Bytes
  q = written (edition p) (root p)

  abbrev part₀ : Part
  part₀ = part_s (root p) (new_number (root p))

  sound : Sound (type_at p) s
  sound = accepted_sound p a small.small

  right : RightS s (new_number s)
  right = sound_right (type_at p) s sound

  whole : PartOf is_signal part₀
  whole = part_s_right s (new_number s) right

  few : size_p part₀ ≤ 1008
  few = omega (arith, part_s_size s (new_number s), sound.few)

  held : HoldsP part₀ q 0
  held = written_held e₀ s right sound.few

  abbrev n : ℕ
  n = last_p 0 (part_s (root p) (new_number (root p)))

  size_is : size_p part₀ ≡ suc n
  size_is = omega (arith, last_size 0 part₀)

  nodes_are : nodes q ≡ suc n
  nodes_are = sound_nodes (type_at p) s sound e₀ ∙ sym (part_s_size s (new_number s)) ∙ size_is

  edition_is : edition q ≡ e₀
  edition_is = sound_edition (type_at p) s sound e₀

  is_accepted : Accepted q
  unfolding R.renumbered
  is_accepted = renumbered_accepted p small a

  -- The branches of the table.
  abbrev targets : Opens
  targets m = ltb m (suc n) and eqb (kind_at q m) 9

  hits : (m : ℕ) → m < suc n → kind_at q m ≡ 9 → targets m ≡ true
  unfolding ◌and◌
  hits m l e = rw (lt-ltb m (suc n) l) (eq-eqb (kind_at q m) 9 e)

  aimed : (m : ℕ) → targets m ≡ true → (m < suc n) × (eqb (kind_at q m) 9 ≡ true)
  aimed m e = let b = and_both (ltb m (suc n)) (eqb (kind_at q m) 9) e in (ltb-true m (suc n) b.0, b.1)

  in_scope : scope_s e₀ (unmarked most_nodes) [] (placed_s s (cells_before q) (new_number s) 0) ≡ None
  unfolding scope_fault renamed
  in_scope =
      ap (scope_s e₀ (unmarked most_nodes) []) (sym (sound_root (type_at p) s sound e₀))
      ∙ ap (λ (e : ℕ). scope_s e (unmarked most_nodes) [] (root q)) (sym edition_is) ∙ is_accepted.scope_right

  opens : OpenP part₀ targets (λ m. false) 0
  unfolding is_offered
  opens =
      open_s q targets (suc n) (omega (arith, few, size_is)) hits e₀ (cells_before q) (new_number s) s 0 (unmarked most_nodes) [] (λ m. false) in_scope held right (omega (arith, size_is))
      (λ x i. absurd (none_marked most_nodes x i)) (λ x i. absurd (not_both i))

  laid₀ : Laid q targets (λ m. false) Field.Signal 0 n
  unfolding is_child may_be
  laid₀ = part_laid q targets part₀ 0 Field.Signal (λ m. false) held whole.right refl whole.sorted opens

  kinds : (m : ℕ) → m < suc n → is_kind (kind_at q m) ≡ true
  unfolding written
  kinds m l = (table_fine e₀ part₀ whole.right few m (omega (arith, size_is))).is_kind_lem

  blocks : blocks_of (edition q) (first_rows q (suc n)) ≡ q
  unfolding written
  blocks =
      ap (λ (e : ℕ). blocks_of e (first_rows q (suc n))) edition_is
      ∙ blocks_again q targets e₀ part₀ n size_is (omega (arith, few, size_is)) held refl kinds aimed laid₀

  reads : Gives (ReadBack q n) (read_text (printed q))
  reads =
      let l : n < 1008 = omega (arith, few, size_is) in
      let one : edition q ≤ 1 = omega (arith, edition_is, known p a) in
      text_reads q targets n nodes_are l one
      (all_aimed q targets n nodes_are l one (λ m e. (omega (arith, (aimed m e).0), (aimed m e).1)) laid₀) laid₀

  -- Reading the printed text: 24 exactly if the room is too short, else the program under that numbering.
  pub text_read : (room : Bytes) → read_call (print_text p) room ≡ read_fitted (renumbered p) room
  unfolding read_call print_text renumbered
  text_read room = outcome_is q room n reads blocks

  pub text_fits : (room : Bytes) → length (renumbered p) ≤ length room
      → read_call (print_text p) room ≡ record { answer = Ok (record { nodes = nodes (renumbered p); bytes = length (renumbered p) }); room = write_at room 0 (renumbered p) }
  unfolding read_fitted read_checked renumbered
  text_fits room l = text_read room ∙ rw (le-ltb (length room) (length q) l, fine_verdict q is_accepted, read_fitted, read_checked) refl

  -- Printed again.
  pub text_again : print_text (renumbered p) ≡ print_text p
  unfolding print_text renumbered R.renumbered
  text_again = ap printed (renumbered_again p small a)

  -- No printed text is longer than 107,868 bytes.
  pub text_most : length (print_text p) ≤ longest_text
  unfolding print_text renumbered
  text_most =
      let l : n < 1008 = omega (arith, few, size_is) in
      let one : edition q ≤ 1 = omega (arith, edition_is, known p a) in
      let t = text_long q targets (λ m e. let b = (aimed m e).0 in omega (arith, b, few, size_is)) n nodes_are l one laid₀ in
      omega (arith, t, nodes_are, l)
