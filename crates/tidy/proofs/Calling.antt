-- The functions of the call: what they ask and give, of an accepted program.
-- Assumes nothing.
use Rattle.rules.specs.Verdicts.{Verdict}
use Rattle.std.specs.Prelude.{if◌then◌else◌, Result, Ok, Err}
use mathlib.Core.Path.{◌≡◌, refl, sym, ap, ◌∙◌}
use mathlib.Core.List.{List, [], ◌∷◌}
use mathlib.Core.Bool.{Bool, true, false}
use Prim.Native.Nat.{ℕ, zero, suc, ◌+◌, ◌-◌, ◌*◌, ◌/◌, ◌≤◌, ◌<◌}
use native.Mathlib.Omega.{arith}
use lib.Dec.{ltb}
use lib.ListN.{length, get_or, take, drop}
use borrow.Author.Tests.{lt-ltb, le-ltb}
use Rattle.rules.specs.Bytes.{Bytes, write_at}
use Rattle.rules.specs.Layout.{nodes, edition, blocks, records}
use Rattle.rules.specs.Shaped.{Shaped}
use Rattle.rules.specs.Accepted.{Accepted}
use Rattle.rules.specs.Tree.{Signal, root}
use Rattle.rules.specs.Calls.{program_verdict}
use Rattle.rules.specs.declared.Refusal.{Refusal}
use Rattle.rules.proofs.Rooted.{root_of}
use Rattle.promises.specs.Small.{Small}
use Rattle.dropped.specs.Tidy.{tidy_s}
use Rattle.written.specs.Order.{order_s}
use Rattle.written.specs.Parts.{size_p, rows_p}
use Rattle.written.proofs.Blocks.{blocks_length}
use Rattle.written.proofs.Parted.{part_s_size}
use Rattle.written.proofs.Places.{order_s_length}
use Rattle.written.specs.Table.{rows_bytes, blocks_from, blocks_for, table_of}
use Rattle.written.specs.Written.{written, part_s, new_number}
use Rattle.rewritten.specs.Rewritten.{tidied, tidying}
use Rattle.rewritten.specs.TidyCall.{TidyOutcome, lent_for, after_verdict, tidy_call, tidying_call}
use Rattle.written.specs.declared.TableSize.{TableSize}
use Rattle.rewritten.specs.declared.Untidied.{Untidied}
use Rattle.rewritten.specs.declared.Untidied.TheVariants.{RoomShort}
use Rattle.rewritten.proofs.AsTidied.{tidied_entries, tidied_no_larger}
use Rattle.tidy.specs.Sweep.{sweep, Roomy, Stored}
use Rattle.tidy.specs.Settle.{staying, renumber}
use Rattle.tidy.specs.Record.{new_rows, Inside}
use Rattle.tidy.specs.Numbering.{Numbering}
use Rattle.tidy.proofs.Joined.{names_few, staying_is, rows_are, order_inside}
use Rattle.tidy.proofs.BlockLaws.{written_there, in_front}

-- All that stands behind a place.
take_all : (n : ℕ) (l : List ℕ) → length l ≤ n → take n l ≡ l
take_all zero [] h = refl
take_all zero (x ∷ l) h = absurd (omega arith)
take_all (suc n) [] h = refl
take_all (suc n) (x ∷ l) h = ap (λ (m : List ℕ). x ∷ m) (take_all n l (omega arith))

drop_long : (l : List ℕ) (k : ℕ) → k ≤ length l → length (drop k l) + k ≡ length l
drop_long l zero h = omega arith
drop_long [] (suc k) h = absurd (omega arith)
drop_long (x ∷ l) (suc k) h = omega (arith, drop_long l k (omega arith))

behind : (c names names' : List ℕ) (r : ℕ) → names' ≡ write_at names r c → length names' ≡ length names → r + length c ≡ length names → drop r names' ≡ c
behind c names names' r e l h =
    sym (take_all (length c) (drop r names') (omega (arith, drop_long names' r (omega arith))))
    ∙ ap (λ (m : List ℕ). take (length c) (drop r m)) e ∙ written_there c names r (omega arith)

module _ (p : Bytes) (small : Small p) (a : Accepted p) (count : ℕ) (counted : count ≡ nodes p) (u names : List ℕ) (lu : length u ≡ 1008) (ln : length names ≡ 1008) where
  root_is : sweep p (count - 1) u ≡ sweep p (nodes p - 1) u
  root_is = ap (λ (k : ℕ). sweep p (k - 1) u) counted

  few : length (sweep p (count - 1) u).names ≤ count
  few = omega (arith, names_few p small a u lu, ap (λ s. length s.names) root_is)

  pub root_asked : Shaped p × (count - 1 < nodes p) × Roomy (sweep p (count - 1) u) 1008 u names
  root_asked =
      let w = root_of p a in (
        w.shaped,
        omega (arith, w.inside, counted),
        record { fits = omega (arith, few, counted, w.shaped.small); most = omega arith; used_long = lu; names_long = ln },
      )

  module _ (r : ℕ) (u' names' : List ℕ) (st : Stored (sweep p (count - 1) u) 1008 r u' names names') (ln' : length names' ≡ length names) (order : List ℕ) (lo : count ≤ length order) where
    pub settle_asked : (r ≤ length names') × (length names' ≤ 1008) × (length names' - r ≤ length order)
    settle_asked = (omega (arith, st.from), omega arith, omega (arith, st.from, few))

    pub number_made : (order' new new' : List ℕ) (k : ℕ) → length new ≡ 1024
        → (k ≡ length (staying (drop r names'))) × (order' ≡ write_at order 0 (staying (drop r names'))) × (new' ≡ renumber (drop r names') 0 new)
        → Numbering p order order' new' k
    number_made order' new new' k lw e =
        let d : drop r names' ≡ (sweep p (nodes p - 1) u).names
        = behind (sweep p (count - 1) u).names names names' r st.listed ln' (st.from ∙ sym ln) ∙ ap (λ s. s.names) root_is in
        let q : staying (drop r names') ≡ tidying p = ap staying d ∙ staying_is p small a u lu new lw in
        record {
          counted = e.0 ∙ ap length q;
          ordered = e.1 ∙ ap (write_at order 0) q;
          rows = ap (λ (l : List ℕ). new_rows p l (tidying p)) (e.2 ∙ ap (λ (l : List ℕ). renumber l 0 new) d) ∙ rows_are p small a u lu new lw;
        }

-- The nodes fit the blocks.
within_records : (p : Bytes) → Shaped p → nodes p ≤ 42 * (length p / 512)
unfolding records blocks
within_records p s = s.within

pub count_some : (p : Bytes) (count : ℕ) → Accepted p → count ≡ nodes p → 1 ≤ count
count_some p count a e = omega (arith, (root_of p a).inside)

-- A room that is too short.
pub short : (p : Bytes) (least : ℕ) (room result : List ℕ) → length room < least → (Err RoomShort ≡ (lent_for p least room result).answer) × (room ≡ (lent_for p least room result).room)
unfolding lent_for
short p least room result h = simp (lt-ltb (length room) least h) (refl, refl)

pub long : (p : Bytes) (least : ℕ) (room result room' : List ℕ) (x y : ℕ) → least ≤ length room → x ≡ nodes (tidied p) → y ≡ length (tidied p) → room' ≡ write_at room 0 result
    → (Ok (record { nodes = x; bytes = y }) ≡ (lent_for p least room result).answer) × (room' ≡ (lent_for p least room result).room)
unfolding lent_for
long p least room result room' x y h e f g = simp (le-ltb (length room) least h) ((λ i. Ok (record { nodes = (e i); bytes = (f i) })), g)

-- The entries of a list's first part.
get_take : (l : List ℕ) (n k : ℕ) → k < n → get_or (take n l) k 0 ≡ get_or l k 0
get_take l zero k h = absurd (omega arith)
get_take [] (suc n) k h = refl
get_take (x ∷ l) (suc n) zero h = refl
get_take (x ∷ l) (suc n) (suc k) h = get_take l n k (omega arith)

module _ (p : Bytes) (small : Small p) (a : Accepted p) where
  abbrev s : Signal
  s = tidy_s (root p)

  -- How long the order and the tidied program are.
  order_few : length (tidying p) ≤ nodes p
  order_few = omega (arith, tidied_entries p small a, (tidied_no_larger p small a).0)

  size_is : size_p (part_s s (new_number s)) ≡ length (tidying p)
  unfolding tidying
  size_is = part_s_size s (new_number s) ∙ sym (order_s_length s)

  pub table_is : tidied p ≡ blocks_from (blocks_for (length (tidying p))) (edition p) (blocks_for (length (tidying p))) 0 (rows_bytes (rows_p (part_s s (new_number s)) 0))
  unfolding tidied written table_of
  table_is = ap (λ (n : ℕ). blocks_from (blocks_for n) (edition p) (blocks_for n) 0 (rows_bytes (rows_p (part_s s (new_number s)) 0))) size_is

  long_is : length (tidied p) ≡ 512 * blocks_for (length (tidying p))
  long_is = ap length table_is ∙ blocks_length (edition p) (blocks_for (length (tidying p))) (blocks_for (length (tidying p))) 0 (rows_bytes (rows_p (part_s s (new_number s)) 0))

  whole_blocks : 512 * blocks_for (nodes p) ≤ length p
  unfolding blocks_for
  whole_blocks = let w = root_of p a in omega (arith, within_records p w.shaped)

  some_bytes : 4 ≤ length p
  some_bytes = let w = root_of p a in omega (arith, within_records p w.shaped, w.inside)

  module _ (order order' new' : List ℕ) (k : ℕ) (made : Numbering p order order' new' k) where
    -- The answer.
    pub nodes_are : k ≡ nodes (tidied p)
    nodes_are = made.counted ∙ tidied_entries p small a

    pub bytes_are : 512 * ((k + 41) / 42) ≡ length (tidied p)
    unfolding blocks_for
    bytes_are = ap (λ (n : ℕ). 512 * ((n + 41) / 42)) made.counted ∙ sym long_is

    pub few_nodes : k ≤ 1008
    few_nodes = let w = root_of p a in omega (arith, made.counted, order_few, w.shaped.small)

    module _ (lo : nodes p ≤ length order) (lo' : length order' ≡ length order) where
      first_is : take k order' ≡ tidying p
      first_is =
          (λ i. take (made.counted i) (made.ordered i)) ∙ in_front (tidying p) order (omega (arith, order_few))

      pub blocks_asked : (room : List ℕ) → length p ≤ length room
          → Shaped p × (4 ≤ length p) × (k ≤ length order') × Inside (nodes p) k order' × (k ≤ 1008) × (512 * blocks_for k ≤ length room)
      unfolding blocks_for
      blocks_asked room h =
          let w = root_of p a in (
            w.shaped,
            some_bytes,
            omega (arith, made.counted, order_few),
            record { each = λ i l. let z = order_inside p a i (omega (arith, made.counted)) in omega (arith, z, get_take order' k i l, ap (λ (m : List ℕ). get_or m i 0) first_is) },
            few_nodes,
            omega (arith, whole_blocks, made.counted, order_few),
          )

      pub room_made : (room room' : List ℕ)
          → room' ≡ write_at room 0 (blocks_from (blocks_for k) (edition p) (blocks_for k) 0 (rows_bytes (new_rows p new' (take k order')))) → room' ≡ write_at room 0 (tidied p)
      room_made room room' e =
          e ∙ ap (write_at room 0)
          ((λ i. blocks_from (blocks_for (made.counted i)) (edition p) (blocks_for (made.counted i)) 0 (rows_bytes ((ap (new_rows p new') first_is ∙ made.rows) i)))
          ∙ sym table_is)

pub count_few : (p : Bytes) (count : ℕ) → Accepted p → count ≡ nodes p → count ≤ 1008
count_few p count a e = let w = root_of p a in omega (arith, w.shaped.small)

-- The calls, by the verdict.
module _ (p : Bytes) (room : List ℕ) (made : TidyOutcome) where
  pub call_refused : (v : Verdict) (r : Refusal) → v ≡ Err r → (Err (Untidied.Refused r) ≡ (after_verdict v room made).answer) × (room ≡ (after_verdict v room made).room)
  unfolding after_verdict
  call_refused v r e = rw e (refl, refl)

  pub call_fine : (v : Verdict) (x : Result TableSize Untidied) (room' : List ℕ) → v ≡ Ok tt → (x ≡ made.answer) × (room' ≡ made.room)
      → (x ≡ (after_verdict v room made).answer) × (room' ≡ (after_verdict v room made).room)
  unfolding after_verdict
  call_fine v x room' e f = rw e f

pub tidy_refused : (p room : Bytes) (r : Refusal) → program_verdict p ≡ Err r → (Err (Untidied.Refused r) ≡ (tidy_call p room).answer) × (room ≡ (tidy_call p room).room)
unfolding tidy_call
tidy_refused p room r e = call_refused p room (lent_for p (length p) room (tidied p)) (program_verdict p) r e

pub tidy_fine : (p room room' : Bytes) (x : Result TableSize Untidied) → program_verdict p ≡ Ok tt
    → (x ≡ (lent_for p (length p) room (tidied p)).answer) × (room' ≡ (lent_for p (length p) room (tidied p)).room)
    → (x ≡ (tidy_call p room).answer) × (room' ≡ (tidy_call p room).room)
unfolding tidy_call
tidy_fine p room room' x e f = call_fine p room (lent_for p (length p) room (tidied p)) (program_verdict p) x room' e f

pub pairing_refused : (p : Bytes) (room : List ℕ) (r : Refusal) → program_verdict p ≡ Err r → (Err (Untidied.Refused r) ≡ (tidying_call p room).answer) × (room ≡ (tidying_call p room).room)
unfolding tidying_call
pairing_refused p room r e = call_refused p room (lent_for p (nodes p) room (tidying p)) (program_verdict p) r e

pub pairing_fine : (p : Bytes) (room room' : List ℕ) (x : Result TableSize Untidied) → program_verdict p ≡ Ok tt
    → (x ≡ (lent_for p (nodes p) room (tidying p)).answer) × (room' ≡ (lent_for p (nodes p) room (tidying p)).room)
    → (x ≡ (tidying_call p room).answer) × (room' ≡ (tidying_call p room).room)
unfolding tidying_call
pairing_fine p room room' x e f = call_fine p room (lent_for p (nodes p) room (tidying p)) (program_verdict p) x room' e f
