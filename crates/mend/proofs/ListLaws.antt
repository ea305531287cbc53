-- The list of what changed, written entry by entry; and a state that is kept beside its mending.
-- Assumes nothing.
use Rattle.std.specs.Prelude.{if◌then◌else◌}
use mathlib.Core.Path.{◌≡◌, refl, sym, ap, ◌∙◌}
use mathlib.Core.Bool.{Bool, true, false, not}
use mathlib.Core.List.{List, [], ◌∷◌, ◌++◌}
use Prim.Native.Nat.{ℕ, zero, suc, ◌+◌, ◌-◌, ◌≤◌, ◌<◌}
use native.Mathlib.Omega.{arith}
use lib.Dec.{eqb}
use lib.ListN.{length, set, length-append}
use Rattle.rules.specs.Bytes.{Bytes, byte_at, u16_at, u32_at, write_at}
use Rattle.rules.specs.Layout.{no_next, cell, cell_at, last_time}
use Rattle.rules.proofs.Cells.{u64_same}
use Rattle.mends.specs.Changes.{changed_from, changed_time, changed_below}
use Rattle.mends.proofs.Listing.{few}
use Rattle.mend.specs.Kept.{StandsIn, entry_if}

-- Entries written behind others.
pub write_more : (xs ys room : List ℕ) (i : ℕ) → write_at room i (xs ++ ys) ≡ write_at (write_at room i xs) (i + length xs) ys
unfolding write_at
write_more [] ys room i = ap (λ (j : ℕ). write_at room j ys) (let e : i ≡ i + 0 = omega arith in e)
write_more (x ∷ xs) ys room i =
    write_more xs ys (set room i x) (suc i)
    ∙ ap (λ (j : ℕ). write_at (write_at (set room i x) (suc i) xs) j ys) (let e : suc i + length xs ≡ i + length (x ∷ xs) = omega arith in e)

-- What an entry is where something changed, and where nothing did.
pub no_entry : (b : Bool) (n : ℕ) → b ≡ false → entry_if b n ≡ []
unfolding entry_if
no_entry b n e = rw e refl

pub one_entry : (b : Bool) (n : ℕ) → b ≡ true → entry_if b n ≡ n ∷ []
unfolding entry_if
one_entry b n e = rw e refl

pub added_none : (b : Bool) (room : List ℕ) (at n : ℕ) → b ≡ false
    → (at ≡ at + length (entry_if b n)) × (room ≡ write_at room at (entry_if b n))
unfolding write_at
added_none b room at n e = rw (no_entry b n e) (omega arith, refl)

pub added_one : (b : Bool) (room : List ℕ) (at n : ℕ) → b ≡ true
    → (at + 1 ≡ at + length (entry_if b n)) × (set room at n ≡ write_at room at (entry_if b n))
unfolding write_at
added_one b room at n e = rw (one_entry b n e) (omega arith, refl)

-- The time's entry.
pub time_entry : (st st₁ : Bytes) → entry_if (not (eqb (last_time st₁) (last_time st))) 65535 ≡ changed_time st st₁
unfolding changed_time entry_if
time_entry st st₁ = go (eqb (last_time st₁) (last_time st))
  where
    go : (b : Bool) → entry_if (not b) 65535 ≡ (if b then [] else no_next ∷ [])
    go true = refl
    go false = refl

-- One cell more.
module _ (st st₁ : Bytes) where
  entry : ℕ → List ℕ
  entry k = entry_if (not (eqb (cell st₁ k) (cell st k))) k

  first_more : (b : Bool) (k : ℕ) (rest last : List ℕ)
      → (if b then rest ++ last else k ∷ (rest ++ last)) ≡ (if b then rest else k ∷ rest) ++ last
  first_more true k rest last = refl
  first_more false k rest last = refl

  at_end : (b : Bool) (k : ℕ) → (if b then [] else k ∷ []) ≡ [] ++ entry_if (not b) k
  unfolding entry_if
  at_end true k = refl
  at_end false k = refl

  from_more : (left j : ℕ)
      → changed_from st st₁ j (suc left) ≡ changed_from st st₁ j left ++ entry_if (not (eqb (cell st₁ (j + left)) (cell st (j + left)))) (j + left)
  unfolding changed_from
  from_more zero j =
      at_end (eqb (cell st₁ j) (cell st j)) j
      ∙ ap (λ (k : ℕ). [] ++ entry_if (not (eqb (cell st₁ k) (cell st k))) k) (let e : j ≡ j + 0 = omega arith in e)
  from_more (suc left) j =
      let e : suc j + left ≡ j + suc left = omega arith in
      let more = from_more left (suc j)
      ∙ ap (λ (k : ℕ). changed_from st st₁ (suc j) left ++ entry_if (not (eqb (cell st₁ k) (cell st k))) k) e in
      ap (λ (l : List ℕ). if eqb (cell st₁ j) (cell st j) then l else j ∷ l) more
      ∙ first_more (eqb (cell st₁ j) (cell st j)) j (changed_from st st₁ (suc j) left) _

  pub one_more : (k : ℕ) → changed_from st st₁ 0 (k + 1) ≡ changed_from st st₁ 0 k ++ entry_if (not (eqb (cell st₁ k) (cell st k))) k
  one_more k =
      ap (changed_from st st₁ 0) (let e : k + 1 ≡ suc k = omega arith in e) ∙ from_more k 0
      ∙ ap (λ (j : ℕ). changed_from st st₁ 0 k ++ entry_if (not (eqb (cell st₁ j) (cell st j))) j) (let e : 0 + k ≡ k = omega arith in e)

  -- A step of the loop: the room and the count with one cell more.
  pub cell_added : (room list : List ℕ) (from found k : ℕ) {a b : ℕ}
      → found ≡ from + length (changed_from st st₁ 0 k) → list ≡ write_at room from (changed_from st st₁ 0 k)
      → a ≡ cell st₁ k → b ≡ cell st k
      → (found + length (entry_if (not (eqb a b)) k) ≡ from + length (changed_from st st₁ 0 (k + 1)))
      × (write_at list found (entry_if (not (eqb a b)) k) ≡ write_at room from (changed_from st st₁ 0 (k + 1)))
  cell_added room list from found k {a} {b} e f g h =
      let xs : List ℕ = changed_from st st₁ 0 k in
      let ys : List ℕ = entry_if (not (eqb (cell st₁ k) (cell st k))) k in
      let same : entry_if (not (eqb a b)) k ≡ ys = λ i. entry_if (not (eqb (g i) (h i))) k in
      let more : changed_from st st₁ 0 (k + 1) ≡ xs ++ ys = one_more k in (
        omega (arith, ap length same, ap length more, length-append xs ys, e),
        (λ i. write_at (f i) (e i) (same i)) ∙ sym (write_more xs ys room from) ∙ ap (write_at room from) (sym more),
      )

  -- The time, and all cells.
  pub all_listed : (room list : List ℕ) (from found held : ℕ) {a b : ℕ} (after : List ℕ)
      → a ≡ last_time st₁ → b ≡ last_time st
      → from ≡ 0 + length (entry_if (not (eqb a b)) 65535) → list ≡ write_at room 0 (entry_if (not (eqb a b)) 65535)
      → found ≡ from + length (changed_from st st₁ 0 held) → after ≡ write_at list from (changed_from st st₁ 0 held)
      → (found ≡ length (changed_below st st₁ held)) × (after ≡ write_at room 0 (changed_below st st₁ held))
  unfolding changed_below
  all_listed room list from found held {a} {b} after g h e f d c =
      let xs : List ℕ = changed_time st st₁ in
      let ys : List ℕ = changed_from st st₁ 0 held in
      let same : entry_if (not (eqb a b)) 65535 ≡ xs = (λ i. entry_if (not (eqb (g i) (h i))) 65535) ∙ time_entry st st₁ in
      let place : from ≡ 0 + length xs = e ∙ ap (λ (l : List ℕ). 0 + length l) same in (
        omega (arith, d, place, length-append xs ys),
        c ∙ (λ i. write_at ((f ∙ ap (write_at room 0) same) i) (place i) ys) ∙ sym (write_more xs ys room 0),
      )

-- A state that stands at the front of a room has its time and its cells there.
module _ (st room : Bytes) (w : StandsIn st room) where
  time_there : 8 ≤ length st → last_time room ≡ last_time st
  unfolding last_time u32_at u16_at
  time_there l =
      omega (arith, w.same 0 (omega arith), w.same 1 (omega arith), w.same 2 (omega arith), w.same 3 (omega arith))

  inside : (count k a : ℕ) → k < count → a < 8 → cell_at count ≤ length st → cell_at k + a < length st
  unfolding cell_at
  inside count k a h g l = omega arith

  cell_there : (count k : ℕ) → k < count → cell_at count ≤ length st → cell room k ≡ cell st k
  unfolding cell
  cell_there count k h l = u64_same room st (cell_at k) (cell_at k) (λ a g. w.same (cell_at k + a) (inside count k a h g l))

  header : (count : ℕ) → cell_at count ≤ length st → 8 ≤ length st
  unfolding cell_at
  header count l = omega arith

  from_there : (q : Bytes) (count left k : ℕ) → k + left ≤ count → cell_at count ≤ length st → changed_from room q k left ≡ changed_from st q k left
  unfolding changed_from
  from_there q count zero k h l = refl
  from_there q count (suc left) k h l =
      (λ i. if eqb (cell q k) (cell_there count k (omega arith) l i) then from_there q count left (suc k) (omega arith) l i
      else k ∷ from_there q count left (suc k) (omega arith) l i)

  pub changes_there : (q : Bytes) (count : ℕ) → cell_at count ≤ length st → changed_below room q count ≡ changed_below st q count
  unfolding changed_below changed_time
  changes_there q count l =
      (λ i. (if eqb (last_time q) (time_there (header count l) i) then [] else no_next ∷ []) ++ from_there q count count 0 (omega arith) l i)

-- The loop over the cells: it begins with none, its places fit, and an entry has its place in the room.
pub none_yet : (st st₁ : Bytes) (room : List ℕ) (from : ℕ)
    → (from ≡ from + length (changed_from st st₁ 0 0)) × (room ≡ write_at room from (changed_from st st₁ 0 0))
unfolding changed_from write_at
none_yet st st₁ room from = (omega arith, refl)

pub cell_fits : (held k size : ℕ) → k < held → cell_at held ≤ size → cell_at k + 8 ≤ size
unfolding cell_at
cell_fits held k size h l = omega arith

pub few_cells : (held size : ℕ) → cell_at held ≤ size → size ≤ 8072 → held ≤ 1008
unfolding cell_at
few_cells held size h l = omega arith

pub entry_fits : (st st₁ : Bytes) (held k from found size : ℕ) → k < held → from + held ≤ size
    → found ≡ from + length (changed_from st st₁ 0 k) → found < size
entry_fits st st₁ held k from found size h l e = omega (arith, few st st₁ k 0)

pub loop_ends : (st st₁ : Bytes) (room list : List ℕ) (from found held k : ℕ) → k ≡ held
    → found ≡ from + length (changed_from st st₁ 0 k) → list ≡ write_at room from (changed_from st st₁ 0 k)
    → (found ≡ from + length (changed_from st st₁ 0 held)) × (list ≡ write_at room from (changed_from st st₁ 0 held))
loop_ends st st₁ room list from found held k z e f =
    (e ∙ ap (λ (j : ℕ). from + length (changed_from st st₁ 0 j)) z, f ∙ ap (λ (j : ℕ). write_at room from (changed_from st st₁ 0 j)) z)

-- The places of the whole list.
pub header_fits : (held size : ℕ) → cell_at held ≤ size → 8 ≤ size
unfolding cell_at
header_fits held size h = omega arith

one_at_most : (b : Bool) (n : ℕ) → length (entry_if b n) ≤ 1
unfolding entry_if
one_at_most true n = omega arith
one_at_most false n = omega arith

pub one_behind : {from : ℕ} (b : Bool) (n : ℕ) → from ≡ 0 + length (entry_if b n) → from ≤ 1
one_behind b n e = omega (arith, e, one_at_most b n)
