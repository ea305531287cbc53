-- The pass that writes the nodes' rows behind the numbers: it spoils no number and no other row.
-- Assumes nothing.
use mathlib.Core.Path.{◌≡◌, refl, sym, ap, ◌∙◌}
use mathlib.Core.List.{List}
use Prim.Native.Nat.{ℕ, ◌+◌, ◌*◌, ◌/◌, ◌%◌, ◌≤◌, ◌<◌}
use native.Mathlib.Omega.{arith}
use lib.ListN.{length, length-set, get_or, set}
use lib.Seq.{get_or-set_same, get_or-set_other}
use Rattle.rules.specs.Bytes.{Bytes, u16_at}
use Rattle.rules.specs.Layout.{nodes, most_nodes, record_at, block_at, type_at, a_at, b_at, c_at}
use Rattle.rules.specs.Values.{packed, value_from}
use Rattle.rules.specs.Node.{IsNode}
use Rattle.rules.specs.declared.Node.{Node}
use Rattle.rules.specs.Shaped.{Shaped}
use Rattle.rules.proofs.Signals.{group_kids, branch_next}
use Rattle.rules.proofs.ByKind.{choose}
use Rattle.cells.specs.Indexed.{Numbers, Listed, table_room, value_at, Row, Stored, Spread, Outside, Elsewhere, Indexed}

-- What a write leaves.
pub stores : (l : List ℕ) (at x : ℕ) → at < length l → Stored l at x (set l at x)
stores l at x h =
    record {
      long = length-set l at x;
      here = get_or-set_same l at x 0 h;
      other = λ q d. get_or-set_other l at q x 0 d;
    }

-- Four writes of a value's parts.
pub spreads : {l l1 l2 l3 l4 : List ℕ} (at v low high : ℕ) → low ≡ v % 4294967296 → high ≡ v / 4294967296
    → Stored l at (low % 65536) l1 → Stored l1 (at + 1) (low / 65536) l2 → Stored l2 (at + 2) (high % 65536) l3 → Stored l3 (at + 3) (high / 65536) l4
    → Spread l at v l4
spreads {l} {l1} {l2} {l3} {l4} at v low high el eh a b c d =
    record {
      long = d.long ∙ c.long ∙ b.long ∙ a.long;
      here = omega (arith, el, eh, first, second, third, d.here);
      other = λ q out.
          d.other q (λ e. out 3 (omega arith) e) ∙ c.other q (λ e. out 2 (omega arith) e)
          ∙ b.other q (λ e. out 1 (omega arith) e) ∙ a.other q (λ e. out 0 (omega arith) (e ∙ (let z : at ≡ at + 0 = omega arith in z)));
    }
  where
    first : get_or l4 at 0 ≡ low % 65536
    first = d.other at (λ e. omega (arith, e)) ∙ c.other at (λ e. omega (arith, e)) ∙ b.other at (λ e. omega (arith, e)) ∙ a.here

    second : get_or l4 (at + 1) 0 ≡ low / 65536
    second = d.other (at + 1) (λ e. omega (arith, e)) ∙ c.other (at + 1) (λ e. omega (arith, e)) ∙ b.here

    third : get_or l4 (at + 2) 0 ≡ high % 65536
    third = d.other (at + 2) (λ e. omega (arith, e)) ∙ c.here

-- A record's place is a number of two bytes.
pub place_small : (i : ℕ) → i < most_nodes → record_at i < 65536
unfolding record_at block_at
place_small i h = omega arith

-- A value's places are none of the columns'.
apart : (i q k : ℕ) → q < 6048 → k < 4 → q ≡ (6048 + 4 * i) + k → ⊥
apart i q k h l e = omega (arith, h, e)

-- The row of node i, its fields stored one by one.
pub row_put : (p : Bytes) (i : ℕ) {l l1 l2 l3 l4 l5 l6 : List ℕ} {n : Node} {k t a b c v at : ℕ} → i < 1008 → at ≡ record_at i → IsNode p i n → n.kind < 256 → n.ty < 256
    → k ≡ n.kind → t ≡ n.ty → a ≡ u16_at p (at + 2) → b ≡ u16_at p (at + 4) → c ≡ u16_at p (at + 6) → v ≡ packed (value_from n.ty b n.word)
    → Stored l (1008 + i) k l1 → Stored l1 (2016 + i) t l2 → Stored l2 (3024 + i) a l3 → Stored l3 (4032 + i) b l4 → Stored l4 (5040 + i) c l5
    → Spread l5 (6048 + 4 * i) v l6 → Row p l6 i × Elsewhere i l l6
unfolding a_at b_at c_at
row_put p i {l} {l1} {l2} {l3} {l4} {l5} {l6} {n} {k} {t} {a} {b} {c} {v} {at} small place is ks ts ek et ea eb ec ev s1 s2 s3 s4 s5 s6 = (
  record {
    kind_is =
        s6.other (1008 + i) (λ j. apart i (1008 + i) j (omega (arith, small))) ∙ s5.other (1008 + i) (λ e. omega (arith, e)) ∙ s4.other (1008 + i) (λ e. omega (arith, e))
        ∙ s3.other (1008 + i) (λ e. omega (arith, e)) ∙ s2.other (1008 + i) (λ e. omega (arith, e)) ∙ s1.here ∙ ek ∙ is.kind_is;
    type_is =
        s6.other (2016 + i) (λ j. apart i (2016 + i) j (omega (arith, small))) ∙ s5.other (2016 + i) (λ e. omega (arith, e)) ∙ s4.other (2016 + i) (λ e. omega (arith, e))
        ∙ s3.other (2016 + i) (λ e. omega (arith, e)) ∙ s2.here ∙ et ∙ is.type_is;
    a_is =
        s6.other (3024 + i) (λ j. apart i (3024 + i) j (omega (arith, small))) ∙ s5.other (3024 + i) (λ e. omega (arith, e)) ∙ s4.other (3024 + i) (λ e. omega (arith, e))
        ∙ s3.here ∙ ea ∙ ap (λ (j : ℕ). u16_at p (j + 2)) place;
    b_is = s6.other (4032 + i) (λ j. apart i (4032 + i) j (omega (arith, small))) ∙ s5.other (4032 + i) (λ e. omega (arith, e)) ∙ s4.here ∙ b_same;
    c_is = s6.other (5040 + i) (λ j. apart i (5040 + i) j (omega (arith, small))) ∙ s5.here ∙ ec ∙ ap (λ (j : ℕ). u16_at p (j + 6)) place;
    value_is = s6.here ∙ ev ∙ ap (λ (x : ℕ). packed (value_from x b n.word)) is.type_is ∙ ap (λ (x : ℕ). packed (value_from (type_at p i) x n.word)) b_same
        ∙ ap (λ (x : ℕ). packed (value_from (type_at p i) (b_at p i) x)) is.word_is;
    small = (omega (arith, ks, is.kind_is), omega (arith, ts, is.type_is));
  },
  record {
    long = s6.long ∙ s5.long ∙ s4.long ∙ s3.long ∙ s2.long ∙ s1.long;
    kept = λ q out.
        s6.other q (λ j h e. out.values j h e)
        ∙ s5.other q (λ e. out.columns 5 (omega arith) (omega arith) (omega (arith, e))) ∙ s4.other q (λ e. out.columns 4 (omega arith) (omega arith) (omega (arith, e)))
        ∙ s3.other q (λ e. out.columns 3 (omega arith) (omega arith) (omega (arith, e))) ∙ s2.other q (λ e. out.columns 2 (omega arith) (omega arith) (omega (arith, e)))
        ∙ s1.other q (λ e. out.columns 1 (omega arith) (omega arith) (omega (arith, e)));
  },
)
  where
    b_same : b ≡ u16_at p (record_at i + 4)
    b_same = eb ∙ ap (λ (j : ℕ). u16_at p (j + 4)) place

-- The places of another row, and those of the numbers.
column_out : (q i n m : ℕ) → i < 1008 → n < 1008 → (i ≡ n → ⊥) → 1 ≤ m → m ≤ 5 → q ≡ 1008 * m + i → Outside n q
column_out q i n m hi hn d lo up e =
    record {
      columns = λ k l u x. d (omega (arith, hi, hn, e, x));
      values = λ k l x. omega (arith, hi, up, e, x);
    }

value_out : (q i n j : ℕ) → (i ≡ n → ⊥) → n < 1008 → j < 4 → q ≡ (6048 + 4 * i) + j → Outside n q
value_out q i n j d hn h e =
    record {
      columns = λ k l u x. omega (arith, e, x, u, hn);
      values = λ k l x. d (omega (arith, h, l, e, x));
    }

number_out : (q n : ℕ) → q < 1008 → Outside n q
number_out q n h =
    record {
      columns = λ k l u x. omega (arith, h, l, x);
      values = λ k l x. omega (arith, h, x);
    }

-- A row is kept where another is put.
row_kept : (p : Bytes) (l m : List ℕ) (i n : ℕ) → i < 1008 → n < 1008 → (i ≡ n → ⊥) → Elsewhere n l m → Row p l i → Row p m i
row_kept p l m i n hi hn d x r =
    record {
      kind_is = x.kept (1008 + i) (column_out (1008 + i) i n 1 hi hn d (omega arith) (omega arith) (omega arith)) ∙ r.kind_is;
      type_is = x.kept (2016 + i) (column_out (2016 + i) i n 2 hi hn d (omega arith) (omega arith) (omega arith)) ∙ r.type_is;
      a_is = x.kept (3024 + i) (column_out (3024 + i) i n 3 hi hn d (omega arith) (omega arith) (omega arith)) ∙ r.a_is;
      b_is = x.kept (4032 + i) (column_out (4032 + i) i n 4 hi hn d (omega arith) (omega arith) (omega arith)) ∙ r.b_is;
      c_is = x.kept (5040 + i) (column_out (5040 + i) i n 5 hi hn d (omega arith) (omega arith) (omega arith)) ∙ r.c_is;
      value_is = same ∙ r.value_is;
      small = r.small;
    }
  where
    part0 : get_or m (6048 + 4 * i) 0 ≡ get_or l (6048 + 4 * i) 0
    part0 = x.kept (6048 + 4 * i) (value_out (6048 + 4 * i) i n 0 d hn (omega arith) (omega arith))

    part1 : get_or m (6048 + 4 * i + 1) 0 ≡ get_or l (6048 + 4 * i + 1) 0
    part1 = x.kept (6048 + 4 * i + 1) (value_out (6048 + 4 * i + 1) i n 1 d hn (omega arith) (omega arith))

    part2 : get_or m (6048 + 4 * i + 2) 0 ≡ get_or l (6048 + 4 * i + 2) 0
    part2 = x.kept (6048 + 4 * i + 2) (value_out (6048 + 4 * i + 2) i n 2 d hn (omega arith) (omega arith))

    part3 : get_or m (6048 + 4 * i + 3) 0 ≡ get_or l (6048 + 4 * i + 3) 0
    part3 = x.kept (6048 + 4 * i + 3) (value_out (6048 + 4 * i + 3) i n 3 d hn (omega arith) (omega arith))

    same : value_at m (6048 + 4 * i) ≡ value_at l (6048 + 4 * i)
    same = omega (arith, part0, part1, part2, part3)

-- A table on its way: so many rows are written, and the numbers are those of the table before.
pub record Filling (p : Bytes) (n : ℕ) (before index : List ℕ) : Type 0 where
  pub long : length index ≡ length before
  pub numbers : (i : ℕ) → i < most_nodes → get_or index i 0 ≡ get_or before i 0
  pub rows : (i : ℕ) → i < n → Row p index i

pub filling : (p : Bytes) (before : List ℕ) → Filling p 0 before before
filling p before = record { long = refl; numbers = λ i h. refl; rows = λ i h. absurd (omega (arith, h)) }

-- One row more.
pub filled : (p : Bytes) (before l m : List ℕ) (n : ℕ) → n < 1008 → Row p m n × Elsewhere n l m → Filling p n before l → Filling p (n + 1) before m
filled p before l m n h r x =
    record {
      long = r.1.long ∙ x.long;
      numbers = λ i u. r.1.kept i (number_out i n u) ∙ x.numbers i u;
      rows = λ i u.
          choose i n
          (λ q. rw q r.0)
          (λ d. row_kept p l m i n (omega (arith, u, h)) h d r.1 (x.rows i (omega (arith, u, d))));
    }

-- With all rows the table is whole.
pub whole : (p : Bytes) (before index : List ℕ) (count : ℕ) → Shaped p → count ≡ nodes p → table_room ≤ length before
    → Listed p before → Numbers p before → Filling p count before index → Indexed p index
whole p before index count s e far x n y =
    record {
      once = x.once;
      room = omega (arith, s.small, e, far, y.long);
      numbers = λ i w. y.numbers i (omega (arith, w.inside, s.small)) ∙ n i w;
      firsts = λ i w k. y.numbers _ (near _ (group_kids p i w k).1.node.inside) ∙ x.firsts i w k;
      follows = λ i w d.
          y.numbers _ (near _ (branch_next p i w d).node.inside) ∙ x.follows i w d ∙ sym (y.numbers i (near i w.inside));
      far = omega (arith, e, far, y.long);
      rows = λ i h. y.rows i (omega (arith, e, h));
    }
  where
    near : (i : ℕ) → i < nodes p → i < most_nodes
    near i h = omega (arith, h, s.small)
