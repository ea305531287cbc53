-- The room that a part of the reader leaves, from step to step.
-- Assumes nothing.
use mathlib.Core.Path.{◌≡◌, refl, ap, ◌∙◌}
use mathlib.Core.List.{List}
use Prim.Native.Nat.{ℕ, ◌+◌, ◌*◌, ◌≤◌, ◌<◌}
use native.Mathlib.Omega.{arith}
use lib.ListN.{length, get_or, set, length-set}
use lib.Seq.{get_or-set_same, get_or-set_other}
use borrow.Author.Tests.{lt-ltb}
use Rattle.phrases.specs.Gave.{Tables}
use Rattle.reader.specs.Held.{Ready, Grew, Same, Ended, begun_in}

-- At a level, a node is before the parts of a form, and they are before the form.
pub level_node : (l : ℕ) {t : ℕ} → 3 * l + 1 ≡ t → 3 * l < t
level_node l e = omega (arith, e)

pub level_part : (l : ℕ) {t : ℕ} → 3 * l + 2 ≡ t → 3 * l + 1 < t
level_part l e = omega (arith, e)

pub tables_more : (names : List ℕ) (m n : ℕ) → m ≤ n → Tables names m → Tables names n
tables_more names m n l t =
    record { long = t.long; variables = omega (arith, t.variables, l); branches = omega (arith, t.branches, l) }

-- The counts as they were: as ready.
pub ready_same : (xs ys names : List ℕ) → Ready xs names → Same xs ys → Ready ys names
ready_same xs ys names r s =
    record {
      long = s.long ∙ r.long;
      few = omega (arith, r.few, s.begun);
      rows = omega (arith, r.rows, s.begun, s.rows);
      tables = tables_more names (get_or xs 0 0) (get_or ys 0 0) (omega (arith, s.begun)) r.tables;
    }

pub grew_same : (xs ys names : List ℕ) → Ready xs names → Same xs ys → Grew xs names ys names
grew_same xs ys names r s =
    record { ready = ready_same xs ys names r s; more = omega (arith, s.begun, s.rows); not_less = omega (arith, s.begun) }

pub grew_on : (xs n ys m zs o : List ℕ) → Grew xs n ys m → Grew ys m zs o → Grew xs n zs o
grew_on xs n ys m zs o g h =
    record { ready = h.ready; more = omega (arith, g.more, h.more); not_less = omega (arith, g.not_less, h.not_less) }

-- A heading binds at most a variable and a branch's own name.
pub grew_heading : (xs n ys m : List ℕ) → Ready xs n → get_or n 0 0 < get_or xs 0 0 → get_or n 2017 0 < get_or xs 0 0 → Same xs ys → length m ≡ 4034
    → get_or m 0 0 ≤ get_or n 0 0 + 1 → get_or m 2017 0 ≤ get_or n 2017 0 + 1 → Grew xs n ys m
grew_heading xs n ys m r v b s l x y =
    record {
      ready = record {
        long = s.long ∙ r.long;
        few = omega (arith, r.few, s.begun);
        rows = omega (arith, r.rows, s.begun, s.rows);
        tables = record { long = l; variables = omega (arith, x, v, s.begun); branches = omega (arith, y, b, s.begun) };
      };
      more = omega (arith, s.begun, s.rows);
      not_less = omega (arith, s.begun);
    }

-- Where a node has begun there is room for its row.
pub room_kept : (xs n ys m : List ℕ) → get_or xs 1 0 < get_or xs 0 0 → Grew xs n ys m → get_or ys 1 0 < get_or ys 0 0
room_kept xs n ys m l g = omega (arith, l, g.more)

pub room_row : (ys m : List ℕ) → Ready ys m → get_or ys 1 0 < get_or ys 0 0 → (length ys ≡ 13118) × (get_or ys 1 0 < 1008)
room_row ys m r l = (r.long, omega (arith, l, r.few))

-- What a form leaves when it stops.
pub grew_out : (xs n ys m : List ℕ) → Grew xs n ys m
    → Ready ys m × (get_or ys 1 0 + get_or xs 0 0 ≤ get_or xs 1 0 + get_or ys 0 0 + 1) × (get_or xs 0 0 ≤ get_or ys 0 0)
grew_out xs n ys m g = (g.ready, omega (arith, g.more), g.not_less)

-- What it leaves when its row is put.
pub grew_row : (xs n ys m zs : List ℕ) → Grew xs n ys m → get_or xs 1 0 < get_or xs 0 0 → length zs ≡ length ys → get_or zs 0 0 ≡ get_or ys 0 0 → get_or zs 1 0 ≡ get_or ys 1 0 + 1
    → Ready zs m × (get_or zs 1 0 + get_or xs 0 0 ≤ get_or xs 1 0 + get_or zs 0 0 + 1) × (get_or xs 0 0 ≤ get_or zs 0 0)
grew_row xs n ys m zs g l e b r = (
  record {
    long = e ∙ g.ready.long;
    few = omega (arith, g.ready.few, b);
    rows = omega (arith, g.more, l, b, r);
    tables = tables_more m (get_or ys 0 0) (get_or zs 0 0) (omega (arith, b)) g.ready.tables;
  },
  omega (arith, g.more, b, r),
  omega (arith, g.not_less, b),
)

-- A node begins.
module _ (xs n : List ℕ) (r : Ready xs n) (l : get_or xs 0 0 < 1008) where
  is_begun : begun_in xs ≡ set xs 0 (get_or xs 0 0 + 1)
  unfolding begun_in
  is_begun = rw (lt-ltb (get_or xs 0 0) 1008 l) refl

  pub begun_long : length (begun_in xs) ≡ 13118
  begun_long = ap length is_begun ∙ length-set xs 0 (get_or xs 0 0 + 1) ∙ r.long

  pub begun_one : get_or (begun_in xs) 0 0 ≡ get_or xs 0 0 + 1
  begun_one = ap (λ (ys : List ℕ). get_or ys 0 0) is_begun ∙ get_or-set_same xs 0 (get_or xs 0 0 + 1) 0 (omega (arith, r.long))

  pub begun_at : (i : ℕ) → 0 < i → get_or (begun_in xs) i 0 ≡ get_or xs i 0
  begun_at i p = ap (λ (ys : List ℕ). get_or ys i 0) is_begun ∙ get_or-set_other xs 0 i (get_or xs 0 0 + 1) 0 (λ e. absurd (omega (arith, e, p)))

  pub begun_room : (length (begun_in xs) ≡ 13118) × (get_or (begun_in xs) 1 0 < 1008)
  begun_room = (begun_long, omega (arith, begun_at 1 (omega arith), r.rows, l))

  pub begun_names : (get_or n 0 0 ≤ 1008) × (length n ≡ 4034)
  begun_names = (omega (arith, r.tables.variables, l), r.tables.long)

  -- A form is entered: its row is still to come.
  pub entered_ready : (ys : List ℕ) → Ended (begun_in xs) ys → get_or ys 1 0 ≡ get_or (begun_in xs) 1 0 → Ready ys n
  entered_ready ys e s =
      record {
        long = e.long ∙ begun_long;
        few = omega (arith, e.begun, begun_one, l);
        rows = omega (arith, s, begun_at 1 (omega arith), e.begun, begun_one, r.rows);
        tables = tables_more n (get_or xs 0 0) (get_or ys 0 0) (omega (arith, e.begun, begun_one)) r.tables;
      }

  pub entered_room : (ys : List ℕ) → Ended (begun_in xs) ys → get_or ys 1 0 ≡ get_or (begun_in xs) 1 0
      → (get_or ys 1 0 < get_or ys 0 0) × (get_or n 0 0 < get_or ys 0 0) × (get_or n 2017 0 < get_or ys 0 0)
  entered_room ys e s = (
    omega (arith, s, begun_at 1 (omega arith), e.begun, begun_one, r.rows),
    omega (arith, e.begun, begun_one, r.tables.variables),
    omega (arith, e.begun, begun_one, r.tables.branches),
  )

  pub entered_grew : (ys zs m : List ℕ) → Ended (begun_in xs) ys → get_or ys 1 0 ≡ get_or (begun_in xs) 1 0 → Ready zs m
      → get_or zs 1 0 + get_or ys 0 0 ≤ get_or ys 1 0 + get_or zs 0 0 + 1 → get_or ys 0 0 ≤ get_or zs 0 0 → Grew xs n zs m
  entered_grew ys zs m e s q a b =
      record {
        ready = q;
        more = omega (arith, a, s, begun_at 1 (omega arith), e.begun, begun_one);
        not_less = omega (arith, b, e.begun, begun_one);
      }

  -- Or a word is read: its row is there, or the text is not read.
  pub ended_grew : (ys : List ℕ) → Ended (begun_in xs) ys → Grew xs n ys n
  ended_grew ys e =
      record {
        ready = record {
          long = e.long ∙ begun_long;
          few = omega (arith, e.begun, begun_one, l);
          rows = omega (arith, e.rows, begun_at 1 (omega arith), e.begun, begun_one, r.rows);
          tables = tables_more n (get_or xs 0 0) (get_or ys 0 0) (omega (arith, e.begun, begun_one)) r.tables;
        };
        more = omega (arith, e.rows, begun_at 1 (omega arith), e.begun, begun_one);
        not_less = omega (arith, e.begun, begun_one);
      }

pub same_still : (xs : List ℕ) → Same xs xs
same_still xs = record { long = refl; begun = refl; rows = refl }

-- The tables of a form that begins have room for one name more.
pub tables_one : (xs n : List ℕ) → Ready xs n → get_or n 0 0 < get_or xs 0 0 → get_or n 2017 0 < get_or xs 0 0 → Tables n 1007
tables_one xs n r a b = record { long = r.tables.long; variables = omega (arith, a, r.few); branches = omega (arith, b, r.few) }
