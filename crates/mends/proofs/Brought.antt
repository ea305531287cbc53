-- A state of an accepted program, of the right length and sum, is brought back.
-- Assumes nothing.
use Rattle.rules.specs.Verdicts.{accepted_with}
use Rattle.std.specs.Prelude.{if◌then◌else◌, Ok}
use mathlib.Core.Path.{◌≡◌, refl, sym, ap, subst, ◌∙◌}
use mathlib.Core.Bool.{Bool, true, false}
use mathlib.Core.List.{List, [], ◌∷◌}
use Prim.Native.Nat.{ℕ, suc, ◌≤◌, ◌<◌}
use native.Mathlib.Omega.{arith}
use lib.Dec.{eqb, leb, ltb}
use lib.ListN.{length}
use borrow.Author.Tests.{eq-eqb, ne_eqb, lt-ltb}
use Rattle.rules.specs.Bytes.{Bytes, write_at, ◌or◌}
use Rattle.rules.specs.Layout.{most_nodes, no_next, cells, type_at, cell, cell_at, state_length, checks_of, sum_in, last_time, no_time, set_time}
use Rattle.rules.specs.Tree.{Signal, root}
use Rattle.rules.specs.WellFormed.{well_formed, well_s, last_moment}
use Rattle.rules.specs.Accepted.{Accepted}
use Rattle.rules.specs.Calls.{program_verdict, check_call, run_call}
use Rattle.rules.proofs.Static.{or_left}
use Rattle.rules.proofs.Counting.{one}
use Rattle.rules.proofs.Rooted.{some_node}
use Rattle.rules.proofs.CellsOnce.{cells_stand}
use Rattle.rules.proofs.Verdicts.{accepted}
use Rattle.promises.specs.Small.{Small}
use Rattle.promises.specs.Seated.{Seated}
use Rattle.rules.specs.Size.{times_s}
use Rattle.promises.proofs.Rests.{Became}
use Rattle.promises.proofs.SmallLaws.{small_set_time}
use Rattle.promises.proofs.Moment.{time_same, sum_after, cell_stays, length_set_time}
use Rattle.promises.proofs.Steps.{Well, well_parts, parts_well}
use Rattle.promises.proofs.FromTable.{seated}
use Rattle.mission.specs.Mission.{Finishes}
use Rattle.mission.proofs.Demands.{run_demands}
use Rattle.mends.specs.Mend.{mend_s, time_fits, mend_time, mended}
use Rattle.mends.specs.Changes.{changed_from, changed_time, changed_below, changes}
use Rattle.mends.specs.MendCall.{MendOutcome, mend_call}
use Rattle.mends.specs.Parts.{Inside, Current, HasCell, valid_for, start_of, Standing}
use Rattle.mends.specs.Mends.{ListsChanges, CellByCell, Follow, BringsBack}
use Rattle.mends.proofs.WellMended.{mend_well}
use Rattle.mends.proofs.Untouched.{mend_same}
use Rattle.mends.proofs.Listing.{lists_changes, room_enough, nothing_changed}
use Rattle.mends.proofs.Ways.{other_at_start, way_found}
use Rattle.mends.proofs.ByCell.{kept_or_start, by_way}
use Rattle.mends.proofs.CallLaws.{all_right}

-- The time, and the cells that it leaves.
record Timed (st q : Bytes) : Type 0 where
  long : length q ≡ length st
  bytes : Small q
  fits : time_fits q ≡ true
  stamp : sum_in q ≡ sum_in st
  moment : last_time q ≡ (if time_fits st then last_time st else no_time)
  same : (k : ℕ) → cell q k ≡ cell st k

four_or_more : (k : ℕ) → 4 ≤ cell_at k
unfolding cell_at
four_or_more k = omega arith

set_fits : (st : Bytes) → 4 ≤ length st → time_fits (set_time st no_time) ≡ true
unfolding time_fits
set_fits st l = or_left _ _ (eq-eqb _ _ (time_same st no_time l (omega arith)))

timed : (st : Bytes) → 4 ≤ length st → Small st → Timed st (mend_time st)
unfolding mend_time
timed st l h = go (time_fits st) refl
  where
    go : (b : Bool) → time_fits st ≡ b → Timed st (if b then st else set_time st no_time)
    go true e = record { long = refl; bytes = h; fits = e; stamp = refl; moment = rw e refl; same = λ k. refl }
    go false e = record {
      long = length_set_time st no_time;
      bytes = small_set_time st no_time h;
      fits = set_fits st l;
      stamp = sum_after st no_time;
      moment = time_same st no_time l (omega arith) ∙ rw e refl;
      same = λ k. cell_stays st no_time k;
    }

kept_valid : (z : Signal) (m : ℕ) → valid_for z m ≡ true → kept_or_start z m ≡ m
unfolding kept_or_start
kept_valid z m e = ap (λ (b : Bool). if b then m else start_of z) e

begun_invalid : (z : Signal) (m : ℕ) → valid_for z m ≡ false → kept_or_start z m ≡ start_of z
unfolding kept_or_start
begun_invalid z m e = ap (λ (b : Bool). if b then m else start_of z) e

-- What is listed, with the time in front.
in_front : (p st q : Bytes) → ListsChanges p st q (changes p st q)
unfolding changes changed_below changed_time
in_front p st q =
    let w = lists_changes st q p in
    record {
      listed = changed_from st q 0 (cells p);
      rising = w.rising;
      changed = w.changed;
      all = w.all;
      time_kept = λ e. rw (eq-eqb (last_time q) (last_time st) e) refl;
      time_changed = λ d. rw (ne_eqb (last_time q) (last_time st) d) refl;
    }

-- Every cell of a state is a node's.
each_stands : (p : Bytes) → Accepted p → (k : ℕ) → k < cells p → Standing k (root p)
each_stands p a k h =
    let e : times_s k (root p) ≡ one (ltb k (cells p)) = cells_stand p a.formed.length_right a.shape_right (some_node p a.formed) k in
    way_found (root p) k (λ z. let f : one (ltb k (cells p)) ≡ 1 = ap one (lt-ltb k (cells p) h) in omega (arith, e, f, z))

nothing_written : (room : List ℕ) → write_at room 0 [] ≡ room
unfolding write_at
nothing_written room = refl

module _ (p st : Bytes) (hp : Small p) (a : Accepted p) (h : Small st) (l : length st ≡ state_length p) (q : sum_in st ≡ checks_of p) where
  seat : Seated p
  seat = seated p hp a

  time_there : Timed st (mend_time st)
  unfolding state_length
  time_there = timed st (subst (λ (n : ℕ). 4 ≤ n) (sym l) (four_or_more (cells p))) h

  walked : Became (λ j. times_s j (root p)) (λ r. well_s r (root p)) (mend_time st) (mended p st)
  unfolding mended state_length
  walked = mend_well most_nodes (cells p) (type_at p) (root p) seat.sits seat.once (mend_time st) time_there.bytes (time_there.long ∙ l)

  mended_well : well_formed p (mended p st) ≡ true
  unfolding time_fits
  mended_well = parts_well p (mended p st) (record {
    long = walked.kept.long ∙ time_there.long ∙ l;
    stamped = walked.kept.stamp ∙ time_there.stamp ∙ q;
    moment = ap (λ (m : ℕ). eqb m no_time or leb m last_moment) walked.kept.moment ∙ time_there.fits;
    parts = walked.holds;
  })

  from_time : (k : ℕ) (z : Signal) → HasCell z k → (w : Inside z (root p)) → Current (mended p st) w → cell (mended p st) k ≡ kept_or_start z (cell st k)
  unfolding mended state_length
  from_time k z own w now =
      by_way most_nodes (cells p) (type_at p) w seat.sits seat.once (mend_time st) time_there.bytes (time_there.long ∙ l) k own now
      ∙ ap (kept_or_start z) (time_there.same k)

  by_cell : CellByCell p st (mended p st)
  by_cell = record {
    each = λ k g. each_stands p a k g;
    kept = λ k z own w now v. from_time k z own w now ∙ kept_valid z (cell st k) v;
    begun = λ k z own w now v. from_time k z own w now ∙ begun_invalid z (cell st k) v;
    elsewhere = λ k z own w d. other_at_start w (mended p st) k walked.holds own d;
  }

-- A well-formed state is not touched.
same_when_well : (p st : Bytes) → Small p → Accepted p → Small st → well_formed p st ≡ true → mended p st ≡ st
unfolding mended mend_time time_fits
same_when_well p st hp a h w =
    let r = well_parts p st w in
    let seat = seated p hp a in
    ap (λ (b : Bool). mend_s (root p) (if b then st else set_time st no_time)) r.moment
    ∙ mend_same most_nodes (cells p) (type_at p) st h (root p) seat.sits r.parts

-- A run of records that follow: demand 3 of a well-formed state.
run_on : (p st recs out : Bytes) (n : ℕ) (count held most type : ℕ) → Small p → Small st → Small recs → well_formed p st ≡ true
    → check_call p ≡ accepted_with count held most type → Follow st recs out n
    → Finishes p st recs n (run_call p st recs out).answer (run_call p st recs out).state (run_call p st recs out).output count most type
run_on p st recs out n count held most type hp hs hr w c f =
    (run_demands p st recs out hp hs hr refl refl refl).finishes count held most type n c (record {
      state = w;
      whole = f.whole;
      few = f.few;
      right = f.right;
      forward = f.forward;
      onward = f.onward;
      room = f.room;
    })

-- A well-formed state mended: nothing is changed and nothing listed.
nothing_listed : (p st : Bytes) (room : List ℕ) → Small p → program_verdict p ≡ Ok tt → Small st → well_formed p st ≡ true → length room ≡ suc (cells p)
    → mend_call p st room ≡ record { answer = Ok 0; state = st; list = room }
nothing_listed p st room hp v h w e =
    let r = well_parts p st w in
    let same = same_when_well p st hp (accepted p v) h w in
    let none : changes p st (mended p st) ≡ [] = ap (changes p st) same ∙ nothing_changed p st in
    all_right p st room v r.long r.stamped e
    ∙ (λ i. record { answer = Ok (length (none i)); state = same i; list = write_at room 0 (none i) })
    ∙ ap (λ (t : List ℕ). record { answer = Ok 0; state = st; list = t }) (nothing_written room)

module _ (p st : Bytes) (room : List ℕ) (hp : Small p) (v : program_verdict p ≡ Ok tt) (h : Small st) (l : length st ≡ state_length p)
    (q : sum_in st ≡ checks_of p) (e : length room ≡ suc (cells p)) where
  outcome : MendOutcome
  outcome =
      record { answer = Ok (length (changes p st (mended p st))); state = mended p st; list = write_at room 0 (changes p st (mended p st)) }

  outcome_brings : BringsBack p st room outcome
  unfolding outcome
  outcome_brings =
      let a = accepted p v in
      let well = mended_well p st hp a h l q in
      let w = walked p st hp a h l q in
      let t = time_there p st hp a h l q in
      record {
        well = well;
        long = w.kept.long ∙ t.long;
        moment = w.kept.moment ∙ t.moment;
        cell_by_cell = by_cell p st hp a h l q;
        list = changes p st (mended p st);
        lists = in_front p st (mended p st);
        answered = refl;
        fits = omega (arith, room_enough st (mended p st) p, e);
        written = refl;
        untouched = λ u. let same = same_when_well p st hp a h u in (same, ap (changes p st) same ∙ nothing_changed p st);
        again = λ room₁ f. nothing_listed p (mended p st) room₁ hp v w.kept.bytes well f;
        runs_on = λ count held most type c recs out n hr f. run_on p (mended p st) recs out n count held most type hp w.kept.bytes hr well c f;
      }

  pub brings_back : BringsBack p st room (mend_call p st room)
  unfolding outcome
  brings_back = subst (BringsBack p st room) (sym (all_right p st room v l q e)) outcome_brings
