-- Code 13 by the two times that are read.
-- Assumes nothing.
use mathlib.Core.Path.{◌≡◌}
use mathlib.Core.Bool.{false, not}
use Prim.Native.Nat.{ℕ, ◌<◌, ◌≤◌}
use lib.Dec.{eqb}
use borrow.Author.Tests.{le-ltb, lt-ltb}
use Rattle.record.proofs.EventLaws.{and_false, and_true}
use Rattle.rules.specs.Bytes.{Bytes}
use Rattle.rules.specs.Layout.{last_time, time_in}
use Rattle.rules.specs.Calls.{time_wrong}

-- A time that is not before the state's is right.
pub time_on : (st rec : Bytes) {last moment : ℕ} → last ≡ last_time st → moment ≡ time_in rec → last ≤ moment → false ≡ time_wrong st rec
unfolding time_wrong
time_on st rec {last} {moment} e f h = cc (and_false (not (eqb last 4294967295)), le-ltb moment last h)

-- One before it is wrong, if the state has a time.
pub time_back : (st rec : Bytes) {last moment : ℕ} → last ≡ last_time st → moment ≡ time_in rec → moment < last
    → not (eqb last 4294967295) ≡ time_wrong st rec
unfolding time_wrong
time_back st rec {last} {moment} e f h = cc (and_true (not (eqb last 4294967295)), lt-ltb moment last h)
