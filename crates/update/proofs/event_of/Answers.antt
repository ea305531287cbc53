use Rattle.noted.specs.Noted.{memory_in}
use Rattle.moves.proofs.KindLaws.{low_fills}
use mathlib.Core.Path.{refl}
use Rattle.update.proofs.event_of.Goals as goal

pub evaluated-requires : goal.evaluated-requires
evaluated-requires c = (c.requires.0, c.requires.1)

pub returns-in-Some : goal.returns-in-Some
returns-in-Some c = let a = c.args in
    let k = c.requires.2.given _ c.in-Some.is in (
      k.same,
      k.number,
      refl,
      record {
        filled = low_fills a.p.now.now a.i c.requires.0.node a.rec.now.now a.env.now a.st.now (memory_in a.memo.now) k.low;
        noted = c.requires.1;
      },
    )
