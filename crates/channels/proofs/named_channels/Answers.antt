use Rattle.channels.proofs.NamedLaws.{bits_are}
use Rattle.channels.proofs.named_channels.Goals as goal

pub returns : goal.returns
returns c = bits_are c.args.p.now c.count_nodes-n.ensures.0
    c.bit.ensures.0 c.bit-2.ensures.0 c.bit-3.ensures.0 c.bit-4.ensures.0
    c.bit-5.ensures.0 c.bit-6.ensures.0 c.bit-7.ensures.0 c.bit-8.ensures.0
