use native.Mathlib.Omega.{arith}
use Rattle.lines.specs.Channels.{bit_on, channel_words}
use Rattle.lines.proofs.PenLaws.{puts_behind}
use Rattle.lines.proofs.pen.Pen.channel_words.Goals as goal

pub returns : goal.returns
unfolding bit_on channel_words
returns c =
    let s1 = c.channel_word.ensures.upper_bound in
    let s2 = c.channel_word-2.ensures.upper_bound in
    let s3 = c.channel_word-3.ensures.upper_bound in
    let s4 = c.channel_word-4.ensures.upper_bound in
    let s5 = c.channel_word-5.ensures.upper_bound in
    let s6 = c.channel_word-6.ensures.upper_bound in
    let s7 = c.channel_word-7.ensures.upper_bound in
    let s8 = c.channel_word-8.ensures.upper_bound in
    let two = puts_behind c.channel_word.ensures.puts c.channel_word-2.ensures.puts in
    let four = puts_behind (puts_behind two c.channel_word-3.ensures.puts) c.channel_word-4.ensures.puts in
    let six = puts_behind (puts_behind four c.channel_word-5.ensures.puts) c.channel_word-6.ensures.puts in
    record { puts = puts_behind (puts_behind six c.channel_word-7.ensures.puts) c.channel_word-8.ensures.puts; upper_bound = omega arith }
