use Rattle.wire.specs.Lines.{header_line}
use mathlib.Core.Path.{sym, ap, ◌∙◌}
use Rattle.wire.proofs.header.header.Goals as goal

pub returns-in-Check : goal.returns-in-Check
unfolding header_line
returns-in-Check c =
    let e = c.check_header.ensures in
    record { prefix_len = e.prefix_len; line_after = e.line_after ∙ sym (ap header_line c.in-Check.is) }

pub returns-in-Start : goal.returns-in-Start
unfolding header_line
returns-in-Start c =
    let e = c.start_header.ensures in
    record { prefix_len = e.prefix_len; line_after = e.line_after ∙ sym (ap header_line c.in-Start.is) }

pub returns-in-Run : goal.returns-in-Run
unfolding header_line
returns-in-Run c =
    let e = c.run_header.ensures in
    record { prefix_len = e.prefix_len; line_after = e.line_after ∙ sym (ap header_line c.in-Run.is) }

pub returns-in-Watch : goal.returns-in-Watch
unfolding header_line
returns-in-Watch c =
    let e = c.watch_header.ensures in
    record { prefix_len = e.prefix_len; line_after = e.line_after ∙ sym (ap header_line c.in-Watch.is) }

pub returns-in-Chain : goal.returns-in-Chain
unfolding header_line
returns-in-Chain c =
    let e = c.chain_header.ensures in
    record { prefix_len = e.prefix_len; line_after = e.line_after ∙ sym (ap header_line c.in-Chain.is) }

pub returns-in-Mend : goal.returns-in-Mend
unfolding header_line
returns-in-Mend c =
    let e = c.mend_header.ensures in
    record { prefix_len = e.prefix_len; line_after = e.line_after ∙ sym (ap header_line c.in-Mend.is) }

pub returns-in-Tidy : goal.returns-in-Tidy
unfolding header_line
returns-in-Tidy c =
    let e = c.tidy_header.ensures in
    record { prefix_len = e.prefix_len; line_after = e.line_after ∙ sym (ap header_line c.in-Tidy.is) }

pub returns-in-Pair : goal.returns-in-Pair
unfolding header_line
returns-in-Pair c =
    let e = c.pair_header.ensures in
    record { prefix_len = e.prefix_len; line_after = e.line_after ∙ sym (ap header_line c.in-Pair.is) }

pub returns-in-Read : goal.returns-in-Read
unfolding header_line
returns-in-Read c =
    let e = c.read_header.ensures in
    record { prefix_len = e.prefix_len; line_after = e.line_after ∙ sym (ap header_line c.in-Read.is) }

pub returns-in-Print : goal.returns-in-Print
unfolding header_line
returns-in-Print c =
    let e = c.print_header.ensures in
    record { prefix_len = e.prefix_len; line_after = e.line_after ∙ sym (ap header_line c.in-Print.is) }
