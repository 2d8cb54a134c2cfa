use Rattle.line_store.proofs.Cutting.{no_space, no_feed, line_cut, line_reads}
use Rattle.line_store.proofs.lines.next_line.Goals as goal

pub returns-in_err-name-clause-reads : goal.returns-in_err-name-clause-reads
returns-in_err-name-clause-reads c e r l = absurd (no_space c.args.text.now c.in_err-name.ensures e r l)

pub returns-in_err-body-clause-reads : goal.returns-in_err-body-clause-reads
returns-in_err-body-clause-reads c e r l = absurd (no_feed c.args.text.now c.in_ok-name.rest.now c.in_ok-name.ensures.2 c.in_err-body.ensures e r l)

pub returns-clause-cut : goal.returns-clause-cut
returns-clause-cut c =
    let s = c.in_ok-name.ensures in
    let f = c.in_ok-body.ensures in
    line_cut c.args.text.now c.in_ok-name.name.now c.in_ok-name.rest.now c.in_ok-body.body.now c.in_ok-body.rest.now s.0 s.1 s.2 f.0 f.1 f.2

pub returns-clause-reads : goal.returns-clause-reads
returns-clause-reads c =
    let s = c.in_ok-name.ensures in
    let f = c.in_ok-body.ensures in
    line_reads c.args.text.now c.in_ok-name.name.now c.in_ok-name.rest.now c.in_ok-body.body.now c.in_ok-body.rest.now s.0 s.1 s.2 f.0 f.1 f.2
