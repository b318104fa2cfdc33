-- The first line, the lines of the records and the last line are the page.
use Rattle.enclosures_theory.specs.Output.{lines_of}
use Rattle.page.proofs.push_page.Goals as goal

pub returns : goal.returns
unfolding lines_of
returns c =
    let all = rw (c.push_text.ensures, c.requires.0) at c.push_answers-count.ensures.bytes in
    rw (c.push_count.ensures, all)
