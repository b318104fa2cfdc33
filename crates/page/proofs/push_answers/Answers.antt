-- A record that is read takes six bytes or more of those that are left.
use Rattle.std.proofs.Common.{◌≡◌, ◌-◌, ◌<◌, arith, sym, length, take, drop, length-drop, false-eqb, true-eqb}
use lib.Seq.{take_all}
use Rattle.enclosures_theory.proofs.Steps.{taken, read_step, refused_step, end_step}
use Rattle.page.proofs.push_answers.Goals as goal

pub slice_bounds-rest-count : goal.slice_bounds-rest-count
slice_bounds-rest-count c = (taken _ (sym c.in-Ok.ensures.value)).1

pub slice_bounds-rest-start : goal.slice_bounds-rest-start
slice_bounds-rest-start c = omega (arith, (taken _ (sym c.in-Ok.ensures.value)).1)

pub loop-rest-smaller : goal.loop-rest-smaller
loop-rest-smaller c =
    let rest = c.loop-rest.rest.now in
    let n = c.in-Ok.n in
    let size = taken rest (sym c.in-Ok.ensures.value) in
    let left : take (length rest - n) (drop n rest) ≡ drop n rest =
    take_all (length rest - n) (drop n rest) (omega (arith, length-drop n rest)) in
    let less : length (take (length rest - n) (drop n rest)) < length rest =
    rw left (omega (arith, length-drop n rest)) in
    less

pub loop-rest-preserved : goal.loop-rest-preserved
loop-rest-preserved c =
    let rest = c.loop-rest.rest.now in
    let n = c.in-Ok.n in
    let some : 0 < length rest = omega (arith, false-eqb _ 0 c.loop-rest-test.ensures) in
    let left : take (length rest - n) (drop n rest) ≡ drop n rest =
    take_all (length rest - n) (drop n rest) (omega (arith, length-drop n rest)) in
    read_step c.loop-rest.invariant some (sym c.in-Ok.ensures.value) left c.push_answer.ensures

pub returns-in-Err : goal.returns-in-Err
returns-in-Err c =
    let some : 0 < length c.loop-rest.rest.now = omega (arith, false-eqb _ 0 c.loop-rest-test.ensures) in
    refused_step c.loop-rest.invariant some c.requires.1 (sym c.in-Err.ensures.value) c.push_answer-in-Err.ensures

pub returns : goal.returns
returns c = end_step c.loop-rest.invariant (true-eqb _ 0 c.loop-rest-test.ensures) c.requires.1
