use mathlib.Core.Path.{sym, ◌∙◌}
use native.Mathlib.Omega.{arith}
use Rattle.toolbox_theory.proofs.Results.{passed_on}
use Rattle.scenario_theory.proofs.CheckedLaws.{passed}
use Rattle.record_theory.proofs.Agreement.{written_passes}
use Rattle.record_theory.proofs.ReadBack.{length_written}
use Rattle.record_theory.proofs.Stores.{record_length, record_stores}
use Rattle.record_theory.proofs.WritingLaws.{refused_by_fields, no_room, is_written}
use Rattle.record_writing.proofs.write.Goals as goal

-- refused by a check of the fields
pub returns-in_err-check : goal.returns-in_err-check
returns-in_err-check c =
    let k = refused_by_fields _ c.args.out.now (sym c.check.ensures ∙ c.in_err-check.was) in
    let told = passed_on c.from_residual.ensures in
    record { value = told ∙ k.0; write_promise = rw told k.1.0; out_after = k.1.1 }

pub record_length-n-requires : goal.record_length-n-requires
record_length-n-requires c = rw c.map_byte-m.ensures (written_passes c.args.x)

-- and by the length of what is lent
pub returns-then-out-n : goal.returns-then-out-n
returns-then-out-n c =
    let e = (passed _ (sym c.check.ensures ∙ c.in_ok-check.was)).accepted in
    let size = length_written c.args.x c.record_length-n.ensures c.map_byte-m.ensures in
    let k = no_room c.args.x c.args.out.now e size c.if-out-n.true in
    record { value = k.0; write_promise = k.1.0; out_after = k.1.1 }

pub put_head-requires : goal.put_head-requires
put_head-requires c =
    let x = c.args.x in
    omega (arith, record_length x, length_written x c.record_length-n.ensures c.map_byte-m.ensures)

pub put_middle-period_at-requires : goal.put_middle-period_at-requires
put_middle-period_at-requires c =
    let x = c.args.x in
    omega (arith, record_length x, length_written x c.record_length-n.ensures c.map_byte-m.ensures)

pub put_end-requires : goal.put_end-requires
put_end-requires c =
    let x = c.args.x in
    let size = length_written x c.record_length-n.ensures c.map_byte-m.ensures in
    omega (arith, record_length x, size, c.put_middle-period_at.ensures.place)

pub returns : goal.returns
returns c =
    let x = c.args.x in
    let e = (passed _ (sym c.check.ensures ∙ c.in_ok-check.was)).accepted in
    let size = length_written x c.record_length-n.ensures c.map_byte-m.ensures in
    let stores =
    record_stores x _ c.args.out.now c.map_byte-m.ensures c.put_head.ensures c.put_middle-period_at.ensures
    c.put_end.ensures in
    let k = is_written x c.args.out.now e size (omega arith) (stores (omega arith)) in
    record { value = k.0; write_promise = k.1.0; out_after = k.1.1 }
