use mathlib.Core.Path.{◌≡◌, sym, ◌∙◌}
use mathlib.Core.List.{◌∷◌}
use Prim.Native.Nat.{◌<◌}
use native.Mathlib.Omega.{arith}
use borrow.Author.Rules.{rules}
use Rattle.stores_theory.proofs.StoreLaws.{sets_front}
use Rattle.record_theory.specs.Layout.{bytes_of, parts_of}
use Rattle.record_theory.proofs.ByteLaws.{le_bytes}
use Rattle.record_writing.proofs.put_head.Goals as goal

pub returns : goal.returns
unfolding parts_of
returns c =
    let x = c.args.x in
    let fits : x.magnitude < 65_536 = search rules in
    let bytes : c.to_le_bytes.result ≡ bytes_of 2 x.magnitude = c.to_le_bytes.ensures ∙ le_bytes _ fits in
    rw (c.copy_from_slice.ensures.after, bytes)
    (sym (sets_front c.args.out.now (c.args.m ∷ x.model ∷ bytes_of 2 x.magnitude) (omega arith)))
