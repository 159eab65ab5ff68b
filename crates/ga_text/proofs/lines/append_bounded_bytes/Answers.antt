use Rattle.std.proofs.Common.{◌≡◌, ℕ, ◌+◌, ◌++◌, length, take, ap, ◌∙◌, arith, length-take}
use Rattle.ga_text.proofs.Taking.{kept_bytes, where_ok}
use Rattle.ga_text.proofs.lines.append_bounded_bytes.Goals as goal

pub returns : goal.returns
returns c =
    let room : c.remaining_capacity.result + length c.args.line.now.items ≡ 201 = c.remaining_capacity.ensures in
    where_ok _ _ (c.try_extend_from_slice-fits.ensures.variant.1 (omega (arith, room, c.min-count.ensures, length-take c.min-count.result c.args.bytes.now)))
    c.try_extend_from_slice-fits.ensures.ok
    ∙ ap (λ (n : ℕ). c.args.line.now.items ++ take n c.args.bytes.now) c.min-count.ensures
    ∙ kept_bytes c.args.line.now.items c.args.bytes.now c.remaining_capacity.result room
