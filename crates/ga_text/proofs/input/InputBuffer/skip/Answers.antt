use Rattle.std.proofs.Common.{◌≡◌, ◌+◌, ◌-◌, ℕ, List, length, drop, ap, ◌∙◌, arith, length-take}
use Rattle.std.specs.Prelude.{slice_range}
use Rattle.ga_text.specs.Input.{UnreadInput}
use Rattle.ga_text.proofs.Taking.{range_behind}
use Rattle.ga_text.proofs.input.InputBuffer.skip.Goals as goal

bytes_of : UnreadInput → List ℕ
bytes_of u = u.bytes

pub returns-clause-bytes : goal.returns-clause-bytes
unfolding bytes_of
returns-clause-bytes c =
    let u = c.self.inside in
    let bytes : slice_range u.block u.start u.«end» ≡ c.args.self.now.bytes = ap bytes_of c.self.view_is in
    range_behind u.block u.start u.«end» c.args.count (omega (arith, c.requires.within, ap length bytes, length-take (u.«end» - u.start) (drop u.start u.block)))
    ∙ ap (drop (c.args.count + 1)) bytes
