use Rattle.std.proofs.Common.{◌≡◌, ℕ, List, take, sym, ap, ◌∙◌, arith, length-take}
use Rattle.std.specs.Prelude.{slice_range}
use Rattle.ga_text.specs.Input.{UnreadInput}
use Rattle.ga_text.proofs.Taking.{range_at_feed}
use Rattle.ga_text.proofs.input.InputBuffer.read_buffered_line.Goals as goal

bytes_of : UnreadInput → List ℕ
bytes_of u = u.bytes

taken_of : UnreadInput → ℕ
taken_of u = u.taken

pub returns-in-Some-clause-takes : goal.returns-in-Some-clause-takes
unfolding bytes_of taken_of
returns-in-Some-clause-takes c =
    let found = c.in-Some.ensures.found in
    let u = c.self.inside in
    let ahead : List ℕ = slice_range u.block u.start u.«end» in
    let bytes : ahead ≡ c.args.self.now.bytes = ap bytes_of c.self.view_is in
    let taken : u.taken ≡ c.args.self.now.taken = ap taken_of c.self.view_is in (
      take c.in-Some.count ahead,
      (
        found.1,
        sym bytes ∙ range_at_feed u.block u.start u.«end» c.in-Some.count (omega arith) found.0 found.2,
        omega (arith, taken, found.0, length-take c.in-Some.count ahead),
      ),
      c.append_bounded_bytes.ensures,
    )
