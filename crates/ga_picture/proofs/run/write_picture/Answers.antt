use Rattle.std.proofs.Common.{subst, inl}
use Rattle.std.specs.Prelude.{string_bytes}
use Rattle.ga_picture.specs.Following.{IsPictureOutput}
use Rattle.ga_picture.proofs.run.write_picture.Goals as goal

pub returns-in-Ok : goal.returns-in-Ok
returns-in-Ok g c = λ before at.
    let w = c.write_out.ensures before at in
    (w.0, w.1, inl (string_bytes c.in-Ok.text, c.in-Ok.ensures.ok, subst (λ z. IsPictureOutput z w.0 c.write_out.result) c.as_bytes.ensures.value w.2))
