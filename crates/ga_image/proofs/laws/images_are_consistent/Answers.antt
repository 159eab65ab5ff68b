use Rattle.ga_image.proofs.ReadSteady.{images_steady}
use Rattle.ga_image.proofs.laws.images_are_consistent.Goals as goal

pub returns : goal.returns
returns c = λ texts chip image. images_steady texts chip image
