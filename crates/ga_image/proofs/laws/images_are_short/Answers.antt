use Rattle.ga_image.proofs.Room.{short_image}
use Rattle.ga_image.proofs.laws.images_are_short.Goals as goal

pub returns : goal.returns
returns c = λ text chip image. short_image text chip image
