use Rattle.ga_image.proofs.Meanings.{image_read}
use Rattle.ga_image.proofs.Found.{image_found}
use Rattle.ga_image.proofs.FirstFaults.{first_refused, refused_first}
use Rattle.ga_image.proofs.laws.reader_agrees_with_grammar.Goals as goal

pub returns-clause-images : goal.returns-clause-images
returns-clause-images c = λ texts chip. (image_read texts chip, image_found texts chip)

pub returns-clause-faults : goal.returns-clause-faults
returns-clause-faults c = λ texts fault. (first_refused texts fault, refused_first texts fault)
