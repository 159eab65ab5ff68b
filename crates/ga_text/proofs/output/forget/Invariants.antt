use Rattle.arrayvec.specs.ArrayVec.{array_vec_len}
use Rattle.ga_text.proofs.output.forget.Given as goal

abbrev pub decreases-blocks-2 : goal.decreases-blocks-2
decreases-blocks-2 l = array_vec_len l.pending
