use Rattle.ga_provenance.proofs.Words.{word_kept}
use Rattle.ga_provenance.proofs.laws.moved_values_keep_their_words.Goals as goal

pub returns : goal.returns
returns c s value whole within is sizes apart = word_kept s value whole within is sizes apart
