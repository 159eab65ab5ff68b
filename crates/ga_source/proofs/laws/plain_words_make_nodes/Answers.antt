use Rattle.ga_source.proofs.PlainNodes.{whole_node}
use Rattle.ga_source.proofs.laws.plain_words_make_nodes.Goals as goal

pub returns : goal.returns
returns c = whole_node
