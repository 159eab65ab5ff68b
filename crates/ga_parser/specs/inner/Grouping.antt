-- What code that groups nodes says comes before a word.
use Rattle.ga_parser.specs.declared.groups.Naming.{Naming}
use Rattle.ga_parser.specs.declared.groups.Naming.TheVariants.{Nothing as NothingIn, Node as NodeIn, Name as NameIn}
use Rattle.ga_parser.specs.Groups.{NodeNamingProgress}
use Rattle.ga_parser.specs.Groups.NodeNamingProgress.{Nothing, Node, Name}
use Rattle.ga_parser.specs.inner.Placing.{placed}

abbrev pub node_naming_of_parser : Naming → NodeNamingProgress
node_naming_of_parser NothingIn = Nothing
node_naming_of_parser (NodeIn node) = Node (placed node)
node_naming_of_parser (NameIn node) = Name (placed node)
